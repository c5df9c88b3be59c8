-- CHANGE opens its code, and RESET RETRY none, as the cases expect.
use mathlib.Core.Path.{refl}
use Rattle.cases.specs.ChangeCases.{changes, ChangesShown}
use Rattle.cases.proofs.Rules.{rules}

pub changes_shown : ChangesShown
unfolding rules changes
changes_shown = record { runs = refl; sample = refl; second = refl }
