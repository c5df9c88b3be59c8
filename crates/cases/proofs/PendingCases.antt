-- What drops the held answer and the chain, and data by Le: as the cases expect.
use mathlib.Core.Path.{refl}
use Rattle.cases.specs.PendingCases.{dropping, keeping, PendingShown, giving, GivingShown}
use Rattle.cases.proofs.Rules.{rules}

pub pending_shown : PendingShown
unfolding rules dropping keeping
pending_shown = record { dropped = refl; kept = refl }

pub giving_shown : GivingShown
unfolding rules giving
giving_shown = refl
