-- The exchanges of the cases count as expected.
use mathlib.Core.Path.{refl}
use Rattle.cases.specs.CountCases.{tallies, CountsShown}
use Rattle.cases.proofs.Rules.{rules}

pub counts_shown : CountsShown
unfolding rules tallies
counts_shown = record { counts = refl; tries = refl; limits = refl }
