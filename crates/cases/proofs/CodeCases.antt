-- VERIFY and CHANGE do as the cases expect.
use mathlib.Core.Path.{refl}
use Rattle.cases.specs.CodeCases.{codes, CodesShown}
use Rattle.cases.proofs.Rules.{rules}

pub codes_shown : CodesShown
unfolding rules codes
codes_shown = refl
