-- The second image loads as the second card.
use mathlib.Core.Path.{refl}
use Rattle.cases.specs.SecondCard.{SecondLoads}
use Rattle.cases.proofs.Rules.{rules}

pub second_loads : SecondLoads
unfolding rules
second_loads = refl
