-- Steps 1 to 6 do as the cases expect.
use mathlib.Core.Path.{refl}
use Rattle.cases.specs.StepCases.{steps, StepsShown, parameter_ranges, ParameterRanges, length_ranges}
use Rattle.cases.specs.StepCases.{LengthRanges}
use Rattle.cases.proofs.Rules.{rules}

pub steps_shown : StepsShown
unfolding rules steps
steps_shown = refl

pub parameter_ranges_lem : ParameterRanges
unfolding rules parameter_ranges
parameter_ranges_lem = refl

pub length_ranges_lem : LengthRanges
unfolding rules length_ranges
length_ranges_lem = refl
