-- The numbers are the papers'.
use mathlib.Core.Path.{refl}
use Rattle.cases.specs.NumberCases.{NumbersShown}

pub numbers_shown : NumbersShown
numbers_shown = record {
  kinds = refl;
  refusals = refl;
  faults = refl;
  loads = refl;
  replies = refl;
  writes = refl;
  forms = refl;
  named = refl;
}
