-- The kind of a job that a number stands for: 1 and 2 as they are, and 3 for any other.
use Rattle.std.specs.Prelude.{ℕ, cond, eqb}

unfoldable pub kind_in : ℕ → ℕ
kind_in number =
    cond (eqb number 1) 1
    (cond (eqb number 2) 2
    3)
