-- After j turns the first j digits are in their places.
use mathlib.Core.Path.{◌≡◌}
use lib.ListN.{length}
use lib.Seq.{paste}
use Rattle.hexadecimal.specs.Hex.{hex_of}
use Rattle.hexadecimal.proofs.hex_at.Given as goal

abbrev pub invariant-loop-j : goal.invariant-loop-j
invariant-loop-j l =
    (length l.place-items ≡ length l.initial.place-items) × (l.place-items ≡ paste l.initial.place-items 0 (hex_of l.s) l.j)
