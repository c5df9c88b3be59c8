-- After j turns the first j bytes are in their places.
use mathlib.Core.Path.{◌≡◌}
use lib.ListN.{length}
use lib.Seq.{paste}
use Rattle.hexadecimal.specs.Hex.{bytes_of}
use Rattle.hexadecimal.proofs.bytes_of.Given as goal

abbrev pub invariant-loop-j : goal.invariant-loop-j
invariant-loop-j l =
    (length l.place-items ≡ length l.initial.place-items) × (l.place-items ≡ paste l.initial.place-items 0 (bytes_of l.s) l.j)
