-- Laws of lists and of numbers that tell where a string ends: a string behind its own length, and a length within its limits.
use mathlib.Core.Path.{◌≡◌}
use mathlib.Core.Bool.{true, ◌&&◌}
use mathlib.Core.List.{◌∷◌, ◌++◌}
use Prim.Native.Nat.{ℕ, suc, ◌≤◌}
use native.Mathlib.Numerals.{add-one}
use lib.Dec.{leb}
use lib.ListN.{length, drop}
use lib.Seq.{get_or-append_seam, drop-append-add}
use borrow.Author.Tests.{leb-true}
use Rattle.octets.specs.Octets.{Bytes, byte_at}
use Rattle.octets.proofs.Tests.{and_left, and_right}

-- A number that passed the tests of two limits.
pub between : (low n high : ℕ) → (leb low n && leb n high) ≡ true → (low ≤ n) × (n ≤ high)
between low n high e = (leb-true low n (and_left _ (leb n high) e), leb-true n high (and_right (leb low n) _ e))

-- A string behind its own length: the byte after it, and the bytes after that one.
module _ (b d : Bytes) (x : ℕ) (rest : Bytes) (e : b ≡ length d ∷ (d ++ x ∷ rest)) where
  pub byte_after : byte_at b (suc (byte_at b 0)) ≡ x
  byte_after = rw e (get_or-append_seam d x rest 0)

  pub rest_after : drop (suc (suc (byte_at b 0))) b ≡ rest
  rest_after = rw e (rw add-one at (drop-append-add d (x ∷ rest) 1))
