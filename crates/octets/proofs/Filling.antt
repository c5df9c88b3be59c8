-- Laws of a loop that fills a string of zeros from its front.
use mathlib.Core.Path.{◌≡◌}
use mathlib.Core.List.{◌++◌}
use Prim.Native.Nat.{ℕ, suc, ◌+◌, ◌≤◌, ◌<◌}
use native.Mathlib.Nat.{zero-add}
use native.Mathlib.Numerals.{add-one}
use native.Mathlib.Omega.{arith}
use lib.ListN.{length, take, drop, set, length-take}
use lib.Seq.{paste-suc}
use Rattle.octets.specs.Octets.{Bytes, byte_at, blank, filled}
use Rattle.octets.proofs.Pasting.{length_blank, drop_zeros}

-- A loop that fills n zeros from the front with a string.
module _ (n : ℕ) (src : Bytes) where
  front : (j : ℕ) → j ≤ length src → take j src ++ drop j (blank n) ≡ filled n (take j src)
  unfolding filled
  front j h =
      let size : length (take j src) ≡ j = omega (arith, length-take j src) in
      rw (drop_zeros j n, size)

  pub filled_none : blank n ≡ filled n (take 0 src)
  filled_none = front 0 (omega arith)

  pub filled_more : (j : ℕ) → j < n → j < length src → set (filled n (take j src)) j (byte_at src j) ≡ filled n (take (j + 1) src)
  filled_more j h k =
      let room : 0 + j < length (blank n) = omega (arith, length_blank n) in
      rw (add-one, ← front j (omega arith), ← front (suc j) (omega arith)) (simp zero-add at (paste-suc (blank n) 0 src j 0 room k))
