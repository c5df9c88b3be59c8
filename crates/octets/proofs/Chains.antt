-- Laws of strings in room of a stated size: one behind another, one that fills its room, and one read back.
use mathlib.Core.Path.{◌≡◌}
use mathlib.Core.List.{◌++◌, append_assoc, append-nil}
use Prim.Native.Nat.{ℕ, ◌+◌, ◌-◌, ◌≤◌}
use native.Mathlib.Omega.{arith}
use lib.ListN.{length, take, length-append, length-take}
use lib.Seq.{take_all, take-append_seam, take-append-add, drop-append-add}
use Rattle.octets.specs.Octets.{Bytes, blank, filled, pasted}
use Rattle.octets.proofs.Pasting.{length_blank, drop_zeros}
use Rattle.octets.proofs.Strings.{take_filled}

-- Behind a string in room of n bytes, as much of another as fits.
pub filled_behind : (n : ℕ) (a d : Bytes) → length a ≤ n → pasted (filled n a) (length a) d ≡ filled n (take n (a ++ d))
unfolding pasted filled
filled_behind n a d h =
    let size : length (a ++ blank (n - length a)) ≡ n = simp (length-append, length_blank) (omega arith) in
    let room : length a + (n - length a) ≡ n = omega arith in
    let cut : take n (a ++ d) ≡ a ++ take (n - length a) d = rw room at (take-append-add a d (n - length a)) in
    let left : n - length a - length d ≡ n - length (a ++ take (n - length a) d) = simp (length-append, length-take) (omega arith) in
    rw (size, cut, take-append_seam a (blank (n - length a)), drop-append-add a (blank (n - length a)) (length d), drop_zeros (length d) (n - length a), left, append_assoc)

module _ (n : ℕ) (d : Bytes) where
  -- A string that fills its room.
  pub filled_exactly : length d ≡ n → filled n (take n d) ≡ d
  unfolding filled blank
  filled_exactly e =
      let none : n - length d ≡ 0 = omega arith in
      rw (take_all n d (omega arith), none, append-nil d)

  -- A string read back from its room.
  pub filled_back : length d ≤ n → take n (take (length d) (filled n (take n d))) ≡ d
  filled_back h = rw (take_all n d h, take_filled n d h, take_all n d h)
