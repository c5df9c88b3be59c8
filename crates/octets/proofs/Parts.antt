-- Laws of a string, and a word after it, written to the front of a buffer.
use mathlib.Core.Path.{◌≡◌, refl}
use mathlib.Core.List.{[], ◌∷◌, ◌++◌, append_assoc}
use Prim.Native.Nat.{ℕ, ◌+◌, ◌≤◌}
use native.Mathlib.Nat.{zero-add}
use native.Mathlib.Omega.{arith}
use lib.ListN.{length, drop, set, length-append}
use Rattle.octets.specs.Octets.{Bytes, pasted}
use Rattle.octets.proofs.Pasting.{then_byte, then_string}

module _ (buffer s : Bytes) where
  pub string_in_front : length s ≤ length buffer → pasted buffer 0 s ≡ s ++ drop (length s) buffer
  string_in_front h = then_string buffer [] 0 refl (length s) h s (zero-add (length s))

  pub string_then_two_bytes : (x y : ℕ) → length s + 2 ≤ length buffer
      → set (set (pasted buffer 0 s) (length s) x) (length s + 1) y ≡ s ++ x ∷ y ∷ drop (length s + 2) buffer
  string_then_two_bytes x y h =
      let one : length (s ++ x ∷ []) ≡ length s + 1 = length-append s (x ∷ []) in
      rw (
        string_in_front (omega arith),
        then_byte buffer s (length s) refl (length s + 1) (omega arith) x refl,
        then_byte buffer (s ++ x ∷ []) (length s + 1) one (length s + 2) (omega arith) y (omega arith),
      )
      (simp append_assoc)
