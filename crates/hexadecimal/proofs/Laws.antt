-- Laws of hex.
use mathlib.Core.Path.{◌≡◌, refl, sym, ap, ◌∙◌}
use mathlib.Core.Logic.{◌≢◌}
use mathlib.Core.Bool.{true, ◌&&◌}
use mathlib.Core.List.{[], ◌∷◌, ◌++◌, append-nil}
use Prim.Native.Nat.{ℕ, zero, suc, ◌+◌, ◌*◌, ◌/◌, ◌%◌, ◌≤◌, ◌<◌, min}
use native.Mathlib.Nat.{zero-add, not-suc-le-zero}
use native.Mathlib.Numerals.{add-one}
use native.Mathlib.Omega.{arith}
use lib.Dec.{leb}
use lib.ListN.{length, set, take, drop, length-take, drop_of_length-le}
use lib.Seq.{paste, paste-suc}
use borrow.Author.Tests.{lt-ltb}
use Rattle.octets.specs.Octets.{Bytes, byte_at, all_bytes, pasted}
use Rattle.octets.proofs.Pasting.{paste_fitting}
use Rattle.octets.proofs.Tests.{split}
use Rattle.octets.proofs.Lists.{between}
use Rattle.hexadecimal.specs.Hex.{hex_value, hex_character, bytes_of, hex_of}

-- The value of a hex digit is below 16.
pub hex_value_small : (x : ℕ) → hex_value x < 16
unfolding hex_value
hex_value_small x =
    split (λ v. v < 16) (leb 0x30 x && leb x 0x39)
    (λ e. omega (arith, between 0x30 x 0x39 e))
    (λ _. split (λ v. v < 16) (leb 0x41 x && leb x 0x46)
    (λ e. omega (arith, between 0x41 x 0x46 e))
    (λ _. omega arith))

-- Hex digits say bytes.
pub bytes_of_bytes : (s : Bytes) → all_bytes (bytes_of s) ≡ true
bytes_of_bytes [] = refl
bytes_of_bytes (h ∷ []) = refl
bytes_of_bytes (h ∷ l ∷ s) =
    let byte : hex_value h * 16 + hex_value l < 256 = omega (arith, hex_value_small h, hex_value_small l) in
    rw (lt-ltb _ 256 byte) (bytes_of_bytes s)

-- Each byte has two hex digits; one digit may be left over.
pub length_pairs : (s : Bytes) → (length (bytes_of s) + length (bytes_of s) ≤ length s) × (length s ≤ length (bytes_of s) + length (bytes_of s) + 1)
length_pairs [] = omega arith
length_pairs (h ∷ []) = omega arith
length_pairs (h ∷ l ∷ s) = omega (arith, length_pairs s)

pub length_bytes_of : (s : Bytes) → length (bytes_of s) ≡ length s / 2
length_bytes_of s = omega (arith, length_pairs s)

pub length_hex_of : (s : Bytes) → length (hex_of s) ≡ length s + length s
length_hex_of [] = refl
length_hex_of (x ∷ s) = omega (arith, length_hex_of s)

double : (j : ℕ) → suc j + suc j ≡ suc (suc (j + j))
double j = omega arith

-- The byte of two hex digits.
pub byte_at_bytes_of : (s : Bytes) (j : ℕ) → suc (j + j) < length s
    → byte_at (bytes_of s) j ≡ hex_value (byte_at s (j + j)) * 16 + hex_value (byte_at s (suc (j + j)))
byte_at_bytes_of [] j h = absurd (not-suc-le-zero h)
byte_at_bytes_of (x ∷ []) j h = absurd (omega arith)
byte_at_bytes_of (x ∷ y ∷ s) zero h = refl
byte_at_bytes_of (x ∷ y ∷ s) (suc j) h = rw double (byte_at_bytes_of s j (omega arith))

-- The two hex digits of a byte.
pub byte_at_hex_of_high : (s : Bytes) (j : ℕ) → j < length s → byte_at (hex_of s) (j + j) ≡ hex_character (byte_at s j / 16)
byte_at_hex_of_high [] j h = absurd (not-suc-le-zero h)
byte_at_hex_of_high (x ∷ s) zero h = refl
byte_at_hex_of_high (x ∷ s) (suc j) h = rw double (byte_at_hex_of_high s j (omega arith))

pub byte_at_hex_of_low : (s : Bytes) (j : ℕ) → j < length s → byte_at (hex_of s) (suc (j + j)) ≡ hex_character (byte_at s j % 16)
byte_at_hex_of_low [] j h = absurd (not-suc-le-zero h)
byte_at_hex_of_low (x ∷ s) zero h = refl
byte_at_hex_of_low (x ∷ s) (suc j) h = rw double (byte_at_hex_of_low s j (omega arith))

-- The digit in any place of a hex text, of a string whose bytes are below 256.
module _ (s : Bytes) (i : ℕ) (h : i < length (hex_of s)) (small : byte_at s (i / 2) < 256) where
  inside : i / 2 < length s
  inside = omega (arith, length_hex_of s)

  pub digit_high : i % 2 ≡ 0 → hex_character (byte_at s (i / 2) / 16 % 16) ≡ byte_at (hex_of s) i
  digit_high e =
      let half : byte_at s (i / 2) / 16 % 16 ≡ byte_at s (i / 2) / 16 = omega arith in
      let twice : i ≡ i / 2 + i / 2 = omega arith in
      rw half (sym (ap (byte_at (hex_of s)) twice ∙ byte_at_hex_of_high s (i / 2) inside))

  pub digit_low : i % 2 ≢ 0 → hex_character (byte_at s (i / 2) % 16) ≡ byte_at (hex_of s) i
  digit_low n =
      let twice : i ≡ suc (i / 2 + i / 2) = omega arith in
      sym (ap (byte_at (hex_of s)) twice ∙ byte_at_hex_of_low s (i / 2) inside)

-- A turn of the loop that writes bytes.
pub byte_more : (dst s : Bytes) (j : ℕ) {x : ℕ} → j < length dst → j < length (bytes_of s)
    → x ≡ hex_value (byte_at s (2 * j)) * 16 + hex_value (byte_at s (2 * j + 1))
    → set (paste dst 0 (bytes_of s) j) j x ≡ paste dst 0 (bytes_of s) (j + 1)
byte_more dst s j {x} h k e =
    let twice : 2 * j ≡ j + j = omega arith in
    let it : byte_at (bytes_of s) j ≡ x = rw (e, twice, add-one) (byte_at_bytes_of s j (omega (arith, length_pairs s))) in
    rw (← it, add-one) (simp zero-add (simp zero-add at (paste-suc dst 0 (bytes_of s) j 0 (omega arith) k)))

-- The front of a string, written over from its first place on, with the rest behind it.
pub front_pasted : (dst src : Bytes) (n : ℕ) → n ≡ min (length src) (length dst) → paste (take n dst) 0 src n ++ drop n dst ≡ pasted dst 0 src
front_pasted dst src n e =
    let none : drop n (take n dst) ≡ [] = drop_of_length-le (take n dst) {i = n} (omega (arith, length-take n dst)) in
    rw (zero-add n, none, append-nil (take n src)) (rw zero-add at (paste_fitting dst 0 src n (omega arith)))

-- One more digit in its place.
pub digit_more : (dst src : Bytes) (j : ℕ) {x : ℕ} → j < length dst → j < length src → x ≡ byte_at src j
    → set (paste dst 0 src j) j x ≡ paste dst 0 src (j + 1)
digit_more dst src j h k e = rw (e, add-one) (simp zero-add (simp zero-add at (paste-suc dst 0 src j 0 (omega arith) k)))

-- A string written over from its first place to its end.
pub whole_pasted : (dst src : Bytes) (n : ℕ) → length dst ≡ n → paste dst 0 src n ≡ take n src
whole_pasted dst src n e =
    let none : drop n dst ≡ [] = drop_of_length-le dst {i = n} (omega arith) in
    rw (zero-add n, none, append-nil (take n src))
