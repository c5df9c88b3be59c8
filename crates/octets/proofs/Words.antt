-- Laws of the strings and words of an exchange: digits are bytes, strings of unlike length differ, a word by its two bytes.
use mathlib.Core.Path.{◌≡◌, refl, ap}
use mathlib.Core.Logic.{◌≢◌}
use mathlib.Core.Bool.{true, false, and-false}
use mathlib.Core.List.{[], ◌∷◌}
use Prim.Native.Nat.{ℕ, suc, ◌≤◌, ◌<◌, ◌/◌, ◌%◌}
use native.Mathlib.Nat.{div-add-mod'}
use native.Mathlib.Omega.{arith}
use lib.Dec.{eqb, leb, ltb}
use lib.ListN.{length}
use borrow.Author.Tests.{leb-true, ltb-true, lt-ltb}
use Rattle.octets.specs.Octets.{Bytes, word, same, digit, all_digits, all_bytes}
use Rattle.octets.proofs.Tests.{and_left, and_right}

-- A string of digits is one of bytes.
pub digits_bytes : (d : Bytes) → all_digits d ≡ true → all_bytes d ≡ true
digits_bytes [] e = refl
digits_bytes (x ∷ d) e =
    let small : x ≤ 0x39 = leb-true x 0x39 (and_right (leb 0x30 x) _ (and_left (digit x) (all_digits d) e)) in
    rw (lt-ltb x 256 (omega arith)) (digits_bytes d (and_right (digit x) (all_digits d) e))

-- Strings of unlike length are not the same.
pub unlike_length : (a b : Bytes) → length a ≢ length b → same a b ≡ false
unlike_length [] [] n = absurd (n refl)
unlike_length [] (y ∷ b) n = refl
unlike_length (x ∷ a) [] n = refl
unlike_length (x ∷ a) (y ∷ b) n = rw (unlike_length a b (λ e. n (ap suc e))) (and-false (eqb x y))

-- A number is the word of its high and its low byte.
pub word_of_halves : (n : ℕ) → word (n / 256) (n % 256) ≡ n
word_of_halves n = div-add-mod' n 256

-- Two bytes are the halves of their word.
pub halves_of_word : (high low : ℕ) (rest : Bytes) → all_bytes (high ∷ low ∷ rest) ≡ true
    → high ∷ low ∷ rest ≡ (word high low / 256) ∷ (word high low % 256) ∷ rest
halves_of_word high low rest e =
    let small : low < 256 = ltb-true low 256 (and_left (ltb low 256) (all_bytes rest) (and_right (ltb high 256) _ e)) in
    let upper : word high low / 256 ≡ high = omega arith in
    let lower : word high low % 256 ≡ low = omega arith in
    rw (upper, lower)
