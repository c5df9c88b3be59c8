-- Laws of strings of bytes.
use mathlib.Core.Path.{◌≡◌, refl, sym, ap}
use mathlib.Core.Bool.{Bool, true, false≢true}
use mathlib.Core.List.{[], ◌∷◌, ◌++◌}
use Prim.Native.Nat.{ℕ, zero, suc, ◌-◌, ◌≤◌}
use native.Mathlib.Omega.{arith}
use lib.Dec.{eqb}
use lib.ListN.{length, take, drop, replicate, length-append, length-replicate, length-take, length-drop}
use lib.Seq.{take-append_seam, drop-append_seam, take_all, take-nil}
use borrow.Author.Tests.{eq-eqb, eqb-true}
use Rattle.octets.specs.Octets.{Bytes, same, all, all_zero, blank, filled}
use Rattle.octets.proofs.Tests.{and_left, and_right}

pub same_refl : (d : Bytes) → same d d ≡ true
same_refl [] = refl
same_refl (x ∷ xs) = rw (eq-eqb x x refl) (same_refl xs)

pub same_equal : (a b : Bytes) → same a b ≡ true → a ≡ b
same_equal [] [] e = refl
same_equal [] (y ∷ b) e = absurd (false≢true e)
same_equal (x ∷ a) [] e = absurd (false≢true e)
same_equal (x ∷ a) (y ∷ b) e =
    let head : x ≡ y = eqb-true x y (and_left (eqb x y) (same a b) e) in
    let tail : a ≡ b = same_equal a b (and_right (eqb x y) (same a b) e) in
    cc

pub all_append : (t : ℕ → Bool) (a b : Bytes) → all t a ≡ true → all t b ≡ true → all t (a ++ b) ≡ true
all_append t [] b p q = q
all_append t (x ∷ a) b p q = rw (and_left (t x) (all t a) p) (all_append t a b (and_right (t x) (all t a) p) q)

pub all_right : (t : ℕ → Bool) (a b : Bytes) → all t (a ++ b) ≡ true → all t b ≡ true
all_right t [] b e = e
all_right t (x ∷ a) b e = all_right t a b (and_right (t x) (all t (a ++ b)) e)

pub all_take : (t : ℕ → Bool) (n : ℕ) (d : Bytes) → all t d ≡ true → all t (take n d) ≡ true
all_take t zero d e = refl
all_take t (suc n) [] e = refl
all_take t (suc n) (x ∷ d) e = rw (and_left (t x) (all t d) e) (all_take t n d (and_right (t x) (all t d) e))

pub zeros_replicate : (n : ℕ) → all_zero (replicate n 0) ≡ true
zeros_replicate zero = refl
zeros_replicate (suc n) = zeros_replicate n

pub zeros_blank : (d : Bytes) → all_zero d ≡ true → d ≡ blank (length d)
unfolding blank
zeros_blank [] e = refl
zeros_blank (x ∷ d) e =
    rw (eqb-true x 0 (and_left (eqb x 0) (all_zero d) e)) (ap (λ (l : Bytes). 0 ∷ l) (zeros_blank d (and_right (eqb x 0) (all_zero d) e)))

module _ (n : ℕ) (d : Bytes) (h : length d ≤ n) where
  pub length_filled : length (filled n d) ≡ n
  unfolding filled blank
  length_filled = simp (length-append, length-replicate) (omega arith)

  pub take_filled : take (length d) (filled n d) ≡ d
  unfolding filled
  take_filled = take-append_seam d (blank (n - length d))

  pub rest_filled : all_zero (drop (length d) (filled n d)) ≡ true
  unfolding filled blank
  rest_filled = rw (drop-append_seam d (replicate (n - length d) 0)) (zeros_replicate (n - length d))

-- All that stands after a place.
pub take_rest : (b : Bytes) (at : ℕ) → take (length b) (drop at b) ≡ drop at b
take_rest b at = take_all (length b) (drop at b) (omega (arith, length-drop at b))

-- What was taken once.
pub take_twice : (n : ℕ) (b : Bytes) → take n (take n b) ≡ take n b
take_twice n b = take_all n (take n b) (omega (arith, length-take n b))

-- The shorter of two beginnings, taken either way round.
pub take_swap : (m n : ℕ) (b : Bytes) → take m (take n b) ≡ take n (take m b)
take_swap zero n b = sym (take-nil n)
take_swap (suc m) zero b = refl
take_swap (suc m) (suc n) [] = refl
take_swap (suc m) (suc n) (x ∷ b) = ap (λ (l : Bytes). x ∷ l) (take_swap m n b)
