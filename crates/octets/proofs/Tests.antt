-- Laws of tests: a choice by its test, conjunctions taken apart, equal or not.
use mathlib.Core.Path.{◌≡◌, refl, sym, ◌∙◌}
use mathlib.Core.Logic.{◌≢◌}
use mathlib.Core.Bool.{Bool, true, false, cond, ◌&&◌, ◌||◌, false≢true, or-true}
use mathlib.Core.List.{List, [], ◌∷◌, map}
use Prim.Native.Nat.{ℕ, zero, suc, ◌<◌}
use native.Mathlib.Omega.{arith}
use lib.Dec.{eqb}
use lib.ListN.{length, get_or}
use borrow.Author.Tests.{eqb-true, eqb-false}
use Rattle.octets.specs.Octets.{every, any}

-- What holds of both sides of a choice, with what the test says, holds of the choice.
pub split : {A : Type 0} (P : A → Type 0) (t : Bool) {x y : A} → (t ≡ true → P x) → (t ≡ false → P y) → P (cond t x y)
split P true h g = h refl
split P false h g = g refl

-- By the value of a test.
pub by_test : (P : Type 0) (t : Bool) → (t ≡ true → P) → (t ≡ false → P) → P
by_test P true h g = h refl
by_test P false h g = g refl

-- Two numbers are equal or not.
pub either : (P : Type 0) (k j : ℕ) → (k ≡ j → P) → (k ≢ j → P) → P
either P k j h g = by_test P (eqb k j) (λ e. h (eqb-true k j e)) (λ e. g (eqb-false k j e))

pub and_left : (s t : Bool) → (s && t) ≡ true → s ≡ true
and_left true t e = refl
and_left false t e = e

pub and_right : (s t : Bool) → (s && t) ≡ true → t ≡ true
and_right true t e = e
and_right false t e = absurd (false≢true e)

-- A test that is false is not true.
pub never : {A : Type 0} {t : Bool} → t ≡ false → t ≡ true → A
never f e = absurd (false≢true (sym f ∙ e))

-- One of two tests.
pub or_cases : (P : Type 0) (s t : Bool) → (s || t) ≡ true → (s ≡ true → P) → (t ≡ true → P) → P
or_cases P true t e h g = h refl
or_cases P false t e h g = g e

-- Neither of two tests.
pub neither : (s t : Bool) → (s || t) ≡ false → (s ≡ false) × (t ≡ false)
neither true t e = absurd (false≢true (sym e))
neither false t e = (refl, e)

-- The test at a place of a list of tests that are all true.
pub nth : (ts : List Bool) (i : ℕ) → every ts ≡ true → get_or ts i true ≡ true
nth [] i e = refl
nth (t ∷ ts) zero e = and_left t (every ts) e
nth (t ∷ ts) (suc i) e = nth ts i (and_right t (every ts) e)

-- A test that is true of every element of a list is true of the one at a place.
pub at_each : {A : Type 0} (test : A → Bool) (l : List A) (i : ℕ) (d : A) → every (map test l) ≡ true → i < length l → test (get_or l i d) ≡ true
at_each test [] i d e h = absurd (omega arith)
at_each test (x ∷ l) zero d e h = and_left (test x) (every (map test l)) e
at_each test (x ∷ l) (suc i) d e h = at_each test l i d (and_right (test x) (every (map test l)) e) (omega arith)

-- A test is true of one element of a list or more exactly where it is true at a place.
pub any_at : {A : Type 0} (test : A → Bool) (l : List A) (i : ℕ) (d : A) → i < length l → test (get_or l i d) ≡ true → any (map test l) ≡ true
any_at test [] i d h e = absurd (omega arith)
any_at test (x ∷ l) zero d h e = rw e
any_at test (x ∷ l) (suc i) d h e = rw (any_at test l i d (omega arith) e, or-true)

pub any_place : {A : Type 0} (test : A → Bool) (l : List A) (d : A) → any (map test l) ≡ true
    → (i : ℕ) × (i < length l) × (test (get_or l i d) ≡ true)
any_place test [] d e = absurd (false≢true e)
any_place test (x ∷ l) d e =
    or_cases ((i : ℕ) × (i < suc (length l)) × (test (get_or (x ∷ l) i d) ≡ true)) (test x) (any (map test l)) e
    (λ here. (0, omega arith, here))
    (λ there. let p = any_place test l d there in (suc p.0, omega (arith, p.1), p.2))

-- The numbers below three.
pub below_three : (P : ℕ → Type 0) → P 0 → P 1 → P 2 → (k : ℕ) → k < 3 → P k
below_three P a b c zero h = a
below_three P a b c (suc zero) h = b
below_three P a b c (suc (suc zero)) h = c
below_three P a b c (suc (suc (suc k))) h = absurd (omega arith)
