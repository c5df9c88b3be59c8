-- What is read at a place is the byte there, or nothing.
use Rattle.std.proofs.Common.{◌≡◌, ℕ, zero, suc, ◌+◌, ◌≤◌, List, [], ◌∷◌, length, take, drop, slice_get, refl, arith}
use Rattle.std.specs.Prelude.{Option, Some, None}
use Rattle.std.proofs.lemmas.Option.{slice_get_within}
use borrow.Author.Tests.{lt-ltb, le-ltb}
use Rattle.image_reader.specs.Reading.{standing, place_after}

pub stands : (image : List ℕ) (at : ℕ) → standing (slice_get image at) ≡ take 1 (drop at image)
stands [] zero = refl
stands [] (suc i) = refl
stands (x ∷ xs) zero = refl
stands (x ∷ xs) (suc i) = stands xs i

past : (image : List ℕ) (at : ℕ) → slice_get image at ≡ None → length image ≤ at
past [] i e = omega arith
past (x ∷ xs) zero e = cc
past (x ∷ xs) (suc i) e = omega (arith, past xs i e)

pub read_some : (image : List ℕ) (at x : ℕ) → slice_get image at ≡ Some x → ◌≡◌ {A = List ℕ × ℕ} (x ∷ [], at + 1) (take 1 (drop at image), place_after image at)
unfolding place_after
read_some image at x e = rw (← stands image at, e, lt-ltb at (length image) (slice_get_within image at x e))

pub read_none : (image : List ℕ) (at : ℕ) → slice_get image at ≡ None → ◌≡◌ {A = List ℕ × ℕ} ([], at) (take 1 (drop at image), place_after image at)
unfolding place_after
read_none image at e = rw (← stands image at, e, le-ltb at (length image) (past image at e))

-- It loses nothing.
pub standing_tells : (a b : Option ℕ) → standing a ≡ standing b → a ≡ b
standing_tells (Some x) (Some y) e = cc
standing_tells (Some x) None e = cc
standing_tells None (Some y) e = cc
standing_tells None None e = refl
