-- Laws of folds over strings that look at every byte, in the words of specs/.
use Rattle.std.proofs.Common.{◌≡◌, ℕ, Bool, ◌&&◌, [], ◌∷◌, length, sym, arith}
use Rattle.std.specs.List.{fold, zip}
use mathlib.Core.Bool.{and_assoc, and-true}
use lib.Dec.{eqb}
use Rattle.octets.specs.Octets.{Bytes, same, all}

-- A test of every byte; b tells of the bytes before.
pub all_fold : (t : ℕ → Bool) (s : Bytes) (b : Bool) → fold (λ a x. a && t x) b s ≡ (b && all t s)
all_fold t [] b = sym (and-true b)
all_fold t (x ∷ s) b = rw (all_fold t s (b && t x), and_assoc)

-- Two strings side by side; k tells of the bytes before.
pub same_fold : (a b : Bytes) (k : Bool) → length a ≡ length b → fold (λ a p. a && eqb p.0 p.1) k (zip a b) ≡ (k && same a b)
same_fold [] [] k e = sym (and-true k)
same_fold [] (y ∷ b) k e = absurd (omega arith)
same_fold (x ∷ a) [] k e = absurd (omega arith)
same_fold (x ∷ a) (y ∷ b) k e = rw (same_fold a b (k && eqb x y) (omega arith), and_assoc)
