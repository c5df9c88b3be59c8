-- Laws of places in a string or a list.
use mathlib.Core.Path.{◌≡◌, refl}
use mathlib.Core.Bool.{true}
use mathlib.Core.List.{List, [], ◌∷◌}
use Prim.Native.Nat.{ℕ, zero, suc, ◌<◌}
use native.Mathlib.Omega.{arith}
use lib.Dec.{ltb}
use lib.ListN.{length, get_or, set}
use lib.Seq.{get_or-set_same, get_or-set_other}
use borrow.Author.Tests.{ltb-true, lt-ltb}
use Rattle.octets.specs.Octets.{Bytes, byte_at, all_bytes}
use Rattle.octets.proofs.Tests.{either, and_left, and_right}

-- A byte of a string of bytes, or the 0 past its end.
pub byte_below : (b : Bytes) (i : ℕ) → all_bytes b ≡ true → byte_at b i < 256
byte_below [] i e = omega arith
byte_below (x ∷ xs) zero e = ltb-true x 256 (and_left (ltb x 256) (all_bytes xs) e)
byte_below (x ∷ xs) (suc i) e = byte_below xs i (and_right (ltb x 256) (all_bytes xs) e)

-- Where every place holds a byte, the string is one of bytes.
pub all_bytes_lem : (b : Bytes) → ((i : ℕ) → byte_at b i < 256) → all_bytes b ≡ true
all_bytes_lem [] h = refl
all_bytes_lem (x ∷ xs) h = rw (lt-ltb x 256 (h 0)) (all_bytes_lem xs (λ i. h (suc i)))

-- After the element in place j was replaced: what holds of the new one, and of the old one in place i, holds of the one in place i.
pub each_place : {A : Type 0} (P : ℕ → A → Type 0) (l : List A) (j : ℕ) (v d : A) → j < length l → P j v
    → (i : ℕ) → P i (get_or l i d) → P i (get_or (set l j v) i d)
each_place P l j v d h p i q = either _ i j
    (λ e. rw e (rw (get_or-set_same l j v d h) p))
    (λ n. rw (get_or-set_other l j i v d n) q)
