-- A string cut at a prefix, and the length of what is left.
use mathlib.Core.Path.{◌≡◌, refl, ap}
use mathlib.Core.Bool.{Bool, true, false, ◌&&◌}
use mathlib.Core.List.{[], ◌∷◌}
use Prim.Native.Nat.{ℕ, ◌+◌}
use lib.Dec.{eqb}
use lib.ListN.{length, take, drop}
use denote.Ref.{Bor}
use Rattle.std.specs.Prelude.{Option, Some, None, MatchOption}
use native.Mathlib.Omega.{arith}
use Rattle.std.specs.Cmp.Lexicographic.{pointwise}
use Rattle.octets.specs.Octets.{Bytes, same}
use Rattle.rules.specs.Digests.{prefixed}

alike : (a b : Bytes) → pointwise eqb a b ≡ same a b
alike [] [] = refl
alike [] (y ∷ ys) = refl
alike (x ∷ xs) [] = refl
alike (x ∷ xs) (y ∷ ys) = ap (λ t. eqb x y && t) (alike xs ys)

module _ (prefix : Bytes) (n : ℕ) (d : Bytes) where
  abbrev Begins : Bool → Type 0
  Begins b = pointwise eqb (take (length prefix) d) prefix ≡ b

  -- What is left of a string without a prefix, if it begins with it, and a test of its length.
  pub stripped : (r : Option (Bor Bytes)) (b : Bool) → MatchOption r (Begins false) (λ x. Begins true × (x.now ≡ drop (length prefix) d) × (length x.now + length prefix ≡ length d))
      → (r ≡ None → b ≡ false) → ((x : Bor Bytes) → r ≡ Some x → b ≡ eqb (length x.now) n) → b ≡ prefixed prefix n d
  unfolding prefixed
  stripped None b h none some = rw (none refl, ← alike (take (length prefix) d) prefix, h)
  stripped (Some x) b h none some = rw (some x refl, ← alike (take (length prefix) d) prefix, h.0, ← h.2) (grind arith)
