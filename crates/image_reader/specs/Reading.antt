-- What stands at a place of an image, and the place after it.
use Rattle.std.specs.Prelude.{ℕ, ◌+◌, cond, List, [], ◌∷◌, length, ltb, Option, Some, None}

-- What each case says: a byte stands there, or nothing.
abbrev pub standing : Option ℕ → List ℕ
standing (Some x) = x ∷ []
standing None = []

-- The place after the byte at a place; at the end the place stays.
unfoldable pub place_after : List ℕ → ℕ → ℕ
place_after image at = cond (ltb at (length image)) (at + 1) at
