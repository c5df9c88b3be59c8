-- Key numbers read into four marks, as the code keeps them.
use Rattle.std.specs.Prelude.{ℕ, Bool, false, ◌||◌, List, [], ◌∷◌, get_or, eqb}
use Rattle.rules.specs.Image.{Reading, ◌>>=◌, pure, read_keys, key_marks}

-- Four marks, with that of a key put on.
unfoldable pub with_mark : List Bool → ℕ → List Bool
with_mark marks key =
    (get_or marks 0 false || eqb key 0x0100)
    ∷ (get_or marks 1 false || eqb key 0x0200)
    ∷ (get_or marks 2 false || eqb key 0x1100)
    ∷ (get_or marks 3 false || eqb key 0x1200)
    ∷ []

-- The marks of n key numbers.
unfoldable pub marked_keys : ℕ → Reading (List Bool)
marked_keys n = do
  keys ← read_keys n 0
  pure (key_marks keys)
