-- The program rewrite_image (document 02, wish 3): "reads an image from standard input and writes it again, or the load number in decimal and a
-- line end".
use Rattle.std.specs.Prelude.{ℕ, ◌+◌, ◌/◌, ◌%◌, ◌≤◌, ◌≡◌, true, cond, [], ◌∷◌, take, eqb}
use Rattle.octets.specs.Octets.{Bytes, all_bytes}
use Rattle.rules.specs.Image.{load}
use Rattle.rules.specs.Writer.{image_of}

-- A load number, which has two digits, and a line end.
abbrev pub number_text : ℕ → Bytes
number_text n = (0x30 + n / 10) ∷ (0x30 + n % 10) ∷ 0x0A ∷ []

-- What the program writes for an image.
unfoldable pub rewritten : Bytes → Bytes
rewritten image = cond (eqb (load image).0 0) (image_of (load image).1) (number_text (load image).0)

-- The same image where it loads, else its number. What stands past the first 1,119 bytes changes nothing, so no more need be read.
pub record Rewrites : Type 0 where
  pub same : (image : Bytes) → all_bytes image ≡ true → (load image).0 ≡ 0 → rewritten image ≡ image
  pub number : (image : Bytes) → ¬ ((load image).0 ≡ 0) → rewritten image ≡ number_text (load image).0
  pub enough : (n : ℕ) (image : Bytes) → 1119 ≤ n → rewritten (take n image) ≡ rewritten image
