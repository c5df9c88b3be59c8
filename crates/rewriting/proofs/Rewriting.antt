-- The program's laws follow from those of load and the writer.
use Prim.Native.Nat.{ℕ, ◌≤◌}
use mathlib.Core.Path.{◌≡◌}
use mathlib.Core.Bool.{true}
use lib.ListN.{take}
use borrow.Author.Tests.{ne_eqb}
use Rattle.octets.specs.Octets.{Bytes, all_bytes}
use Rattle.rules.specs.Image.{load}
use Rattle.rules.proofs.ImageLaws.{inverse, first_bytes_law}
use Rattle.rewriting.specs.Rewriting.{number_text, rewritten, Rewrites}

image_same : (image : Bytes) → all_bytes image ≡ true → (load image).0 ≡ 0 → rewritten image ≡ image
unfolding rewritten
image_same image b e = rw e (inverse.restores image b e)

number_given : (image : Bytes) → ¬ ((load image).0 ≡ 0) → rewritten image ≡ number_text (load image).0
unfolding rewritten
number_given image n = rw (ne_eqb (load image).0 0 n)

first_enough : (n : ℕ) (image : Bytes) → 1119 ≤ n → rewritten (take n image) ≡ rewritten image
unfolding rewritten
first_enough n image h = rw (first_bytes_law.enough n image h)

pub rewrites : Rewrites
rewrites = record { same = image_same; number = number_given; enough = first_enough }
