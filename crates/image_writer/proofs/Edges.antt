-- The call write, by what was put into the buffer: the image, which fits.
use mathlib.Core.Path.{◌≡◌, ◌∙◌}
use mathlib.Core.Bool.{true}
use mathlib.Core.List.{◌++◌}
use Prim.Native.Nat.{ℕ, ◌≤◌}
use native.Mathlib.Omega.{arith}
use lib.ListN.{length, drop}
use lib.Seq.{take_all}
use Rattle.octets.specs.Octets.{Bytes, pasted}
use Rattle.octets.proofs.Pasting.{pasted_front}
use Rattle.writing.specs.Puts.{Put}
use Rattle.rules.specs.declared.Card.{Card}
use Rattle.rules.specs.Numbers.{wrote}
use Rattle.rules.specs.State.{good}
use Rattle.rules.specs.Writer.{image_of, write}
use Rattle.rules.proofs.Writing.{image_most, write_whole}

module _ (c : Card) (d : Bytes) (g : good c ≡ true) (room : 1118 ≤ length d) where
  fits : length (image_of c) ≤ length d
  fits = omega (arith, room, image_most c g)

  pub image_front : pasted d 0 (image_of c) ≡ image_of c ++ drop (length (image_of c)) d
  image_front = rw (pasted_front d (image_of c), take_all (length d) (image_of c) fits)

  pub write_put : {after : Bytes} {end : ℕ} → Put d 0 (image_of c) after end → write c d ≡ (wrote end, after)
  write_put {end = end} p =
      let behind : end ≡ length (image_of c) = omega (arith, fits, p.place) in
      write_whole c d g room ∙ rw (p.whole, image_front, behind)
