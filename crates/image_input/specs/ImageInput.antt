-- What is known of an image that was read into a room.
use Rattle.std.specs.Prelude.{ℕ, ◌<◌, ◌≤◌, List, length, Option, Result, Ok, Err, take}
use Rattle.std.specs.Io.KnownBytes.{Appends, Consumes, IsAtEnd}
use Rattle.std.specs.Fn.{Once}
use denote.Ref.{Bor, MutBor}
use Rattle.image_input.specs.declared.Unfinished.{Unfinished}

-- How many bytes were read.
abbrev pub came : Result ℕ Unfinished → ℕ
came (Ok len) = len
came (Err unfinished) = unfinished.len

-- A call that puts a text of an image into a room of a type, and answers how long it is.
abbrev pub Putting : Type 0 → Type 0 → Type 1
Putting T F = Once F (Bor (List ℕ) × (MutBor T × Unit {0})) (ℕ × (MutBor T × Unit {0}))

-- An image was read, to the end of the input or as much as decides; f put a text of it into a fresh room of the type that it takes (for
-- `[u8; N]` N zeros), and the front of the room was written, as much as f answered.
pub record Answered {T F : Type 0} (is_fresh : T → Type 0) (items : T → List ℕ) (puts : Putting T F) (f : F)
    (left left' had has : Option (List ℕ)) : Type 0 where
  pub image : Bor (List ℕ)
  pub read : Consumes left left' image.now
  pub fits : length image.now ≤ 1119
  pub at_end : length image.now < 1119 → IsAtEnd left'
  pub room : MutBor T
  pub fresh : is_fresh room.now
  pub end : ℕ
  pub after : MutBor T
  pub put : puts.post f (image, (room, tt)) (end, (after, tt))
  pub written : Appends had has (take end (items after.now))
