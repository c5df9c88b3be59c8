-- What the code holds of a request. No rule of the lines stands here.
use Rattle.std.specs.Prelude.{[], ◌∷◌, cond, not, ◌&&◌, length, take, drop, eqb, ltb}
use Rattle.octets.specs.Octets.{Bytes, byte_at, same, pasted}
use Rattle.hexadecimal.specs.Hex.{is_hex, bytes_of}
use Rattle.requests.specs.Requests.{
  Request,
  reset,
  command_of,
  delivery_of,
  image_of,
  saving,
  authentication_of,
  signature_of,
  buffer_of,
  other,
  longest,
  stands_in,
}
use Rattle.requests.specs.declared.Dialect.{Dialect}
use Rattle.requests.specs.declared.Meaning.{Meaning}
use Rattle.requests.specs.declared.Meaning.TheVariants.{
  Reset,
  Command,
  Delivery,
  Image,
  Saving,
  Authentication,
  Signature,
  Buffer,
  Other,
}

-- A request whose bytes stand at the front of a room.
abbrev pub meant : Meaning → Bytes → Request
meant Reset room = reset
meant (Command n) room = command_of (take n room)
meant (Delivery n) room = delivery_of (take n room)
meant (Image n) room = image_of (take n room)
meant Saving room = saving
meant (Authentication n) room = authentication_of (take n room)
meant (Signature n) room = signature_of (take n room)
meant (Buffer n) room = buffer_of n
meant Other room = other

-- The room after a line was read: the bytes that its hex says stand at the front; a line without hex leaves it.
unfoldable pub room_after : Dialect → Bytes → Bytes → Bytes
room_after d line room =
    cond (ltb (longest d) (length line)) room
    (cond (same line (0x50 ∷ [])) room
    (cond (stands_in d && same line (0x49 ∷ [])) room
    (cond (stands_in d && eqb (byte_at line 0) 0x42) room
    (cond (not (is_hex (drop 1 line))) room
    (pasted room 0 (bytes_of (drop 1 line)))))))
