-- What a room holds of a string. No rule of the lines stands here.
use Rattle.std.specs.Prelude.{ℕ, ◌+◌, min, length, take}
use Rattle.octets.specs.Octets.{Bytes, filled, pasted}
use Rattle.lines.specs.declared.kept.Kept.{Kept}

-- The string in a room.
abbrev pub held : {n : ℕ} → Kept n → Bytes
held k = take k.len k.bytes

-- A string in a room of n bytes, with zeros behind it.
abbrev pub kept : (n : ℕ) → Bytes → Kept n
kept n b = record { bytes = filled n b; len = length b }

-- A room after another string was put to its front.
abbrev pub held_over : {n : ℕ} → Kept n → Bytes → Kept n
held_over k b = record { bytes = pasted k.bytes 0 b; len = length b }

-- A room after another string was added behind its own, or behind the first m bytes of that: it is written as far as the room reaches,
-- and counts as far as m.
abbrev pub added : {n : ℕ} → Kept n → Bytes → ℕ → Kept n
added k b m = record { bytes = pasted k.bytes (min k.len m) b; len = min (min k.len m + length b) m }
