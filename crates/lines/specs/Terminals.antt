-- What the code holds of a program, and its steps, in the terms of Lines.antt. No rule of the lines stands here.
use Rattle.std.specs.Prelude.{ℕ, ◌≤◌, ◌≡◌, length}
use Rattle.octets.specs.Octets.{Bytes}
use Rattle.writing.specs.Puts.{Put}
use Rattle.lines.specs.Lines.{Setup, LineAnswer}
use Rattle.lines.specs.Rooms.{held, kept, held_over}
use Rattle.lines.specs.declared.Terminal.{Terminal}

-- A terminal; what stands behind the certificates in their rooms does not count.
abbrev pub setup_of : Terminal → Setup
setup_of t = record {
  card = t.card;
  authentication = held t.authentication;
  signature = held t.signature;
  buffer = t.buffer;
}

-- A program between two lines, each certificate with zeros behind it in its room.
abbrev pub terminal_for : Setup → Terminal
terminal_for s = record {
  card = s.card;
  authentication = kept 2048 s.authentication;
  signature = kept 2048 s.signature;
  buffer = s.buffer;
}

-- A terminal after a line: the certificates at the front of their rooms, where the rooms' other bytes stay.
abbrev pub terminal_over : Terminal → Setup → Terminal
terminal_over t x = record {
  card = x.card;
  authentication = held_over t.authentication x.authentication;
  signature = held_over t.signature x.signature;
  buffer = x.buffer;
}

-- What is lent after a line; the rooms hold the certificates whole.
pub record Lends (x : Setup) (before after : Terminal) : Type 0 where
  pub terminal : after ≡ terminal_over before x
  pub fits : (length x.authentication ≤ length before.authentication.bytes) × (length x.signature ≤ length before.signature.bytes)

-- All of a line: the terminal after it, its line of output, and the place behind that.
pub record Answers (x : LineAnswer) (t : Terminal) (before : Bytes) (at : ℕ) (next : Terminal) (after : Bytes) (end : ℕ) : Type 0 where
  pub lent : Lends x.setup t next
  pub line : Put before at x.text after end
