-- What the code writes of a text.
use Rattle.std.specs.Prelude.{ℕ, ◌+◌, min, ◌≡◌, length}
use Rattle.octets.specs.Octets.{Bytes, pasted}

-- A text written from a place on, as much of it as fits, and the place behind it.
pub record Put (before : Bytes) (at : ℕ) (text after : Bytes) (end : ℕ) : Type 0 where
  pub whole : after ≡ pasted before at text
  pub place : end ≡ min (at + length text) (length before)
