-- The first n places of room of zeros, and what the room is once they are filled.
use mathlib.Core.Path.{◌≡◌}
use mathlib.Core.List.{◌++◌}
use Prim.Native.Nat.{ℕ, ◌≤◌}
use lib.ListN.{length, take, drop}
use Rattle.std.proofs.lemmas.List.{length-take-le}
use Rattle.octets.specs.Octets.{Bytes, blank, filled}
use Rattle.rules.specs.declared.Record.{Record}
use Rattle.octets.proofs.Pasting.{length_blank, drop_zeros}

module _ (size n : ℕ) where
  pub part_length : n ≤ size → length (take n (blank size)) ≡ n
  part_length h = length-take-le n (blank size) (rw length_blank h)

  pub part_filled : (d : Bytes) → length d ≡ n → d ++ drop n (blank size) ≡ filled size d
  unfolding filled
  part_filled d e = rw (drop_zeros n size, e)

-- A personal record in its room.
pub record_whole : (n len : ℕ) (bytes : Bytes) → n ≡ len → length bytes ≡ n
    → ◌≡◌ {A = Record} (record { bytes = bytes ++ drop n (blank 64); len = len }) (record { bytes = filled 64 bytes; len = length bytes })
record_whole n len bytes e h = rw (part_filled 64 n bytes h, h, e)
