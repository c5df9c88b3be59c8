-- Document 02, wish 2: what a reader in blocks gets of a certificate. The reader is the customers' loop; the card knows nothing of it.
use Rattle.std.specs.Prelude.{ℕ, zero, suc, ◌+◌, ◌-◌, ◌*◌, ◌/◌, ◌%◌, ◌≤◌, ◌<◌, ◌≡◌, Bool, true, cond, ◌&&◌, [], ◌∷◌, ◌++◌, length, take, drop, eqb}
use Rattle.octets.specs.Octets.{Bytes}
use Rattle.rules.specs.declared.Card.{Card}
use Rattle.rules.specs.Numbers.{Returned, edge, responded, handed_out, was_reset}
use Rattle.rules.specs.Files.{certificate_file, certificate_of}
use Rattle.rules.specs.State.{good}
use Rattle.rules.specs.Edge.{Result}
use Rattle.rules.specs.Counting.{Command, step, returned_status}
use Rattle.rules.specs.Demands.{Room, LengthFits, Idle}

-- READ BINARY at an offset, with Le n: 00 B0, the offset in two bytes, n.
abbrev pub read_at : ℕ → ℕ → Bytes
read_at offset n = 0x00 ∷ 0xB0 ∷ (offset / 256) ∷ (offset % 256) ∷ n ∷ []

-- The data of a response: all but its last two bytes. None where a call returned no response.
unfoldable pub returned_data : Returned → Bytes → Bytes
returned_data (edge n) buffer = []
returned_data (responded n) buffer = take (n - 2) buffer
returned_data (handed_out kind key) buffer = []
returned_data was_reset buffer = []

-- An answer of 9000 with n bytes: the reader goes on. Any other stops it.
unfoldable pub whole_block : ℕ → Result → Bool
whole_block n o =
    eqb (returned_status o.returned o.buffer) 0x9000 && eqb (length (returned_data o.returned o.buffer)) n

-- What a reader has collected: all data, joined, and the status word that stopped it, 0 where the edge did; or it has not stopped.
pub data Collected : Type 0 where
  stopped : Bytes → ℕ → Collected
  unfinished : Collected

abbrev pub joined : Bytes → Collected → Collected
joined d (stopped rest sw) = stopped (d ++ rest) sw
joined d unfinished = unfinished

-- A reader in blocks of n bytes, after so many commands at most: at an offset, and while it goes on at the next, n bytes further.
-- Each command gets the card and the buffer as the one before left them.
unfoldable pub read_blocks : ℕ → Card → Bytes → Bytes → Bytes → ℕ → ℕ → Collected
read_blocks zero c authentication signature buffer n offset = unfinished
read_blocks (suc commands) c authentication signature buffer n offset =
    let o = step c (Command (read_at offset n) authentication signature buffer) in
    let d = returned_data o.returned o.buffer in
    cond (whole_block n o) (joined d (read_blocks commands o.card authentication signature o.buffer n (offset + n)))
    (stopped d (returned_status o.returned o.buffer))

-- The status word that stops a reader in blocks of n: 6B00 where n divides the size, else 6282.
unfoldable pub last_word : ℕ → ℕ → ℕ
last_word size n = cond (eqb (size % n) 0) 0x6B00 0x6282

-- What a reader needs: a good card with no job waiting and a certificate file selected, and of each command what the edge asks.
pub record Readable (c : Card) (authentication signature buffer : Bytes) : Type 0 where
  pub good : good c ≡ true
  pub idle : Idle c
  pub selected : certificate_file c.session.selection.file ≡ true
  pub room : Room buffer
  pub authentication_fits : LengthFits authentication
  pub signature_fits : LengthFits signature

-- The certificate that the selected file shows.
abbrev pub certificate_shown : Card → Bytes → Bytes → Bytes
certificate_shown c authentication signature = certificate_of c.session.selection.file authentication signature

-- In blocks of any size n from 1 to 255 the reader stops by itself: for every limit on its commands under which they would reach
-- past the end.
pub record ReadInBlocks : Type 0 where
  -- from offset 0 it has exactly the certificate
  pub whole : (c : Card) (authentication signature buffer : Bytes) → Readable c authentication signature buffer
      → (n : ℕ) → 1 ≤ n → n ≤ 255 → (commands : ℕ) → length (certificate_shown c authentication signature) < commands * n
      → read_blocks commands c authentication signature buffer n 0
      ≡ stopped (certificate_shown c authentication signature) (last_word (length (certificate_shown c authentication signature)) n)
  -- from any offset up to the size it has exactly what remains
  pub onward : (c : Card) (authentication signature buffer : Bytes) → Readable c authentication signature buffer
      → (n : ℕ) → 1 ≤ n → n ≤ 255 → (commands offset : ℕ) → offset ≤ length (certificate_shown c authentication signature)
      → length (certificate_shown c authentication signature) - offset < commands * n
      → read_blocks commands c authentication signature buffer n offset
      ≡ stopped (drop offset (certificate_shown c authentication signature))
      (last_word (length (certificate_shown c authentication signature) - offset) n)
