-- What a line of the two line programs asks for: document 01's transcript program ("Cases"), and the stand-in, which has lines for an
-- image to load or to write, the certificates and the answer buffer beside them.
use Rattle.std.specs.Prelude.{ℕ, ◌+◌, ◌-◌, ◌*◌, Bool, true, false, cond, not, ◌&&◌, ◌||◌, [], ◌∷◌, length, drop, eqb, leb, ltb}
use Rattle.octets.specs.Octets.{Bytes, byte_at, same, every, all_digits}
use Rattle.hexadecimal.specs.Hex.{is_hex, bytes_of}
use Rattle.requests.specs.declared.Dialect.{Dialect}
use Rattle.requests.specs.declared.Dialect.TheVariants.{Transcript, StandIn}

-- Lines end in a line feed.
abbrev pub line_feed : ℕ
line_feed = 0x0A

-- What differs between the two programs: the greatest length of a line; whether there are the letters L, I, A, S and B, and a job's line
-- shows its block.
abbrev pub longest : Dialect → ℕ
longest Transcript = 1024
longest StandIn = 4096

abbrev pub stands_in : Dialect → Bool
stands_in Transcript = false
stands_in StandIn = true

-- What a line asks for. `saving` asks for the card's image, to be kept.
pub data Request : Type 0 where
  reset : Request
  command_of : Bytes → Request
  delivery_of : Bytes → Request
  image_of : Bytes → Request
  saving : Request
  authentication_of : Bytes → Request
  signature_of : Bytes → Request
  buffer_of : ℕ → Request
  other : Request

-- Digits as a decimal number, behind those that came before them.
abbrev pub decimal_from : ℕ → Bytes → ℕ
decimal_from n [] = n
decimal_from n (x ∷ s) = decimal_from (n * 10 + (x - 0x30)) s

abbrev pub decimal : Bytes → ℕ
decimal s = decimal_from 0 s

-- The greatest answer buffer.
abbrev pub most_buffer : ℕ
most_buffer = 4096

-- A decimal number from 0 to 4,096 without leading zeros.
unfoldable pub is_size : Bytes → Bool
is_size s =
    every (
    not (eqb (length s) 0)
    ∷ all_digits s
    ∷ (eqb (length s) 1 || not (eqb (byte_at s 0) 0x30))
    ∷ leb (decimal s) most_buffer
    ∷ []
    )

unfoldable pub size_request : Bytes → Request
size_request s = cond (is_size s) (buffer_of (decimal s)) other

-- The letters L, A and S, each with the bytes that its hex says: an image to load, the certificates to lend.
unfoldable pub further_request : ℕ → Bytes → Request
further_request letter bytes =
    cond (eqb letter 0x4C) (image_of bytes)
    (cond (eqb letter 0x41) (authentication_of bytes)
    (cond (eqb letter 0x53) (signature_of bytes) other))

-- C is a command, D a delivery.
unfoldable pub hex_request : Dialect → ℕ → Bytes → Request
hex_request d letter bytes =
    cond (eqb letter 0x43) (command_of bytes)
    (cond (eqb letter 0x44) (delivery_of bytes)
    (cond (stands_in d) (further_request letter bytes) other))

-- P is a reset; I asks for the card's image; B and a number the size of the answer buffer; the other letters have upper-case hex of whole
-- bytes, perhaps none. Other lines, and those that are too long, ask for nothing.
unfoldable pub request_of : Dialect → Bytes → Request
request_of d line =
    cond (ltb (longest d) (length line)) other
    (cond (same line (0x50 ∷ [])) reset
    (cond (stands_in d && same line (0x49 ∷ [])) saving
    (cond (stands_in d && eqb (byte_at line 0) 0x42) (size_request (drop 1 line))
    (cond (not (is_hex (drop 1 line))) other
    (hex_request d (byte_at line 0) (bytes_of (drop 1 line)))))))
