-- Upper-case hex of whole bytes.
use Rattle.std.specs.Prelude.{ℕ, ◌+◌, ◌-◌, ◌*◌, ◌/◌, ◌%◌, Bool, cond, ◌&&◌, ◌||◌, [], ◌∷◌, length, eqb, leb, ltb}
use Rattle.octets.specs.Octets.{Bytes, all}

-- A hex digit is 30h to 39h or 41h to 46h.
abbrev pub hex_digit : ℕ → Bool
hex_digit x = (leb 0x30 x && leb x 0x39) || (leb 0x41 x && leb x 0x46)

-- The value of a hex digit; 0 for any other character.
unfoldable pub hex_value : ℕ → ℕ
hex_value x = cond (leb 0x30 x && leb x 0x39) (x - 0x30) (cond (leb 0x41 x && leb x 0x46) (x - 0x37) 0)

-- The hex digit of a value below 16.
unfoldable pub hex_character : ℕ → ℕ
hex_character v = cond (ltb v 10) (0x30 + v) (0x37 + v)

-- Whether a text is the hex of whole bytes, perhaps none.
abbrev pub is_hex : Bytes → Bool
is_hex s = eqb (length s % 2) 0 && all hex_digit s

-- The bytes that pairs of hex digits say.
abbrev pub bytes_of : Bytes → Bytes
bytes_of [] = []
bytes_of (h ∷ []) = []
bytes_of (h ∷ l ∷ s) = (hex_value h * 16 + hex_value l) ∷ bytes_of s

-- The hex of a string of bytes.
abbrev pub hex_of : Bytes → Bytes
hex_of [] = []
hex_of (x ∷ b) = hex_character (x / 16) ∷ hex_character (x % 16) ∷ hex_of b
