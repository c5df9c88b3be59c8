-- Document 02, wishes 3 and 6: the image of a card, section by section as Image.antt reads it, and the call write. Neither a code's verified
-- mark nor anything of the session stands in an image.
use Rattle.std.specs.Prelude.{ℕ, ◌/◌, ◌%◌, Bool, cond, not, List, [], ◌∷◌, ◌++◌, length, take, drop, ltb}
use Rattle.octets.specs.Octets.{Bytes}
use Rattle.rules.specs.declared.Card.{Card}
use Rattle.rules.specs.declared.Code.{Code}
use Rattle.rules.specs.declared.Record.{Record}
use Rattle.rules.specs.Numbers.{Wrote, unwritten, wrote}
use Rattle.rules.specs.Codes.{PUK, PIN1, PIN2, value, code_of, count_of, unlimited}
use Rattle.rules.specs.Keys.{present}
use Rattle.rules.specs.State.{good}

-- A code as length, digits, tries.
unfoldable pub code_image : Code → Bytes
code_image v = v.len ∷ (value v ++ v.tries ∷ [])

-- Codes: 3; PUK, PIN1, PIN2.
unfoldable pub codes_image : List Code → Bytes
codes_image codes = 3 ∷ (code_image (code_of codes PUK) ++ (code_image (code_of codes PIN1) ++ code_image (code_of codes PIN2)))

-- Of some keys those that are on the card.
unfoldable pub keys_among : List Bool → List ℕ → List ℕ
keys_among keys [] = []
keys_among keys (key ∷ others) = cond (present keys key) (key ∷ keys_among keys others) (keys_among keys others)

-- The keys on the card, strictly rising.
abbrev pub keys_on : List Bool → List ℕ
keys_on keys = keys_among keys (0x0100 ∷ 0x0200 ∷ 0x1100 ∷ 0x1200 ∷ [])

-- Key numbers of two bytes each, high byte first.
unfoldable pub key_bytes : List ℕ → Bytes
key_bytes [] = []
key_bytes (key ∷ keys) = (key / 256) ∷ (key % 256) ∷ key_bytes keys

-- Keys: how many there are; their numbers.
unfoldable pub keys_image : List Bool → Bytes
keys_image keys = length (keys_on keys) ∷ key_bytes (keys_on keys)

-- References: 21; the 0033h record.
unfoldable pub references_image : Bytes → Bytes
references_image references = 21 ∷ references

-- A record as length, bytes.
unfoldable pub record_image : Record → Bytes
record_image r = r.len ∷ take r.len r.bytes

-- The records, one behind the other.
unfoldable pub records_image : List Record → Bytes
records_image [] = []
records_image (r ∷ rs) = record_image r ++ records_image rs

-- Personal: 16; the records.
unfoldable pub personal_image : List Record → Bytes
personal_image personal = 16 ∷ records_image personal

-- Unblocking counts: 2; PIN1's, PIN2's. No section where both are A5h (02, wish 6).
unfoldable pub counts_image : List ℕ → Bytes
counts_image counts = cond (unlimited counts) [] (2 ∷ count_of counts PIN1 ∷ count_of counts PIN2 ∷ [])

-- The whole image: the sections in fixed order.
unfoldable pub image_of : Card → Bytes
image_of c =
    codes_image c.codes
    ++ (keys_image c.profile.keys
    ++ (references_image c.profile.references
    ++ (personal_image c.profile.personal
    ++ counts_image c.counts)))

-- Edge refusal 2 of the writer: a buffer under 1,118 bytes (02, wish 6).
abbrev pub short_for_image : Bytes → Bool
short_for_image buffer = ltb (length buffer) 1118

-- The call write, of a card and a buffer: what it returns, and the buffer as it leaves it. The card stays.
unfoldable pub write : Card → Bytes → Wrote × Bytes
write c buffer =
    cond (not (good c)) (unwritten 1, buffer)
    (cond (short_for_image buffer) (unwritten 2, buffer)
    (wrote (length (image_of c)), image_of c ++ drop (length (image_of c)) buffer))
