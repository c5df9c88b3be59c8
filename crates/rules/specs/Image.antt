-- Document 01, "Card image (house)", and document 02, wish 6, its last section: what load reads, and the first fault in reading order.
-- "Card image" and "load" are document 01's terms.
use Rattle.std.specs.Prelude.{ℕ, zero, suc, Bool, true, false, cond, not, ◌&&◌, ◌||◌, List, [], ◌∷◌, length, replicate, eqb, leb, ltb}
use Rattle.octets.specs.Octets.{Bytes, word, digit, member, blank, filled}
use Rattle.rules.specs.declared.Card.{Card}
use Rattle.rules.specs.declared.Code.{Code}
use Rattle.rules.specs.declared.Record.{Record}
use Rattle.rules.specs.declared.JobKind.TheVariants.{Authenticate, Sign}
use Rattle.rules.specs.Numbers.{kind_number}
use Rattle.rules.specs.Codes.{PUK, PIN1, PIN2, least, most, full_tries, storing, zero_code, no_limit, no_limits}
use Rattle.rules.specs.Codes.{unlimited}
use Rattle.rules.specs.Keys.{signature_key, authentication_key, usable, active_key}
use Rattle.rules.specs.Session.{new_session}

-- What reading gives: what was read and the bytes after it, or the number of the first fault.
pub data Read (A : Type 0) : Type 0 where
  got : A → Bytes → Read A
  fault : ℕ → Read A

-- A reading: what it makes of the bytes that are left.
abbrev pub Reading : Type 0 → Type 0
Reading A = Bytes → Read A

-- How to read a `do` block: its lines are readings, one after another, each of the bytes that the one before left. `x ← r` gives what r reads the
-- name x in the lines below. The first fault is the fault of the whole block. `>>=` and `>>` say so for a line with a name and for one without.
infixl 1 ◌>>=◌ ◌>>◌
abbrev pub continued : {A B : Type 0} → Read A → (A → Reading B) → Read B
continued (got a rest) next = next a rest
continued (fault n) next = fault n

abbrev pub ◌>>=◌ : {A B : Type 0} → Reading A → (A → Reading B) → Reading B
◌>>=◌ m next b = continued (m b) next

abbrev pub ◌>>◌ : {A B : Type 0} → Reading A → Reading B → Reading B
◌>>◌ m next b = continued (m b) (λ _. next)

-- A value that reads nothing.
abbrev pub pure : {A : Type 0} → A → Reading A
pure a b = got a b

-- A test that reads nothing: fault n where it fails.
abbrev pub require : Bool → ℕ → Reading Bool
require t n b = cond t (got t b) (fault n)

-- The next byte, judged as it is read: fault n where the test fails; a missing byte is 21.
unfoldable pub byte_if : (ℕ → Bool) → ℕ → Reading ℕ
byte_if test n [] = fault 21
byte_if test n (x ∷ b) = cond (test x) (got x b) (fault n)

-- A byte that may be any.
abbrev pub any_byte : Reading ℕ
any_byte = byte_if (λ x. true) 21

-- `count` bytes, each judged as it is read.
unfoldable pub bytes_if : (ℕ → Bool) → ℕ → ℕ → Reading Bytes
bytes_if test n zero = pure []
bytes_if test n (suc count) = do
  x ← byte_if test n
  xs ← bytes_if test n count
  pure (x ∷ xs)

abbrev pub any_bytes : ℕ → Reading Bytes
any_bytes = bytes_if (λ x. true) 21

-- Each section after a one-byte count; another count is 22.
abbrev pub count : ℕ → Reading ℕ
count n = byte_if (λ x. eqb x n) 22

-- A code as length, digits, tries: 23.
unfoldable pub read_code : ℕ → Reading Code
read_code k = do
  n ← byte_if (λ n. leb (least k) n && leb n most) 23
  digits ← bytes_if digit 23 n
  tries ← byte_if (λ t. leb t full_tries) 23
  pure (storing digits tries false)

-- Codes: 3; PUK, PIN1, PIN2.
unfoldable pub code_section : Reading (List Code)
code_section = do
  count 3
  puk ← read_code PUK
  pin1 ← read_code PIN1
  pin2 ← read_code PIN2
  pure (puk ∷ pin1 ∷ pin2 ∷ [])

-- A two-byte key number, high byte first, known and above the last one, judged at its second byte: 24.
unfoldable pub read_key : ℕ → Reading ℕ
read_key last = do
  high ← any_byte
  low ← any_byte
  require ((signature_key (word high low) || authentication_key (word high low)) && ltb last (word high low)) 24
  pure (word high low)

-- n key numbers, strictly rising.
unfoldable pub read_keys : ℕ → ℕ → Reading (List ℕ)
read_keys zero last = pure []
read_keys (suc n) last = do
  key ← read_key last
  keys ← read_keys n key
  pure (key ∷ keys)

-- Which of the four keys were read.
abbrev pub key_marks : List ℕ → List Bool
key_marks keys = member 0x0100 keys ∷ member 0x0200 keys ∷ member 0x1100 keys ∷ member 0x1200 keys ∷ []

-- Keys: 2 to 4; their numbers. A class with no key, judged after the last key: 24.
unfoldable pub key_section : Reading (List Bool)
key_section = do
  n ← byte_if (λ n. leb 2 n && leb n 4) 22
  keys ← read_keys n 0
  require ((member 0x0100 keys || member 0x0200 keys) && (member 0x1100 keys || member 0x1200 keys)) 24
  pure (key_marks keys)

-- References: 21; the 0033h record. A reference that is not a present key of its class, judged after byte 21: 25.
unfoldable pub reference_section : List Bool → Reading Bytes
reference_section keys = do
  count 21
  references ← any_bytes 21
  require (usable keys (kind_number Authenticate) (active_key references (kind_number Authenticate))
      && usable keys (kind_number Sign) (active_key references (kind_number Sign))) 25
  pure references

-- A record as length 1 to 64, bytes: 26.
unfoldable pub read_personal : Reading Record
read_personal = do
  n ← byte_if (λ n. leb 1 n && leb n 64) 26
  bytes ← any_bytes n
  pure (record { bytes = filled 64 bytes; len = length bytes })

unfoldable pub read_records : ℕ → Reading (List Record)
read_records zero = pure []
read_records (suc n) = do
  r ← read_personal
  rs ← read_records n
  pure (r ∷ rs)

-- Personal: 16; the records.
unfoldable pub personal_section : Reading (List Record)
personal_section = do
  count 16
  read_records 16

-- An unblocking count, 0 to A5h: 28 (02, wish 6).
abbrev pub read_count : Reading ℕ
read_count = byte_if (λ n. leb n no_limit) 28

-- Unblocking counts, the last section: 2; PIN1's, PIN2's. A5h twice, judged after the second byte: 28.
unfoldable pub count_section : Reading (List ℕ)
count_section = do
  count 2
  pin1 ← read_count
  pin2 ← read_count
  require (not (unlimited (pin1 ∷ pin2 ∷ []))) 28
  pure (pin1 ∷ pin2 ∷ [])

-- An image that ends after the personal records means A5h for both.
unfoldable pub read_counts : Reading (List ℕ)
read_counts [] = got no_limits []
read_counts (x ∷ b) = count_section (x ∷ b)

-- Bytes left over: 27.
unfoldable pub end : Reading Bool
end [] = got true []
end (x ∷ b) = fault 27

-- The card that the sections say, in a new session.
abbrev pub card_of : List Code → List Bool → Bytes → List Record → List ℕ → Card
card_of codes keys references personal counts =
    record {
      codes = codes;
      counts = counts;
      profile = record { keys = keys; references = references; personal = personal };
      session = new_session;
    }

-- The whole image: the sections in fixed order.
unfoldable pub read_card : Reading Card
read_card = do
  codes ← code_section
  keys ← key_section
  references ← reference_section keys
  personal ← personal_section
  counts ← read_counts
  end
  pure (card_of codes keys references personal counts)

-- The all-zero state, which isn't good.
abbrev pub zero_record : Record
zero_record = record { bytes = blank 64; len = 0 }

unfoldable pub zero_card : Card
zero_card =
    record {
      codes = replicate 3 zero_code;
      counts = blank 2;
      profile = record { keys = replicate 4 false; references = blank 21; personal = replicate 16 zero_record };
      session = record {
        selection = record { directory = 0; file = 0 };
        environment = record { number = 0; choices = blank 3 };
        held = record { bytes = blank 256; len = 0 };
        chain = record { bytes = blank 258; len = 0 };
        job = record { kind = 0; key = 0; le = 0 };
      };
    }

-- Load returns the state and 0 for no fault, or a fault's number beside an all-zero state.
unfoldable pub loaded : Read Card → ℕ × Card
loaded (got c rest) = (0, c)
loaded (fault n) = (n, zero_card)

unfoldable pub load : Bytes → ℕ × Card
load image = loaded (read_card image)
