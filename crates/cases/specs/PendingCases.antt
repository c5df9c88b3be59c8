-- Document 01, "Order of judgement for a command": what drops the held answer and the chain, and data by Le.
use Rattle.std.specs.Prelude.{ℕ, ◌≡◌, true, false, List, [], ◌∷◌, ◌++◌, map, length, replicate}
use Rattle.octets.specs.Octets.{Bytes}
use Rattle.rules.specs.declared.Card.{Card}
use Rattle.rules.specs.Codes.{PUK, PIN1, PIN2}
use Rattle.rules.specs.Session.{with_held}
use Rattle.rules.specs.Counting.{Call, Command, PowerReset, next}
use Rattle.rules.specs.Sample.{sample_card, puk, pin1, pin2}
use Rattle.rules.specs.Cases.{shows, send, deliver_to, verify_of, sign_sha1, choose_key_of, decipher_part, sw, fresh}
use Rattle.rules.specs.Cases.{buffer, refuses}
use Rattle.cases.specs.SecondCard.{second_card, text}
use Rattle.cases.specs.Turns.{Fact, ◌is◌, Holds, Run, ◌⇒◌, from, Shown, tries, in_class, bare, with_le, sending}
use Rattle.cases.specs.Turns.{select_root, select_directory, select_file, record_read, get_response, environment}
use Rattle.cases.specs.Turns.{fives, with_session, sample_tries, sample_marks, at, in_environment, chained, waiting}
use Rattle.cases.specs.UnblockingCases.{blocked}

-- A card in file 0016h with a held answer of 10 bytes and a chain of 255.
abbrev pub pending_on : Card → Card
pending_on c = with_session c (with_held (chained 255 (at 0x3F00 0x0016 c)).session (replicate 10 0x77))

abbrev pub pending : Card
pending = pending_on sample_card

-- How many bytes a call leaves of the held answer and of the chain.
pub record Left : Type 0 where
  pub held : ℕ
  pub chain : ℕ

abbrev pub left : ℕ → ℕ → Left
left held chain = record { held = held; chain = chain }

abbrev pub left_by : Card → Call → Left
left_by c x = left (next c x).session.held.len (next c x).session.chain.len

-- Calls that leave neither: every step's refusal, and every command, whatever it answers.
unfoldable pub dropping : List Left
dropping =
    map (left_by pending) (
    -- 1 to 6; a GET RESPONSE and a 2A 80 86 that fail there too
    send []
    ∷ in_class 0x0C 0xA4 0x00 0x0C
    ∷ bare 0x84 0x00 0x00
    ∷ in_class 0x10 0xC0 0x00 0x00
    ∷ bare 0xA4 0x03 0x0C
    ∷ with_le 0xC0 0x00 0x01 0x00
    ∷ in_class 0x10 0x2A 0x80 0x87
    ∷ bare 0x24 0x00 0x01
    ∷ bare 0xC0 0x00 0x00
    ∷ in_class 0x10 0x2A 0x80 0x86
    -- A4: chosen, and 6A82
    ∷ select_root
    ∷ select_directory 0xEE 0xEE
    ∷ select_file 0x50 0x44
    -- B2: with its data, and 6A83; B0: 6981
    ∷ record_read 1
    ∷ record_read 4
    ∷ with_le 0xB0 0x00 0x00 0x00
    -- 20: asked, right and wrong; 24: stored, wrong and 6A80; 2C: 6A86
    ∷ bare 0x20 0x00 0x01
    ∷ verify_of PIN1 pin1
    ∷ verify_of PIN1 pin2
    ∷ sending 0x24 0x00 PIN1 (pin1 ++ fives 4)
    ∷ sending 0x24 0x00 PIN1 (fives 4 ++ fives 4)
    ∷ sending 0x24 0x00 PIN1 (pin1 ++ fives 3)
    ∷ bare 0x2C 0x03 0x01
    -- 22: chosen and refused
    ∷ environment 6
    ∷ environment 2
    ∷ choose_key_of 0xA4 0x11 0x00
    ∷ choose_key_of 0xA4 0x12 0x00
    ∷ sending 0x22 0x41 0xA4 (0x83 ∷ 0x00 ∷ [])
    ∷ sending 0x22 0x41 0xA4 (0x83 ∷ [])
    -- 88, 2A 9E 9A: 6982
    ∷ sending 0x88 0x00 0x00 (0x41 ∷ [])
    ∷ sign_sha1
    -- 2A 80 86 that passes 1 to 6: 6700 over 257 in either class, 6700 under it, 6985
    ∷ decipher_part 0x10 3
    ∷ decipher_part 0x00 3
    ∷ decipher_part 0x00 1
    ∷ decipher_part 0x00 2
    -- a reset
    ∷ PowerReset
    ∷ []
    )
    -- 24 of PIN2 and of PUK: stored
    ++ map (left_by pending) (sending 0x24 0x00 PIN2 (pin2 ++ fives 5) ∷ sending 0x24 0x00 PUK (puk ++ fives 8) ∷ [])
    -- PIN1 blocked. 20: 6983; 2C: 9000, 6A80, 63Cx, 6982; with P1 03 and PUK open 9000
    ++ map (left_by (pending_on (sample_tries 3 0 3))) (
    verify_of PIN1 pin1
    ∷ sending 0x2C 0x00 PIN1 (puk ++ fives 4)
    ∷ sending 0x2C 0x00 PIN1 (puk ++ fives 3)
    ∷ sending 0x2C 0x00 PIN1 (fives 12)
    ∷ bare 0x2C 0x03 PIN1
    ∷ []
    )
    ++ map (left_by (pending_on (blocked 3 true))) (bare 0x2C 0x03 PIN1 ∷ bare 0x2C 0x03 PIN2 ∷ [])
    -- B0 of a certificate of one byte: 9000, 6282 and 6B00
    ++ map (left_by (at 0xEEEE 0xAACE pending)) (with_le 0xB0 0x00 0x00 0x01 ∷ with_le 0xB0 0x00 0x00 0x02 ∷ with_le 0xB0 0x00 0x01 0x01 ∷ [])
    -- jobs 1, 2 and 3
    ++ map (left_by (pending_on (sample_marks true true true))) (sending 0x88 0x00 0x00 (0x41 ∷ []) ∷ sign_sha1 ∷ [])
    ++ left_by (pending_on (in_environment 6 (sample_marks false true false))) (decipher_part 0x00 2)
    -- nothing held: a GET RESPONSE answers 6985 and drops the chain
    ∷ left_by (chained 255 sample_card) (get_response 0x00)
    ∷ []

-- What keeps the chain, the held answer or both: a 2A 80 86 of class 10h, which joins; a GET RESPONSE in part; the
-- edge's refusals.
unfoldable pub keeping : List (Fact Left)
keeping =
    left_by pending (decipher_part 0x10 1) is left 0 256
    ∷ left_by pending (decipher_part 0x10 2) is left 0 257
    ∷ left_by pending (get_response 0x04) is left 6 0
    ∷ left_by pending (get_response 0x09) is left 1 0
    ∷ left_by pending (get_response 0x0A) is left 0 0
    ∷ left_by pending (Command [] (0x30 ∷ []) (0x30 ∷ []) (replicate 257 0xEE)) is left 10 255
    ∷ left_by pending (Command [] [] (0x30 ∷ []) buffer) is left 10 255
    ∷ left_by pending (deliver_to []) is left 10 255
    ∷ []

pub record PendingShown : Type 0 where
  pub dropped : dropping ≡ replicate (length dropping) (left 0 0)
  pub kept : Holds keeping

-- The PIN record of 3 tries.
abbrev pub pin_record : Bytes
pin_record = 0x80 ∷ 0x01 ∷ 0x03 ∷ 0x90 ∷ 0x01 ∷ 0x03 ∷ 0x83 ∷ 0x02 ∷ 0x00 ∷ 0x00 ∷ []

unfoldable pub giving : List Run
giving =
    -- data of n > 0 bytes: with Le at least n, all data and 9000; else held, 61 and n, no data
    record {
      card = at 0x3F00 0x0016 sample_card;
      turns =
          with_le 0xB2 0x01 0x04 0x0B ⇒ shows pin_record 0x9000
          ∷ get_response 0x00 ⇒ sw 0x6985
          ∷ with_le 0xB2 0x01 0x04 0x0A ⇒ shows pin_record 0x9000
          ∷ get_response 0x00 ⇒ sw 0x6985
          ∷ with_le 0xB2 0x01 0x04 0x09 ⇒ sw 0x610A
          ∷ get_response 0x00 ⇒ shows pin_record 0x9000
          ∷ bare 0xB2 0x01 0x04 ⇒ sw 0x610A
          ∷ [];
      codes = fresh;
    }
    -- one byte is data too; 64 are held whole
    ∷ record {
      card = at 0xEEEE 0x5044 second_card;
      turns =
          bare 0xB2 0x01 0x04 ⇒ sw 0x6101
          ∷ get_response 0x01 ⇒ shows (0xFF ∷ []) 0x9000
          ∷ with_le 0xB2 0x10 0x04 0x3F ⇒ sw 0x6140
          ∷ get_response 0x40 ⇒ shows (text 16) 0x9000
          ∷ with_le 0xB2 0x10 0x04 0x40 ⇒ shows (text 16) 0x9000
          ∷ [];
      codes = tries 3 2 1;
    }
    -- C0: the smaller of Le and held; 61 and the rest, or 9000 and nothing more held
    ∷ record {
      card = at 0x3F00 0x0016 sample_card;
      turns =
          bare 0xB2 0x02 0x04 ⇒ sw 0x610A
          ∷ get_response 0x04 ⇒ shows (0x80 ∷ 0x01 ∷ 0x03 ∷ 0x90 ∷ []) 0x6106
          ∷ get_response 0x05 ⇒ shows (0x01 ∷ 0x03 ∷ 0x83 ∷ 0x02 ∷ 0x00 ∷ []) 0x6101
          ∷ get_response 0x00 ⇒ shows (0x00 ∷ []) 0x9000
          ∷ get_response 0x00 ⇒ sw 0x6985
          ∷ [];
      codes = fresh;
    }
    -- Le 00 means 256; 256 as 61 00; parts of 256
    ∷ record {
      card = waiting 1 0x1100 255 sample_card;
      turns =
          deliver_to (0x5A ∷ replicate 255 0x5B) ⇒ sw 0x6100
          ∷ get_response 0x01 ⇒ shows (0x5A ∷ []) 0x61FF
          ∷ get_response 0xFF ⇒ shows (replicate 255 0x5B) 0x9000
          ∷ [];
      codes = fresh;
    }
    ∷ record {
      card = waiting 1 0x1100 0 sample_card;
      turns =
          deliver_to (replicate 256 0x5A) ⇒ sw 0x6100
          ∷ get_response 0x00 ⇒ shows (replicate 256 0x5A) 0x9000
          ∷ [];
      codes = fresh;
    }
    -- as other calls see it: a refused command and a chosen file drop the held answer
    ∷ record {
      card = at 0x3F00 0x0016 sample_card;
      turns =
          bare 0xB2 0x01 0x04 ⇒ sw 0x610A
          ∷ in_class 0x0C 0xA4 0x00 0x0C ⇒ sw 0x6E00
          ∷ get_response 0x00 ⇒ sw 0x6985
          ∷ bare 0xB2 0x01 0x04 ⇒ sw 0x610A
          ∷ select_root ⇒ sw 0x9000
          ∷ get_response 0x00 ⇒ sw 0x6985
          ∷ [];
      codes = fresh;
    }
    -- the chain: dropped by a refused command and by a GET RESPONSE, kept by an edge refusal
    ∷ from (chained 255 sample_card) (bare 0xA4 0x03 0x0C ⇒ sw 0x6A86 ∷ decipher_part 0x00 2 ⇒ sw 0x6700 ∷ []) fresh
    ∷ from (chained 255 sample_card) (get_response 0x00 ⇒ sw 0x6985 ∷ decipher_part 0x00 2 ⇒ sw 0x6700 ∷ []) fresh
    ∷ from (chained 255 sample_card) (Command [] [] [] buffer ⇒ refuses 3 ∷ decipher_part 0x00 2 ⇒ sw 0x6985 ∷ []) fresh
    ∷ []

abbrev pub GivingShown : Type 0
GivingShown = Shown giving
