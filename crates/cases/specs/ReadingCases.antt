-- Document 02, wish 2: a reader in blocks, which Le are answered 6282, what that leaves of the card, and which calls it may come from.
use Rattle.std.specs.Prelude.{ℕ, Bool, true, false, List, [], ◌∷◌, ◌++◌, map, length, drop, replicate, eqb}
use Rattle.octets.specs.Octets.{Bytes}
use Rattle.rules.specs.declared.Card.{Card}
use Rattle.rules.specs.Numbers.{Returned, edge, responded, handed_out, was_reset}
use Rattle.rules.specs.Session.{with_environment}
use Rattle.rules.specs.Judgement.{judge}
use Rattle.rules.specs.Edge.{Result}
use Rattle.rules.specs.Counting.{Call, Command, Delivery, PowerReset, step, is_command}
use Rattle.rules.specs.Demands.{refusal_status, asks_for_more_than}
use Rattle.rules.specs.Reading.{read_at, returned_data, whole_block, Collected, stopped, unfinished, read_blocks, last_word}
use Rattle.rules.specs.Sample.{sample_card}
use Rattle.rules.specs.Cases.{buffer, send}
use Rattle.cases.specs.SecondCard.{second_card}
use Rattle.cases.specs.Turns.{at, with_session, second_open, in_class, with_le, sending_with_le, waiting}
use Rattle.cases.specs.Turns.{status_of, counted, sieved, bytes, Fact, ◌is◌, Holds}
use Rattle.cases.specs.FileCases.{authentication}

-- The signature certificate, of 4 bytes; the authentication certificate has 300.
abbrev pub signature : Bytes
signature = 0xB1 ∷ 0xB2 ∷ 0xB3 ∷ 0xB4 ∷ []

-- A reader in blocks of n on a card with a current file, from offset 0, with so many commands at most.
abbrev pub reading : ℕ → Card → ℕ → Collected
reading commands c n = read_blocks commands c authentication signature buffer n 0

abbrev pub authentication_file : Card → Card
authentication_file = at 0xEEEE 0xAACE

abbrev pub signature_file : Card → Card
signature_file = at 0xEEEE 0xDDCE

unfoldable pub readings : List (Fact Collected)
readings =
    -- n does not divide the length: 6282; in as many commands as it takes, or with more allowed
    reading 2 (authentication_file sample_card) 200 is stopped authentication 0x6282
    ∷ reading 9 (authentication_file second_card) 200 is stopped authentication 0x6282
    ∷ reading 2 (authentication_file sample_card) 255 is stopped authentication 0x6282
    ∷ reading 2 (signature_file second_card) 3 is stopped signature 0x6282
    ∷ reading 1 (signature_file sample_card) 5 is stopped signature 0x6282
    -- n divides it: 6B00
    ∷ reading 3 (authentication_file sample_card) 150 is stopped authentication 0x6B00
    ∷ reading 4 (authentication_file second_card) 100 is stopped authentication 0x6B00
    ∷ reading 5 (signature_file sample_card) 1 is stopped signature 0x6B00
    ∷ reading 3 (signature_file second_card) 2 is stopped signature 0x6B00
    ∷ reading 2 (signature_file sample_card) 4 is stopped signature 0x6B00
    -- with fewer commands it has not stopped
    ∷ reading 1 (authentication_file sample_card) 200 is unfinished
    ∷ reading 2 (authentication_file sample_card) 150 is unfinished
    ∷ reading 0 (signature_file sample_card) 5 is unfinished
    -- from an offset on
    ∷ read_blocks 2 (signature_file sample_card) authentication signature buffer 2 1 is stopped (0xB2 ∷ 0xB3 ∷ 0xB4 ∷ []) 0x6282
    -- a refusal stops it without data: by a status word, and by the edge
    ∷ reading 9 sample_card 200 is stopped [] 0x6986
    ∷ reading 9 (at 0x3F00 0x0016 sample_card) 200 is stopped [] 0x6981
    ∷ read_blocks 9 (signature_file sample_card) authentication [] buffer 200 0 is stopped [] 0
    ∷ reading 9 (waiting 1 0x1100 0 (signature_file sample_card)) 200 is stopped [] 0
    -- n 0 is Le 00: any answer with data stops the reader, so it is none for blocks of 256
    ∷ reading 9 (signature_file sample_card) 0 is stopped signature 0x9000
    ∷ []

-- The word that a reader stops at.
unfoldable pub last_words : List (Fact ℕ)
last_words =
    last_word 1536 1 is 0x6B00
    ∷ last_word 1536 192 is 0x6B00
    ∷ last_word 1536 200 is 0x6282
    ∷ last_word 1536 255 is 0x6282
    ∷ last_word 200 200 is 0x6B00
    ∷ last_word 199 200 is 0x6282
    ∷ last_word 201 200 is 0x6282
    ∷ last_word 1 1 is 0x6B00
    ∷ last_word 1 2 is 0x6282
    ∷ []

-- The data of a response; there are none where nothing was responded.
unfoldable pub data_read : List (Fact Bytes)
data_read =
    returned_data (responded 5) (0xB1 ∷ 0xB2 ∷ 0xB3 ∷ 0x90 ∷ 0x00 ∷ 0xEE ∷ []) is (0xB1 ∷ 0xB2 ∷ 0xB3 ∷ [])
    ∷ returned_data (responded 2) (0x6B ∷ 0x00 ∷ 0xEE ∷ []) is []
    ∷ returned_data (edge 2) (0xEE ∷ 0xEE ∷ 0xEE ∷ []) is []
    ∷ returned_data (handed_out 1 0x1100) (0xEE ∷ 0xEE ∷ 0xEE ∷ []) is []
    ∷ returned_data was_reset (0xEE ∷ 0xEE ∷ 0xEE ∷ []) is []
    ∷ []

-- Which answers are a whole block: 9000 with n bytes, and no other word with n bytes.
abbrev pub answered : Returned → Bytes → Result
answered returned buffer = record { returned = returned; card = sample_card; buffer = buffer }

unfoldable pub whole_blocks : List (Fact Bool)
whole_blocks =
    whole_block 2 (answered (responded 4) (0xB1 ∷ 0xB2 ∷ 0x90 ∷ 0x00 ∷ [])) is true
    ∷ whole_block 3 (answered (responded 4) (0xB1 ∷ 0xB2 ∷ 0x90 ∷ 0x00 ∷ [])) is false
    ∷ whole_block 1 (answered (responded 4) (0xB1 ∷ 0xB2 ∷ 0x90 ∷ 0x00 ∷ [])) is false
    ∷ whole_block 2 (answered (responded 4) (0xB1 ∷ 0xB2 ∷ 0x62 ∷ 0x82 ∷ [])) is false
    ∷ whole_block 2 (answered (responded 4) (0xB1 ∷ 0xB2 ∷ 0x61 ∷ 0x02 ∷ [])) is false
    ∷ whole_block 2 (answered (responded 4) (0xB1 ∷ 0xB2 ∷ 0x90 ∷ 0x01 ∷ [])) is false
    ∷ whole_block 0 (answered (edge 2) []) is false
    ∷ []

-- Every Le, at an offset, that is answered 6282.
abbrev pub warned : Card → ℕ → List ℕ
warned c offset = sieved (λ le. eqb (status_of (judge c (read_at offset le) authentication signature).answer) 0x6282) bytes

unfoldable pub warnings : List (Fact (List ℕ))
warnings =
    -- 256, 255, 254, 128 bytes remain, one and none
    warned (authentication_file sample_card) 44 is []
    ∷ warned (authentication_file sample_card) 45 is []
    ∷ warned (authentication_file second_card) 46 is (255 ∷ [])
    ∷ warned (authentication_file second_card) 172 is counted 127 129
    ∷ warned (authentication_file sample_card) 299 is counted 254 2
    ∷ warned (authentication_file second_card) 300 is []
    -- 4 bytes remain
    ∷ warned (signature_file sample_card) 0 is counted 251 5
    ∷ []

-- READ BINARY with 9000, 6282 and 6B00 leaves a card with nothing held and no chain as it is, here with open codes, environment 6
-- and chosen keys.
abbrev pub chosen : Card
chosen = with_session second_open (with_environment (signature_file second_open).session 6 (0x1100 ∷ 0x0100 ∷ 0x1100 ∷ []))

abbrev pub read_on : ℕ → ℕ → Result
read_on offset le = step chosen (Command (read_at offset le) authentication signature buffer)

abbrev pub leaving : Bytes → Result
leaving response =
    record { returned = responded (length response); card = chosen; buffer = response ++ drop (length response) buffer }

unfoldable pub leavings : List (Fact Result)
leavings =
    read_on 2 2 is leaving (0xB3 ∷ 0xB4 ∷ 0x90 ∷ 0x00 ∷ [])
    ∷ read_on 2 3 is leaving (0xB3 ∷ 0xB4 ∷ 0x62 ∷ 0x82 ∷ [])
    ∷ read_on 4 3 is leaving (0x6B ∷ 0x00 ∷ [])
    ∷ []

-- Words that may come with data, and words that refuse; calls that 6282 may come from, with so many bytes of data.
abbrev pub asks : ℕ → Call → Bool
asks n x = is_command (asks_for_more_than n) x

unfoldable pub words : List (Fact Bool)
words =
    refusal_status 0x9000 is false
    ∷ refusal_status 0x6100 is false
    ∷ refusal_status 0x61FF is false
    ∷ refusal_status 0x6282 is false
    ∷ refusal_status 0x6281 is true
    ∷ refusal_status 0x6283 is true
    ∷ refusal_status 0x6200 is true
    ∷ refusal_status 0x63C3 is true
    ∷ refusal_status 0x6B00 is true
    ∷ refusal_status 0x9001 is true
    ∷ refusal_status 0x8282 is true
    ∷ asks 254 (with_le 0xB0 0x00 0x00 0xFF) is true
    ∷ asks 255 (with_le 0xB0 0x00 0x00 0xFF) is false
    ∷ asks 199 (with_le 0xB0 0x05 0x78 0xC8) is true
    ∷ asks 200 (with_le 0xB0 0x05 0x78 0xC8) is false
    ∷ asks 1 (with_le 0xB0 0x00 0x00 0x00) is false
    ∷ asks 1 (with_le 0xB2 0x01 0x04 0xFF) is false
    ∷ asks 1 (with_le 0xC0 0x00 0x00 0xFF) is false
    ∷ asks 1 (in_class 0x00 0xB0 0x00 0x00) is false
    ∷ asks 1 (with_le 0xB0 0x7F 0xFF 0xFF) is true
    ∷ asks 1 (with_le 0xB0 0x80 0x00 0xFF) is false
    ∷ asks 1 (sending_with_le 0xB0 0x00 0x00 (0x01 ∷ []) 0xFF) is false
    ∷ asks 1 (send (0x10 ∷ 0xB0 ∷ 0x00 ∷ 0x00 ∷ 0xFF ∷ [])) is false
    ∷ asks 1 (send (0x0C ∷ 0xB0 ∷ 0x00 ∷ 0x00 ∷ 0xFF ∷ [])) is false
    ∷ asks 1 (with_le 0xB1 0x00 0x00 0xFF) is false
    ∷ asks 1 (Delivery (replicate 256 0x00) buffer) is false
    ∷ asks 1 PowerReset is false
    -- every other word of document 01
    ∷ map (λ word. refusal_status word is true) (
    0x63C0 ∷ 0x63C1 ∷ 0x63C2 ∷ 0x6400 ∷ 0x6700 ∷ 0x6884 ∷ 0x6981 ∷ 0x6982 ∷ 0x6983 ∷ 0x6985 ∷ 0x6986
    ∷ 0x6A80 ∷ 0x6A82 ∷ 0x6A83 ∷ 0x6A86 ∷ 0x6A88 ∷ 0x6D00 ∷ 0x6E00 ∷ []
    )

pub record ReadingShown : Type 0 where
  pub in_blocks : Holds readings
  pub lasts : Holds last_words
  pub taken : Holds data_read
  pub blocks : Holds whole_blocks
  pub tested : Holds words
  pub answered_so : Holds warnings
  pub kept : Holds leavings
