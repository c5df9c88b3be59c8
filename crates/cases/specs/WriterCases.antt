-- Document 02, wishes 3 and 6. Images that the writer makes, of both cards and of cards that differ from them in one part; what the
-- call writes and where it refuses; and images written and loaded.
use Rattle.std.specs.Prelude.{ℕ, ◌≡◌, Bool, true, false, List, [], ◌∷◌, ◌++◌, map, length, take, drop, replicate, eqb}
use Rattle.octets.specs.Octets.{Bytes, same}
use Rattle.rules.specs.declared.Card.{Card}
use Rattle.rules.specs.Numbers.{Wrote, unwritten, wrote}
use Rattle.rules.specs.Session.{with_held, with_environment}
use Rattle.rules.specs.Edge.{power_reset}
use Rattle.rules.specs.Image.{load, zero_card}
use Rattle.rules.specs.Writer.{keys_image, image_of, write}
use Rattle.rules.specs.Counting.{PowerReset, after}
use Rattle.rules.specs.Sample.{sample_card, sample_image, pin1, pin2, puk}
use Rattle.rules.specs.Cases.{with_counts, verify_of, wrong_pin1}
use Rattle.cases.specs.SecondCard.{second_card, second_image, second_puk, second_pin1, second_pin2}
use Rattle.cases.specs.Turns.{fives, counted, sending, select_directory, select_file, environment, sample_tries, second_tries, second_open, at}
use Rattle.cases.specs.Turns.{in_environment, chained, waiting, with_session, Fact, ◌is◌, Holds}
use Rattle.cases.specs.ImageCases.{code_in, having, greatest}
use Rattle.cases.specs.StateCases.{with_record, with_pin1, with_pin2, code_with, zeros, bad, idle, busy}

-- The keys section for each set of marks that has a key of each class, two to four keys.
unfoldable pub key_sets : List (Fact Bytes)
key_sets =
    keys_image (true ∷ false ∷ true ∷ false ∷ []) is (2 ∷ 0x01 ∷ 0x00 ∷ 0x11 ∷ 0x00 ∷ [])
    ∷ keys_image (true ∷ false ∷ false ∷ true ∷ []) is (2 ∷ 0x01 ∷ 0x00 ∷ 0x12 ∷ 0x00 ∷ [])
    ∷ keys_image (false ∷ true ∷ true ∷ false ∷ []) is (2 ∷ 0x02 ∷ 0x00 ∷ 0x11 ∷ 0x00 ∷ [])
    ∷ keys_image (false ∷ true ∷ false ∷ true ∷ []) is (2 ∷ 0x02 ∷ 0x00 ∷ 0x12 ∷ 0x00 ∷ [])
    ∷ keys_image (true ∷ true ∷ true ∷ false ∷ []) is (3 ∷ 0x01 ∷ 0x00 ∷ 0x02 ∷ 0x00 ∷ 0x11 ∷ 0x00 ∷ [])
    ∷ keys_image (true ∷ true ∷ false ∷ true ∷ []) is (3 ∷ 0x01 ∷ 0x00 ∷ 0x02 ∷ 0x00 ∷ 0x12 ∷ 0x00 ∷ [])
    ∷ keys_image (true ∷ false ∷ true ∷ true ∷ []) is (3 ∷ 0x01 ∷ 0x00 ∷ 0x11 ∷ 0x00 ∷ 0x12 ∷ 0x00 ∷ [])
    ∷ keys_image (false ∷ true ∷ true ∷ true ∷ []) is (3 ∷ 0x02 ∷ 0x00 ∷ 0x11 ∷ 0x00 ∷ 0x12 ∷ 0x00 ∷ [])
    ∷ keys_image (true ∷ true ∷ true ∷ true ∷ []) is (4 ∷ 0x01 ∷ 0x00 ∷ 0x02 ∷ 0x00 ∷ 0x11 ∷ 0x00 ∷ 0x12 ∷ 0x00 ∷ [])
    ∷ []

-- The second image with other tries.
abbrev pub second_with : ℕ → ℕ → ℕ → Bytes
second_with a b c = 3 ∷ (code_in second_puk a ++ (code_in second_pin1 b ++ code_in second_pin2 c)) ++ drop 35 second_image

-- A session in which all but the job differs from what a reset leaves: a file, environment 6, chosen keys, a held answer, a chain.
abbrev pub used : Card → Card
used c = at 0xEEEE 0x5044 (with_session c (with_held (with_environment (chained 3 c).session 6 (0x1100 ∷ 0x0100 ∷ 0x1100 ∷ [])) (0x41 ∷ [])))

unfoldable pub images : List (Fact Bytes)
images =
    image_of sample_card is sample_image
    ∷ image_of second_card is second_image
    ∷ image_of (load greatest).1 is greatest
    -- written, loaded and written again
    ∷ image_of (load (image_of (used second_open))).1 is second_with 3 3 3
    ∷ image_of (load (image_of (sample_tries 2 1 0))).1 is image_of (sample_tries 2 1 0)
    -- tries of each code
    ∷ image_of (sample_tries 2 1 0) is having 10 (2 ∷ 4 ∷ (pin1 ++ 1 ∷ 5 ∷ (pin2 ++ 0 ∷ [])))
    ∷ image_of (second_tries 0 3 2) is second_with 0 3 2
    -- no mark and nothing of the session
    ∷ image_of second_open is second_with 3 3 3
    ∷ image_of (used sample_card) is sample_image
    ∷ image_of (used second_card) is second_image
    ∷ image_of (waiting 1 0x1100 256 sample_card) is sample_image
    ∷ image_of (waiting 2 0x0200 0 (in_environment 6 second_open)) is second_with 3 3 3
    -- codes of other lengths
    ∷ image_of (with_pin1 (code_with (fives 12) 12 3 false)) is (3 ∷ (code_in puk 3 ++ (code_in (fives 12) 3 ++ drop 17 sample_image)))
    ∷ image_of (with_pin2 (code_with (fives 6 ++ zeros 6) 6 1 false)) is
    (3 ∷ (code_in puk 3 ++ (code_in pin1 3 ++ (code_in (fives 6) 1 ++ drop 24 sample_image))))
    -- PIN1 as long as PIN2; as long as PUK
    ∷ image_of (with_pin1 (code_with (fives 5 ++ zeros 7) 5 3 false)) is (3 ∷ (code_in puk 3 ++ (code_in (fives 5) 3 ++ drop 17 sample_image)))
    ∷ image_of (with_pin1 (code_with (fives 8 ++ zeros 4) 8 3 false)) is (3 ∷ (code_in puk 3 ++ (code_in (fives 8) 3 ++ drop 17 sample_image)))
    -- the unblocking counts (02, wish 6): a section where one is not A5h, none where both are
    ∷ image_of (with_counts sample_card (0 ∷ 0xA5 ∷ [])) is (sample_image ++ 2 ∷ 0 ∷ 0xA5 ∷ [])
    ∷ image_of (with_counts sample_card (0xA5 ∷ 0 ∷ [])) is (sample_image ++ 2 ∷ 0xA5 ∷ 0 ∷ [])
    ∷ image_of (with_counts sample_card (0 ∷ 0 ∷ [])) is (sample_image ++ 2 ∷ 0 ∷ 0 ∷ [])
    ∷ image_of (with_counts sample_card (0xA4 ∷ 0xA4 ∷ [])) is (sample_image ++ 2 ∷ 0xA4 ∷ 0xA4 ∷ [])
    ∷ image_of (with_counts sample_card (0xA4 ∷ 0xA5 ∷ [])) is (sample_image ++ 2 ∷ 0xA4 ∷ 0xA5 ∷ [])
    ∷ image_of (with_counts sample_card (0xA5 ∷ 0xA4 ∷ [])) is (sample_image ++ 2 ∷ 0xA5 ∷ 0xA4 ∷ [])
    ∷ image_of (with_counts second_card (1 ∷ 2 ∷ [])) is (take 624 second_image ++ 2 ∷ 1 ∷ 2 ∷ [])
    ∷ image_of (with_counts second_card (0xA5 ∷ 0xA5 ∷ [])) is take 624 second_image
    -- a record that is zeros, and one of 64 bytes
    ∷ image_of (with_record 1 (record { bytes = zeros 64; len = 2 })) is having 52 (2 ∷ 0x00 ∷ 0x00 ∷ drop 54 sample_image)
    ∷ image_of (with_record 16 (record { bytes = fives 64; len = 64 })) is having 82 (64 ∷ fives 64)
    ∷ []

-- Sessions, and the image after each: wrong and right values, a change, a PIN blocked and unblocked, files and an environment.
unfoldable pub saved : List (Fact Bytes)
saved =
    image_of (after sample_card (wrong_pin1 ∷ wrong_pin1 ∷ [])) is having 16 (1 ∷ [])
    ∷ image_of (after sample_card (wrong_pin1 ∷ verify_of 1 pin1 ∷ verify_of 2 pin2 ∷ [])) is sample_image
    ∷ image_of (after sample_card (sending 0x24 0x00 0x01 (pin1 ++ fives 4) ∷ [])) is having 12 (fives 4)
    ∷ image_of (after sample_card (wrong_pin1 ∷ wrong_pin1 ∷ wrong_pin1 ∷ sending 0x2C 0x00 0x01 (puk ++ fives 4) ∷ [])) is having 12 (fives 4)
    -- an unblocking lowers the PIN's count, and a reset keeps it (02, wish 6)
    ∷ image_of (after (with_counts sample_card (2 ∷ 1 ∷ [])) (wrong_pin1 ∷ wrong_pin1 ∷ wrong_pin1 ∷ sending 0x2C 0x00 0x01 (puk ++ pin1) ∷ PowerReset ∷ [])) is
    (sample_image ++ 2 ∷ 1 ∷ 1 ∷ [])
    ∷ image_of (after (second_tries 3 2 0) (sending 0x2C 0x00 0x02 (second_puk ++ second_pin2) ∷ [])) is
    (take 624 (second_with 3 2 3) ++ 2 ∷ 5 ∷ 0 ∷ [])
    ∷ image_of (after second_card (select_directory 0xEE 0xEE ∷ select_file 0x50 0x44 ∷ environment 6 ∷ verify_of 2 (fives 5) ∷ [])) is
    second_with 3 2 0
    ∷ []

-- Where the writer refuses, and what it returns else: the sample image has 84 bytes, the second one 627, the greatest 1,118.
abbrev pub buffer : ℕ → Bytes
buffer n = replicate n 0xEE

abbrev pub empty : Card
empty = with_record 16 (record { bytes = zeros 64; len = 0 })

unfoldable pub returned : List (Fact Wrote)
returned =
    -- a bad state first
    (write zero_card (buffer 0)).0 is unwritten 1
    ∷ (write zero_card (buffer 1117)).0 is unwritten 1
    ∷ (write zero_card (buffer 1118)).0 is unwritten 1
    ∷ (write empty (buffer 1117)).0 is unwritten 1
    ∷ (write empty (buffer 1118)).0 is unwritten 1
    -- then a short buffer, though the image would fit
    ∷ (write sample_card (buffer 0)).0 is unwritten 2
    ∷ (write sample_card (buffer 84)).0 is unwritten 2
    ∷ (write sample_card (buffer 1117)).0 is unwritten 2
    ∷ (write second_card (buffer 1117)).0 is unwritten 2
    ∷ (write sample_card (buffer 1118)).0 is wrote 84
    ∷ (write second_card (buffer 1118)).0 is wrote 627
    ∷ (write (load greatest).1 (buffer 1118)).0 is wrote 1118
    ∷ (write (load greatest).1 (buffer 1119)).0 is wrote 1118
    -- whatever waits or is held
    ∷ (write (waiting 1 0x1100 0 sample_card) (buffer 1118)).0 is wrote 84
    ∷ (write (used second_card) (buffer 1118)).0 is wrote 627
    ∷ (write sample_card (buffer 4096)).0 is wrote 84
    ∷ (write (sample_tries 0 0 0) (buffer 1118)).0 is wrote 84
    ∷ []

-- What the buffer is then.
unfoldable pub buffers : List (Fact Bytes)
buffers =
    (write zero_card (buffer 1118)).1 is buffer 1118
    ∷ (write empty (buffer 1118)).1 is buffer 1118
    ∷ (write sample_card (buffer 1117)).1 is buffer 1117
    ∷ (write sample_card (buffer 1118)).1 is (sample_image ++ buffer 1034)
    ∷ (write sample_card (buffer 1200)).1 is (sample_image ++ buffer 1116)
    ∷ (write second_card (buffer 1118)).1 is (second_image ++ buffer 491)
    ∷ (write (load greatest).1 (buffer 1118)).1 is greatest
    ∷ (write (load greatest).1 (buffer 1120)).1 is (greatest ++ 0xEE ∷ 0xEE ∷ [])
    -- a buffer of which no two elements are alike
    ∷ (write empty (counted 1118 0)).1 is counted 1118 0
    ∷ (write empty (counted 1117 0)).1 is counted 1117 0
    ∷ (write sample_card (counted 1117 0)).1 is counted 1117 0
    ∷ (write sample_card (counted 1118 0)).1 is (sample_image ++ counted 1034 84)
    ∷ []

-- Written and loaded: the card after a reset.
unfoldable pub again : List (Fact (ℕ × Card))
again =
    load (image_of sample_card) is (0, sample_card)
    ∷ load (image_of (used second_open)) is (0, (power_reset (used second_open)).1)
    ∷ load (image_of (waiting 2 0x0100 0 sample_card)) is (0, sample_card)
    ∷ load (image_of second_open) is (0, second_tries 3 3 3)
    ∷ load (image_of (with_counts (used sample_card) (0xA5 ∷ 7 ∷ []))) is (0, with_counts sample_card (0xA5 ∷ 7 ∷ []))
    ∷ load (image_of (with_counts second_card (0xA5 ∷ 0xA5 ∷ []))) is (0, with_counts second_card (0xA5 ∷ 0xA5 ∷ []))
    ∷ []

-- Strings that are found and those that are to be found, the same byte by byte.
abbrev pub Alike : List (Fact Bytes) → Type 0
Alike facts = map (λ x. same x.found x.wanted) facts ≡ replicate (length facts) true

-- Whether the writer refuses a card for its state.
abbrev pub refuses_state : Wrote → Bool
refuses_state (unwritten n) = eqb n 1
refuses_state (wrote n) = false

abbrev pub refused_for : Card → Bool
refused_for c = refuses_state (write c (buffer 1118)).0

pub record WriterShown : Type 0 where
  -- it refuses each state that a command refuses for its state, and no other
  pub bad : map refused_for bad ≡ replicate (length bad) true
  pub idle : map refused_for idle ≡ replicate (length idle) false
  pub busy : map refused_for busy ≡ replicate (length busy) false
  pub keys : Alike key_sets
  pub images : Alike images
  pub saved : Alike saved
  pub returned : Holds returned
  pub buffers : Alike buffers
  pub again : Holds again
