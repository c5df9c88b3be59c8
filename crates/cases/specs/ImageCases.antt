-- Document 01, "Card image (house)": for each load number each place that gives it, and for each range both ends
-- accepted.
use Rattle.std.specs.Prelude.{ℕ, ◌+◌, ◌≡◌, Bool, true, false, not, List, [], ◌∷◌, ◌++◌, map, length, take, drop, replicate, eqb}
use Rattle.octets.specs.Octets.{Bytes}
use Rattle.rules.specs.declared.Card.{Card}
use Rattle.rules.specs.Image.{load}
use Rattle.rules.specs.Sample.{sample_image, image_records, references, puk}
use Rattle.cases.specs.SecondCard.{second_image, texts_in}
use Rattle.cases.specs.Turns.{fives, nines, counted, sieved, bytes, Fact, ◌is◌, Holds}

-- Where the parts of the sample image stand, from zero: the count of the codes 0, PUK's length 1, digits 2 to 9, tries
-- 10; PIN1's 11, 12 to 15, 16; PIN2's 17, 18 to 22, 23; the count of the keys 24, the keys 25 and 27; the count of the
-- references 29, the record of 0033h 30 to 50; the count of the records 51, the first record 52, the last 82.

-- The sample image up to a place, and other bytes from there on; with other bytes in a place.
abbrev pub cut_at : ℕ → Bytes → Bytes
cut_at n d = take n sample_image ++ d

abbrev pub having : ℕ → Bytes → Bytes
having n d = take n sample_image ++ (d ++ drop (n + length d) sample_image)

-- The sections: a code, the keys, the references of the sample card, its records.
abbrev pub code_in : Bytes → ℕ → Bytes
code_in d tries = length d ∷ (d ++ tries ∷ [])

abbrev pub rest_of_sample : Bytes
rest_of_sample = drop 24 sample_image

abbrev pub with_codes_in : Bytes → Bytes → Bytes → Bytes
with_codes_in a b c = 3 ∷ (a ++ (b ++ (c ++ rest_of_sample)))

-- The sample image with other keys, and references to two of them.
abbrev pub with_keys_in : Bytes → ℕ → ℕ → Bytes
with_keys_in keys a b =
    cut_at 24 (keys ++ 21 ∷ (replicate 9 0x00 ++ a ∷ 0x00 ∷ (replicate 8 0x00 ++ b ∷ 0x00 ∷ (16 ∷ image_records 16))))

-- The number that load gives an image; the numbers of images.
abbrev pub number_of : Bytes → ℕ
number_of image = (load image).0

abbrev pub numbers : List Bytes → List ℕ
numbers images = map number_of images

-- Every image that the sample image starts with, the whole one left out: a missing byte, wherever, is 21.
unfoldable pub ended : List ℕ
ended = map (λ n. number_of (take n sample_image)) (counted 84 0)

-- 22: counts, one less and one more than each section takes.
unfoldable pub counts : List Bytes
counts =
    -- codes
    (0x02 ∷ [])
    ∷ (0x04 ∷ [])
    -- keys
    ∷ having 24 (0x01 ∷ [])
    ∷ having 24 (0x05 ∷ [])
    -- references
    ∷ having 29 (20 ∷ [])
    ∷ having 29 (22 ∷ [])
    -- personal
    ∷ having 51 (15 ∷ [])
    ∷ having 51 (17 ∷ [])
    -- unblocking counts (02, wish 6): a byte behind the personal records that is not 2, whatever follows
    ∷ (sample_image ++ 1 ∷ 0 ∷ [])
    ∷ (sample_image ++ 3 ∷ 0 ∷ 0 ∷ 0 ∷ [])
    ∷ (sample_image ++ 0x00 ∷ [])
    ∷ (sample_image ++ sample_image)
    ∷ (take 624 second_image ++ 0xFF ∷ [])
    ∷ []

-- 23: code length, digit or tries over 3, at once as it is read.
unfoldable pub wrong_codes : List Bytes
wrong_codes =
    -- PUK of 7 and of 13
    having 1 (7 ∷ [])
    ∷ having 1 (13 ∷ [])
    -- PIN1 of 3 and of 13
    ∷ having 11 (3 ∷ [])
    ∷ having 11 (13 ∷ [])
    -- PIN2 of 4 and of 13
    ∷ having 17 (4 ∷ [])
    ∷ cut_at 17 (13 ∷ [])
    -- a byte that is no digit, the first and the last of each code
    ∷ cut_at 2 (0x2F ∷ [])
    ∷ having 9 (0x3A ∷ [])
    ∷ having 12 (0x3A ∷ [])
    ∷ cut_at 15 (0x2F ∷ [])
    ∷ having 18 (0x2F ∷ [])
    ∷ having 22 (0x3A ∷ [])
    -- 4 tries
    ∷ having 10 (4 ∷ [])
    ∷ having 16 (4 ∷ [])
    ∷ having 23 (4 ∷ [])
    ∷ []

-- 24: unknown key, wrong order, or a class with no key.
unfoldable pub wrong_keys : List Bytes
wrong_keys =
    -- an unknown key in either place, at its second byte
    cut_at 25 (0x03 ∷ 0x00 ∷ [])
    ∷ having 25 (0x10 ∷ 0x00 ∷ [])
    ∷ cut_at 27 (0x13 ∷ 0x00 ∷ [])
    ∷ having 27 (0x11 ∷ 0x01 ∷ [])
    ∷ having 27 (0xFF ∷ 0xFF ∷ [])
    -- falling, and twice the same
    ∷ having 25 (0x11 ∷ 0x00 ∷ 0x01 ∷ 0x00 ∷ [])
    ∷ having 25 (0x11 ∷ 0x00 ∷ 0x11 ∷ 0x00 ∷ [])
    ∷ with_keys_in (4 ∷ 0x01 ∷ 0x00 ∷ 0x02 ∷ 0x00 ∷ 0x12 ∷ 0x00 ∷ 0x11 ∷ 0x00 ∷ []) 0x11 0x01
    ∷ with_keys_in (3 ∷ 0x01 ∷ 0x00 ∷ 0x01 ∷ 0x00 ∷ 0x11 ∷ 0x00 ∷ []) 0x11 0x01
    -- no authentication key, no signature key, after the last key and before the next count
    ∷ cut_at 24 (2 ∷ 0x01 ∷ 0x00 ∷ 0x02 ∷ 0x00 ∷ [])
    ∷ cut_at 24 (2 ∷ 0x11 ∷ 0x00 ∷ 0x12 ∷ 0x00 ∷ [])
    ∷ cut_at 24 (2 ∷ 0x01 ∷ 0x00 ∷ 0x02 ∷ 0x00 ∷ 0x00 ∷ [])
    ∷ []

-- 25: reference not a present key of its class, after byte 21 and before the next count.
unfoldable pub wrong_references : List Bytes
wrong_references =
    -- authentication: not on the card, of the other class, none
    having 39 (0x12 ∷ 0x00 ∷ [])
    ∷ having 39 (0x01 ∷ 0x00 ∷ [])
    ∷ having 39 (0x00 ∷ 0x00 ∷ [])
    ∷ having 39 (0x11 ∷ 0x01 ∷ [])
    -- signature likewise
    ∷ having 49 (0x02 ∷ 0x00 ∷ [])
    ∷ having 49 (0x11 ∷ 0x00 ∷ [])
    ∷ having 49 (0x00 ∷ 0x00 ∷ [])
    ∷ having 49 (0x01 ∷ 0x01 ∷ [])
    -- with nothing behind it, and with a wrong count
    ∷ cut_at 30 (replicate 21 0x00)
    ∷ cut_at 30 (replicate 21 0x00 ++ 0x00 ∷ [])
    ∷ []

-- 26: record length 0 and 65, of the first record and of the last, at once.
unfoldable pub wrong_records : List Bytes
wrong_records =
    having 52 (0 ∷ [])
    ∷ having 52 (65 ∷ [])
    ∷ having 82 (0 ∷ [])
    ∷ cut_at 82 (65 ∷ [])
    ∷ []

-- The sample image with a section of unblocking counts.
abbrev pub limited : ℕ → ℕ → Bytes
limited a b = sample_image ++ 2 ∷ a ∷ b ∷ []

-- 28: an unblocking count over A5h, at once as it is read; A5h twice, after the second byte and before bytes left over.
unfoldable pub wrong_limits : List Bytes
wrong_limits =
    (sample_image ++ 2 ∷ 0xA6 ∷ [])
    ∷ (sample_image ++ 2 ∷ 0xFF ∷ [])
    ∷ limited 0xA6 0
    ∷ limited 0 0xA6
    ∷ limited 0xA5 0xFF
    ∷ limited 0xA6 0xA6
    ∷ limited 0xA5 0xA5
    ∷ (limited 0xA5 0xA5 ++ 0 ∷ [])
    ∷ (limited 0xA6 0 ++ 0 ∷ [])
    ∷ (take 624 second_image ++ 2 ∷ 0xA5 ∷ 0xA5 ∷ [])
    ∷ (take 624 second_image ++ 2 ∷ 5 ∷ 0xA6 ∷ [])
    ∷ []

-- 27: bytes left over, behind a section of unblocking counts.
unfoldable pub left_over : List Bytes
left_over =
    (limited 0 0 ++ 0x00 ∷ [])
    ∷ (limited 0xA5 0 ++ 2 ∷ 0 ∷ 0 ∷ [])
    ∷ (limited 0 0xA5 ++ sample_image)
    ∷ (second_image ++ 0xFF ∷ [])
    ∷ []

-- 21, though a later fault would stand there: a code's length before its digits, a key at its second byte, references
-- after byte 21, a record's bytes.
unfoldable pub early : List Bytes
early =
    cut_at 1 (12 ∷ puk)
    ∷ cut_at 25 (0xFF ∷ [])
    ∷ cut_at 27 (0x01 ∷ [])
    ∷ cut_at 30 (replicate 20 0x00)
    ∷ cut_at 52 (64 ∷ replicate 63 0x20)
    -- a missing unblocking count, the first and the second (02, wish 6)
    ∷ (sample_image ++ 2 ∷ [])
    ∷ (sample_image ++ 2 ∷ 0 ∷ [])
    ∷ (sample_image ++ 2 ∷ 0xA5 ∷ [])
    ∷ (take 626 second_image)
    ∷ []

-- The bytes that are not answered by a number where they end an image: what a place takes.
abbrev pub taken : ℕ → (ℕ → Bytes) → List ℕ
taken number image = sieved (λ x. not (eqb (number_of (image x)) number)) bytes

unfoldable pub place_ranges : List (Fact (List ℕ))
place_ranges =
    -- the count of the codes, 3; PUK of 8 to 12, PIN1 of 4 to 12, PIN2 of 5 to 12
    taken 22 (λ x. x ∷ []) is (3 ∷ [])
    ∷ taken 23 (λ x. cut_at 1 (x ∷ [])) is counted 5 8
    ∷ taken 23 (λ x. cut_at 11 (x ∷ [])) is counted 9 4
    ∷ taken 23 (λ x. cut_at 17 (x ∷ [])) is counted 8 5
    -- digits 30h to 39h; 0 to 3 tries
    ∷ taken 23 (λ x. cut_at 2 (x ∷ [])) is counted 10 0x30
    ∷ taken 23 (λ x. cut_at 15 (x ∷ [])) is counted 10 0x30
    ∷ taken 23 (λ x. cut_at 10 (x ∷ [])) is counted 4 0
    ∷ taken 23 (λ x. cut_at 16 (x ∷ [])) is counted 4 0
    ∷ taken 23 (λ x. cut_at 23 (x ∷ [])) is counted 4 0
    -- the count of the keys, 2 to 4; the keys, at the second byte
    ∷ taken 22 (λ x. cut_at 24 (x ∷ [])) is counted 3 2
    ∷ taken 24 (λ x. cut_at 25 (x ∷ [])) is bytes
    ∷ taken 24 (λ x. cut_at 25 (x ∷ 0x00 ∷ [])) is (0x01 ∷ 0x02 ∷ 0x11 ∷ 0x12 ∷ [])
    ∷ taken 24 (λ x. cut_at 25 (0x01 ∷ x ∷ [])) is (0x00 ∷ [])
    ∷ taken 24 (λ x. cut_at 25 (0x02 ∷ x ∷ [])) is (0x00 ∷ [])
    ∷ taken 24 (λ x. cut_at 25 (0x11 ∷ x ∷ [])) is (0x00 ∷ [])
    ∷ taken 24 (λ x. cut_at 25 (0x12 ∷ x ∷ [])) is (0x00 ∷ [])
    -- the count of the references, 21; of the records, 16; a record of 1 to 64
    ∷ taken 22 (λ x. cut_at 29 (x ∷ [])) is (21 ∷ [])
    ∷ taken 22 (λ x. cut_at 51 (x ∷ [])) is (16 ∷ [])
    ∷ taken 26 (λ x. cut_at 52 (x ∷ [])) is counted 64 1
    ∷ taken 26 (λ x. cut_at 82 (x ∷ [])) is counted 64 1
    -- the count of the unblocking counts, 2; each 0 to A5h, but not A5h twice
    ∷ taken 22 (λ x. sample_image ++ x ∷ []) is (2 ∷ [])
    ∷ taken 28 (λ x. sample_image ++ 2 ∷ x ∷ []) is counted 166 0
    ∷ taken 28 (limited 0) is counted 166 0
    ∷ taken 28 (limited 0xA5) is counted 165 0
    ∷ taken 28 (λ x. limited x 0xA5) is counted 165 0
    ∷ []

-- The first fault in reading order: of two, the one that stands first.
unfoldable pub twice : List (Fact ℕ)
twice =
    -- 22 before 23; 23 before 22; 22 before 24; 24 before 25; 25 before 22; 22 before 26; 26 before 22 and 28; 22 before 28;
    -- 28 before 27
    number_of (0x04 ∷ 0x07 ∷ []) is 22
    ∷ number_of (0x03 ∷ 0x07 ∷ replicate 30 0x00) is 23
    ∷ number_of (cut_at 24 (5 ∷ 0x03 ∷ 0x00 ∷ [])) is 22
    ∷ number_of (cut_at 25 (0x03 ∷ 0x00 ∷ 0x11 ∷ 0x00 ∷ 21 ∷ replicate 21 0x00)) is 24
    ∷ number_of (cut_at 30 (replicate 21 0x00 ++ 17 ∷ 65 ∷ [])) is 25
    ∷ number_of (cut_at 51 (17 ∷ 65 ∷ [])) is 22
    ∷ number_of (having 82 (65 ∷ []) ++ 0x00 ∷ []) is 26
    ∷ number_of (having 82 (65 ∷ []) ++ 2 ∷ 0xA6 ∷ []) is 26
    ∷ number_of (sample_image ++ 3 ∷ 0xA6 ∷ 0 ∷ []) is 22
    ∷ number_of (limited 0xA5 0xA6 ++ 0 ∷ []) is 28
    ∷ []

-- What load gives, in short: its number; each code's length and tries; the unblocking counts; the key marks; each
-- record's length.
pub record Summary : Type 0 where
  pub number : ℕ
  pub lengths : List ℕ
  pub tries : List ℕ
  pub counts : List ℕ
  pub keys : List Bool
  pub records : List ℕ

abbrev pub summary : ℕ × Card → Summary
summary r =
    record {
      number = r.0;
      lengths = map (λ v. v.len) r.1.codes;
      tries = map (λ v. v.tries) r.1.codes;
      counts = r.1.counts;
      keys = r.1.profile.keys;
      records = map (λ x. x.len) r.1.profile.personal;
    }

abbrev pub limits : List ℕ → List ℕ → List ℕ → List Bool → ℕ → Summary
limits lengths tries counts keys n =
    record { number = 0; lengths = lengths; tries = tries; counts = counts; keys = keys; records = replicate 16 n }

abbrev pub says : List ℕ → List ℕ → List Bool → ℕ → Summary
says lengths tries = limits lengths tries (0xA5 ∷ 0xA5 ∷ [])

-- The greatest image: codes of 12, four keys, records of 64, unblocking counts.
abbrev pub greatest : Bytes
greatest =
    3 ∷ (code_in (fives 12) 3 ++ (code_in (fives 12) 3 ++ code_in (fives 12) 3))
    ++ 4 ∷ 0x01 ∷ 0x00 ∷ 0x02 ∷ 0x00 ∷ 0x11 ∷ 0x00 ∷ 0x12 ∷ 0x00 ∷ []
    ++ 21 ∷ references
    ++ 16 ∷ texts_in (replicate 16 (fives 64))
    ++ 2 ∷ 0 ∷ 0xA4 ∷ []

unfoldable pub accepted : List (Fact Summary)
accepted =
    -- 84 bytes: codes of least length, two keys, records of 1
    summary (load sample_image) is says (8 ∷ 4 ∷ 5 ∷ []) (3 ∷ 3 ∷ 3 ∷ []) (true ∷ false ∷ true ∷ false ∷ []) 1
    -- 1,118 bytes
    ∷ summary (load greatest) is limits (12 ∷ 12 ∷ 12 ∷ []) (3 ∷ 3 ∷ 3 ∷ []) (0 ∷ 0xA4 ∷ []) (true ∷ true ∷ true ∷ true ∷ []) 64
    -- unblocking counts 0 to A5h for each PIN; 87 bytes
    ∷ summary (load (limited 0 0)) is limits (8 ∷ 4 ∷ 5 ∷ []) (3 ∷ 3 ∷ 3 ∷ []) (0 ∷ 0 ∷ []) (true ∷ false ∷ true ∷ false ∷ []) 1
    ∷ summary (load (limited 0xA5 0)) is limits (8 ∷ 4 ∷ 5 ∷ []) (3 ∷ 3 ∷ 3 ∷ []) (0xA5 ∷ 0 ∷ []) (true ∷ false ∷ true ∷ false ∷ []) 1
    ∷ summary (load (limited 0 0xA5)) is limits (8 ∷ 4 ∷ 5 ∷ []) (3 ∷ 3 ∷ 3 ∷ []) (0 ∷ 0xA5 ∷ []) (true ∷ false ∷ true ∷ false ∷ []) 1
    ∷ summary (load (limited 0xA4 1)) is limits (8 ∷ 4 ∷ 5 ∷ []) (3 ∷ 3 ∷ 3 ∷ []) (0xA4 ∷ 1 ∷ []) (true ∷ false ∷ true ∷ false ∷ []) 1
    -- one code of greatest length, the others of least; tries 0 to 3 on each; digits 30h and 39h
    ∷ summary (load (with_codes_in (code_in (nines 12) 0) (code_in (nines 4) 1) (code_in (replicate 5 0x30) 2))) is
    says (12 ∷ 4 ∷ 5 ∷ []) (0 ∷ 1 ∷ 2 ∷ []) (true ∷ false ∷ true ∷ false ∷ []) 1
    ∷ summary (load (with_codes_in (code_in (replicate 8 0x30) 1) (code_in (nines 12) 2) (code_in (nines 5) 0))) is
    says (8 ∷ 12 ∷ 5 ∷ []) (1 ∷ 2 ∷ 0 ∷ []) (true ∷ false ∷ true ∷ false ∷ []) 1
    ∷ summary (load (with_codes_in (code_in (nines 8) 2) (code_in (replicate 4 0x30) 0) (code_in (nines 12) 1))) is
    says (8 ∷ 4 ∷ 12 ∷ []) (2 ∷ 0 ∷ 1 ∷ []) (true ∷ false ∷ true ∷ false ∷ []) 1
    -- the pairs and the triples of keys that have one of each class
    ∷ summary (load (with_keys_in (2 ∷ 0x01 ∷ 0x00 ∷ 0x12 ∷ 0x00 ∷ []) 0x12 0x01)) is
    says (8 ∷ 4 ∷ 5 ∷ []) (3 ∷ 3 ∷ 3 ∷ []) (true ∷ false ∷ false ∷ true ∷ []) 1
    ∷ summary (load (with_keys_in (2 ∷ 0x02 ∷ 0x00 ∷ 0x11 ∷ 0x00 ∷ []) 0x11 0x02)) is
    says (8 ∷ 4 ∷ 5 ∷ []) (3 ∷ 3 ∷ 3 ∷ []) (false ∷ true ∷ true ∷ false ∷ []) 1
    ∷ summary (load (with_keys_in (2 ∷ 0x02 ∷ 0x00 ∷ 0x12 ∷ 0x00 ∷ []) 0x12 0x02)) is
    says (8 ∷ 4 ∷ 5 ∷ []) (3 ∷ 3 ∷ 3 ∷ []) (false ∷ true ∷ false ∷ true ∷ []) 1
    ∷ summary (load (with_keys_in (3 ∷ 0x01 ∷ 0x00 ∷ 0x02 ∷ 0x00 ∷ 0x11 ∷ 0x00 ∷ []) 0x11 0x02)) is
    says (8 ∷ 4 ∷ 5 ∷ []) (3 ∷ 3 ∷ 3 ∷ []) (true ∷ true ∷ true ∷ false ∷ []) 1
    ∷ summary (load (with_keys_in (3 ∷ 0x01 ∷ 0x00 ∷ 0x11 ∷ 0x00 ∷ 0x12 ∷ 0x00 ∷ []) 0x12 0x01)) is
    says (8 ∷ 4 ∷ 5 ∷ []) (3 ∷ 3 ∷ 3 ∷ []) (true ∷ false ∷ true ∷ true ∷ []) 1
    ∷ summary (load (with_keys_in (3 ∷ 0x02 ∷ 0x00 ∷ 0x11 ∷ 0x00 ∷ 0x12 ∷ 0x00 ∷ []) 0x11 0x02)) is
    says (8 ∷ 4 ∷ 5 ∷ []) (3 ∷ 3 ∷ 3 ∷ []) (false ∷ true ∷ true ∷ true ∷ []) 1
    ∷ []

-- The all-zero state, written out.
abbrev pub all_zero : Card
all_zero =
    record {
      codes = replicate 3 (record { digits = replicate 12 0; len = 0; tries = 0; verified = false });
      counts = replicate 2 0;
      profile = record {
        keys = replicate 4 false;
        references = replicate 21 0;
        personal = replicate 16 (record { bytes = replicate 64 0; len = 0 });
      };
      session = record {
        selection = record { directory = 0; file = 0 };
        environment = record { number = 0; choices = replicate 3 0 };
        held = record { bytes = replicate 256 0; len = 0 };
        chain = record { bytes = replicate 258 0; len = 0 };
        job = record { kind = 0; key = 0; le = 0 };
      };
    }

pub record ImagesShown : Type 0 where
  pub ended : ended ≡ replicate 84 21
  pub counts : numbers counts ≡ replicate (length counts) 22
  pub codes : numbers wrong_codes ≡ replicate (length wrong_codes) 23
  pub keys : numbers wrong_keys ≡ replicate (length wrong_keys) 24
  pub references : numbers wrong_references ≡ replicate (length wrong_references) 25
  pub records : numbers wrong_records ≡ replicate (length wrong_records) 26
  pub limits : numbers wrong_limits ≡ replicate (length wrong_limits) 28
  pub left_over : numbers left_over ≡ replicate (length left_over) 27
  pub early : numbers early ≡ replicate (length early) 21
  pub places : Holds place_ranges
  pub first : Holds twice
  -- both ends of each range, and the sizes 84, 87 and 1,118
  pub accepted : Holds accepted
  pub sizes : length sample_image ∷ length (limited 0 0) ∷ length greatest ∷ [] ≡ 84 ∷ 87 ∷ 1118 ∷ []
  -- a refused image gives a number beside an all-zero state
  pub nothing : load (0x02 ∷ []) ≡ (22, all_zero)
