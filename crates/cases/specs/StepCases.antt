-- Document 01, "Order of judgement for a command", steps 1 to 6, and their order.
use Rattle.std.specs.Prelude.{ℕ, true, false, cond, not, List, [], ◌∷◌, replicate, eqb}
use Rattle.octets.specs.Octets.{Bytes}
use Rattle.rules.specs.Codes.{PIN1}
use Rattle.rules.specs.Sample.{sample_card, pin1}
use Rattle.rules.specs.Cases.{send, sw, fresh}
use Rattle.cases.specs.Turns.{bytes, Fact, ◌is◌, Holds, Run, ◌⇒◌, from, Shown, tries, marks, in_class, bare}
use Rattle.cases.specs.Turns.{with_le, sending, sending_with_le, select_root, sample_tries, word_on, counted, sieved}

unfoldable pub steps : List Run
steps =
    -- 1. under 4 bytes: 6700. 4 bytes: no data, no Le. 5: Le; the fifth byte is never Lc there
    record {
      card = sample_card;
      turns =
          send (0x00 ∷ 0xA4 ∷ 0x00 ∷ []) ⇒ sw 0x6700
          ∷ select_root ⇒ sw 0x9000
          ∷ with_le 0xA4 0x00 0x0C 0x00 ⇒ sw 0x9000
          ∷ with_le 0xA4 0x00 0x0C 0x01 ⇒ sw 0x9000
          ∷ [];
      codes = fresh;
    }
    -- 1. 6 or more: Lc at least 1 (Lc 00 is no form, an extended one neither)
    ∷ record {
      card = sample_card;
      turns =
          send (0x00 ∷ 0xA4 ∷ 0x00 ∷ 0x0C ∷ 0x00 ∷ 0x00 ∷ []) ⇒ sw 0x6700
          ∷ send (0x00 ∷ 0xA4 ∷ 0x00 ∷ 0x0C ∷ 0x00 ∷ 0x00 ∷ 0x00 ∷ []) ⇒ sw 0x6700
          ∷ send (0x00 ∷ 0x20 ∷ 0x00 ∷ 0x01 ∷ 0x00 ∷ 0x00 ∷ 0x04 ∷ pin1) ⇒ sw 0x6700
          ∷ [];
      codes = fresh;
    }
    -- 1. total 5+Lc, 6+Lc; one byte less or more is 6700
    ∷ record {
      card = sample_card;
      turns =
          send (0x00 ∷ 0x20 ∷ 0x00 ∷ 0x01 ∷ 0x01 ∷ 0x39 ∷ []) ⇒ sw 0x63C2
          ∷ send (0x00 ∷ 0x20 ∷ 0x00 ∷ 0x01 ∷ 0x01 ∷ 0x39 ∷ 0x00 ∷ []) ⇒ sw 0x63C1
          ∷ send (0x00 ∷ 0x20 ∷ 0x00 ∷ 0x01 ∷ 0x02 ∷ 0x39 ∷ []) ⇒ sw 0x6700
          ∷ send (0x00 ∷ 0x20 ∷ 0x00 ∷ 0x01 ∷ 0x01 ∷ 0x39 ∷ 0x00 ∷ 0x00 ∷ []) ⇒ sw 0x6700
          ∷ [];
      codes = tries 3 1 3;
    }
    -- 1. the data are the Lc bytes, without Le
    ∷ from sample_card (sending_with_le 0x20 0x00 PIN1 pin1 0x34 ⇒ sw 0x9000 ∷ []) (marks false true false)
    -- 1. Lc 255 without Le
    ∷ from sample_card (send (replicate 260 0xFF) ⇒ sw 0x6E00 ∷ send (replicate 259 0xFF) ⇒ sw 0x6700 ∷ []) fresh
    -- 1 before 2; 2 before 3; 3 before 4; 3 before 5 and 6
    ∷ record {
      card = sample_card;
      turns =
          send (0xFF ∷ 0x84 ∷ 0xFF ∷ []) ⇒ sw 0x6700
          ∷ in_class 0x0C 0x84 0xFF 0xFF ⇒ sw 0x6E00
          ∷ in_class 0x10 0x84 0xFF 0xFF ⇒ sw 0x6D00
          ∷ in_class 0x00 0x84 0x00 0x00 ⇒ sw 0x6D00
          ∷ [];
      codes = fresh;
    }
    -- 4 before 5; 5 before 6, here with data and Le against the rule; 6 before 7: no file, PIN with tries, environment,
    -- nothing held, PIN1
    ∷ record {
      card = sample_card;
      turns =
          in_class 0x10 0x20 0xFF 0xFF ⇒ sw 0x6884
          ∷ sending 0xB2 0x00 0x04 (0x00 ∷ []) ⇒ sw 0x6A86
          ∷ bare 0x88 0x01 0x00 ⇒ sw 0x6A86
          ∷ sending 0xB2 0x01 0x04 (0x00 ∷ []) ⇒ sw 0x6700
          ∷ bare 0xB0 0x00 0x00 ⇒ sw 0x6700
          ∷ sending 0x2C 0x03 0x01 (0x00 ∷ []) ⇒ sw 0x6700
          ∷ bare 0x2C 0x00 0x01 ⇒ sw 0x6700
          ∷ sending 0x22 0xF3 0x02 (0x00 ∷ []) ⇒ sw 0x6700
          ∷ bare 0xC0 0x00 0x00 ⇒ sw 0x6700
          ∷ sending 0x88 0x00 0x00 (replicate 246 0x00) ⇒ sw 0x6700
          ∷ bare 0x2A 0x9E 0x9A ⇒ sw 0x6700
          ∷ [];
      codes = fresh;
    }
    -- 6. Le required: B0 and C0, with no data
    ∷ record {
      card = sample_card;
      turns =
          with_le 0xB0 0x00 0x00 0x01 ⇒ sw 0x6986
          ∷ sending 0xB0 0x00 0x00 (0x00 ∷ []) ⇒ sw 0x6700
          ∷ sending_with_le 0xB0 0x00 0x00 (0x00 ∷ []) 0x01 ⇒ sw 0x6700
          ∷ with_le 0xC0 0x00 0x00 0x01 ⇒ sw 0x6985
          ∷ sending 0xC0 0x00 0x00 (0x00 ∷ []) ⇒ sw 0x6700
          ∷ sending_with_le 0xC0 0x00 0x00 (0x00 ∷ []) 0x01 ⇒ sw 0x6700
          ∷ [];
      codes = fresh;
    }
    -- Le that isn't needed is ignored
    ∷ record {
      card = sample_tries 3 0 3;
      turns =
          sending_with_le 0xA4 0x02 0x0C (0x00 ∷ 0x16 ∷ []) 0x01 ⇒ sw 0x9000
          ∷ with_le 0x2C 0x03 0x01 0x01 ⇒ sw 0x6982
          ∷ with_le 0x22 0xF3 0x06 0x01 ⇒ sw 0x9000
          ∷ sending_with_le 0x22 0x41 0xA4 (0x83 ∷ 0x00 ∷ []) 0x01 ⇒ sw 0x9000
          ∷ sending_with_le 0x24 0x00 0x01 (0x31 ∷ []) 0x01 ⇒ sw 0x6983
          ∷ sending_with_le 0x2C 0x00 0x01 (0x31 ∷ []) 0x01 ⇒ sw 0x63C2
          ∷ [];
      codes = tries 2 0 3;
    }
    ∷ []

abbrev pub StepsShown : Type 0
StepsShown = Shown steps

-- The bytes of all 256 with which a command without data and Le is not refused by this status word. The card's PINs have
-- no tries and its PUK is not verified, so that no step but 5 says 6A86.
abbrev pub passing : ℕ → (ℕ → Bytes) → List ℕ
passing word apdu = sieved (λ x. not (eqb (word_on (sample_tries 3 0 0) (apdu x)) word)) bytes

-- Those that step 5 lets pass as P1 of an instruction, beside a P2; as P2, beside a P1.
abbrev pub firsts : ℕ → ℕ → List ℕ
firsts ins p2 = passing 0x6A86 (λ x. 0x00 ∷ ins ∷ x ∷ p2 ∷ [])

abbrev pub seconds : ℕ → ℕ → List ℕ
seconds ins p1 = passing 0x6A86 (λ x. 0x00 ∷ ins ∷ p1 ∷ x ∷ [])

unfoldable pub parameter_ranges : List (Fact (List ℕ))
parameter_ranges =
    -- 2. class 00h or 10h
    passing 0x6E00 (λ x. x ∷ 0xA4 ∷ 0x00 ∷ 0x0C ∷ []) is (0x00 ∷ 0x10 ∷ [])
    -- 3. the instructions of the list. Left out are 06, 82, 05, 07, 84, CA
    ∷ passing 0x6D00 (λ x. 0x00 ∷ x ∷ 0x00 ∷ 0x00 ∷ []) is
    (0x20 ∷ 0x22 ∷ 0x24 ∷ 0x2A ∷ 0x2C ∷ 0x88 ∷ 0xA4 ∷ 0xB0 ∷ 0xB2 ∷ 0xC0 ∷ [])
    -- 4. class 10h only with 2A 80 86
    ∷ sieved (λ x. eqb (word_on sample_card (0x10 ∷ x ∷ 0x80 ∷ 0x86 ∷ [])) 0x6884) bytes is
    (0x20 ∷ 0x22 ∷ 0x24 ∷ 0x2C ∷ 0x88 ∷ 0xA4 ∷ 0xB0 ∷ 0xB2 ∷ 0xC0 ∷ [])
    ∷ passing 0x6884 (λ x. 0x10 ∷ 0x2A ∷ x ∷ 0x86 ∷ []) is (0x80 ∷ [])
    ∷ passing 0x6884 (λ x. 0x10 ∷ 0x2A ∷ 0x80 ∷ x ∷ []) is (0x86 ∷ [])
    -- 5. A4: P1 00, 01, 02, P2 0C
    ∷ firsts 0xA4 0x0C is (0x00 ∷ 0x01 ∷ 0x02 ∷ [])
    ∷ seconds 0xA4 0x00 is (0x0C ∷ [])
    ∷ seconds 0xA4 0x02 is (0x0C ∷ [])
    -- 5. B2: P1 not 0, P2 04
    ∷ firsts 0xB2 0x04 is counted 255 1
    ∷ seconds 0xB2 0x01 is (0x04 ∷ [])
    -- 5. B0: P1 under 80h, any P2
    ∷ firsts 0xB0 0x00 is counted 128 0
    ∷ seconds 0xB0 0x7F is bytes
    -- 5. C0: P1P2 0000
    ∷ firsts 0xC0 0x00 is (0x00 ∷ [])
    ∷ seconds 0xC0 0x00 is (0x00 ∷ [])
    -- 5. 20, 24: P1 00, P2 0 to 2
    ∷ firsts 0x20 0x01 is (0x00 ∷ [])
    ∷ seconds 0x20 0x00 is (0x00 ∷ 0x01 ∷ 0x02 ∷ [])
    ∷ firsts 0x24 0x01 is (0x00 ∷ [])
    ∷ seconds 0x24 0x00 is (0x00 ∷ 0x01 ∷ 0x02 ∷ [])
    -- 5. 2C: P1 00 or 03, P2 1 or 2
    ∷ firsts 0x2C 0x02 is (0x00 ∷ 0x03 ∷ [])
    ∷ seconds 0x2C 0x00 is (0x01 ∷ 0x02 ∷ [])
    ∷ seconds 0x2C 0x03 is (0x01 ∷ 0x02 ∷ [])
    -- 5. 22: P1 F3, any P2; P1 41, P2 A4, B6 or B8
    ∷ firsts 0x22 0x01 is (0xF3 ∷ [])
    ∷ firsts 0x22 0xB8 is (0x41 ∷ 0xF3 ∷ [])
    ∷ seconds 0x22 0xF3 is bytes
    ∷ seconds 0x22 0x41 is (0xA4 ∷ 0xB6 ∷ 0xB8 ∷ [])
    -- 5. 88: P1P2 0000
    ∷ firsts 0x88 0x00 is (0x00 ∷ [])
    ∷ seconds 0x88 0x00 is (0x00 ∷ [])
    -- 5. 2A: 9E 9A and 80 86; the hash 90 A0 is left out
    ∷ firsts 0x2A 0x9A is (0x9E ∷ [])
    ∷ seconds 0x2A 0x9E is (0x9A ∷ [])
    ∷ firsts 0x2A 0x86 is (0x80 ∷ [])
    ∷ seconds 0x2A 0x80 is (0x86 ∷ [])
    ∷ firsts 0x2A 0xA0 is []
    ∷ []

abbrev pub ParameterRanges : Type 0
ParameterRanges = Holds parameter_ranges

-- A command with n zeros for data, and without Le.
abbrev pub zeros : ℕ → ℕ → ℕ → ℕ → Bytes
zeros ins p1 p2 n = 0x00 ∷ ins ∷ p1 ∷ p2 ∷ cond (eqb n 0) [] (n ∷ replicate n 0x00)

abbrev pub one_or_more : List ℕ
one_or_more = 1 ∷ 2 ∷ 3 ∷ 244 ∷ 245 ∷ 246 ∷ 255 ∷ []

-- The lengths of data, of 0 and these seven, that step 6 lets pass.
abbrev pub bodies : ℕ → ℕ → ℕ → List ℕ
bodies ins p1 p2 =
    sieved (λ n. not (eqb (word_on (sample_tries 3 0 0) (zeros ins p1 p2 n)) 0x6700)) (0 ∷ one_or_more)

unfoldable pub length_ranges : List (Fact (List ℕ))
length_ranges =
    -- 6. A4: P1 00 no data, P1 01 and 02 two bytes
    bodies 0xA4 0x00 0x0C is (0 ∷ [])
    ∷ bodies 0xA4 0x01 0x0C is (2 ∷ [])
    ∷ bodies 0xA4 0x02 0x0C is (2 ∷ [])
    -- 6. B2 no data; 20 with data or without; 24 data required
    ∷ bodies 0xB2 0x01 0x04 is (0 ∷ [])
    ∷ bodies 0x20 0x00 0x01 is (0 ∷ one_or_more)
    ∷ bodies 0x24 0x00 0x01 is one_or_more
    -- 6. 2C: P1 03 no data, P1 00 data required
    ∷ bodies 0x2C 0x03 0x01 is (0 ∷ [])
    ∷ bodies 0x2C 0x00 0x01 is one_or_more
    -- 6. 22 F3 no data; 22 41 data required
    ∷ bodies 0x22 0xF3 0x01 is (0 ∷ [])
    ∷ bodies 0x22 0x41 0xA4 is one_or_more
    -- 6. 88: 1 to 245 bytes; 2A 9E 9A data required
    ∷ bodies 0x88 0x00 0x00 is (1 ∷ 2 ∷ 3 ∷ 244 ∷ 245 ∷ [])
    ∷ bodies 0x2A 0x9E 0x9A is one_or_more
    ∷ []

abbrev pub LengthRanges : Type 0
LengthRanges = Holds length_ranges
