-- Document 01, "Order of judgement for a command", step 7: 22 F3, 22 41 and INTERNAL AUTHENTICATE, and the key that
-- each job takes.
use Rattle.std.specs.Prelude.{ℕ, true, false, not, List, [], ◌∷◌, ◌++◌, map, length, replicate, eqb}
use Rattle.octets.specs.Octets.{Bytes}
use Rattle.rules.specs.declared.Card.{Card}
use Rattle.rules.specs.declared.Environment.{Environment}
use Rattle.rules.specs.Session.{with_environment}
use Rattle.rules.specs.Counting.{Call, next}
use Rattle.rules.specs.Sample.{sample_card}
use Rattle.rules.specs.Cases.{shows, hands, deliver_to, sha1_digest, sign_sha1, choose_key_of, decipher_part, sw, fresh}
use Rattle.cases.specs.SecondCard.{second_card}
use Rattle.cases.specs.Turns.{bytes, sieved, Fact, ◌is◌, Holds, Run, ◌⇒◌, from, Shown, tries, marks, sending}
use Rattle.cases.specs.Turns.{sending_with_le, environment, block, with_session, sample_marks, second_open}
use Rattle.cases.specs.Turns.{in_environment, chained, word_on}

-- The second card, all codes verified, in environment n with three key choices; 0 is "active". Its active keys is
-- 1200h and 0200h.
abbrev pub choosing : ℕ → ℕ → ℕ → ℕ → Card
choosing n a b c = with_session second_open (with_environment second_open.session n (a ∷ b ∷ c ∷ []))

-- 88 of one byte.
abbrev pub authenticate : Call
authenticate = sending 0x88 0x00 0x00 (0x41 ∷ [])

-- 22 41 with data; with 83 00.
abbrev pub choose : ℕ → Bytes → Call
choose = sending 0x22 0x41

abbrev pub choose_active : ℕ → Call
choose_active p2 = choose p2 (0x83 ∷ 0x00 ∷ [])

-- The environment and the choices that a call leaves.
abbrev pub environment_after : Card → Call → Environment
environment_after c x = (next c x).session.environment

abbrev pub is_in : ℕ → ℕ → ℕ → ℕ → Environment
is_in n a b c = record { number = n; choices = a ∷ b ∷ c ∷ [] }

unfoldable pub environments : List (Fact Environment)
environments =
    -- 22 F3: environment P2, 1 or 6; all choices become "active"
    environment_after (choosing 1 0x1100 0x0100 0x1100) (environment 6) is is_in 6 0 0 0
    ∷ environment_after (choosing 6 0x1100 0x0100 0x1100) (environment 1) is is_in 1 0 0 0
    ∷ environment_after (choosing 6 0x1100 0x0100 0x1100) (environment 6) is is_in 6 0 0 0
    -- 22 F3, else 6A88: environment and choices stay
    ∷ environment_after (choosing 6 0x1100 0x0100 0x1200) (environment 2) is is_in 6 0x1100 0x0100 0x1200
    -- 22 41: the choice for the kind that P2 names, and no other; the environment stays
    ∷ environment_after (choosing 1 0 0 0) (choose_key_of 0xA4 0x11 0x00) is is_in 1 0x1100 0 0
    ∷ environment_after (choosing 1 0 0 0) (choose_key_of 0xB6 0x01 0x00) is is_in 1 0 0x0100 0
    ∷ environment_after (choosing 6 0 0 0) (choose_key_of 0xB8 0x11 0x00) is is_in 6 0 0 0x1100
    ∷ environment_after (choosing 1 0x1100 0x0100 0x1100) (choose_key_of 0xA4 0x12 0x00) is is_in 1 0x1200 0x0100 0x1100
    -- 83 00 chooses active, for that kind
    ∷ environment_after (choosing 1 0x1100 0x0100 0x1200) (choose_active 0xA4) is is_in 1 0 0x0100 0x1200
    ∷ environment_after (choosing 6 0x1100 0x0100 0x1200) (choose_active 0xB6) is is_in 6 0x1100 0 0x1200
    ∷ environment_after (choosing 1 0x1100 0x0100 0x1200) (choose_active 0xB8) is is_in 1 0x1100 0x0100 0
    -- a refused choice changes none
    ∷ environment_after (choosing 1 0x1100 0x0100 0x1200) (choose_key_of 0xA4 0x01 0x00) is is_in 1 0x1100 0x0100 0x1200
    ∷ environment_after (choosing 1 0x1100 0x0100 0x1200) (choose 0xB6 (0x83 ∷ [])) is is_in 1 0x1100 0x0100 0x1200
    ∷ []

abbrev pub EnvironmentsShown : Type 0
EnvironmentsShown = Holds environments

-- The status words of 22 41 with some P2, for keys given by their two bytes.
abbrev pub key_numbers : List Bytes
key_numbers =
    (0x01 ∷ 0x00 ∷ [])
    ∷ (0x02 ∷ 0x00 ∷ [])
    ∷ (0x11 ∷ 0x00 ∷ [])
    ∷ (0x12 ∷ 0x00 ∷ [])
    ∷ (0x00 ∷ 0x00 ∷ [])
    ∷ (0x00 ∷ 0x01 ∷ [])
    ∷ (0x01 ∷ 0x01 ∷ [])
    ∷ (0x03 ∷ 0x00 ∷ [])
    ∷ (0x10 ∷ 0xFF ∷ [])
    ∷ (0x13 ∷ 0x00 ∷ [])
    ∷ (0xFF ∷ 0xFF ∷ [])
    ∷ []

abbrev pub words_for : Card → ℕ → List ℕ
words_for c p2 = map (λ key. word_on c (0x00 ∷ 0x22 ∷ 0x41 ∷ p2 ∷ 0x05 ∷ 0x83 ∷ 0x03 ∷ 0x80 ∷ key)) key_numbers

-- The status words of 22 41 with P2 A4 on the second card, for data of another shape.
abbrev pub shapes : List Bytes
shapes =
    (0x83 ∷ [])
    ∷ (0x83 ∷ 0x01 ∷ [])
    ∷ (0x84 ∷ 0x00 ∷ [])
    ∷ (0x83 ∷ 0x00 ∷ 0x00 ∷ [])
    ∷ (0x83 ∷ 0x02 ∷ 0x11 ∷ 0x00 ∷ [])
    ∷ (0x83 ∷ 0x03 ∷ 0x80 ∷ 0x11 ∷ [])
    ∷ (0x83 ∷ 0x03 ∷ 0x80 ∷ 0x11 ∷ 0x00 ∷ 0x00 ∷ [])
    ∷ (0x84 ∷ 0x03 ∷ 0x80 ∷ 0x11 ∷ 0x00 ∷ [])
    ∷ (0x83 ∷ 0x04 ∷ 0x80 ∷ 0x11 ∷ 0x00 ∷ [])
    ∷ (0x83 ∷ 0x03 ∷ 0x81 ∷ 0x11 ∷ 0x00 ∷ [])
    ∷ []

-- The words for the four keys, and 6A80 for the seven numbers that are no key.
abbrev pub and_unknown : ℕ → ℕ → ℕ → ℕ → List ℕ
and_unknown a b c d = a ∷ b ∷ c ∷ d ∷ replicate 7 0x6A80

unfoldable pub choice_words : List (Fact (List ℕ))
choice_words =
    -- a key of its class; wrong class 6A80. B8 takes authentication keys only
    words_for second_card 0xA4 is and_unknown 0x6A80 0x6A80 0x9000 0x9000
    ∷ words_for second_card 0xB6 is and_unknown 0x9000 0x9000 0x6A80 0x6A80
    ∷ words_for second_card 0xB8 is and_unknown 0x6A80 0x6A80 0x9000 0x9000
    -- key not on the card 6A88, after wrong class
    ∷ words_for sample_card 0xA4 is and_unknown 0x6A80 0x6A80 0x9000 0x6A88
    ∷ words_for sample_card 0xB6 is and_unknown 0x9000 0x6A88 0x6A80 0x6A80
    ∷ words_for sample_card 0xB8 is and_unknown 0x6A80 0x6A80 0x9000 0x6A88
    -- other shape 6A80
    ∷ map (λ d. word_on second_card (0x00 ∷ 0x22 ∷ 0x41 ∷ 0xA4 ∷ length d ∷ d)) shapes is replicate 10 0x6A80
    ∷ []

abbrev pub ChoiceWordsShown : Type 0
ChoiceWordsShown = Holds choice_words

-- The bytes, as the high byte of a key number with low byte 00 and as the low byte, that 22 41 with some P2 takes on
-- the second card, which has all four keys.
abbrev pub taken : ℕ → (ℕ → Bytes) → List ℕ
taken p2 key =
    let start : Bytes = 0x00 ∷ 0x22 ∷ 0x41 ∷ p2 ∷ 0x05 ∷ 0x83 ∷ 0x03 ∷ 0x80 ∷ [] in
    sieved (λ x. not (eqb (word_on second_card (start ++ key x)) 0x6A80)) bytes

unfoldable pub key_ranges : List (Fact (List ℕ))
key_ranges =
    -- A4 and B8: 1100h and 1200h; B6: 0100h and 0200h
    taken 0xA4 (λ x. x ∷ 0x00 ∷ []) is (0x11 ∷ 0x12 ∷ [])
    ∷ taken 0xB6 (λ x. x ∷ 0x00 ∷ []) is (0x01 ∷ 0x02 ∷ [])
    ∷ taken 0xB8 (λ x. x ∷ 0x00 ∷ []) is (0x11 ∷ 0x12 ∷ [])
    ∷ taken 0xA4 (λ x. 0x11 ∷ x ∷ []) is (0x00 ∷ [])
    ∷ taken 0xA4 (λ x. 0x12 ∷ x ∷ []) is (0x00 ∷ [])
    ∷ taken 0xB6 (λ x. 0x01 ∷ x ∷ []) is (0x00 ∷ [])
    ∷ taken 0xB6 (λ x. 0x02 ∷ x ∷ []) is (0x00 ∷ [])
    ∷ []

abbrev pub KeyRanges : Type 0
KeyRanges = Holds key_ranges

unfoldable pub keys : List Run
keys =
    -- 22 F3: 1 and 6; else 6A88
    record {
      card = sample_card;
      turns =
          environment 6 ⇒ sw 0x9000
          ∷ environment 1 ⇒ sw 0x9000
          ∷ environment 0 ⇒ sw 0x6A88
          ∷ environment 2 ⇒ sw 0x6A88
          ∷ environment 5 ⇒ sw 0x6A88
          ∷ environment 7 ⇒ sw 0x6A88
          ∷ environment 0xF3 ⇒ sw 0x6A88
          ∷ [];
      codes = fresh;
    }
    -- 88, environment not 1: 6985, before PIN1 not verified 6982, which no other code replaces
    ∷ record {
      card = in_environment 6 sample_card;
      turns =
          authenticate ⇒ sw 0x6985
          ∷ environment 1 ⇒ sw 0x9000
          ∷ authenticate ⇒ sw 0x6982
          ∷ [];
      codes = fresh;
    }
    ∷ from (sample_marks true false true) (authenticate ⇒ sw 0x6982 ∷ []) (marks true false true)
    -- job 1 with the active key; 1 byte and 245; PIN1's mark stays
    ∷ record {
      card = sample_marks false true false;
      turns =
          authenticate ⇒ hands 1 0x1100 (block (0x41 ∷ []))
          ∷ deliver_to [] ⇒ sw 0x6400
          ∷ sending 0x88 0x00 0x00 (replicate 245 0x42) ⇒
          hands 1 0x1100 (0x00 ∷ 0x01 ∷ (replicate 8 0xFF ++ 0x00 ∷ replicate 245 0x42))
          ∷ [];
      codes = marks false true false;
    }
    -- the job keeps the command's Le: 00, FF, none
    ∷ record {
      card = sample_marks false true false;
      turns =
          sending_with_le 0x88 0x00 0x00 (0x41 ∷ []) 0x00 ⇒ hands 1 0x1100 (block (0x41 ∷ []))
          ∷ deliver_to (replicate 256 0x5A) ⇒ shows (replicate 256 0x5A) 0x9000
          ∷ sending_with_le 0x88 0x00 0x00 (0x41 ∷ []) 0xFF ⇒ hands 1 0x1100 (block (0x41 ∷ []))
          ∷ deliver_to (replicate 256 0x5A) ⇒ sw 0x6100
          ∷ sending 0x88 0x00 0x00 (0x41 ∷ []) ⇒ hands 1 0x1100 (block (0x41 ∷ []))
          ∷ deliver_to (replicate 256 0x5A) ⇒ sw 0x6100
          ∷ [];
      codes = marks false true false;
    }
    -- the active keys of the second card, for jobs 1, 2 and 3
    ∷ record {
      card = choosing 1 0 0 0;
      turns =
          authenticate ⇒ hands 1 0x1200 (block (0x41 ∷ []))
          ∷ deliver_to [] ⇒ sw 0x6400
          ∷ sign_sha1 ⇒ hands 2 0x0200 (block sha1_digest)
          ∷ [];
      codes = marks true true false;
    }
    ∷ record {
      card = chained 255 (choosing 6 0 0 0);
      turns = decipher_part 0x00 2 ⇒ hands 3 0x1200 (replicate 256 0x00) ∷ [];
      codes = marks true true true;
    }
    -- the chosen keys, each for its own kind
    ∷ record {
      card = choosing 1 0x1100 0x0100 0;
      turns =
          authenticate ⇒ hands 1 0x1100 (block (0x41 ∷ []))
          ∷ deliver_to [] ⇒ sw 0x6400
          ∷ sign_sha1 ⇒ hands 2 0x0100 (block sha1_digest)
          ∷ [];
      codes = marks true true false;
    }
    ∷ record {
      card = chained 255 (choosing 6 0x1200 0x0200 0x1100);
      turns = decipher_part 0x00 2 ⇒ hands 3 0x1100 (replicate 256 0x00) ∷ [];
      codes = marks true true true;
    }
    -- a choice for job 3 is none for job 1
    ∷ from (choosing 1 0 0 0x1100) (authenticate ⇒ hands 1 0x1200 (block (0x41 ∷ [])) ∷ []) (marks true true true)
    -- chosen by 22 41, and active again by 22 F3
    ∷ record {
      card = second_open;
      turns =
          choose_key_of 0xA4 0x11 0x00 ⇒ sw 0x9000
          ∷ authenticate ⇒ hands 1 0x1100 (block (0x41 ∷ []))
          ∷ deliver_to [] ⇒ sw 0x6400
          ∷ environment 1 ⇒ sw 0x9000
          ∷ authenticate ⇒ hands 1 0x1200 (block (0x41 ∷ []))
          ∷ [];
      codes = marks true true true;
    }
    -- P8 on the second card, which has key 0200h
    ∷ record {
      card = second_card;
      turns =
          choose_key_of 0xB8 0x01 0x00 ⇒ sw 0x6A80
          ∷ choose_key_of 0xB6 0x02 0x00 ⇒ sw 0x9000
          ∷ [];
      codes = tries 3 2 1;
    }
    ∷ []

abbrev pub KeysShown : Type 0
KeysShown = Shown keys
