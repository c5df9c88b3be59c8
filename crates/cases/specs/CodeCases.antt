-- Document 01, "Order of judgement for a command", step 7: VERIFY and CHANGE.
use Rattle.std.specs.Prelude.{ℕ, true, false, List, [], ◌∷◌, ◌++◌, take, replicate}
use Rattle.octets.specs.Octets.{Bytes}
use Rattle.rules.specs.Codes.{PUK, PIN1, PIN2}
use Rattle.rules.specs.Counting.{Call}
use Rattle.rules.specs.Sample.{sample_card, puk, pin1, pin2}
use Rattle.rules.specs.Cases.{code, verify_of, sw}
use Rattle.cases.specs.SecondCard.{second_card, second_puk, second_pin1, second_pin2}
use Rattle.cases.specs.Turns.{Run, ◌⇒◌, from, Shown, tries, marks, sending, fives, nines, sample_tries}
use Rattle.cases.specs.Turns.{sample_marks}

-- CHANGE of code k.
abbrev pub change_of : ℕ → Bytes → Bytes → Call
change_of k old new = sending 0x24 0x00 k (old ++ new)

unfoldable pub codes : List Run
codes =
    -- 20 right, for each code alone: mark on
    from sample_card (verify_of PUK puk ⇒ sw 0x9000 ∷ []) (marks true false false)
    ∷ from sample_card (verify_of PIN1 pin1 ⇒ sw 0x9000 ∷ []) (marks false true false)
    ∷ from sample_card (verify_of PIN2 pin2 ⇒ sw 0x9000 ∷ []) (marks false false true)
    -- 20 right: tries 3, whatever they were
    ∷ record {
      card = sample_tries 1 1 1;
      turns = verify_of PIN1 pin1 ⇒ sw 0x9000 ∷ [];
      codes = code PUK 1 false ∷ code PIN1 3 true ∷ code PIN2 1 false ∷ [];
    }
    ∷ record {
      card = second_card;
      turns =
          verify_of PUK second_puk ⇒ sw 0x9000
          ∷ verify_of PIN1 second_pin1 ⇒ sw 0x9000
          ∷ verify_of PIN2 second_pin2 ⇒ sw 0x9000
          ∷ [];
      codes = marks true true true;
    }
    -- 20 wrong by value, for each code alone: one try less, 63Cx with x left; the last try too
    ∷ from sample_card (verify_of PUK (nines 8) ⇒ sw 0x63C2 ∷ []) (tries 2 3 3)
    ∷ from sample_card (verify_of PIN2 (nines 5) ⇒ sw 0x63C2 ∷ []) (tries 3 3 2)
    ∷ record {
      card = sample_tries 2 1 3;
      turns =
          verify_of PUK (nines 8) ⇒ sw 0x63C1
          ∷ verify_of PIN1 (nines 4) ⇒ sw 0x63C0
          ∷ [];
      codes = tries 1 0 3;
    }
    -- 20 wrong in the last digit alone, in the first alone, and by another code's value
    ∷ record {
      card = sample_card;
      turns =
          verify_of PIN1 (0x31 ∷ 0x32 ∷ 0x33 ∷ 0x35 ∷ []) ⇒ sw 0x63C2
          ∷ verify_of PIN1 (0x30 ∷ 0x32 ∷ 0x33 ∷ 0x34 ∷ []) ⇒ sw 0x63C1
          ∷ verify_of PIN2 puk ⇒ sw 0x63C2
          ∷ [];
      codes = tries 3 1 2;
    }
    -- 20 wrong by length: less, more, with a zero behind it, 255 bytes, 12 bytes and one more
    ∷ record {
      card = sample_card;
      turns =
          verify_of PIN1 (take 3 pin1) ⇒ sw 0x63C2
          ∷ verify_of PIN1 pin2 ⇒ sw 0x63C1
          ∷ verify_of PIN2 (pin2 ++ 0x00 ∷ []) ⇒ sw 0x63C2
          ∷ verify_of PIN2 (pin2 ++ replicate 250 0x00) ⇒ sw 0x63C1
          ∷ [];
      codes = tries 3 1 1;
    }
    ∷ record {
      card = second_card;
      turns =
          verify_of PUK (take 11 second_puk) ⇒ sw 0x63C2
          ∷ verify_of PUK (second_puk ++ 0x30 ∷ []) ⇒ sw 0x63C1
          ∷ [];
      codes = tries 1 2 1;
    }
    -- 20 wrong: mark off, of this code alone
    ∷ record {
      card = sample_marks true true true;
      turns = verify_of PIN1 pin2 ⇒ sw 0x63C2 ∷ [];
      codes = code PUK 3 true ∷ code PIN1 2 false ∷ code PIN2 3 true ∷ [];
    }
    -- 20, no tries 6983, right or wrong, for each code alone
    ∷ record {
      card = sample_tries 0 0 3;
      turns =
          verify_of PIN1 pin1 ⇒ sw 0x6983
          ∷ verify_of PIN1 pin2 ⇒ sw 0x6983
          ∷ verify_of PUK puk ⇒ sw 0x6983
          ∷ verify_of PIN2 pin2 ⇒ sw 0x9000
          ∷ [];
      codes = code PUK 0 false ∷ code PIN1 0 false ∷ code PIN2 3 true ∷ [];
    }
    -- the second card's PIN2 has one try
    ∷ from second_card (verify_of PIN2 (nines 12) ⇒ sw 0x63C0 ∷ verify_of PIN2 second_pin2 ⇒ sw 0x6983 ∷ []) (tries 3 2 0)
    -- 24: new stored, tries 3, mark on (02, wish 4); the new value is right afterwards and the old one wrong
    ∷ record {
      card = sample_tries 3 2 3;
      turns =
          change_of PIN1 pin1 (fives 4) ⇒ sw 0x9000
          ∷ verify_of PIN1 pin1 ⇒ sw 0x63C2
          ∷ verify_of PIN1 (fives 4) ⇒ sw 0x9000
          ∷ [];
      codes = marks false true false;
    }
    ∷ record {
      card = sample_tries 1 2 1;
      turns = change_of PIN1 pin1 (fives 4) ⇒ sw 0x9000 ∷ [];
      codes = code PUK 1 false ∷ code PIN1 3 true ∷ code PIN2 1 false ∷ [];
    }
    ∷ from (sample_marks true true true) (change_of PIN1 pin1 (fives 4) ⇒ sw 0x9000 ∷ []) (marks true true true)
    ∷ record {
      card = sample_marks true true true;
      turns =
          change_of PUK puk (fives 8) ⇒ sw 0x9000
          ∷ verify_of PUK (fives 8) ⇒ sw 0x9000
          ∷ [];
      codes = marks true true true;
    }
    ∷ from (sample_marks true true true) (change_of PIN2 pin2 (fives 5) ⇒ sw 0x9000 ∷ []) (marks true true true)
    -- 24 to the same value: stored
    ∷ from sample_card (change_of PIN1 pin1 pin1 ⇒ sw 0x9000 ∷ []) (marks false true false)
    -- 24: old then new, the old as long as the stored code, here of 12 and of 4
    ∷ record {
      card = second_card;
      turns =
          change_of PUK second_puk (fives 8) ⇒ sw 0x9000
          ∷ verify_of PUK (fives 8) ⇒ sw 0x9000
          ∷ change_of PIN1 second_pin1 second_pin2 ⇒ sw 0x9000
          ∷ verify_of PIN1 second_pin2 ⇒ sw 0x9000
          ∷ [];
      codes = code PUK 3 true ∷ code PIN1 3 true ∷ code PIN2 1 false ∷ [];
    }
    -- 24, old wrong or short: as VERIFY, also where the new value is bad; mark off
    ∷ record {
      card = sample_marks true true true;
      turns =
          change_of PIN1 (nines 4) (fives 4) ⇒ sw 0x63C2
          ∷ change_of PIN1 (take 3 pin1) [] ⇒ sw 0x63C1
          ∷ change_of PIN1 (nines 4) (fives 1) ⇒ sw 0x63C0
          ∷ [];
      codes = code PUK 3 true ∷ code PIN1 0 false ∷ code PIN2 3 true ∷ [];
    }
    -- 24, no tries 6983, before the old and the new value
    ∷ record {
      card = sample_tries 3 0 3;
      turns =
          change_of PIN1 pin1 (fives 4) ⇒ sw 0x6983
          ∷ change_of PIN1 (nines 4) (fives 4) ⇒ sw 0x6983
          ∷ change_of PIN1 pin1 (fives 1) ⇒ sw 0x6983
          ∷ [];
      codes = tries 3 0 3;
    }
    -- 24, new not of allowed length 6A80, codes unchanged; both ends of PIN1's lengths
    ∷ record {
      card = sample_card;
      turns =
          change_of PIN1 pin1 [] ⇒ sw 0x6A80
          ∷ change_of PIN1 pin1 (fives 3) ⇒ sw 0x6A80
          ∷ change_of PIN1 pin1 (fives 13) ⇒ sw 0x6A80
          ∷ change_of PIN1 pin1 (fives 4) ⇒ sw 0x9000
          ∷ change_of PIN1 (fives 4) (nines 12) ⇒ sw 0x9000
          ∷ verify_of PIN1 (nines 12) ⇒ sw 0x9000
          ∷ [];
      codes = marks false true false;
    }
    -- of PIN2's
    ∷ record {
      card = sample_card;
      turns =
          change_of PIN2 pin2 (fives 4) ⇒ sw 0x6A80
          ∷ change_of PIN2 pin2 (fives 13) ⇒ sw 0x6A80
          ∷ change_of PIN2 pin2 (fives 5) ⇒ sw 0x9000
          ∷ change_of PIN2 (fives 5) (nines 12) ⇒ sw 0x9000
          ∷ verify_of PIN2 (nines 12) ⇒ sw 0x9000
          ∷ [];
      codes = marks false false true;
    }
    -- of PUK's
    ∷ record {
      card = sample_card;
      turns =
          change_of PUK puk (fives 7) ⇒ sw 0x6A80
          ∷ change_of PUK puk (fives 13) ⇒ sw 0x6A80
          ∷ change_of PUK puk (fives 8) ⇒ sw 0x9000
          ∷ change_of PUK (fives 8) (nines 12) ⇒ sw 0x9000
          ∷ verify_of PUK (nines 12) ⇒ sw 0x9000
          ∷ [];
      codes = marks true false false;
    }
    -- 24, new not digits 6A80: 2Fh, 3Ah, in the first and the last place; digits are 30h to 39h
    ∷ record {
      card = sample_card;
      turns =
          change_of PIN1 pin1 (0x2F ∷ 0x30 ∷ 0x30 ∷ 0x30 ∷ []) ⇒ sw 0x6A80
          ∷ change_of PIN1 pin1 (0x39 ∷ 0x39 ∷ 0x39 ∷ 0x3A ∷ []) ⇒ sw 0x6A80
          ∷ change_of PIN1 pin1 (0x30 ∷ 0x39 ∷ 0x39 ∷ 0x30 ∷ []) ⇒ sw 0x9000
          ∷ [];
      codes = marks false true false;
    }
    -- 24 with 6A80: tries and marks as they were, and the value too
    ∷ record {
      card = sample_tries 1 2 3;
      turns =
          change_of PUK puk (fives 7) ⇒ sw 0x6A80
          ∷ change_of PIN1 pin1 (fives 3) ⇒ sw 0x6A80
          ∷ [];
      codes = tries 1 2 3;
    }
    ∷ record {
      card = sample_marks true true true;
      turns =
          change_of PIN2 pin2 (fives 4) ⇒ sw 0x6A80
          ∷ change_of PIN1 pin1 (fives 3) ⇒ sw 0x6A80
          ∷ verify_of PIN1 pin1 ⇒ sw 0x9000
          ∷ [];
      codes = marks true true true;
    }
    ∷ []

abbrev pub CodesShown : Type 0
CodesShown = Shown codes
