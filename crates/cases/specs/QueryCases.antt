-- Document 02, wish 1: VERIFY without data asks whether a code is open. No code changes.
use Rattle.std.specs.Prelude.{ℕ, ◌≡◌, Bool, true, false, List, [], ◌∷◌, replicate}
use Rattle.rules.specs.declared.Card.{Card}
use Rattle.rules.specs.Codes.{PUK, PIN1, PIN2, storing}
use Rattle.rules.specs.Counting.{Call, PowerReset, is_command, queries as isQuery, trace}
use Rattle.rules.specs.CodeSheet.{asks_about, asks_plainly, blocked_status, query_status}
use Rattle.rules.specs.Sample.{sample_card, puk, pin1, pin2}
use Rattle.rules.specs.Cases.{Seen, code, refuses, send, deliver_to, verify_of, asking, wrong_pin1, sign_sha1, sign_job, sw, fresh}
use Rattle.cases.specs.SecondCard.{second_card, second_pin2}
use Rattle.cases.specs.Turns.{Run, ◌⇒◌, from, Shown, tries, marks, in_class, bare, with_le, sending, fives, nines}
use Rattle.cases.specs.Turns.{with_codes, sample_tries, sample_marks, second_tries, word_on, Fact, ◌is◌, Holds}
use Rattle.cases.specs.CodeCases.{change_of}
use Rattle.cases.specs.CountCases.{counts}

-- A query of code k with Le.
abbrev pub asking_with_le : ℕ → ℕ → Call
asking_with_le k le = with_le 0x20 0x00 k le

-- PUK, PIN1 and PIN2 are asked about, each twice, and nothing happens to them.
abbrev pub asked_twice : Card → ℕ → ℕ → ℕ → List Seen → Run
asked_twice card puk pin1 pin2 codes =
    from card
    (asking PUK ⇒ sw puk
    ∷ asking PUK ⇒ sw puk
    ∷ asking PIN1 ⇒ sw pin1
    ∷ asking PIN1 ⇒ sw pin1
    ∷ asking PIN2 ⇒ sw pin2
    ∷ asking PIN2 ⇒ sw pin2
    ∷ [])
    codes

unfoldable pub queries : List Run
queries =
    -- 20 without data, not verified: 63Cx with x left, 63C3 too, and asked again the same
    asked_twice sample_card 0x63C3 0x63C3 0x63C3 fresh
    ∷ asked_twice (sample_tries 1 2 3) 0x63C1 0x63C2 0x63C3 (tries 1 2 3)
    ∷ asked_twice second_card 0x63C3 0x63C2 0x63C1 (tries 3 2 1)
    -- 20 without data, verified: 9000, for each code alone
    ∷ asked_twice (sample_marks true false false) 0x9000 0x63C3 0x63C3 (marks true false false)
    ∷ asked_twice (sample_marks false true false) 0x63C3 0x9000 0x63C3 (marks false true false)
    ∷ asked_twice (sample_marks false false true) 0x63C3 0x63C3 0x9000 (marks false false true)
    ∷ record {
      card = second_card;
      turns =
          verify_of PIN2 second_pin2 ⇒ sw 0x9000
          ∷ asking PIN2 ⇒ sw 0x9000
          ∷ asking PIN1 ⇒ sw 0x63C2
          ∷ [];
      codes = code PUK 3 false ∷ code PIN1 2 false ∷ code PIN2 3 true ∷ [];
    }
    -- 20 without data, no tries: 6983
    ∷ asked_twice (sample_tries 0 0 0) 0x6983 0x6983 0x6983 (tries 0 0 0)
    ∷ asked_twice (second_tries 3 0 1) 0x63C3 0x6983 0x63C1 (tries 3 0 1)
    -- with Le as without
    ∷ record {
      card = sample_marks false true false;
      turns =
          asking_with_le PIN1 0x00 ⇒ sw 0x9000
          ∷ asking_with_le PIN2 0x02 ⇒ sw 0x63C3
          ∷ asking_with_le PUK 0xFF ⇒ sw 0x63C3
          ∷ [];
      codes = marks false true false;
    }
    -- while a job waits it is refused with 4; after the delivery's 6400 PIN2 is closed
    ∷ record {
      card = sample_card;
      turns =
          verify_of PIN2 pin2 ⇒ sw 0x9000
          ∷ sign_sha1 ⇒ sign_job
          ∷ asking PIN2 ⇒ refuses 4
          ∷ deliver_to [] ⇒ sw 0x6400
          ∷ asking PIN2 ⇒ sw 0x63C3
          ∷ sign_sha1 ⇒ sw 0x6982
          ∷ [];
      codes = fresh;
    }
    -- its 9000 opens nothing: PIN1's gives no signature, nor does PIN2's 63C3
    ∷ record {
      card = sample_marks true true false;
      turns =
          asking PIN1 ⇒ sw 0x9000
          ∷ asking PIN2 ⇒ sw 0x63C3
          ∷ sign_sha1 ⇒ sw 0x6982
          ∷ [];
      codes = marks true true false;
    }
    -- after what closes a code: 63Cx; after a right VERIFY and a successful CHANGE 9000, after an unblocking 63C3
    ∷ record {
      card = sample_marks true true true;
      turns =
          change_of PIN1 pin1 (fives 4) ⇒ sw 0x9000
          ∷ asking PIN1 ⇒ sw 0x9000
          ∷ verify_of PIN2 (nines 5) ⇒ sw 0x63C2
          ∷ asking PIN2 ⇒ sw 0x63C2
          ∷ asking PUK ⇒ sw 0x9000
          ∷ [];
      codes = code PUK 3 true ∷ code PIN1 3 true ∷ code PIN2 2 false ∷ [];
    }
    ∷ record {
      card = sample_tries 2 0 3;
      turns =
          verify_of PUK puk ⇒ sw 0x9000
          ∷ asking PUK ⇒ sw 0x9000
          ∷ bare 0x2C 0x03 PIN1 ⇒ sw 0x9000
          ∷ asking PIN1 ⇒ sw 0x63C3
          ∷ asking PUK ⇒ sw 0x63C3
          ∷ [];
      codes = fresh;
    }
    -- P1 and P2 as for VERIFY: 6A86; class 10h: 6884
    ∷ record {
      card = sample_card;
      turns =
          bare 0x20 0x01 PIN1 ⇒ sw 0x6A86
          ∷ bare 0x20 0x00 0x03 ⇒ sw 0x6A86
          ∷ in_class 0x10 0x20 0x00 PIN1 ⇒ sw 0x6884
          ∷ [];
      codes = fresh;
    }
    ∷ []

-- Which calls ask, by their bytes: a VERIFY without data, whatever its class, P1, P2 and Le. A VERIFY with data does
-- not, nor another command without data, nor a length form that step 1 refuses, nor a delivery of a query's bytes.
abbrev pub asks : Call → Bool
asks = is_command isQuery

unfoldable pub asking_calls : List (Fact Bool)
asking_calls =
    asks (asking PUK) is true
    ∷ asks (asking PIN1) is true
    ∷ asks (asking PIN2) is true
    ∷ asks (asking_with_le PIN1 0x00) is true
    ∷ asks (asking_with_le PIN2 0xFF) is true
    ∷ asks (bare 0x20 0x01 0x07) is true
    ∷ asks (in_class 0x10 0x20 0x00 PIN1) is true
    ∷ asks (sending 0x20 0x00 PIN1 (0x31 ∷ [])) is false
    ∷ asks (verify_of PIN1 pin1) is false
    ∷ asks (bare 0x24 0x00 PIN1) is false
    ∷ asks (bare 0x2C 0x03 PIN1) is false
    ∷ asks (send (0x00 ∷ 0x20 ∷ 0x00 ∷ [])) is false
    ∷ asks (send (0x00 ∷ 0x20 ∷ 0x00 ∷ PIN1 ∷ 0x00 ∷ 0x00 ∷ [])) is false
    ∷ asks (deliver_to (0x00 ∷ 0x20 ∷ 0x00 ∷ PIN1 ∷ [])) is false
    ∷ asks PowerReset is false
    -- about the code that P2 names; 6983 says that it is blocked
    ∷ is_command (asks_about PIN1) (asking PIN1) is true
    ∷ is_command (asks_about PIN1) (asking PIN2) is false
    ∷ is_command (asks_about PIN1) (verify_of PIN1 pin1) is false
    ∷ blocked_status 0x6983 is true
    -- one that steps 2 to 6 pass: class 00h, P1 00, with Le or without; it is answered 9000, 63Cx or 6983
    ∷ is_command (asks_plainly PIN1) (asking PIN1) is true
    ∷ is_command (asks_plainly PIN1) (asking_with_le PIN1 0x00) is true
    ∷ is_command (asks_plainly PIN1) (asking PIN2) is false
    ∷ is_command (asks_plainly PIN1) (bare 0x20 0x01 PIN1) is false
    ∷ is_command (asks_plainly PIN1) (in_class 0x10 0x20 0x00 PIN1) is false
    ∷ query_status 0x9000 is true
    ∷ query_status 0x63C3 is true
    ∷ query_status 0x6983 is true
    ∷ query_status 0x6700 is false
    ∷ query_status 0x6A86 is false
    ∷ []

-- What is counted where queries stand between presentations: as without them.
abbrev pub between : List Call
between =
    asking PIN1
    ∷ wrong_pin1
    ∷ asking PIN1
    ∷ verify_of PIN1 pin1
    ∷ asking PIN1
    ∷ verify_of PIN2 pin2
    ∷ asking PIN2
    ∷ sign_sha1
    ∷ deliver_to (replicate 256 0x5A)
    ∷ asking PIN2
    ∷ sign_sha1
    ∷ change_of PIN2 pin2 (fives 5)
    ∷ asking PIN2
    ∷ sign_sha1
    ∷ []

pub record QueriesShown : Type 0 where
  pub answers : Shown queries
  pub asked : Holds asking_calls
  -- 6983 comes first: no tries and the mark on, which no good card has, so the edge is left out
  pub first : word_on (with_codes sample_card (storing puk 3 false ∷ storing pin1 0 true ∷ storing pin2 3 false ∷ []))
      (0x00 ∷ 0x20 ∷ 0x00 ∷ PIN1 ∷ []) ≡ 0x6983
  pub counted : counts (trace sample_card between) ≡ 0 ∷ 1 ∷ 0 ∷ 0 ∷ 1 ∷ 2 ∷ 0 ∷ 0 ∷ 1 ∷ 1 ∷ 2 ∷ []
