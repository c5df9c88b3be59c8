-- Document 02, wish 4: a successful CHANGE leaves its code verified; RESET RETRY leaves the PIN and PUK closed.
use Rattle.std.specs.Prelude.{ℕ, ◌-◌, ◌≡◌, true, false, List, [], ◌∷◌, ◌++◌, map, take, replicate}
use Rattle.octets.specs.Octets.{Bytes}
use Rattle.rules.specs.declared.Card.{Card}
use Rattle.rules.specs.Codes.{PUK, PIN1, PIN2, storing}
use Rattle.rules.specs.Counting.{Call, PowerReset, trace}
use Rattle.rules.specs.Sample.{sample_card, puk, pin1, pin2}
use Rattle.rules.specs.Cases.{shows, code, hands, is_reset, refuses, deliver_to, verify_of, asking, sha1_digest, sign_sha1, sign_job}
use Rattle.rules.specs.Cases.{send, choose_key_of, decipher_part, sw, fresh}
use Rattle.cases.specs.SecondCard.{second_card, second_puk, second_pin1, second_pin2}
use Rattle.cases.specs.Turns.{Turn, Run, ◌⇒◌, from, Shown, tries, marks, with_le, sending, sending_with_le, fives, nines, block}
use Rattle.cases.specs.Turns.{in_class, bare, select_root, select_directory, select_file, record_read, get_response, environment}
use Rattle.cases.specs.Turns.{in_environment}
use Rattle.cases.specs.Turns.{with_codes, sample_tries, sample_marks, second_tries, second_open}
use Rattle.cases.specs.PendingCases.{pending_on}
use Rattle.cases.specs.CodeCases.{change_of}
use Rattle.cases.specs.UnblockingCases.{unblock, unblock_with, blocked}
use Rattle.cases.specs.CountCases.{counts}

-- INTERNAL AUTHENTICATE of three bytes.
abbrev pub authenticate : Call
authenticate = sending 0x88 0x00 0x00 (fives 3)

-- A CHANGE of code k, and a 2C with P1 00 for a PIN, to no value, to one too short, one too long, and one not of digits: 6A80.
abbrev pub bad_changes : ℕ → Bytes → ℕ → List Turn
bad_changes k old least =
    change_of k old [] ⇒ sw 0x6A80
    ∷ change_of k old (fives (least - 1)) ⇒ sw 0x6A80
    ∷ change_of k old (fives 13) ⇒ sw 0x6A80
    ∷ change_of k old (replicate least 0x3A) ⇒ sw 0x6A80
    ∷ []

abbrev pub bad_unblocks : ℕ → ℕ → List Turn
bad_unblocks pin least =
    unblock_with pin puk [] ⇒ sw 0x6A80
    ∷ unblock_with pin puk (fives (least - 1)) ⇒ sw 0x6A80
    ∷ unblock_with pin puk (fives 13) ⇒ sw 0x6A80
    ∷ unblock_with pin puk (replicate least 0x2F) ⇒ sw 0x6A80
    ∷ []

unfoldable pub changes : List Run
changes =
    -- 24 opens its code: each alone, closed before, with three tries or fewer
    from sample_card (change_of PUK puk (fives 8) ⇒ sw 0x9000 ∷ []) (marks true false false)
    ∷ from sample_card (change_of PIN1 pin1 (fives 4) ⇒ sw 0x9000 ∷ []) (marks false true false)
    ∷ from sample_card (change_of PIN2 pin2 (fives 5) ⇒ sw 0x9000 ∷ []) (marks false false true)
    ∷ record {
      card = sample_tries 1 1 1;
      turns = change_of PUK puk (nines 12) ⇒ sw 0x9000 ∷ [];
      codes = code PUK 3 true ∷ code PIN1 1 false ∷ code PIN2 1 false ∷ [];
    }
    ∷ record {
      card = sample_tries 2 2 2;
      turns = change_of PIN2 pin2 (nines 12) ⇒ sw 0x9000 ∷ [];
      codes = code PUK 2 false ∷ code PIN1 2 false ∷ code PIN2 3 true ∷ [];
    }
    ∷ record {
      card = second_card;
      turns =
          change_of PUK second_puk (fives 8) ⇒ sw 0x9000
          ∷ asking PUK ⇒ sw 0x9000
          ∷ asking PIN1 ⇒ sw 0x63C2
          ∷ asking PIN2 ⇒ sw 0x63C1
          ∷ change_of PIN2 second_pin2 (fives 5) ⇒ sw 0x9000
          ∷ asking PIN2 ⇒ sw 0x9000
          ∷ asking PIN1 ⇒ sw 0x63C2
          ∷ change_of PIN1 second_pin1 (fives 12) ⇒ sw 0x9000
          ∷ asking PIN1 ⇒ sw 0x9000
          ∷ [];
      codes = marks true true true;
    }
    -- an open one stays open
    ∷ from (sample_marks true false false) (change_of PUK puk (fives 8) ⇒ sw 0x9000 ∷ []) (marks true false false)
    ∷ from (sample_marks false true false) (change_of PIN1 pin1 (fives 4) ⇒ sw 0x9000 ∷ []) (marks false true false)
    ∷ from (sample_marks false false true) (change_of PIN2 pin2 (fives 5) ⇒ sw 0x9000 ∷ []) (marks false false true)
    -- 24 opens no other code, and closes none
    ∷ from (sample_marks false true true) (change_of PUK puk (fives 8) ⇒ sw 0x9000 ∷ []) (marks true true true)
    ∷ from (sample_marks true false true) (change_of PIN1 pin1 (fives 4) ⇒ sw 0x9000 ∷ []) (marks true true true)
    ∷ from (sample_marks true true false) (change_of PIN2 pin2 (fives 5) ⇒ sw 0x9000 ∷ []) (marks true true true)
    -- the new value is asked for as ever, and the old one is wrong: it closes the code again
    ∷ record {
      card = second_card;
      turns =
          change_of PIN1 second_pin1 second_pin2 ⇒ sw 0x9000
          ∷ verify_of PIN1 second_pin2 ⇒ sw 0x9000
          ∷ verify_of PIN1 second_pin1 ⇒ sw 0x63C2
          ∷ asking PIN1 ⇒ sw 0x63C2
          ∷ [];
      codes = code PUK 3 false ∷ code PIN1 2 false ∷ code PIN2 1 false ∷ [];
    }
    -- a power reset closes what a CHANGE opened, and keeps the value
    ∷ record {
      card = sample_card;
      turns =
          change_of PIN1 pin1 (fives 4) ⇒ sw 0x9000
          ∷ PowerReset ⇒ is_reset
          ∷ asking PIN1 ⇒ sw 0x63C3
          ∷ authenticate ⇒ sw 0x6982
          ∷ verify_of PIN1 (fives 4) ⇒ sw 0x9000
          ∷ [];
      codes = marks false true false;
    }
    -- 24 refused leaves a closed code closed: 6A80 by length and by a byte that is no digit, 63Cx, 6983
    ∷ record {
      card = sample_tries 3 2 1;
      turns =
          change_of PUK puk (fives 7) ⇒ sw 0x6A80
          ∷ change_of PIN1 pin1 (fives 13) ⇒ sw 0x6A80
          ∷ change_of PIN2 pin2 (replicate 5 0x3A) ⇒ sw 0x6A80
          ∷ change_of PIN1 pin1 (replicate 4 0x2F) ⇒ sw 0x6A80
          ∷ [];
      codes = tries 3 2 1;
    }
    ∷ record {
      card = second_card;
      turns =
          change_of PUK second_puk (fives 13) ⇒ sw 0x6A80
          ∷ change_of PIN1 second_pin1 (fives 3) ⇒ sw 0x6A80
          ∷ change_of PIN2 second_pin2 (fives 4) ⇒ sw 0x6A80
          ∷ change_of PIN1 second_pin2 (fives 4) ⇒ sw 0x63C1
          ∷ change_of PIN2 (nines 12) (fives 5) ⇒ sw 0x63C0
          ∷ change_of PIN2 second_pin2 (fives 5) ⇒ sw 0x6983
          ∷ [];
      codes = tries 3 1 0;
    }
    -- 24 refused leaves an open code open where it is 6A80; 63Cx closes it
    ∷ record {
      card = sample_marks true true true;
      turns =
          change_of PUK puk (replicate 8 0x3A) ⇒ sw 0x6A80
          ∷ change_of PIN1 pin1 (fives 3) ⇒ sw 0x6A80
          ∷ change_of PIN2 pin2 (fives 13) ⇒ sw 0x6A80
          ∷ [];
      codes = marks true true true;
    }
    ∷ record {
      card = second_open;
      turns =
          change_of PIN1 second_pin1 (fives 3) ⇒ sw 0x6A80
          ∷ change_of PIN2 (nines 12) (fives 5) ⇒ sw 0x63C2
          ∷ change_of PUK (nines 12) (fives 7) ⇒ sw 0x63C2
          ∷ [];
      codes = code PUK 2 false ∷ code PIN1 3 true ∷ code PIN2 2 false ∷ [];
    }
    -- 24 of PIN2, then a signature at once, and no second one; 24 of PIN1 gives none
    ∷ record {
      card = sample_card;
      turns =
          change_of PIN2 pin2 (fives 5) ⇒ sw 0x9000
          ∷ sign_sha1 ⇒ sign_job
          ∷ deliver_to (replicate 256 0x5A) ⇒ sw 0x6100
          ∷ sign_sha1 ⇒ sw 0x6982
          ∷ change_of PIN2 (fives 5) pin2 ⇒ sw 0x9000
          ∷ sign_sha1 ⇒ sign_job
          ∷ change_of PIN2 pin2 (fives 5) ⇒ refuses 4
          ∷ deliver_to [] ⇒ sw 0x6400
          ∷ sign_sha1 ⇒ sw 0x6982
          ∷ [];
      codes = fresh;
    }
    ∷ record {
      card = sample_card;
      turns =
          change_of PIN1 pin1 (fives 4) ⇒ sw 0x9000
          ∷ sign_sha1 ⇒ sw 0x6982
          ∷ change_of PUK puk (fives 8) ⇒ sw 0x9000
          ∷ sign_sha1 ⇒ sw 0x6982
          ∷ [];
      codes = marks true true false;
    }
    ∷ record {
      card = second_tries 3 3 1;
      turns =
          change_of PIN2 second_pin2 (fives 4) ⇒ sw 0x6A80
          ∷ sign_sha1 ⇒ sw 0x6982
          ∷ change_of PIN2 second_pin2 (fives 12) ⇒ sw 0x9000
          ∷ sign_sha1 ⇒ hands 2 0x0200 (block sha1_digest)
          ∷ deliver_to (replicate 256 0x5A) ⇒ sw 0x6100
          ∷ asking PIN2 ⇒ sw 0x63C3
          ∷ [];
      codes = fresh;
    }
    -- 24 of PIN1, then INTERNAL AUTHENTICATE and DECIPHER, more than once; 24 of PIN2 gives none
    ∷ record {
      card = second_card;
      turns =
          change_of PIN2 second_pin2 (fives 5) ⇒ sw 0x9000
          ∷ authenticate ⇒ sw 0x6982
          ∷ change_of PIN1 second_pin1 (fives 4) ⇒ sw 0x9000
          ∷ authenticate ⇒ hands 1 0x1200 (block (fives 3))
          ∷ deliver_to (replicate 256 0x5A) ⇒ sw 0x6100
          ∷ authenticate ⇒ hands 1 0x1200 (block (fives 3))
          ∷ deliver_to [] ⇒ sw 0x6400
          ∷ [];
      codes = marks false true true;
    }
    ∷ record {
      card = sample_tries 3 1 3;
      turns =
          environment 6 ⇒ sw 0x9000
          ∷ change_of PIN1 pin1 (fives 4) ⇒ sw 0x9000
          ∷ decipher_part 0x10 255 ⇒ sw 0x9000
          ∷ decipher_part 0x00 2 ⇒ hands 3 0x1100 (replicate 256 0x00)
          ∷ deliver_to [] ⇒ sw 0x6400
          ∷ asking PIN1 ⇒ sw 0x9000
          ∷ [];
      codes = marks false true false;
    }
    -- 24 of PUK, then 2C 03: the PIN is unblocked, once; 24 of a PIN does not do
    ∷ record {
      card = sample_tries 2 0 0;
      turns =
          unblock PIN1 ⇒ sw 0x6982
          ∷ change_of PUK puk (fives 8) ⇒ sw 0x9000
          ∷ unblock PIN1 ⇒ sw 0x9000
          ∷ asking PUK ⇒ sw 0x63C3
          ∷ asking PIN1 ⇒ sw 0x63C3
          ∷ unblock PIN2 ⇒ sw 0x6982
          ∷ change_of PUK (fives 8) puk ⇒ sw 0x9000
          ∷ unblock PIN2 ⇒ sw 0x9000
          ∷ verify_of PIN1 pin1 ⇒ sw 0x9000
          ∷ [];
      codes = marks false true false;
    }
    ∷ record {
      card = sample_tries 3 0 2;
      turns =
          change_of PIN2 pin2 (fives 5) ⇒ sw 0x9000
          ∷ unblock PIN1 ⇒ sw 0x6982
          ∷ [];
      codes = code PUK 3 false ∷ code PIN1 0 false ∷ code PIN2 3 true ∷ [];
    }
    -- 2C 9000 leaves PIN and PUK closed, whatever opened PUK, and the other PIN as it was; nothing is signed with it
    ∷ record {
      card = with_codes sample_card (storing puk 3 false ∷ storing pin1 3 true ∷ storing pin2 0 false ∷ []);
      turns =
          change_of PUK puk (fives 8) ⇒ sw 0x9000
          ∷ unblock_with PIN2 (fives 8) (nines 5) ⇒ sw 0x9000
          ∷ asking PIN2 ⇒ sw 0x63C3
          ∷ asking PUK ⇒ sw 0x63C3
          ∷ sign_sha1 ⇒ sw 0x6982
          ∷ [];
      codes = marks false true false;
    }
    ∷ record {
      card = with_codes second_card (storing second_puk 3 true ∷ storing second_pin1 0 false ∷ storing second_pin2 3 true ∷ []);
      turns =
          unblock_with PIN1 second_puk (fives 4) ⇒ sw 0x9000
          ∷ authenticate ⇒ sw 0x6982
          ∷ [];
      codes = marks false false true;
    }
    ∷ record {
      card = with_codes second_card (storing second_puk 3 true ∷ storing second_pin1 0 false ∷ storing second_pin2 0 false ∷ []);
      turns =
          unblock PIN2 ⇒ sw 0x9000
          ∷ unblock_with PIN1 second_puk (fives 4) ⇒ sw 0x9000
          ∷ sign_sha1 ⇒ sw 0x6982
          ∷ authenticate ⇒ sw 0x6982
          ∷ [];
      codes = fresh;
    }
    -- a 2C that is refused opens nothing
    ∷ record {
      card = sample_tries 3 0 0;
      turns =
          unblock_with PIN1 puk (fives 3) ⇒ sw 0x6A80
          ∷ unblock_with PIN2 (nines 8) (fives 5) ⇒ sw 0x63C2
          ∷ [];
      codes = tries 2 0 0;
    }
    -- 24 opens its code with values of any length, longer and shorter; to the same value, each code; to another code's value
    ∷ record {
      card = sample_card;
      turns =
          change_of PIN1 pin1 (fives 6) ⇒ sw 0x9000
          ∷ asking PIN1 ⇒ sw 0x9000
          ∷ change_of PIN2 pin2 (fives 8) ⇒ sw 0x9000
          ∷ asking PIN2 ⇒ sw 0x9000
          ∷ change_of PUK puk (fives 10) ⇒ sw 0x9000
          ∷ asking PUK ⇒ sw 0x9000
          ∷ PowerReset ⇒ is_reset
          ∷ change_of PIN1 (fives 6) (nines 5) ⇒ sw 0x9000
          ∷ asking PIN1 ⇒ sw 0x9000
          ∷ change_of PIN2 (fives 8) (nines 7) ⇒ sw 0x9000
          ∷ asking PIN2 ⇒ sw 0x9000
          ∷ change_of PUK (fives 10) (nines 9) ⇒ sw 0x9000
          ∷ asking PUK ⇒ sw 0x9000
          ∷ PowerReset ⇒ is_reset
          ∷ change_of PIN1 (nines 5) (nines 5) ⇒ sw 0x9000
          ∷ change_of PIN2 (nines 7) (nines 7) ⇒ sw 0x9000
          ∷ change_of PUK (nines 9) (nines 9) ⇒ sw 0x9000
          ∷ [];
      codes = marks true true true;
    }
    ∷ record {
      card = second_card;
      turns = change_of PUK second_puk second_puk ⇒ sw 0x9000 ∷ [];
      codes = code PUK 3 true ∷ code PIN1 2 false ∷ code PIN2 1 false ∷ [];
    }
    ∷ record {
      card = sample_card;
      turns =
          change_of PIN1 pin1 pin2 ⇒ sw 0x9000
          ∷ change_of PIN2 pin2 puk ⇒ sw 0x9000
          ∷ [];
      codes = marks false true true;
    }
    -- with Le as without
    ∷ record {
      card = sample_card;
      turns =
          sending_with_le 0x24 0x00 PIN1 (pin1 ++ fives 4) 0x00 ⇒ sw 0x9000
          ∷ sending_with_le 0x24 0x00 PIN2 (pin2 ++ fives 5) 0x02 ⇒ sw 0x9000
          ∷ sending_with_le 0x24 0x00 PUK (puk ++ fives 8) 0xFF ⇒ sw 0x9000
          ∷ [];
      codes = marks true true true;
    }
    -- where other codes are blocked; with fewer tries, where the others have three
    ∷ record {
      card = sample_tries 0 3 0;
      turns = change_of PIN1 pin1 (fives 4) ⇒ sw 0x9000 ∷ [];
      codes = code PUK 0 false ∷ code PIN1 3 true ∷ code PIN2 0 false ∷ [];
    }
    ∷ record {
      card = sample_tries 0 0 2;
      turns = change_of PIN2 pin2 (fives 5) ⇒ sw 0x9000 ∷ [];
      codes = code PUK 0 false ∷ code PIN1 0 false ∷ code PIN2 3 true ∷ [];
    }
    ∷ from (sample_tries 1 3 3) (change_of PUK puk (fives 8) ⇒ sw 0x9000 ∷ []) (marks true false false)
    -- in either environment, with a file, a held answer and a chain
    ∷ from (pending_on sample_card) (change_of PIN1 pin1 (fives 4) ⇒ sw 0x9000 ∷ []) (marks false true false)
    ∷ from (in_environment 6 (pending_on sample_card)) (change_of PIN2 pin2 (fives 5) ⇒ sw 0x9000 ∷ []) (marks false false true)
    ∷ from (in_environment 6 (pending_on sample_card)) (change_of PUK puk (fives 8) ⇒ sw 0x9000 ∷ []) (marks true false false)
    -- and leaves directory, file, environment and key choices as they were; so does 2C
    ∷ record {
      card = second_card;
      turns =
          select_directory 0xEE 0xEE ⇒ sw 0x9000
          ∷ select_file 0x50 0x44 ⇒ sw 0x9000
          ∷ choose_key_of 0xA4 0x11 0x00 ⇒ sw 0x9000
          ∷ change_of PIN1 second_pin1 (fives 4) ⇒ sw 0x9000
          ∷ record_read 1 ⇒ shows (0xFF ∷ []) 0x9000
          ∷ authenticate ⇒ hands 1 0x1100 (block (fives 3))
          ∷ deliver_to [] ⇒ sw 0x6400
          ∷ [];
      codes = code PUK 3 false ∷ code PIN1 3 true ∷ code PIN2 1 false ∷ [];
    }
    ∷ record {
      card = second_tries 3 0 0;
      turns =
          environment 6 ⇒ sw 0x9000
          ∷ select_directory 0xEE 0xEE ⇒ sw 0x9000
          ∷ select_file 0x50 0x44 ⇒ sw 0x9000
          ∷ choose_key_of 0xB8 0x11 0x00 ⇒ sw 0x9000
          ∷ unblock_with PIN1 second_puk (fives 4) ⇒ sw 0x9000
          ∷ record_read 1 ⇒ shows (0xFF ∷ []) 0x9000
          ∷ asking PIN1 ⇒ sw 0x63C3
          ∷ asking PUK ⇒ sw 0x63C3
          ∷ change_of PUK second_puk (fives 8) ⇒ sw 0x9000
          ∷ unblock PIN2 ⇒ sw 0x9000
          ∷ record_read 1 ⇒ shows (0xFF ∷ []) 0x9000
          ∷ verify_of PIN1 (fives 4) ⇒ sw 0x9000
          ∷ decipher_part 0x10 255 ⇒ sw 0x9000
          ∷ decipher_part 0x00 2 ⇒ hands 3 0x1100 (replicate 256 0x00)
          ∷ deliver_to [] ⇒ sw 0x6400
          ∷ [];
      codes = marks false true false;
    }
    ∷ from (pending_on (blocked 3 true)) (unblock PIN1 ⇒ sw 0x9000 ∷ []) (tries 3 3 0)
    ∷ from (pending_on (blocked 3 true)) (unblock_with PIN2 puk (fives 5) ⇒ sw 0x9000 ∷ []) (tries 3 0 3)
    -- 24 with 6A80, for each code and each bad new value: a closed code stays closed, an open one open
    ∷ from sample_card (bad_changes PUK puk 8 ++ bad_changes PIN1 pin1 4 ++ bad_changes PIN2 pin2 5) fresh
    ∷ from (sample_marks true true true) (bad_changes PUK puk 8 ++ bad_changes PIN1 pin1 4 ++ bad_changes PIN2 pin2 5) (marks true true true)
    -- 24 with 6983 leaves the other codes open
    ∷ record {
      card = with_codes sample_card (storing puk 3 true ∷ storing pin1 0 false ∷ storing pin2 3 true ∷ []);
      turns =
          change_of PIN1 pin1 (fives 4) ⇒ sw 0x6983
          ∷ change_of PIN1 (nines 4) (fives 3) ⇒ sw 0x6983
          ∷ [];
      codes = code PUK 3 true ∷ code PIN1 0 false ∷ code PIN2 3 true ∷ [];
    }
    -- 24, old short: an open code is closed; new then old is wrong
    ∷ record {
      card = sample_marks true true true;
      turns =
          change_of PUK (take 7 puk) [] ⇒ sw 0x63C2
          ∷ change_of PIN1 (take 3 pin1) [] ⇒ sw 0x63C2
          ∷ change_of PIN2 (fives 5) pin2 ⇒ sw 0x63C2
          ∷ [];
      codes = tries 2 2 2;
    }
    -- 2C 9000 leaves the other PIN: open, closed with three tries, and with fewer; new values of any length
    ∷ record {
      card = with_codes second_card (storing second_puk 3 true ∷ storing second_pin1 3 true ∷ storing second_pin2 0 false ∷ []);
      turns = unblock PIN2 ⇒ sw 0x9000 ∷ [];
      codes = marks false true false;
    }
    ∷ record {
      card = with_codes sample_card (storing puk 3 true ∷ storing pin1 3 false ∷ storing pin2 0 false ∷ []);
      turns = unblock PIN2 ⇒ sw 0x9000 ∷ [];
      codes = fresh;
    }
    ∷ from (sample_tries 3 3 0) (unblock_with PIN2 puk (fives 9) ⇒ sw 0x9000 ∷ []) fresh
    ∷ from (sample_tries 3 0 3) (unblock_with PIN1 puk (fives 7) ⇒ sw 0x9000 ∷ []) fresh
    ∷ record {
      card = with_codes sample_card (storing puk 3 true ∷ storing pin1 1 false ∷ storing pin2 0 false ∷ []);
      turns = unblock PIN2 ⇒ sw 0x9000 ∷ [];
      codes = tries 3 1 3;
    }
    ∷ record {
      card = with_codes sample_card (storing puk 3 true ∷ storing pin1 0 false ∷ storing pin2 2 false ∷ []);
      turns = unblock PIN1 ⇒ sw 0x9000 ∷ [];
      codes = tries 3 3 2;
    }
    ∷ from (second_tries 2 1 0) (unblock_with PIN2 second_puk (fives 5) ⇒ sw 0x9000 ∷ []) (tries 3 1 3)
    -- with Le as without
    ∷ record {
      card = blocked 3 true;
      turns =
          with_le 0x2C 0x03 PIN1 0x00 ⇒ sw 0x9000
          ∷ asking PUK ⇒ sw 0x63C3
          ∷ sending_with_le 0x2C 0x00 PIN2 (puk ++ fives 5) 0xFF ⇒ sw 0x9000
          ∷ [];
      codes = fresh;
    }
    -- a 2C that is refused leaves PUK and the other PIN, open or closed: 6A80, 6982, 6983, 6A86; 63Cx closes PUK alone
    ∷ from (blocked 3 false) (bad_unblocks PIN1 4 ++ bad_unblocks PIN2 5) (tries 3 0 0)
    ∷ record {
      card = with_codes sample_card (storing puk 3 true ∷ storing pin1 3 true ∷ storing pin2 0 false ∷ []);
      turns = bad_unblocks PIN2 5;
      codes = code PUK 3 true ∷ code PIN1 3 true ∷ code PIN2 0 false ∷ [];
    }
    ∷ record {
      card = with_codes sample_card (storing puk 3 true ∷ storing pin1 0 false ∷ storing pin2 3 true ∷ []);
      turns = bad_unblocks PIN1 4;
      codes = code PUK 3 true ∷ code PIN1 0 false ∷ code PIN2 3 true ∷ [];
    }
    ∷ record {
      card = with_codes sample_card (storing puk 3 true ∷ storing pin1 3 true ∷ storing pin2 0 false ∷ []);
      turns =
          unblock_with PIN2 (nines 8) (fives 5) ⇒ sw 0x63C2
          ∷ unblock PIN2 ⇒ sw 0x6982
          ∷ unblock_with PIN2 (take 7 puk) [] ⇒ sw 0x63C1
          ∷ unblock_with PIN2 (fives 8) puk ⇒ sw 0x63C0
          ∷ unblock_with PIN2 puk (fives 5) ⇒ sw 0x6983
          ∷ [];
      codes = code PUK 0 false ∷ code PIN1 3 true ∷ code PIN2 0 false ∷ [];
    }
    ∷ record {
      card = with_codes sample_card (storing puk 1 false ∷ storing pin1 0 false ∷ storing pin2 3 true ∷ []);
      turns =
          unblock PIN1 ⇒ sw 0x6982
          ∷ unblock_with PIN1 (nines 8) (fives 4) ⇒ sw 0x63C0
          ∷ unblock_with PIN1 puk (fives 4) ⇒ sw 0x6983
          ∷ [];
      codes = code PUK 0 false ∷ code PIN1 0 false ∷ code PIN2 3 true ∷ [];
    }
    ∷ record {
      card = sample_marks true true false;
      turns =
          unblock PIN1 ⇒ sw 0x6A86
          ∷ unblock PIN2 ⇒ sw 0x6A86
          ∷ unblock_with PIN1 puk (fives 4) ⇒ sw 0x6A86
          ∷ unblock_with PIN2 (nines 8) (fives 5) ⇒ sw 0x6A86
          ∷ [];
      codes = marks true true false;
    }
    -- nothing else closes what a CHANGE opened: files, environments, key choices, jobs 1 and 3, deliveries, refusals
    ∷ record {
      card = sample_card;
      turns =
          change_of PUK puk (fives 8) ⇒ sw 0x9000
          ∷ change_of PIN1 pin1 (fives 4) ⇒ sw 0x9000
          ∷ change_of PIN2 pin2 (fives 5) ⇒ sw 0x9000
          ∷ select_file 0x00 0x16 ⇒ sw 0x9000
          ∷ bare 0xB2 0x03 0x04 ⇒ sw 0x6106
          ∷ get_response 0x00 ⇒ shows (0x80 ∷ 0x01 ∷ 0x03 ∷ 0x90 ∷ 0x01 ∷ 0x03 ∷ []) 0x9000
          ∷ with_le 0xB0 0x00 0x00 0x00 ⇒ sw 0x6981
          ∷ select_directory 0xEE 0xEE ⇒ sw 0x9000
          ∷ select_file 0xAA 0xCE ⇒ sw 0x9000
          ∷ with_le 0xB0 0x00 0x00 0x02 ⇒ shows (0x30 ∷ []) 0x6282
          ∷ select_root ⇒ sw 0x9000
          ∷ select_directory 0x12 0x34 ⇒ sw 0x6A82
          ∷ environment 6 ⇒ sw 0x9000
          ∷ decipher_part 0x10 255 ⇒ sw 0x9000
          ∷ decipher_part 0x00 2 ⇒ hands 3 0x1100 (replicate 256 0x00)
          ∷ deliver_to (replicate 256 0x5A) ⇒ sw 0x6A80
          ∷ decipher_part 0x00 1 ⇒ sw 0x6700
          ∷ sign_sha1 ⇒ sw 0x6985
          ∷ environment 2 ⇒ sw 0x6A88
          ∷ environment 1 ⇒ sw 0x9000
          ∷ choose_key_of 0xB6 0x01 0x00 ⇒ sw 0x9000
          ∷ choose_key_of 0xB6 0x02 0x00 ⇒ sw 0x6A88
          ∷ authenticate ⇒ hands 1 0x1100 (block (fives 3))
          ∷ asking PIN2 ⇒ refuses 4
          ∷ deliver_to (replicate 256 0x5A) ⇒ sw 0x6100
          ∷ sending 0x2A 0x9E 0x9A (fives 1) ⇒ sw 0x6A80
          ∷ send [] ⇒ sw 0x6700
          ∷ in_class 0x0C 0xA4 0x00 0x0C ⇒ sw 0x6E00
          ∷ bare 0x84 0x00 0x00 ⇒ sw 0x6D00
          ∷ in_class 0x10 0x24 0x00 PIN1 ⇒ sw 0x6884
          ∷ bare 0x24 0x00 0x03 ⇒ sw 0x6A86
          ∷ bare 0x24 0x00 PIN1 ⇒ sw 0x6700
          ∷ asking PIN1 ⇒ sw 0x9000
          ∷ asking PUK ⇒ sw 0x9000
          ∷ [];
      codes = marks true true true;
    }
    ∷ []

-- Both parts of the sum are needed: a signature after one CHANGE of PIN2 and no VERIFY, one after a VERIFY and no CHANGE, and one after each.
abbrev pub three_runs : Card → Bytes → List (List ℕ)
three_runs c value =
    map (λ calls. counts (trace c calls)) (
    (change_of PIN2 value value ∷ sign_sha1 ∷ [])
    ∷ (verify_of PIN2 value ∷ sign_sha1 ∷ [])
    ∷ (change_of PIN2 value value ∷ sign_sha1 ∷ PowerReset ∷ verify_of PIN2 value ∷ sign_sha1 ∷ [])
    ∷ []
    )

abbrev pub their_counts : List (List ℕ)
their_counts =
    (0 ∷ 0 ∷ 0 ∷ 0 ∷ 0 ∷ 1 ∷ 0 ∷ 0 ∷ 0 ∷ 1 ∷ 1 ∷ [])
    ∷ (0 ∷ 0 ∷ 0 ∷ 0 ∷ 0 ∷ 1 ∷ 0 ∷ 0 ∷ 1 ∷ 0 ∷ 1 ∷ [])
    ∷ (0 ∷ 0 ∷ 0 ∷ 0 ∷ 0 ∷ 2 ∷ 0 ∷ 0 ∷ 1 ∷ 1 ∷ 2 ∷ [])
    ∷ []

pub record ChangesShown : Type 0 where
  pub runs : Shown changes
  pub sample : three_runs sample_card pin2 ≡ their_counts
  pub second : three_runs second_card second_pin2 ≡ their_counts
