-- Document 01, "Order of judgement for a command", step 7: RESET RETRY.
use Rattle.std.specs.Prelude.{ℕ, Bool, true, false, List, [], ◌∷◌, ◌++◌, take}
use Rattle.octets.specs.Octets.{Bytes}
use Rattle.rules.specs.declared.Card.{Card}
use Rattle.rules.specs.Codes.{PUK, PIN1, PIN2, storing}
use Rattle.rules.specs.Counting.{Call}
use Rattle.rules.specs.Sample.{sample_card, puk, pin1, pin2}
use Rattle.rules.specs.Cases.{code, send, verify_of, sw}
use Rattle.cases.specs.SecondCard.{second_puk}
use Rattle.cases.specs.Turns.{Run, ◌⇒◌, from, Shown, tries, marks, bare, sending, fives, nines, with_codes}
use Rattle.cases.specs.Turns.{sample_tries, second_tries}

-- 2C with P1 03; with P1 00, a PUK and a new PIN.
abbrev pub unblock : ℕ → Call
unblock pin = bare 0x2C 0x03 pin

abbrev pub unblock_with : ℕ → Bytes → Bytes → Call
unblock_with pin value new = sending 0x2C 0x00 pin (value ++ new)

-- The sample card with both PINs blocked, and a PUK of some tries, verified or not.
abbrev pub blocked : ℕ → Bool → Card
blocked t verified = with_codes sample_card (storing puk t verified ∷ storing pin1 0 false ∷ storing pin2 0 false ∷ [])

-- The second card with PIN1 blocked.
abbrev pub second_blocked : Card
second_blocked = second_tries 2 0 1

unfoldable pub unblocking : List Run
unblocking =
    -- PIN has tries, one or more: 6A86, before the PUK is looked at, not verified, wrong, blocked or right
    record {
      card = sample_tries 3 1 0;
      turns =
          unblock PIN1 ⇒ sw 0x6A86
          ∷ unblock_with PIN1 (nines 8) (fives 4) ⇒ sw 0x6A86
          ∷ unblock_with PIN1 puk (fives 4) ⇒ sw 0x6A86
          ∷ unblock_with PIN1 puk (fives 1) ⇒ sw 0x6A86
          ∷ [];
      codes = tries 3 1 0;
    }
    ∷ record {
      card = sample_tries 0 3 2;
      turns =
          unblock PIN2 ⇒ sw 0x6A86
          ∷ unblock_with PIN1 puk (fives 4) ⇒ sw 0x6A86
          ∷ [];
      codes = tries 0 3 2;
    }
    -- P1 03: PUK not verified 6982
    ∷ from (blocked 3 false) (unblock PIN1 ⇒ sw 0x6982 ∷ unblock PIN2 ⇒ sw 0x6982 ∷ []) (tries 3 0 0)
    -- P1 03, else: tries 3 of the PIN that P2 names, PIN and PUK marks off, the PIN's value as it was
    ∷ from (blocked 3 true) (unblock PIN1 ⇒ sw 0x9000 ∷ []) (tries 3 3 0)
    ∷ record {
      card = blocked 3 true;
      turns =
          unblock PIN2 ⇒ sw 0x9000
          ∷ unblock PIN1 ⇒ sw 0x6982
          ∷ verify_of PIN2 pin2 ⇒ sw 0x9000
          ∷ [];
      codes = code PUK 3 false ∷ code PIN1 0 false ∷ code PIN2 3 true ∷ [];
    }
    -- P1 03 leaves the other PIN's mark
    ∷ record {
      card = with_codes sample_card (storing puk 3 true ∷ storing pin1 0 false ∷ storing pin2 3 true ∷ []);
      turns = unblock PIN1 ⇒ sw 0x9000 ∷ [];
      codes = marks false false true;
    }
    -- P1 00: PUK wrong or short, as the old value in CHANGE: one try less, mark off; also where the new PIN is bad
    ∷ record {
      card = blocked 3 true;
      turns =
          unblock_with PIN1 (nines 8) (fives 4) ⇒ sw 0x63C2
          ∷ unblock_with PIN1 (take 7 puk) [] ⇒ sw 0x63C1
          ∷ unblock_with PIN1 (nines 8) (fives 1) ⇒ sw 0x63C0
          ∷ [];
      codes = tries 0 0 0;
    }
    -- P1 00: 6983 at no tries included, before the values
    ∷ record {
      card = blocked 0 false;
      turns =
          unblock_with PIN1 puk (fives 4) ⇒ sw 0x6983
          ∷ unblock_with PIN1 (nines 8) (fives 4) ⇒ sw 0x6983
          ∷ unblock_with PIN2 puk (fives 1) ⇒ sw 0x6983
          ∷ [];
      codes = tries 0 0 0;
    }
    -- P1 00, bad new PIN 6A80, codes unchanged: the PUK's tries and mark too
    ∷ record {
      card = blocked 2 false;
      turns =
          unblock_with PIN1 puk (fives 3) ⇒ sw 0x6A80
          ∷ unblock_with PIN1 puk [] ⇒ sw 0x6A80
          ∷ [];
      codes = tries 2 0 0;
    }
    ∷ record {
      card = blocked 3 true;
      turns = unblock_with PIN2 puk (fives 4) ⇒ sw 0x6A80 ∷ [];
      codes = code PUK 3 true ∷ code PIN1 0 false ∷ code PIN2 0 false ∷ [];
    }
    ∷ record {
      card = blocked 3 false;
      turns =
          unblock_with PIN1 puk (0x30 ∷ 0x30 ∷ 0x30 ∷ 0x3A ∷ []) ⇒ sw 0x6A80
          ∷ unblock_with PIN1 puk (fives 13) ⇒ sw 0x6A80
          ∷ unblock_with PIN2 puk (fives 13) ⇒ sw 0x6A80
          ∷ [];
      codes = tries 3 0 0;
    }
    -- P1 00, else: PIN stored, both tries 3, both marks off; the limits are those of the PIN that P2 names
    ∷ record {
      card = blocked 2 false;
      turns =
          unblock_with PIN1 puk (fives 4) ⇒ sw 0x9000
          ∷ verify_of PIN1 (fives 4) ⇒ sw 0x9000
          ∷ [];
      codes = code PUK 3 false ∷ code PIN1 3 true ∷ code PIN2 0 false ∷ [];
    }
    ∷ record {
      card = blocked 3 true;
      turns =
          unblock_with PIN2 puk (fives 5) ⇒ sw 0x9000
          ∷ verify_of PIN2 pin2 ⇒ sw 0x63C2
          ∷ [];
      codes = tries 3 0 2;
    }
    ∷ record {
      card = blocked 1 false;
      turns =
          unblock_with PIN2 puk (nines 12) ⇒ sw 0x9000
          ∷ unblock_with PIN1 puk (nines 12) ⇒ sw 0x9000
          ∷ verify_of PIN2 (nines 12) ⇒ sw 0x9000
          ∷ [];
      codes = marks false false true;
    }
    -- a PUK of 12 digits, and the other PIN as it was
    ∷ record {
      card = second_blocked;
      turns =
          unblock_with PIN1 second_puk pin2 ⇒ sw 0x9000
          ∷ verify_of PIN1 pin2 ⇒ sw 0x9000
          ∷ [];
      codes = code PUK 3 false ∷ code PIN1 3 true ∷ code PIN2 1 false ∷ [];
    }
    -- 003's line unblocking PIN2 with Lc 0C for 13 bytes: 12 data bytes and an Le, so that the new PIN2 has 4 digits;
    -- with 0D
    ∷ record {
      card = blocked 3 false;
      turns =
          send (0x00 ∷ 0x2C ∷ 0x00 ∷ 0x02 ∷ 0x0C ∷ (puk ++ pin2)) ⇒ sw 0x6A80
          ∷ send (0x00 ∷ 0x2C ∷ 0x00 ∷ 0x02 ∷ 0x0D ∷ (puk ++ pin2)) ⇒ sw 0x9000
          ∷ [];
      codes = tries 3 0 3;
    }
    ∷ []

abbrev pub UnblockingShown : Type 0
UnblockingShown = Shown unblocking
