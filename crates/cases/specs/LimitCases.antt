-- Document 02, wish 6: a limit on unblocking.
use Rattle.std.specs.Prelude.{ℕ, ◌≡◌, Bool, true, false, List, [], ◌∷◌, ◌++◌, map, length, take, replicate}
use Rattle.rules.specs.declared.Card.{Card}
use Rattle.rules.specs.Codes.{PUK, PIN1, PIN2, no_limit, lowered}
use Rattle.rules.specs.Session.{with_held}
use Rattle.rules.specs.Counting.{Call, Command, PowerReset, next, after}
use Rattle.rules.specs.Sample.{sample_card, puk, pin1, pin2}
use Rattle.rules.specs.Cases.{Seen, with_counts, code, is_reset, refuses, asking, verify_of, wrong_pin1, sign_sha1, sign_job, sw}
use Rattle.rules.specs.Cases.{send, deliver_to, choose_key_of, decipher_part}
use Rattle.cases.specs.SecondCard.{second_puk, second_pin1, second_pin2}
use Rattle.cases.specs.Turns.{Turn, Run, ◌⇒◌, Shown, tries, marks, bare, sending, fives, nines, sample_tries}
use Rattle.cases.specs.Turns.{sample_marks, second_tries, waiting, with_session, at, in_environment, chained, with_le, select_root, select_directory}
use Rattle.cases.specs.Turns.{counted, select_file, record_read, get_response, environment}
use Rattle.cases.specs.UnblockingCases.{unblock, unblock_with, blocked}

-- A run, and the unblocking counts after it.
pub record Limited : Type 0 where
  pub run : Run
  pub left : List ℕ

abbrev pub limited : Card → List Turn → List Seen → ℕ → ℕ → Limited
limited card turns codes a b =
    record { run = record { card = card; turns = turns; codes = codes }; left = a ∷ b ∷ [] }

-- The sample card with both PINs blocked, PUK with 3 tries, verified or not, and the unblocking counts.
abbrev pub limited_to : ℕ → ℕ → Bool → Card
limited_to a b verified = with_counts (blocked 3 verified) (a ∷ b ∷ [])

unfoldable pub limits : List Limited
limits =
    -- at 0 it is 6983, before the PUK is looked at: right, wrong, short, with a bad new PIN; not verified and verified
    limited (limited_to 0 no_limit false) (
    unblock_with PIN1 puk (fives 4) ⇒ sw 0x6983
    ∷ unblock_with PIN1 (nines 8) (fives 4) ⇒ sw 0x6983
    ∷ unblock_with PIN1 (take 7 puk) [] ⇒ sw 0x6983
    ∷ unblock_with PIN1 puk (fives 1) ⇒ sw 0x6983
    ∷ unblock PIN1 ⇒ sw 0x6983
    ∷ []
    ) (tries 3 0 0) 0 no_limit
    ∷ limited (limited_to no_limit 0 true) (
    unblock PIN2 ⇒ sw 0x6983
    ∷ unblock_with PIN2 (nines 8) (fives 5) ⇒ sw 0x6983
    ∷ unblock_with PIN2 puk (fives 5) ⇒ sw 0x6983
    ∷ asking PUK ⇒ sw 0x9000
    ∷ []
    ) (code PUK 3 true ∷ code PIN1 0 false ∷ code PIN2 0 false ∷ []) no_limit 0
    -- with a PUK that has one try left, or none
    ∷ limited (with_counts (blocked 1 false) (0 ∷ 0 ∷ [])) (
    unblock_with PIN1 (nines 8) (fives 4) ⇒ sw 0x6983
    ∷ unblock_with PIN2 (nines 8) (fives 5) ⇒ sw 0x6983
    ∷ []
    ) (tries 1 0 0) 0 0
    ∷ limited (with_counts (blocked 0 false) (0 ∷ 3 ∷ [])) (
    unblock_with PIN1 puk (fives 4) ⇒ sw 0x6983
    ∷ unblock_with PIN2 puk (fives 5) ⇒ sw 0x6983
    ∷ unblock PIN2 ⇒ sw 0x6982
    ∷ []
    ) (tries 0 0 0) 0 3
    -- after PIN has tries, which is 6A86
    ∷ limited (with_counts (sample_tries 3 1 3) (0 ∷ 0 ∷ [])) (
    unblock PIN1 ⇒ sw 0x6A86
    ∷ unblock_with PIN1 (nines 8) (fives 4) ⇒ sw 0x6A86
    ∷ unblock_with PIN2 puk (fives 5) ⇒ sw 0x6A86
    ∷ []
    ) (tries 3 1 3) 0 0
    -- a successful one lowers the PIN's count by one, in both forms; the other PIN's stays
    ∷ limited (limited_to 2 1 true) (unblock PIN1 ⇒ sw 0x9000 ∷ []) (tries 3 3 0) 1 1
    ∷ limited (limited_to 2 1 false) (unblock_with PIN1 puk (fives 4) ⇒ sw 0x9000 ∷ []) (tries 3 3 0) 1 1
    ∷ limited (limited_to 2 3 true) (unblock PIN2 ⇒ sw 0x9000 ∷ []) (tries 3 0 3) 2 2
    ∷ limited (limited_to 2 3 false) (unblock_with PIN2 puk (fives 5) ⇒ sw 0x9000 ∷ []) (tries 3 0 3) 2 2
    -- until it is 0
    ∷ limited (limited_to 1 no_limit false) (
    unblock_with PIN1 puk pin1 ⇒ sw 0x9000
    ∷ wrong_pin1 ⇒ sw 0x63C2
    ∷ wrong_pin1 ⇒ sw 0x63C1
    ∷ wrong_pin1 ⇒ sw 0x63C0
    ∷ unblock_with PIN1 puk pin1 ⇒ sw 0x6983
    ∷ verify_of PUK puk ⇒ sw 0x9000
    ∷ unblock PIN1 ⇒ sw 0x6983
    ∷ unblock PIN2 ⇒ sw 0x9000
    ∷ []
    ) (tries 3 0 3) 0 no_limit
    -- A4h is lowered, A5h is not
    ∷ limited (limited_to 0xA4 no_limit false) (
    unblock_with PIN1 puk (fives 4) ⇒ sw 0x9000
    ∷ unblock_with PIN2 puk (fives 5) ⇒ sw 0x9000
    ∷ []
    ) (tries 3 3 3) 0xA3 no_limit
    ∷ limited (limited_to no_limit 0xA4 true) (
    unblock PIN1 ⇒ sw 0x9000
    ∷ verify_of PUK puk ⇒ sw 0x9000
    ∷ unblock PIN2 ⇒ sw 0x9000
    ∷ []
    ) (tries 3 3 3) no_limit 0xA3
    -- no other answer moves it: 63Cx, 6A80, 6983 of the PUK; 6982; 6A86; steps 1 to 6
    ∷ limited (limited_to 2 2 true) (
    unblock_with PIN1 (nines 8) (fives 4) ⇒ sw 0x63C2
    ∷ unblock_with PIN1 puk (fives 1) ⇒ sw 0x6A80
    ∷ unblock_with PIN2 puk (nines 4) ⇒ sw 0x6A80
    ∷ unblock PIN1 ⇒ sw 0x6982
    ∷ unblock_with PIN1 (nines 8) (fives 4) ⇒ sw 0x63C1
    ∷ unblock_with PIN2 (nines 8) (fives 5) ⇒ sw 0x63C0
    ∷ unblock_with PIN1 puk (fives 4) ⇒ sw 0x6983
    ∷ []
    ) (tries 0 0 0) 2 2
    ∷ limited (limited_to 2 2 true) (
    bare 0x2C 0x01 0x01 ⇒ sw 0x6A86
    ∷ bare 0x2C 0x03 0x00 ⇒ sw 0x6A86
    ∷ bare 0x2C 0x00 0x01 ⇒ sw 0x6700
    ∷ sending 0x2C 0x03 0x01 puk ⇒ sw 0x6700
    ∷ []
    ) (code PUK 3 true ∷ code PIN1 0 false ∷ code PIN2 0 false ∷ []) 2 2
    -- nor does VERIFY, CHANGE, a query, a signature, an edge refusal
    ∷ limited (with_counts (sample_marks true true true) (2 ∷ 7 ∷ [])) (
    verify_of PIN1 pin1 ⇒ sw 0x9000
    ∷ sending 0x24 0x00 0x01 (pin1 ++ fives 4) ⇒ sw 0x9000
    ∷ sending 0x24 0x00 0x02 (pin2 ++ fives 5) ⇒ sw 0x9000
    ∷ sending 0x24 0x00 0x00 (puk ++ fives 8) ⇒ sw 0x9000
    ∷ asking PIN2 ⇒ sw 0x9000
    ∷ Command (0x00 ∷ 0x2C ∷ 0x03 ∷ 0x01 ∷ []) (0x30 ∷ []) (0x30 ∷ []) (replicate 257 0x90) ⇒ refuses 2
    ∷ sign_sha1 ⇒ sign_job
    ∷ bare 0x2C 0x03 0x01 ⇒ refuses 4
    ∷ []
    ) (marks true true false) 2 7
    -- a power reset keeps it, at 0 too
    ∷ limited (limited_to 0 1 false) (
    PowerReset ⇒ is_reset
    ∷ unblock_with PIN1 puk (fives 4) ⇒ sw 0x6983
    ∷ unblock_with PIN2 puk (fives 5) ⇒ sw 0x9000
    ∷ PowerReset ⇒ is_reset
    ∷ []
    ) (tries 3 0 3) 0 0
    -- the second card, with 5 and 1
    ∷ limited (second_tries 2 0 0) (
    unblock_with PIN2 second_puk second_pin2 ⇒ sw 0x9000
    ∷ verify_of PIN2 (fives 5) ⇒ sw 0x63C2
    ∷ verify_of PIN2 (fives 5) ⇒ sw 0x63C1
    ∷ verify_of PIN2 (fives 5) ⇒ sw 0x63C0
    ∷ unblock_with PIN2 second_puk second_pin2 ⇒ sw 0x6983
    ∷ unblock_with PIN2 (nines 12) second_pin2 ⇒ sw 0x6983
    ∷ unblock_with PIN1 (nines 12) second_pin1 ⇒ sw 0x63C2
    ∷ unblock_with PIN1 second_puk second_pin1 ⇒ sw 0x9000
    ∷ []
    ) (tries 3 3 0) 4 0
    ∷ []

-- The counts that calls leave, each by itself, on a card with 2 and 7.
abbrev pub each : Card → List Call → List (List ℕ)
each card calls = map (λ x. (next (with_counts card (2 ∷ 7 ∷ [])) x).counts) calls

abbrev pub opened : Card
opened = sample_marks true true true

-- No other command moves them, answered 9000, with data, by a job or by a refusal; nor a delivery, a reset, an edge refusal.
unfoldable pub kept : List (List ℕ)
kept =
    each opened (
    -- A4: root, EEEEh, a file; 6A82
    select_root
    ∷ select_directory 0xEE 0xEE
    ∷ select_file 0x00 0x16
    ∷ select_file 0x00 0x17
    -- B2 and B0 without a file 6986; C0 with nothing held 6985
    ∷ record_read 1
    ∷ with_le 0xB0 0x00 0x00 0x01
    ∷ get_response 0x00
    -- 20: right and wrong, each code; asked; 24: stored, 6A80, wrong, each code
    ∷ verify_of PUK puk
    ∷ verify_of PIN1 pin1
    ∷ verify_of PIN2 pin2
    ∷ verify_of PUK (nines 8)
    ∷ wrong_pin1
    ∷ verify_of PIN2 (nines 5)
    ∷ asking PUK
    ∷ asking PIN1
    ∷ sending 0x24 0x00 0x00 (puk ++ fives 8)
    ∷ sending 0x24 0x00 0x01 (pin1 ++ fives 4)
    ∷ sending 0x24 0x00 0x02 (pin2 ++ fives 5)
    ∷ sending 0x24 0x00 0x01 (pin1 ++ fives 1)
    ∷ sending 0x24 0x00 0x02 (nines 10)
    -- 22 F3 and 22 41: 9000, 6A88, 6A80
    ∷ environment 6
    ∷ environment 2
    ∷ choose_key_of 0xA4 0x11 0x00
    ∷ choose_key_of 0xB6 0x02 0x00
    ∷ choose_key_of 0xB8 0x01 0x00
    -- 88 and 2A 9E 9A: jobs; 6A80
    ∷ sending 0x88 0x00 0x00 (0x41 ∷ [])
    ∷ sign_sha1
    ∷ sending 0x2A 0x9E 0x9A (0x41 ∷ [])
    -- 2A 80 86: 9000, 6700
    ∷ decipher_part 0x10 255
    ∷ decipher_part 0x00 2
    -- steps 1 to 6: 6700, 6E00, 6D00, 6884, 6A86, 6700
    ∷ send []
    ∷ send (0x80 ∷ 0x20 ∷ 0x00 ∷ 0x01 ∷ [])
    ∷ bare 0x84 0x00 0x08
    ∷ send (0x10 ∷ 0x20 ∷ 0x00 ∷ 0x01 ∷ [])
    ∷ bare 0x2C 0x03 0x03
    ∷ bare 0x2C 0x00 0x01
    -- edge 2, 3 and 5; a reset
    ∷ Command (0x00 ∷ 0x2C ∷ 0x03 ∷ 0x01 ∷ []) (0x30 ∷ []) (0x30 ∷ []) (replicate 257 0x90)
    ∷ Command (0x00 ∷ 0x2C ∷ 0x03 ∷ 0x01 ∷ []) [] (0x30 ∷ []) (replicate 258 0x90)
    ∷ deliver_to (replicate 256 0x5A)
    ∷ PowerReset
    ∷ []
    )
    -- B2 and B0 that give data, or 61xx; C0 that gives all, or a part
    ++ (each (at 0x3F00 0x0016 opened) (record_read 1 ∷ bare 0xB2 0x01 0x04 ∷ record_read 4 ∷ [])
    ++ (each (at 0xEEEE 0xAACE opened) (with_le 0xB0 0x00 0x00 0x01 ∷ with_le 0xB0 0x00 0x00 0xFF ∷ with_le 0xB0 0x00 0x01 0x01 ∷ [])
    ++ (each (with_session opened (with_held opened.session (fives 9))) (get_response 0x00 ∷ get_response 0x04 ∷ select_root ∷ PowerReset ∷ [])
    -- 88, 2A 9E 9A and 2A 80 86 in environment 6: 6985, 6985, a job
    ++ (each (chained 255 (in_environment 6 opened)) (
    sending 0x88 0x00 0x00 (0x41 ∷ [])
    ∷ sign_sha1
    ∷ decipher_part 0x00 2
    ∷ decipher_part 0x00 3
    ∷ select_root
    ∷ []
    )
    -- all codes closed: 6982 of each
    ++ (each sample_card (sending 0x88 0x00 0x00 (0x41 ∷ []) ∷ sign_sha1 ∷ [])
    ++ (each (chained 255 (in_environment 6 sample_card)) (decipher_part 0x00 2 ∷ [])
    -- 63C1 and 63C0 of 20 and 24
    ++ (each (sample_tries 2 2 2) (wrong_pin1 ∷ verify_of PIN2 (nines 5) ∷ sending 0x24 0x00 0x01 (nines 8) ∷ sending 0x24 0x00 0x02 (nines 10) ∷ [])
    ++ (each (sample_tries 1 1 1) (
    wrong_pin1
    ∷ verify_of PIN2 (nines 5)
    ∷ verify_of PUK (nines 8)
    ∷ sending 0x24 0x00 0x01 (nines 8)
    ∷ sending 0x24 0x00 0x02 (nines 10)
    ∷ verify_of PIN1 pin1
    ∷ []
    )
    -- 6983 of 20 and 24; of 2C with no tries left for PUK
    ++ (each (blocked 0 false) (
    verify_of PIN1 pin1
    ∷ asking PIN2
    ∷ sending 0x24 0x00 0x02 (pin2 ++ fives 5)
    ∷ verify_of PUK puk
    ∷ unblock_with PIN1 puk (fives 4)
    ∷ PowerReset
    ∷ []
    )
    -- 2C: 63C2, 63C1, 63C0; 6A80; 6982; 6A86
    ++ (each (blocked 3 false) (unblock_with PIN1 (nines 8) (fives 4) ∷ unblock_with PIN2 (nines 8) (fives 5) ∷ [])
    ++ (each (blocked 2 false) (unblock_with PIN1 (nines 8) (fives 4) ∷ unblock_with PIN2 (nines 8) (fives 5) ∷ [])
    ++ (each (blocked 1 false) (unblock_with PIN1 (nines 8) (fives 4) ∷ unblock_with PIN2 (nines 8) (fives 5) ∷ [])
    ++ (each (blocked 3 false) (unblock_with PIN1 puk (fives 3) ∷ unblock_with PIN2 puk (fives 4) ∷ unblock PIN1 ∷ unblock PIN2 ∷ [])
    ++ (each opened (unblock PIN1 ∷ unblock PIN2 ∷ unblock_with PIN1 puk (fives 4) ∷ [])
    -- a delivery, of 256 bytes and of none; edge 4; a reset
    ++ (each (waiting 1 0x1100 0 opened) (deliver_to (replicate 256 0x5A) ∷ deliver_to [] ∷ sign_sha1 ∷ PowerReset ∷ [])
    ++ (each (waiting 2 0x0100 256 opened) (deliver_to (replicate 256 0x5A) ∷ [])
    ++ each (waiting 3 0x1100 256 opened) (deliver_to (0x00 ∷ 0x02 ∷ (replicate 8 0x01 ++ replicate 246 0x00)) ∷ deliver_to (replicate 256 0x5A) ∷ [])))))))))))))))))

-- What is seen, and the counts that are left.
-- Every count after an unblocking: one less from 1 to A4h, and 0 and A5h as they are.
abbrev pub lowered_counts : List ℕ
lowered_counts = map lowered (counted 0xA6 0)

pub record LimitsShown : Type 0 where
  pub seen : Shown (map (λ x. x.run) limits)
  pub left : map (λ x. (after x.run.card (map (λ t. t.call) x.run.turns)).counts) limits ≡ map (λ x. x.left) limits
  pub kept : kept ≡ replicate (length kept) (2 ∷ 7 ∷ [])
  pub each : lowered_counts ≡ 0 ∷ (counted 0xA4 0 ++ 0xA5 ∷ [])
