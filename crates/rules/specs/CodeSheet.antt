-- What opens and closes a code, what moves its retry counter, what stores a value, and what moves a PIN's unblocking count: the code after
-- any call, in terms of the code before it, the call's bytes and its answer; and what a query is told of it. One sheet for the three codes.
use Rattle.std.specs.Prelude.{ℕ, ◌+◌, ◌-◌, ◌≤◌, ◌<◌, ◌≡◌, Bool, true, false, cond, not, ◌&&◌, ◌||◌, [], length, take, drop, eqb}
use Rattle.octets.specs.Octets.{Bytes, same}
use Rattle.rules.specs.declared.Card.{Card}
use Rattle.rules.specs.declared.Command.TheVariants.{ResetRetry}
use Rattle.rules.specs.declared.Header.{Header}
use Rattle.rules.specs.declared.JobKind.TheVariants.{Authenticate, Decipher}
use Rattle.rules.specs.Numbers.{kind_number, Returned, edge, responded, handed_out, was_reset}
use Rattle.rules.specs.Codes.{PUK, PIN1, PIN2, full_tries, value, code_of, count_of, lowered}
use Rattle.rules.specs.Judgement.{lengths}
use Rattle.rules.specs.Edge.{Result}
use Rattle.rules.specs.Counting.{Call, Exchange, step, next, exchange_of, exchange, status_word, sent_by, read_off, data_sent, ok_status}
use Rattle.rules.specs.Counting.{returned_kind, wrong_status, is_command, queries, unblocks, presents_puk, answers}
use Rattle.rules.specs.Counting.{wrong_answer, restoration, unblocking, right_verify, changed, hands_job, hands_signature}

-- 9000 to a 2C, which closes the PIN that P2 names and PUK.
abbrev pub any_unblocks : Header → Bool
any_unblocks h = eqb h.ins 0x2C

abbrev pub any_unblocked : Exchange → Bool
any_unblocked = answers ok_status any_unblocks

-- 9000 to a 2C with P1 00 for PIN k, which stores a new value.
abbrev pub stores_pin : ℕ → Header → Bool
stores_pin k h = unblocks k h && presents_puk h

-- A power reset that was done.
unfoldable pub reset_done : Returned → Bool
reset_done (edge n) = false
reset_done (responded n) = false
reset_done (handed_out kind key) = false
reset_done was_reset = true

-- A code is opened by a right VERIFY and by a successful CHANGE of it (02, wish 4), by nothing else.
unfoldable pub opens : ℕ → Exchange → Bool
opens k e = right_verify k e || changed k e

-- A code is closed by a wrong answer to it, by 9000 to a RESET RETRY of it (PUK: of either PIN), by a signature handed out (PIN2), and by
-- a power reset.
unfoldable pub closes : ℕ → Exchange → Bool
closes k e =
    wrong_answer k e
    || unblocking k e
    || (eqb k PUK && any_unblocked e)
    || (eqb k PIN2 && hands_signature e)
    || reset_done e.returned

-- The mark after a call: on if the call opens the code, or if it was on and the call does not close the code.
abbrev pub verified_after : ℕ → Exchange → Bool → Bool
verified_after k e verified = opens k e || (not (closes k e) && verified)

-- The tries after a call: one less on a wrong answer, three on a restoration or an unblocking, else as before.
abbrev pub tries_after : ℕ → Exchange → ℕ → ℕ
tries_after k e tries = cond (wrong_answer k e) (tries - 1) (cond (restoration k e || unblocking k e) full_tries tries)

-- The stored value after a call: what follows the old value in a CHANGE, what follows the PUK in a RESET RETRY with P1 00,
-- each where it was answered 9000; else as before.
abbrev pub value_after : ℕ → Exchange → Bytes → Bytes → Bytes
value_after k e puk stored =
    cond (changed k e) (drop (length stored) (data_sent e.call))
    (cond (answers ok_status (stores_pin k) e) (drop (length puk) (data_sent e.call)) stored)

-- The value that a call presents for a code: a VERIFY's data; of a CHANGE, or of a RESET RETRY with P1 00, as many bytes as the stored
-- value has.
abbrev pub presented_by : Bytes → Header → Bytes → Bytes
presented_by stored h d = cond (eqb h.ins 0x20) d (take (length stored) d)

abbrev pub presented_in : Bytes → Call → Bytes
presented_in stored x = read_off (presented_by stored) [] (sent_by x)

-- A RESET RETRY with P1 03.
abbrev pub by_verified_puk : Header → Bool
by_verified_puk h = eqb h.ins 0x2C && eqb h.p1 0x03

-- A job that uses PIN1: of kind 1 or 3.
abbrev pub hands_pin1_job : Exchange → Bool
hands_pin1_job e = hands_job (kind_number Authenticate) e || hands_job (kind_number Decipher) e

-- The sheet: code k before and after a call x on the card c that gave o.
pub record Sheet (k : ℕ) (c : Card) (x : Call) (o : Result) : Type 0 where
  pub verified : (code_of o.card.codes k).verified ≡ verified_after k (exchange_of x o) (code_of c.codes k).verified
  pub tries : (code_of o.card.codes k).tries ≡ tries_after k (exchange_of x o) (code_of c.codes k).tries
  pub stored : value (code_of o.card.codes k)
      ≡ value_after k (exchange_of x o) (value (code_of c.codes PUK)) (value (code_of c.codes k))
  -- right means the stored value, whole; wrong means another
  pub rightly : restoration k (exchange_of x o) ≡ true → presented_in (value (code_of c.codes k)) x ≡ value (code_of c.codes k)
  pub wrongly : wrong_answer k (exchange_of x o) ≡ true
      → same (presented_in (value (code_of c.codes k)) x) (value (code_of c.codes k)) ≡ false
  -- 63Cx says how many tries are left
  pub wrong : wrong_answer k (exchange_of x o) ≡ true → status_word (exchange_of x o) ≡ 0x63C0 + (code_of o.card.codes k).tries
  -- a code with no tries left is judged neither wrong nor right; only such a PIN is unblocked
  pub had_tries : wrong_answer k (exchange_of x o) ≡ true → 1 ≤ (code_of c.codes k).tries
  pub restored : restoration k (exchange_of x o) ≡ true → 1 ≤ (code_of c.codes k).tries
  pub unblocked : unblocking k (exchange_of x o) ≡ true → (code_of c.codes k).tries ≡ 0
  -- an unblocking with P1 03 happens only while PUK is verified
  pub puk_used : answers ok_status by_verified_puk (exchange_of x o) ≡ true → (code_of c.codes PUK).verified ≡ true
  -- jobs 1 and 3 are handed out only while PIN1 is verified, a signature only while PIN2 is
  pub pin1_used : hands_pin1_job (exchange_of x o) ≡ true → (code_of c.codes PIN1).verified ≡ true
  pub signed : hands_signature (exchange_of x o) ≡ true → (code_of c.codes PIN2).verified ≡ true

-- A VERIFY without data that asks about code k.
abbrev pub asks_about : ℕ → Header → Bool
asks_about k h = queries h && eqb h.p2 k

-- One that steps 2 to 6 let pass: class 00h and P1 00.
abbrev pub asks_plainly : ℕ → Header → Bool
asks_plainly k h = asks_about k h && eqb h.cla 0x00 && eqb h.p1 0x00

-- 6983: no tries are left.
abbrev pub blocked_status : ℕ → Bool
blocked_status sw = eqb sw 0x6983

-- What a query is answered, or 0 where the edge refused it.
abbrev pub query_status : ℕ → Bool
query_status sw = eqb sw 0 || ok_status sw || wrong_status sw || blocked_status sw

-- The sheet's row for a query (02, wish 1): it leaves all codes as they were, and its answer says whether code k is verified and how
-- many tries it has left.
pub record Asked (k : ℕ) (c : Card) (x : Call) (o : Result) : Type 0 where
  pub codes : is_command queries x ≡ true → o.card.codes ≡ c.codes
  -- it hands out no job; where the edge does not refuse it, the answer is 9000, 63Cx or 6983
  pub no_job : is_command queries x ≡ true → returned_kind o.returned ≡ 0
  pub answered : is_command (asks_plainly k) x ≡ true → query_status (status_word (exchange_of x o)) ≡ true
  -- 9000: verified
  pub verified : answers ok_status (asks_about k) (exchange_of x o) ≡ true → (code_of c.codes k).verified ≡ true
  -- 63Cx: not verified, and x tries left
  pub unverified : answers wrong_status (asks_about k) (exchange_of x o) ≡ true → (code_of c.codes k).verified ≡ false
  pub left : answers wrong_status (asks_about k) (exchange_of x o) ≡ true
      → status_word (exchange_of x o) ≡ 0x63C0 + (code_of c.codes k).tries
  -- 6983: no tries left; 9000 and 63Cx: some
  pub blocked : answers blocked_status (asks_about k) (exchange_of x o) ≡ true → (code_of c.codes k).tries ≡ 0
  pub has_tries : answers (λ sw. ok_status sw || wrong_status sw) (asks_about k) (exchange_of x o) ≡ true → 1 ≤ (code_of c.codes k).tries

-- A 2C for PIN k that steps 2 to 6 let pass: class 00h, and data with P1 00 alone.
abbrev pub unblocks_plainly : ℕ → Header → Bool
unblocks_plainly k h = unblocks k h && eqb h.cla 0x00 && lengths ResetRetry h

-- What it is answered where the PIN's count is used up, or 0 where the edge refused it.
abbrev pub used_up_status : ℕ → Bool
used_up_status sw = eqb sw 0 || blocked_status sw

-- The unblocking count of a PIN after a call (02, wish 6): lowered by an unblocking of it, else as before.
abbrev pub count_after : ℕ → Exchange → ℕ → ℕ
count_after k e n = cond (unblocking k e) (lowered n) n

-- The sheet's column for the unblocking count of PIN k, before and after a call x on the card c that gave o.
pub record CountColumn (k : ℕ) (c : Card) (x : Call) (o : Result) : Type 0 where
  pub count : count_of o.card.counts k ≡ count_after k (exchange_of x o) (count_of c.counts k)
  -- at 0 no unblocking happens, and a 2C for the PIN moves no code: a wrong PUK costs no try, a right one gives none back
  pub not_at_zero : unblocking k (exchange_of x o) ≡ true → 1 ≤ count_of c.counts k
  pub codes_stay : is_command (unblocks k) x ≡ true → count_of c.counts k ≡ 0 → o.card.codes ≡ c.codes

-- For each code, every card, good or not, and every call.
pub record CodeSheet : Type 0 where
  -- the code after the call
  pub after : (k : ℕ) → k < 3 → (c : Card) (x : Call) → Sheet k c x (step c x)
  -- a PIN's unblocking count after the call
  pub counted : (k : ℕ) → 1 ≤ k → k < 3 → (c : Card) (x : Call) → CountColumn k c x (step c x)
  -- a blocked PIN whose count is 0 is answered 6983, in both forms, where the edge does not refuse the call
  pub used_up : (k : ℕ) → 1 ≤ k → k < 3 → (c : Card) (x : Call) → is_command (unblocks_plainly k) x ≡ true
      → (code_of c.codes k).tries ≡ 0 → count_of c.counts k ≡ 0 → used_up_status (status_word (exchange c x)) ≡ true
  -- what a query is told
  pub asked : (k : ℕ) → k < 3 → (c : Card) (x : Call) → Asked k c x (step c x)

-- 02, wish 4: 9000 to a 2C, P1 00 or 03, leaves the marks of the PIN that P2 names and of PUK off; every card and every call.
pub record UnblockingCloses : Type 0 where
  pub pin : (k : ℕ) → k < 3 → (c : Card) (x : Call) → unblocking k (exchange c x) ≡ true → (code_of (next c x).codes k).verified ≡ false
  pub puk : (c : Card) (x : Call) → any_unblocked (exchange c x) ≡ true → (code_of (next c x).codes PUK).verified ≡ false
