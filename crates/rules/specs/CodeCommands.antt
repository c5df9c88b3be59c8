-- Document 01, "Order of judgement for a command", step 7: VERIFY, CHANGE REFERENCE DATA and RESET RETRY COUNTER. They change nothing but
-- the codes (RESET RETRY the unblocking counts too; 02, wish 6), and answer by a status word alone.
use Rattle.std.specs.Prelude.{ℕ, ◌+◌, ◌-◌, ◌≡◌, true, false, cond, not, List, take, drop, eqb}
use Rattle.octets.specs.Octets.{Bytes, same}
use Rattle.rules.specs.declared.Code.{Code}
use Rattle.rules.specs.declared.CodeStep.{CodeStep}
use Rattle.rules.specs.declared.Header.{Header}
use Rattle.rules.specs.declared.Verdict.{Verdict}
use Rattle.rules.specs.declared.Verdict.TheVariants.{Right, Wrong, NoTries}
use Rattle.rules.specs.Codes.{PUK, full_tries, allowed, value, storing, with_value, marked, code_of, with_code}
use Rattle.rules.specs.Codes.{count_of, with_count, lowered}
use Rattle.rules.specs.State.{good_codes}
use Rattle.rules.specs.Answers.{code_status}

-- A new value not of allowed length or not digits: 6A80. Unblocking a PIN that has tries: 6A86.
abbrev pub sw_not_allowed : ℕ
sw_not_allowed = 0x6A80

abbrev pub sw_has_tries : ℕ
sw_has_tries = 0x6A86

-- A presented value is judged: no tries; right; wrong, by value or by length.
unfoldable pub verdict : Code → Bytes → Verdict
verdict v presented =
    cond (eqb v.tries 0) NoTries
    (cond (same presented (value v)) Right
    Wrong)

-- What follows for code k. Right: tries 3, mark on, 9000. Wrong: one try less, mark off, 63Cx with x left. No tries: 6983.
unfoldable pub judged : List Code → ℕ → Verdict → CodeStep
judged codes k Right = code_status (with_code codes k (marked (code_of codes k) full_tries true)) 0x9000
judged codes k Wrong =
    code_status (with_code codes k (marked (code_of codes k) ((code_of codes k).tries - 1) false)) (0x63C0 + ((code_of codes k).tries - 1))
judged codes k NoTries = code_status codes 0x6983

-- 20 VERIFY without data asks whether code k is open (02, wish 1). No tries: 6983. Verified: 9000. Else 63Cx with x left. No code changes.
unfoldable pub queried : List Code → ℕ → CodeStep
queried codes k =
    cond (eqb (code_of codes k).tries 0) (code_status codes 0x6983)
    (cond (code_of codes k).verified (code_status codes 0x9000)
    (code_status codes (0x63C0 + (code_of codes k).tries)))

-- 20 VERIFY. Without data it asks; with data the value is judged.
unfoldable pub verify : List Code → Header → Bytes → CodeStep
verify codes h d =
    let k = h.p2 in
    cond (eqb h.lc 0) (queried codes k)
    (judged codes k (verdict (code_of codes k) d))

-- The data of CHANGE and of RESET RETRY with P1 00: a value as long as the stored one of code k, then a new value.
abbrev pub old_value : List Code → ℕ → Bytes → Bytes
old_value codes k d = take (code_of codes k).len d

abbrev pub new_value : List Code → ℕ → Bytes → Bytes
new_value codes k d = drop (code_of codes k).len d

-- The value of code k was judged, and a new value for code j stands behind it. Wrong or no tries: as VERIFY. Right, and the new value not
-- of allowed length or not digits: 6A80, codes unchanged. Else the codes with the new value stored, and 9000.
unfoldable pub replaced : List Code → ℕ → ℕ → Bytes → List Code → Verdict → CodeStep
replaced codes k j new stored Right = cond (not (allowed j new)) (code_status codes sw_not_allowed) (code_status stored 0x9000)
replaced codes k j new stored Wrong = judged codes k Wrong
replaced codes k j new stored NoTries = judged codes k NoTries

-- 24 CHANGE. New stored, tries 3, mark on (02, wish 4; document 01 has it off).
unfoldable pub change : List Code → Header → Bytes → CodeStep
change codes h d =
    let k = h.p2 in
    let new = new_value codes k d in
    replaced codes k k new (with_code codes k (storing new full_tries true)) (verdict (code_of codes k) (old_value codes k d))

-- What 2C leaves where it is answered 9000, in both forms: the PIN, with its old value or a new one, has tries 3; PUK has the tries that the
-- form gives it; both marks are off, whatever they were (02, wish 4).
unfoldable pub unblocked : List Code → ℕ → Code → ℕ → List Code
unblocked codes pin pinCode pukTries =
    with_code (with_code codes pin (marked pinCode full_tries false)) PUK (marked (code_of codes PUK) pukTries false)

-- 2C with P1 03. PUK not verified 6982; else tries 3, PIN and PUK marks off, 9000.
unfoldable pub unblock_by_verified_puk : List Code → ℕ → CodeStep
unblock_by_verified_puk codes pin =
    cond (not (code_of codes PUK).verified) (code_status codes 0x6982)
    (code_status (unblocked codes pin (code_of codes pin) (code_of codes PUK).tries) 0x9000)

-- 2C with P1 00. PUK judged as the old value in CHANGE; PIN stored, both tries 3, both marks off.
unfoldable pub unblock_by_presented_puk : List Code → ℕ → Bytes → CodeStep
unblock_by_presented_puk codes pin d =
    let new = new_value codes PUK d in
    let stored = unblocked codes pin (with_value (code_of codes pin) new) full_tries in
    replaced codes PUK pin new stored (verdict (code_of codes PUK) (old_value codes PUK d))

-- 2C RESET RETRY. PIN has tries: 6A86. Its unblocking count is 0: 6983, before the PUK is looked at (02, wish 6). P1 03, and P1 00 (the last
-- row).
unfoldable pub reset_retry : List Code → List ℕ → Header → Bytes → CodeStep
reset_retry codes counts h d =
    let pin = h.p2 in
    cond (not (eqb (code_of codes pin).tries 0)) (code_status codes sw_has_tries)
    (cond (eqb (count_of counts pin) 0) (code_status codes 0x6983)
    (cond (eqb h.p1 0x03) (unblock_by_verified_puk codes pin)
    (unblock_by_presented_puk codes pin d)))

-- The unblocking counts after 2C: that of the PIN lowered where it was answered 9000, else as they were (02, wish 6).
unfoldable pub counts_left : List ℕ → ℕ → ℕ → List ℕ
counts_left counts pin sw = cond (eqb sw 0x9000) (with_count counts pin (lowered (count_of counts pin))) counts

-- What the contract of RESET RETRY says besides (02, wish 4): on good codes, 9000 leaves the marks of the PIN and of PUK off.
abbrev pub LeavesClosed : List Code → ℕ → CodeStep → Type 0
LeavesClosed codes pin o =
    good_codes codes ≡ true → o.sw ≡ 0x9000 → ((code_of o.codes pin).verified ≡ false) × ((code_of o.codes PUK).verified ≡ false)
