-- What opens a code and what closes it, by the code sheet (document 02, wish 4), what RESET RETRY leaves and promises,
-- and what moves an unblocking count (wish 6).
use Rattle.std.specs.Prelude.{ℕ, Bool, true, false, List, [], ◌∷◌}
use Rattle.rules.specs.declared.Code.{Code}
use Rattle.rules.specs.Numbers.{edge, was_reset}
use Rattle.rules.specs.Codes.{PUK, PIN1, PIN2, storing, code_of}
use Rattle.rules.specs.Answers.{code_status}
use Rattle.rules.specs.CodeCommands.{unblocked, LeavesClosed}
use Rattle.rules.specs.Counting.{PowerReset}
use Rattle.rules.specs.CodeSheet.{opens, closes, verified_after, count_after}
use Rattle.rules.specs.Cases.{asking, sign_sha1}
use Rattle.cases.specs.Turns.{fives, sample_marks, Fact, ◌is◌, Holds}
use Rattle.cases.specs.CountCases.{answered, handed, refused_with, verifying, changing, presenting, unblocking}
use Rattle.cases.specs.ChangeCases.{authenticate}

-- What opens a code, and what closes it, by the code sheet.
unfoldable pub moved : List (Fact Bool)
moved =
    opens PIN1 (answered (verifying PIN1) 0x90 0x00) is true
    ∷ opens PIN2 (answered (changing PIN2) 0x90 0x00) is true
    ∷ opens PUK (answered (changing PUK) 0x90 0x00) is true
    ∷ opens PIN1 (answered (changing PIN2) 0x90 0x00) is false
    ∷ opens PIN2 (answered (changing PIN2) 0x6A 0x80) is false
    ∷ opens PIN2 (answered (changing PIN2) 0x63 0xC2) is false
    ∷ opens PIN2 (refused_with (changing PIN2) (0x90 ∷ 0x00 ∷ [])) is false
    ∷ opens PIN1 (answered (asking PIN1) 0x90 0x00) is false
    ∷ opens PIN1 (answered (presenting PIN1) 0x90 0x00) is false
    ∷ opens PUK (answered (presenting PIN1) 0x90 0x00) is false
    ∷ opens PIN2 (answered (unblocking PIN2) 0x90 0x00) is false
    ∷ closes PIN2 (answered (changing PIN2) 0x90 0x00) is false
    ∷ closes PIN2 (answered (changing PIN2) 0x6A 0x80) is false
    ∷ closes PIN2 (answered (changing PIN2) 0x63 0xC2) is true
    ∷ closes PIN1 (answered (changing PIN2) 0x63 0xC2) is false
    ∷ closes PIN1 (answered (verifying PIN1) 0x63 0xC0) is true
    ∷ closes PIN1 (answered (presenting PIN1) 0x90 0x00) is true
    ∷ closes PUK (answered (presenting PIN1) 0x90 0x00) is true
    ∷ closes PIN2 (answered (presenting PIN1) 0x90 0x00) is false
    ∷ closes PIN2 (answered (unblocking PIN2) 0x90 0x00) is true
    ∷ closes PUK (answered (unblocking PIN2) 0x90 0x00) is true
    ∷ closes PIN1 (answered (unblocking PIN2) 0x90 0x00) is false
    ∷ closes PUK (answered (presenting PIN2) 0x6A 0x80) is false
    ∷ closes PUK (answered (presenting PIN2) 0x63 0xC1) is true
    ∷ closes PIN2 (answered (presenting PIN2) 0x63 0xC1) is false
    ∷ closes PUK (answered (unblocking PIN1) 0x6A 0x86) is false
    ∷ closes PIN2 (handed sign_sha1 2) is true
    ∷ closes PIN1 (handed sign_sha1 2) is false
    ∷ closes PUK (handed sign_sha1 2) is false
    ∷ closes PIN2 (handed authenticate 1) is false
    ∷ closes PUK (record { call = PowerReset; returned = was_reset; buffer = [] }) is true
    ∷ closes PIN1 (record { call = PowerReset; returned = was_reset; buffer = [] }) is true
    ∷ closes PIN2 (record { call = PowerReset; returned = was_reset; buffer = [] }) is true
    ∷ closes PIN1 (record { call = PowerReset; returned = edge 1; buffer = [] }) is false
    ∷ closes PIN1 (answered (asking PIN1) 0x63 0xC2) is false
    ∷ verified_after PIN2 (answered (changing PIN2) 0x90 0x00) false is true
    ∷ verified_after PIN2 (answered (changing PIN2) 0x90 0x00) true is true
    ∷ verified_after PIN2 (answered (changing PIN2) 0x6A 0x80) false is false
    ∷ verified_after PIN2 (answered (changing PIN2) 0x6A 0x80) true is true
    ∷ verified_after PUK (answered (unblocking PIN2) 0x90 0x00) true is false
    -- what 2C leaves is closed, however a value was stored
    ∷ (code_of (unblocked (sample_marks true true true).codes PIN1 (storing (fives 4) 3 true) 3) PIN1).verified is false
    ∷ (code_of (unblocked (sample_marks true true true).codes PIN1 (storing (fives 4) 3 true) 3) PUK).verified is false
    ∷ (code_of (unblocked (sample_marks true true true).codes PIN1 (storing (fives 4) 3 true) 3) PIN2).verified is true
    ∷ []

-- The unblocking count after an exchange, by the code sheet (document 02, wish 6).
unfoldable pub lowerings : List (Fact ℕ)
lowerings =
    count_after PIN1 (answered (unblocking PIN1) 0x90 0x00) 3 is 2
    ∷ count_after PIN1 (answered (presenting PIN1) 0x90 0x00) 1 is 0
    ∷ count_after PIN2 (answered (presenting PIN2) 0x90 0x00) 0xA4 is 0xA3
    ∷ count_after PIN2 (answered (unblocking PIN2) 0x90 0x00) 0xA5 is 0xA5
    ∷ count_after PIN1 (answered (unblocking PIN2) 0x90 0x00) 3 is 3
    ∷ count_after PIN2 (answered (presenting PIN1) 0x90 0x00) 3 is 3
    ∷ count_after PIN1 (answered (presenting PIN1) 0x63 0xC2) 3 is 3
    ∷ count_after PIN1 (answered (presenting PIN1) 0x6A 0x80) 3 is 3
    ∷ count_after PIN1 (answered (presenting PIN1) 0x69 0x83) 3 is 3
    ∷ count_after PIN1 (answered (unblocking PIN1) 0x69 0x82) 3 is 3
    ∷ count_after PIN1 (answered (unblocking PIN1) 0x6A 0x86) 3 is 3
    ∷ count_after PIN1 (answered (verifying PIN1) 0x90 0x00) 3 is 3
    ∷ count_after PIN1 (answered (changing PIN1) 0x90 0x00) 3 is 3
    ∷ count_after PIN1 (answered (verifying PIN1) 0x63 0xC0) 3 is 3
    ∷ count_after PIN2 (answered (changing PIN2) 0x63 0xC2) 3 is 3
    ∷ count_after PIN2 (handed sign_sha1 2) 3 is 3
    ∷ count_after PIN1 (refused_with (unblocking PIN1) (0x90 ∷ 0x00 ∷ [])) 3 is 3
    ∷ count_after PIN1 (record { call = PowerReset; returned = was_reset; buffer = [] }) 3 is 3
    ∷ []

-- What 2C promises for PIN1, of codes answered 9000. What 2C promises is not true of them where PIN1 or PUK is open.
abbrev pub Promised : List Code → Type 0
Promised codes = LeavesClosed codes PIN1 (code_status codes 0x9000)

pub record SheetShown : Type 0 where
  pub moves : Holds moved
  pub lowers : Holds lowerings
  pub pin_open : ¬ Promised (sample_marks false true false).codes
  pub puk_open : ¬ Promised (sample_marks true false false).codes
