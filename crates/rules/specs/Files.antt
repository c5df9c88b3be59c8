-- Document 01, "What the card has": the files and their records.
use Rattle.std.specs.Prelude.{ℕ, ◌-◌, Bool, cond, ◌||◌, List, [], ◌∷◌, take, get_or, eqb}
use Rattle.octets.specs.Octets.{Bytes}
use Rattle.rules.specs.declared.Code.{Code}
use Rattle.rules.specs.declared.Profile.{Profile}
use Rattle.rules.specs.declared.Record.{Record}
use Rattle.rules.specs.Codes.{PUK, PIN1, PIN2, code_of}
use Rattle.rules.specs.Session.{root}

-- The files of a directory. In the root: 0016h. In EEEEh (the last row): 5044h, 0033h, AACEh, DDCEh.
unfoldable pub files_in : ℕ → List ℕ
files_in directory =
    cond (eqb directory root) (0x0016 ∷ [])
    (0x5044 ∷ 0x0033 ∷ 0xAACE ∷ 0xDDCE ∷ [])

-- AACEh and DDCEh, the authentication and the signature certificate, are read as plain bytes.
abbrev pub certificate_file : ℕ → Bool
certificate_file file = eqb file 0xAACE || eqb file 0xDDCE

-- The certificate that a certificate file shows, of the two that the command was lent: AACEh ↦ authentication, DDCEh (the
-- last row) ↦ signature.
unfoldable pub certificate_of : ℕ → Bytes → Bytes → Bytes
certificate_of file authentication signature =
    cond (eqb file 0xAACE) authentication
    signature

-- The PUK record of 0016h: 80 01 03 90 01 t; t is the tries left.
unfoldable pub puk_record : ℕ → Bytes
puk_record t = 0x80 ∷ 0x01 ∷ 0x03 ∷ 0x90 ∷ 0x01 ∷ t ∷ []

-- A PIN record of 0016h: 80 01 03 90 01 t 83 02 00 00.
unfoldable pub pin_record : ℕ → Bytes
pin_record t = 0x80 ∷ 0x01 ∷ 0x03 ∷ 0x90 ∷ 0x01 ∷ t ∷ 0x83 ∷ 0x02 ∷ 0x00 ∷ 0x00 ∷ []

-- 0016h: record 1 ↦ PIN1, 2 ↦ PIN2, 3 (the last row) ↦ PUK.
unfoldable pub counter_record : List Code → ℕ → Bytes
counter_record codes n =
    cond (eqb n 1) (pin_record (code_of codes PIN1).tries)
    (cond (eqb n 2) (pin_record (code_of codes PIN2).tries)
    (puk_record (code_of codes PUK).tries))

-- What stands where there is no personal record.
abbrev pub no_record : Record
no_record = record { bytes = []; len = 0 }

-- 5044h: personal record n, from 1. READ RECORD reads a personal record through this definition.
unfoldable pub personal_record : List Record → ℕ → Bytes
personal_record personal n = take (get_or personal (n - 1) no_record).len (get_or personal (n - 1) no_record).bytes

-- How many records a record file has: 0016h 3, 0033h 1, 5044h (the last row) 16.
unfoldable pub record_count : ℕ → ℕ
record_count file =
    cond (eqb file 0x0016) 3
    (cond (eqb file 0x0033) 1
    16)

-- Record n of a record file, from 1: 0016h, 0033h, 5044h (the last row).
unfoldable pub record_of : List Code → Profile → ℕ → ℕ → Bytes
record_of codes profile file n =
    cond (eqb file 0x0016) (counter_record codes n)
    (cond (eqb file 0x0033) profile.references
    (personal_record profile.personal n))
