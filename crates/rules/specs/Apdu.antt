-- Document 01, "Order of judgement for a command", step 1: the length forms of a command APDU.
use Rattle.std.specs.Prelude.{ℕ, ◌+◌, ◌-◌, cond, ◌&&◌, length, take, drop, eqb, leb}
use Rattle.octets.specs.Octets.{Bytes, byte_at}
use Rattle.rules.specs.declared.Header.{Header}
use Rattle.rules.specs.Numbers.{LengthForm, form, refused}

-- Le 00 means 256.
abbrev pub le_of : ℕ → ℕ
le_of x = cond (eqb x 0x00) 256 x

-- CLA, INS, P1 and P2 are the first four bytes; Lc and Le are 0 where there are none.
abbrev pub header : Bytes → ℕ → ℕ → Header
header b lc le = record { cla = byte_at b 0; ins = byte_at b 1; p1 = byte_at b 2; p2 = byte_at b 3; lc = lc; le = le }

-- Lc, in byte 5, which is place 4 from zero; the data, if there are any, start behind it.
abbrev pub lc_byte : Bytes → ℕ
lc_byte b = byte_at b 4

abbrev pub data_start : ℕ
data_start = 5

-- 4 bytes: no data, no Le. 5: Le. 6 or more: Lc at least 1, total 5+Lc or 6+Lc (then the last byte is Le). Else 6700.
unfoldable pub parse : Bytes → LengthForm
parse b =
    cond (eqb (length b) 4) (form (header b 0 0) data_start)
    (cond (eqb (length b) 5) (form (header b 0 (le_of (byte_at b 4))) data_start)
    (cond (leb 1 (lc_byte b) && eqb (length b) (5 + lc_byte b)) (form (header b (lc_byte b) 0) data_start)
    (cond (leb 1 (lc_byte b) && eqb (length b) (6 + lc_byte b))
    (form (header b (lc_byte b) (le_of (byte_at b (length b - 1)))) data_start)
    (refused 0x6700))))

-- The command's data: Lc bytes from where they start.
abbrev pub data_of : Bytes → ℕ → Header → Bytes
data_of b start h = take h.lc (drop start b)
