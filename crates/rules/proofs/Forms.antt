-- Laws of the length form: Le is at most 256, 6700 is the only refusal, and what data a form says.
use mathlib.Core.Path.{◌≡◌, refl, sym, ap, ◌∙◌}
use mathlib.Core.Bool.{Bool, true, ◌&&◌}
use mathlib.Core.List.{[]}
use Prim.Native.Nat.{ℕ, ◌+◌, ◌-◌, ◌≤◌, ◌<◌}
use native.Mathlib.Omega.{arith}
use lib.Dec.{eqb, leb}
use lib.ListN.{length}
use Rattle.octets.specs.Octets.{Bytes, byte_at, all_bytes}
use Rattle.octets.proofs.Tests.{split}
use Rattle.octets.proofs.Buffers.{byte_below}
use Rattle.rules.specs.declared.Header.{Header}
use Rattle.rules.specs.Numbers.{LengthForm, form, refused}
use Rattle.rules.specs.Apdu.{le_of, lc_byte, parse, data_of}
use Rattle.rules.specs.Counting.{Command, form_sends, sent_by, read_off, is_command}

-- A command of bytes has Le at most 256.
pub data FitForm : LengthForm → Type 0 where
  well_formed : (h : Header) (start : ℕ) → h.le ≤ 256 → FitForm (form h start)
  malformed : FitForm (refused 0x6700)

le_most : (x : ℕ) → x < 256 → le_of x ≤ 256
le_most x h = split (λ n. n ≤ 256) (eqb x 0x00) (λ e. omega arith) (λ e. omega arith)

pub parse_fits : (b : Bytes) → all_bytes b ≡ true → FitForm (parse b)
unfolding parse
parse_fits b bytes =
    split FitForm (eqb (length b) 4) (λ e. well_formed _ _ (omega arith))
    (λ e. split FitForm (eqb (length b) 5) (λ e. well_formed _ _ (le_most (byte_at b 4) (byte_below b 4 bytes)))
    (λ e. split FitForm (leb 1 (lc_byte b) && eqb (length b) (5 + lc_byte b)) (λ e. well_formed _ _ (omega arith))
    (λ e. split FitForm (leb 1 (lc_byte b) && eqb (length b) (6 + lc_byte b))
    (λ e. well_formed _ _ (le_most (byte_at b (length b - 1)) (byte_below b (length b - 1) bytes)))
    (λ e. malformed))))

-- Le of a length form.
le_in : LengthForm → ℕ
le_in (form h start) = h.le
le_in (refused sw) = 0

pub form_le : {p : LengthForm} → FitForm p → (h : Header) (start : ℕ) → p ≡ form h start → h.le ≤ 256
unfolding le_in
form_le (well_formed g start most) h s e = omega (arith, ap le_in e)
form_le malformed h s e = omega (arith, ap le_in e)

-- The data that a length form says.
abbrev pub form_data : Bytes → LengthForm → Bytes
form_data b (form h start) = data_of b start h
form_data b (refused sw) = []

-- 6700 is the only refusal.
status_in : LengthForm → ℕ
status_in (form h start) = 0x6700
status_in (refused sw) = sw

only_6700 : (b : Bytes) → status_in (parse b) ≡ 0x6700
unfolding parse status_in
only_6700 b =
    let P : LengthForm → Type 0 = λ f. status_in f ≡ 0x6700 in
    split P (eqb (length b) 4) (λ _. refl)
    (λ _. split P (eqb (length b) 5) (λ _. refl)
    (λ _. split P (leb 1 (lc_byte b) && eqb (length b) (5 + lc_byte b)) (λ _. refl)
    (λ _. split P (leb 1 (lc_byte b) && eqb (length b) (6 + lc_byte b)) (λ _. refl) (λ _. refl))))

pub refusal_6700 : (b : Bytes) (sw : ℕ) → parse b ≡ refused sw → sw ≡ 0x6700
unfolding status_in
refusal_6700 b sw p = sym (ap status_in p) ∙ only_6700 b

-- The data that a command sends is that of its length form.
pub data_sent_lem : (b : Bytes) (p : LengthForm) → read_off (λ h d. d) [] (form_sends b p) ≡ form_data b p
unfolding read_off form_sends
data_sent_lem b (form h start) = refl
data_sent_lem b (refused sw) = refl

-- What is asked of a command's header is asked of the header that its length form gives.
pub asked : (b authentication signature w : Bytes) {h : Header} {start : ℕ} → parse b ≡ form h start
    → (t : Header → Bool) → is_command t (Command b authentication signature w) ≡ t h
unfolding sent_by form_sends read_off
asked b authentication signature w p t = rw p
