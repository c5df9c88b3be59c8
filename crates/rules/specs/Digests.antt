-- Document 01, "Digests (RFC 8017)": the DigestInfo forms that SIGN accepts. The bytes that the SHA-2 forms share stand once,
-- and the three numbers in which they differ in a row for each hash (02, wish 5).
use Rattle.std.specs.Prelude.{ℕ, ◌+◌, ◌≤◌, ◌<◌, ◌≡◌, ◌↔◌, Bool, true, ◌&&◌, List, [], ◌∷◌, map, length, take, get_or, eqb}
use Rattle.octets.specs.Octets.{Bytes, same, any, all_bytes}

-- A prefix and n bytes.
unfoldable pub prefixed : Bytes → ℕ → Bytes → Bool
prefixed prefix n d = same (take (length prefix) d) prefix && eqb (length d) (length prefix + n)

-- SHA-1: 30 21 30 09 06 05 2B 0E 03 02 1A 05 00 04 14 and 20 bytes.
abbrev pub sha1_prefix : Bytes
sha1_prefix = 0x30 ∷ 0x21 ∷ 0x30 ∷ 0x09 ∷ 0x06 ∷ 0x05 ∷ 0x2B ∷ 0x0E ∷ 0x03 ∷ 0x02 ∷ 0x1A ∷ 0x05 ∷ 0x00 ∷ 0x04 ∷ 0x14 ∷ []

-- SHA-2: 30 L 30 0D 06 09 60 86 48 01 65 03 04 02 A 05 00 04 H and H bytes.
abbrev pub sha2_prefix : ℕ → ℕ → ℕ → Bytes
sha2_prefix l a h =
    0x30 ∷ l ∷ 0x30 ∷ 0x0D ∷ 0x06 ∷ 0x09 ∷ 0x60 ∷ 0x86 ∷ 0x48 ∷ 0x01 ∷ 0x65 ∷ 0x03 ∷ 0x04 ∷ 0x02 ∷ a ∷ 0x05 ∷ 0x00 ∷ 0x04 ∷ h ∷ []

-- The row of a SHA-2 hash: L, how many bytes follow it; A, the last byte of the hash's object identifier; H, how many bytes the hash has.
pub record Row : Type 0 where
  pub l : ℕ
  pub a : ℕ
  pub h : ℕ

abbrev pub row : ℕ → ℕ → ℕ → Row
row l a h = record { l = l; a = a; h = h }

-- (L, A, H) of each SHA-2 hash of the list.
abbrev pub rows : List Row
rows =
    row 0x2D 0x04 0x1C  -- SHA-224
    ∷ row 0x31 0x01 0x20  -- SHA-256
    ∷ row 0x41 0x02 0x30  -- SHA-384
    ∷ row 0x51 0x03 0x40  -- SHA-512
    ∷ []

-- The form of a digest: a prefix, and how many bytes follow it.
pub record Form : Type 0 where
  pub prefix : Bytes
  pub count : ℕ

-- SHA-1's form, and that of a row.
abbrev pub sha1_form : Form
sha1_form = record { prefix = sha1_prefix; count = 20 }

abbrev pub sha2_form : Row → Form
sha2_form r = record { prefix = sha2_prefix r.l r.a r.h; count = r.h }

-- The digests of the list: SHA-1, and SHA-2 by its rows.
abbrev pub forms : List Form
forms = sha1_form ∷ map sha2_form rows

-- Whether data fits a form.
abbrev pub fits : Bytes → Form → Bool
fits d f = prefixed f.prefix f.count d

-- A digest of the list: data that fits one of them.
unfoldable pub is_digest : Bytes → Bool
is_digest d = any (map (fits d) forms)

-- The row and the form at a place, counted from zero.
abbrev pub row_at : ℕ → Row
row_at i = get_or rows i (row 0 0 0)

abbrev pub form_at : ℕ → Form
form_at i = get_or forms i (record { prefix = []; count = 0 })

-- A place of the list whose form the data fits.
pub record FitsOne (d : Bytes) : Type 0 where
  pub place : ℕ
  pub inside : place < length forms
  pub fitted : fits d (form_at place) ≡ true

-- What holds of the rows and forms: L is H + 11h in every row; every prefix is of bytes; a digest of the list is exactly what fits one
-- of the forms; no data fits two of them; a digest of the list can be padded.
pub record DigestForms : Type 0 where
  pub lengths : (i : ℕ) → i < length rows → (row_at i).l ≡ (row_at i).h + 0x11
  pub of_bytes : (i : ℕ) → i < length forms → all_bytes (form_at i).prefix ≡ true
  pub exactly : (d : Bytes) → (is_digest d ≡ true) ↔ FitsOne d
  pub apart : (d : Bytes) (i j : ℕ) → i < length forms → j < length forms → fits d (form_at i) ≡ true → fits d (form_at j) ≡ true → i ≡ j
  pub short : (d : Bytes) → is_digest d ≡ true → length d ≤ 245
