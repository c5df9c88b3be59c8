-- Laws of padding and stripping: a block's length, where the message stands, and what stripping can answer.
use mathlib.Core.Path.{◌≡◌, refl}
use mathlib.Core.Logic.{◌≢◌}
use mathlib.Core.Bool.{Bool, true, not, ◌&&◌, or-true}
use mathlib.Core.List.{[], ◌∷◌, ◌++◌}
use Prim.Native.Nat.{ℕ, suc, ◌+◌, ◌-◌, ◌≤◌, ◌<◌}
use native.Mathlib.Omega.{arith}
use lib.Dec.{eqb, leb, ltb}
use lib.ListN.{length, drop, replicate, length-append, length-replicate}
use lib.Seq.{drop_at, append_snoc}
use borrow.Author.Tests.{eq-eqb, ne_eqb, le-leb, lt-ltb, le-ltb, leb-true, ltb-true, not-true}
use Rattle.octets.specs.Octets.{Bytes, byte_at, all}
use Rattle.octets.proofs.Tests.{split, and_left, and_right}
use Rattle.pkcs1.specs.Pkcs1.{padded, cannot_pad, pad, before_zero, enciphered, strip}

-- A padded block has 256 bytes.
pub padded_length : (d : Bytes) → length d ≤ 253 → length (padded d) ≡ 256
unfolding padded
padded_length d h = simp (length-append, length-replicate) (omega arith)

-- What stands before the message.
abbrev pub heading : ℕ → Bytes
heading n = 0x00 ∷ 0x01 ∷ (replicate (253 - n) 0xFF ++ 0x00 ∷ [])

pub padded_parts : (d : Bytes) → padded d ≡ heading (length d) ++ d
unfolding padded
padded_parts d = rw (append_snoc (replicate (253 - length d) 0xFF) 0x00 d)

-- The message stands at the end of its padded block.
pub padded_end : (d : Bytes) → length d ≤ 245 → drop (256 - length d) (padded d) ≡ d
padded_end d h =
    let size : length (heading (length d)) ≡ 256 - length d = simp (length-append, length-replicate) (omega arith) in
    rw (padded_parts d) (drop_at (heading (length d)) d (256 - length d) size)

-- Padding refuses a long message and a short buffer, and nothing else.
module _ (d buffer : Bytes) where
  pub pad_long : 245 < length d → pad d buffer ≡ (0, buffer)
  unfolding pad cannot_pad
  pad_long h = rw (lt-ltb 245 (length d) h)

  pub pad_short : length buffer < 256 → pad d buffer ≡ (0, buffer)
  unfolding pad cannot_pad
  pad_short h = rw (lt-ltb (length buffer) 256 h, or-true (ltb 245 (length d)))

  pub pad_writes : length d ≤ 245 → 256 ≤ length buffer → pad d buffer ≡ (256, padded d ++ drop 256 buffer)
  unfolding pad cannot_pad
  pad_writes h g = rw (le-ltb 245 (length d) h, le-ltb (length buffer) 256 g)

-- A byte that is not zero.
abbrev pub non_zero : ℕ → Bool
non_zero x = not (eqb x 0)

before_zero_lem : (ps m : Bytes) → all non_zero ps ≡ true → before_zero (ps ++ 0x00 ∷ m) ≡ length ps
unfolding before_zero
before_zero_lem [] m e = refl
before_zero_lem (x ∷ ps) m e =
    rw (not-true (eqb x 0) (and_left (non_zero x) (all non_zero ps) e), before_zero_lem ps m (and_right (non_zero x) (all non_zero ps) e))

-- Stripping finds the message behind eight or more non-zero bytes.
module _ (ps m : Bytes) (enough : 8 ≤ length ps) (filler : all non_zero ps ≡ true) (whole : 3 + length ps + length m ≡ 256) where
  pub strip_finds : strip (0x00 ∷ 0x02 ∷ (ps ++ 0x00 ∷ m)) ≡ length ps + 3
  unfolding strip enciphered
  strip_finds =
      let size : suc (suc (length (ps ++ 0x00 ∷ m))) ≡ 256 = simp length-append (omega arith) in
      simp (before_zero_lem ps m filler, eq-eqb _ 256 size, le-leb 8 (length ps) enough, lt-ltb (length ps) 254 (omega arith))

  pub strip_message : drop (strip (0x00 ∷ 0x02 ∷ (ps ++ 0x00 ∷ m))) (0x00 ∷ 0x02 ∷ (ps ++ 0x00 ∷ m)) ≡ m
  strip_message =
      let size : suc (suc (length (ps ++ 0x00 ∷ []))) ≡ length ps + 3 = simp length-append (omega arith) in
      rw (strip_finds, ← append_snoc ps 0x00 m) (drop_at (0x00 ∷ 0x02 ∷ (ps ++ 0x00 ∷ [])) m (length ps + 3) size)

-- Stripping answers 0, or where a message starts: 11 to 256.
pub strip_range : (b : Bytes) → strip b ≢ 0 → (11 ≤ strip b) × (strip b ≤ 256)
unfolding strip enciphered
strip_range b =
    let n : ℕ = before_zero (drop 2 b) in
    let header : Bool = eqb (length b) 256 && eqb (byte_at b 0) 0x00 && eqb (byte_at b 1) 0x02 in
    split (λ (x : ℕ). x ≢ 0 → (11 ≤ x) × (x ≤ 256)) (enciphered b)
    (λ e _.
    let least : 8 ≤ n = leb-true 8 n (and_right header (leb 8 n) (and_left (header && leb 8 n) (ltb n 254) e)) in
    let most : n < 254 = ltb-true n 254 (and_right (header && leb 8 n) (ltb n 254) e) in
    (omega arith, omega arith))
    (λ _ n. absurd (n refl))

-- Stripping takes 256 bytes only.
pub strip_length : (b : Bytes) → length b ≢ 256 → strip b ≡ 0
unfolding strip enciphered
strip_length b n = simp (ne_eqb (length b) 256 n)
