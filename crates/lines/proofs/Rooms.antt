-- Laws of a string in a room.
use mathlib.Core.Path.{◌≡◌, refl, sym, ap, ◌∙◌}
use mathlib.Core.List.{◌∷◌, ◌++◌, append-nil}
use Prim.Native.Nat.{ℕ, zero, suc, ◌+◌, ◌-◌, ◌≤◌, ◌^◌, ◌<◌, min}
use native.Mathlib.Nat.{not-suc-le-zero, le_of_suc-le-suc}
use native.Mathlib.Omega.{arith}
use lib.Dec.{leb}
use lib.ListN.{length, take, drop, replicate, length-take, drop_of_length-le}
use lib.Seq.{take_all, take-take, take-append-add, take-append-le}
use borrow.Author.Tests.{leb-true, leb-false}
use Rattle.octets.specs.Octets.{Bytes, blank, filled, pasted}
use Rattle.octets.proofs.Tests.{by_test}
use Rattle.octets.proofs.Strings.{take_twice}
use Rattle.octets.proofs.Cutting.{cut_front}
use Rattle.octets.proofs.Pasting.{length_blank, zeros, pasted_front, pasted_own}
use Rattle.lines.specs.declared.kept.Kept.{Kept}
use Rattle.lines.specs.Rooms.{held, kept, held_over, added}

abbrev room : (n : ℕ) → Bytes → ℕ → Kept n
room n b len = record { bytes = b; len = len }

pub take_blank : (n m : ℕ) → n ≤ m → take n (blank m) ≡ blank n
unfolding blank
take_blank zero m h = refl
take_blank (suc n) zero h = absurd (not-suc-le-zero h)
take_blank (suc n) (suc m) h = ap (λ (b : Bytes). 0 ∷ b) (take_blank n m (le_of_suc-le-suc h))

-- The first n bytes of a room, cut at m.
cut_at : (b : Bytes) (n m : ℕ) → take m (take n b) ≡ take (min n m) b
cut_at b n m =
    by_test _ (leb n m)
    (λ e.
    let h : n ≤ m = leb-true n m e in
    let same : min n m ≡ n = omega arith in
    rw same (take_all m (take n b) (omega (arith, length-take n b))))
    (λ e.
    let h : m ≤ n = omega (arith, leb-false n m e) in
    let same : min n m ≡ m = omega arith in
    rw same (take-take m n b h))

-- No more of a string is there than it has.
take_within : (b : Bytes) (n : ℕ) → take (min (length b) n) b ≡ take n b
take_within b n =
    by_test _ (leb (length b) n)
    (λ e.
    let h : length b ≤ n = leb-true (length b) n e in
    let same : min (length b) n ≡ length b = omega arith in
    rw (same, take_all n b h) (take_all (length b) b (omega arith)))
    (λ e.
    let same : min (length b) n ≡ n = omega (arith, leb-false (length b) n e) in
    rw same)

-- What does not fit is not written.
pasted_cut : (d s : Bytes) → pasted d 0 s ≡ pasted d 0 (take (length d) s)
pasted_cut d s =
    by_test _ (leb (length s) (length d))
    (λ e. rw (take_all (length d) s (leb-true (length s) (length d) e)))
    (λ e.
    let h : length d ≤ length s = omega (arith, leb-false (length s) (length d) e) in
    let cut : length d ≤ length (take (length d) s) = omega (arith, length-take (length d) s) in
    rw (pasted_front d s, pasted_front d (take (length d) s), take_twice (length d) s, drop_of_length-le d h, drop_of_length-le d cut))

-- More bytes behind the first n of a room, cut at m.
more : (l s : Bytes) (n m : ℕ) → m ≤ length l → {have r : ℕ} {after : Bytes} → have ≡ min n m
    → after ≡ pasted l have s → r ≡ min (have + length s) m → take r after ≡ take m (take m (take n l) ++ s)
unfolding pasted
more l s n m fits {have} {r} {after} h w e =
    let front : Bytes = take have l in
    let size : length front ≡ have = omega (arith, length-take have l) in
    let k : ℕ = min (length s) (m - have) in
    let count : r ≡ length front + k = omega arith in
    let whole : m ≡ length front + (m - have) = omega arith in
    let some : k ≤ length l - have = omega arith in
    let long : k ≤ length (take (length l - have) s) = omega (arith, length-take (length l - have) s) in
    let left : take r after ≡ front ++ take k s =
    ap (take r) w
    ∙ ap (λ (i : ℕ). take i (front ++ (take (length l - have) s ++ drop (have + length s) l))) count
    ∙ take-append-add front (take (length l - have) s ++ drop (have + length s) l) k
    ∙ ap (λ (b : Bytes). front ++ b) (take-append-le k (take (length l - have) s) (drop (have + length s) l) long ∙ take-take k (length l - have) s some) in
    let right : take m (take m (take n l) ++ s) ≡ front ++ take k s =
    ap (λ (b : Bytes). take m (b ++ s)) (cut_at l n m ∙ ap (λ (i : ℕ). take i l) (sym h))
    ∙ ap (λ (i : ℕ). take i (front ++ s)) whole
    ∙ take-append-add front s (m - have)
    ∙ ap (λ (b : Bytes). front ++ b) (sym (take_within s (m - have))) in
    left ∙ sym right

-- Zeros behind the first m bytes.
cleared : (b : Bytes) (m : ℕ) → m ≤ length b → pasted b m (blank (length b)) ≡ filled (length b) (take m b)
unfolding pasted filled
cleared b m h =
    let size : length (take m b) ≡ m = omega (arith, length-take m b) in
    let past : length b ≤ m + length (blank (length b)) = omega (arith, length_blank (length b)) in
    rw (size, drop_of_length-le b past, append-nil, take_blank (length b - m) (length b) (omega arith))

-- A string put into a room of zeros.
pub new_lem : (n : ℕ) (s : Bytes) {bytes : Bytes} {m : ℕ} → bytes ≡ filled n (take n s) → m ≡ min (length s) n → room n bytes m ≡ kept n (take n s)
new_lem n s {m = m} w e =
    let count : m ≡ length (take n s) = omega (arith, length-take n s) in
    rw (count, w)

module _ {n : ℕ} (k : Kept n) (size : length k.bytes ≡ n) where
  -- A length within the room.
  pub fit_lem : {m : ℕ} → m ≡ min k.len n → room n k.bytes m ≡ held_over k (held k)
  fit_lem {m} e =
      let count : m ≡ length (take k.len k.bytes) = omega (arith, length-take k.len k.bytes) in
      rw (count, pasted_own k.bytes k.len)

  -- Another string.
  pub hold_lem : (s : Bytes) {after : Bytes} {m : ℕ} → after ≡ pasted k.bytes 0 s → m ≡ min (length s) n → room n after m ≡ held_over k (take n s)
  hold_lem s {after} {m} w e =
      let count : m ≡ length (take n s) = omega (arith, length-take n s) in
      let whole : after ≡ pasted k.bytes 0 (take n s) = w ∙ pasted_cut k.bytes s ∙ ap (λ (i : ℕ). pasted k.bytes 0 (take i s)) size in
      rw (count, whole)

  -- A longer string.
  pub add_lem : (s : Bytes) {most place have sum r : ℕ} {after : Bytes} → most < 2 ^ 64 → place ≡ min most n → have ≡ min k.len place → after ≡ pasted k.bytes have s
      → sum ≡ min (have + length s) 18446744073709551615 → r ≡ min sum place → take r after ≡ take (min most n) (held k ++ s)
  add_lem s {most} {place} {have} {sum} {r} {after} small p h w a e =
      let fits : min most n ≤ length k.bytes = omega arith in
      let first : have ≡ min k.len (min most n) = omega arith in
      let count : r ≡ min (have + length s) (min most n) = omega arith in
      more k.bytes s k.len (min most n) fits first w count ∙ cut_front (min most n) (held k) s

  -- The room whole.
  pub added_lem : (s : Bytes) {most place have sum r : ℕ} {after : Bytes} → most < 2 ^ 64 → place ≡ min most n → have ≡ min k.len place → after ≡ pasted k.bytes have s
      → sum ≡ min (have + length s) 18446744073709551615 → r ≡ min sum place → room n after r ≡ added k s (min most n)
  added_lem s {most} {place} {have} {sum} {r} {after} small p h w a e =
      let first : have ≡ min k.len (min most n) = omega arith in
      let count : r ≡ min (min k.len (min most n) + length s) (min most n) = omega arith in
      rw (count, w, first)

  -- Zeros behind the string.
  pub tidy_lem : {m : ℕ} {after : Bytes} → m ≡ min k.len n → after ≡ pasted k.bytes m (replicate n 0) → room n after m ≡ kept n (held k)
  tidy_lem {m} {after} e w =
      let fits : m ≤ length k.bytes = omega arith in
      let one : m ≡ min k.len (length k.bytes) = omega arith in
      let string : take m k.bytes ≡ take k.len k.bytes =
      ap (λ (i : ℕ). take i k.bytes) one ∙ sym (cut_at k.bytes k.len (length k.bytes))
      ∙ take_all (length k.bytes) (take k.len k.bytes) (omega (arith, length-take k.len k.bytes)) in
      let count : m ≡ length (take k.len k.bytes) = omega (arith, length-take k.len k.bytes) in
      let whole : after ≡ filled n (take k.len k.bytes) =
      w ∙ ap (λ (i : ℕ). pasted k.bytes m (replicate i 0)) (sym size) ∙ ap (pasted k.bytes m) (zeros (length k.bytes)) ∙ cleared k.bytes m fits
      ∙ ap (filled (length k.bytes)) string ∙ ap (λ (i : ℕ). filled i (take k.len k.bytes)) size in
      rw (count, whole)
