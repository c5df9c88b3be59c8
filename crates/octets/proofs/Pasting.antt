-- Laws of a string written into another, and of the part of a string from a place on.
use mathlib.Core.Path.{◌≡◌, refl, sym, ap, ◌∙◌}
use mathlib.Core.List.{[], ◌∷◌, ◌++◌, append_assoc, append-nil}
use Prim.Native.Nat.{ℕ, zero, suc, ◌+◌, ◌-◌, ◌<◌, ◌≤◌, min}
use native.Mathlib.Nat.{sub-zero, zero-sub, suc-sub-suc, zero-add, add_assoc}
use native.Mathlib.Numerals.{add-one}
use native.Mathlib.Omega.{arith, min_cases}
use lib.Dec.{leb}
use lib.ListN.{length, take, drop, set, replicate, length-append, length-take, length-drop, length-replicate, drop_of_length-le, take-append-drop}
use lib.Seq.{take-nil, take_all, take_at, take-append_seam, take-append-add, take-append-le, drop-append-add, drop-append_seam, drop-drop, drop-cons, set_at, append_snoc, paste}
use borrow.Author.Tests.{leb-true, leb-false}
use borrow.Rule.Slice.PartMut.{put_mid}
use Rattle.octets.specs.Octets.{Bytes, byte_at, blank, filled, pasted}
use Rattle.octets.proofs.Tests.{by_test}

-- A loop that copies as many bytes as fit.
module _ (dst : Bytes) (at : ℕ) (src : Bytes) where
  whole : length src ≤ length dst - at → paste dst at src (length src) ≡ pasted dst at src
  unfolding pasted
  whole h = rw (take_all (length dst - at) src h, take_all (length src) src (omega arith), append_assoc)

  cut : length dst - at ≤ length src → paste dst at src (length dst - at) ≡ pasted dst at src
  unfolding pasted
  cut h =
      let past : length dst ≤ at + length src = omega arith in
      let end : length dst ≤ at + (length dst - at) = omega arith in
      rw (drop_of_length-le dst past, drop_of_length-le dst end, append_assoc)

  pub paste_fitting : (n : ℕ) → n ≡ min (length src) (length dst - at) → paste dst at src n ≡ pasted dst at src
  paste_fitting n e =
      min_cases (length src) (length dst - at) (paste dst at src n ≡ pasted dst at src)
      (λ h m. rw (e, m) (whole h))
      (λ h m. rw (e, m) (cut h))

pub zeros : (n : ℕ) → replicate n 0 ≡ blank n
unfolding blank
zeros n = refl

pub length_blank : (n : ℕ) → length (blank n) ≡ n
unfolding blank
length_blank n = length-replicate n 0

pub drop_zeros : (k n : ℕ) → drop k (blank n) ≡ blank (n - k)
unfolding blank
drop_zeros zero n = rw (sub-zero n)
drop_zeros (suc k) zero = rw (zero-sub (suc k))
drop_zeros (suc k) (suc n) = rw (suc-sub-suc n k) (drop_zeros k n)

-- A string at the front of zeros.
pub pasted_blank : (n : ℕ) (s : Bytes) → pasted (blank n) 0 s ≡ filled n (take n s)
unfolding pasted filled
pasted_blank n s =
    let left : n - min n (length s) ≡ n - length s = omega arith in
    rw (length_blank n, sub-zero n, zero-add (length s), drop_zeros (length s) n, length-take n s, left)

pub filled_by : (n : ℕ) (s : Bytes) {room written : Bytes} → room ≡ blank n → written ≡ pasted room 0 s → written ≡ filled n (take n s)
filled_by n s e w = w ∙ rw e (pasted_blank n s)

-- A buffer written from its front, piece by piece: what was written, up to the place `at`, then the buffer's own bytes.
module _ (buffer front : Bytes) (at : ℕ) (e : length front ≡ at) (next : ℕ) (room : next ≤ length buffer) where
  pub then_byte : (x : ℕ) → at + 1 ≡ next → set (front ++ drop at buffer) at x ≡ (front ++ x ∷ []) ++ drop next buffer
  then_byte x n =
      let h : at < length buffer = omega arith in
      rw (drop-cons buffer at 0 h, set_at front (byte_at buffer at) (drop (suc at) buffer) x at e, ← n, add-one, append_snoc front x (drop (suc at) buffer))

  pub then_string : (s : Bytes) → at + length s ≡ next → pasted (front ++ drop at buffer) at s ≡ (front ++ s) ++ drop next buffer
  unfolding pasted
  then_string s n =
      let fits : length s ≤ length (front ++ drop at buffer) - at = simp (length-append, length-drop) (omega arith) in
      rw (take_all _ s fits, take_at front (drop at buffer) at e, ← n, ← e, drop-append-add front (drop (length front) buffer) (length s), drop-drop (length s) (length front) buffer, append_assoc)

-- A string written at the front.
pub pasted_front : (d s : Bytes) → pasted d 0 s ≡ take (length d) s ++ drop (length s) d
unfolding pasted
pasted_front d s = rw (sub-zero (length d), zero-add (length s))

pub pasted_nothing : (d : Bytes) → pasted d 0 [] ≡ d
pasted_nothing d = rw (pasted_front d [], take-nil (length d))

-- One written where another ends.
pasted_end : (p r q : Bytes) → pasted (p ++ r) (length p) q ≡ p ++ (take (length r) q ++ drop (length q) r)
unfolding pasted
pasted_end p r q =
    let room : length (p ++ r) - length p ≡ length r = simp length-append (omega arith) in
    rw (room, take-append_seam p r, drop-append-add p r (length q))

-- A string written at the front, and another behind it: both are cut where the room ends.
module _ (d p q : Bytes) where
  behind_short : length p ≤ length d → pasted (pasted d 0 p) (length p) q ≡ pasted d 0 (p ++ q)
  behind_short h =
      let sum : length p + (length d - length p) ≡ length d = omega arith in
      let cut : take (length d) (p ++ q) ≡ p ++ take (length d - length p) q = rw sum at (take-append-add p q (length d - length p)) in
      rw (
        pasted_front d p,
        take_all (length d) p h,
        pasted_end p (drop (length p) d) q,
        length-drop (length p) d,
        drop-drop (length q) (length p) d,
        pasted_front d (p ++ q),
        cut,
        length-append p q,
        append_assoc,
      )

  behind_full : length d ≤ length p → pasted (pasted d 0 p) (length d) q ≡ pasted d 0 (p ++ q)
  behind_full h =
      let cut : Bytes = take (length d) p in
      let size : length cut ≡ length d = length-take (length d) p ∙ omega arith in
      let past : length d ≤ length (p ++ q) = rw (length-append p q) (omega arith) in
      let some : 0 ≤ length q = omega arith in
      let end : pasted (cut ++ []) (length cut) q ≡ cut = pasted_end cut [] q ∙ rw (drop_of_length-le [] some) (append-nil cut) in
      rw (pasted_front d p, drop_of_length-le d h, pasted_front d (p ++ q), drop_of_length-le d past, take-append-le (length d) p q h, append-nil cut) (rw (append-nil cut, size) at end)

  pub pasted_behind : (at : ℕ) → at ≡ min (length p) (length d) → pasted (pasted d 0 p) at q ≡ pasted d 0 (p ++ q)
  pasted_behind at e =
      min_cases (length p) (length d) (pasted (pasted d 0 p) at q ≡ pasted d 0 (p ++ q))
      (λ h m. rw (e, m) (behind_short h))
      (λ h m. rw (e, m) (behind_full h))

-- What is written keeps the length, and past the end nothing is written.
module _ (d : Bytes) (at : ℕ) (s : Bytes) where
  pub length_pasted : length (pasted d at s) ≡ length d
  unfolding pasted
  length_pasted = simp (length-append, length-take, length-drop) (omega arith)

  pasted_past : length d ≤ at → pasted d at s ≡ d
  unfolding pasted
  pasted_past h =
      let none : length d - at ≡ 0 = omega arith in
      let past : length d ≤ at + length s = omega arith in
      rw (take_all at d h, none, drop_of_length-le d past, append-nil d)

-- As much of a string as fits, put in the place of the k bytes from index a on.
pub pasted_part : (dst : Bytes) (at : ℕ) (src part : Bytes) (a k : ℕ) → a ≡ min at (length dst) → k ≡ min (length src) (length dst - a) → part ≡ take k src
    → put_mid a k dst part ≡ pasted dst at src
pasted_part dst at src part a k p q e =
    min_cases at (length dst) (put_mid a k dst part ≡ pasted dst at src)
    (λ h m.
    let here : a ≡ at = p ∙ m in
    rw (e, here, drop-drop k at dst, ← append_assoc (take at dst)) (paste_fitting dst at src k (omega arith)))
    (λ h m.
    let end : a ≡ length dst = p ∙ m in
    let none : k ≡ 0 = omega arith in
    rw (e, end, none, pasted_past dst at src h, take_all (length dst) dst (omega arith), drop_of_length-le dst {i = length dst} (omega arith), append-nil dst))

-- Where none of it fits, or there is none, all stays.
pub pasted_none : (dst : Bytes) (at : ℕ) (src : Bytes) (a k : ℕ) → a ≡ min at (length dst) → k ≡ min (length src) (length dst - a) → k ≡ 0 → dst ≡ pasted dst at src
pasted_none dst at src a k p q e =
    let none : 0 ≡ min (length src) (length dst - a) = omega arith in
    sym (take-append-drop a dst) ∙ pasted_part dst at src [] a 0 p none refl

-- Behind a front that stays.
pasted_inner : (a b s : Bytes) (k : ℕ) → pasted (a ++ b) (length a + k) s ≡ a ++ pasted b k s
unfolding pasted
pasted_inner a b s k =
    let left : length (a ++ b) - (length a + k) ≡ length b - k = simp length-append (omega arith) in
    rw (take-append-add a b k, left, add_assoc (length a) k (length s), drop-append-add a b (k + length s), append_assoc)

-- One text behind another, from any place on: both are cut where the room ends.
module _ (d : Bytes) (at : ℕ) (p q : Bytes) where
  within : at ≤ length d → pasted (pasted d at p) (min (at + length p) (length d)) q ≡ pasted d at (p ++ q)
  within h =
      let a : Bytes = take at d in
      let b : Bytes = drop at d in
      let whole : d ≡ a ++ b = sym (take-append-drop at d) in
      let front : length a ≡ at = omega (arith, length-take at d) in
      let rest : length b ≡ length d - at = length-drop at d in
      let place : at ≡ length a + 0 = omega arith in
      let one : (s : Bytes) → pasted d at s ≡ a ++ pasted b 0 s =
      λ s. ap (λ (x : Bytes). pasted x at s) whole ∙ ap (λ (n : ℕ). pasted (a ++ b) n s) place ∙ pasted_inner a b s 0 in
      let k : ℕ = min (length p) (length b) in
      let end : min (at + length p) (length d) ≡ length a + k = omega arith in
      rw (one p, end, pasted_inner a (pasted b 0 p) q k, pasted_behind b p q k refl, one (p ++ q))

  pub pasted_then : pasted (pasted d at p) (min (at + length p) (length d)) q ≡ pasted d at (p ++ q)
  pasted_then =
      by_test _ (leb at (length d))
      (λ e. within (leb-true at (length d) e))
      (λ e.
      let h : length d ≤ at = omega (arith, leb-false at (length d) e) in
      let end : min (at + length p) (length d) ≡ length d = omega arith in
      rw (pasted_past d at p h, pasted_past d at (p ++ q) h, end) (pasted_past d (length d) q (omega arith)))

-- Nothing written, from any place on.
pub pasted_zero : (d : Bytes) (at : ℕ) → pasted d at [] ≡ d
unfolding pasted
pasted_zero d at =
    let none : at + 0 ≡ at = omega arith in
    rw (take-nil (length d - at), none) (take-append-drop at d)

-- A string written over its own front.
pub pasted_own : (d : Bytes) (n : ℕ) → pasted d 0 (take n d) ≡ d
pasted_own d n =
    let a : Bytes = take n d in
    let b : Bytes = drop n d in
    let whole : d ≡ a ++ b = sym (take-append-drop n d) in
    let short : length a ≤ length d = omega (arith, length-take n d) in
    let rest : drop (length a) d ≡ b = ap (drop (length a)) whole ∙ drop-append_seam a b in
    rw (pasted_front d a, take_all (length d) a short, rest) (take-append-drop n d)

-- A string read back from the front where it was written.
pub take_pasted : (d s : Bytes) → length s ≤ length d → take (length s) (pasted d 0 s) ≡ s
take_pasted d s h = rw (pasted_front d s, take_all (length d) s h) (take-append_seam s (drop (length s) d))
