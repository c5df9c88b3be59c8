-- What the proofs of the functions cite: a block written piece by piece, and a search for the first zero.
use mathlib.Core.Path.{◌≡◌, refl, sym, ◌∙◌}
use Rattle.std.specs.List.{list_any, prefix_len, fold}
use Rattle.std.specs.Simd.{first_chunks}
use mathlib.Core.Bool.{Bool, or_assoc, or-false, ◌||◌, false, not}
use mathlib.Core.List.{[], ◌∷◌, ◌++◌, append_assoc}
use Prim.Native.Nat.{ℕ, zero, suc, ◌*◌, ◌+◌, ◌-◌, ◌≤◌}
use native.Mathlib.Omega.{arith}
use lib.ListN.{length, take, drop, set, replicate, length-take, length-drop, length-replicate}
use lib.Dec.{eqb}
use lib.Seq.{take_all, drop_at}
use Rattle.octets.specs.Octets.{Bytes, pasted}
use Rattle.octets.proofs.Tests.{by_test, neither}
use Rattle.octets.proofs.Pasting.{then_byte, then_string}
use Rattle.pkcs1.specs.Pkcs1.{padded, before_zero}
use Rattle.pkcs1.proofs.Laws.{padded_parts, pad_long, pad_short, pad_writes}

-- The search byte by byte, as the library says it.
pub before_is : (s : Bytes) → before_zero s ≡ prefix_len (λ x. not (eqb x 0)) s
unfolding before_zero
before_is [] = refl
before_is (x ∷ s) = by_test (before_zero (x ∷ s) ≡ prefix_len (λ x. not (eqb x 0)) (x ∷ s)) (eqb x 0) (λ e. rw e) (λ e. rw (e, before_is s) (omega arith))

-- Bytes of which none is zero.
none_zero : (n : ℕ) (s : Bytes) → n ≤ length s → list_any (λ x. eqb x 0) (take n s) ≡ false → before_zero s ≡ n + before_zero (drop n s)
unfolding before_zero
none_zero zero s h e = omega arith
none_zero (suc n) [] h e = absurd (omega arith)
none_zero (suc n) (x ∷ s) h e =
    let p = neither (eqb x 0) (list_any (λ x. eqb x 0) (take n s)) e in
    rw p.0 (omega (arith, none_zero n s (omega arith) p.1))

-- The groups at the front of which none has a zero.
pub groups_before : (n k : ℕ) (s : Bytes) → n * k ≤ length s
    → n * prefix_len (λ g. not (list_any (λ x. eqb x 0) g)) (first_chunks n k s) ≤ before_zero s
groups_before n zero s h = omega arith
groups_before n (suc k) s h =
    by_test _ (list_any (λ x. eqb x 0) (take n s))
    (λ e. rw e (omega arith))
    (λ e.
    let more : before_zero s ≡ n + before_zero (drop n s) = none_zero n s (omega arith) e in
    let rest : n * k ≤ length (drop n s) = rw length-drop (omega arith) in
    rw e (omega (arith, more, groups_before n k (drop n s) rest)))

pub before_most : (s : Bytes) → before_zero s ≤ length s
unfolding before_zero
before_most [] = omega arith
before_most (x ∷ s) = by_test (before_zero (x ∷ s) ≤ suc (length s)) (eqb x 0) (λ e. rw e (omega arith)) (λ e. rw e (omega (arith, before_most s)))

-- Some of the bytes before the first zero are passed over.
pub passed : (s : Bytes) (i : ℕ) → i ≤ before_zero s → before_zero s ≡ i + before_zero (drop i s)
unfolding before_zero
passed s zero h = omega arith
passed [] (suc i) h = absurd (omega (arith, h))
passed (x ∷ s) (suc i) h =
    by_test (before_zero (x ∷ s) ≡ suc i + before_zero (drop i s)) (eqb x 0)
    (λ e. absurd (omega (arith, rw e at h)))
    (λ e. rw e (omega (arith, passed s i (omega (arith, rw e at h)))))

-- A look at every byte of a group.
pub zero_fold : (s : Bytes) (f : Bool) → fold (λ f x. f || eqb x 0) f s ≡ (f || list_any (λ x. eqb x 0) s)
zero_fold [] f = sym (or-false f)
zero_fold (x ∷ s) f = rw (zero_fold s (f || eqb x 0), or_assoc)

opened : (buffer : Bytes) → 2 ≤ length buffer → set (set buffer 0 0x00) 1 0x01 ≡ 0x00 ∷ 0x01 ∷ drop 2 buffer
opened [] h = absurd (omega arith)
opened (x ∷ []) h = absurd (omega arith)
opened (x ∷ (y ∷ b)) h = refl

-- A padded block: the message written to its end, then the pieces before it one after the other.
module _ (d buffer : Bytes) (start : ℕ) (e : start ≡ 256 - length d) (few : length d ≤ 245) (room : 256 ≤ length buffer) where
  behind : drop start (pasted buffer start d) ≡ d ++ drop 256 buffer
  unfolding pasted
  behind =
      let fits : length d ≤ length buffer - start = omega arith in
      let size : length (take start buffer) ≡ start = length-take start buffer ∙ omega arith in
      let end : start + length d ≡ 256 = omega arith in
      rw (take_all (length buffer - start) d fits, drop_at (take start buffer) (d ++ drop (start + length d) buffer) start size, end)

  pub padded_by : (b : Bytes) → length b ≡ length buffer → b ≡ pasted buffer start d
      → set (pasted (set (set b 0 0x00) 1 0x01) 2 (replicate (start - 3) 0xFF)) (start - 1) 0x00 ≡ padded d ++ drop 256 buffer
  padded_by b same written =
      let filler : Bytes = replicate (start - 3) 0xFF in
      let front : Bytes = 0x00 ∷ 0x01 ∷ [] in
      let count : length filler ≡ start - 3 = length-replicate (start - 3) 0xFF in
      let left : 253 - length d ≡ start - 3 = omega arith in
      rw (
        opened b (omega arith),
        then_string b front 2 refl (start - 1) (omega arith) filler (omega arith),
        then_byte b (front ++ filler) (start - 1) (omega arith) start (omega arith) 0x00 (omega arith),
        written,
        behind,
        padded_parts d,
        left,
        append_assoc (front ++ filler ++ 0x00 ∷ []) d (drop 256 buffer),
      )

-- What the proof of the padding takes.
pub ruleset padding = (pad_long, pad_short, pad_writes, padded_by)
