-- Laws of a search for the first zero that goes by an index.
use mathlib.Core.Path.{◌≡◌}
use mathlib.Core.Logic.{◌≢◌}
use mathlib.Core.Bool.{◌||◌}
use Prim.Native.Nat.{ℕ, suc, ◌+◌, ◌<◌, ◌≤◌}
use native.Mathlib.Numerals.{add-one}
use native.Mathlib.Omega.{arith}
use lib.ListN.{length, drop, drop_of_length-le}
use lib.Dec.{eqb, ltb}
use lib.Seq.{drop-cons, drop-drop}
use borrow.Author.Tests.{eq-eqb, ne_eqb, lt-ltb, le-ltb, ltb-true, ltb-false}
use Rattle.octets.specs.Octets.{Bytes, byte_at}
use Rattle.octets.proofs.Tests.{by_test, either}
use Rattle.pkcs1.specs.Pkcs1.{before_zero}
use Rattle.pkcs1.proofs.Steps.{passed}

-- The search from an index on: the byte there is not zero, it is zero, or none is left.
module _ (s : Bytes) (i : ℕ) where
  pub zero_more : i < length s → byte_at s i ≢ 0 → before_zero (drop i s) ≡ suc (before_zero (drop (i + 1) s))
  unfolding before_zero
  zero_more h n = rw (add-one, drop-cons s i 0, ne_eqb (byte_at s i) 0 n)

  pub zero_stop : i < length s → byte_at s i ≡ 0 → before_zero (drop i s) ≡ 0
  unfolding before_zero
  zero_stop h e = rw (drop-cons s i 0, eq-eqb (byte_at s i) 0 e)

  pub zero_end : length s ≤ i → before_zero (drop i s) ≡ 0
  unfolding before_zero
  zero_end h = rw (drop_of_length-le s h)

-- One more byte, and whether the first zero from a place on was among those looked at.
pub among_more : (s : Bytes) (at j : ℕ) → at + j < length s
    → (ltb (before_zero (drop at s)) j || eqb (byte_at s (at + j)) 0) ≡ ltb (before_zero (drop at s)) (j + 1)
among_more s at j h =
    let n : ℕ = before_zero (drop at s) in
    by_test ((ltb n j || eqb (byte_at s (at + j)) 0) ≡ ltb n (j + 1)) (ltb n j)
    (λ e.
    let less : n < j = ltb-true n j e in
    rw (e, lt-ltb n (j + 1) (omega arith)))
    (λ e.
    let rest : n ≡ j + before_zero (drop (at + j) s) = rw (drop-drop j at s) at (passed (drop at s) j (ltb-false n j e)) in
    either ((ltb n j || eqb (byte_at s (at + j)) 0) ≡ ltb n (j + 1)) (byte_at s (at + j)) 0
    (λ z. rw (e, eq-eqb (byte_at s (at + j)) 0 z, lt-ltb n (j + 1) (omega (arith, zero_stop s (at + j) h z))))
    (λ z. rw (e, ne_eqb (byte_at s (at + j)) 0 z, le-ltb n (j + 1) (omega (arith, zero_more s (at + j) h z)))))
