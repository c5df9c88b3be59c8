-- Laws of strings that are too short to be cut.
use mathlib.Core.List.{◌++◌}
use mathlib.Core.Path.{◌≡◌, sym, ap, ◌∙◌}
use Prim.Native.Nat.{ℕ, ◌≤◌}
use native.Mathlib.Omega.{arith}
use lib.ListN.{length, take, length-take}
use lib.Dec.{leb}
use lib.Seq.{take_all, take-append-le}
use borrow.Author.Tests.{leb-true, leb-false}
use Rattle.octets.specs.Octets.{Bytes}
use Rattle.octets.proofs.Tests.{by_test}
use Rattle.octets.proofs.Strings.{take_twice}

-- The first n bytes are not cut at m, where n is at most m.
pub uncut_first : (m n : ℕ) (b : Bytes) → n ≤ m → take m (take n b) ≡ take n b
uncut_first m n b h = take_all m (take n b) (omega (arith, length-take n b))

-- What was cut to n bytes is not cut again, and is at most n bytes long.
pub cut_again : (n : ℕ) (b d : Bytes) → b ≡ take n d → take n b ≡ b
cut_again n b d e = ap (take n) e ∙ take_twice n d ∙ sym e

pub cut_length : (n : ℕ) (b d : Bytes) → b ≡ take n d → length b ≤ n
cut_length n b d e = omega (arith, ap length e, length-take n d)

-- What is cut at n may be cut there before more is put behind it.
pub cut_front : (n : ℕ) (a b : Bytes) → take n (take n a ++ b) ≡ take n (a ++ b)
cut_front n a b =
    by_test _ (leb (length a) n)
    (λ e. rw (take_all n a (leb-true (length a) n e)))
    (λ e.
    let long : n ≤ length a = omega (arith, leb-false (length a) n e) in
    let size : n ≤ length (take n a) = omega (arith, length-take n a) in
    rw (take-append-le n (take n a) b size, take-append-le n a b long) (take_twice n a))
