-- What the 256 bytes of an answer leave of the data that a command gives.
use mathlib.Core.Path.{◌≡◌, refl, ◌∙◌}
use mathlib.Core.Bool.{cond}
use Prim.Native.Nat.{ℕ, ◌≤◌}
use lib.Dec.{leb, ltb}
use lib.Seq.{take-take, take_all}
use native.Mathlib.Omega.{arith}
use lib.ListN.{length, take, drop, length-take, length-drop}
use borrow.Author.Tests.{le-ltb, lt-leb, leb-true, leb-false, ltb-true, ltb-false}
use Rattle.octets.proofs.Tests.{split, by_test}
use Rattle.octets.proofs.Cutting.{uncut_first}
use Rattle.octets.specs.Octets.{Bytes}
use Rattle.rules.specs.FileCommands.{read_status}

-- At most 256 bytes are given whole; so are their first ones, and those behind them.
pub uncut : (d : Bytes) → length d ≤ 256 → take 256 d ≡ d
uncut d = take_all 256 d

pub first_uncut : (n : ℕ) (d : Bytes) → length d ≤ 256 → take 256 (take n d) ≡ take n d
first_uncut n d h = uncut (take n d) (omega (arith, length-take n d))

pub rest_uncut : (n : ℕ) (d : Bytes) → length d ≤ 256 → take 256 (drop n d) ≡ drop n d
rest_uncut n d h = uncut (drop n d) (omega (arith, length-drop n d))

-- As many bytes as Le says, and at most 256.
pub take_in_reach : (le : ℕ) (d : Bytes) → take 256 (take le d) ≡ take (cond (leb le 256) le 256) d
take_in_reach le d = split (λ n. take 256 (take le d) ≡ take n d) (leb le 256)
    (λ e. uncut_first 256 le d (leb-true le 256 e))
    (λ e. take-take 256 le d (omega (arith, leb-false le 256 e)))

-- An Le over 256 is answered as 256 is.
status_in_reach : (le remains : ℕ) → read_status le remains ≡ read_status (cond (leb le 256) le 256) remains
unfolding read_status
status_in_reach le remains = split (λ n. read_status le remains ≡ read_status n remains) (leb le 256)
    (λ e. refl)
    (λ e. rw (lt-leb le 255 (omega (arith, leb-false le 256 e))))

-- Whether fewer than Le bytes remain is seen by the part that is given.
status_of_part : (le : ℕ) (d : Bytes) → read_status le (length (take le d)) ≡ read_status le (length d)
unfolding read_status
status_of_part le d = by_test _ (ltb (length d) le)
    (λ e. rw (take_all le d (omega (arith, ltb-true (length d) le e))))
    (λ e. let whole : length (take le d) ≡ le = omega (arith, length-take le d, ltb-false (length d) le e) in
    rw (whole, e, le-ltb le le (omega arith)))

-- The status word that the part which is given gets.
pub status_given : (le : ℕ) (d : Bytes) → read_status le (length (take le d)) ≡ read_status (cond (leb le 256) le 256) (length d)
status_given le d = status_of_part le d ∙ status_in_reach le (length d)
