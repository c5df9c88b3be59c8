-- The block of a job: padded, and joined of two parts.
use mathlib.Core.Path.{◌≡◌, refl, ◌∙◌}
use mathlib.Core.Bool.{true}
use mathlib.Core.List.{[], ◌++◌, append-nil}
use Prim.Native.Nat.{ℕ, ◌+◌, ◌≤◌}
use native.Mathlib.Omega.{arith}
use lib.ListN.{length, take, drop, drop_of_length-le, length-append}
use lib.Seq.{take_all}
use Rattle.octets.specs.Octets.{Bytes, blank, filled, pasted}
use Rattle.octets.proofs.Chains.{filled_behind, filled_exactly, filled_back}
use Rattle.octets.proofs.Pasting.{filled_by}
use Rattle.pkcs1.specs.Pkcs1.{padded, pad}
use Rattle.pkcs1.proofs.Laws.{pad_writes}
use Rattle.rules.proofs.Digests.{digest_forms}
use Rattle.rules.specs.Digests.{is_digest}

-- What padding leaves in a buffer of 256 bytes.
pub pad_alone : (d buffer : Bytes) → length d ≤ 245 → length buffer ≡ 256 → pad d buffer ≡ (256, padded d)
pad_alone d buffer few whole =
    let past : length buffer ≤ 256 = omega arith in
    let none : drop 256 buffer ≡ [] = drop_of_length-le buffer past in
    pad_writes d buffer few (omega arith) ∙ rw (none, append-nil (padded d)) refl

-- A digest of the list is padded whole.
pub digest_whole : (d : Bytes) → is_digest d ≡ true → take 245 d ≡ d
digest_whole d i = take_all 245 d (digest_forms.short d i)

-- Two strings, one behind the other, in room of their own.
pub put_twice : (n : ℕ) (a d : Bytes) {room one both : Bytes} → length a ≤ n → room ≡ blank n → one ≡ pasted room 0 a → both ≡ pasted one (length a) d
    → both ≡ filled n (take n (a ++ d))
put_twice n a d h r o b =
    b ∙ rw (filled_by n a r o, take_all n a h) (filled_behind n a d h)

-- They are read back, where both fit.
pub chain_whole : (a d : Bytes) (n : ℕ) → n ≡ length a + length d → n ≤ 257 → take 257 (take n (filled 257 (take 257 (a ++ d)))) ≡ a ++ d
chain_whole a d n e h =
    let size : length (a ++ d) ≡ n = omega (arith, length-append a d) in
    rw (← size) (filled_back 257 (a ++ d) (omega arith))

pub cryptogram_whole : (a d : Bytes) → length a + length d ≡ 257 → filled 257 (take 257 (a ++ d)) ≡ a ++ d
cryptogram_whole a d e = filled_exactly 257 (a ++ d) (length-append a d ∙ e)
