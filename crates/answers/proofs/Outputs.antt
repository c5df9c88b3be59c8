-- The output that holds an answer, a law for each of its constructors; and what is written of an output, a law for each way.
use mathlib.Core.Path.{◌≡◌, refl, sym, ap, ◌∙◌}
use mathlib.Core.Bool.{true, ◌&&◌}
use Prim.Native.Nat.{ℕ, zero, suc, ◌+◌, ◌/◌, ◌%◌, ◌<◌, ◌≤◌}
use native.Mathlib.Omega.{arith}
use lib.Dec.{leb}
use lib.ListN.{length, take, set, length-take}
use lib.Seq.{take_all}
use borrow.Author.Tests.{lt-ltb, le-ltb, leb-true}
use Rattle.octets.specs.Octets.{Bytes, pasted, filled}
use Rattle.octets.proofs.Tests.{and_left, and_right}
use Rattle.octets.proofs.Strings.{take_filled}
use Rattle.octets.proofs.Chains.{filled_exactly}
use Rattle.octets.proofs.Parts.{string_in_front, string_then_two_bytes}
use Rattle.rules.specs.declared.Card.{Card}
use Rattle.rules.specs.declared.Refusal.TheVariants.{ShortBuffer}
use Rattle.rules.specs.Numbers.{kind_number, refusal_number, responded, handed_out}
use Rattle.rules.specs.declared.JobKind.{JobKind}
use Rattle.rules.specs.declared.JobKind.TheVariants.{Authenticate, Sign, Decipher}
use Rattle.rules.specs.Answers.{Answer, response, job}
use Rattle.rules.specs.Edge.{refuse, response_in, written}
use Rattle.answers.specs.declared.Output.{Output}
use Rattle.answers.specs.declared.Output.TheVariants.{Response, Job}
use Rattle.answers.specs.Outputs.{kind_meant, output_for, output_of, fits, written_or}

-- Kinds 1 to 3 are the numbers of the kinds that they stand for.
kind_itself : (kind : ℕ) → 1 ≤ kind → kind ≤ 3 → kind_number (kind_meant kind) ≡ kind
kind_itself zero l m = absurd (omega arith)
kind_itself (suc zero) l m = refl
kind_itself (suc (suc zero)) l m = refl
kind_itself (suc (suc (suc zero))) l m = refl
kind_itself (suc (suc (suc (suc kind)))) l m = absurd (omega arith)

-- And a kind is the one that its number stands for.
pub kind_again : (kind : JobKind) → kind_meant (kind_number kind) ≡ kind
kind_again Authenticate = refl
kind_again Sign = refl
kind_again Decipher = refl

-- A string of 256 bytes fills its room.
pub room_filled : (block : Bytes) → length block ≡ 256 → filled 256 block ≡ block
room_filled block whole = ap (filled 256) (sym (take_all 256 block (omega arith))) ∙ filled_exactly 256 block whole

-- An answer that fits is read back from its output.
pub read_back : (a : Answer) → fits a ≡ true → output_of (output_for a) ≡ a
unfolding output_for output_of fits
read_back (response d sw) f = simp (take_filled 256 d (leb-true (length d) 256 f))
read_back (job kind key block) f =
    let short : length block ≤ 256 = leb-true (length block) 256 (and_left _ (leb 1 kind && leb kind 3) f) in
    let range : (leb 1 kind && leb kind 3) ≡ true = and_right (leb (length block) 256) _ f in
    let some : 1 ≤ kind = leb-true 1 kind (and_left _ (leb kind 3) range) in
    let most : kind ≤ 3 = leb-true kind 3 (and_right (leb 1 kind) _ range) in
    simp (kind_itself kind some most, take_filled 256 block short)

-- The output of response data, in the first of 256 bytes; and that of a job with a whole block.
pub data_output : (d : Bytes) (sw : ℕ) {s bytes : Bytes} → s ≡ take 256 d → bytes ≡ filled 256 (take 256 d)
    → Response (record { bytes = bytes; len = length s }) sw ≡ output_for (response (take 256 d) sw)
unfolding output_for
data_output d sw e f = simp (e, f)

pub job_output : (kind : JobKind) (key : ℕ) (block : Bytes) → length block ≡ 256
    → Job kind key (record { bytes = block; len = 256 }) ≡ output_for (job (kind_number kind) key block)
unfolding output_for
job_output kind key block whole = simp (kind_again kind, room_filled block whole, whole)

-- The first n bytes of an array of 256.
pub at_most_256 : (bytes : Bytes) (n : ℕ) {s : Bytes} → s ≡ take n bytes → 256 ≡ length bytes → length s ≤ 256
at_most_256 bytes n e whole = rw e (omega (arith, length-take n bytes))

pub short_refused : (buffer : Bytes) (c : Card) (o : Output) → length buffer < 258
    → refuse c buffer (refusal_number ShortBuffer) ≡ written_or buffer c (output_of o)
unfolding written_or
short_refused buffer c o h = simp (lt-ltb (length buffer) 258 h)

-- In a buffer of 258 bytes or more, response data with two bytes behind it.
pub response_put : (buffer : Bytes) (sw : ℕ) (s : Bytes) {after : Bytes} {x y : ℕ} → 258 ≤ length buffer → length s ≤ 256
    → after ≡ pasted buffer 0 s → x ≡ sw / 256 → y ≡ sw % 256
    → set (set after (length s) x) (length s + 1) y ≡ response_in buffer s sw
unfolding response_in
response_put buffer sw s room short copied e f =
    simp (e, f, copied, string_then_two_bytes buffer s (sw / 256) (sw % 256) (omega arith))

-- What is written to a buffer of 258 bytes or more.
module _ (buffer : Bytes) (c : Card) (room : 258 ≤ length buffer) where
  pub answer_written : (a : Answer) → written buffer c a ≡ written_or buffer c a
  unfolding written_or
  answer_written a = simp (le-ltb (length buffer) 258 room)

  pub response_written : (sw : ℕ) (d : Bytes) {n : ℕ} {after : Bytes} → (n ≡ length d + 2) × (after ≡ response_in buffer d sw)
      → record { returned = responded n; card = c; buffer = after } ≡ written buffer c (response d sw)
  unfolding written
  response_written sw d e = simp (e.0, e.1)

  pub job_written : (kind key : ℕ) (block : Bytes) {after : Bytes} → length block ≤ 256 → after ≡ pasted buffer 0 block
      → record { returned = handed_out kind key; card = c; buffer = after } ≡ written buffer c (job kind key block)
  unfolding written
  job_written kind key block short copied = simp (copied, string_in_front buffer block (omega arith))
