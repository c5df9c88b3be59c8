-- Responses: data and status word, written to the buffer and read back; and 63Cx told from 9000.
use mathlib.Core.Path.{◌≡◌}
use mathlib.Core.Bool.{true, false}
use mathlib.Core.List.{[]}
use Prim.Native.Nat.{ℕ, ◌+◌, ◌-◌, ◌/◌, ◌%◌, ◌≤◌}
use native.Mathlib.Omega.{arith}
use lib.ListN.{length, drop, length-append, length-drop}
use lib.Seq.{drop-append-add, get_or-append-add, get_or_at}
use borrow.Author.Tests.{ne_eqb, le-leb}
use Rattle.octets.specs.Octets.{Bytes, byte_at}
use Rattle.octets.proofs.Words.{word_of_halves}
use Rattle.rules.specs.Numbers.{responded}
use Rattle.rules.specs.Edge.{response_in}
use Rattle.rules.specs.Counting.{returned_status, wrong_status, ok_status}

-- A response in the buffer.
module _ (buffer d : Bytes) (sw : ℕ) where
  pub response_rest : drop (length d + 2) (response_in buffer d sw) ≡ drop (length d + 2) buffer
  unfolding response_in
  response_rest = drop-append-add d _ 2

  pub response_sized : length d + 2 ≤ length buffer → length (response_in buffer d sw) ≡ length buffer
  unfolding response_in
  response_sized room = simp (length-append, length-drop) (omega arith)

  pub response_status : returned_status (responded (length d + 2)) (response_in buffer d sw) ≡ sw
  unfolding response_in returned_status
  response_status =
      let high : byte_at (response_in buffer d sw) (length d + 2 - 2) ≡ sw / 256 = get_or_at d (sw / 256) _ 0 _ (omega arith) in
      let place : length d + 2 - 1 ≡ length d + 1 = omega arith in
      let low : byte_at (response_in buffer d sw) (length d + 2 - 1) ≡ sw % 256 = rw place (get_or-append-add d _ 1 0) in
      rw (high, low) (word_of_halves sw)

-- A status word alone.
pub status_read : (w : Bytes) (sw : ℕ) → returned_status (responded (length {A = ℕ} [] + 2)) (response_in w [] sw) ≡ sw
status_read w sw = response_status w [] sw

-- 63Cx is a wrong answer and no right one.
pub wrong_status_lem : (t : ℕ) → t ≤ 15 → wrong_status (0x63C0 + t) ≡ true
unfolding wrong_status
wrong_status_lem t h = simp (le-leb 0x63C0 (0x63C0 + t) (omega arith), le-leb (0x63C0 + t) 0x63CF (omega arith))

pub wrong_not_ok : (t : ℕ) → t ≤ 15 → ok_status (0x63C0 + t) ≡ false
unfolding ok_status
wrong_not_ok t h = ne_eqb (0x63C0 + t) 0x9000 (omega arith)
