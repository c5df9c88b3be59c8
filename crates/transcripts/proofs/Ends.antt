-- A string that a room cuts, and the line feed that a last line still needs.
use mathlib.Core.Path.{◌≡◌, refl, sym, ◌∙◌}
use mathlib.Core.Logic.{◌≢◌}
use mathlib.Core.Bool.{cond}
use mathlib.Core.List.{[], ◌∷◌, append-nil}
use Prim.Native.Nat.{ℕ, ◌+◌, ◌≤◌}
use native.Mathlib.Nat.{sub-zero}
use native.Mathlib.Omega.{arith}
use lib.Dec.{eqb, leb}
use lib.ListN.{length, take, length-take, drop_of_length-le}
use lib.Seq.{take-nil, take_all}
use borrow.Author.Tests.{leb-true, leb-false, ne_eqb}
use Rattle.octets.specs.Octets.{Bytes, pasted}
use Rattle.octets.proofs.Tests.{by_test}
use Rattle.octets.proofs.Pasting.{take_pasted}
use Rattle.requests.specs.declared.Dialect.{Dialect}
use Rattle.requests.specs.Requests.{line_feed}
use Rattle.transcripts.specs.Transcript.{kept_line}

-- A string put into a room, as much of it as fits.
pub stored_front : (room b : Bytes) → take (length b) (pasted room 0 b) ≡ take (length room) b
unfolding pasted
stored_front room b =
    by_test _ (leb (length b) (length room))
    (λ e.
    let h : length b ≤ length room = leb-true (length b) (length room) e in
    take_pasted room b h ∙ sym (take_all (length room) b h))
    (λ e.
    let past : length room ≤ 0 + length b = omega (arith, leb-false (length b) (length room) e) in
    let short : length (take (length room) b) ≤ length b = omega (arith, length-take (length room) b) in
    rw (sub-zero (length room), drop_of_length-le room past, append-nil) (take_all (length b) (take (length room) b) short))

-- The line feed that a last line still needs.
pub last_feed : (d : Dialect) (b : Bytes) → take (length b) (line_feed ∷ []) ≡ cond (eqb (length (kept_line d b)) 0) [] (line_feed ∷ [])
last_feed d [] = refl
last_feed d (x ∷ b) =
    let some : length (kept_line d (x ∷ b)) ≢ 0 = omega arith in
    rw (ne_eqb (length (kept_line d (x ∷ b))) 0 some, take-nil (length b))
