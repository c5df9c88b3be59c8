-- 9000 to a RESET RETRY leaves the marks of the PIN and of PUK off: by the command's own rules, and in every call.
use mathlib.Core.Path.{◌≡◌, refl, ◌∙◌}
use mathlib.Core.Bool.{Bool, true, false, ◌&&◌, ◌||◌, or-true, and-false, false≢true}
use mathlib.Core.List.{List, [], ◌∷◌}
use Prim.Native.Nat.{ℕ, zero, suc}
use native.Mathlib.Omega.{arith}
use lib.Dec.{eqb}
use borrow.Author.Tests.{eqb-true}
use Rattle.octets.specs.Octets.{Bytes}
use Rattle.octets.proofs.Tests.{and_left, and_right}
use Rattle.rules.specs.declared.Code.{Code}
use Rattle.rules.specs.declared.Header.{Header}
use Rattle.rules.specs.Codes.{PUK, marked, code_of, with_code}
use Rattle.rules.specs.CodeCommands.{LeavesClosed, judged, unblocked, unblock_by_presented_puk, reset_retry}
use Rattle.rules.specs.Answers.{code_status}
use Rattle.rules.specs.Counting.{Exchange, exchange, status_word, Sent, sent, nothing, sent_by, read_off, ok_status}
use Rattle.rules.specs.Counting.{verifies, changes, unblocks, answers}
use Rattle.rules.specs.CodeSheet.{UnblockingCloses, any_unblocks, opens, closes}
use Rattle.rules.proofs.Parts.{code_tries, good_code_lem}
use Rattle.rules.proofs.Walks.{replaced_walk, verified_puk_walk, reset_retry_walk}
use Rattle.rules.proofs.Sheet.{verifies_no, changes_no, code_after}

-- A code with its mark off is put in a place: that place is closed then, and one that was closed stays so. Past the end no code is verified.
off_there : (l : List Code) (k : ℕ) (v : Code) → v.verified ≡ false → (code_of (with_code l k v) k).verified ≡ false
off_there [] k v e = refl
off_there (x ∷ l) zero v e = e
off_there (x ∷ l) (suc k) v e = off_there l k v e

off_kept : (l : List Code) (j k : ℕ) (v : Code) → v.verified ≡ false → (code_of l k).verified ≡ false → (code_of (with_code l j v) k).verified ≡ false
off_kept [] j k v e n = refl
off_kept (x ∷ l) zero zero v e n = e
off_kept (x ∷ l) zero (suc k) v e n = n
off_kept (x ∷ l) (suc j) zero v e n = n
off_kept (x ∷ l) (suc j) (suc k) v e n = off_kept l j k v e n

-- What RESET RETRY leaves.
unblocked_off : (codes : List Code) (pin : ℕ) (pinCode : Code) (t : ℕ) → LeavesClosed codes pin (code_status (unblocked codes pin pinCode t) 0x9000)
unfolding unblocked
unblocked_off codes pin pinCode t _ _ =
    let v : Code = marked pinCode 3 false in
    let u : Code = marked (code_of codes PUK) t false in
    let first : List Code = with_code codes pin v in
    (off_kept first PUK pin u refl (off_there codes pin v refl), off_there first PUK u refl)

-- Its own rules.
pub reset_closes : (codes : List Code) (counts : List ℕ) (h : Header) (d : Bytes) → LeavesClosed codes h.p2 (reset_retry codes counts h d)
unfolding unblock_by_presented_puk judged
reset_closes codes counts h d =
    let P = LeavesClosed codes h.p2 in
    reset_retry_walk P codes counts h d (λ _ e. absurd (omega arith)) (λ _ e. absurd (omega arith))
    (λ _ _ _. verified_puk_walk P codes h.p2 (λ _ e. absurd (omega arith)) (λ _. unblocked_off codes h.p2 _ _))
    (λ _ _ _. replaced_walk P codes PUK h.p2 _ _ _ (λ _ _ e. absurd (omega arith))
    (λ _ _ g e. absurd (omega (arith, code_tries PUK (code_of codes PUK) (good_code_lem codes g PUK (omega arith)))))
    (λ _ e. absurd (omega arith))
    (λ _ _ _. unblocked_off codes h.p2 _ _))

-- 9000 to a 2C opens no code: it is neither a VERIFY nor a CHANGE.
module _ (k : ℕ) (test : Header → Bool) (only : (h : Header) → test h ≡ true → eqb h.ins 0x2C ≡ true) where
  other_instruction : (h : Header) → test h ≡ true → (n : ℕ) → eqb 0x2C n ≡ false → eqb h.ins n ≡ false
  other_instruction h t n e = rw (eqb-true h.ins 0x2C (only h t)) e

  opens_nothing : (ok : Bool) (s : Sent) → read_off (λ h d. test h) false s ≡ true
      → ((ok && read_off (λ h d. verifies k h) false s) || (ok && read_off (λ h d. changes k h) false s)) ≡ false
  unfolding read_off
  opens_nothing ok (sent h d) t =
      rw (verifies_no k h (other_instruction h t 0x20 refl), changes_no k h (other_instruction h t 0x24 refl), and-false)
  opens_nothing ok nothing t = absurd (false≢true t)

  unblocking_opens : (e : Exchange) → answers ok_status test e ≡ true → opens k e ≡ false
  unfolding opens
  unblocking_opens e t = opens_nothing (ok_status (status_word e)) (sent_by e.call) (and_right (ok_status (status_word e)) _ t)

unblocks_ins : (k : ℕ) (h : Header) → unblocks k h ≡ true → eqb h.ins 0x2C ≡ true
unfolding unblocks
unblocks_ins k h t = and_left _ _ (and_left _ _ (and_left _ _ t))

-- Every call.
pub unblocking_closes : UnblockingCloses
unfolding closes
unblocking_closes =
    record {
      pin = λ k h3 c x t.
          let e : Exchange = exchange c x in
          (code_after k h3 c x).verified ∙ rw (unblocking_opens k (unblocks k) (unblocks_ins k) e t) (simp (t, or-true));
      puk = λ c x t.
          let e : Exchange = exchange c x in
          (code_after PUK (omega arith) c x).verified ∙ rw (unblocking_opens PUK any_unblocks (λ h i. i) e t) (simp (t, or-true));
    }
