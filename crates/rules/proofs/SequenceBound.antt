-- Demand 3's bounds follow from the code sheet: what one call adds, and the sum over a sequence.
use mathlib.Core.Path.{◌≡◌, refl, ap, ◌∙◌}
use mathlib.Core.Bool.{Bool, true, false, not, cond, ◌&&◌, ◌||◌, or-true, false≢true}
use mathlib.Core.List.{List, [], ◌∷◌}
use Prim.Native.Nat.{ℕ, ◌+◌, ◌-◌, ◌*◌, ◌≤◌, ◌<◌}
use native.Mathlib.Omega.{arith}
use lib.Dec.{eqb}
use borrow.Author.Tests.{ne_eqb}
use Rattle.octets.specs.Octets.{Bytes}
use Rattle.octets.proofs.Tests.{and_left}
use Rattle.rules.specs.declared.Card.{Card}
use Rattle.rules.specs.Numbers.{Returned, edge, responded, handed_out, was_reset}
use Rattle.rules.specs.Codes.{PIN2, code_of, no_limit, count_of, lowered}
use Rattle.rules.specs.Counting.{Call, Exchange, next, exchange, after, trace, returned_status, returned_kind}
use Rattle.rules.specs.Counting.{by_command, ok_status, wrong_answer, restoration, unblocking, right_verify, changed}
use Rattle.rules.specs.Counting.{hands_signature, one, wrong_answers, restorations, unblockings, signatures}
use Rattle.rules.specs.Counting.{pin2_presentations, pin2_changes}
use Rattle.rules.specs.CodeSheet.{opens, closes}
use Rattle.rules.proofs.Sheet.{code_after}
use Rattle.rules.proofs.Counts.{count_column}

-- Tries before and after a call that may be a wrong answer, a restoration, an unblocking.
tries_step : (w r u : Bool) (before after : ℕ) → after ≡ cond w (before - 1) (cond (r || u) 3 before) → (w ≡ true → 1 ≤ before) → (r ≡ true → 1 ≤ before)
    → one w + after ≤ before + 2 * one r + 3 * one u
tries_step true r u before after e w-some r_some = omega (arith, w-some refl)
tries_step false true u before after e w-some r_some = omega (arith, r_some refl)
tries_step false false true before after e w-some r_some = omega arith
tries_step false false false before after e w-some r_some = omega arith

-- A mark before and after a call that may open, close, or hand out a signature.
mark_step : (signs opened shut before after : Bool) → after ≡ (opened || (not shut && before))
    → (signs ≡ true → before ≡ true) → (signs ≡ true → shut ≡ true) → (signs ≡ true → opened ≡ false)
    → one signs + one after ≤ one before + one opened
mark_step true opened shut before after e on closing unopened =
    omega (arith, ap one (e ∙ ap (λ (o : Bool). o || (not shut && before)) (unopened refl) ∙ ap (λ (s : Bool). not s && before) (closing refl)), ap one (on refl))
mark_step false true shut before true e on closing unopened = omega arith
mark_step false true shut before false e on closing unopened = omega arith
mark_step false false true before after e on closing unopened = omega (arith, ap one e)
mark_step false false false before after e on closing unopened = omega (arith, ap one e)

-- A job is no response.
job_status : (r : Returned) (w : Bytes) → eqb (returned_kind r) 2 ≡ true → ok_status (returned_status r w) ≡ false
unfolding returned_kind returned_status ok_status
job_status (edge n) w e = absurd (false≢true e)
job_status (responded n) w e = absurd (false≢true e)
job_status (handed_out kind key) w e = refl
job_status was_reset w e = absurd (false≢true e)

module _ (e : Exchange) (s : hands_signature e ≡ true) where
  signature_opens : opens PIN2 e ≡ false
  unfolding opens
  signature_opens = rw (job_status e.returned e.buffer (and_left _ (by_command e.call) s))

  signature_closes : closes PIN2 e ≡ true
  unfolding closes
  signature_closes = simp (s, or-true)

module _ (k : ℕ) (h3 : k < 3) where
  tries_moved : (c : Card) (x : Call) → one (wrong_answer k (exchange c x)) + (code_of (next c x).codes k).tries
      ≤ (code_of c.codes k).tries + 2 * one (restoration k (exchange c x)) + 3 * one (unblocking k (exchange c x))
  tries_moved c x = let s = code_after k h3 c x in tries_step _ _ _ _ _ s.tries s.had_tries s.restored

  tries_run : (c : Card) (xs : List Call) → wrong_answers k (trace c xs) + (code_of (after c xs).codes k).tries
      ≤ (code_of c.codes k).tries + 2 * restorations k (trace c xs) + 3 * unblockings k (trace c xs)
  tries_run c [] = omega arith
  tries_run c (x ∷ xs) = omega (arith, tries_run (next c x) xs, tries_moved c x)

  -- wrong answers are at most the tries before + 2 times restorations + 3 times unblockings
  pub wrong_bound : (c : Card) (xs : List Call) → wrong_answers k (trace c xs) ≤ (code_of c.codes k).tries + 2 * restorations k (trace c xs) + 3 * unblockings k (trace c xs)
  wrong_bound c xs = omega (arith, tries_run c xs)

-- One or the other of two tests counts at most as often as both together.
one_of_two : (s t : Bool) → one (s || t) ≤ one s + one t
one_of_two true t = omega arith
one_of_two false t = omega arith

mark_moved : (c : Card) (x : Call) → one (hands_signature (exchange c x)) + one (code_of (next c x).codes PIN2).verified
    ≤ one (code_of c.codes PIN2).verified + (one (right_verify PIN2 (exchange c x)) + one (changed PIN2 (exchange c x)))
unfolding opens
mark_moved c x =
    let s = code_after PIN2 (omega arith) c x in
    let e : Exchange = exchange c x in
    let moved = mark_step (hands_signature e) (opens PIN2 e) (closes PIN2 e) (code_of c.codes PIN2).verified (code_of (next c x).codes PIN2).verified s.verified s.signed (signature_closes e) (signature_opens e) in
    omega (arith, moved, one_of_two (right_verify PIN2 e) (changed PIN2 e))

mark_run : (c : Card) (xs : List Call) → signatures (trace c xs) + one (code_of (after c xs).codes PIN2).verified
    ≤ one (code_of c.codes PIN2).verified + (pin2_presentations (trace c xs) + pin2_changes (trace c xs))
mark_run c [] = omega arith
mark_run c (x ∷ xs) = omega (arith, mark_run (next c x) xs, mark_moved c x)

-- signatures are at most right presentations and successful CHANGEs of PIN2, from a card on which PIN2 is not verified
pub signature_bound : (c : Card) (xs : List Call) → (code_of c.codes PIN2).verified ≡ false
    → signatures (trace c xs) ≤ pin2_presentations (trace c xs) + pin2_changes (trace c xs)
signature_bound c xs m = omega (arith, mark_run c xs, ap one m)

-- A PIN's unblocking count that is not A5h, before and after a call that may unblock it.
count_step : (u : Bool) (before after : ℕ) → after ≡ cond u (lowered before) before → (u ≡ true → 1 ≤ before) → before < no_limit
    → one u + after ≤ before
unfolding lowered
count_step true before after e some limit = omega (arith, rw (ne_eqb before no_limit (omega arith)) at e, some refl)
count_step false before after e some limit = omega (arith, e)

module _ (k : ℕ) (low : 1 ≤ k) where
  count_moved : (c : Card) (x : Call) → count_of c.counts k < no_limit
      → one (unblocking k (exchange c x)) + count_of (next c x).counts k ≤ count_of c.counts k
  count_moved c x limit = let s = count_column k low c x in count_step _ _ _ s.count s.not_at_zero limit

  count_run : (c : Card) (xs : List Call) → count_of c.counts k < no_limit
      → unblockings k (trace c xs) + count_of (after c xs).counts k ≤ count_of c.counts k
  count_run c [] limit = omega arith
  count_run c (x ∷ xs) limit =
      let moved = count_moved c x limit in
      omega (arith, count_run (next c x) xs (omega (arith, moved)), moved)

  -- unblockings are at most the count before, where that is not A5h
  pub unblocking_bound : (c : Card) (xs : List Call) → count_of c.counts k < no_limit → unblockings k (trace c xs) ≤ count_of c.counts k
  unblocking_bound c xs limit = omega (arith, count_run c xs limit)
