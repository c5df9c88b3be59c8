-- VERIFY, CHANGE REFERENCE DATA and RESET RETRY COUNTER keep good codes.
use mathlib.Core.Path.{◌≡◌, refl, ◌∙◌}
use mathlib.Core.Bool.{Bool, true, false, not, or-true}
use mathlib.Core.List.{List}
use Prim.Native.Nat.{ℕ, ◌-◌, ◌≤◌, ◌<◌}
use native.Mathlib.Omega.{arith}
use lib.Dec.{eqb}
use lib.ListN.{length-set}
use Rattle.octets.specs.Octets.{Bytes}
use Rattle.octets.proofs.Tests.{split}
use Rattle.octets.proofs.Buffers.{each_place}
use Rattle.rules.specs.declared.Code.{Code}
use Rattle.rules.specs.declared.Header.{Header}
use Rattle.rules.specs.declared.Verdict.{Verdict}
use Rattle.rules.specs.declared.Verdict.TheVariants.{Right, Wrong, NoTries}
use Rattle.rules.specs.Codes.{PUK, full_tries, allowed, marked, zero_code, code_of, with_code, closed, no_limit, count_of, with_count, lowered}
use Rattle.rules.specs.State.{good_code, good_codes, good_counts}
use Rattle.rules.specs.Answers.{code_status}
use Rattle.rules.specs.CodeCommands.{sw_not_allowed, sw_has_tries, verdict, judged, queried, verify, replaced}
use Rattle.rules.specs.CodeCommands.{change, unblocked, unblock_by_presented_puk, reset_retry, counts_left}
use Rattle.rules.proofs.Walks.{refusing, queried_walk, verify_walk, replaced_walk, verified_puk_walk, reset_retry_walk}
use Rattle.rules.proofs.Parts.{code_tries, marked_good, stored_good, three_codes, good_code_lem, codes_good, code_place}
use Rattle.rules.proofs.Parts.{two_counts, good_place, good_count, counts_good}
use Rattle.rules.proofs.KeepingAnswers.{KeepsCodes, refusing_alone, ok_alone, left_alone}

-- A refusal: the codes as they were.
refused_keeps : {codes : List Code} (sw : ℕ) → good_codes codes ≡ true → refusing sw ≡ true → KeepsCodes (code_status codes sw)
refused_keeps sw g h = record { codes = g; word = refusing_alone sw h }

-- 9000.
done_keeps : {codes : List Code} → good_codes codes ≡ true → KeepsCodes (code_status codes 0x9000)
done_keeps g = record { codes = g; word = ok_alone }

module _ (codes : List Code) (g : good_codes codes ≡ true) where
  -- Good codes with another good code.
  with_code_good : (k : ℕ) → k < 3 → (v : Code) → good_code k v ≡ true → good_codes (with_code codes k v) ≡ true
  with_code_good k b v h =
      codes_good (with_code codes k v) (length-set codes k v ∙ three_codes codes g)
      (λ i n. each_place (λ i v. good_code i v ≡ true) codes k v zero_code (code_place codes g k b) h i (good_code_lem codes g i n))

  -- Code k with three tries; with other tries and its mark off; with its mark off.
  three_tries : (k : ℕ) → k < 3 → (mark : Bool) → good_code k (marked (code_of codes k) full_tries mark) ≡ true
  three_tries k b mark = marked_good k (code_of codes k) (good_code_lem codes g k b) 3 mark (omega arith) (or-true (not mark))

  unmarked_good : (k : ℕ) → k < 3 → (t : ℕ) → t ≤ 3 → good_codes (with_code codes k (marked (code_of codes k) t false)) ≡ true
  unmarked_good k b t h = with_code_good k b _ (marked_good k (code_of codes k) (good_code_lem codes g k b) t false h refl)

  pub closed_good : (k : ℕ) → k < 3 → good_codes (closed codes k) ≡ true
  closed_good k b = unmarked_good k b (code_of codes k).tries (code_tries k (code_of codes k) (good_code_lem codes g k b))

  judged_keeps : (k : ℕ) → k < 3 → (v : Verdict) → KeepsCodes (judged codes k v)
  unfolding judged
  judged_keeps k b Right = done_keeps (with_code_good k b _ (three_tries k b true))
  judged_keeps k b Wrong =
      let few : (code_of codes k).tries ≤ 3 = code_tries k (code_of codes k) (good_code_lem codes g k b) in
      record { codes = unmarked_good k b ((code_of codes k).tries - 1) (omega arith); word = left_alone _ (omega arith) }
  judged_keeps k b NoTries = refused_keeps 0x6983 g refl

  queried_keeps : (k : ℕ) → k < 3 → KeepsCodes (queried codes k)
  queried_keeps k b =
      let few : (code_of codes k).tries ≤ 3 = code_tries k (code_of codes k) (good_code_lem codes g k b) in
      queried_walk KeepsCodes codes k (λ _. refused_keeps 0x6983 g refl) (λ _ _. done_keeps g) (λ _ _. record { codes = g; word = left_alone _ few })

  pub verify_keeps : (h : Header) (d : Bytes) → h.p2 < 3 → KeepsCodes (verify codes h d)
  verify_keeps h d b = verify_walk KeepsCodes codes h d (λ _. queried_keeps h.p2 b) (λ _. judged_keeps h.p2 b _)

  replaced_keeps : (k : ℕ) → k < 3 → (j : ℕ) (new : Bytes) (stored : List Code) (presented : Bytes)
      → (allowed j new ≡ true → good_codes stored ≡ true)
      → KeepsCodes (replaced codes k j new stored (verdict (code_of codes k) presented))
  unfolding judged
  replaced_keeps k b j new stored presented s =
      replaced_walk KeepsCodes codes k j new stored presented (λ _. refused_keeps 0x6983 g refl) (λ _ _. judged_keeps k b Wrong)
      (refused_keeps sw_not_allowed g refl) (λ _ _ a. done_keeps (s a))

  pub change_keeps : (h : Header) (d : Bytes) → h.p2 < 3 → KeepsCodes (change codes h d)
  unfolding change
  change_keeps h d b =
      replaced_keeps h.p2 b h.p2 _ _ _
      (λ a. with_code_good h.p2 b _ (marked_good h.p2 _ (stored_good h.p2 _ a) full_tries true (omega arith) refl))

-- RESET RETRY COUNTER, which replaces two codes, one after the other.
module _ (codes : List Code) (g : good_codes codes ≡ true) where
  unblocked_good : (pin : ℕ) → pin < 3 → (pinCode : Code) (t : ℕ) → good_code pin (marked pinCode full_tries false) ≡ true → t ≤ 3
      → good_codes (unblocked codes pin pinCode t) ≡ true
  unfolding unblocked
  unblocked_good pin b pinCode t p low =
      with_code_good _ (with_code_good codes g pin b _ p) PUK (omega arith) _
      (marked_good PUK (code_of codes PUK) (good_code_lem codes g PUK (omega arith)) t false low refl)

  presented_keeps : (pin : ℕ) → pin < 3 → (d : Bytes) → KeepsCodes (unblock_by_presented_puk codes pin d)
  unfolding unblock_by_presented_puk
  presented_keeps pin b d =
      replaced_keeps codes g PUK (omega arith) pin _ _ _ (λ a. unblocked_good pin b _ full_tries (stored_good pin _ a) (omega arith))

  pub reset_retry_keeps : (counts : List ℕ) (h : Header) (d : Bytes) → h.p2 < 3 → KeepsCodes (reset_retry codes counts h d)
  reset_retry_keeps counts h d b =
      reset_retry_walk KeepsCodes codes counts h d (refused_keeps sw_has_tries g refl) (refused_keeps 0x6983 g refl)
      (λ _ _ _. verified_puk_walk KeepsCodes codes h.p2 (refused_keeps 0x6982 g refl)
      (λ _. done_keeps (unblocked_good h.p2 b _ (code_of codes PUK).tries (three_tries codes g h.p2 b false)
      (code_tries PUK (code_of codes PUK) (good_code_lem codes g PUK (omega arith))))))
      (λ _ _ _. presented_keeps h.p2 b d)

-- A count is not raised.
pub lowered_most : (n : ℕ) → lowered n ≤ n
unfolding lowered
lowered_most n = split (λ m. m ≤ n) (eqb n no_limit) (λ _. omega arith) (λ _. omega arith)

-- Good counts stay good.
pub counts_left_good : (counts : List ℕ) → good_counts counts ≡ true → (pin : ℕ) → pin < 3 → 1 ≤ pin → (sw : ℕ)
    → good_counts (counts_left counts pin sw) ≡ true
unfolding counts_left
counts_left_good counts g pin b low sw =
    let n : ℕ = lowered (count_of counts pin) in
    let limit : n ≤ no_limit = omega (arith, lowered_most (count_of counts pin), good_count counts g pin b low) in
    split (λ (l : List ℕ). good_counts l ≡ true) (eqb sw 0x9000)
    (λ _. counts_good (with_count counts pin n) (length-set counts (pin - 1) n ∙ two_counts counts g)
    (λ i h. each_place (λ _ m. m ≤ no_limit) counts (pin - 1) n 0 (omega (arith, two_counts counts g)) limit i (good_place counts g i h)))
    (λ _. g)
