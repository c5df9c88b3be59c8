-- MANAGE SECURITY ENVIRONMENT, INTERNAL AUTHENTICATE, SIGN, DECIPHER and deliveries keep a good session, and their answers fit.
use mathlib.Core.Path.{◌≡◌, refl}
use mathlib.Core.Bool.{Bool, true, ◌||◌, or-true}
use mathlib.Core.List.{List, [], ◌++◌}
use Prim.Native.Nat.{ℕ, ◌≤◌}
use native.Mathlib.Omega.{arith}
use lib.Dec.{eqb}
use lib.ListN.{length, drop, length-drop}
use borrow.Author.Tests.{ne_eqb}
use Rattle.octets.specs.Octets.{Bytes}
use Rattle.octets.proofs.Tests.{split}
use Rattle.pkcs1.specs.Pkcs1.{padded}
use Rattle.pkcs1.proofs.Laws.{padded_length}
use Rattle.rules.specs.declared.Code.{Code}
use Rattle.rules.specs.declared.Header.{Header}
use Rattle.rules.specs.declared.JobKind.TheVariants.{Authenticate, Sign, Decipher}
use Rattle.rules.specs.declared.Session.{Session}
use Rattle.rules.specs.Keys.{usable}
use Rattle.rules.specs.Codes.{PIN2}
use Rattle.rules.specs.Session.{all_active, no_job, chain_bytes, with_job, drop_chain}
use Rattle.rules.specs.State.{good_codes, good_counts, good_references, good_environment, good_session}
use Rattle.rules.specs.KeyCommands.{set_environment, kind_chosen, choosing, choose_key, internal_authenticate, sign}
use Rattle.rules.specs.KeyCommands.{decipher}
use Rattle.rules.specs.Delivery.{deliver}
use Rattle.rules.proofs.Digests.{digest_forms}
use Rattle.rules.proofs.Walks.{set_environment_walk, choose_key_walk, authenticate_walk, sign_walk, decipher_walk}
use Rattle.rules.proofs.Walks.{deliver_walk}
use Rattle.rules.proofs.Sessions.{choice_changed, environment_replaced, chain_replaced, job_ended}
use Rattle.rules.proofs.KeepingAnswers.{MayCome, nothing_more, OwnJob, command_may_give, Keeps, KeepsBoth, ok_keeps, refusal_keeps, give_keeps}
use Rattle.rules.proofs.KeepingAnswers.{hand_out_keeps}
use Rattle.rules.proofs.KeepingCodes.{closed_good}

module _ (m : MayCome) (keys : List Bool) (s : Session) (g : good_session keys s ≡ true) where
  pub set_environment_keeps : (h : Header) → Keeps m keys (set_environment s h)
  unfolding good_environment
  set_environment_keeps h =
      set_environment_walk (Keeps m keys) s h
      (λ e. ok_keeps (environment_replaced keys s g h.p2 all_active (simp e)))
      (refusal_keeps g 0x6A88 refl)

  -- Another choice for the kind of job that P2 names.
  choosing_good : (p2 key : ℕ) → (eqb key 0 || usable keys (kind_chosen p2) key) ≡ true → good_session keys (choosing s (kind_chosen p2) key) ≡ true
  unfolding kind_chosen
  choosing_good p2 key =
      let P : ℕ → Type 0 = λ kind. (eqb key 0 || usable keys kind key) ≡ true → good_session keys (choosing s kind key) ≡ true in
      split P (eqb p2 0xA4) (λ e. choice_changed keys s g 0 (omega arith) key)
      (λ e. split P (eqb p2 0xB6) (λ e. choice_changed keys s g 1 (omega arith) key) (λ e. choice_changed keys s g 2 (omega arith) key))

  pub choose_key_keeps : (h : Header) (d : Bytes) → Keeps m keys (choose_key keys s h d)
  choose_key_keeps h d =
      choose_key_walk (Keeps m keys) s keys h d (refusal_keeps g)
      (ok_keeps (choosing_good h.p2 0 refl))
      (λ class there. ok_keeps (choosing_good h.p2 _ (simp (class, there, or-true))))

-- A delivery hands out no job, and is not answered 6282.
pub deliver_keeps : (keys : List Bool) (s : Session) → good_session keys s ≡ true → (result : Bytes) → Keeps nothing_more keys (deliver s result)
deliver_keeps keys s g result =
    let ended : good_session keys (with_job s no_job) ≡ true = job_ended keys s g in
    deliver_walk (Keeps nothing_more keys) s result (refusal_keeps ended 0x6400 refl) (refusal_keeps ended 0x6A80 refl)
    (ok_keeps ended)
    (λ whole n. give_keeps nothing_more keys _ ended s.job.le (drop n result) refl (simp length-drop (omega arith)))

-- Commands that hand out a job: Le is at most 256, and nothing is held. The card was in session t before something of it was dropped.
module _ (E : Bytes → Type 0) (t : Session) (codes : List Code) (keys : List Bool) (references : Bytes) (r : good_references keys references ≡ true)
    (s : Session) (g : good_session keys s ≡ true) (h : Header) (d : Bytes) (le : h.le ≤ 256) (held : s.held.len ≡ 0) where
  -- a padded block
  padded_job : (kind : ℕ) → 1 ≤ kind → kind ≤ 2 → length d ≤ 253 → OwnJob t d kind (padded d)
  padded_job kind least most short =
      record { least = least; most = omega arith; size = padded_length d short; own = rw (ne_eqb kind 3 (omega arith)) }

  pub authenticate_keeps : s.chain.len ≡ 0 → length d ≤ 253 → Keeps (command_may_give E t d) keys (internal_authenticate codes references s h d)
  authenticate_keeps chain short =
      authenticate_walk (Keeps (command_may_give E t d) keys) s codes references h d (refusal_keeps g)
      (λ _. hand_out_keeps keys references s r g held chain Authenticate h.le (padded d) le (padded_job 1 (omega arith) (omega arith) short))

  pub sign_keeps : (counts : List ℕ) → good_counts counts ≡ true → good_codes codes ≡ true → s.chain.len ≡ 0
      → KeepsBoth (command_may_give E t d) keys (sign codes counts references s h d)
  sign_keeps counts gn gc chain =
      sign_walk (KeepsBoth (command_may_give E t d) keys) codes counts references s h d
      (λ sw z. let kept = refusal_keeps {m = command_may_give E t d} g sw z in record { codes = gc; counts = gn; session = kept.session; answer = kept.answer })
      (λ digest _.
      let own : OwnJob t d 2 (padded d) = padded_job 2 (omega arith) (omega arith) (omega (arith, digest_forms.short d digest)) in
      let job = hand_out_keeps {m = command_may_give E t d} keys references s r g held chain Sign h.le (padded d) le own in
      record { codes = closed_good codes gc PIN2 (omega arith); counts = gn; session = job.session; answer = job.answer })

  pub decipher_keeps : chain_bytes t ≡ chain_bytes s → s.job.kind ≡ 0 → Keeps (command_may_give E t d) keys (decipher codes references s h d)
  decipher_keeps chain idle =
      let joined : Bytes = chain_bytes s ++ d in
      let emptied : good_session keys (drop_chain s) ≡ true = chain_replaced keys s g idle [] (omega arith) in
      decipher_walk (Keeps (command_may_give E t d) keys) s codes references h d (refusal_keeps emptied)
      (λ few. ok_keeps (chain_replaced keys s g idle joined few))
      (λ whole _. hand_out_keeps keys references (drop_chain s) r emptied held refl Decipher h.le (drop 1 joined) le
      (record { least = omega arith; most = omega arith; size = omega (arith, length-drop 1 joined, whole); own = rw chain }))
