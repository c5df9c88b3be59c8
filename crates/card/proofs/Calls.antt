-- The edge, one law for each way through a call.
use mathlib.Core.Path.{◌≡◌, refl, ap, ◌∙◌}
use mathlib.Core.Bool.{Bool, true, false, not, ◌||◌, cond}
use Rattle.std.specs.Prelude.{Result as AnyResult, Ok, Err}
use Rattle.std.specs.Result.{IsErrAnd}
use Rattle.std.proofs.lemmas.Result.{err_from_is_err_and}
use Rattle.rules.specs.declared.Reply.{Reply}
use Prim.Native.Nat.{ℕ, ◌≤◌}
use native.Mathlib.Omega.{arith}
use lib.ListN.{length}
use borrow.Author.Tests.{eqb-true, not-false, ltb-false, le-ltb, le-leb}
use Rattle.octets.specs.Octets.{Bytes, all_bytes}
use Rattle.rules.specs.declared.Card.{Card}
use Rattle.rules.specs.declared.Header.{Header}
use Rattle.rules.specs.declared.Session.{Session}
use Rattle.rules.specs.declared.Refusal.{Refusal}
use Rattle.rules.specs.declared.Refusal.TheVariants.{BadState, ShortBuffer}
use Rattle.rules.specs.Numbers.{form, refused, refusal_number, returned}
use Rattle.rules.specs.Apdu.{parse, data_of}
use Rattle.rules.specs.State.{good}
use Rattle.rules.specs.Answers.{Answer, response, job, Step, in_session}
use Rattle.rules.specs.Judgement.{refusal, judge_header, judge_form, judge}
use Rattle.rules.specs.Delivery.{deliver}
use Rattle.rules.specs.Edge.{Result, refuse, answered, short_buffer, bad_certificate, job_waits, command, delivery}
use Rattle.rules.proofs.Parts.{good_session_lem}
use Rattle.rules.proofs.KeepingAnswers.{Fit, nothing_more, command_may_give}
use Rattle.rules.proofs.KeepingKeys.{deliver_keeps}
use Rattle.rules.proofs.Keeping.{judge_keeps}
use Rattle.answers.specs.Outputs.{output_of, fits, written_or}
use Rattle.answers.proofs.Outputs.{read_back}
use Rattle.steps.specs.declared.StepOutput.{StepOutput}
use Rattle.steps.specs.Steps.{step_output_for}
use Rattle.card.specs.Ready.{Readiness, ready}

-- An output has room for what a command or a delivery answers.
own_fits : (E : Bytes → Type 0) (s : Session) (d : Bytes) (a : Answer) → Fit (command_may_give E s d) a → fits a ≡ true
unfolding fits
own_fits E s d (response shown sw) f = le-leb (length shown) 256 f.size
own_fits E s d (job kind key block) f =
    simp (le-leb (length block) 256 (omega (arith, f.size)), le-leb 1 kind f.least, le-leb kind 3 f.most)

response_fits : (a : Answer) → Fit nothing_more a → fits a ≡ true
unfolding fits
response_fits (response d sw) f = le-leb (length d) 256 f.size
response_fits (job kind key block) f = absurd f

-- A step as the code holds it, written.
abbrev output_written : Bytes → Card → StepOutput → Result
output_written w c step =
    written_or w (record { codes = step.codes; counts = step.counts; profile = c.profile; session = step.session }) (output_of step.output)

step_written : (w : Bytes) (c : Card) (o : Step) {step : StepOutput} → 258 ≤ length w → fits o.answer ≡ true
    → step ≡ step_output_for o → output_written w c step ≡ answered w c o
unfolding written_or
step_written w c o room fit e = simp (e, le-ltb (length w) 258 room, read_back o.answer fit)

-- Two tests, one after the other: none of them refuses, or the first that is true.
none_refused : (a b : Bool) {u : Unit {0}} → ◌≡◌ {A = Readiness} (cond a (Err BadState) (cond b (Err ShortBuffer) (Ok tt))) (Ok u)
    → (a ≡ false) × (b ≡ false)
none_refused true b e = cc
none_refused false true e = cc
none_refused false false e = (refl, refl)

first_refused : (a b : Bool) (r : Refusal) (x : Result) (f : ℕ → Result)
    → ◌≡◌ {A = Readiness} (cond a (Err BadState) (cond b (Err ShortBuffer) (Ok tt))) (Err r)
    → f (refusal_number r) ≡ cond a (f 1) (cond b (f 2) x)
first_refused true b r x f e = let same : r ≡ BadState = cc in ap (λ (q : Refusal). f (refusal_number q)) same
first_refused false true r x f e = let same : r ≡ ShortBuffer = cc in ap (λ (q : Refusal). f (refusal_number q)) same
first_refused false false r x f e = cc

-- The exit of a `?`: the refusal that it gave.
pub exits : (n : Refusal) (r : AnyResult Reply Refusal) (c : Card) (w : Bytes) (what : Result) → IsErrAnd r (λ e. e ≡ n)
    → refuse c w (refusal_number n) ≡ what → record { returned = returned r; card = c; buffer = w } ≡ what
exits n r c w what h e = let p = err_from_is_err_and r h in rw (p.1, p.2) e

-- What is known of a card and a buffer that edge refusals 1 and 2 let pass.
pub ready_good : (c : Card) (w : Bytes) {u : Unit {0}} → ready c w ≡ Ok u → not (good c) ≡ false
ready_good c w e = (none_refused (not (good c)) (short_buffer w) e).0

pub ready_room : (c : Card) (w : Bytes) {u : Unit {0}} → ready c w ≡ Ok u → 258 ≤ length w
ready_room c w e = ltb-false (length w) 258 (none_refused (not (good c)) (short_buffer w) e).1

module _ (c : Card) (b authentication signature : Bytes) where
  -- step 1
  pub length_refused : {sw : ℕ} → parse b ≡ refused sw → refusal c sw ≡ judge c b authentication signature
  unfolding judge judge_form
  length_refused e = simp e

  pub length_form_lem : {h : Header} {start : ℕ} → parse b ≡ form h start
      → judge_header c h (data_of b start h) authentication signature ≡ judge c b authentication signature
  unfolding judge judge_form
  length_form_lem e = simp e

  module _ (w : Bytes) where
    abbrev called : Result
    called = command c b authentication signature w

    pub command_refused : (r : Refusal) → ready c w ≡ Err r → refuse c w (refusal_number r) ≡ called
    unfolding command
    command_refused r e = first_refused (not (good c)) (short_buffer w) r _ (refuse c w) e

    module _ (g : not (good c) ≡ false) where
      module _ (room : 258 ≤ length w) where
        pub command_certificate : (bad_certificate authentication || bad_certificate signature) ≡ true → refuse c w 3 ≡ called
        unfolding command
        command_certificate e = simp (g, le-ltb (length w) 258 room, e)

        module _ (certificates : (bad_certificate authentication || bad_certificate signature) ≡ false) where
          pub command_waiting : job_waits c ≡ true → refuse c w 4 ≡ called
          unfolding command
          command_waiting e = simp (g, le-ltb (length w) 258 room, certificates, e)

          command_judged : job_waits c ≡ false → answered w c (judge c b authentication signature) ≡ called
          unfolding command
          command_judged e = simp (g, le-ltb (length w) 258 room, certificates, e)

          pub command_answered : job_waits c ≡ false → all_bytes b ≡ true → {step : StepOutput}
              → step ≡ step_output_for (judge c b authentication signature) → output_written w c step ≡ called
          command_answered idle bytes e =
              let kept = judge_keeps c (not-false _ g) (eqb-true _ _ (not-false _ idle)) b authentication signature bytes in
              step_written w c (judge c b authentication signature) room (own_fits _ _ _ _ kept.answer) e ∙ command_judged idle

module _ (c : Card) (r w : Bytes) where
  pub delivery_refused : (n : Refusal) → ready c w ≡ Err n → refuse c w (refusal_number n) ≡ delivery c r w
  unfolding delivery
  delivery_refused n e = first_refused (not (good c)) (short_buffer w) n _ (refuse c w) e

  module _ (g : not (good c) ≡ false) where
    module _ (room : 258 ≤ length w) where
      pub delivery_unasked : not (job_waits c) ≡ true → refuse c w 5 ≡ delivery c r w
      unfolding delivery
      delivery_unasked e = simp (g, le-ltb (length w) 258 room, e)

      abbrev delivered : Step
      delivered = in_session c.codes c.counts (deliver c.session r)

      delivery_taken : not (job_waits c) ≡ false → answered w c delivered ≡ delivery c r w
      unfolding delivery
      delivery_taken e = simp (g, le-ltb (length w) 258 room, e)

      pub delivery_answered : not (job_waits c) ≡ false → {step : StepOutput} → step ≡ step_output_for delivered
          → output_written w c step ≡ delivery c r w
      delivery_answered waits e =
          let kept = deliver_keeps c.profile.keys c.session (good_session_lem c (not-false _ g)) r in
          step_written w c delivered room (response_fits _ kept.answer) e ∙ delivery_taken waits
