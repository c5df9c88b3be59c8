use mathlib.Core.Path.{◌≡◌, sym, ap, ap₂, ◌∙◌}
use mathlib.Core.Bool.{◌||◌}
use Prim.Native.Nat.{ℕ}
use native.Mathlib.Omega.{arith}
use lib.ListN.{take, drop}
use Rattle.octets.specs.Octets.{Bytes}
use Rattle.octets.proofs.Buffers.{all_bytes_lem}
use Rattle.octets.proofs.Cutting.{cut_again}
use Rattle.rules.specs.declared.Header.{Header}
use Rattle.rules.specs.Numbers.{form, refused, length_form}
use Rattle.rules.specs.Apdu.{parse, data_of}
use Rattle.rules.proofs.Forms.{parse_fits, form_le}
use Rattle.apdu.specs.Reach.{le_in_reach}
use Rattle.apdu.proofs.Reach.{le_reached}
use Rattle.steps.specs.Steps.{step_output_for}
use Rattle.card.proofs.Calls.{length_refused, length_form_lem, ready_good, ready_room, exits, command_refused, command_certificate, command_waiting, command_answered}
use Rattle.card.proofs.command.Goals as goal

pub returns-in_err-ready : goal.returns-in_err-ready
returns-in_err-ready c =
    let a = c.args in
    exits _ c.from_residual.result a.card.now a.buffer.now _ c.from_residual.ensures.1
    (command_refused a.card.now a.apdu.now a.authentication.now a.signature.now a.buffer.now c.in_err-ready.field-0.0 (sym c.ready.ensures ∙ c.in_err-ready.was))

pub returns-then-bad_certificate : goal.returns-then-bad_certificate
returns-then-bad_certificate c =
    let a = c.args in
    let good = ready_good a.card.now a.buffer.now (sym c.ready.ensures ∙ c.in_ok-ready.was) in
    let room = ready_room a.card.now a.buffer.now (sym c.ready.ensures ∙ c.in_ok-ready.was) in
    let certificates = ap₂ ◌||◌ (sym c.bad_certificate.ensures) (sym c.bad_certificate-2.ensures) ∙ c.if-bad_certificate.true in
    (command_certificate a.card.now a.apdu.now a.authentication.now a.signature.now a.buffer.now good room certificates)

pub returns-then-job_waits : goal.returns-then-job_waits
returns-then-job_waits c =
    let a = c.args in
    let good = ready_good a.card.now a.buffer.now (sym c.ready.ensures ∙ c.in_ok-ready.was) in
    let room = ready_room a.card.now a.buffer.now (sym c.ready.ensures ∙ c.in_ok-ready.was) in
    let certificates = ap₂ ◌||◌ (sym c.bad_certificate.ensures) (sym c.bad_certificate-2.ensures) ∙ c.if-bad_certificate.false in
    let job = sym c.job_waits.ensures ∙ c.if-job_waits.true in
    (command_waiting a.card.now a.apdu.now a.authentication.now a.signature.now a.buffer.now good room certificates job)

pub returns-in_default : goal.returns-in_default
returns-in_default c =
    let a = c.args in
    let good = ready_good a.card.now a.buffer.now (sym c.ready.ensures ∙ c.in_ok-ready.was) in
    let room = ready_room a.card.now a.buffer.now (sym c.ready.ensures ∙ c.in_ok-ready.was) in
    let certificates = ap₂ ◌||◌ (sym c.bad_certificate.ensures) (sym c.bad_certificate-2.ensures) ∙ c.if-bad_certificate.false in
    let job = sym c.job_waits.ensures ∙ c.if-job_waits.false in
    let bytes = all_bytes_lem a.apdu.now (λ i. omega (arith, c.shared_slice_known-1.given i)) in
    let form : parse a.apdu.now ≡ refused 0x6700 = sym c.parse.ensures ∙ ap length_form c.in_default.is in
    c.answered.ensures
    ∙ command_answered a.card.now a.apdu.now a.authentication.now a.signature.now a.buffer.now good room certificates job bytes
    (c.refuse-step.ensures ∙ ap step_output_for (length_refused a.card.now a.apdu.now a.authentication.now a.signature.now form))

pub returns : goal.returns
returns c =
    let a = c.args in
    let good = ready_good a.card.now a.buffer.now (sym c.ready.ensures ∙ c.in_ok-ready.was) in
    let room = ready_room a.card.now a.buffer.now (sym c.ready.ensures ∙ c.in_ok-ready.was) in
    let certificates = ap₂ ◌||◌ (sym c.bad_certificate.ensures) (sym c.bad_certificate-2.ensures) ∙ c.if-bad_certificate.false in
    let job = sym c.job_waits.ensures ∙ c.if-job_waits.false in
    let bytes = all_bytes_lem a.apdu.now (λ i. omega (arith, c.shared_slice_known-1.given i)) in
    let h : Header = c.in-Some.h in
    let start : ℕ = c.in-Some.start in
    let form : parse a.apdu.now ≡ form h start = sym c.parse.ensures ∙ ap length_form c.in-Some.is in
    let le : le_in_reach h ≡ h = le_reached h (form_le (parse_fits a.apdu.now bytes) h start form) in
    let d : Bytes = c.part-d.result.now in
    let given : take h.lc d ≡ data_of a.apdu.now start h = cut_again h.lc d (drop start a.apdu.now) c.part-d.ensures ∙ c.part-d.ensures in
    c.answered-2.ensures
    ∙ command_answered a.card.now a.apdu.now a.authentication.now a.signature.now a.buffer.now good room certificates job bytes
    (simp (le, given) at c.judge-step.ensures ∙ ap step_output_for (length_form_lem a.card.now a.apdu.now a.authentication.now a.signature.now form))
