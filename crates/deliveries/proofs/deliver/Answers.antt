use mathlib.Core.Path.{ap, ◌∙◌}
use native.Mathlib.Omega.{arith}
use Rattle.steps.specs.Steps.{session_output_for}
use Rattle.deliveries.proofs.Deliveries.{result_length, signature_given, not_stripped, empty_message, message_given}
use Rattle.deliveries.proofs.deliver.Goals as goal

pub returns-then-res-ne256 : goal.returns-then-res-ne256
returns-then-res-ne256 c =
    let s = c.args in
    c.session_status.ensures ∙ ap session_output_for (result_length s.s s.res.now c.with_job-ended.ensures c.if-res-ne256.true)

pub returns-then-s-ne3 : goal.returns-then-s-ne3
returns-then-s-ne3 c =
    let s = c.args in
    c.give.ensures ∙ ap session_output_for (signature_given s.s s.res.now c.with_job-ended.ensures c.if-res-ne256.false c.if-s-ne3.true)

pub returns-in-0 : goal.returns-in-0
returns-in-0 c =
    let s = c.args in
    c.session_status-in-0.ensures
    ∙ ap session_output_for (not_stripped s.s s.res.now c.with_job-ended.ensures c.if-res-ne256.false c.if-s-ne3.false c.shoalpennant_strip.ensures c.in-0.is)

pub returns-in-256 : goal.returns-in-256
returns-in-256 c =
    let s = c.args in
    c.session_status-in-256.ensures
    ∙ ap session_output_for (empty_message s.s s.res.now c.with_job-ended.ensures c.if-res-ne256.false c.if-s-ne3.false c.shoalpennant_strip.ensures (λ z. omega arith) c.in-256.is)

pub returns-in_default : goal.returns-in_default
returns-in_default c =
    let s = c.args in
    c.give-in_default.ensures
    ∙ ap session_output_for (message_given s.s s.res.now c.with_job-ended.ensures c.if-res-ne256.false c.if-s-ne3.false c.shoalpennant_strip.ensures (λ z. omega arith) (λ z. omega arith) c.part.ensures)
