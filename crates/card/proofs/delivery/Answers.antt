use mathlib.Core.Path.{sym, ap, ◌∙◌}
use mathlib.Core.Bool.{not}
use Rattle.card.proofs.Calls.{ready_good, ready_room, exits, delivery_refused, delivery_unasked, delivery_answered}
use Rattle.card.proofs.delivery.Goals as goal

pub returns-in_err-ready : goal.returns-in_err-ready
returns-in_err-ready c =
    let a = c.args in
    exits _ c.from_residual.result a.card.now a.buffer.now _ c.from_residual.ensures.1
    (delivery_refused a.card.now a.res.now a.buffer.now c.in_err-ready.field-0.0 (sym c.ready.ensures ∙ c.in_err-ready.was))

pub returns-then-not-job_waits : goal.returns-then-not-job_waits
returns-then-not-job_waits c =
    let a = c.args in
    let good = ready_good a.card.now a.buffer.now (sym c.ready.ensures ∙ c.in_ok-ready.was) in
    let room = ready_room a.card.now a.buffer.now (sym c.ready.ensures ∙ c.in_ok-ready.was) in
    let job = ap not (sym c.job_waits.ensures) ∙ c.if-not-job_waits.true-raw in
    (delivery_unasked a.card.now a.res.now a.buffer.now good room job)

pub returns : goal.returns
returns c =
    let a = c.args in
    let good = ready_good a.card.now a.buffer.now (sym c.ready.ensures ∙ c.in_ok-ready.was) in
    let room = ready_room a.card.now a.buffer.now (sym c.ready.ensures ∙ c.in_ok-ready.was) in
    let job = ap not (sym c.job_waits.ensures) ∙ c.if-not-job_waits.false-raw in
    c.answered.ensures
    ∙ delivery_answered a.card.now a.res.now a.buffer.now good room job (simp (c.in_session-step.ensures, c.deliver.ensures))
