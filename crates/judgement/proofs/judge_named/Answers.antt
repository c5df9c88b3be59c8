use mathlib.Core.Path.{sym, ap, ◌∙◌}
use mathlib.Core.Bool.{not}
use borrow.Author.Tests.{not-false}
use Rattle.steps.specs.Steps.{step_output_for}
use Rattle.judgement.proofs.Dispatch.{unnamed, lengths_refused, admitted}
use Rattle.judgement.proofs.judge_named.Goals as goal

pub returns-in_default : goal.returns-in_default
returns-in_default c =
    let a = c.args in
    c.refuse.ensures ∙ ap step_output_for (unnamed a.card.now a.h a.d.now a.authentication.now a.signature.now c.in_default.is)

pub returns-then-not-good_lengths : goal.returns-then-not-good_lengths
returns-then-not-good_lengths c =
    let a = c.args in
    let lengths = ap not (sym c.good_lengths.ensures) ∙ c.if-not-good_lengths.true-raw in
    c.refuse-then-not-good_lengths.ensures
    ∙ ap step_output_for (lengths_refused a.card.now a.h a.d.now a.authentication.now a.signature.now c.in-Some.command c.in-Some.is lengths)

pub own_rules-requires : goal.own_rules-requires
own_rules-requires c =
    record { sized = c.requires; lengths = not-false _ (ap not (sym c.good_lengths.ensures) ∙ c.if-not-good_lengths.false-raw) }

pub returns : goal.returns
returns c =
    let a = c.args in
    let lengths = ap not (sym c.good_lengths.ensures) ∙ c.if-not-good_lengths.false-raw in
    c.own_rules.ensures
    ∙ ap step_output_for (admitted a.card.now a.h a.d.now a.authentication.now a.signature.now c.in-Some.command c.in-Some.is lengths)
