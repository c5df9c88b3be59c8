use mathlib.Core.Path.{sym, ap, ◌∙◌}
use mathlib.Core.Bool.{not}
use Rattle.steps.specs.Steps.{step_output_for}
use Rattle.judgement.proofs.Dispatch.{class_unknown, instruction_unknown, chaining_refused, parameters_next}
use Rattle.judgement.proofs.judge_header.Goals as goal

pub returns-then-not-known_class : goal.returns-then-not-known_class
returns-then-not-known_class c =
    let a = c.args in
    let class = ap not (sym c.known_class.ensures) ∙ c.if-not-known_class.true-raw in
    c.refuse.ensures
    ∙ ap step_output_for (class_unknown a.card.now a.h a.d.now a.authentication.now a.signature.now class)

pub returns-then-not-known_instruction : goal.returns-then-not-known_instruction
returns-then-not-known_instruction c =
    let a = c.args in
    let class = ap not (sym c.known_class.ensures) ∙ c.if-not-known_class.false-raw in
    let instruction = ap not (sym c.known_instruction.ensures) ∙ c.if-not-known_instruction.true-raw in
    c.refuse-then-not-known_instruction.ensures
    ∙ ap step_output_for (instruction_unknown a.card.now a.h a.d.now a.authentication.now a.signature.now class instruction)

pub returns-then-bad_chaining : goal.returns-then-bad_chaining
returns-then-bad_chaining c =
    let a = c.args in
    let class = ap not (sym c.known_class.ensures) ∙ c.if-not-known_class.false-raw in
    let instruction = ap not (sym c.known_instruction.ensures) ∙ c.if-not-known_instruction.false-raw in
    let chaining = sym c.bad_chaining.ensures ∙ c.if-bad_chaining.true in
    c.refuse-then-bad_chaining.ensures
    ∙ ap step_output_for (chaining_refused a.card.now a.h a.d.now a.authentication.now a.signature.now class instruction chaining)

pub returns : goal.returns
returns c =
    let a = c.args in
    let class = ap not (sym c.known_class.ensures) ∙ c.if-not-known_class.false-raw in
    let instruction = ap not (sym c.known_instruction.ensures) ∙ c.if-not-known_instruction.false-raw in
    let chaining = sym c.bad_chaining.ensures ∙ c.if-bad_chaining.false in
    simp c.named.ensures at c.judge_named.ensures
    ∙ ap step_output_for (parameters_next a.card.now a.h a.d.now a.authentication.now a.signature.now class instruction chaining)
