use mathlib.Core.Path.{refl, sym, ap, ◌∙◌}
use native.Mathlib.Omega.{arith}
use Prim.Native.Nat.{◌+◌}
use lib.ListN.{length, length-drop}
use Rattle.octets.proofs.Pasting.{length_pasted}
use Rattle.transcripts.specs.Consoles.{program_of}
use Rattle.transcripts.proofs.Runs.{some_feed}
use Rattle.transcripts.proofs.Reading.{after, console_added, reached_start, reached_more, reached_end}
use Rattle.transcripts.proofs.read.Goals as goal

pub loop-n-init : goal.loop-n-init
loop-n-init c =
    let a = c.args in
    (refl, omega arith, reached_start a.dialect (program_of a.dialect a.console.now) a.input.now a.output.now a.console.now refl)

pub overflow_add-rest : goal.overflow_add-rest
overflow_add-rest c = omega (arith, some_feed c.loop-n.rest.now c.in-Some.n (sym c.in-Some.is ∙ c.line_end.ensures))

pub loop-n-preserved : goal.loop-n-preserved
loop-n-preserved c =
    let a = c.args in
    let size = ap length c.end_line-written.ensures.output.whole ∙ length_pasted c.loop-n.output c.loop-n.written _ in
    (size ∙ c.loop-n.invariant.0, omega (arith, length-drop (c.in-Some.n + 1) c.loop-n.rest.now), reached_more a.dialect (program_of a.dialect a.console.now) a.input.now a.output.now c.loop-n.invariant.2 c.in-Some.n (sym c.in-Some.is ∙ c.line_end.ensures) (after c.loop-n.rest.now (c.in-Some.n + 1)) c.end_line-written.ensures)

pub returns : goal.returns
returns c =
    let a = c.args in
    let last = c.loop-n.console in
    let rest = c.loop-n.rest.now in
    reached_end a.dialect (program_of a.dialect a.console.now) a.input.now a.output.now c.loop-n.invariant.2 (sym c.in_default.is ∙ c.line_end.ensures)
    (console_added a.dialect last rest c.most.ensures c.add.new.self c.add.ensures.held c.tidy.ensures c.tidy-2.ensures c.tidy-3.ensures)
