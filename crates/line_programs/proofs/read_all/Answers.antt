use Rattle.std.proofs.Common.{Err, refl, take}
use Rattle.line_programs.specs.declared.Stop.TheVariants.{NotRead, NotWritten}
use Rattle.line_programs.proofs.Readings.{nothing_read, more_read, lends_still}
use Rattle.line_programs.proofs.read_all.Goals as goal

pub loop-init : goal.loop-init
loop-init g c = nothing_read c.args.dialect c.args.console.now c.requires.held

pub answer_some-sent-requires-clause-bytes : goal.answer_some-sent-requires-clause-bytes
answer_some-sent-requires-clause-bytes g c = lends_still c.args.dialect c.args.console.now c.requires.bytes c.loop.invariant

pub returns-then-is_err : goal.returns-then-is_err
returns-then-is_err g c =
    let answered = c.answer_some-sent.ensures in
    more_read c.args.dialect c.args.console.now c.loop.invariant (take c.in-Ok.n c.read.new.room) c.in-Ok.ensures.bytes.0 answered.held answered.written (Err NotWritten) refl refl (λ e. cc)

pub loop-preserved : goal.loop-preserved
loop-preserved g c =
    let answered = c.answer_some-sent.ensures in
    more_read c.args.dialect c.args.console.now c.loop.invariant (take c.in-Ok.n c.read.new.room) c.in-Ok.ensures.bytes.0 answered.held answered.written (Err NotRead) refl refl (λ e. c.if-is_err.ensures.negation)
