use Rattle.std.proofs.Common.{arith}
use Rattle.transcripts.specs.Transcript.{run}
use Rattle.transcripts.specs.Consoles.{program_of}
use Rattle.line_programs.proofs.Readings.{shown, text_fits}
use Rattle.line_programs.proofs.answer_some.Goals as goal

pub returns-clause-written : goal.returns-clause-written
returns-clause-written g c =
    let a = c.args in
    let p = program_of a.dialect a.console.now in
    let fits = text_fits a.dialect p a.input.now c.requires.bytes c.requires.few in
    rw (shown (run a.dialect p a.input.now).text a.output.now c.read-n.new.output c.read-n.result c.read-n.ensures.output (omega (arith, fits, c.requires.room))) at c.written.ensures
