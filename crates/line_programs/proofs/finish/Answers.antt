use Rattle.std.proofs.Common.{arith}
use Rattle.transcripts.specs.Transcript.{finished}
use Rattle.transcripts.specs.Consoles.{program_of}
use Rattle.line_programs.proofs.Readings.{shown, end_fits}
use Rattle.line_programs.proofs.finish.Goals as goal

pub returns-clause-written : goal.returns-clause-written
returns-clause-written g c =
    let a = c.args in
    let p = program_of a.dialect a.console.now in
    let fits = end_fits a.dialect p c.requires.bytes in
    rw (shown (finished a.dialect p).text a.output.now c.finish-n.new.output c.finish-n.result c.finish-n.ensures.output (omega (arith, fits, c.requires.room))) at c.written.ensures
