-- Some input has been read and answered, and the code holds the program after it.
use Rattle.std.proofs.Common.{Err}
use Rattle.transcripts.specs.Consoles.{program_of}
use Rattle.line_programs.specs.declared.Stop.TheVariants.{NotRead}
use Rattle.line_programs.specs.Programs.{SomeRead}
use Rattle.line_programs.proofs.read_all.Given as goal

abbrev pub invariant-loop : goal.invariant-loop
invariant-loop g l =
    SomeRead l.dialect (program_of l.dialect l.initial.console) (g.R.Read.remaining l.initial.stdin) (g.R.Read.remaining l.stdin)
    (g.W.Write.contents l.initial.stdout) (g.W.Write.contents l.stdout) l.console (Err NotRead)
