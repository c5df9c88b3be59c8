-- What is left of the input.
use Prim.Native.Nat.{◌≤◌}
use mathlib.Core.Path.{◌≡◌}
use lib.ListN.{length}
use Rattle.transcripts.specs.Consoles.{program_of}
use Rattle.transcripts.proofs.Reading.{Reached}
use Rattle.transcripts.proofs.read.Given as goal

abbrev pub invariant-loop-n : goal.invariant-loop-n
invariant-loop-n l =
    (length l.output ≡ length l.initial.output) × (length l.rest ≤ length l.input)
    × Reached l.dialect (program_of l.dialect l.initial.console) l.input l.initial.output l.console l.rest l.output l.written

abbrev pub decreases-loop-n : goal.decreases-loop-n
decreases-loop-n l = length l.rest
