use mathlib.Core.Path.{sym, ◌∙◌}
use mathlib.Core.Path.{ap}
use lib.ListN.{length}
use borrow.Author.Tests.{eqb-true, eqb-false}
use Rattle.transcripts.proofs.Reading.{none_open, one_open}
use Rattle.transcripts.proofs.finish.Goals as goal

pub returns-then-is_empty : goal.returns-then-is_empty
returns-then-is_empty c =
    let none = eqb-true (length c.held.result.now) 0 (sym c.is_empty.ensures ∙ c.if-is_empty.true) in
    rw (none_open c.args.dialect c.args.console.now (ap length (sym c.held.ensures) ∙ none)) c.read.ensures

pub returns : goal.returns
returns c =
    let some = eqb-false (length c.held.result.now) 0 (sym c.is_empty.ensures ∙ c.if-is_empty.false) in
    rw (one_open c.args.dialect c.args.console.now (λ e. some (ap length c.held.ensures ∙ e))) c.read-2.ensures
