use mathlib.Core.Path.{◌∙◌}
use native.Mathlib.Omega.{arith}
use lib.ListN.{length-set}
use Rattle.rules.specs.Image.{personal_section}
use Rattle.image.proofs.Readings.{exits}
use Rattle.image.proofs.Filling.{records_repeat, one_more, stopped, full}
use Rattle.image.proofs.personal_section.Goals as goal

pub loop-record-preserved : goal.loop-record-preserved
loop-record-preserved c =
    let l = c.loop-record in (
      simp length-set l.invariant.0,
      one_more records_repeat l.record-items l.record-index l.reader (omega arith) c.in_ok-record.field-0 c.read_record.new.reader c.in_ok-record.ensures
          ∙ l.invariant.1,
    )

pub returns-in_err-record : goal.returns-in_err-record
unfolding personal_section
returns-in_err-record c =
    let l = c.loop-record in
    exits _ c.from_residual-in_err-record.result _ _ c.from_residual-in_err-record.ensures.1
    (rw (← c.in_ok-count.ensures)
    (stopped records_repeat l.record-items l.record-index l.reader (omega arith) _ c.in_err-record.ensures ∙ l.invariant.1))

pub returns : goal.returns
unfolding personal_section
returns c =
    let l = c.loop-record in
    rw (← c.in_ok-count.ensures) (full records_repeat l.record-items l.record-index l.reader (omega arith) ∙ l.invariant.1)
