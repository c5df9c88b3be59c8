use mathlib.Core.Path.{◌∙◌}
use native.Mathlib.Omega.{arith}
use Rattle.image.proofs.Readings.{exits}
use Rattle.image.proofs.Keys.{no_marks, no_key_yet, marks_kept, one_key_more, bad_key, no_key_more}
use Rattle.image.proofs.read_keys.Goals as goal

pub loop-init : goal.loop-init
loop-init c = (no_marks, no_key_yet c.args.n c.args.reader.now)

pub loop-preserved : goal.loop-preserved
loop-preserved c =
    let l = c.loop in
    rw c.put_mark.ensures (
      marks_kept l.keys c.in_ok-last.last,
      one_key_more l.keys c.args.n l.counter l.last l.reader (omega arith) c.in_ok-last.last c.read_key.new.reader c.in_ok-last.ensures
          ∙ l.invariant.1,
    )

pub returns-in_err-last : goal.returns-in_err-last
returns-in_err-last c =
    let l = c.loop in
    exits _ c.from_residual.result _ _ c.from_residual.ensures.1
    (bad_key l.keys c.args.n l.counter l.last l.reader (omega arith) _ c.in_err-last.ensures ∙ l.invariant.1)

pub returns : goal.returns
returns c =
    let l = c.loop in no_key_more l.keys c.args.n l.counter l.last l.reader l.invariant.0 (omega arith) ∙ l.invariant.1
