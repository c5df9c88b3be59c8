use mathlib.Core.Path.{◌∙◌}
use native.Mathlib.Omega.{arith}
use Rattle.image.proofs.Readings.{exits_into}
use Rattle.image.proofs.Filling.{any_repeat, none_yet, one_more, stopped, full}
use Rattle.image.proofs.any_bytes.Goals as goal

pub loop-byte-init : goal.loop-byte-init
loop-byte-init c = none_yet any_repeat c.args.room.now c.args.reader.now

pub loop-byte-preserved : goal.loop-byte-preserved
loop-byte-preserved c =
    let l = c.loop-byte in
    one_more any_repeat l.room l.byte-index l.reader (omega arith) c.in_ok-byte.field-0 c.any_byte.new.reader c.in_ok-byte.ensures ∙ l.invariant

pub returns-in_err-byte : goal.returns-in_err-byte
returns-in_err-byte c =
    let l = c.loop-byte in
    exits_into _ c.from_residual.result _ _ _ c.from_residual.ensures.1
    (stopped any_repeat l.room l.byte-index l.reader (omega arith) _ c.in_err-byte.ensures ∙ l.invariant)

pub returns : goal.returns
returns c = let l = c.loop-byte in full any_repeat l.room l.byte-index l.reader (omega arith) ∙ l.invariant
