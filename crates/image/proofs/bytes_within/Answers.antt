use mathlib.Core.Path.{◌∙◌}
use Rattle.rules.specs.Numbers.{fault_number}
use Rattle.image.specs.Results.{within}
use native.Mathlib.Omega.{arith}
use Rattle.image.proofs.Readings.{exits_into}
use Rattle.image.proofs.Filling.{bytes_repeat, none_yet, one_more, stopped, full}
use Rattle.image.proofs.bytes_within.Goals as goal

pub loop-byte-init : goal.loop-byte-init
loop-byte-init c = none_yet (bytes_repeat (within c.args.low c.args.high) (fault_number c.args.fault)) c.args.room.now c.args.reader.now

pub loop-byte-preserved : goal.loop-byte-preserved
loop-byte-preserved c =
    let l = c.loop-byte in
    one_more (bytes_repeat (within c.args.low c.args.high) (fault_number c.args.fault)) l.room l.byte-index l.reader (omega arith) c.in_ok-byte.field-0 c.byte_within.new.reader c.in_ok-byte.ensures ∙ l.invariant

pub returns-in_err-byte : goal.returns-in_err-byte
returns-in_err-byte c =
    let l = c.loop-byte in
    exits_into _ c.from_residual.result _ _ _ c.from_residual.ensures.1
    (stopped (bytes_repeat (within c.args.low c.args.high) (fault_number c.args.fault)) l.room l.byte-index l.reader (omega arith) _ c.in_err-byte.ensures ∙ l.invariant)

pub returns : goal.returns
returns c = let l = c.loop-byte in full (bytes_repeat (within c.args.low c.args.high) (fault_number c.args.fault)) l.room l.byte-index l.reader (omega arith) ∙ l.invariant
