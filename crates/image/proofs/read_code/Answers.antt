use mathlib.Core.Bool.{false}
use mathlib.Core.Path.{sym, ap, ◌∙◌}
use Prim.Native.Nat.{ℕ, ◌≤◌}
use native.Mathlib.Omega.{arith}
use lib.Seq.{take_all}
use Rattle.octets.specs.Octets.{Bytes, blank, digit}
use Rattle.rules.specs.Codes.{storing}
use Rattle.rules.specs.Image.{got, bytes_if, read_code}
use Rattle.image.proofs.Readings.{exits, read_within, at_most}
use Rattle.image.proofs.Rooms.{part_length}
use Rattle.image.proofs.read_code.Goals as goal

pub slice_bounds-digits-end : goal.slice_bounds-digits-end
unfolding blank
slice_bounds-digits-end c =
    sym (part_length 12 c.from.result (rw c.from.ensures (read_within c.least.result 12 23 c.args.reader.now c.in_ok-len.ensures)))

pub returns-in_err-bytes_within : goal.returns-in_err-bytes_within
unfolding read_code blank
returns-in_err-bytes_within c =
    let fits : c.from.result ≤ 12 = rw c.from.ensures (read_within c.least.result 12 23 c.args.reader.now c.in_ok-len.ensures) in
    let digits = ap (λ (n : ℕ). bytes_if digit 23 n c.byte_within.new.reader) (part_length 12 c.from.result fits ∙ c.from.ensures) in
    exits _ c.from_residual-in_err-bytes_within.result _ _ c.from_residual-in_err-bytes_within.ensures.1
    (rw (← c.least.ensures, ← c.in_ok-len.ensures, ← (c.in_err-bytes_within.ensures ∙ digits)))

pub returns-in_err-tries : goal.returns-in_err-tries
unfolding read_code blank
returns-in_err-tries c =
    let fits : c.from.result ≤ 12 = rw c.from.ensures (read_within c.least.result 12 23 c.args.reader.now c.in_ok-len.ensures) in
    let digits = ap (λ (n : ℕ). bytes_if digit 23 n c.byte_within.new.reader) (part_length 12 c.from.result fits ∙ c.from.ensures) in
    let tries = rw c.from-2.ensures at c.in_err-tries.ensures in
    exits _ c.from_residual-in_err-tries.result _ _ c.from_residual-in_err-tries.ensures.1
    (rw (← c.least.ensures, ← c.in_ok-len.ensures, ← (c.in_ok-bytes_within.ensures ∙ digits), ← (tries ∙ at_most 3 23 c.bytes_within.new.reader)))

pub returns : goal.returns
unfolding read_code blank
returns c =
    let fits : c.from.result ≤ 12 = rw c.from.ensures (read_within c.least.result 12 23 c.args.reader.now c.in_ok-len.ensures) in
    let digits = ap (λ (n : ℕ). bytes_if digit 23 n c.byte_within.new.reader) (part_length 12 c.from.result fits ∙ c.from.ensures) in
    let tries = rw c.from-2.ensures at c.in_ok-tries.ensures in
    let whole = take_all 12 c.bytes_within.new.room (omega (arith, fits, c.bytes_within.auto.room, part_length 12 c.from.result fits)) in
    rw (← c.least.ensures, ← c.in_ok-len.ensures, ← (c.in_ok-bytes_within.ensures ∙ digits), ← (tries ∙ at_most 3 23 c.bytes_within.new.reader))
    (rw c.storing.ensures (ap (λ (d : Bytes). got (storing d c.in_ok-tries.tries false) c.byte_within-2.new.reader) whole))
