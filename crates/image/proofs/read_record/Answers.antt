use mathlib.Core.Path.{◌≡◌, sym, ap, ◌∙◌}
use Prim.Native.Nat.{ℕ, ◌≤◌}
use native.Mathlib.Omega.{arith}
use lib.ListN.{length}
use Rattle.octets.specs.Octets.{blank}
use Rattle.rules.specs.declared.Record.{Record}
use Rattle.rules.specs.Image.{got, any_bytes, read_personal}
use Rattle.image.proofs.Readings.{exits, read_within}
use Rattle.image.proofs.Rooms.{part_length, record_whole}
use Rattle.image.proofs.read_record.Goals as goal

pub slice_bounds-filled-end : goal.slice_bounds-filled-end
unfolding blank
slice_bounds-filled-end c =
    sym (part_length 64 c.from.result (rw c.from.ensures (read_within 1 64 26 c.args.reader.now c.in_ok-len.ensures)))

pub returns-in_err-any_bytes : goal.returns-in_err-any_bytes
unfolding read_personal blank
returns-in_err-any_bytes c =
    let fits : c.from.result ≤ 64 = rw c.from.ensures (read_within 1 64 26 c.args.reader.now c.in_ok-len.ensures) in
    let bytes = ap (λ (n : ℕ). any_bytes n c.byte_within.new.reader) (part_length 64 c.from.result fits ∙ c.from.ensures) in
    exits _ c.from_residual-in_err-any_bytes.result _ _ c.from_residual-in_err-any_bytes.ensures.1
    (rw (← c.in_ok-len.ensures, ← (c.in_err-any_bytes.ensures ∙ bytes)))

pub returns : goal.returns
unfolding read_personal blank
returns c =
    let fits : c.from.result ≤ 64 = rw c.from.ensures (read_within 1 64 26 c.args.reader.now c.in_ok-len.ensures) in
    let bytes = ap (λ (n : ℕ). any_bytes n c.byte_within.new.reader) (part_length 64 c.from.result fits ∙ c.from.ensures) in
    let number : length c.any_bytes.new.room ≡ c.from.result = omega (arith, c.any_bytes.auto.room, part_length 64 c.from.result fits) in
    rw (← c.in_ok-len.ensures, ← (c.in_ok-any_bytes.ensures ∙ bytes))
    (ap (λ (r : Record). got r c.any_bytes.new.reader) (record_whole c.from.result c.in_ok-len.len c.any_bytes.new.room c.from.ensures number))
