use Rattle.std.proofs.Common.{◌≡◌, ◌≤◌, ◌/◌, ◌%◌, length, get_or, refl, arith}
use Rattle.std.proofs.Math.ListN.{length-set}
use Rattle.answers.proofs.Outputs.{at_most_256, response_put}
use Rattle.answers.proofs.write_response.Goals as goal

pub returns : goal.returns
returns c =
    let a = c.args in
    let short : length c.part-shown.result.now ≤ 256 = at_most_256 a.d.bytes a.d.len c.part-shown.ensures (omega arith) in
    let high : get_or c.to_be_bytes.result 0 0 ≡ a.sw / 256 = rw c.to_be_bytes.ensures (omega arith) in
    let low : get_or c.to_be_bytes.result 1 0 ≡ a.sw % 256 = rw c.to_be_bytes.ensures refl in
    let put = response_put a.buffer.now a.sw c.part-shown.result.now c.requires short c.copy_at.ensures high low in
    simp (← c.part-shown.ensures) (refl, put)

pub bounds-buffer-end : goal.bounds-buffer-end
bounds-buffer-end c =
    let a = c.args in
    let short : length c.part-shown.result.now ≤ 256 = at_most_256 a.d.bytes a.d.len c.part-shown.ensures (omega arith) in
    omega (arith, c.requires, short)

pub bounds-buffer-end-2 : goal.bounds-buffer-end-2
bounds-buffer-end-2 c =
    let a = c.args in
    let short : length c.part-shown.result.now ≤ 256 = at_most_256 a.d.bytes a.d.len c.part-shown.ensures (omega arith) in
    simp length-set (omega (arith, c.requires, short))
