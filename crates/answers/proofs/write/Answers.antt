use Rattle.std.proofs.Common.{◌≤◌, length, take, arith}
use Rattle.octets.specs.Octets.{Bytes}
use Rattle.rules.specs.Numbers.{kind_number}
use Rattle.rules.specs.Answers.{response, job}
use Rattle.answers.specs.Outputs.{output_of}
use Rattle.answers.proofs.Outputs.{short_refused, answer_written, response_written, job_written, at_most_256}
use Rattle.answers.proofs.write.Goals as goal

pub returns-then-buffer-lt258 : goal.returns-then-buffer-lt258
returns-then-buffer-lt258 c card = short_refused c.args.buffer.now card c.args.output c.if-buffer-lt258.true

pub returns-in-Response : goal.returns-in-Response
unfolding output_of
returns-in-Response c card =
    let r = c.in-Response in
    simp (r.is, response_written c.args.buffer.now card c.if-buffer-lt258.false r.sw (take r.data.len r.data.bytes) c.write_response.ensures)
    (answer_written c.args.buffer.now card c.if-buffer-lt258.false (response (take r.data.len r.data.bytes) r.sw))

pub returns-in-Job : goal.returns-in-Job
unfolding output_of
returns-in-Job c card =
    let r = c.in-Job in
    let block : Bytes = c.part-block.result.now in
    let short : length block ≤ 256 = at_most_256 r.data.bytes r.data.len c.part-block.ensures (omega arith) in
    simp (r.is, ← c.part-block.ensures, job_written c.args.buffer.now card c.if-buffer-lt258.false (kind_number r.kind) r.key block short c.copy_at.ensures)
    (answer_written c.args.buffer.now card c.if-buffer-lt258.false (job (kind_number r.kind) r.key block))
