-- The program has begun, and its rooms hold it.
use Rattle.std.proofs.Common.{arith, take}
use Rattle.octets.proofs.Buffers.{all_bytes_lem}
use Rattle.line_programs.proofs.Readings.{begun_held, begun_lends, bytes_taken, ran}
use Rattle.line_programs.proofs.run.Goals as goal

pub answer_all-outcome-requires-clause-held : goal.answer_all-outcome-requires-clause-held
answer_all-outcome-requires-clause-held g c = begun_held c.args.dialect _ _ c.begin-console.ensures

pub answer_all-outcome-requires-clause-bytes : goal.answer_all-outcome-requires-clause-bytes
answer_all-outcome-requires-clause-bytes g c =
    let first = bytes_taken 2048 c.args.first.now (all_bytes_lem c.args.first.now (λ i. omega (arith, c.type_inv.first i))) in
    let second = bytes_taken 2048 c.args.second.now (all_bytes_lem c.args.second.now (λ i. omega (arith, c.type_inv.second i))) in
    begun_lends c.args.dialect _ _ c.begin-console.ensures (search (first, second)) (search (first, second))

pub returns : goal.returns
returns g c = ran c.args.dialect (take 2048 c.args.first.now) (take 2048 c.args.second.now) c.begin-console.ensures c.answer_all-outcome.ensures
