use Rattle.octets.proofs.Cutting.{cut_length}
use Rattle.apdu.proofs.Reach.{le_within}
use Rattle.judgement.proofs.judge.Goals as goal

pub judge_header-requires : goal.judge_header-requires
judge_header-requires c =
    let a = c.args in
    record {
      le = rw c.in_reach-h.ensures (le_within a.header);
      fits = rw c.in_reach-h.ensures (cut_length a.header.lc _ a.body.now c.part-d.ensures);
    }

pub returns : goal.returns
returns c = simp (c.in_reach-h.ensures, c.part-d.ensures) at c.judge_header.ensures
