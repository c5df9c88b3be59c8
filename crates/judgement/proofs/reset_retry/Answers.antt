use Rattle.judgement.proofs.reset_retry.Goals as goal

pub returns : goal.returns
returns c = simp (c.in_codes.ensures, c.counts_left-left.ensures, c.reset_retry-step.ensures.0)
