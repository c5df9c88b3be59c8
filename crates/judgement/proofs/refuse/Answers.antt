use Rattle.judgement.proofs.refuse.Goals as goal

pub returns : goal.returns
returns c = simp (c.in_session.ensures, c.session_status.ensures, c.drop_both-bare.ensures)
