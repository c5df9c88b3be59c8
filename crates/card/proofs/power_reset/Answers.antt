use Rattle.rules.specs.Edge.{power_reset}
use Rattle.card.proofs.power_reset.Goals as goal

pub returns-then-not-good : goal.returns-then-not-good
unfolding power_reset
returns-then-not-good c = simp (← c.good.ensures, c.if-not-good.true-raw)

pub returns : goal.returns
unfolding power_reset
returns c = simp (c.closed-codes.ensures, c.closed-pin1_closed.ensures, c.closed-puk_closed.ensures, c.new_session.ensures, ← c.good.ensures, c.if-not-good.false-raw)
