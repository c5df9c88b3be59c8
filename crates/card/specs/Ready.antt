-- Edge refusals 1 and 2, which a command and a delivery share, as the code answers them.
use Rattle.std.specs.Prelude.{Result, Ok, Err, cond, not}
use Rattle.octets.specs.Octets.{Bytes}
use Rattle.rules.specs.declared.Card.{Card}
use Rattle.rules.specs.declared.Refusal.{Refusal}
use Rattle.rules.specs.declared.Refusal.TheVariants.{BadState, ShortBuffer}
use Rattle.rules.specs.Edge.{short_buffer}
use Rattle.rules.specs.State.{good}

abbrev pub Readiness : Type 0
Readiness = Result (Unit {0}) Refusal

abbrev pub ready : Card → Bytes → Readiness
ready c buffer = cond (not (good c)) (Err BadState) (cond (short_buffer buffer) (Err ShortBuffer) (Ok tt))
