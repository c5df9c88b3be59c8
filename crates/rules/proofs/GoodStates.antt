-- Good states: load gives one, every call keeps one, and the all-zero state is none.
use Rattle.rules.specs.Demands.{GoodStates}
use Rattle.rules.proofs.Loading.{fresh, zero_not_good}
use Rattle.rules.proofs.Keeping.{kept}

pub good_states : GoodStates
good_states = record { at_load = λ image accepted. (fresh image accepted).is_good; kept = kept; zero = zero_not_good }
