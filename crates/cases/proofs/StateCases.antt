-- The good states of the cases are good, the bad ones bad.
use mathlib.Core.Path.{refl}
use Rattle.cases.specs.StateCases.{bad, BadStates, idle, busy, GoodStates}
use Rattle.cases.proofs.Rules.{rules}

pub bad_states : BadStates
unfolding rules bad
bad_states = refl

pub good_states : GoodStates
unfolding rules idle busy
good_states = record { idle = refl; busy = refl }
