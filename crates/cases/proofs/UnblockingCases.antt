-- RESET RETRY does as the cases expect.
use mathlib.Core.Path.{refl}
use Rattle.cases.specs.UnblockingCases.{unblocking, UnblockingShown}
use Rattle.cases.proofs.Rules.{rules}

pub unblocking_shown : UnblockingShown
unfolding rules unblocking
unblocking_shown = refl
