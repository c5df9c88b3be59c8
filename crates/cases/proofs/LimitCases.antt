-- A limit on unblocking does as the cases expect.
use mathlib.Core.Path.{refl}
use Rattle.cases.specs.LimitCases.{limits, kept, LimitsShown}
use Rattle.cases.proofs.Rules.{rules}

pub limits_shown : LimitsShown
unfolding rules limits kept
limits_shown = record { seen = refl; left = refl; kept = refl; each = refl }
