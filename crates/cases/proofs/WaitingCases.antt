-- Jobs wait as the cases expect.
use mathlib.Core.Path.{refl}
use Rattle.cases.specs.WaitingCases.{waiting_jobs, JobsWait, signature_kinds, SignaturesTold}
use Rattle.cases.proofs.Rules.{rules}

pub jobs_wait : JobsWait
unfolding rules waiting_jobs
jobs_wait = refl

pub signatures_told : SignaturesTold
unfolding rules signature_kinds
signatures_told = refl
