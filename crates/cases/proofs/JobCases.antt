-- SIGN and DECIPHER do as the cases expect.
use mathlib.Core.Path.{refl}
use Rattle.cases.specs.JobCases.{FormsListed, jobs, JobsShown, spoilt, SpoiltDigests, hashes, AnyHash, mixed, MixedRows}
use Rattle.cases.proofs.Rules.{rules}

pub forms_listed : FormsListed
forms_listed = refl

pub jobs_shown : JobsShown
unfolding rules jobs
jobs_shown = refl

pub spoilt_digests : SpoiltDigests
unfolding rules spoilt
spoilt_digests = refl

pub any_hash : AnyHash
unfolding rules hashes
any_hash = refl

pub mixed_rows : MixedRows
unfolding rules mixed
mixed_rows = refl
