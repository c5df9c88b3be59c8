-- What is stored in place of an old value, if anything is; what RESET RETRY promises.
use mathlib.Core.Path.{◌≡◌, refl, ap}
use mathlib.Core.Bool.{Bool, true}
use mathlib.Core.List.{List}
use Prim.Native.Nat.{ℕ}
use lib.ListN.{take}
use lib.Seq.{take_all}
use Rattle.octets.specs.Octets.{Bytes}
use Rattle.octets.proofs.Tests.{by_test}
use Rattle.rules.specs.declared.Code.{Code}
use Rattle.rules.specs.declared.CodeStep.{CodeStep}
use Rattle.rules.specs.declared.Header.{Header}
use Rattle.rules.specs.declared.Verdict.{Verdict}
use Rattle.rules.specs.declared.Verdict.TheVariants.{Right, Wrong, NoTries}
use Rattle.rules.specs.Codes.{allowed, storing}
use Rattle.rules.specs.CodeCommands.{replaced, LeavesClosed, reset_retry}
use Rattle.rules.proofs.Parts.{allowed_most}
use Rattle.rules.proofs.Unblocking.{reset_closes}

-- A new value that is allowed is stored whole; of one that is not, it does not matter what would be stored.
module _ (codes : List Code) (k j : ℕ) (new : Bytes) (stored : Code → List Code) (tries : ℕ) (verified : Bool) where
  abbrev whole : List Code
  whole = stored (storing new tries verified)

  abbrev cut : List Code
  cut = stored (storing (take 12 new) tries verified)

  stored_whole : allowed j new ≡ true → cut ≡ whole
  stored_whole a = ap (λ (d : Bytes). stored (storing d tries verified)) (take_all 12 new (allowed_most j new a))

  pub replaced_whole : (found : Verdict) → replaced codes k j new cut found ≡ replaced codes k j new whole found
  unfolding replaced
  replaced_whole Right = by_test _ (allowed j new) (λ e. rw (stored_whole e)) (λ e. simp e)
  replaced_whole Wrong = refl
  replaced_whole NoTries = refl

-- An answer that is RESET RETRY's keeps the promise besides.
pub promised : (codes : List Code) (counts : List ℕ) (h : Header) (d : Bytes) (r : CodeStep) → r ≡ reset_retry codes counts h d
    → (r ≡ reset_retry codes counts h d) × LeavesClosed codes h.p2 r
promised codes counts h d r e = (e, rw e (reset_closes codes counts h d))
