-- The text of a fault, and the numbers that are shown as one digit.
use mathlib.Core.Path.{◌≡◌}
use mathlib.Core.List.{[], ◌∷◌}
use Prim.Native.Nat.{◌/◌, ◌%◌, ◌≤◌}
use native.Mathlib.Omega.{arith}
use Rattle.rules.specs.declared.Fault.{Fault}
use Rattle.rules.specs.declared.JobKind.{JobKind}
use Rattle.rules.specs.declared.JobKind.TheVariants.{Authenticate, Sign, Decipher}
use Rattle.rules.specs.declared.Refusal.{Refusal}
use Rattle.rules.specs.declared.Refusal.TheVariants.{BadState, ShortBuffer, CertificateLength, JobWaiting, NoJobWaiting}
use Rattle.rules.specs.Numbers.{kind_number, refusal_number, fault_number}
use Rattle.rules.proofs.Numbers.{fault_some}
use Rattle.line_texts.specs.Texts.{numeral, load_text}

-- A fault's text.
pub fault_text : (f : Fault) → load_text (fault_number f) ≡ 0x46 ∷ numeral (fault_number f / 10) ∷ numeral (fault_number f % 10) ∷ []
unfolding load_text
fault_text f = rw (fault_some f)

-- The numbers that are shown as one digit.
pub small_kind : (k : JobKind) → kind_number k ≤ 3
small_kind Authenticate = omega arith
small_kind Sign = omega arith
small_kind Decipher = omega arith

pub small_refusal : (r : Refusal) → refusal_number r ≤ 5
small_refusal BadState = omega arith
small_refusal ShortBuffer = omega arith
small_refusal CertificateLength = omega arith
small_refusal JobWaiting = omega arith
small_refusal NoJobWaiting = omega arith
