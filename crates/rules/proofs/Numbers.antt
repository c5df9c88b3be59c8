-- The number definitions lose nothing: each has an inverse. So no fault has the number of an accepted image.
use mathlib.Core.Path.{◌≡◌, refl, sym, ap, ◌∙◌}
use mathlib.Core.Bool.{false, cond}
use Prim.Native.Nat.{ℕ}
use native.Mathlib.Omega.{arith}
use lib.Dec.{eqb}
use borrow.Author.Tests.{ne_eqb}
use Rattle.rules.specs.declared.JobKind.{JobKind}
use Rattle.rules.specs.declared.JobKind.TheVariants.{Authenticate, Sign, Decipher}
use Rattle.rules.specs.declared.Refusal.{Refusal}
use Rattle.rules.specs.declared.Refusal.TheVariants.{BadState, ShortBuffer, CertificateLength, JobWaiting}
use Rattle.rules.specs.declared.Refusal.TheVariants.{NoJobWaiting}
use Rattle.rules.specs.declared.Reply.{Reply}
use Rattle.rules.specs.declared.Reply.TheVariants.{Response, HandedOut, WasReset}
use Rattle.rules.specs.declared.Header.{Header}
use Rattle.rules.specs.declared.Command.{Command}
use Rattle.std.specs.Prelude.{Option, Some, None, Result, Ok, Err}
use Rattle.rules.specs.declared.Fault.{Fault}
use Rattle.rules.specs.declared.Fault.TheVariants.{EndsEarly, WrongCount, BadCode, BadKey, BadReference}
use Rattle.rules.specs.declared.Fault.TheVariants.{RecordLength, LeftOver, UnblockingCount}
use Rattle.rules.specs.Numbers.{kind_number, refusal_number, Returned, edge, responded, handed_out, was_reset}
use Rattle.rules.specs.Numbers.{returned, fault_number, load_number, LengthForm, form, refused, length_form}
use Rattle.rules.specs.Numbers.{Wrote, unwritten, wrote, wrote_of, ToldApart}
use Rattle.rules.specs.Numbers.{Naming, names, names_none, naming}

-- A map with an inverse tells all cases apart.
apart : {A B : Type 0} (f : A → B) (g : B → A) → ((a : A) → g (f a) ≡ a) → (a b : A) → f a ≡ f b → a ≡ b
apart f g back a b e = sym (back a) ∙ ap g e ∙ back b

kind_of : ℕ → JobKind
kind_of n = cond (eqb n 1) Authenticate (cond (eqb n 2) Sign Decipher)

kind_back : (a : JobKind) → kind_of (kind_number a) ≡ a
unfolding kind_of
kind_back Authenticate = refl
kind_back Sign = refl
kind_back Decipher = refl

refusal_of_lem : ℕ → Refusal
refusal_of_lem n =
    cond (eqb n 1) BadState (cond (eqb n 2) ShortBuffer (cond (eqb n 3) CertificateLength (cond (eqb n 4) JobWaiting NoJobWaiting)))

refusal_back : (a : Refusal) → refusal_of_lem (refusal_number a) ≡ a
unfolding refusal_of_lem
refusal_back BadState = refl
refusal_back ShortBuffer = refl
refusal_back CertificateLength = refl
refusal_back JobWaiting = refl
refusal_back NoJobWaiting = refl

reply_of : Returned → Result Reply Refusal
reply_of (edge n) = Err (refusal_of_lem n)
reply_of (responded n) = Ok (Response n)
reply_of (handed_out kind key) = Ok (HandedOut (kind_of kind) key)
reply_of was_reset = Ok WasReset

reply_back : (a : Result Reply Refusal) → reply_of (returned a) ≡ a
unfolding reply_of
reply_back (Err r) = ap Err (refusal_back r)
reply_back (Ok (Response n)) = refl
reply_back (Ok (HandedOut kind key)) = ap (λ (k : JobKind). Ok (HandedOut k key)) (kind_back kind)
reply_back (Ok WasReset) = refl

-- The result of load; 0 stands for no fault.
load_of : ℕ → Result (Unit {0}) Fault
load_of n =
    cond (eqb n 0) (Ok tt)
    (cond (eqb n 21) (Err EndsEarly)
    (cond (eqb n 22) (Err WrongCount)
    (cond (eqb n 23) (Err BadCode)
    (cond (eqb n 24) (Err BadKey)
    (cond (eqb n 25) (Err BadReference)
    (cond (eqb n 26) (Err RecordLength)
    (cond (eqb n 27) (Err LeftOver)
    (Err UnblockingCount))))))))

load_back : (a : Result (Unit {0}) Fault) → load_of (load_number a) ≡ a
unfolding load_of
load_back (Ok tt) = refl
load_back (Err EndsEarly) = refl
load_back (Err WrongCount) = refl
load_back (Err BadCode) = refl
load_back (Err BadKey) = refl
load_back (Err BadReference) = refl
load_back (Err RecordLength) = refl
load_back (Err LeftOver) = refl
load_back (Err UnblockingCount) = refl

fault_in : Result (Unit {0}) Fault → Fault
fault_in (Ok tt) = LeftOver
fault_in (Err f) = f

fault_back : (a : Fault) → fault_in (load_of (fault_number a)) ≡ a
unfolding fault_in
fault_back a = ap fault_in (load_back (Err a))

write_of : Wrote → Result ℕ Refusal
write_of (unwritten n) = Err (refusal_of_lem n)
write_of (wrote n) = Ok n

write_back : (a : Result ℕ Refusal) → write_of (wrote_of a) ≡ a
unfolding write_of
write_back (Err r) = ap Err (refusal_back r)
write_back (Ok n) = refl

parsed_of : LengthForm → Option (Header × ℕ)
parsed_of (form h start) = Some (h, start)
parsed_of (refused sw) = None

form_back : (a : Option (Header × ℕ)) → parsed_of (length_form a) ≡ a
unfolding parsed_of
form_back (Some (h, start)) = refl
form_back None = refl

named_of : Naming → Option Command
named_of (names x) = Some x
named_of (names_none sw) = None

named_back : (a : Option Command) → named_of (naming a) ≡ a
unfolding named_of
named_back (Some x) = refl
named_back None = refl

pub told_apart : ToldApart
told_apart =
    record {
      kinds = apart kind_number kind_of kind_back;
      refusals = apart refusal_number refusal_of_lem refusal_back;
      replies = apart returned reply_of reply_back;
      faults = apart fault_number (λ n. fault_in (load_of n)) fault_back;
      loads = apart load_number load_of load_back;
      writes = apart wrote_of write_of write_back;
      forms = apart length_form parsed_of form_back;
      names = apart naming named_of named_back;
    }

pub fault_some : (f : Fault) → eqb (fault_number f) 0 ≡ false
fault_some f = ne_eqb (fault_number f) 0 (λ e.
    let same : ◌≡◌ {A = Result (Unit {0}) Fault} (Err f) (Ok tt) = told_apart.loads (Err f) (Ok tt) e in
    let none : ◌≡◌ {A = ℕ} 0 1 = cc in omega arith)
