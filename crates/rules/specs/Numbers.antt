-- Document 01, "Code places and language forms": "Where an answer is an enum, a definition sets out this paper's number and
-- values for each of its cases. The promises use that definition." One definition for each enum that a public function of the
-- card answers, and for each `Result` and `Option` of them. Of replies, refusals, faults and length forms the rules know the
-- numbers alone.
use Rattle.std.specs.Prelude.{ℕ, ◌≡◌, Option, Some, None, Result, Ok, Err, cond, eqb}
use Rattle.rules.specs.declared.Command.{Command}
use Rattle.rules.specs.declared.Header.{Header}
use Rattle.rules.specs.declared.JobKind.{JobKind}
use Rattle.rules.specs.declared.JobKind.TheVariants.{Authenticate, Sign, Decipher}
use Rattle.rules.specs.declared.Refusal.{Refusal}
use Rattle.rules.specs.declared.Refusal.TheVariants.{BadState, ShortBuffer, CertificateLength, JobWaiting}
use Rattle.rules.specs.declared.Refusal.TheVariants.{NoJobWaiting}
use Rattle.rules.specs.declared.Reply.{Reply}
use Rattle.rules.specs.declared.Reply.TheVariants.{Response, HandedOut, WasReset}
use Rattle.rules.specs.declared.conversions.NoKind.{NoKind}
use Rattle.rules.specs.declared.Fault.{Fault}
use Rattle.rules.specs.declared.Fault.TheVariants.{EndsEarly, WrongCount, BadCode, BadKey, BadReference}
use Rattle.rules.specs.declared.Fault.TheVariants.{RecordLength, LeftOver, UnblockingCount}

-- The kinds of a job: 1 authenticate, 2 sign, 3 decipher.
abbrev pub kind_number : JobKind → ℕ
kind_number Authenticate = 1
kind_number Sign = 2
kind_number Decipher = 3

-- The kind that a number stands for, if any.
abbrev pub kind_for : ℕ → Result JobKind NoKind
kind_for n =
    cond (eqb n 1) (Ok Authenticate)
    (cond (eqb n 2) (Ok Sign)
    (cond (eqb n 3) (Ok Decipher)
    (Err (record {}))))

-- The edge's refusals, 1 to 5.
abbrev pub refusal_number : Refusal → ℕ
refusal_number BadState = 1
refusal_number ShortBuffer = 2
refusal_number CertificateLength = 3
refusal_number JobWaiting = 4
refusal_number NoJobWaiting = 5

-- What a call returns: an edge refusal's number; a response's length; a job's kind and key; or that a reset was done.
pub data Returned : Type 0 where
  edge : ℕ → Returned
  responded : ℕ → Returned
  handed_out : ℕ → ℕ → Returned
  was_reset : Returned

abbrev pub returned : Result Reply Refusal → Returned
returned (Err r) = edge (refusal_number r)
returned (Ok (Response n)) = responded n
returned (Ok (HandedOut kind key)) = handed_out (kind_number kind) key
returned (Ok WasReset) = was_reset

-- The faults of a card image, 21 to 28 (28 since 02, wish 6).
abbrev pub fault_number : Fault → ℕ
fault_number EndsEarly = 21
fault_number WrongCount = 22
fault_number BadCode = 23
fault_number BadKey = 24
fault_number BadReference = 25
fault_number RecordLength = 26
fault_number LeftOver = 27
fault_number UnblockingCount = 28

-- What load answers: a fault's number, or 0 where the image was accepted.
abbrev pub load_number : Result (Unit {0}) Fault → ℕ
load_number (Ok _) = 0
load_number (Err f) = fault_number f

-- What the writer returns: an edge refusal's number, or the image's length.
pub data Wrote : Type 0 where
  unwritten : ℕ → Wrote
  wrote : ℕ → Wrote

abbrev pub wrote_of : Result ℕ Refusal → Wrote
wrote_of (Err r) = unwritten (refusal_number r)
wrote_of (Ok n) = wrote n

-- What the length form of a command gives: its header and where its data would start, or the status word that refuses it.
pub data LengthForm : Type 0 where
  form : Header → ℕ → LengthForm
  refused : ℕ → LengthForm

abbrev pub length_form : Option (Header × ℕ) → LengthForm
length_form (Some (h, start)) = form h start
length_form None = refused 0x6700

-- What a header names: a command, whose numbers are its rows in Judgement.antt, or none, with the status word for that.
pub data Naming : Type 0 where
  names : Command → Naming
  names_none : ℕ → Naming

abbrev pub naming : Option Command → Naming
naming (Some x) = names x
naming None = names_none 0x6A86

-- They lose nothing: no two cases of an enum have the same number or value.
pub record ToldApart : Type 0 where
  pub kinds : (a b : JobKind) → kind_number a ≡ kind_number b → a ≡ b
  pub refusals : (a b : Refusal) → refusal_number a ≡ refusal_number b → a ≡ b
  pub replies : (a b : Result Reply Refusal) → returned a ≡ returned b → a ≡ b
  pub faults : (a b : Fault) → fault_number a ≡ fault_number b → a ≡ b
  pub loads : (a b : Result (Unit {0}) Fault) → load_number a ≡ load_number b → a ≡ b
  pub writes : (a b : Result ℕ Refusal) → wrote_of a ≡ wrote_of b → a ≡ b
  pub forms : (a b : Option (Header × ℕ)) → length_form a ≡ length_form b → a ≡ b
  pub names : (a b : Option Command) → naming a ≡ naming b → a ≡ b
