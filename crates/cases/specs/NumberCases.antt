-- Document 01's numbers and values, and document 02's, for the cases of the code's enums.
use Rattle.std.specs.Prelude.{◌≡◌, [], ◌∷◌, map, Some, None, Ok, Err}
use Rattle.rules.specs.declared.Header.{Header}
use Rattle.rules.specs.declared.JobKind.TheVariants.{Authenticate, Sign, Decipher}
use Rattle.rules.specs.declared.Refusal.TheVariants.{BadState, ShortBuffer, CertificateLength, JobWaiting}
use Rattle.rules.specs.declared.Refusal.TheVariants.{NoJobWaiting}
use Rattle.rules.specs.declared.Reply.TheVariants.{Response, HandedOut, WasReset}
use Rattle.rules.specs.declared.Fault.TheVariants.{EndsEarly, WrongCount, BadCode, BadKey, BadReference}
use Rattle.rules.specs.declared.Fault.TheVariants.{RecordLength, LeftOver, UnblockingCount}
use Rattle.rules.specs.Numbers.{kind_number, refusal_number, edge, responded, handed_out, was_reset, returned}
use Rattle.rules.specs.declared.Command.TheVariants.{Verify}
use Rattle.rules.specs.Numbers.{fault_number, load_number, unwritten, wrote, wrote_of, form, refused, length_form, names, names_none, naming}

-- Some header.
abbrev pub verify_header : Header
verify_header = record { cla = 0x00; ins = 0x20; p1 = 0x00; p2 = 0x01; lc = 4; le = 0 }

pub record NumbersShown : Type 0 where
  -- kinds: 1 authenticate, 2 sign, 3 decipher
  pub kinds : map kind_number (Authenticate ∷ Sign ∷ Decipher ∷ []) ≡ 1 ∷ 2 ∷ 3 ∷ []
  -- edge refusals 1 to 5
  pub refusals :
      map refusal_number (BadState ∷ ShortBuffer ∷ CertificateLength ∷ JobWaiting ∷ NoJobWaiting ∷ [])
      ≡ 1 ∷ 2 ∷ 3 ∷ 4 ∷ 5 ∷ []
  -- load's numbers: 21 ends early; 22 count; 23 code; 24 key; 25 reference; 26 record length; 27 bytes left over;
  -- 28 unblocking count (02, wish 6)
  pub faults :
      map fault_number (EndsEarly ∷ WrongCount ∷ BadCode ∷ BadKey ∷ BadReference ∷ RecordLength ∷ LeftOver ∷ UnblockingCount ∷ [])
      ≡ 21 ∷ 22 ∷ 23 ∷ 24 ∷ 25 ∷ 26 ∷ 27 ∷ 28 ∷ []
  pub loads : map load_number (Ok tt ∷ Err EndsEarly ∷ Err LeftOver ∷ Err UnblockingCount ∷ []) ≡ 0 ∷ 21 ∷ 27 ∷ 28 ∷ []
  -- what a call returns: an edge refusal; a response and its length; a job, its kind and its key; a reset
  pub replies :
      map returned (Err ShortBuffer ∷ Ok (Response 12) ∷ Ok (HandedOut Sign 0x0200) ∷ Ok WasReset ∷ [])
      ≡ edge 2 ∷ responded 12 ∷ handed_out 2 0x0200 ∷ was_reset ∷ []
  -- what the writer returns: an edge refusal's number; the image's length
  pub writes :
      map wrote_of (Err BadState ∷ Err ShortBuffer ∷ Ok 84 ∷ Ok 1118 ∷ [])
      ≡ unwritten 1 ∷ unwritten 2 ∷ wrote 84 ∷ wrote 1118 ∷ []
  -- the length form: a header and where its data start, or 6700
  pub forms : map length_form (Some (verify_header, 5) ∷ None ∷ []) ≡ form verify_header 5 ∷ refused 0x6700 ∷ []
  -- the command that a header names, or 6A86
  pub named : map naming (Some Verify ∷ None ∷ []) ≡ names Verify ∷ names_none 0x6A86 ∷ []
