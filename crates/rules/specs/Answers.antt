-- Document 01, "Order of judgement for a command": what a command answers, and response data by Le.
-- "Key host" is document 01's term for the program that holds the private keys and computes with them.
use Rattle.std.specs.Prelude.{ℕ, ◌+◌, cond, List, [], length, eqb, leb}
use Rattle.octets.specs.Octets.{Bytes}
use Rattle.rules.specs.declared.Code.{Code}
use Rattle.rules.specs.declared.CodeStep.{CodeStep}
use Rattle.rules.specs.declared.Session.{Session}
use Rattle.rules.specs.Session.{with_held, with_job}

-- What a command or a delivery answers, before it is written to the buffer: response data and a status word,
-- or a job for the key host, by its kind, its key and its 256-byte block.
pub data Answer : Type 0 where
  response : Bytes → ℕ → Answer
  job : ℕ → ℕ → Bytes → Answer

-- The codes, the unblocking counts and the session after a command, and its answer. No command changes the rest of the card.
pub record Step : Type 0 where
  pub codes : List Code
  pub counts : List ℕ
  pub session : Session
  pub answer : Answer

-- The session after a command that changes nothing but the session, and its answer.
pub record SessionStep : Type 0 where
  pub session : Session
  pub answer : Answer

-- A command that changes nothing but the session; one that changes nothing but the codes and the counts and answers by a status word alone
-- (`CodeStep` has the codes and the word).
abbrev pub in_session : List Code → List ℕ → SessionStep → Step
in_session codes counts o = record { codes = codes; counts = counts; session = o.session; answer = o.answer }

abbrev pub in_codes : List ℕ → Session → CodeStep → Step
in_codes counts s o = record { codes = o.codes; counts = counts; session = s; answer = response [] o.sw }

-- A status word alone.
abbrev pub code_status : List Code → ℕ → CodeStep
code_status codes sw = record { codes = codes; sw = sw }

abbrev pub session_status : Session → ℕ → SessionStep
session_status s sw = record { session = s; answer = response [] sw }

abbrev pub status : List Code → List ℕ → Session → ℕ → Step
status codes counts s sw = in_session codes counts (session_status s sw)

-- 61 and n, 256 as 00.
unfoldable pub more_bytes : ℕ → ℕ
more_bytes n = 0x6100 + cond (eqb n 256) 0x00 n

-- Data of n > 0 bytes: with Le at least n, all data and 9000; else held, answer 61 and n, no data. No bytes: 9000 alone.
unfoldable pub give : Session → ℕ → Bytes → SessionStep
give s le d =
    cond (leb (length d) le)
    (record { session = s; answer = response d 0x9000 })
    (session_status (with_held s d) (more_bytes (length d)))

-- A job is handed out, and waits with its Le.
abbrev pub hand_out : Session → ℕ → ℕ → ℕ → Bytes → SessionStep
hand_out s kind key le block =
    record { session = with_job s (record { kind = kind; key = key; le = le }); answer = job kind key block }
