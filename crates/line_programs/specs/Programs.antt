-- The program that a line program has come to, and what it has written. Which bytes the system brought no contract can say
-- (docs/DECISIONS.md): there is some input from which the program follows. Where the reader knows its bytes, that input is what it lost of
-- them, and where the writer knows its bytes, the output is what it gained.
use Rattle.std.specs.Prelude.{◌≡◌, ◌++◌, Bool, true, false, IsTrue, ◌&&◌, Option, Result, Ok, Err, OnOk, is_ok, cond}
use Rattle.std.specs.Io.KnownBytes.{Appends, Consumes, IsAtEnd}
use Rattle.octets.specs.Octets.{Bytes, all_bytes}
use Rattle.requests.specs.declared.Dialect.{Dialect}
use Rattle.transcripts.specs.declared.Console.{Console}
use Rattle.transcripts.specs.Transcript.{Program, run, start, finished, transcript}
use Rattle.transcripts.specs.Consoles.{console_for, Holds}
use Rattle.streams.specs.declared.Failure.{Failure}
use Rattle.streams.specs.Streams.{AppendsFront}
use Rattle.line_programs.specs.declared.Stop.{Stop}
use Rattle.line_programs.specs.declared.Stop.TheVariants.{NotRead, NotWritten, EndNotWritten}
use Rattle.line_programs.specs.declared.Stopped.{Stopped}

-- Whether the input has ended.
abbrev pub ended : Result (Unit {0}) Stop → Bool
ended (Ok _) = true
ended (Err NotRead) = false
ended (Err NotWritten) = false
ended (Err EndNotWritten) = true

-- Whether all that was answered was written.
abbrev pub sent : Result (Unit {0}) Stop → Bool
sent (Ok _) = true
sent (Err NotRead) = true
sent (Err NotWritten) = false
sent (Err EndNotWritten) = false

-- The certificates that a program lends are strings of bytes.
abbrev pub LendsBytes : Program → Type 0
LendsBytes p = (all_bytes p.setup.authentication && all_bytes p.setup.signature) ≡ true

-- A text was written, all of it unless that failed.
pub record Written (text : Bytes) (had has : Option Bytes) (r : Result (Unit {0}) Failure) : Type 0 where
  pub front : AppendsFront had has text
  pub whole : OnOk r (Appends had has text)

-- Some input was read from a program on, and the code holds the program after it. It was read to its end just where the outcome is Ok;
-- what was answered is written then, and a flush there that failed was said.
pub record SomeRead (d : Dialect) (p : Program) (left left' had has : Option Bytes) (c : Console) (r : Result (Unit {0}) Stop) : Type 0 where
  pub input : Bytes
  pub read : Consumes left left' input
  pub at_end : IsTrue (ended r) → IsAtEnd left'
  pub none_open : ended r ≡ is_ok r
  pub held : Holds (run d p input).program c
  pub written : AppendsFront had has (run d p input).text
  pub whole : IsTrue (sent r) → Appends had has (run d p input).text

-- Where the input has ended, a line that it left open is read to its end.
abbrev pub at_stop : Dialect → Bool → Program → Program
at_stop d ended p = cond ended (finished d p).program p

-- What is written from a program on.
abbrev pub text_at_stop : Dialect → Bool → Program → Bytes → Bytes
text_at_stop d ended p input = cond ended ((run d p input).text ++ (finished d (run d p input).program).text) (run d p input).text

-- A line program from a program on, to where it stopped.
pub record RanFrom (d : Dialect) (p : Program) (left left' had has : Option Bytes) (c : Console) (r : Result (Unit {0}) Stop) : Type 0 where
  pub input : Bytes
  pub read : Consumes left left' input
  pub at_end : IsTrue (ended r) → IsAtEnd left'
  pub console : c ≡ console_for (at_stop d (ended r) (run d p input).program)
  pub written : AppendsFront had has (text_at_stop d (ended r) p input)
  pub whole : IsTrue (sent r) → Appends had has (text_at_stop d (ended r) p input)

-- What a program has written: at the end of its input the transcript.
abbrev pub text_of : Dialect → Bool → Bytes → Bytes → Bytes → Bytes
text_of d ended authentication signature input =
    cond ended (transcript d authentication signature input) (run d (start d authentication signature) input).text

-- A line program from its start, with the sample card and these certificates, to where it stopped.
pub record Ran (d : Dialect) (authentication signature : Bytes) (left left' had has : Option Bytes) (r : Stopped) : Type 0 where
  pub input : Bytes
  pub read : Consumes left left' input
  pub at_end : IsTrue (ended r.outcome) → IsAtEnd left'
  pub console : r.console ≡ console_for (at_stop d (ended r.outcome) (run d (start d authentication signature) input).program)
  pub written : AppendsFront had has (text_of d (ended r.outcome) authentication signature input)
  pub whole : IsTrue (sent r.outcome) → Appends had has (text_of d (ended r.outcome) authentication signature input)
