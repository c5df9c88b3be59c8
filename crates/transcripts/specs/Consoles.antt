-- What the code holds of a program, and its steps, in the terms of Transcript.antt. No rule of the lines stands here.
use Rattle.std.specs.Prelude.{ℕ, ◌≡◌, [], ◌++◌}
use Rattle.octets.specs.Octets.{Bytes}
use Rattle.requests.specs.declared.Dialect.{Dialect}
use Rattle.lines.specs.Lines.{LineAnswer}
use Rattle.lines.specs.Rooms.{held, kept}
use Rattle.lines.specs.Terminals.{setup_of, terminal_for}
use Rattle.writing.specs.Puts.{Put}
use Rattle.transcripts.specs.Transcript.{Program, Run, kept_line}
use Rattle.transcripts.specs.declared.Console.{Console}

-- A console; what stands behind its line and its certificates in their rooms does not count.
abbrev pub program_of : Dialect → Console → Program
program_of d c = record { setup = setup_of c.terminal; line = kept_line d (held c.line) }

abbrev pub console_for : Program → Console
console_for p = record { terminal = terminal_for p.setup; line = kept 4097 p.line }

-- A program as the code holds it: each string at the front of its room, with zeros behind it.
abbrev pub Holds : Program → Console → Type 0
Holds p c = c ≡ console_for p

-- A program after more characters, none of them a line feed.
abbrev pub with_more : Dialect → Program → Bytes → Program
with_more d p more = record { setup = p.setup; line = kept_line d (p.line ++ more) }

-- The end of a line: the program afterwards, and the line's output from a place on, as much of it as fits.
pub record EndsLine (x : LineAnswer) (before : Bytes) (at : ℕ) (p : Program) (after : Bytes) (end : ℕ) : Type 0 where
  pub program : p ≡ record { setup = x.setup; line = [] }
  pub output : Put before at x.text after end

-- An input read: the program afterwards, and the output at the front of a buffer, as much of it as fits.
pub record Reads (x : Run) (before : Bytes) (c : Console) (after : Bytes) (written : ℕ) : Type 0 where
  pub held : Holds x.program c
  pub output : Put before 0 x.text after written
