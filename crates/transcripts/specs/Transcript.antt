-- The input and output of the line programs: document 01's transcript program ("Cases"), and the stand-in. Each starts with the sample card
-- and two certificates, reads lines and writes one line each.
use Rattle.std.specs.Prelude.{ℕ, suc, ◌*◌, ◌≤◌, ◌≡◌, true, cond, ◌&&◌, [], ◌∷◌, ◌++◌, length, take, eqb}
use Rattle.octets.specs.Octets.{Bytes, all_bytes}
use Rattle.rules.specs.Sample.{sample_card}
use Rattle.requests.specs.declared.Dialect.{Dialect}
use Rattle.requests.specs.declared.Dialect.TheVariants.{Transcript, StandIn}
use Rattle.lines.specs.Lines.{Setup, LineAnswer, answer_line}
use Rattle.requests.specs.Requests.{line_feed, longest}

-- A program between two characters: what it holds, and the line as far as it has come.
pub record Program : Type 0 where
  pub setup : Setup
  pub line : Bytes

-- The answer buffer at the start.
abbrev pub first_buffer : Dialect → ℕ
first_buffer Transcript = 258
first_buffer StandIn = 4096

-- It starts with the sample card.
abbrev pub start : Dialect → Bytes → Bytes → Program
start d authentication signature =
    record {
      setup = record { card = sample_card; authentication = authentication; signature = signature; buffer = first_buffer d };
      line = [];
    }

-- Where some input has been read: the program afterwards and what it has written.
pub record Run : Type 0 where
  pub program : Program
  pub text : Bytes

abbrev pub written_before : Bytes → Run → Run
written_before text r = record { program = r.program; text = text ++ r.text }

module _ (d : Dialect) where
  abbrev pub at_line_end : Program → LineAnswer
  at_line_end p = answer_line d p.setup p.line

  -- Input, character by character; `kept` is what is kept of a line.
  unfoldable pub run_with : (Bytes → Bytes) → Program → Bytes → Run
  run_with kept p [] = record { program = p; text = [] }
  run_with kept p (x ∷ input) =
      cond (eqb x line_feed)
      (written_before (at_line_end p).text (run_with kept (record { setup = (at_line_end p).setup; line = [] }) input))
      (run_with kept (record { setup = p.setup; line = kept (p.line ++ x ∷ []) }) input)

  -- The last line perhaps does not end in a line feed.
  unfoldable pub last_line : Program → Bytes
  last_line p = cond (eqb (length p.line) 0) [] (at_line_end p).text

  -- All that a program writes for an input.
  abbrev pub transcript : Bytes → Bytes → Bytes → Bytes
  transcript authentication signature input =
      (run_with (λ line. line) (start d authentication signature) input).text
      ++ last_line (run_with (λ line. line) (start d authentication signature) input).program

  -- The same, where no more is kept of a line than tells that it is too long: 1,025 characters, or 4,097.
  abbrev pub kept_line : Bytes → Bytes
  kept_line line = take (suc (longest d)) line

  abbrev pub run : Program → Bytes → Run
  run = run_with kept_line

  -- Where the input ends within a line, that line is read to its end.
  unfoldable pub finished : Program → Run
  finished p = run p (cond (eqb (length p.line) 0) [] (line_feed ∷ []))

-- That is enough: the output is the transcript's. And an input may be read in parts.
pub record Kept : Type 0 where
  pub whole : (d : Dialect) (authentication signature input : Bytes)
      → (run d (start d authentication signature) input).text ++ (finished d (run d (start d authentication signature) input).program).text
      ≡ transcript d authentication signature input
  pub in_parts : (d : Dialect) (p : Program) (a b : Bytes)
      → run d p (a ++ b) ≡ written_before (run d p a).text (run d (run d p a).program b)

-- The most characters that a line gives, its line feed included.
abbrev pub most_text : Dialect → ℕ
most_text Transcript = 518
most_text StandIn = 2238

-- So a buffer of as many bytes for each character of an input holds all that the input gives.
abbrev pub ShortOutput : Type 0
ShortOutput =
    (d : Dialect) (p : Program) → (all_bytes p.setup.authentication && all_bytes p.setup.signature) ≡ true
    → (input : Bytes) → length (run d p input).text ≤ most_text d * length input
