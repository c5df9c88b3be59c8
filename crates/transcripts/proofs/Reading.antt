-- Laws of the code that reads an input line by line.
use mathlib.Core.Path.{◌≡◌, sym, ◌∙◌}
use mathlib.Core.List.{[], ◌∷◌, ◌++◌, append_assoc, append-nil}
use Prim.Native.Nat.{ℕ, suc, ◌+◌, ◌-◌, ◌≤◌, min}
use native.Mathlib.Omega.{arith}
use Rattle.std.proofs.Common.{Some, None}
use Rattle.std.specs.List.{position}
use mathlib.Core.Logic.{◌≢◌}
use borrow.Author.Tests.{eq-eqb, ne_eqb}
use lib.Dec.{eqb}
use lib.ListN.{length, take, drop, length-take, length-drop}
use lib.Seq.{take_all}
use Rattle.octets.specs.Octets.{Bytes}
use Rattle.octets.proofs.Cutting.{cut_front}
use Rattle.octets.proofs.Pasting.{pasted_zero}
use Rattle.requests.specs.declared.Dialect.{Dialect}
use Rattle.requests.specs.declared.Dialect.TheVariants.{Transcript, StandIn}
use Rattle.requests.specs.Requests.{line_feed, longest}
use Rattle.lines.specs.declared.kept.Kept.{Kept}
use Rattle.lines.specs.declared.Terminal.{Terminal}
use Rattle.lines.specs.Rooms.{held, kept}
use Rattle.lines.specs.Lines.{answer_line}
use Rattle.lines.specs.Terminals.{setup_of, Answers}
use Rattle.lines.proofs.Answers.{setup_read}
use Rattle.writing.specs.Puts.{Put}
use Rattle.writing.proofs.Puts.{put_then}
use Rattle.transcripts.specs.declared.Console.{Console}
use Rattle.transcripts.specs.Transcript.{Program, written_before, at_line_end, run, finished}
use Rattle.transcripts.specs.Consoles.{program_of, with_more, Holds, EndsLine, Reads}
use Rattle.transcripts.proofs.Runs.{run_first, run_rest}

-- A line that is too long still fits its room.
longest_fits : (d : Dialect) → longest d ≤ 4096
longest_fits Transcript = omega arith
longest_fits StandIn = omega arith

-- A console's line is short.
pub short : (d : Dialect) (c : Console) → length (program_of d c).line ≤ suc (longest d)
short d c = omega (arith, length-take (suc (longest d)) (held c.line))

-- All that stands behind the first k bytes.
pub after : (b : Bytes) (k : ℕ) → take (length b - k) (drop k b) ≡ drop k b
after b k = take_all (length b - k) (drop k b) (omega (arith, length-drop k b))

-- More characters of a line.
module _ (d : Dialect) (c : Console) (more : Bytes) {most : ℕ} (m : most ≡ suc (longest d)) (line : Kept 4097) (k : held line ≡ take (min most 4097) (held c.line ++ more)) where
  pub line_added : held line ≡ (with_more d (program_of d c) more).line
  line_added =
      let size : min most 4097 ≡ suc (longest d) = omega (arith, longest_fits d) in
      k ∙ rw size (sym (cut_front (suc (longest d)) (held c.line) more))

  -- All that has come, with zeros behind each string.
  pub console_added : {last : Kept 4097} {authentication signature : Kept 2048} → last ≡ kept 4097 (held line)
      → authentication ≡ kept 2048 (held c.terminal.authentication) → signature ≡ kept 2048 (held c.terminal.signature)
      → Holds (with_more d (program_of d c) more)
      (record { terminal = record { card = c.terminal.card; authentication = authentication; signature = signature; buffer = c.terminal.buffer }; line = last })
  console_added l a s = rw (l, a, s, line_added)

  -- A line that ends.
  pub line_ended : {shown : Bytes} → shown ≡ held line → {next : Terminal} {before after : Bytes} {at end : ℕ}
      → Answers (answer_line d (setup_of c.terminal) shown) c.terminal before at next after end → (rest : Bytes)
      → EndsLine (at_line_end d (with_more d (program_of d c) more)) before at (program_of d (record { terminal = next; line = record { bytes = rest; len = 0 } })) after end
  line_ended s x rest =
      let y = rw (s, line_added) at x in
      record { program = rw (setup_read y); output = y.line }

-- The end of the input, where nothing has come of a line, and where something has.
module _ (d : Dialect) (c : Console) where
  pub none_open : length (held c.line) ≡ 0 → finished d (program_of d c) ≡ run d (program_of d c) []
  unfolding finished
  none_open h = rw (eq-eqb (length (program_of d c).line) 0 (omega (arith, length-take (suc (longest d)) (held c.line))))

  pub one_open : length (held c.line) ≢ 0 → finished d (program_of d c) ≡ run d (program_of d c) (line_feed ∷ [])
  unfolding finished
  one_open h = rw (ne_eqb (length (program_of d c).line) 0 (omega (arith, length-take (suc (longest d)) (held c.line))))

-- The loop over an input: what has been written, and what is left of the input.
module _ (d : Dialect) (p : Program) (input room : Bytes) where
  pub record Reached (c : Console) (rest buffer : Bytes) (written : ℕ) : Type 0 where
    pub text : Bytes
    pub whole : run d p input ≡ written_before text (run d (program_of d c) rest)
    pub output : Put room 0 text buffer written

  pub reached_start : (c : Console) → p ≡ program_of d c → Reached c input room 0
  reached_start c e = record {
    text = [];
    whole = rw e;
    output = record { whole = sym (pasted_zero room 0); place = omega arith };
  }

  module _ {c : Console} {rest buffer : Bytes} {written : ℕ} (x : Reached c rest buffer written) where
    pub reached_more : (n : ℕ) → Some n ≡ position (λ c. eqb c line_feed) rest → {tail : Bytes} → tail ≡ drop (n + 1) rest → {next : Console} {after : Bytes} {end : ℕ}
        → EndsLine (at_line_end d (with_more d (program_of d c) (take n rest))) buffer written (program_of d next) after end
        → Reached next tail after end
    reached_more n e t y = rw t (record {
      text = x.text ++ (at_line_end d (with_more d (program_of d c) (take n rest))).text;
      whole = x.whole ∙ rw (run_first d (program_of d c) rest n e (short d c), y.program, append_assoc);
      output = put_then x.output y.output;
    })

    pub reached_end : None ≡ position (λ c. eqb c line_feed) rest → {last : Console} → Holds (with_more d (program_of d c) rest) last
        → Reads (run d p input) room last buffer written
    reached_end e y =
        let all : run d p input ≡ record { program = with_more d (program_of d c) rest; text = x.text } =
        x.whole ∙ rw (run_rest d (program_of d c) rest e (short d c), append-nil) in
        rw all (record { held = y; output = x.output })
