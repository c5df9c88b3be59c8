-- Of a line no more is needed than tells that it is too long.
use mathlib.Core.Path.{◌≡◌, refl, ap}
use mathlib.Core.List.{[], ◌∷◌, append-nil}
use Prim.Native.Nat.{suc, ◌<◌}
use native.Mathlib.Omega.{arith}
use lib.Dec.{eqb, leb}
use lib.ListN.{length, length-take}
use lib.Seq.{take_all}
use mathlib.Core.Logic.{◌≢◌}
use borrow.Author.Tests.{ne_eqb, lt-ltb, leb-true, leb-false}
use Rattle.octets.specs.Octets.{Bytes}
use Rattle.octets.proofs.Tests.{by_test}
use Rattle.octets.proofs.Cutting.{cut_front}
use Rattle.requests.specs.declared.Dialect.{Dialect}
use Rattle.lines.specs.Lines.{Setup}
use Rattle.requests.specs.Requests.{other, line_feed, longest, request_of}
use Rattle.transcripts.specs.Transcript.{
  Program,
  Run,
  start,
  written_before,
  at_line_end,
  run_with,
  kept_line,
  run,
  last_line,
  finished,
  Kept,
}
use Rattle.transcripts.proofs.Runs.{run_append, at_end_lem, at_feed, at_other, next_line, one_more}

module _ (d : Dialect) where
  long_line : (line : Bytes) → longest d < length line → request_of d line ≡ other
  unfolding request_of
  long_line line h = rw (lt-ltb (longest d) (length line) h)

  request_kept : (line : Bytes) → request_of d (kept_line d line) ≡ request_of d line
  request_kept line =
      by_test _ (leb (length line) (suc (longest d)))
      (λ e. rw (take_all (suc (longest d)) line (leb-true (length line) (suc (longest d)) e)))
      (λ e.
      let long : suc (longest d) < length line = leb-false (length line) (suc (longest d)) e in
      let cut : longest d < length (kept_line d line) = omega (arith, length-take (suc (longest d)) line) in
      rw (long_line (kept_line d line) cut, long_line line (omega arith)))

  -- A program with no more of its line than that.
  abbrev kept : Program → Program
  kept p = record { setup = p.setup; line = kept_line d p.line }

  abbrev kept_run : Run → Run
  kept_run r = record { program = kept r.program; text = r.text }

  abbrev same : Bytes → Bytes
  same line = line

  abbrev plain : Program → Bytes → Run
  plain = run_with d same

  run_kept : (p : Program) (b : Bytes) → run d (kept p) b ≡ kept_run (plain p b)
  run_kept p [] = rw (at_end_lem d (kept_line d) (kept p), at_end_lem d same p)
  run_kept p (x ∷ b) =
      by_test _ (eqb x line_feed)
      (λ e. rw (at_feed d (kept_line d) (kept p) x b e, at_feed d same p x b e, request_kept p.line) (ap (written_before (at_line_end d p).text) (run_kept (next_line d p) b)))
      (λ e. rw (at_other d (kept_line d) (kept p) x b e, at_other d same p x b e, cut_front (suc (longest d)) p.line (x ∷ [])) (run_kept (one_more d same p x) b))

  -- The last line.
  last_answered : (s : Setup) (line : Bytes) → (finished d (kept (record { setup = s; line = line }))).text ≡ last_line d (record { setup = s; line = line })
  unfolding finished last_line
  last_answered s [] = rw (at_end_lem d (kept_line d) (record { setup = s; line = [] }))
  last_answered s (x ∷ line) =
      let p : Program = record { setup = s; line = x ∷ line } in
      let some : length (kept_line d (x ∷ line)) ≢ 0 = omega arith in
      let all : length (x ∷ line) ≢ 0 = omega arith in
      rw (
        ne_eqb (length (kept_line d (x ∷ line))) 0 some,
        ne_eqb (length (x ∷ line)) 0 all,
        at_feed d (kept_line d) (kept p) line_feed [] refl,
        at_end_lem d (kept_line d) (next_line d (kept p)),
        append-nil,
        request_kept (x ∷ line),
      )

pub kept_enough : Kept
kept_enough = record {
  whole = λ d authentication signature input.
      let p : Program = (run_with d (λ line. line) (start d authentication signature) input).program in
      rw (run_kept d (start d authentication signature) input, last_answered d p.setup p.line);
  in_parts = λ d. run_append d (kept_line d);
}
