-- Laws of an input read in parts, and of its first line.
use mathlib.Core.Path.{◌≡◌, refl, sym, ap, ◌∙◌}
use mathlib.Core.Bool.{Bool, true, false, cond}
use mathlib.Core.List.{[], ◌∷◌, ◌++◌, append_assoc, append-nil}
use Prim.Native.Nat.{ℕ, suc, ◌+◌, ◌≤◌, ◌<◌}
use native.Mathlib.Nat.{le_of_suc-le-suc, not-suc-le-zero}
use native.Mathlib.Numerals.{add-one}
use native.Mathlib.Omega.{arith}
use Rattle.std.proofs.Common.{Some, None}
use Rattle.std.specs.List.{position, position_or_len}
use lib.Dec.{eqb, ltb}
use lib.ListN.{length, take, drop, length-take, take-append-drop}
use lib.Seq.{take_all, take-suc}
use borrow.Author.Tests.{eqb-true, ltb-true, ltb-false}
use Rattle.octets.proofs.Cutting.{cut_front}
use Rattle.octets.specs.Octets.{Bytes, byte_at}
use Rattle.octets.proofs.Tests.{by_test}
use Rattle.requests.specs.declared.Dialect.{Dialect}
use Rattle.lines.specs.Lines.{LineAnswer}
use Rattle.requests.specs.Requests.{line_feed, longest}
use Rattle.transcripts.specs.Consoles.{with_more}
use Rattle.transcripts.specs.Transcript.{Program, Run, written_before, at_line_end, run_with, kept_line, run}

-- How many characters stand before the first line feed.
abbrev pub line_length : Bytes → ℕ
line_length [] = 0
line_length (x ∷ b) = cond (eqb x line_feed) 0 (suc (line_length b))

abbrev feed : ℕ → Bool
feed c = eqb c line_feed

-- The library counts them too.
counted : (b : Bytes) → position_or_len feed b ≡ line_length b
counted [] = refl
counted (x ∷ b) =
    by_test _ (eqb x line_feed)
    (λ e. rw e)
    (λ e. rw e (omega (arith, counted b)))

pub some_feed : (b : Bytes) (n : ℕ) → Some n ≡ position feed b → (n ≡ line_length b) × (line_length b < length b)
some_feed b n h =
    by_test _ (ltb (line_length b) (length b))
    (λ e.
    let found : Some n ≡ Some (line_length b) = h ∙ rw (counted b, e) in
    let same : n ≡ line_length b = cc in
    (same, ltb-true (line_length b) (length b) e))
    (λ e.
    let none : Some n ≡ None = h ∙ rw (counted b, e) in
    cc)

pub no_feed : (b : Bytes) → None ≡ position feed b → length b ≤ line_length b
no_feed b h =
    by_test _ (ltb (line_length b) (length b))
    (λ e.
    let found : None ≡ Some (line_length b) = h ∙ rw (counted b, e) in
    cc)
    (λ e. ltb-false (line_length b) (length b) e)

module _ (d : Dialect) where
  abbrev answered : Program → LineAnswer
  answered = at_line_end d

  abbrev pub next_line : Program → Program
  next_line p = record { setup = (answered p).setup; line = [] }

  -- Whatever is kept of a line.
  module _ (kept : Bytes → Bytes) where
    abbrev reading : Program → Bytes → Run
    reading = run_with d kept

    abbrev pub one_more : Program → ℕ → Program
    one_more p x = record { setup = p.setup; line = kept (p.line ++ x ∷ []) }

    pub at_feed : (p : Program) (x : ℕ) (b : Bytes) → eqb x line_feed ≡ true → reading p (x ∷ b) ≡ written_before (answered p).text (reading (next_line p) b)
    unfolding run_with
    at_feed p x b e = rw e

    pub at_other : (p : Program) (x : ℕ) (b : Bytes) → eqb x line_feed ≡ false → reading p (x ∷ b) ≡ reading (one_more p x) b
    unfolding run_with
    at_other p x b e = rw e

    pub at_end_lem : (p : Program) → reading p [] ≡ record { program = p; text = [] }
    unfolding run_with
    at_end_lem p = refl

    -- An input read in two parts.
    pub run_append : (p : Program) (a b : Bytes) → reading p (a ++ b) ≡ written_before (reading p a).text (reading (reading p a).program b)
    run_append p [] b = rw (at_end_lem p)
    run_append p (x ∷ a) b =
        by_test _ (eqb x line_feed)
        (λ e. rw (at_feed p x (a ++ b) e, at_feed p x a e, run_append (next_line p) a b, append_assoc))
        (λ e. rw (at_other p x (a ++ b) e, at_other p x a e) (run_append (one_more p x) a b))

  abbrev most : ℕ
  most = suc (longest d)

  -- A program that has read more characters, none of them a line feed.
  abbrev further : Program → Bytes → Program
  further = with_more d

  none_further : (p : Program) → length p.line ≤ most → run d p [] ≡ record { program = further p []; text = [] }
  none_further p h = rw (at_end_lem (kept_line d) p, append-nil p.line, take_all most p.line h)

  pub run_plain : (p : Program) (b : Bytes) → length p.line ≤ most → run d p (take (line_length b) b) ≡ record { program = further p (take (line_length b) b); text = [] }
  run_plain p [] h = none_further p h
  run_plain p (x ∷ b) h =
      by_test _ (eqb x line_feed)
      (λ e. rw e (none_further p h))
      (λ e.
      let c : Bytes = take (line_length b) b in
      let size : length (kept_line d (p.line ++ x ∷ [])) ≤ most = omega (arith, length-take most (p.line ++ x ∷ [])) in
      let joined : kept_line d (kept_line d (p.line ++ x ∷ []) ++ c) ≡ kept_line d (p.line ++ (x ∷ c)) = cut_front most (p.line ++ x ∷ []) c ∙ ap (take most) (append_assoc p.line (x ∷ []) c) in
      rw (e, at_other (kept_line d) p x c e, run_plain (one_more (kept_line d) p x) b size, joined))

  -- The character after them, if there is one, is a line feed.
  feed_next : (b : Bytes) → line_length b < length b → byte_at b (line_length b) ≡ line_feed
  feed_next [] h = absurd (not-suc-le-zero h)
  feed_next (x ∷ b) h =
      by_test _ (eqb x line_feed)
      (λ e. rw e (eqb-true x line_feed e))
      (λ e. rw e (feed_next b (le_of_suc-le-suc (rw e at h))))

  -- A line with its line feed.
  pub run_line : (p : Program) (b : Bytes) → length p.line ≤ most → line_length b < length b
      → run d p (take (line_length b + 1) b)
      ≡ record { program = next_line (further p (take (line_length b) b)); text = (answered (further p (take (line_length b) b))).text }
  run_line p b h k =
      let n : ℕ = line_length b in
      rw (
        add-one,
        take-suc b n 0 k,
        feed_next b k,
        run_append (kept_line d) p (take n b) (line_feed ∷ []),
        run_plain p b h,
        at_feed (kept_line d) (further p (take n b)) line_feed [] refl,
        at_end_lem (kept_line d) (next_line (further p (take n b))),
        append-nil,
      )

  -- A line with its line feed, and what follows it.
  pub run_first : (p : Program) (b : Bytes) (n : ℕ) → Some n ≡ position feed b → length p.line ≤ most
      → run d p b ≡ written_before (answered (further p (take n b))).text (run d (next_line (further p (take n b))) (drop (n + 1) b))
  run_first p b n e h =
      let found = some_feed b n e in
      let line = run_line p b h found.1 in
      let all : run d p (take (n + 1) b ++ drop (n + 1) b) ≡ run d p b = ap (run d p) (take-append-drop (n + 1) b) in
      sym all ∙ run_append (kept_line d) p (take (n + 1) b) (drop (n + 1) b) ∙ rw (found.0, line)

  -- An input without one.
  pub run_rest : (p : Program) (b : Bytes) → None ≡ position feed b → length p.line ≤ most → run d p b ≡ record { program = further p b; text = [] }
  run_rest p b e h =
      let all : take (line_length b) b ≡ b = take_all (line_length b) b (no_feed b e) in
      rw all at (run_plain p b h)
