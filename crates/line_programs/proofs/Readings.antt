-- Laws of readings that follow one another.
use Rattle.std.proofs.Common.{◌≡◌, ℕ, zero, suc, ltb, ◌+◌, ◌*◌, ◌≤◌, [], ◌∷◌, ◌++◌, subst, Option, Result, Ok, Err, OnOk, Bool, true, false, IsTrue, refl, sym, ◌∙◌, eqb, length, take, length-append, length-take, is_ok, arith}
use Rattle.std.proofs.Math.Seq.{take-append-add}
use Rattle.std.proofs.lemmas.List.{take_all, take-append-le}
use Rattle.std.specs.Io.KnownBytes.{Appends, Consumes}
use Rattle.std.proofs.KnownBytes.{Appends-nil, Appends-trans, Consumes-nil, Consumes-trans}
use Rattle.octets.specs.Octets.{Bytes, filled, all_bytes}
use Rattle.octets.proofs.Pasting.{take_pasted}
use Rattle.octets.proofs.Tests.{by_test, and_left, and_right}
use Rattle.writing.specs.Puts.{Put}
use Rattle.requests.specs.declared.Dialect.{Dialect}
use Rattle.requests.specs.declared.Dialect.TheVariants.{Transcript, StandIn}
use Rattle.requests.specs.Requests.{line_feed, longest}
use Rattle.transcripts.specs.declared.Console.{Console}
use Rattle.transcripts.specs.Transcript.{Program, kept_line, run, start, finished, most_text}
use Rattle.transcripts.specs.Consoles.{program_of, Holds}
use Rattle.transcripts.proofs.Keeping.{kept_enough}
use Rattle.transcripts.proofs.Output.{short_output, line_short}
use Rattle.transcripts.proofs.Runs.{at_feed, at_other, at_end_lem, run_append, next_line, one_more}
use Rattle.streams.specs.declared.Failure.{Failure}
use Rattle.streams.specs.Streams.{AppendsFront}
use Rattle.line_programs.specs.declared.Stop.{Stop}
use Rattle.line_programs.specs.declared.Stop.TheVariants.{NotRead}
use Rattle.line_programs.specs.Programs.{LendsBytes, Written, SomeRead, RanFrom, Ran, ended, sent, text_at_stop, text_of}

-- A string at the front of its room is read back.
front : (n : ℕ) (b : Bytes) → take (length b) (filled n b) ≡ b
unfolding filled
front n b = take-append-le (length b) b _ (omega arith) ∙ take_all (length b) b (omega arith)

-- A text that fits stands at the front of the output.
pub shown : (text before after : Bytes) (end : ℕ) → Put before 0 text after end → length text ≤ length before → take end after ≡ text
shown text before after end h fits =
    let all : end ≡ length text = omega (arith, h.place) in
    rw (all, h.whole) (take_pasted before text fits)

-- What is written behind a text that was written whole.
front_more : (a b c : Option Bytes) (s t : Bytes) → Appends a b s → AppendsFront b c t → AppendsFront a c (s ++ t)
front_more a b c s t p (n, fits, q) =
    (length s + n, omega (arith, length-append s t, fits), rw (take-append-add s t n) (Appends-trans a b c s (take n t) p q))

-- A string cut is one of bytes still.
pub bytes_taken : (n : ℕ) (b : Bytes) → all_bytes b ≡ true → all_bytes (take n b) ≡ true
bytes_taken zero b e = refl
bytes_taken (suc n) [] e = refl
bytes_taken (suc n) (x ∷ b) e =
    rw (and_left (ltb x 256) (all_bytes b) e, bytes_taken n b (and_right (ltb x 256) (all_bytes b) e)) refl

on_ok : {T E : Type 0} (r : Result T E) (P : Type 0) → is_ok r ≡ true → OnOk r P → P
on_ok (Ok x) P e h = h
on_ok (Err x) P e h = cc

sent_ok : (r : Result (Unit {0}) Stop) → is_ok r ≡ true → IsTrue (sent r)
sent_ok (Ok x) e = refl
sent_ok (Err x) e = cc

module _ (d : Dialect) where
  -- What is read at once gives no more than the output holds.
  pub text_fits : (p : Program) (input : Bytes) → LendsBytes p → most_text d * length input ≤ 524288 → length (run d p input).text ≤ 524288
  text_fits p input lent fits = omega (arith, short_output d p lent input, fits)

  -- A line keeps the certificates strings of bytes.
  run_lends : (p : Program) (b : Bytes) → LendsBytes p → LendsBytes (run d p b).program
  run_lends p [] e = rw (at_end_lem d (kept_line d) p) e
  run_lends p (x ∷ b) e =
      by_test _ (eqb x line_feed)
      (λ f. rw (at_feed d (kept_line d) p x b f) (run_lends (next_line d p) b (line_short d p.setup e p.line).1))
      (λ f. rw (at_other d (kept_line d) p x b f) (run_lends (one_more d (kept_line d) p x) b e))

  -- No more is kept of a line than tells that it is too long.
  abbrev Short : Program → Type 0
  Short p = length p.line ≤ suc (longest d)

  run_short : (p : Program) (b : Bytes) → Short p → Short (run d p b).program
  run_short p [] h = rw (at_end_lem d (kept_line d) p) h
  run_short p (x ∷ b) h =
      by_test _ (eqb x line_feed)
      (λ e. rw (at_feed d (kept_line d) p x b e) (run_short (next_line d p) b (omega arith)))
      (λ e.
      rw (at_other d (kept_line d) p x b e)
      (run_short (one_more d (kept_line d) p x) b (omega (arith, length-take (suc (longest d)) (p.line ++ x ∷ [])))))

  -- So a program is read back from where the code holds it.
  read_back : (p : Program) (c : Console) → Short p → Holds p c → program_of d c ≡ p
  read_back p c h x =
      rw (x, front 4097 p.line, front 2048 p.setup.authentication, front 2048 p.setup.signature, take_all (suc (longest d)) p.line h) refl

  program_short : (c : Console) → Short (program_of d c)
  program_short c = omega (arith, length-take (suc (longest d)) (take c.line.len c.line.bytes))

  module _ (c₀ : Console) where
    abbrev p : Program
    p = program_of d c₀

    pub nothing_read : {left had : Option Bytes} → Holds p c₀ → SomeRead d p left left had had c₀ (Err NotRead)
    nothing_read {left} {had} x = record {
      input = [];
      read = Consumes-nil left;
      at_end = λ e. cc;
      none_open = refl;
      held = rw (at_end_lem d (kept_line d) p) x;
      written = (0, omega arith, Appends-nil had);
      whole = λ e. rw (at_end_lem d (kept_line d) p) (Appends-nil had);
    }

    -- The program after what was read.
    after : {left left' had has : Option Bytes} {c : Console} {r : Result (Unit {0}) Stop} (x : SomeRead d p left left' had has c r) → program_of d c ≡ (run d p x.input).program
    after {c = c} x = read_back (run d p x.input).program c (run_short p x.input (program_short c₀)) x.held

    -- The certificates stay strings of bytes.
    pub lends_still : {left left' had has : Option Bytes} {c : Console} {r : Result (Unit {0}) Stop} → LendsBytes p → SomeRead d p left left' had has c r → LendsBytes (program_of d c)
    lends_still e x = let P : Program → Type 0 = λ q. LendsBytes q in subst P (sym (after x)) (run_lends p x.input e)

    module _ {left mid left' had mid' : Option Bytes} {c : Console} (x : SomeRead d p left mid had mid' c (Err NotRead)) where
      module _ (b : Bytes) (read : Consumes mid left' b) {c' : Console} (h : Holds (run d (program_of d c) b).program c') {has : Option Bytes} {r : Result (Unit {0}) Failure}
          (w : Written (run d (program_of d c) b).text mid' has r) where
        -- More was read and answered; the outcome is free but where it says that the input has ended, or that all was written.
        pub more_read : (o : Result (Unit {0}) Stop) → ended o ≡ false → is_ok o ≡ false → (IsTrue (sent o) → is_ok r ≡ true) → SomeRead d p left left' had has c' o
        more_read o early failed all =
            let joined = run_append d (kept_line d) p x.input b in
            let back = after x in
            record {
              input = x.input ++ b;
              read = Consumes-trans _ _ _ x.input b x.read read;
              at_end = λ e. cc;
              none_open = early ∙ sym failed;
              held = rw (joined, ← back) h;
              written = rw (joined, ← back) (front_more _ _ _ _ _ (x.whole refl) w.front);
              whole = λ t. rw (joined, ← back) (Appends-trans _ _ _ _ _ (x.whole refl) (on_ok r _ (all t) w.whole));
            }

    module _ {left left' had mid : Option Bytes} {c : Console} {r : Result (Unit {0}) Stop} (x : SomeRead d p left left' had mid c r) where
      module _ (f : is_ok r ≡ true) {c' : Console} (h : Holds (finished d (program_of d c)).program c') {has : Option Bytes} {q : Result (Unit {0}) Failure}
          (w : Written (finished d (program_of d c)).text mid has q) where
        -- The end of the input was answered.
        pub stopped_at_end : (o : Result (Unit {0}) Stop) → ended o ≡ true → (IsTrue (sent o) → is_ok q ≡ true) → RanFrom d p left left' had has c' o
        stopped_at_end o e all =
            let back = after x in
            let before = x.whole (sent_ok r f) in
            record {
              input = x.input;
              read = x.read;
              at_end = λ t. x.at_end (x.none_open ∙ f);
              console = rw (e, ← back) h;
              written = rw (e, ← back) (front_more _ _ _ _ _ before w.front);
              whole = λ t. rw (e, ← back) (Appends-trans _ _ _ _ _ before (on_ok q _ (all t) w.whole));
            }

  most_fits : (e : Dialect) → most_text e * 1 ≤ 524288
  most_fits Transcript = omega arith
  most_fits StandIn = omega arith

  -- What a last line gives fits too.
  pub end_fits : (p : Program) → LendsBytes p → length (finished d p).text ≤ 524288
  unfolding finished
  end_fits p lent =
      by_test _ (eqb (length p.line) 0)
      (λ e. rw e (text_fits p [] lent (omega arith)))
      (λ e. rw e (text_fits p (line_feed ∷ []) lent (most_fits d)))

  -- A program that has begun.
  module _ (authentication signature : Bytes) {c : Console} (begun : Holds (start d authentication signature) c) where
    from_start : program_of d c ≡ start d authentication signature
    from_start = read_back (start d authentication signature) c (omega arith) begun

    pub begun_held : Holds (program_of d c) c
    begun_held = let P : Program → Type 0 = λ q. Holds q c in subst P (sym from_start) begun

    pub begun_lends : all_bytes authentication ≡ true → all_bytes signature ≡ true → LendsBytes (program_of d c)
    begun_lends a s =
        let P : Program → Type 0 = λ q. LendsBytes q in
        let lends : LendsBytes (start d authentication signature) = rw (a, s) refl in subst P (sym from_start) lends

    text_from_start : (ended : Bool) (input : Bytes)
        → text_at_stop d ended (program_of d c) input ≡ text_of d ended authentication signature input
    text_from_start true input = rw from_start (kept_enough.whole d authentication signature input)
    text_from_start false input = rw from_start refl

    pub ran : {left left' had has : Option Bytes} {after : Console} {o : Result (Unit {0}) Stop} → RanFrom d (program_of d c) left left' had has after o
        → Ran d authentication signature left left' had has (record { console = after; outcome = o })
    ran {o = o} x = record {
      input = x.input;
      read = x.read;
      at_end = x.at_end;
      console = rw (← from_start) x.console;
      written = rw (← text_from_start (ended o) x.input) x.written;
      whole = λ t. rw (← text_from_start (ended o) x.input) (x.whole t);
    }
