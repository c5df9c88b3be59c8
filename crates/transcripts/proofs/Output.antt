-- A line gives at most 518 characters, of the stand-in at most 2,238: I, the hex of 1,118 bytes, and the line feed.
use mathlib.Core.Path.{◌≡◌, refl}
use mathlib.Core.Bool.{true, ◌&&◌, false≢true}
use mathlib.Core.List.{[], ◌∷◌, ◌++◌}
use Prim.Native.Nat.{ℕ, zero, suc, ◌≤◌, min}
use native.Mathlib.Omega.{arith}
use lib.Dec.{eqb}
use lib.ListN.{length, take, drop, length-append, length-take}
use Rattle.octets.specs.Octets.{Bytes, all_bytes, blank}
use Rattle.octets.proofs.Tests.{split, by_test, and_left, and_right}
use Rattle.hexadecimal.specs.Hex.{hex_of}
use Rattle.hexadecimal.proofs.Laws.{length_hex_of}
use Rattle.rules.specs.declared.Card.{Card}
use Rattle.rules.specs.Numbers.{Returned, responded, handed_out}
use Rattle.rules.specs.Image.{load}
use Rattle.rules.specs.Writer.{image_of, write}
use Rattle.rules.specs.Counting.{Call, Command, Delivery, PowerReset, step}
use Rattle.rules.specs.Demands.{Possible, edge_refusal, command_response, command_job, delivery_response, reset}
use Rattle.rules.proofs.Demand1.{demand_1}
use Rattle.rules.proofs.Writing.{image_most}
use Rattle.rules.proofs.ImageLaws.{write_ways}
use Rattle.requests.specs.declared.Dialect.{Dialect}
use Rattle.requests.specs.declared.Dialect.TheVariants.{Transcript, StandIn}
use Rattle.requests.specs.Requests.{Request, line_feed, most_buffer, stands_in}
use Rattle.lines.specs.Lines.{Setup, answer_to, setup_after, line_answer, answer_buffer, answer_line}
use Rattle.line_texts.specs.Texts.{reply_text, load_text, saved_text}
use Rattle.requests.proofs.Requests.{Cases, every_request}
use Rattle.transcripts.specs.Transcript.{run, kept_line, most_text, ShortOutput}
use Rattle.transcripts.proofs.Runs.{at_end_lem, at_feed, at_other, next_line, one_more}

-- What a call can return is short.
response_short : (d : Dialect) (n : ℕ) (b : Bytes) → n ≤ 258 → length (reply_text d (responded n) b ++ line_feed ∷ []) ≤ most_text d
unfolding reply_text
response_short Transcript n b h = omega (arith, length-append (hex_of (take n b)) (line_feed ∷ []), length_hex_of (take n b), length-take n b)
response_short StandIn n b h = omega (arith, length-append (hex_of (take n b)) (line_feed ∷ []), length_hex_of (take n b), length-take n b)

job_short : (d : Dialect) (kind key : ℕ) (b : Bytes) → length (reply_text d (handed_out kind key) b ++ line_feed ∷ []) ≤ most_text d
unfolding reply_text
job_short Transcript kind key b = omega arith
job_short StandIn kind key b = omega (arith, length-append (hex_of (take 256 b)) (line_feed ∷ []), length_hex_of (take 256 b), length-take 256 b)

small : (d : Dialect) → 4 ≤ most_text d
small Transcript = omega arith
small StandIn = omega arith

reply_short : (d : Dialect) {x : Call} {q : Returned} → Possible x q → (b : Bytes) → length (reply_text d q b ++ line_feed ∷ []) ≤ most_text d
unfolding reply_text
reply_short d (edge_refusal x n) b = omega (arith, small d)
reply_short d (command_response apdu authentication signature buffer n l m) b = response_short d n b m
reply_short d (command_job apdu authentication signature buffer kind key l m) b = job_short d kind key b
reply_short d (delivery_response result buffer n l m) b = response_short d n b m
reply_short d reset b = omega (arith, small d)

load_short : (d : Dialect) (n : ℕ) → length (load_text n ++ line_feed ∷ []) ≤ most_text d
unfolding load_text
load_short d n = split (λ (t : Bytes). length (t ++ line_feed ∷ []) ≤ most_text d) (eqb n 0) (λ _. omega (arith, small d)) (λ _. omega (arith, small d))

saved_short : (d : Dialect) → stands_in d ≡ true → (c : Card) (b : Bytes)
    → length (saved_text (write c b).0 (write c b).1 ++ line_feed ∷ []) ≤ most_text d
unfolding saved_text
saved_short Transcript e c b = absurd (false≢true e)
saved_short StandIn e c b =
    write_ways c b (λ r. length (saved_text r.0 r.1 ++ line_feed ∷ []) ≤ most_text StandIn)
    (λ g. omega arith)
    (λ g h. omega arith)
    (λ g h.
    let shown = take (length (image_of c)) (image_of c ++ drop (length (image_of c)) b) in
    omega (arith, length-append (hex_of shown) (line_feed ∷ []), length_hex_of shown, length-take (length (image_of c)) (image_of c ++ drop (length (image_of c)) b), image_most c g))

blank_bytes : (n : ℕ) → all_bytes (blank n) ≡ true
unfolding blank
blank_bytes zero = refl
blank_bytes (suc n) = blank_bytes n

-- A line keeps the certificates strings of bytes, and its text is short.
abbrev pub Lent : Setup → Type 0
Lent s = (all_bytes s.authentication && all_bytes s.signature) ≡ true

module _ (d : Dialect) (s : Setup) (e : Lent s) where
  abbrev Short : Request → Type 0
  Short q = (length (line_answer d s q).text ≤ most_text d) × Lent (line_answer d s q).setup

  first : all_bytes s.authentication ≡ true
  first = and_left (all_bytes s.authentication) (all_bytes s.signature) e

  second : all_bytes s.signature ≡ true
  second = and_right (all_bytes s.authentication) (all_bytes s.signature) e

  short : Cases d Short
  unfolding answer_to setup_after step
  short = record {
    resets = (reply_short d (demand_1.defined s.card PowerReset refl).possible [], e);
    savings = λ t. (saved_short d t s.card (answer_buffer s), e);
    sizes = λ n. (omega (arith, small d), e);
    others = (omega (arith, small d), e);
    commands = λ b f h.
        let x = Command b s.authentication s.signature (answer_buffer s) in
        (reply_short d (demand_1.defined s.card x (rw (f, first, second, blank_bytes (min s.buffer most_buffer)))).possible _, e);
    deliveries = λ b f h.
        let x = Delivery b (answer_buffer s) in
        (reply_short d (demand_1.defined s.card x (rw (f, blank_bytes (min s.buffer most_buffer)))).possible _, e);
    images = λ b f h. (load_short d (load b).0, e);
    authentications = λ b f h. (omega (arith, small d), rw (f, second));
    signatures = λ b f h. (omega (arith, small d), rw (first, f));
  }

  pub line_short : (line : Bytes) → (length (answer_line d s line).text ≤ most_text d) × Lent (answer_line d s line).setup
  line_short = every_request Short d short

pub short_output : ShortOutput
short_output d p e [] = rw (at_end_lem d (kept_line d) p) (omega arith)
short_output d p e (x ∷ b) =
    by_test _ (eqb x line_feed)
    (λ f.
    let line = line_short d p.setup e p.line in
    let rest = short_output d (next_line d p) line.1 b in
    let text = (answer_line d p.setup p.line).text in
    rw (at_feed d (kept_line d) p x b f)
    (omega (arith, length-append text (run d (next_line d p) b).text, line.0, rest)))
    (λ f. rw (at_other d (kept_line d) p x b f) (omega (arith, short_output d (one_more d (kept_line d) p x) e b)))
