-- Laws of a line's answer: the buffer of its call, and what is lent after it.
use mathlib.Core.Path.{◌≡◌, ap, ◌∙◌}
use Prim.Native.Nat.{ℕ, ◌≤◌, min}
use native.Mathlib.Omega.{arith}
use lib.ListN.{length, take, length-take}
use lib.Seq.{take_all}
use Rattle.octets.specs.Octets.{Bytes, blank}
use Rattle.octets.proofs.Pasting.{take_pasted, pasted_own}
use Rattle.rules.specs.declared.Card.{Card}
use Rattle.rules.specs.Numbers.{Wrote}
use Rattle.rules.specs.Edge.{Result}
use Rattle.writing.specs.Puts.{Put}
use Rattle.requests.specs.declared.Dialect.{Dialect}
use Rattle.lines.specs.declared.kept.Kept.{Kept}
use Rattle.lines.specs.declared.Terminal.{Terminal}
use Rattle.lines.specs.Rooms.{held, held_over}
use Rattle.lines.specs.Lines.{LineAnswer, with_card, call_answer, saved_answer}
use Rattle.lines.specs.Terminals.{setup_of, Lends, Answers}
use Rattle.lines.proofs.Rooms.{take_blank}

-- The answer buffer of a call is the front of a room of zeros.
pub call_buffer : (size : ℕ) {n : ℕ} {space : Bytes} → space ≡ blank 4096 → n ≡ min size 4096 → take n space ≡ blank (min size 4096)
call_buffer size e f = rw (e, f) (take_blank (min size 4096) 4096 (omega arith))

-- A string held over its own room, and another after it.
held_again : (k : Kept 2048) → held (held_over k (held k)) ≡ held k
held_again k = take_pasted k.bytes (held k) (omega (arith, length-take k.len k.bytes))

over_again : (k : Kept 2048) (b : Bytes) → held_over (held_over k (held k)) b ≡ held_over k b
over_again k b = rw (pasted_own k.bytes k.len)

-- A terminal whose lengths are within their rooms, and what it becomes.
module _ (t : Terminal) {a s : Kept 2048} (ea : a ≡ held_over t.authentication (held t.authentication)) (es : s ≡ held_over t.signature (held t.signature)) where
  pub held_a : held a ≡ held t.authentication
  held_a = ap held ea ∙ held_again t.authentication

  pub held_s : held s ≡ held t.signature
  held_s = ap held es ∙ held_again t.signature

  fits_a : length (held t.authentication) ≤ length t.authentication.bytes
  fits_a = omega (arith, length-take t.authentication.len t.authentication.bytes)

  fits_s : length (held t.signature) ≤ length t.signature.bytes
  fits_s = omega (arith, length-take t.signature.len t.signature.bytes)

  -- A line that changes the card alone.
  pub card_changed : (c : Card) → Lends (with_card (setup_of t) c) t (record { card = c; authentication = a; signature = s; buffer = t.buffer })
  card_changed c = record { terminal = rw (ea, es); fits = (fits_a, fits_s) }

  pub called : (d : Dialect) {x y : Result} → x ≡ y → {before after : Bytes} {at end : ℕ} → Put before at (call_answer d x).text after end
      → Answers (record { setup = with_card (setup_of t) y.card; text = (call_answer d y).text }) t before at (record { card = x.card; authentication = a; signature = s; buffer = t.buffer }) after end
  called d {x} e p = rw (← e) (record { lent = card_changed x.card; line = p })

  pub saved : {x y : Wrote × Bytes} → x ≡ y → {before after : Bytes} {at end : ℕ} → Put before at (saved_answer t.card x).text after end
      → Answers (record { setup = setup_of t; text = (saved_answer t.card y).text }) t before at (record { card = t.card; authentication = a; signature = s; buffer = t.buffer }) after end
  saved e p = rw (← e) (record { lent = card_changed t.card; line = p })

  -- One that sets the buffer.
  pub buffer_changed : (n : ℕ) → Lends (record { card = t.card; authentication = held t.authentication; signature = held t.signature; buffer = n }) t
      (record { card = t.card; authentication = a; signature = s; buffer = n })
  buffer_changed n = record { terminal = rw (ea, es); fits = (fits_a, fits_s) }

  -- One that lends another certificate, which stands at the front of a room of the same size.
  module _ (n : ℕ) (room : Bytes) (size : length room ≡ 2048) {b : Bytes} (e : b ≡ take n room) where
    whole : take 2048 b ≡ take n room
    whole = rw e (take_all 2048 (take n room) (omega (arith, length-take n room)))

    pub authentication_lent : length t.authentication.bytes ≡ 2048 → {new : Kept 2048} → new ≡ held_over a (take 2048 b)
        → Lends (record { card = t.card; authentication = take n room; signature = held t.signature; buffer = t.buffer }) t
        (record { card = t.card; authentication = new; signature = s; buffer = t.buffer })
    authentication_lent h {new} w =
        let all : new ≡ held_over t.authentication (take n room) = w ∙ rw (ea, whole) (over_again t.authentication (take n room)) in
        record { terminal = rw (all, es); fits = (omega (arith, length-take n room), fits_s) }

    pub signature_lent : length t.signature.bytes ≡ 2048 → {new : Kept 2048} → new ≡ held_over s (take 2048 b)
        → Lends (record { card = t.card; authentication = held t.authentication; signature = take n room; buffer = t.buffer }) t
        (record { card = t.card; authentication = a; signature = new; buffer = t.buffer })
    signature_lent h {new} w =
        let all : new ≡ held_over t.signature (take n room) = w ∙ rw (es, whole) (over_again t.signature (take n room)) in
        record { terminal = rw (ea, all); fits = (fits_a, omega (arith, length-take n room)) }

-- The setup as the code holds it after a line.
pub setup_read : {x : LineAnswer} {t next : Terminal} {before after : Bytes} {at end : ℕ} → Answers x t before at next after end → setup_of next ≡ x.setup
setup_read {x} {t} w =
    let l = w.lent in
    rw (l.terminal, take_pasted t.authentication.bytes x.setup.authentication l.fits.0, take_pasted t.signature.bytes x.setup.signature l.fits.1)
