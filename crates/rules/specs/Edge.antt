-- Document 01, "The edge": the calls command, delivery and power reset, and what they write. "Edge refusal" is document 01's term
-- for a refusal by the card's interface itself, before any rule of the card is applied.
use Rattle.std.specs.Prelude.{ℕ, ◌+◌, ◌/◌, ◌%◌, Bool, cond, not, ◌||◌, ◌∷◌, ◌++◌, length, drop, eqb, ltb}
use Rattle.octets.specs.Octets.{Bytes}
use Rattle.rules.specs.declared.Card.{Card}
use Rattle.rules.specs.Numbers.{Returned, edge, responded, handed_out, was_reset}
use Rattle.rules.specs.Codes.{PUK, PIN1, PIN2, closed}
use Rattle.rules.specs.Session.{new_session}
use Rattle.rules.specs.State.{good}
use Rattle.rules.specs.Answers.{Answer, response, job, Step, in_session}
use Rattle.rules.specs.Judgement.{judge}
use Rattle.rules.specs.Delivery.{deliver}

-- What a call gives: what it returns, the next card, and the buffer as it leaves it.
pub record Result : Type 0 where
  pub returned : Returned
  pub card : Card
  pub buffer : Bytes

-- An edge refusal: state and buffer stay.
abbrev pub refuse : Card → Bytes → ℕ → Result
refuse c buffer n = record { returned = edge n; card = c; buffer = buffer }

-- The data, then two status bytes, and no byte more.
unfoldable pub response_in : Bytes → Bytes → ℕ → Bytes
response_in buffer d sw = d ++ ((sw / 256) ∷ (sw % 256) ∷ drop (length d + 2) buffer)

-- A response writes its data, then two status bytes, and returns its length. A job writes its block and returns kind and key.
unfoldable pub written : Bytes → Card → Answer → Result
written buffer c (response d sw) = record { returned = responded (length d + 2); card = c; buffer = response_in buffer d sw }
written buffer c (job kind key block) =
    record { returned = handed_out kind key; card = c; buffer = block ++ drop (length block) buffer }

-- The card after a step. No call changes the rest of the card.
abbrev pub card_after : Card → Step → Card
card_after c o = record { codes = o.codes; counts = o.counts; profile = c.profile; session = o.session }

abbrev pub answered : Bytes → Card → Step → Result
answered buffer c o = written buffer (card_after c o) o.answer

-- Edge refusal 2: buffer under 258 bytes.
abbrev pub short_buffer : Bytes → Bool
short_buffer buffer = ltb (length buffer) 258

-- Edge refusal 3: a certificate empty or over 1,536 bytes.
abbrev pub bad_certificate : Bytes → Bool
bad_certificate certificate = eqb (length certificate) 0 || ltb 1536 (length certificate)

-- Edge refusals 4 and 5: whether a job waits.
abbrev pub job_waits : Card → Bool
job_waits c = not (eqb c.session.job.kind 0)

-- A command: the card, its bytes, the authentication and the signature certificate, and the buffer.
unfoldable pub command : Card → Bytes → Bytes → Bytes → Bytes → Result
command c apdu authentication signature buffer =
    cond (not (good c)) (refuse c buffer 1)
    (cond (short_buffer buffer) (refuse c buffer 2)
    (cond (bad_certificate authentication || bad_certificate signature) (refuse c buffer 3)
    (cond (job_waits c) (refuse c buffer 4)
    (answered buffer c (judge c apdu authentication signature)))))

-- A delivery: the card, the key host's result, and the buffer.
unfoldable pub delivery : Card → Bytes → Bytes → Result
delivery c result buffer =
    cond (not (good c)) (refuse c buffer 1)
    (cond (short_buffer buffer) (refuse c buffer 2)
    (cond (not (job_waits c)) (refuse c buffer 5)
    (answered buffer c (in_session c.codes c.counts (deliver c.session result)))))

-- A power reset, which has no buffer. Marks off and a new session; code values, tries and unblocking counts are kept.
unfoldable pub power_reset : Card → Returned × Card
power_reset c =
    cond (not (good c)) (edge 1, c) (
      was_reset,
      record {
        codes = closed (closed (closed c.codes PUK) PIN1) PIN2;
        counts = c.counts;
        profile = c.profile;
        session = new_session;
      },
    )
