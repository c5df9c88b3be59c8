-- Document 01, "The edge": the refusals and their order, what a call writes, and what a power reset gives.
use Rattle.std.specs.Prelude.{ℕ, ◌≡◌, true, false, List, [], ◌∷◌, ◌++◌, map, replicate}
use Rattle.octets.specs.Octets.{Bytes}
use Rattle.rules.specs.declared.Card.{Card}
use Rattle.rules.specs.declared.Session.{Session}
use Rattle.rules.specs.Numbers.{Returned, edge, responded, handed_out, was_reset}
use Rattle.rules.specs.Codes.{PUK, PIN1}
use Rattle.rules.specs.Session.{new_session, with_environment, with_held}
use Rattle.rules.specs.Image.{zero_card, load}
use Rattle.rules.specs.Edge.{power_reset}
use Rattle.rules.specs.Counting.{Call, Command, Delivery, PowerReset, step, next}
use Rattle.rules.specs.Sample.{sample_card, sample_image, puk, pin1}
use Rattle.rules.specs.Cases.{shows, refuses, is_reset, buffer, send, deliver_to, verify_of, decipher_part, sw, fresh}
use Rattle.cases.specs.Turns.{Fact, ◌is◌, Holds, Run, ◌⇒◌, from, Shown, tries, get_response, sending, select_root}
use Rattle.cases.specs.Turns.{block, with_session, sample_tries, sample_marks, second_tries, second_open, at}
use Rattle.cases.specs.Turns.{chained, waiting}

-- A certificate of n bytes; an empty command with two certificates and a buffer of some lengths.
abbrev pub certificate : ℕ → Bytes
certificate n = replicate n 0x30

abbrev pub empty : ℕ → ℕ → ℕ → Call
empty a b n = Command [] (certificate a) (certificate b) (replicate n 0xEE)

unfoldable pub edges : List Run
edges =
    -- 1, before all others, in every call
    from zero_card (empty 0 0 0 ⇒ refuses 1 ∷ Delivery [] [] ⇒ refuses 1 ∷ PowerReset ⇒ refuses 1 ∷ []) (tries 0 0 0)
    -- 2: buffer under 258 bytes, before 3 and 5; 258 and more are enough
    ∷ record {
      card = sample_card;
      turns =
          empty 0 0 257 ⇒ refuses 2
          ∷ empty 1 1 257 ⇒ refuses 2
          ∷ empty 1 1 0 ⇒ refuses 2
          ∷ Delivery [] (replicate 257 0xEE) ⇒ refuses 2
          ∷ empty 1 1 258 ⇒ sw 0x6700
          ∷ empty 1 1 600 ⇒ sw 0x6700
          ∷ [];
      codes = fresh;
    }
    -- 3: a certificate empty or over 1,536 bytes, either of the two, for any command; 1 and 1,536 are not
    ∷ record {
      card = sample_card;
      turns =
          empty 0 1 258 ⇒ refuses 3
          ∷ empty 1 0 258 ⇒ refuses 3
          ∷ empty 1537 1 258 ⇒ refuses 3
          ∷ empty 1 1537 258 ⇒ refuses 3
          ∷ empty 1536 1536 258 ⇒ sw 0x6700
          ∷ [];
      codes = fresh;
    }
    -- 4: command while a job waits, after 2 and 3; the job waits on. 5 not then
    ∷ record {
      card = waiting 2 0x0100 256 sample_card;
      turns =
          empty 0 0 257 ⇒ refuses 2
          ∷ empty 0 1 258 ⇒ refuses 3
          ∷ send [] ⇒ refuses 4
          ∷ select_root ⇒ refuses 4
          ∷ Delivery [] (replicate 257 0xEE) ⇒ refuses 2
          ∷ deliver_to (replicate 256 0x5A) ⇒ shows (replicate 256 0x5A) 0x9000
          ∷ [];
      codes = fresh;
    }
    -- 5: delivery with no job waiting, for any result
    ∷ from sample_card (deliver_to [] ⇒ refuses 5 ∷ deliver_to (replicate 256 0x5A) ⇒ refuses 5 ∷ []) fresh
    -- the edge's refusals drop nothing: the held answer and the chain are there afterwards
    ∷ record {
      card = with_session sample_card (with_held new_session (0x41 ∷ 0x42 ∷ []));
      turns =
          empty 1 1 257 ⇒ refuses 2
          ∷ empty 0 1 258 ⇒ refuses 3
          ∷ deliver_to [] ⇒ refuses 5
          ∷ get_response 0x00 ⇒ shows (0x41 ∷ 0x42 ∷ []) 0x9000
          ∷ [];
      codes = fresh;
    }
    ∷ record {
      card = chained 255 sample_card;
      turns =
          empty 1 1 257 ⇒ refuses 2
          ∷ empty 0 1 258 ⇒ refuses 3
          ∷ deliver_to [] ⇒ refuses 5
          ∷ decipher_part 0x00 2 ⇒ sw 0x6985
          ∷ [];
      codes = fresh;
    }
    -- a reset ends the job, for a delivery and for a command
    ∷ record {
      card = waiting 2 0x0100 256 sample_card;
      turns =
          PowerReset ⇒ is_reset
          ∷ deliver_to [] ⇒ refuses 5
          ∷ select_root ⇒ sw 0x9000
          ∷ [];
      codes = fresh;
    }
    -- a reset: marks off, tries and values kept
    ∷ record {
      card = sample_tries 1 0 2;
      turns =
          PowerReset ⇒ is_reset
          ∷ verify_of PUK puk ⇒ sw 0x9000
          ∷ verify_of PIN1 pin1 ⇒ sw 0x6983
          ∷ PowerReset ⇒ is_reset
          ∷ [];
      codes = tries 3 0 2;
    }
    ∷ []

abbrev pub EdgeShown : Type 0
EdgeShown = Shown edges

-- The second card with all of a session in use but a job.
abbrev pub in_use : Card
in_use =
    let s = (chained 200 (at 0xEEEE 0x5044 second_open)).session in
    with_session second_open (with_held (with_environment s 6 (0x1100 ∷ 0x0100 ∷ 0x1100 ∷ [])) (replicate 200 0x77))

-- The second card with 3 tries each, as load or a reset gives it.
abbrev pub second_fresh : Card
second_fresh = second_tries 3 3 3

-- What a call returns, and the buffer afterwards.
pub record Written : Type 0 where
  pub returned : Returned
  pub buffer : Bytes

abbrev pub wrote : Returned → Bytes → Written
wrote r b = record { returned = r; buffer = b }

abbrev pub written_by : Card → Call → Written
written_by c x = wrote (step c x).returned (step c x).buffer

-- READ RECORD 1 with a buffer of 260 bytes.
abbrev pub read_first : Call
read_first = Command (0x00 ∷ 0xB2 ∷ 0x01 ∷ 0x04 ∷ 0x00 ∷ []) (0x30 ∷ []) (0x30 ∷ []) (replicate 260 0xEE)

unfoldable pub writing : List (Fact Written)
writing =
    -- a response writes its data, then two status bytes, and no byte more, and returns its length
    written_by sample_card select_root is wrote (responded 2) (0x90 ∷ 0x00 ∷ replicate 256 0xEE)
    ∷ written_by (at 0xEEEE 0x5044 sample_card) read_first is
    wrote (responded 3) (0x20 ∷ 0x90 ∷ 0x00 ∷ replicate 257 0xEE)
    ∷ written_by (waiting 1 0x1100 256 sample_card) (Delivery (replicate 256 0x5A) (replicate 260 0xEE)) is
    wrote (responded 258) (replicate 256 0x5A ++ 0x90 ∷ 0x00 ∷ 0xEE ∷ 0xEE ∷ [])
    ∷ written_by (waiting 1 0x1100 0 sample_card) (deliver_to (replicate 256 0x5A)) is
    wrote (responded 2) (0x61 ∷ 0x00 ∷ replicate 256 0xEE)
    -- a job writes 256 bytes and returns kind and key
    ∷ written_by (sample_marks false true false) (sending 0x88 0x00 0x00 (0x41 ∷ [])) is
    wrote (handed_out 1 0x1100) (block (0x41 ∷ []) ++ 0xEE ∷ 0xEE ∷ [])
    -- a refusal writes nothing
    ∷ written_by sample_card (Command [] (0x30 ∷ []) (0x30 ∷ []) (0xEE ∷ [])) is wrote (edge 2) (0xEE ∷ [])
    ∷ written_by sample_card (Command [] [] (0x30 ∷ []) buffer) is wrote (edge 3) (replicate 258 0xEE)
    ∷ written_by (waiting 1 0x1100 256 sample_card) (send []) is wrote (edge 4) (replicate 258 0xEE)
    ∷ written_by sample_card (deliver_to []) is wrote (edge 5) (replicate 258 0xEE)
    ∷ written_by zero_card (send []) is wrote (edge 1) (replicate 258 0xEE)
    ∷ []

-- The session that load and a power reset give, written out: root, no file, environment 1, choices at "active", the
-- rest empty.
abbrev pub fresh_session : Session
fresh_session =
    record {
      selection = record { directory = 0x3F00; file = 0 };
      environment = record { number = 1; choices = 0 ∷ 0 ∷ 0 ∷ [] };
      held = record { bytes = replicate 256 0x00; len = 0 };
      chain = record { bytes = replicate 258 0x00; len = 0 };
      job = record { kind = 0; key = 0; le = 0 };
    }

pub record WrittenShown : Type 0 where
  pub written : Holds writing
  -- load and a reset give this session; a reset puts marks off, and keeps code values and tries
  pub loads : (load sample_image).1.session ≡ fresh_session
  pub resets : (power_reset in_use).1.session ≡ fresh_session
  pub reset : power_reset in_use ≡ (was_reset, second_fresh)
  pub reset_with_job : power_reset (waiting 2 0x0100 256 sample_card) ≡ (was_reset, sample_card)
  -- a refusal leaves the state as it was
  pub stays :
      map (next in_use) (empty 1 1 257 ∷ empty 0 1 258 ∷ deliver_to [] ∷ []) ≡ in_use ∷ in_use ∷ in_use ∷ []
  pub stays_waiting :
      map (next (waiting 2 0x0100 256 sample_card)) (send [] ∷ Delivery [] [] ∷ [])
      ≡ waiting 2 0x0100 256 sample_card ∷ waiting 2 0x0100 256 sample_card ∷ []
