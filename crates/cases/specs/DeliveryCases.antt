-- Document 01, "Padding and delivery".
use Rattle.std.specs.Prelude.{ℕ, ◌-◌, true, List, [], ◌∷◌, ◌++◌, length, replicate}
use Rattle.octets.specs.Octets.{Bytes}
use Rattle.pkcs1.specs.Pkcs1.{pad, strip}
use Rattle.rules.specs.Sample.{sample_card, references}
use Rattle.rules.specs.Cases.{shows, refuses, deliver_to, sw, fresh}
use Rattle.cases.specs.Turns.{Fact, ◌is◌, Holds, Run, Turn, ◌⇒◌, from, Shown, marks, record_read, get_response}
use Rattle.cases.specs.Turns.{sending, select_root, block, sample_marks, second_open, at, in_environment, waiting}

-- 256 bytes that stripping takes, with a message: 00 02, non-zero bytes, 00, message. With another start; with n
-- non-zero bytes and then zeros.
abbrev pub starting : ℕ → ℕ → Bytes → Bytes
starting a b message = a ∷ b ∷ (replicate (253 - length message) 0x55 ++ 0x00 ∷ message)

abbrev pub carrying : Bytes → Bytes
carrying = starting 0x00 0x02

abbrev pub non_zero : ℕ → Bytes
non_zero n = 0x00 ∷ 0x02 ∷ (replicate n 0x55 ++ replicate (254 - n) 0x00)

-- A result of n bytes.
abbrev pub result : ℕ → Bytes
result n = replicate n 0x5A

-- Delivery to a job of a kind with a key, an Le and a result, on the sample card.
abbrev pub delivered : ℕ → ℕ → ℕ → List Turn → Run
delivered kind key le turns = from (waiting kind key le sample_card) turns fresh

unfoldable pub deliveries : List Run
deliveries =
    -- length not 256: 6400, for each kind; the job ends, so that a delivery is refused and a command is not
    record {
      card = waiting 1 0x1100 256 sample_card;
      turns =
          deliver_to (result 255) ⇒ sw 0x6400
          ∷ deliver_to (result 256) ⇒ refuses 5
          ∷ select_root ⇒ sw 0x9000
          ∷ [];
      codes = fresh;
    }
    ∷ delivered 2 0x0100 0 (deliver_to (result 257) ⇒ sw 0x6400 ∷ deliver_to (result 256) ⇒ refuses 5 ∷ [])
    ∷ delivered 3 0x1100 256 (deliver_to [] ⇒ sw 0x6400 ∷ get_response 0x00 ⇒ sw 0x6985 ∷ [])
    ∷ delivered 3 0x1100 256 (deliver_to (carrying (0x41 ∷ []) ++ 0x00 ∷ []) ⇒ sw 0x6400 ∷ [])
    -- jobs 1 and 2: the 256 bytes, by the job's Le: 256, 255, 1, none
    ∷ record {
      card = waiting 1 0x1100 256 sample_card;
      turns =
          deliver_to (result 256) ⇒ shows (result 256) 0x9000
          ∷ deliver_to (result 256) ⇒ refuses 5
          ∷ [];
      codes = fresh;
    }
    ∷ delivered 2 0x0100 256 (deliver_to (result 256) ⇒ shows (result 256) 0x9000 ∷ [])
    ∷ delivered 2 0x0100 255 (deliver_to (result 256) ⇒ sw 0x6100 ∷ deliver_to (result 256) ⇒ refuses 5 ∷ [])
    ∷ delivered 2 0x0100 1 (deliver_to (result 256) ⇒ sw 0x6100 ∷ get_response 0x00 ⇒ shows (result 256) 0x9000 ∷ [])
    ∷ delivered 1 0x1100 0 (deliver_to (result 256) ⇒ sw 0x6100 ∷ [])
    -- they are not stripped
    ∷ delivered 1 0x1100 256 (deliver_to (carrying (0x41 ∷ [])) ⇒ shows (carrying (0x41 ∷ [])) 0x9000 ∷ [])
    ∷ delivered 2 0x0100 256 (deliver_to (carrying []) ⇒ shows (carrying []) 0x9000 ∷ [])
    -- job 3: the message likewise, of 1, 2 and 245 bytes
    ∷ record {
      card = waiting 3 0x1100 0 sample_card;
      turns =
          deliver_to (carrying (0x41 ∷ [])) ⇒ sw 0x6101
          ∷ get_response 0x01 ⇒ shows (0x41 ∷ []) 0x9000
          ∷ [];
      codes = fresh;
    }
    ∷ record {
      card = waiting 3 0x1100 1 sample_card;
      turns =
          deliver_to (carrying (0x41 ∷ 0x42 ∷ [])) ⇒ sw 0x6102
          ∷ get_response 0x00 ⇒ shows (0x41 ∷ 0x42 ∷ []) 0x9000
          ∷ [];
      codes = fresh;
    }
    ∷ delivered 3 0x1100 2 (deliver_to (carrying (0x41 ∷ 0x42 ∷ [])) ⇒ shows (0x41 ∷ 0x42 ∷ []) 0x9000 ∷ [])
    ∷ delivered 3 0x1100 256 (deliver_to (carrying (result 245)) ⇒ shows (result 245) 0x9000 ∷ [])
    ∷ delivered 3 0x1100 244 (deliver_to (carrying (result 245)) ⇒ sw 0x61F5 ∷ [])
    -- job 3: zeros in the message are its own
    ∷ record {
      card = waiting 3 0x1100 256 sample_card;
      turns = deliver_to (carrying (0x00 ∷ 0x41 ∷ 0x00 ∷ [])) ⇒ shows (0x00 ∷ 0x41 ∷ 0x00 ∷ []) 0x9000 ∷ [];
      codes = fresh;
    }
    -- job 3: 9000 alone if empty, with Le and without
    ∷ delivered 3 0x1100 256 (deliver_to (carrying []) ⇒ sw 0x9000 ∷ get_response 0x00 ⇒ sw 0x6985 ∷ [])
    ∷ delivered 3 0x1100 0 (deliver_to (carrying []) ⇒ sw 0x9000 ∷ deliver_to (carrying []) ⇒ refuses 5 ∷ [])
    -- job 3: 6A80 if stripping fails; the job ends
    ∷ record {
      card = waiting 3 0x1100 256 sample_card;
      turns =
          deliver_to (starting 0x00 0x01 (0x41 ∷ [])) ⇒ sw 0x6A80
          ∷ deliver_to (carrying []) ⇒ refuses 5
          ∷ [];
      codes = fresh;
    }
    ∷ delivered 3 0x1100 256 (deliver_to (starting 0x01 0x02 (0x41 ∷ [])) ⇒ sw 0x6A80 ∷ [])
    ∷ delivered 3 0x1100 256 (deliver_to (non_zero 7) ⇒ sw 0x6A80 ∷ [])
    ∷ delivered 3 0x1100 256 (deliver_to (non_zero 254) ⇒ sw 0x6A80 ∷ [])
    -- a delivery leaves codes, selection, environment and choices
    ∷ record {
      card = waiting 2 0x0200 0 (at 0xEEEE 0x0033 (in_environment 6 (second_open)));
      turns =
          deliver_to (result 256) ⇒ sw 0x6100
          ∷ sending 0x88 0x00 0x00 (0x41 ∷ []) ⇒ sw 0x6985
          ∷ select_root ⇒ sw 0x9000
          ∷ [];
      codes = marks true true true;
    }
    ∷ record {
      card = waiting 1 0x1100 0 (at 0xEEEE 0x0033 (sample_marks true true true));
      turns =
          deliver_to (result 1) ⇒ sw 0x6400
          ∷ record_read 1 ⇒ shows references 0x9000
          ∷ [];
      codes = marks true true true;
    }
    ∷ []

abbrev pub DeliveriesShown : Type 0
DeliveriesShown = Shown deliveries

-- Padding: its answer, and its buffer afterwards.
unfoldable pub paddings : List (Fact (ℕ × Bytes))
paddings =
    -- the first 256 bytes, and no byte more
    pad [] (replicate 256 0xEE) is (256, 0x00 ∷ 0x01 ∷ (replicate 253 0xFF ++ 0x00 ∷ []))
    ∷ pad (0x41 ∷ 0x42 ∷ []) (replicate 256 0xEE) is (256, block (0x41 ∷ 0x42 ∷ []))
    ∷ pad (replicate 245 0x41) (replicate 258 0xEE) is
    (256, 0x00 ∷ 0x01 ∷ (replicate 8 0xFF ++ 0x00 ∷ (replicate 245 0x41 ++ 0xEE ∷ 0xEE ∷ [])))
    -- n > 245, or the buffer under 256: 0 with nothing written
    ∷ pad (replicate 246 0x41) (replicate 258 0xEE) is (0, replicate 258 0xEE)
    ∷ pad (0x41 ∷ []) (replicate 255 0xEE) is (0, replicate 255 0xEE)
    ∷ pad [] [] is (0, [])
    ∷ []

-- Stripping: where the message starts.
unfoldable pub strippings : List (Fact ℕ)
strippings =
    -- 8 non-zero bytes: 11; 9: 12; 253: 256
    strip (non_zero 8) is 11
    ∷ strip (non_zero 9) is 12
    ∷ strip (non_zero 253) is 256
    -- else 0: 7 of them, none, and no 00 behind 254; another start; 255 and 257 bytes, and none
    ∷ strip (non_zero 7) is 0
    ∷ strip (non_zero 0) is 0
    ∷ strip (non_zero 254) is 0
    ∷ strip (starting 0x01 0x02 (0x41 ∷ [])) is 0
    ∷ strip (starting 0x00 0x01 (0x41 ∷ [])) is 0
    ∷ strip (starting 0x02 0x00 (0x41 ∷ [])) is 0
    ∷ strip (0x00 ∷ 0x02 ∷ (replicate 8 0x55 ++ replicate 245 0x00)) is 0
    ∷ strip (non_zero 8 ++ 0x00 ∷ []) is 0
    ∷ strip [] is 0
    ∷ []

pub record PaddingShown : Type 0 where
  pub padded : Holds paddings
  pub stripped : Holds strippings
