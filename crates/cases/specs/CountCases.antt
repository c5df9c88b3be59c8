-- Document 01, "What demand 3 counts": what counts of the calls' bytes and what the calls wrote and returned, and what
-- does not.
use Rattle.std.specs.Prelude.{ℕ, ◌≡◌, List, [], ◌∷◌, ◌++◌, map, take, replicate}
use Rattle.octets.specs.Octets.{Bytes}
use Rattle.rules.specs.Numbers.{edge, responded, handed_out, was_reset}
use Rattle.rules.specs.Codes.{PUK, PIN1, PIN2}
use Rattle.rules.specs.Counting.{Call, PowerReset, Exchange, wrong_answers, restorations, unblockings}
use Rattle.rules.specs.Counting.{pin2_presentations, pin2_changes, signatures, tries_at_load, count_at_load}
use Rattle.rules.specs.Sample.{sample_image}
use Rattle.rules.specs.Cases.{deliver_to, verify_of, sign_sha1, send}
use Rattle.cases.specs.SecondCard.{second_image}
use Rattle.cases.specs.Turns.{bare, with_le, sending, sending_with_le, fives}

-- A call that was answered by a status word alone; that handed out a job; that the edge refused, with what stood in its
-- buffer.
abbrev pub answered : Call → ℕ → ℕ → Exchange
answered x high low = record { call = x; returned = responded 2; buffer = high ∷ low ∷ [] }

abbrev pub handed : Call → ℕ → Exchange
handed x kind = record { call = x; returned = handed_out kind 0x0100; buffer = [] }

abbrev pub refused_with : Call → Bytes → Exchange
refused_with x d = record { call = x; returned = edge 2; buffer = d }

-- The counts: wrong answers and restorations of PUK, PIN1 and PIN2, unblockings of PIN1 and PIN2, right presentations
-- of PIN2 by VERIFY, successful CHANGEs of PIN2, signatures.
abbrev pub counts : List Exchange → List ℕ
counts t =
    wrong_answers PUK t
    ∷ wrong_answers PIN1 t
    ∷ wrong_answers PIN2 t
    ∷ restorations PUK t
    ∷ restorations PIN1 t
    ∷ restorations PIN2 t
    ∷ unblockings PIN1 t
    ∷ unblockings PIN2 t
    ∷ pin2_presentations t
    ∷ pin2_changes t
    ∷ signatures t
    ∷ []

-- A VERIFY, a CHANGE, and the two forms of a 2C, for the code that P2 names.
abbrev pub verifying : ℕ → Call
verifying k = verify_of k (fives 4)

abbrev pub changing : ℕ → Call
changing k = sending 0x24 0x00 k (fives 8)

abbrev pub presenting : ℕ → Call
presenting k = sending 0x2C 0x00 k (fives 12)

abbrev pub unblocking : ℕ → Call
unblocking k = bare 0x2C 0x03 k

-- Exchanges, and what they count.
pub record Tally : Type 0 where
  pub exchanges : List Exchange
  pub are : List ℕ

unfoldable pub tallies : List Tally
tallies =
    -- a wrong answer is 63Cx to a VERIFY with data or a CHANGE, for the code P2 names
    record {
      exchanges =
          answered (verifying PUK) 0x63 0xC2
          ∷ answered (changing PIN1) 0x63 0xC0
          ∷ answered (verifying PIN2) 0x63 0xCF
          ∷ answered (sending 0x20 0x00 PIN2 (fives 1)) 0x63 0xC1
          ∷ [];
      are = 1 ∷ 1 ∷ 2 ∷ 0 ∷ 0 ∷ 0 ∷ 0 ∷ 0 ∷ 0 ∷ 0 ∷ 0 ∷ [];
    }
    -- or to a 2C with P1 00, for PUK
    ∷ record {
      exchanges = answered (presenting PIN1) 0x63 0xC2 ∷ answered (presenting PIN2) 0x63 0xC1 ∷ [];
      are = 2 ∷ 0 ∷ 0 ∷ 0 ∷ 0 ∷ 0 ∷ 0 ∷ 0 ∷ 0 ∷ 0 ∷ 0 ∷ [];
    }
    -- 6983, 6A80, 63BF and 63D0 are none
    ∷ record {
      exchanges =
          answered (verifying PIN1) 0x69 0x83
          ∷ answered (changing PIN1) 0x6A 0x80
          ∷ answered (verifying PIN1) 0x63 0xBF
          ∷ answered (verifying PIN1) 0x63 0xD0
          ∷ [];
      are = replicate 11 0;
    }
    -- a restoration is 9000 to them; of PIN2 by VERIFY it is a right presentation, by CHANGE a successful CHANGE (02, wish 4)
    ∷ record {
      exchanges =
          answered (verifying PUK) 0x90 0x00
          ∷ answered (changing PIN1) 0x90 0x00
          ∷ answered (verifying PIN2) 0x90 0x00
          ∷ answered (changing PIN2) 0x90 0x00
          ∷ [];
      are = 0 ∷ 0 ∷ 0 ∷ 1 ∷ 1 ∷ 2 ∷ 0 ∷ 0 ∷ 1 ∷ 1 ∷ 0 ∷ [];
    }
    -- a CHANGE of PIN2 is counted whatever its data; not one that was refused, nor one of PIN1 or PUK, nor a 2C for PIN2
    ∷ record {
      exchanges =
          answered (sending 0x24 0x00 PIN2 (fives 10)) 0x90 0x00
          ∷ answered (sending 0x24 0x00 PIN2 (fives 24)) 0x90 0x00
          ∷ answered (changing PIN2) 0x63 0xC2
          ∷ answered (changing PIN2) 0x6A 0x80
          ∷ answered (changing PIN2) 0x69 0x83
          ∷ answered (changing PUK) 0x90 0x00
          ∷ answered (changing PIN1) 0x90 0x00
          ∷ answered (unblocking PIN2) 0x90 0x00
          ∷ refused_with (changing PIN2) (0x90 ∷ 0x00 ∷ [])
          ∷ answered (deliver_to (0x00 ∷ 0x24 ∷ 0x00 ∷ PIN2 ∷ 0x0A ∷ fives 10)) 0x90 0x00
          ∷ [];
      are = 0 ∷ 0 ∷ 1 ∷ 1 ∷ 1 ∷ 2 ∷ 0 ∷ 1 ∷ 0 ∷ 2 ∷ 0 ∷ [];
    }
    -- with Le as without
    ∷ record {
      exchanges =
          answered (sending_with_le 0x20 0x00 PIN2 (fives 5) 0x00) 0x90 0x00
          ∷ answered (sending_with_le 0x24 0x00 PIN2 (fives 10) 0x02) 0x90 0x00
          ∷ answered (with_le 0x2C 0x03 PIN1 0x00) 0x90 0x00
          ∷ answered (sending_with_le 0x2C 0x00 PIN2 (fives 13) 0xFF) 0x90 0x00
          ∷ answered (sending_with_le 0x20 0x00 PIN1 (fives 4) 0x00) 0x63 0xC1
          ∷ answered (sending_with_le 0x24 0x00 PUK (fives 16) 0x00) 0x63 0xC0
          ∷ answered (sending_with_le 0x2C 0x00 PIN1 (fives 12) 0x00) 0x63 0xC2
          ∷ [];
      are = 2 ∷ 1 ∷ 0 ∷ 1 ∷ 0 ∷ 2 ∷ 1 ∷ 1 ∷ 1 ∷ 1 ∷ 0 ∷ [];
    }
    -- an unblocking is 9000 to a 2C, P1 00 or 03, for the PIN P2 names; with P1 00 it restores PUK too
    ∷ record {
      exchanges =
          answered (presenting PIN1) 0x90 0x00
          ∷ answered (unblocking PIN2) 0x90 0x00
          ∷ answered (unblocking PIN1) 0x69 0x82
          ∷ [];
      are = 0 ∷ 0 ∷ 0 ∷ 1 ∷ 0 ∷ 0 ∷ 1 ∷ 1 ∷ 0 ∷ 0 ∷ 0 ∷ [];
    }
    -- a signature is a job of kind 2 that a command returned; jobs 1 and 3, and a delivery, are none
    ∷ record {
      exchanges =
          handed sign_sha1 2
          ∷ handed sign_sha1 2
          ∷ handed sign_sha1 1
          ∷ handed sign_sha1 3
          ∷ handed (deliver_to []) 2
          ∷ answered sign_sha1 0x69 0x82
          ∷ [];
      are = 0 ∷ 0 ∷ 0 ∷ 0 ∷ 0 ∷ 0 ∷ 0 ∷ 0 ∷ 0 ∷ 0 ∷ 2 ∷ [];
    }
    -- nothing else counts: a VERIFY without data; 9000 to other commands, to an empty one, and to a delivery of the
    -- bytes of a VERIFY; a reset
    ∷ record {
      exchanges =
          answered (bare 0x20 0x00 PIN2) 0x90 0x00
          ∷ answered (bare 0x20 0x00 PIN2) 0x63 0xC2
          ∷ answered (bare 0xA4 0x00 0x0C) 0x90 0x00
          ∷ answered (sending 0x22 0x41 0xA4 (0x83 ∷ 0x00 ∷ [])) 0x90 0x00
          ∷ answered (deliver_to (0x00 ∷ 0x20 ∷ 0x00 ∷ PIN2 ∷ 0x05 ∷ fives 5)) 0x90 0x00
          ∷ answered (send []) 0x90 0x00
          ∷ record { call = PowerReset; returned = was_reset; buffer = [] }
          ∷ [];
      are = replicate 11 0;
    }
    -- and no call the edge refuses, whatever stands in its buffer
    ∷ record {
      exchanges =
          refused_with (verifying PIN2) (0x90 ∷ 0x00 ∷ []) ∷ refused_with (changing PIN1) (0x63 ∷ 0xC2 ∷ []) ∷ [];
      are = replicate 11 0;
    }
    ∷ []

pub record CountsShown : Type 0 where
  pub counts : map (λ t. counts t.exchanges) tallies ≡ map (λ t. t.are) tallies
  -- tries at load are the image's
  pub tries :
      map (tries_at_load sample_image) (PUK ∷ PIN1 ∷ PIN2 ∷ []) ++ map (tries_at_load second_image) (PUK ∷ PIN1 ∷ PIN2 ∷ [])
      ≡ 3 ∷ 3 ∷ 3 ∷ 3 ∷ 2 ∷ 1 ∷ []
  -- so are unblocking counts at load; A5h where there is no section (02, wish 6)
  pub limits :
      map (λ image. count_at_load image PIN1 ∷ count_at_load image PIN2 ∷ [])
      (sample_image ∷ second_image ∷ take 624 second_image ∷ (sample_image ++ 2 ∷ 0 ∷ 0xA5 ∷ []) ∷ (sample_image ++ 2 ∷ 0xA4 ∷ 0 ∷ []) ∷ [])
      ≡ (0xA5 ∷ 0xA5 ∷ []) ∷ (5 ∷ 1 ∷ []) ∷ (0xA5 ∷ 0xA5 ∷ []) ∷ (0 ∷ 0xA5 ∷ []) ∷ (0xA4 ∷ 0 ∷ []) ∷ []
