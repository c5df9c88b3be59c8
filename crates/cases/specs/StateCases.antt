-- Document 01, "The edge": for each clause of the good state, states that are bad by that clause alone; and good
-- states, at the boundaries and beyond what calls reach.
use Rattle.std.specs.Prelude.{ℕ, ◌-◌, ◌≡◌, Bool, true, false, List, [], ◌∷◌, ◌++◌, map, length, take, replicate, set}
use Rattle.octets.specs.Octets.{Bytes}
use Rattle.rules.specs.declared.Card.{Card}
use Rattle.rules.specs.declared.Code.{Code}
use Rattle.rules.specs.declared.Profile.{Profile}
use Rattle.rules.specs.declared.Record.{Record}
use Rattle.rules.specs.declared.Session.{Session}
use Rattle.rules.specs.Numbers.{Returned, edge, responded, was_reset}
use Rattle.rules.specs.Session.{new_session, with_environment, with_held, with_job}
use Rattle.rules.specs.Counting.{PowerReset, step}
use Rattle.rules.specs.Sample.{sample_card, references}
use Rattle.rules.specs.Cases.{with_counts, send, deliver_to}
use Rattle.cases.specs.SecondCard.{second_card}
use Rattle.cases.specs.Turns.{fives, nines, counted, with_session, with_codes, second_open, at, in_environment, chained}
use Rattle.cases.specs.Turns.{waiting}

-- What an empty command, an empty delivery and a reset return.
abbrev pub returns : Card → List Returned
returns c = map (λ x. (step c x).returned) (send [] ∷ deliver_to [] ∷ PowerReset ∷ [])

-- n zeros.
abbrev pub zeros : ℕ → Bytes
zeros n = replicate n 0x00

-- The sample card with one part replaced.
abbrev pub with_puk : Code → Card
with_puk v = with_codes sample_card (set sample_card.codes 0 v)

abbrev pub with_pin1 : Code → Card
with_pin1 v = with_codes sample_card (set sample_card.codes 1 v)

abbrev pub with_pin2 : Code → Card
with_pin2 v = with_codes sample_card (set sample_card.codes 2 v)

abbrev pub with_profile : Profile → Card
with_profile p = record { codes = sample_card.codes; counts = sample_card.counts; profile = p; session = sample_card.session }

abbrev pub profile_of : List Bool → Bytes → List Record → Profile
profile_of keys d personal = record { keys = keys; references = d; personal = personal }

abbrev pub with_references : Bytes → Card
with_references d = with_profile (profile_of sample_card.profile.keys d sample_card.profile.personal)

abbrev pub with_record : ℕ → Record → Card
with_record n r =
    with_profile (profile_of sample_card.profile.keys references (set sample_card.profile.personal (n - 1) r))

abbrev pub sample_session : Session → Card
sample_session = with_session sample_card

abbrev pub sample_choices : ℕ → List ℕ → Card
sample_choices n choices = sample_session (with_environment new_session n choices)

abbrev pub sample_held : Bytes → ℕ → Card
sample_held d n =
    sample_session (record {
      selection = new_session.selection;
      environment = new_session.environment;
      held = record { bytes = d; len = n };
      chain = new_session.chain;
      job = new_session.job;
    })

abbrev pub sample_chain : Bytes → ℕ → Card
sample_chain d n =
    sample_session (record {
      selection = new_session.selection;
      environment = new_session.environment;
      held = new_session.held;
      chain = record { bytes = d; len = n };
      job = new_session.job;
    })

abbrev pub sample_job : ℕ → ℕ → ℕ → Card
sample_job kind key le = waiting kind key le sample_card

-- The record of 0033h that names an authentication and a signature key.
abbrev pub naming : ℕ → ℕ → Bytes
naming a b = zeros 9 ++ a ∷ 0x00 ∷ (zeros 8 ++ b ∷ 0x00 ∷ [])

-- A code by its 12 places, its length, tries and mark.
abbrev pub code_with : Bytes → ℕ → ℕ → Bool → Code
code_with d n t verified = record { digits = d; len = n; tries = t; verified = verified }

-- Codes of least length n, each bad by one clause.
abbrev pub bad_codes : ℕ → List Code
bad_codes n =
    -- an array of 11, of 13
    code_with (fives n ++ zeros (11 - n)) n 3 false
    ∷ code_with (fives n ++ zeros (13 - n)) n 3 false
    -- more than 12 digits, less than the least
    ∷ code_with (fives 12) 13 3 false
    ∷ code_with (fives (n - 1) ++ zeros (13 - n)) (n - 1) 3 false
    -- an unused place that is not zero, the first and the last
    ∷ code_with (fives n ++ 0x35 ∷ zeros (11 - n)) n 3 false
    ∷ code_with (fives n ++ (zeros (11 - n) ++ 0x01 ∷ [])) n 3 false
    -- no digits: 2Fh in the first place, 3Ah in the last
    ∷ code_with (0x2F ∷ (fives (n - 1) ++ zeros (12 - n))) n 3 false
    ∷ code_with (fives (n - 1) ++ 0x3A ∷ zeros (12 - n)) n 3 false
    -- 4 tries
    ∷ code_with (fives n ++ zeros (12 - n)) n 4 false
    -- verified with 2, 1 and 0 tries
    ∷ code_with (fives n ++ zeros (12 - n)) n 2 true
    ∷ code_with (fives n ++ zeros (12 - n)) n 1 true
    ∷ code_with (fives n ++ zeros (12 - n)) n 0 true
    ∷ []

-- Codes of least length n that are good: both ends of length, digits and tries, and the mark.
abbrev pub allowed_codes : ℕ → List Code
allowed_codes n =
    code_with (replicate n 0x30 ++ zeros (12 - n)) n 3 true
    ∷ code_with (nines 12) 12 0 false
    ∷ code_with (nines n ++ zeros (12 - n)) n 1 false
    ∷ []

-- Personal records that are bad: no byte; an array of 63, of 65; more than 64 bytes; an unused place that is not zero,
-- the first and the last.
abbrev pub bad_records : List Record
bad_records =
    record { bytes = zeros 64; len = 0 }
    ∷ record { bytes = zeros 63; len = 1 }
    ∷ record { bytes = zeros 65; len = 1 }
    ∷ record { bytes = fives 64; len = 65 }
    ∷ record { bytes = 0x20 ∷ 0x20 ∷ zeros 62; len = 1 }
    ∷ record { bytes = 0x20 ∷ (zeros 62 ++ 0x01 ∷ []); len = 1 }
    ∷ []

-- Unblocking counts that are bad, and good: both ends of each.
abbrev pub bad_counts : List (List ℕ)
bad_counts =
    (0xA6 ∷ 0 ∷ [])
    ∷ (0 ∷ 0xA6 ∷ [])
    ∷ (0xFF ∷ 0xA5 ∷ [])
    ∷ (0xA5 ∷ 0xFF ∷ [])
    ∷ (0xA5 ∷ [])
    ∷ (0xA5 ∷ 0xA5 ∷ 0xA5 ∷ [])
    ∷ (0 ∷ 0 ∷ 0 ∷ [])
    ∷ []

abbrev pub allowed_counts : List (List ℕ)
allowed_counts = (0 ∷ 0 ∷ []) ∷ (0 ∷ 0xA5 ∷ []) ∷ (0xA5 ∷ 0 ∷ []) ∷ (0xA4 ∷ 0xA4 ∷ []) ∷ (0x0F ∷ 0x10 ∷ []) ∷ []

unfoldable pub bad : List Card
bad =
    -- each code, of 8, 4 or 5 to 12 digits, 0 to 3 tries, verified implies 3 tries, zeros in unused places
    map with_puk (bad_codes 8) ++ map with_pin1 (bad_codes 4) ++ map with_pin2 (bad_codes 5)
    -- the unblocking counts: A6h and FFh for either; one count, three
    ++ map (with_counts sample_card) bad_counts
    -- 0033h: 20 bytes, 22 bytes
    ++ with_references (zeros 9 ++ 0x11 ∷ 0x00 ∷ (zeros 8 ++ 0x01 ∷ []))
    ∷ with_references (references ++ 0x00 ∷ [])
    -- the active authentication key: not on the card, of the other class, none
    ∷ with_references (naming 0x12 0x01)
    ∷ with_references (naming 0x01 0x01)
    ∷ with_references (naming 0x00 0x01)
    -- the active signature key likewise
    ∷ with_references (naming 0x11 0x02)
    ∷ with_references (naming 0x11 0x11)
    ∷ with_references (naming 0x11 0x00)
    -- personal records, the first and the last
    ∷ map (with_record 1) bad_records ++ map (with_record 16) bad_records
    -- each record between them with no byte
    ++ map (λ n. with_record n (record { bytes = zeros 64; len = 0 })) (counted 14 2)
    -- two codes, four; fifteen records, seventeen; two key marks, three, five
    ++ with_codes sample_card (take 2 sample_card.codes)
    ∷ with_codes sample_card (sample_card.codes ++ code_with (fives 12) 12 3 false ∷ [])
    ∷ with_profile (profile_of sample_card.profile.keys references (take 15 sample_card.profile.personal))
    ∷ with_profile (profile_of sample_card.profile.keys references (replicate 17 (record { bytes = fives 64; len = 64 })))
    ∷ with_profile (profile_of (take 2 sample_card.profile.keys) references sample_card.profile.personal)
    ∷ with_profile (profile_of (take 3 sample_card.profile.keys) references sample_card.profile.personal)
    ∷ with_profile (profile_of (sample_card.profile.keys ++ false ∷ []) references sample_card.profile.personal)
    -- a directory that is none, also with a file of EEEEh
    ∷ at 0x0000 0x0000 sample_card
    ∷ at 0xEE00 0x5044 sample_card
    -- a file that is not in the current directory
    ∷ at 0x3F00 0x5044 sample_card
    ∷ at 0x3F00 0xAACE sample_card
    ∷ at 0xEEEE 0x0016 sample_card
    ∷ at 0xEEEE 0xEEEE sample_card
    -- another environment
    ∷ sample_choices 0 (0 ∷ 0 ∷ 0 ∷ [])
    ∷ sample_choices 2 (0 ∷ 0 ∷ 0 ∷ [])
    ∷ sample_choices 7 (0 ∷ 0 ∷ 0 ∷ [])
    -- two choices, four
    ∷ sample_choices 1 (0 ∷ 0 ∷ [])
    ∷ sample_choices 1 (0 ∷ 0 ∷ 0 ∷ 0 ∷ [])
    -- a chosen key not on the card, or of the other class, for each kind
    ∷ sample_choices 1 (0x1200 ∷ 0 ∷ 0 ∷ [])
    ∷ sample_choices 1 (0x0100 ∷ 0 ∷ 0 ∷ [])
    ∷ sample_choices 1 (0 ∷ 0x0200 ∷ 0 ∷ [])
    ∷ sample_choices 1 (0 ∷ 0x1100 ∷ 0 ∷ [])
    ∷ sample_choices 6 (0 ∷ 0 ∷ 0x1200 ∷ [])
    ∷ sample_choices 6 (0 ∷ 0 ∷ 0x0100 ∷ [])
    -- held: an array of 255, of 257; more than 256 bytes; an unused place that is not zero
    ∷ sample_held (zeros 255) 0
    ∷ sample_held (zeros 257) 0
    ∷ sample_held (zeros 256) 257
    ∷ sample_held (0x01 ∷ zeros 255) 0
    ∷ sample_held (zeros 255 ++ 0x01 ∷ []) 255
    -- chain: an array of 257, of 259; more than 257 bytes; an unused place that is not zero, the last too
    ∷ sample_chain (zeros 257) 0
    ∷ sample_chain (zeros 259) 0
    ∷ sample_chain (zeros 258) 258
    ∷ sample_chain (0x01 ∷ zeros 257) 0
    ∷ sample_chain (zeros 257 ++ 0x01 ∷ []) 257
    -- no job: zeros
    ∷ sample_job 0 0x1100 0
    ∷ sample_job 0 0 1
    -- a job of kind 4
    ∷ sample_job 4 0x1100 0
    -- its key not on the card, of the other class, none, for each kind
    ∷ sample_job 1 0x1200 0
    ∷ sample_job 1 0x0100 0
    ∷ sample_job 1 0 0
    ∷ sample_job 2 0x0200 0
    ∷ sample_job 2 0x1100 0
    ∷ sample_job 3 0x1200 0
    ∷ sample_job 3 0x0100 0
    -- its Le over 256
    ∷ sample_job 1 0x1100 257
    -- a waiting job beside held data; beside a chain
    ∷ sample_session (with_job (with_held new_session (0x00 ∷ [])) (record { kind = 1; key = 0x1100; le = 0 }))
    ∷ waiting 3 0x1100 0 (chained 1 sample_card)
    ∷ []

-- On a bad state a command, a delivery and a reset are refused, 1.
abbrev pub BadStates : Type 0
BadStates = map returns bad ≡ replicate (length bad) (edge 1 ∷ edge 1 ∷ edge 1 ∷ [])

-- The second card with three choices.
abbrev pub second_choices : ℕ → List ℕ → Card
second_choices n choices = with_session second_card (with_environment new_session n choices)

-- Good states with no job: a command is judged (6700), a delivery is refused, 5, a reset is done.
unfoldable pub idle : List Card
idle =
    map with_puk (allowed_codes 8) ++ map with_pin1 (allowed_codes 4) ++ map with_pin2 (allowed_codes 5)
    ++ map (with_counts sample_card) allowed_counts
    -- personal records of one byte, which may be zero, and of 64
    ++ with_record 1 (record { bytes = zeros 64; len = 1 })
    ∷ with_record 16 (record { bytes = fives 64; len = 64 })
    -- every directory and file
    ∷ at 0x3F00 0x0016 sample_card
    ∷ at 0xEEEE 0x0000 sample_card
    ∷ at 0xEEEE 0x5044 sample_card
    ∷ at 0xEEEE 0x0033 sample_card
    ∷ at 0xEEEE 0xAACE sample_card
    ∷ at 0xEEEE 0xDDCE sample_card
    -- chosen keys, in either environment
    ∷ sample_choices 6 (0x1100 ∷ 0x0100 ∷ 0x1100 ∷ [])
    ∷ second_choices 1 (0x1100 ∷ 0x0100 ∷ 0x1200 ∷ [])
    ∷ second_choices 6 (0x1200 ∷ 0x0200 ∷ 0x1100 ∷ [])
    -- held data of 256 bytes, a chain of 257, and both
    ∷ sample_held (fives 256) 256
    ∷ sample_chain (fives 257 ++ 0x00 ∷ []) 257
    ∷ with_session sample_card (with_held (chained 1 sample_card).session (0x41 ∷ []))
    ∷ []

-- Good states with a job: a command is refused, 4, a delivery is judged (6400), a reset is done.
unfoldable pub busy : List Card
busy =
    -- each kind with each key of its class; Le none, 1 and 256
    waiting 1 0x1100 0 second_card
    ∷ waiting 1 0x1200 1 second_card
    ∷ waiting 2 0x0100 256 second_card
    ∷ waiting 2 0x0200 0 second_card
    ∷ waiting 3 0x1100 256 second_card
    ∷ waiting 3 0x1200 0 second_card
    -- not that a job fits the environment, the choices or the marks
    ∷ waiting 1 0x1100 0 (in_environment 6 sample_card)
    ∷ waiting 3 0x1100 0 (in_environment 1 sample_card)
    ∷ waiting 1 0x1200 0 (second_choices 1 (0x1100 ∷ 0x0100 ∷ 0x1100 ∷ []))
    ∷ waiting 2 0x0200 0 (second_choices 6 (0x1100 ∷ 0x0100 ∷ 0x1100 ∷ []))
    ∷ waiting 2 0x0100 0 second_open
    ∷ []

pub record GoodStates : Type 0 where
  pub idle : map returns idle ≡ replicate (length idle) (responded 2 ∷ edge 5 ∷ was_reset ∷ [])
  pub busy : map returns busy ≡ replicate (length busy) (edge 4 ∷ responded 2 ∷ was_reset ∷ [])
