-- Document 01, "What the card has": the waiting job with its Le. A job waits as it was handed out: its kind, its key and its Le.
-- Of the jobs handed out, those of kind 2 are signatures.
use Rattle.std.specs.Prelude.{ℕ, ◌≡◌, Bool, true, false, List, [], ◌∷◌, map}
use Rattle.rules.specs.declared.Card.{Card}
use Rattle.rules.specs.declared.Job.{Job}
use Rattle.rules.specs.Numbers.{handed_out}
use Rattle.rules.specs.Counting.{Call, after, hands_signature}
use Rattle.rules.specs.Cases.{sign_sha1, sha1_digest, choose_key_of, decipher_part}
use Rattle.cases.specs.Turns.{sending_with_le, second_open, in_environment, chained}

-- The job that waits after some calls.
abbrev pub waiting_after : Card → List Call → Job
waiting_after c calls = (after c calls).session.job

abbrev pub job : ℕ → ℕ → ℕ → Job
job kind key le = record { kind = kind; key = key; le = le }

unfoldable pub waiting_jobs : List Job
waiting_jobs =
    -- 88 with Le 00, with the active key 1200h and with 1100h chosen
    waiting_after second_open (sending_with_le 0x88 0x00 0x00 (0x41 ∷ []) 0x00 ∷ [])
    ∷ waiting_after second_open (choose_key_of 0xA4 0x11 0x00 ∷ sending_with_le 0x88 0x00 0x00 (0x41 ∷ []) 0x00 ∷ [])
    -- SIGN without Le and with Le FF, with the active key 0200h and with 0100h chosen
    ∷ waiting_after second_open (sign_sha1 ∷ [])
    ∷ waiting_after second_open (choose_key_of 0xB6 0x01 0x00 ∷ sending_with_le 0x2A 0x9E 0x9A sha1_digest 0xFF ∷ [])
    -- DECIPHER without Le, with the active key 1200h and with 1100h chosen
    ∷ waiting_after (chained 255 (in_environment 6 second_open)) (decipher_part 0x00 2 ∷ [])
    ∷ waiting_after (in_environment 6 second_open) (choose_key_of 0xB8 0x11 0x00 ∷ decipher_part 0x10 255 ∷ decipher_part 0x00 2 ∷ [])
    ∷ []

abbrev pub JobsWait : Type 0
JobsWait =
    waiting_jobs
    ≡ job 1 0x1200 256 ∷ job 1 0x1100 256 ∷ job 2 0x0200 0 ∷ job 2 0x0100 255 ∷ job 3 0x1200 0 ∷ job 3 0x1100 0 ∷ []

-- Which of three jobs handed out, of kinds 1, 2 and 3, are signatures.
unfoldable pub signature_kinds : List Bool
signature_kinds =
    map (λ kind. hands_signature (record { call = sign_sha1; returned = handed_out kind 0x0100; buffer = [] })) (1 ∷ 2 ∷ 3 ∷ [])

abbrev pub SignaturesTold : Type 0
SignaturesTold = signature_kinds ≡ false ∷ true ∷ false ∷ []
