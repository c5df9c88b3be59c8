-- Document 01, "Cases": the sample card. PIN1 1234, PIN2 12345, PUK 12345678, 3 tries, keys 0100h and 1100h, both active,
-- other bytes of 0033h zero, each personal record one byte 20h. No limit on unblocking (02, wish 6).
use Rattle.std.specs.Prelude.{ℕ, zero, suc, ◌≡◌, true, false, [], ◌∷◌, ◌++◌, replicate}
use Rattle.octets.specs.Octets.{Bytes, filled}
use Rattle.rules.specs.declared.Card.{Card}
use Rattle.rules.specs.Codes.{full_tries, storing, no_limits}
use Rattle.rules.specs.Session.{new_session}
use Rattle.rules.specs.Image.{load}

abbrev pub pin1 : Bytes
pin1 = 0x31 ∷ 0x32 ∷ 0x33 ∷ 0x34 ∷ []

abbrev pub pin2 : Bytes
pin2 = 0x31 ∷ 0x32 ∷ 0x33 ∷ 0x34 ∷ 0x35 ∷ []

abbrev pub puk : Bytes
puk = 0x31 ∷ 0x32 ∷ 0x33 ∷ 0x34 ∷ 0x35 ∷ 0x36 ∷ 0x37 ∷ 0x38 ∷ []

-- The record of 0033h.
abbrev pub references : Bytes
references = replicate 9 0x00 ++ 0x11 ∷ 0x00 ∷ (replicate 8 0x00 ++ 0x01 ∷ 0x00 ∷ [])

unfoldable pub sample_card : Card
sample_card =
    record {
      codes = storing puk full_tries false ∷ storing pin1 full_tries false ∷ storing pin2 full_tries false ∷ [];
      counts = no_limits;
      profile = record {
        keys = true ∷ false ∷ true ∷ false ∷ [];
        references = references;
        personal = replicate 16 (record { bytes = filled 64 (0x20 ∷ []); len = 1 });
      };
      session = new_session;
    }

-- n personal records in an image, each as length 1 and the byte 20h.
abbrev pub image_records : ℕ → Bytes
image_records zero = []
image_records (suc n) = 0x01 ∷ 0x20 ∷ image_records n

-- Its image.
unfoldable pub sample_image : Bytes
sample_image =
    3 ∷ 8 ∷ (puk ++ 3 ∷ 4 ∷ (pin1 ++ 3 ∷ 5 ∷ (pin2 ++ 3 ∷ [])))
    ++ 2 ∷ 0x01 ∷ 0x00 ∷ 0x11 ∷ 0x00 ∷ []
    ++ 21 ∷ references
    ++ 16 ∷ image_records 16

-- The image loads as the sample card.
abbrev pub SampleLoads : Type 0
SampleLoads = load sample_image ≡ (0, sample_card)
