-- A second card, beside the sample card. Codes: PUK of 12 digits, PIN1 of 4, PIN2 of 12, with 3, 2 and 1 tries. The
-- unblocking counts 5 and 1. All four keys, 0200h and 1200h active. Sixteen different personal records of 1 to 64
-- bytes. No byte of 0033h that names no key is zero.
use Rattle.std.specs.Prelude.{ℕ, ◌+◌, ◌-◌, ◌*◌, ◌≡◌, true, false, List, [], ◌∷◌, ◌++◌, map, length, replicate}
use Rattle.octets.specs.Octets.{Bytes, filled}
use Rattle.rules.specs.declared.Card.{Card}
use Rattle.rules.specs.declared.Record.{Record}
use Rattle.rules.specs.Codes.{storing}
use Rattle.rules.specs.Session.{new_session}
use Rattle.rules.specs.Image.{load}

abbrev pub second_puk : Bytes
second_puk =
    0x39 ∷ 0x38 ∷ 0x37 ∷ 0x36 ∷ 0x35 ∷ 0x34 ∷ 0x33 ∷ 0x32 ∷ 0x31 ∷ 0x30 ∷ 0x39 ∷ 0x38 ∷ []

abbrev pub second_pin1 : Bytes
second_pin1 = 0x30 ∷ 0x30 ∷ 0x30 ∷ 0x39 ∷ []

abbrev pub second_pin2 : Bytes
second_pin2 =
    0x35 ∷ 0x34 ∷ 0x33 ∷ 0x32 ∷ 0x31 ∷ 0x30 ∷ 0x39 ∷ 0x38 ∷ 0x37 ∷ 0x36 ∷ 0x35 ∷ 0x34 ∷ []

-- The record of 0033h.
abbrev pub second_references : Bytes
second_references = replicate 9 0xFF ++ 0x12 ∷ 0x00 ∷ (replicate 8 0x3A ++ 0x02 ∷ 0x00 ∷ [])

-- Personal record n, from 2: 4n bytes, the byte n at its end, 40h + n before it. Record 1 is the byte FFh.
abbrev pub text : ℕ → Bytes
text n = replicate (4 * n - 1) (0x40 + n) ++ n ∷ []

abbrev pub texts : List Bytes
texts =
    (0xFF ∷ []) ∷ text 2 ∷ text 3 ∷ text 4 ∷ text 5 ∷ text 6 ∷ text 7 ∷ text 8
    ∷ text 9 ∷ text 10 ∷ text 11 ∷ text 12 ∷ text 13 ∷ text 14 ∷ text 15 ∷ text 16 ∷ []

abbrev pub record_with : Bytes → Record
record_with d = record { bytes = filled 64 d; len = length d }

unfoldable pub second_card : Card
second_card =
    record {
      codes = storing second_puk 3 false ∷ storing second_pin1 2 false ∷ storing second_pin2 1 false ∷ [];
      counts = 5 ∷ 1 ∷ [];
      profile = record {
        keys = true ∷ true ∷ true ∷ true ∷ [];
        references = second_references;
        personal = map record_with texts;
      };
      session = new_session;
    }

-- Records in an image: each as length, bytes.
abbrev pub texts_in : List Bytes → Bytes
texts_in [] = []
texts_in (d ∷ ds) = length d ∷ (d ++ texts_in ds)

-- Its image.
unfoldable pub second_image : Bytes
second_image =
    3 ∷ 12 ∷ (second_puk ++ 3 ∷ 4 ∷ (second_pin1 ++ 2 ∷ 12 ∷ (second_pin2 ++ 1 ∷ [])))
    ++ 4 ∷ 0x01 ∷ 0x00 ∷ 0x02 ∷ 0x00 ∷ 0x11 ∷ 0x00 ∷ 0x12 ∷ 0x00 ∷ []
    ++ 21 ∷ second_references
    ++ 16 ∷ texts_in texts
    ++ 2 ∷ 5 ∷ 1 ∷ []

-- The image loads, number 0, as the second card.
abbrev pub SecondLoads : Type 0
SecondLoads = load second_image ≡ (0, second_card)
