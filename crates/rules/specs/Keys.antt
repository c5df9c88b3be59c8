-- Document 01, "What the card has": the keys, their classes, and the active key of each class. "Active" and "choice" are document 01's terms
-- for the key of a class that the card uses by itself, and for the key that a MANAGE SECURITY ENVIRONMENT names instead.
use Rattle.std.specs.Prelude.{ℕ, ◌-◌, Bool, false, cond, ◌&&◌, ◌||◌, List, get_or, eqb}
use Rattle.octets.specs.Octets.{Bytes, byte_at, word}
use Rattle.rules.specs.declared.JobKind.TheVariants.{Sign}
use Rattle.rules.specs.Numbers.{kind_number}

-- Signature keys are 0100h and 0200h.
abbrev pub signature_key : ℕ → Bool
signature_key key = eqb key 0x0100 || eqb key 0x0200

-- Authentication keys are 1100h and 1200h.
abbrev pub authentication_key : ℕ → Bool
authentication_key key = eqb key 0x1100 || eqb key 0x1200

-- A key of the class that a job of this kind uses: signature keys to sign; authentication keys to authenticate and to decipher
-- (the last row).
unfoldable pub of_class : ℕ → ℕ → Bool
of_class kind key =
    cond (eqb kind (kind_number Sign)) (signature_key key)
    (authentication_key key)

-- Whether a key is on the card; the four marks are for 0100h, 0200h, 1100h and 1200h.
unfoldable pub present : List Bool → ℕ → Bool
present keys key =
    (eqb key 0x0100 && get_or keys 0 false)
    || (eqb key 0x0200 && get_or keys 1 false)
    || (eqb key 0x1100 && get_or keys 2 false)
    || (eqb key 0x1200 && get_or keys 3 false)

-- A present key of the class that a job of this kind uses.
abbrev pub usable : List Bool → ℕ → ℕ → Bool
usable keys kind key = present keys key && of_class kind key

-- The active key of the class that a job of this kind uses, named by the record of 0033h: to sign bytes 19, 20; to authenticate and to
-- decipher (the last row) bytes 9, 10.
unfoldable pub active_key : Bytes → ℕ → ℕ
active_key references kind =
    cond (eqb kind (kind_number Sign)) (word (byte_at references 19) (byte_at references 20))
    (word (byte_at references 9) (byte_at references 10))

-- The key choice for a job of this kind, of the three for kinds 1, 2 and 3; 0 is "active".
abbrev pub choice_of : List ℕ → ℕ → ℕ
choice_of choices kind = get_or choices (kind - 1) 0

-- The key that a job of this kind takes: the active one of its class where the choice is "active", else the chosen one.
unfoldable pub key_for : Bytes → List ℕ → ℕ → ℕ
key_for references choices kind =
    cond (eqb (choice_of choices kind) 0) (active_key references kind)
    (choice_of choices kind)
