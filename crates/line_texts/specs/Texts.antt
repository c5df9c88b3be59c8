-- What a line of output says: of what a call returned, and of what load and the writer answered.
use Rattle.std.specs.Prelude.{ℕ, ◌+◌, ◌/◌, ◌%◌, cond, [], ◌∷◌, ◌++◌, take, eqb}
use Rattle.octets.specs.Octets.{Bytes}
use Rattle.hexadecimal.specs.Hex.{hex_of}
use Rattle.rules.specs.Numbers.{Returned, edge, responded, handed_out, was_reset, Wrote, unwritten, wrote}
use Rattle.requests.specs.declared.Dialect.{Dialect}
use Rattle.requests.specs.declared.Dialect.TheVariants.{Transcript, StandIn}

-- A number below 10 as a character.
abbrev pub numeral : ℕ → ℕ
numeral n = 0x30 + n

-- Behind a job's key the stand-in shows a space and the block, the 256 bytes that the call wrote.
abbrev pub block_text : Dialect → Bytes → Bytes
block_text Transcript buffer = []
block_text StandIn buffer = 0x20 ∷ hex_of (take 256 buffer)

-- Out: P; R and the response in the same hex; J, kind, space, key as four such digits; H and the edge number.
unfoldable pub reply_text : Dialect → Returned → Bytes → Bytes
reply_text d was_reset buffer = 0x50 ∷ []
reply_text d (responded n) buffer = 0x52 ∷ hex_of (take n buffer)
reply_text d (handed_out kind key) buffer =
    0x4A ∷ numeral kind ∷ 0x20 ∷ (hex_of ((key / 256) ∷ (key % 256) ∷ []) ++ block_text d buffer)
reply_text d (edge n) buffer = 0x48 ∷ numeral n ∷ []

-- L for an image that loads, else F and the load number, which has two digits.
unfoldable pub load_text : ℕ → Bytes
load_text n = cond (eqb n 0) (0x4C ∷ []) (0x46 ∷ numeral (n / 10) ∷ numeral (n % 10) ∷ [])

-- I and the image in the same hex; H and the edge number.
unfoldable pub saved_text : Wrote → Bytes → Bytes
saved_text (wrote n) buffer = 0x49 ∷ hex_of (take n buffer)
saved_text (unwritten n) buffer = 0x48 ∷ numeral n ∷ []
