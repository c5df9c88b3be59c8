-- A line of the two line programs, in and out.
use Rattle.std.specs.Prelude.{ℕ, min, [], ◌∷◌, ◌++◌}
use Rattle.octets.specs.Octets.{Bytes, blank}
use Rattle.rules.specs.declared.Card.{Card}
use Rattle.rules.specs.Numbers.{Wrote}
use Rattle.rules.specs.Edge.{Result, command, delivery, power_reset}
use Rattle.rules.specs.Image.{load}
use Rattle.rules.specs.Writer.{write}
use Rattle.requests.specs.declared.Dialect.{Dialect}
use Rattle.requests.specs.Requests.{
  Request,
  reset,
  command_of,
  delivery_of,
  image_of,
  saving,
  authentication_of,
  signature_of,
  buffer_of,
  other,
  line_feed,
  most_buffer,
  request_of,
}
use Rattle.line_texts.specs.Texts.{reply_text, load_text, saved_text}

-- What a program holds between two lines: the card, the certificates that it lends, and the size of the answer buffer.
pub record Setup : Type 0 where
  pub card : Card
  pub authentication : Bytes
  pub signature : Bytes
  pub buffer : ℕ

-- The answer buffer of a line's call: of the size set, at most the greatest, and zeros as the call starts.
abbrev pub answer_buffer : Setup → Bytes
answer_buffer s = blank (min s.buffer most_buffer)

-- The card after a line, and its line of output, with the line feed.
pub record CardAnswer : Type 0 where
  pub card : Card
  pub text : Bytes

abbrev pub card_answer : Card → Bytes → CardAnswer
card_answer c text = record { card = c; text = text ++ line_feed ∷ [] }

abbrev pub call_answer : Dialect → Result → CardAnswer
call_answer d r = card_answer r.card (reply_text d r.returned r.buffer)

-- The writer leaves the card as it is.
abbrev pub saved_answer : Card → Wrote × Bytes → CardAnswer
saved_answer c r = card_answer c (saved_text r.0 r.1)

-- One line of output for each line of input; ? for other lines. After L the card is what load returns, where it refuses too.
unfoldable pub answer_to : Dialect → Setup → Request → CardAnswer
answer_to d s reset = call_answer d (record { returned = (power_reset s.card).0; card = (power_reset s.card).1; buffer = [] })
answer_to d s (command_of apdu) = call_answer d (command s.card apdu s.authentication s.signature (answer_buffer s))
answer_to d s (delivery_of result) = call_answer d (delivery s.card result (answer_buffer s))
answer_to d s (image_of image) = card_answer (load image).1 (load_text (load image).0)
answer_to d s saving = saved_answer s.card (write s.card (answer_buffer s))
answer_to d s (authentication_of certificate) = card_answer s.card (0x41 ∷ [])
answer_to d s (signature_of certificate) = card_answer s.card (0x53 ∷ [])
answer_to d s (buffer_of n) = card_answer s.card (0x42 ∷ [])
answer_to d s other = card_answer s.card (0x3F ∷ [])

-- A, S and B set what is lent from then on; other lines leave it.
unfoldable pub setup_after : Request → Setup → Setup
setup_after reset s = s
setup_after (command_of apdu) s = s
setup_after (delivery_of result) s = s
setup_after (image_of image) s = s
setup_after saving s = s
setup_after (authentication_of certificate) s =
    record { card = s.card; authentication = certificate; signature = s.signature; buffer = s.buffer }
setup_after (signature_of certificate) s =
    record { card = s.card; authentication = s.authentication; signature = certificate; buffer = s.buffer }
setup_after (buffer_of n) s =
    record { card = s.card; authentication = s.authentication; signature = s.signature; buffer = n }
setup_after other s = s

-- What a line gives: what the program holds after it, and its line of output.
pub record LineAnswer : Type 0 where
  pub setup : Setup
  pub text : Bytes

abbrev pub with_card : Setup → Card → Setup
with_card s c = record { card = c; authentication = s.authentication; signature = s.signature; buffer = s.buffer }

abbrev pub line_answer : Dialect → Setup → Request → LineAnswer
line_answer d s q = record { setup = setup_after q (with_card s (answer_to d s q).card); text = (answer_to d s q).text }

abbrev pub answer_line : Dialect → Setup → Bytes → LineAnswer
answer_line d s line = line_answer d s (request_of d line)
