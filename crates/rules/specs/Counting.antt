-- Document 01, "What demand 3 counts": sequences of calls, and what is counted of the calls' bytes and what they wrote and returned.
-- "Wrong answer", "restoration", "unblocking" and "right presentation" are document 01's terms, "successful CHANGE" and "count at load"
-- document 02's; "exchange" and "trace" are ours.
use Rattle.std.specs.Prelude.{ℕ, zero, suc, ◌+◌, ◌-◌, ◌*◌, Bool, true, false, cond, not, ◌&&◌, ◌||◌, List, [], ◌∷◌, length, drop, eqb, leb}
use Rattle.octets.specs.Octets.{Bytes, byte_at, word, all_bytes}
use Rattle.rules.specs.declared.Card.{Card}
use Rattle.rules.specs.declared.Header.{Header}
use Rattle.rules.specs.declared.JobKind.TheVariants.{Sign}
use Rattle.rules.specs.Numbers.{kind_number, Returned, edge, responded, handed_out, was_reset, LengthForm, form}
use Rattle.rules.specs.Numbers.{refused}
use Rattle.rules.specs.Codes.{PUK, PIN2, no_limit}
use Rattle.rules.specs.Apdu.{parse, data_of}
use Rattle.rules.specs.Judgement.{has_data}
use Rattle.rules.specs.Edge.{Result, command, delivery, power_reset}

-- A call with all that its caller brings. A command brings its bytes, the authentication certificate, the signature certificate
-- and the buffer; a delivery its result and the buffer.
pub data Call : Type 0 where
  Command : Bytes → Bytes → Bytes → Bytes → Call
  Delivery : Bytes → Bytes → Call
  PowerReset : Call

-- What a call gives. A power reset has no buffer.
unfoldable pub step : Card → Call → Result
step c (Command apdu authentication signature buffer) = command c apdu authentication signature buffer
step c (Delivery result buffer) = delivery c result buffer
step c PowerReset = record { returned = (power_reset c).0; card = (power_reset c).1; buffer = [] }

-- A call, what it returned and what it wrote: all that is counted from.
pub record Exchange : Type 0 where
  pub call : Call
  pub returned : Returned
  pub buffer : Bytes

-- The card after a call.
abbrev pub next : Card → Call → Card
next c x = (step c x).card

abbrev pub exchange_of : Call → Result → Exchange
exchange_of x o = record { call = x; returned = o.returned; buffer = o.buffer }

abbrev pub exchange : Card → Call → Exchange
exchange c x = exchange_of x (step c x)

-- A sequence: each call gets the card as the one before left it.
abbrev pub after : Card → List Call → Card
after c [] = c
after c (x ∷ xs) = after (next c x) xs

abbrev pub trace : Card → List Call → List Exchange
trace c [] = []
trace c (x ∷ xs) = exchange c x ∷ trace (next c x) xs

-- The status word of a response: its last two bytes. 0 where a call returned no response.
unfoldable pub returned_status : Returned → Bytes → ℕ
returned_status (edge n) buffer = 0
returned_status (responded n) buffer = word (byte_at buffer (n - 2)) (byte_at buffer (n - 1))
returned_status (handed_out kind key) buffer = 0
returned_status was_reset buffer = 0

abbrev pub status_word : Exchange → ℕ
status_word e = returned_status e.returned e.buffer

-- The kind of a job that was handed out; 0 where there was none.
unfoldable pub returned_kind : Returned → ℕ
returned_kind (edge n) = 0
returned_kind (responded n) = 0
returned_kind (handed_out kind key) = kind
returned_kind was_reset = 0

-- What a call's bytes send: the header and the data of a command of good length form; nothing in any other call.
pub data Sent : Type 0 where
  sent : Header → Bytes → Sent
  nothing : Sent

unfoldable pub form_sends : Bytes → LengthForm → Sent
form_sends apdu (form h start) = sent h (data_of apdu start h)
form_sends apdu (refused sw) = nothing

unfoldable pub sent_by : Call → Sent
sent_by (Command apdu authentication signature buffer) = form_sends apdu (parse apdu)
sent_by (Delivery result buffer) = nothing
sent_by PowerReset = nothing

-- What is read off them, or else a default.
unfoldable pub read_off : {A : Type 0} → (Header → Bytes → A) → A → Sent → A
read_off read none (sent h d) = read h d
read_off read none nothing = none

-- A command whose header passes a test.
abbrev pub is_command : (Header → Bool) → Call → Bool
is_command test x = read_off (λ h d. test h) false (sent_by x)

-- The data that a call sends.
abbrev pub data_sent : Call → Bytes
data_sent x = read_off (λ h d. d) [] (sent_by x)

-- 63Cx, and 9000.
unfoldable pub wrong_status : ℕ → Bool
wrong_status sw = leb 0x63C0 sw && leb sw 0x63CF

unfoldable pub ok_status : ℕ → Bool
ok_status sw = eqb sw 0x9000

-- A VERIFY without data, which asks and presents nothing (02, wish 1).
unfoldable pub queries : Header → Bool
queries h = eqb h.ins 0x20 && not (has_data h)

-- A VERIFY with data for code k; a CHANGE for code k; a 2C with P1 00; a 2C, P1 00 or 03, for PIN k.
unfoldable pub verifies : ℕ → Header → Bool
verifies k h = eqb h.ins 0x20 && has_data h && eqb h.p2 k

unfoldable pub changes : ℕ → Header → Bool
changes k h = eqb h.ins 0x24 && eqb h.p2 k

unfoldable pub presents_puk : Header → Bool
presents_puk h = eqb h.ins 0x2C && eqb h.p1 0x00

unfoldable pub unblocks : ℕ → Header → Bool
unblocks k h = eqb h.ins 0x2C && (eqb h.p1 0x00 || eqb h.p1 0x03) && eqb h.p2 k && leb 1 k

-- A command that presents a value for code k.
unfoldable pub presents : ℕ → Header → Bool
presents k h = verifies k h || changes k h || (eqb k PUK && presents_puk h)

-- A command that passes a test, answered by a status word that passes another.
abbrev pub answers : (ℕ → Bool) → (Header → Bool) → Exchange → Bool
answers status test e = status (status_word e) && is_command test e.call

-- A wrong answer, a restoration and an unblocking of code k; a right presentation of code k by VERIFY; a successful CHANGE of code k.
abbrev pub wrong_answer : ℕ → Exchange → Bool
wrong_answer k = answers wrong_status (presents k)

abbrev pub restoration : ℕ → Exchange → Bool
restoration k = answers ok_status (presents k)

abbrev pub unblocking : ℕ → Exchange → Bool
unblocking k = answers ok_status (unblocks k)

abbrev pub right_verify : ℕ → Exchange → Bool
right_verify k = answers ok_status (verifies k)

abbrev pub changed : ℕ → Exchange → Bool
changed k = answers ok_status (changes k)

-- A job of a kind that a command returned.
abbrev pub by_command : Call → Bool
by_command (Command apdu authentication signature buffer) = true
by_command (Delivery result buffer) = false
by_command PowerReset = false

abbrev pub hands_job : ℕ → Exchange → Bool
hands_job kind e = eqb (returned_kind e.returned) kind && by_command e.call

-- A signature handed to the key host: a job of kind 2 that a command returned.
abbrev pub hands_signature : Exchange → Bool
hands_signature = hands_job (kind_number Sign)

-- How many exchanges of a sequence pass a test.
abbrev pub one : Bool → ℕ
one true = 1
one false = 0

abbrev pub number : (Exchange → Bool) → List Exchange → ℕ
number test [] = 0
number test (e ∷ es) = one (test e) + number test es

abbrev pub wrong_answers : ℕ → List Exchange → ℕ
wrong_answers k = number (wrong_answer k)

abbrev pub restorations : ℕ → List Exchange → ℕ
restorations k = number (restoration k)

abbrev pub unblockings : ℕ → List Exchange → ℕ
unblockings k = number (unblocking k)

abbrev pub pin2_presentations : List Exchange → ℕ
pin2_presentations = number (right_verify PIN2)

-- The successful CHANGEs of PIN2, which demand 3's last sentence counts together with its right presentations by VERIFY (02, wish 4).
abbrev pub pin2_changes : List Exchange → ℕ
pin2_changes = number (changed PIN2)

abbrev pub signatures : List Exchange → ℕ
signatures = number hands_signature

-- Calls that a caller can make: every number in them is a byte.
abbrev pub of_bytes : Call → Bool
of_bytes (Command apdu authentication signature buffer) =
    all_bytes apdu && all_bytes authentication && all_bytes signature && all_bytes buffer
of_bytes (Delivery result buffer) = all_bytes result && all_bytes buffer
of_bytes PowerReset = true

abbrev pub all_of_bytes : List Call → Bool
all_of_bytes [] = true
all_of_bytes (x ∷ xs) = of_bytes x && all_of_bytes xs

-- The tries that an image gives code k: after the count, each code stands as length, digits, tries.
abbrev pub image_from : Bytes → ℕ → Bytes
image_from image zero = drop 1 image
image_from image (suc k) = drop (suc (suc (byte_at (image_from image k) 0))) (image_from image k)

abbrev pub tries_at_load : Bytes → ℕ → ℕ
tries_at_load image k = byte_at (image_from image k) (suc (byte_at (image_from image k) 0))

-- The unblocking count that an image gives PIN k (02, wish 6). Behind the codes stand the keys, a count and two bytes each; the references, a
-- count and 21 bytes; the personal records, a count and then each as length, bytes. Behind them the image ends, which means A5h for both
-- PINs, or the last section stands: byte 0 is its count, 2, and byte k is the unblocking count of PIN k.
abbrev pub behind_keys : Bytes → Bytes
behind_keys image = drop (suc (2 * byte_at (image_from image 3) 0)) (image_from image 3)

-- What stands behind n records, each as length, bytes.
unfoldable pub behind_records : ℕ → Bytes → Bytes
behind_records zero b = b
behind_records (suc n) b = behind_records n (drop (suc (byte_at b 0)) b)

abbrev pub last_section : Bytes → Bytes
last_section image = behind_records 16 (drop 1 (drop 22 (behind_keys image)))

unfoldable pub count_at_load : Bytes → ℕ → ℕ
count_at_load image k = cond (eqb (length (last_section image)) 0) no_limit (byte_at (last_section image) k)
