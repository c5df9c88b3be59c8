-- What the cases share: calls beside what each is to show, commands by their bytes, and cards with one part replaced.
use Rattle.std.specs.Prelude.{ℕ, zero, suc, ◌-◌, ◌≡◌, Bool, true, false, cond, List, [], ◌∷◌, ◌++◌, map, length, replicate}
use Rattle.octets.specs.Octets.{Bytes}
use Rattle.rules.specs.declared.Card.{Card}
use Rattle.rules.specs.declared.Code.{Code}
use Rattle.rules.specs.declared.Session.{Session}
use Rattle.rules.specs.Codes.{PUK, PIN1, PIN2, storing}
use Rattle.rules.specs.Session.{with_selection, with_environment, with_chain, with_job, all_active}
use Rattle.rules.specs.Answers.{Answer, response, job}
use Rattle.rules.specs.Judgement.{judge}
use Rattle.rules.specs.Counting.{Call}
use Rattle.rules.specs.Sample.{sample_card, puk, pin1, pin2}
use Rattle.rules.specs.Cases.{Seen, code, on_card, send, with_body}
use Rattle.cases.specs.SecondCard.{second_card, second_puk, second_pin1, second_pin2}

-- A call, and what it is to show.
pub record Turn : Type 0 where
  pub call : Call
  pub shown : Seen

infix 68 ◌⇒◌
abbrev pub ◌⇒◌ : Call → Seen → Turn
◌⇒◌ call shown = record { call = call; shown = shown }

-- A run: turns from a card, and then the three codes.
pub record Run : Type 0 where
  pub card : Card
  pub turns : List Turn
  pub codes : List Seen

abbrev pub from : Card → List Turn → List Seen → Run
from card turns codes = record { card = card; turns = turns; codes = codes }

-- What is seen of a run, and what is to be seen.
abbrev pub seen : Run → List Seen
seen r = on_card r.card (map (λ t. t.call) r.turns)

abbrev pub expected : Run → List Seen
expected r = map (λ t. t.shown) r.turns ++ r.codes

-- What a list of runs states.
abbrev pub Shown : List Run → Type 0
Shown runs = map seen runs ≡ map expected runs

-- The codes afterwards: their tries with all marks off; 3 tries each and one mark on, or all.
abbrev pub tries : ℕ → ℕ → ℕ → List Seen
tries a b c = code PUK a false ∷ code PIN1 b false ∷ code PIN2 c false ∷ []

abbrev pub marks : Bool → Bool → Bool → List Seen
marks a b c = code PUK 3 a ∷ code PIN1 3 b ∷ code PIN2 3 c ∷ []

-- Commands: with a class; of class 00h without data and Le, with Le, with data, and with both.
abbrev pub in_class : ℕ → ℕ → ℕ → ℕ → Call
in_class cla ins p1 p2 = send (cla ∷ ins ∷ p1 ∷ p2 ∷ [])

abbrev pub bare : ℕ → ℕ → ℕ → Call
bare = in_class 0x00

abbrev pub with_le : ℕ → ℕ → ℕ → ℕ → Call
with_le ins p1 p2 le = send (0x00 ∷ ins ∷ p1 ∷ p2 ∷ le ∷ [])

abbrev pub sending : ℕ → ℕ → ℕ → Bytes → Call
sending = with_body 0x00

abbrev pub sending_with_le : ℕ → ℕ → ℕ → Bytes → ℕ → Call
sending_with_le ins p1 p2 d le = send (0x00 ∷ ins ∷ p1 ∷ p2 ∷ length d ∷ (d ++ le ∷ []))

-- SELECT of the root, of EEEEh, and of a file; READ RECORD n and GET RESPONSE with an Le.
abbrev pub select_root : Call
select_root = bare 0xA4 0x00 0x0C

abbrev pub select_directory : ℕ → ℕ → Call
select_directory high low = sending 0xA4 0x01 0x0C (high ∷ low ∷ [])

abbrev pub select_file : ℕ → ℕ → Call
select_file high low = sending 0xA4 0x02 0x0C (high ∷ low ∷ [])

abbrev pub record_read : ℕ → Call
record_read n = with_le 0xB2 n 0x04 0x00

abbrev pub get_response : ℕ → Call
get_response le = with_le 0xC0 0x00 0x00 le

-- 22 F3.
abbrev pub environment : ℕ → Call
environment n = bare 0x22 0xF3 n

-- The block of jobs 1 and 2.
abbrev pub block : Bytes → Bytes
block d = 0x00 ∷ 0x01 ∷ (replicate (253 - length d) 0xFF ++ 0x00 ∷ d)

-- n digits, all 5; all 9.
abbrev pub fives : ℕ → Bytes
fives n = replicate n 0x35

abbrev pub nines : ℕ → Bytes
nines n = replicate n 0x39

-- A card with another session; the sample card and the second card with other codes.
abbrev pub with_session : Card → Session → Card
with_session c s = record { codes = c.codes; counts = c.counts; profile = c.profile; session = s }

abbrev pub with_codes : Card → List Code → Card
with_codes c codes = record { codes = codes; counts = c.counts; profile = c.profile; session = c.session }

-- The sample card with other tries; with marks on (3 tries each).
abbrev pub sample_tries : ℕ → ℕ → ℕ → Card
sample_tries a b c = with_codes sample_card (storing puk a false ∷ storing pin1 b false ∷ storing pin2 c false ∷ [])

abbrev pub sample_marks : Bool → Bool → Bool → Card
sample_marks a b c = with_codes sample_card (storing puk 3 a ∷ storing pin1 3 b ∷ storing pin2 3 c ∷ [])

-- The second card with other tries; with 3 tries each and all marks on.
abbrev pub second_tries : ℕ → ℕ → ℕ → Card
second_tries a b c =
    with_codes second_card (storing second_puk a false ∷ storing second_pin1 b false ∷ storing second_pin2 c false ∷ [])

abbrev pub second_open : Card
second_open =
    with_codes second_card (storing second_puk 3 true ∷ storing second_pin1 3 true ∷ storing second_pin2 3 true ∷ [])

-- A card in a directory with a file; in an environment; with a chain of n zeros; with a waiting job.
abbrev pub at : ℕ → ℕ → Card → Card
at directory file c = with_session c (with_selection c.session directory file)

abbrev pub in_environment : ℕ → Card → Card
in_environment n c = with_session c (with_environment c.session n all_active)

abbrev pub chained : ℕ → Card → Card
chained n c = with_session c (with_chain c.session (replicate n 0x00))

abbrev pub waiting : ℕ → ℕ → ℕ → Card → Card
waiting kind key le c = with_session c (with_job c.session (record { kind = kind; key = key; le = le }))

-- The status word by which a command is judged, the edge left out; 0 for a job.
abbrev pub status_of : Answer → ℕ
status_of (response d sw) = sw
status_of (job kind key d) = 0

abbrev pub word_on : Card → Bytes → ℕ
word_on c apdu = status_of (judge c apdu (0x30 ∷ []) (0x30 ∷ [])).answer

-- n numbers from a number on; those of a list that pass a test.
abbrev pub counted : ℕ → ℕ → List ℕ
counted zero n = []
counted (suc k) n = n ∷ counted k (suc n)

abbrev pub sieved : (ℕ → Bool) → List ℕ → List ℕ
sieved test [] = []
sieved test (x ∷ xs) = cond (test x) (x ∷ sieved test xs) (sieved test xs)

-- All bytes.
abbrev pub bytes : List ℕ
bytes = counted 256 0

-- What is found, and what is to be found.
pub record Fact (A : Type 0) : Type 0 where
  pub found : A
  pub wanted : A

infix 68 ◌is◌
abbrev pub ◌is◌ : {A : Type 0} → A → A → Fact A
◌is◌ found wanted = record { found = found; wanted = wanted }

-- What a list of them states.
abbrev pub Holds : {A : Type 0} → List (Fact A) → Type 0
Holds facts = map (λ x. x.found) facts ≡ map (λ x. x.wanted) facts
