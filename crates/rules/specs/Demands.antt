-- The demands as statements over the rules. Their proofs stand in proofs/.
use Rattle.std.specs.Prelude.{ℕ, ◌+◌, ◌-◌, ◌*◌, ◌/◌, ◌≤◌, ◌<◌, ◌≡◌, ◌↔◌, Bool, true, false, cond, not, ◌&&◌, List, [], ◌∷◌, ◌++◌, length, drop, eqb, leb, ltb}
use Rattle.octets.specs.Octets.{Bytes}
use Rattle.pkcs1.specs.Pkcs1.{padded}
use Rattle.rules.specs.declared.Card.{Card}
use Rattle.rules.specs.declared.Header.{Header}
use Rattle.rules.specs.declared.JobKind.TheVariants.{Decipher}
use Rattle.rules.specs.declared.Session.{Session}
use Rattle.rules.specs.Numbers.{kind_number, Returned, edge, responded, handed_out, was_reset, refused}
use Rattle.rules.specs.Codes.{PUK, PIN2, code_of, no_limit, count_of}
use Rattle.rules.specs.Session.{chain_bytes, new_session}
use Rattle.rules.specs.State.{good}
use Rattle.rules.specs.Apdu.{parse}
use Rattle.rules.specs.Edge.{refuse}
use Rattle.rules.specs.Image.{load, zero_card}
use Rattle.rules.specs.Counting.{Call, Command, Delivery, PowerReset, step, next, exchange, trace, status_word}
use Rattle.rules.specs.Counting.{data_sent, wrong_answers, restorations, unblockings, signatures, pin2_presentations, pin2_changes}
use Rattle.rules.specs.Counting.{is_command, queries, of_bytes, all_of_bytes, tries_at_load, count_at_load}

-- The buffer that a call brings.
abbrev pub buffer_of : Call → Bytes
buffer_of (Command apdu authentication signature buffer) = buffer
buffer_of (Delivery result buffer) = buffer
buffer_of PowerReset = []

-- A buffer that is long enough; a certificate that is neither empty nor too long.
abbrev pub Room : Bytes → Type 0
Room buffer = 258 ≤ length buffer

abbrev pub LengthFits : Bytes → Type 0
LengthFits certificate = (1 ≤ length certificate) × (length certificate ≤ 1536)

-- Whether no job waits on a card.
abbrev pub Idle : Card → Type 0
Idle c = c.session.job.kind ≡ 0

-- When each edge refusal is due, with all that must hold for none before it to be due.
pub data Due (c : Card) : Call → ℕ → Type 0 where
  bad_state : (x : Call) → good c ≡ false → Due c x 1
  command_buffer : (apdu authentication signature buffer : Bytes) → good c ≡ true → length buffer < 258
      → Due c (Command apdu authentication signature buffer) 2
  delivery_buffer : (result buffer : Bytes) → good c ≡ true → length buffer < 258 → Due c (Delivery result buffer) 2
  authentication_certificate : (apdu authentication signature buffer : Bytes) → good c ≡ true → Room buffer
      → ¬ LengthFits authentication → Due c (Command apdu authentication signature buffer) 3
  signature_certificate : (apdu authentication signature buffer : Bytes) → good c ≡ true → Room buffer
      → ¬ LengthFits signature → Due c (Command apdu authentication signature buffer) 3
  job_waiting : (apdu authentication signature buffer : Bytes) → good c ≡ true → Room buffer
      → LengthFits authentication → LengthFits signature → ¬ Idle c → Due c (Command apdu authentication signature buffer) 4
  no_job_waiting : (result buffer : Bytes) → good c ≡ true → Room buffer → Idle c → Due c (Delivery result buffer) 5

-- What each call can return at all.
pub data Possible : Call → Returned → Type 0 where
  edge_refusal : (x : Call) (n : ℕ) → Possible x (edge n)
  command_response : (apdu authentication signature buffer : Bytes) (n : ℕ) → 2 ≤ n → n ≤ 258
      → Possible (Command apdu authentication signature buffer) (responded n)
  command_job : (apdu authentication signature buffer : Bytes) (kind key : ℕ) → 1 ≤ kind → kind ≤ 3
      → Possible (Command apdu authentication signature buffer) (handed_out kind key)
  delivery_response : (result buffer : Bytes) (n : ℕ) → 2 ≤ n → n ≤ 258 → Possible (Delivery result buffer) (responded n)
  reset : Possible PowerReset was_reset

-- The block of a job for the key host, handed out in a session for some data: of kinds 1 and 2 the data, padded; of kind 3 the last 256 of
-- the bytes joined.
abbrev pub block_of : Session → Bytes → ℕ → Bytes
block_of s d kind =
    cond (eqb kind (kind_number Decipher)) (drop 1 (chain_bytes s ++ d))
    (padded d)

-- A status word that refuses: any but those that may come with data, 9000, 61xx and 6282 (02, wish 2).
abbrev pub refusal_status : ℕ → Bool
refusal_status sw = not (eqb sw 0x9000) && not (eqb (sw / 256) 0x61) && not (eqb sw 0x6282)

-- A READ BINARY (00 B0, P1 under 80h, no data) whose Le, at most 255, is greater than n.
abbrev pub asks_for_more_than : ℕ → Header → Bool
asks_for_more_than n h =
    eqb h.cla 0x00 && eqb h.ins 0xB0 && ltb h.p1 0x80 && eqb h.lc 0 && ltb n h.le && leb h.le 255

-- Demand 1, of one call on one card.
pub record Defined (c : Card) (x : Call) : Type 0 where
  -- the edge refuses exactly what is due, first in document 01's order
  pub due : (n : ℕ) → ((step c x).returned ≡ edge n) ↔ Due c x n
  -- a refusal by the edge changes neither the state nor one byte of the buffer
  pub edge : (n : ℕ) → (step c x).returned ≡ edge n → step c x ≡ refuse c (buffer_of x) n
  -- what the call can return at all
  pub possible : Possible x (step c x).returned
  -- past a response nothing changes
  pub response : (n : ℕ) → (step c x).returned ≡ responded n → drop n (step c x).buffer ≡ drop n (buffer_of x)
  -- a refusal by status word writes that word and nothing else
  pub refusal : (n : ℕ) → (step c x).returned ≡ responded n → refusal_status (status_word (exchange c x)) ≡ true → n ≡ 2
  -- 6282 comes only from READ BINARY, with 1 to 254 bytes of data, fewer than Le
  pub ended : (n : ℕ) → (step c x).returned ≡ responded n → status_word (exchange c x) ≡ 0x6282
      → (1 ≤ n - 2) × (n - 2 ≤ 254) × (is_command (asks_for_more_than (n - 2)) x ≡ true)
  -- a job writes its block of 256 bytes, and past it nothing changes
  pub job : (kind key : ℕ) → (step c x).returned ≡ handed_out kind key
      → (length (block_of c.session (data_sent x) kind) ≡ 256)
      × ((step c x).buffer ≡ block_of c.session (data_sent x) kind ++ drop 256 (buffer_of x))
  -- the buffer keeps its length
  pub sized : length (step c x).buffer ≡ length (buffer_of x)

pub record Demand1 : Type 0 where
  pub defined : (c : Card) (x : Call) → of_bytes x ≡ true → Defined c x
  -- a command whose length form is wrong, and which the edge does not refuse, is answered 6700 alone
  pub malformed : (c : Card) (apdu authentication signature buffer : Bytes) (sw : ℕ) → parse apdu ≡ refused sw
      → ((n : ℕ) → ¬ Due c (Command apdu authentication signature buffer) n)
      → ((step c (Command apdu authentication signature buffer)).returned ≡ responded 2)
      × ((step c (Command apdu authentication signature buffer)).buffer ≡ 0x67 ∷ 0x00 ∷ drop 2 buffer)
  -- a delivered result whose length is wrong, and which the edge does not refuse, is answered 6400 alone
  pub misdelivered : (c : Card) (result buffer : Bytes) → ¬ (length result ≡ 256)
      → ((n : ℕ) → ¬ Due c (Delivery result buffer) n)
      → ((step c (Delivery result buffer)).returned ≡ responded 2)
      × ((step c (Delivery result buffer)).buffer ≡ 0x64 ∷ 0x00 ∷ drop 2 buffer)

-- No call changes what load stored beside the codes and the unblocking counts: keys, the record of 0033h, personal records.
abbrev pub ProfileKept : Type 0
ProfileKept = (c : Card) (x : Call) → (next c x).profile ≡ c.profile

-- Good states: load gives one, every call keeps one, and the all-zero state is none.
pub record GoodStates : Type 0 where
  pub at_load : (image : Bytes) → (load image).0 ≡ 0 → good (load image).1 ≡ true
  pub kept : (c : Card) (x : Call) → of_bytes x ≡ true → good c ≡ true → good (next c x) ≡ true
  pub zero : good zero_card ≡ false

-- Images: one that loads has 84 to 1,118 bytes, and its card starts in a new session, with no code verified and the tries and unblocking
-- counts that the image gives; a refused one gives its number, from 21 to 28, beside the all-zero state.
pub record Images : Type 0 where
  pub read : (image : Bytes) → (load image).0 ≡ 0 → (84 ≤ length image) × (length image ≤ 1118)
  pub session : (image : Bytes) → (load image).0 ≡ 0 → (load image).1.session ≡ new_session
  pub unverified : (image : Bytes) → (load image).0 ≡ 0 → (k : ℕ) → k < 3 → (code_of (load image).1.codes k).verified ≡ false
  pub tries : (image : Bytes) → (load image).0 ≡ 0 → (k : ℕ) → k < 3 → (code_of (load image).1.codes k).tries ≡ tries_at_load image k
  pub counts : (image : Bytes) → (load image).0 ≡ 0 → (k : ℕ) → 1 ≤ k → k < 3
      → count_of (load image).1.counts k ≡ count_at_load image k
  pub refused : (image : Bytes) → ¬ ((load image).0 ≡ 0)
      → ((load image).1 ≡ zero_card) × (21 ≤ (load image).0) × ((load image).0 ≤ 28)

-- Calls of real bytes after which code k has exactly so many restorations, unblockings and wrong answers.
pub record Reached (c : Card) (k r u w : ℕ) : Type 0 where
  pub calls : List Call
  pub of_bytes : all_of_bytes calls ≡ true
  pub restored : restorations k (trace c calls) ≡ r
  pub unblocked : unblockings k (trace c calls) ≡ u
  pub wrong : wrong_answers k (trace c calls) ≡ w

-- Calls of real bytes with v right presentations of PIN2 by VERIFY, n successful CHANGEs of PIN2 and s signatures.
pub record SignedWith (c : Card) (v n s : ℕ) : Type 0 where
  pub calls : List Call
  pub of_bytes : all_of_bytes calls ≡ true
  pub presented : pin2_presentations (trace c calls) ≡ v
  pub changed : pin2_changes (trace c calls) ≡ n
  pub signed : signatures (trace c calls) ≡ s

-- u unblockings are within an unblocking count: at most that many, or any number where the count is A5h (02, wish 6).
abbrev pub Within : ℕ → ℕ → Type 0
Within count u = ¬ (count ≡ no_limit) → u ≤ count

-- Calls of real bytes with u unblockings of PIN k.
pub record UnblockedTimes (c : Card) (k u : ℕ) : Type 0 where
  pub calls : List Call
  pub of_bytes : all_of_bytes calls ≡ true
  pub unblocked : unblockings k (trace c calls) ≡ u

-- Demand 3, of the card that load returned for an image.
pub record Counted (image : Bytes) (c : Card) : Type 0 where
  -- wrong answers are at most tries at load + 2 times restorations + 3 times unblockings
  pub bound : (calls : List Call) (k : ℕ) → k < 3
      → wrong_answers k (trace c calls) ≤ tries_at_load image k + 2 * restorations k (trace c calls) + 3 * unblockings k (trace c calls)
  -- the bound is met, from every loaded card with three tries on each code, for each code by itself, and a PIN's unblockings within its
  -- count at load (02, wish 6)
  pub met : ((k : ℕ) → k < 3 → tries_at_load image k ≡ 3)
      → (k : ℕ) → k < 3 → (r u : ℕ) → (k ≡ PUK → u ≡ 0) → (1 ≤ k → Within (count_at_load image k) u) → Reached c k r u (3 + 2 * r + 3 * u)
  -- the signatures handed to the key host are at most the right presentations of PIN2 by VERIFY and its successful CHANGEs together
  pub signed : (calls : List Call) → signatures (trace c calls) ≤ pin2_presentations (trace c calls) + pin2_changes (trace c calls)
  -- that sum is met, from every loaded card on which PIN2 has a try left, whatever its two parts are; so both are needed
  pub signed_met : 1 ≤ tries_at_load image PIN2 → (v n : ℕ) → SignedWith c v n (v + n)
  -- unblockings of a PIN never outnumber its count at load, unless that is A5h (02, wish 6)
  pub limited : (calls : List Call) (k : ℕ) → 1 ≤ k → k < 3 → Within (count_at_load image k) (unblockings k (trace c calls))
  -- that limit is met, and every number within it can be had, from every loaded card on which PUK has a try left
  pub limited_met : 1 ≤ tries_at_load image PUK → (k : ℕ) → 1 ≤ k → k < 3 → (u : ℕ) → Within (count_at_load image k) u → UnblockedTimes c k u

-- A call that leaves all codes and unblocking counts as they were and adds nothing to what demand 3 counts, whatever calls follow it.
pub record Uncounted (c : Card) (x : Call) : Type 0 where
  pub codes : (next c x).codes ≡ c.codes
  pub counts : (next c x).counts ≡ c.counts
  pub wrong : (k : ℕ) (calls : List Call) → wrong_answers k (trace c (x ∷ calls)) ≡ wrong_answers k (trace (next c x) calls)
  pub restored : (k : ℕ) (calls : List Call) → restorations k (trace c (x ∷ calls)) ≡ restorations k (trace (next c x) calls)
  pub unblocked : (k : ℕ) (calls : List Call) → unblockings k (trace c (x ∷ calls)) ≡ unblockings k (trace (next c x) calls)
  pub presented : (calls : List Call) → pin2_presentations (trace c (x ∷ calls)) ≡ pin2_presentations (trace (next c x) calls)
  pub changed : (calls : List Call) → pin2_changes (trace c (x ∷ calls)) ≡ pin2_changes (trace (next c x) calls)
  pub signed : (calls : List Call) → signatures (trace c (x ∷ calls)) ≡ signatures (trace (next c x) calls)

-- 02, wish 1: a VERIFY without data is such a call, on every card, whatever else its bytes are.
abbrev pub Queries : Type 0
Queries = (c : Card) (x : Call) → is_command queries x ≡ true → Uncounted c x

-- Demand 3: one statement over every image that loads and any sequence of calls.
abbrev pub Demand3 : Type 0
Demand3 = (image : Bytes) → (load image).0 ≡ 0 → Counted image (load image).1
