-- Document 02, wishes 3 and 6, as statements: what the writer answers; that load and the writer are each other's inverse; how many bytes decide
-- what load answers; demand 3 in the writer's terms. Their proofs stand in proofs/. A byte string is a list of numbers below 256.
use Rattle.std.specs.Prelude.{ℕ, ◌≤◌, ◌<◌, ◌≡◌, ◌↔◌, true, false, List, [], ◌∷◌, ◌++◌, length, take, drop}
use Rattle.octets.specs.Octets.{Bytes, all_bytes}
use Rattle.rules.specs.declared.Card.{Card}
use Rattle.rules.specs.Numbers.{unwritten, wrote}
use Rattle.rules.specs.Codes.{no_limit, code_of, count_of, unlimited}
use Rattle.rules.specs.State.{good}
use Rattle.rules.specs.Edge.{power_reset}
use Rattle.rules.specs.Image.{load}
use Rattle.rules.specs.Writer.{image_of, write}
use Rattle.rules.specs.Counting.{tries_at_load, count_at_load}
use Rattle.rules.specs.Demands.{Counted, UnblockedTimes}

-- When each refusal of the writer is due.
pub data WriteDue (c : Card) (buffer : Bytes) : ℕ → Type 0 where
  bad_state : good c ≡ false → WriteDue c buffer 1
  short_buffer : good c ≡ true → length buffer < 1118 → WriteDue c buffer 2

-- Demand 1, of the writer on one card and one buffer.
pub record WriteDefined (c : Card) (buffer : Bytes) : Type 0 where
  -- it refuses exactly what is due, a bad state first
  pub due : (n : ℕ) → ((write c buffer).0 ≡ unwritten n) ↔ WriteDue c buffer n
  -- a refusal changes no byte of the buffer
  pub refusal : (n : ℕ) → (write c buffer).0 ≡ unwritten n → (write c buffer).1 ≡ buffer
  -- what is not refused writes the image, whose length is returned, and past it nothing changes
  pub image : (n : ℕ) → (write c buffer).0 ≡ wrote n
      → (n ≡ length (image_of c)) × (take n (write c buffer).1 ≡ image_of c) × (drop n (write c buffer).1 ≡ drop n buffer)
  -- the buffer keeps its length
  pub sized : length (write c buffer).1 ≡ length buffer

-- What the writer makes of some good state.
pub record Written (image : Bytes) : Type 0 where
  pub card : Card
  pub is_good : good card ≡ true
  pub made : image_of card ≡ image

-- A good state whose image has so many bytes.
pub record WrittenIn (n : ℕ) : Type 0 where
  pub card : Card
  pub is_good : good card ≡ true
  pub size : length (image_of card) ≡ n

-- The same, and the image has a section of unblocking counts (02, wish 6).
pub record LimitedIn (n : ℕ) : Type 0 where
  pub card : Card
  pub is_good : good card ≡ true
  pub limited : unlimited card.counts ≡ false
  pub size : length (image_of card) ≡ n

-- Load and the writer are each other's inverse.
pub record Inverse : Type 0 where
  -- loading what it writes gives the state after a power reset
  pub loads : (c : Card) → good c ≡ true → load (image_of c) ≡ (0, (power_reset c).1)
  -- writing a state just loaded gives the same bytes back
  pub restores : (image : Bytes) → all_bytes image ≡ true → (load image).0 ≡ 0 → image_of (load image).1 ≡ image
  -- the same of the call: what it wrote loads; a state just loaded is written as its image
  pub call_loads : (c : Card) (buffer : Bytes) (n : ℕ) → (write c buffer).0 ≡ wrote n
      → load (take n (write c buffer).1) ≡ (0, (power_reset c).1)
  pub call_restores : (image buffer : Bytes) → all_bytes image ≡ true → (load image).0 ≡ 0 → 1118 ≤ length buffer
      → write (load image).1 buffer ≡ (wrote (length image), image ++ drop (length image) buffer)
  -- neither marks nor session are written
  pub reset : (c : Card) → good c ≡ true → image_of (power_reset c).1 ≡ image_of c
  -- no two images that load give one state
  pub apart : (a b : Bytes) → all_bytes a ≡ true → all_bytes b ≡ true → (load a).0 ≡ 0 → (load b).0 ≡ 0 → (load a).1 ≡ (load b).1 → a ≡ b
  -- a byte string loads exactly where it is what the writer makes of some good state
  pub exactly : (image : Bytes) → all_bytes image ≡ true → ((load image).0 ≡ 0) ↔ Written image
  -- every good state writes 84 to 1,118 bytes, one with a section of unblocking counts at least 87, and all ends are reached
  pub sizes : (c : Card) → good c ≡ true → (84 ≤ length (image_of c)) × (length (image_of c) ≤ 1118)
  pub limited_size : (c : Card) → good c ≡ true → unlimited c.counts ≡ false → 87 ≤ length (image_of c)
  pub shortest : WrittenIn 84
  pub shortest_limited : LimitedIn 87
  pub longest : WrittenIn 1118

-- What stands past the first 1,119 bytes of a string changes nothing of what load makes of it, and no smaller number would do. A byte behind
-- an image with a section of unblocking counts is left over.
pub record FirstBytes : Type 0 where
  pub enough : (n : ℕ) (image : Bytes) → 1119 ≤ n → load (take n image) ≡ load image
  pub needed : (n : ℕ) → ((image : Bytes) → load (take n image) ≡ load image) → 1119 ≤ n
  pub left_over : (c : Card) → good c ≡ true → unlimited c.counts ≡ false → (x : ℕ) (rest : Bytes) → (load (image_of c ++ x ∷ rest)).0 ≡ 27

-- A card after a power reset, with other unblocking counts.
abbrev pub reset_with : Card → List ℕ → Card
reset_with c counts =
    let new = (power_reset c).1 in
    record { codes = new.codes; counts = counts; profile = new.profile; session = new.session }

-- What load makes of an image without a section of unblocking counts and of the bytes behind it, which are read as that section (02, wish 6):
-- of a good card without limits.
pub record LastSection (c : Card) : Type 0 where
  -- another count
  pub count : (x : ℕ) (rest : Bytes) → ¬ (x ≡ 2) → (load (image_of c ++ x ∷ rest)).0 ≡ 22
  -- a missing byte
  pub missing : (load (image_of c ++ 2 ∷ [])).0 ≡ 21
  pub missing_second : (a : ℕ) → a ≤ no_limit → (load (image_of c ++ 2 ∷ a ∷ [])).0 ≡ 21
  -- a byte over A5h, as it is read
  pub over : (a : ℕ) (rest : Bytes) → no_limit < a → (load (image_of c ++ 2 ∷ a ∷ rest)).0 ≡ 28
  pub over_second : (a b : ℕ) (rest : Bytes) → a ≤ no_limit → no_limit < b → (load (image_of c ++ 2 ∷ a ∷ b ∷ rest)).0 ≡ 28
  -- A5h twice, after the second byte and before bytes left over
  pub twice : (rest : Bytes) → (load (image_of c ++ 2 ∷ no_limit ∷ no_limit ∷ rest)).0 ≡ 28
  -- else it is the card with these counts
  pub loads : (a b : ℕ) → a ≤ no_limit → b ≤ no_limit → unlimited (a ∷ b ∷ []) ≡ false
      → load (image_of c ++ 2 ∷ a ∷ b ∷ []) ≡ (0, reset_with c (a ∷ b ∷ []))

abbrev pub LastSections : Type 0
LastSections = (c : Card) → good c ≡ true → unlimited c.counts ≡ true → LastSection c

-- An image that loads, with three tries on each code and the count n for PIN k, and calls of real bytes with n unblockings of that PIN.
pub record LimitReached (n k : ℕ) : Type 0 where
  pub image : Bytes
  pub loads : (load image).0 ≡ 0
  pub three : (j : ℕ) → j < 3 → tries_at_load image j ≡ 3
  pub count : count_at_load image k ≡ n
  pub reached : UnblockedTimes (load image).1 k n

-- Demand 3 in the writer's terms: from every good card after a power reset, which is what its image loads as, with the tries and the
-- unblocking counts that it has. Every count from 0 to A4h is some image's, and as many unblockings can be had from it.
pub record FromGoodCards : Type 0 where
  pub counted : (c : Card) → good c ≡ true → Counted (image_of c) (power_reset c).1
  pub tries : (c : Card) → good c ≡ true → (k : ℕ) → k < 3 → tries_at_load (image_of c) k ≡ (code_of c.codes k).tries
  pub counts : (c : Card) → good c ≡ true → (k : ℕ) → 1 ≤ k → k < 3 → count_at_load (image_of c) k ≡ count_of c.counts k
  pub every_count : (n : ℕ) → n < no_limit → (k : ℕ) → 1 ≤ k → k < 3 → LimitReached n k
