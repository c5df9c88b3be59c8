-- What a good state's parts obey, and a good state made of good parts.
use mathlib.Core.Path.{◌≡◌, sym}
use mathlib.Core.Logic.{◌≢◌}
use mathlib.Core.Bool.{Bool, true, false, not, ◌&&◌, ◌||◌, and-true, and_assoc}
use mathlib.Core.List.{List, [], ◌∷◌}
use Prim.Native.Nat.{ℕ, zero, suc, ◌-◌, ◌≤◌, ◌<◌}
use native.Mathlib.Omega.{arith}
use lib.Dec.{eqb, leb}
use lib.ListN.{length, get_or, set, take, drop, length-take, length-drop, take-append-drop}
use lib.Seq.{get_or-set_same, get_or-set_other}
use borrow.Author.Tests.{eqb-true, leb-true, eq-eqb, le-leb}
use Rattle.octets.specs.Octets.{Bytes, all_digits, all_zero, blank, filled, good_room}
use Rattle.octets.proofs.Tests.{split, and_left, and_right, nth, below_three}
use Rattle.octets.proofs.Strings.{zeros_blank, length_filled, take_filled, rest_filled}
use Rattle.rules.specs.declared.Card.{Card}
use Rattle.rules.specs.declared.Code.{Code}
use Rattle.rules.specs.Codes.{PUK, PIN1, PIN2, least, most, full_tries, allowed, value, storing, marked, zero_code}
use Rattle.rules.specs.Codes.{code_of, no_limit, count_of}
use Rattle.rules.specs.declared.Profile.{Profile}
use Rattle.rules.specs.declared.Record.{Record}
use Rattle.rules.specs.State.{good_code, good_codes, good_counts, good_references, good_record, good_records, good_profile, good_session, good}

-- A string in room of a stated size.
module _ (size : ℕ) (bytes : Bytes) (len : ℕ) (g : good_room size bytes len ≡ true) where
  abbrev tests : List Bool
  tests = eqb (length bytes) size ∷ leb len size ∷ all_zero (drop len bytes) ∷ []

  pub room_size : length bytes ≡ size
  unfolding good_room
  room_size = eqb-true (length bytes) size (nth tests 0 g)

  pub room_len : len ≤ size
  unfolding good_room
  room_len = leb-true len size (nth tests 1 g)

  pub room_taken : length (take len bytes) ≡ len
  room_taken = omega (arith, length-take len bytes, room_size, room_len)

  -- it is what stands in its first places, with zeros after it
  pub room_filled : filled size (take len bytes) ≡ bytes
  unfolding filled good_room
  room_filled =
      let rest : drop len bytes ≡ blank (length (drop len bytes)) = zeros_blank (drop len bytes) (nth tests 2 g) in
      let left : size - length (take len bytes) ≡ length (drop len bytes) = omega (arith, room_taken, room_size, length-drop len bytes) in
      rw (left, ← rest) (take-append-drop len bytes)

pub filled_room : (size : ℕ) (d : Bytes) → length d ≤ size → good_room size (filled size d) (length d) ≡ true
unfolding good_room
filled_room size d h = simp (eq-eqb (length (filled size d)) size (length_filled size d h), le-leb (length d) size h, rest_filled size d h)

-- A good code.
module _ (k : ℕ) (v : Code) (g : good_code k v ≡ true) where
  abbrev code_tests : List Bool
  code_tests =
      good_room most v.digits v.len
      ∷ leb (least k) v.len
      ∷ all_digits (value v)
      ∷ leb v.tries full_tries
      ∷ (not v.verified || eqb v.tries full_tries)
      ∷ []

  pub code_room : good_room most v.digits v.len ≡ true
  unfolding good_code
  code_room = nth code_tests 0 g

  pub code_least : least k ≤ v.len
  unfolding good_code
  code_least = leb-true (least k) v.len (nth code_tests 1 g)

  pub code_most : v.len ≤ 12
  code_most = room_len most v.digits v.len code_room

  pub code_digits : all_digits (value v) ≡ true
  unfolding good_code
  code_digits = nth code_tests 2 g

  pub code_tries : v.tries ≤ 3
  unfolding good_code
  code_tries = leb-true v.tries full_tries (nth code_tests 3 g)

  pub code_length : length (value v) ≡ v.len
  code_length = room_taken most v.digits v.len code_room

  pub code_allowed : allowed k (value v) ≡ true
  unfolding allowed
  code_allowed = simp (code_length, le-leb (least k) v.len code_least, le-leb v.len most code_most, code_digits)

  -- the same value with other tries and another mark
  pub marked_good : (t : ℕ) (m : Bool) → t ≤ 3 → (not m || eqb t full_tries) ≡ true → good_code k (marked v t m) ≡ true
  unfolding good_code
  marked_good t m h e = simp (code_room, le-leb (least k) v.len code_least, code_digits, le-leb t 3 h, e)

-- the least lengths
pub least_some : (k : ℕ) → 4 ≤ least k
unfolding least
least_some k = split (λ n. 4 ≤ n) (eqb k 0) (λ e. omega arith) (λ e. split (λ n. 4 ≤ n) (eqb k 1) (λ e. omega arith) (λ e. omega arith))

-- An allowed value has at most twelve bytes.
pub allowed_most : (k : ℕ) (d : Bytes) → allowed k d ≡ true → length d ≤ 12
unfolding allowed
allowed_most k d a = leb-true (length d) most (and_right (leb (least k) (length d)) _ (and_left _ (all_digits d) a))

-- A stored value that is allowed makes a good code.
pub stored_good : (k : ℕ) (d : Bytes) → allowed k d ≡ true → good_code k (storing d 3 false) ≡ true
unfolding good_code allowed
stored_good k d a =
    let first : (leb (least k) (length d) && leb (length d) most) ≡ true = and_left _ (all_digits d) a in
    let most-12 : length d ≤ 12 = allowed_most k d a in
    let digits : all_digits d ≡ true = and_right (leb (least k) (length d) && leb (length d) most) (all_digits d) a in
    simp (filled_room 12 d most-12, take_filled 12 d most-12, and_left (leb (least k) (length d)) (leb (length d) most) first, digits)

-- Good codes.
module _ (codes : List Code) (g : good_codes codes ≡ true) where
  abbrev codes_tests : List Bool
  codes_tests =
      eqb (length codes) 3
      ∷ good_code PUK (code_of codes PUK)
      ∷ good_code PIN1 (code_of codes PIN1)
      ∷ good_code PIN2 (code_of codes PIN2)
      ∷ []

  pub three_codes : length codes ≡ 3
  unfolding good_codes
  three_codes = eqb-true (length codes) 3 (nth codes_tests 0 g)

  pub good_code_lem : (k : ℕ) → k < 3 → good_code k (code_of codes k) ≡ true
  unfolding good_codes
  good_code_lem = below_three (λ k. good_code k (code_of codes k) ≡ true) (nth codes_tests 1 g) (nth codes_tests 2 g) (nth codes_tests 3 g)

pub codes_good : (codes : List Code) → length codes ≡ 3 → ((k : ℕ) → k < 3 → good_code k (code_of codes k) ≡ true) → good_codes codes ≡ true
unfolding good_codes
codes_good codes n each = simp (eq-eqb (length codes) 3 n, each 0 (omega arith), each 1 (omega arith), each 2 (omega arith))

-- Good unblocking counts.
module _ (counts : List ℕ) (g : good_counts counts ≡ true) where
  abbrev counts_tests : List Bool
  counts_tests = eqb (length counts) 2 ∷ leb (count_of counts PIN1) no_limit ∷ leb (count_of counts PIN2) no_limit ∷ []

  pub two_counts : length counts ≡ 2
  unfolding good_counts
  two_counts = eqb-true (length counts) 2 (nth counts_tests 0 g)

  pub good_place : (i : ℕ) → i < 2 → get_or counts i 0 ≤ no_limit
  unfolding good_counts
  good_place zero h = leb-true (get_or counts 0 0) no_limit (nth counts_tests 1 g)
  good_place (suc zero) h = leb-true (get_or counts 1 0) no_limit (nth counts_tests 2 g)
  good_place (suc (suc i)) h = absurd (omega arith)

  pub good_count : (k : ℕ) → k < 3 → 1 ≤ k → count_of counts k ≤ no_limit
  good_count k h low = good_place (k - 1) (omega arith)

pub counts_good : (counts : List ℕ) → length counts ≡ 2 → ((i : ℕ) → i < 2 → get_or counts i 0 ≤ no_limit) → good_counts counts ≡ true
unfolding good_counts
counts_good counts n each =
    simp (eq-eqb (length counts) 2 n, le-leb (get_or counts 0 0) no_limit (each 0 (omega arith)), le-leb (get_or counts 1 0) no_limit (each 1 (omega arith)))

-- Good records: the first, and the others.
pub records_first : (n : ℕ) (r : Record) (rs : List Record) → good_records (suc n) (r ∷ rs) ≡ (good_record r && good_records n rs)
unfolding good_records
records_first zero r rs = sym (and-true (good_record r))
records_first (suc n) r rs = rw (records_first n r rs) (and_assoc (good_record r) (good_records n rs) _)

-- A good profile.
module _ (p : Profile) (g : good_profile p ≡ true) where
  abbrev profile_tests : List Bool
  profile_tests =
      eqb (length p.keys) 4
      ∷ good_references p.keys p.references
      ∷ eqb (length p.personal) 16
      ∷ good_records 16 p.personal
      ∷ []

  pub four_keys : length p.keys ≡ 4
  unfolding good_profile
  four_keys = eqb-true (length p.keys) 4 (nth profile_tests 0 g)

  pub good_references_lem : good_references p.keys p.references ≡ true
  unfolding good_profile
  good_references_lem = nth profile_tests 1 g

  pub sixteen_records : length p.personal ≡ 16
  unfolding good_profile
  sixteen_records = eqb-true (length p.personal) 16 (nth profile_tests 2 g)

  pub good_records_lem : good_records 16 p.personal ≡ true
  unfolding good_profile
  good_records_lem = nth profile_tests 3 g

-- A good card's parts.
module _ (c : Card) (g : good c ≡ true) where
  abbrev card_tests : List Bool
  card_tests =
      good_codes c.codes
      ∷ good_counts c.counts
      ∷ good_profile c.profile
      ∷ good_session c.profile.keys c.session
      ∷ []

  pub good_codes_lem : good_codes c.codes ≡ true
  unfolding good
  good_codes_lem = nth card_tests 0 g

  pub good_counts_lem : good_counts c.counts ≡ true
  unfolding good
  good_counts_lem = nth card_tests 1 g

  pub good_profile_lem : good_profile c.profile ≡ true
  unfolding good
  good_profile_lem = nth card_tests 2 g

  pub good_session_lem : good_session c.profile.keys c.session ≡ true
  unfolding good
  good_session_lem = nth card_tests 3 g

-- A good card made of good parts.
pub good_card : (c : Card) → good_codes c.codes ≡ true → good_counts c.counts ≡ true → good_profile c.profile ≡ true
    → good_session c.profile.keys c.session ≡ true → good c ≡ true
unfolding good
good_card c codes counts profile session = simp (codes, counts, profile, session)

-- Each of good codes has a place.
pub code_place : (codes : List Code) → good_codes codes ≡ true → (k : ℕ) → k < 3 → k < length codes
code_place codes g k h = omega (arith, three_codes codes g)

-- Codes read back after one was replaced.
module _ (l : List Code) (j : ℕ) (v : Code) (h : j < length l) where
  pub code_same : get_or (set l j v) j zero_code ≡ v
  code_same = get_or-set_same l j v zero_code h

  pub code_other : (k : ℕ) → k ≢ j → get_or (set l j v) k zero_code ≡ get_or l k zero_code
  code_other k n = get_or-set_other l j k v zero_code n
