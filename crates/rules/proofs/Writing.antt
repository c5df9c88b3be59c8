-- What the writer makes of a good card loads, as that card after a power reset; and what the call gives.
use mathlib.Core.Path.{◌≡◌, refl, ap, subst}
use mathlib.Core.Bool.{Bool, true, false, ◌&&◌, ◌||◌, false≢true}
use mathlib.Core.List.{List, [], ◌∷◌, ◌++◌, append_assoc, append-nil}
use Prim.Native.Nat.{ℕ, ◌+◌, ◌≤◌, ◌<◌}
use native.Mathlib.Omega.{arith}
use lib.Dec.{eqb, leb}
use lib.ListN.{length, take, drop, length-append}
use borrow.Author.Tests.{eqb-true, ne_eqb, le-leb, lt-leb, lt-ltb, le-ltb}
use Rattle.octets.specs.Octets.{Bytes, all, digit, good_room}
use Rattle.octets.proofs.Tests.{by_test, and_left, and_right, or_cases}
use Rattle.rules.specs.declared.Card.{Card}
use Rattle.rules.specs.declared.Code.{Code}
use Rattle.rules.specs.declared.Record.{Record}
use Rattle.rules.specs.declared.Profile.{Profile}
use Rattle.rules.specs.declared.JobKind.TheVariants.{Authenticate, Sign}
use Rattle.rules.specs.Numbers.{unwritten, wrote}
use Rattle.rules.specs.Codes.{PUK, PIN1, PIN2, least, most, value, marked, code_of, closed, no_limit, no_limits, unlimited}
use Rattle.rules.specs.Keys.{signature_key, authentication_key, of_class, present, usable, active_key}
use Rattle.rules.specs.State.{good_code, good_codes, good_counts, good_references, good_record, good_records, good_profile, good}
use Rattle.rules.specs.Edge.{power_reset}
use Rattle.rules.specs.Image.{got, continued, pure, byte_if, bytes_if, read_code, code_section, read_key, read_keys, key_section}
use Rattle.rules.specs.Image.{reference_section, read_personal, read_records, personal_section, count_section, read_counts, end, card_of}
use Rattle.rules.specs.Image.{read_card, loaded, load}
use Rattle.rules.specs.Writer.{code_image, codes_image, keys_among, keys_image, key_bytes, references_image, record_image}
use Rattle.rules.specs.Writer.{records_image, personal_image, counts_image, image_of, write}
use Rattle.rules.specs.ImageLaws.{LastSection}
use Rattle.rules.proofs.Parts.{room_len, room_taken, room_filled, code_room, code_least, code_most, code_digits, code_tries, code_length}
use Rattle.rules.proofs.Parts.{three_codes, good_code_lem, four_keys, good_references_lem, sixteen_records, good_records_lem}
use Rattle.rules.proofs.Parts.{records_first, good_codes_lem, good_counts_lem, good_profile_lem, good_session_lem, good_card, two_counts, good_count}
use Rattle.rules.proofs.Sessions.{references_length, active_usable}
use Rattle.rules.proofs.Loading.{Fresh, fresh}

-- A byte that passes its test.
byte_read : (test : ℕ → Bool) (n x : ℕ) (rest : Bytes) → test x ≡ true → byte_if test n (x ∷ rest) ≡ got x rest
unfolding byte_if
byte_read test n x rest e = rw e

-- Bytes that pass their test.
bytes_read : (test : ℕ → Bool) (n : ℕ) (d rest : Bytes) → all test d ≡ true → bytes_if test n (length d) (d ++ rest) ≡ got d rest
unfolding bytes_if
bytes_read test n [] rest e = refl
bytes_read test n (x ∷ d) rest e =
    rw (byte_read test n x (d ++ rest) (and_left (test x) (all test d) e), bytes_read test n d rest (and_right (test x) (all test d) e))

-- The same, counted otherwise.
count_read : (test : ℕ → Bool) (n count : ℕ) (d rest : Bytes) → length d ≡ count → all test d ≡ true
    → bytes_if test n count (d ++ rest) ≡ got d rest
count_read test n count d rest e h = rw (← e) (bytes_read test n d rest h)

any_passes : (d : Bytes) → all (λ x. true) d ≡ true
any_passes [] = refl
any_passes (x ∷ d) = any_passes d

-- A good code, read back with its mark off.
code_read : (k : ℕ) (v : Code) (rest : Bytes) → good_code k v ≡ true → read_code k (code_image v ++ rest) ≡ got (marked v v.tries false) rest
unfolding read_code code_image
code_read k v rest g =
    let limits : (leb (least k) v.len && leb v.len most) ≡ true =
    simp (le-leb (least k) v.len (code_least k v g), le-leb v.len 12 (code_most k v g)) in
    let digits : bytes_if digit 23 v.len (value v ++ (v.tries ∷ rest)) ≡ got (value v) (v.tries ∷ rest) =
    count_read digit 23 v.len (value v) (v.tries ∷ rest) (code_length k v g) (code_digits k v g) in
    rw (
      append_assoc (value v) (v.tries ∷ []) rest,
      byte_read _ 23 v.len (value v ++ (v.tries ∷ rest)) limits,
      digits,
      byte_read _ 23 v.tries rest (le-leb v.tries 3 (code_tries k v g)),
      room_filled 12 v.digits v.len (code_room k v g),
      code_length k v g,
    )

-- Three good codes, read back with their marks off.
codes_read : (codes : List Code) (rest : Bytes) → good_codes codes ≡ true
    → code_section (codes_image codes ++ rest) ≡ got (closed (closed (closed codes PUK) PIN1) PIN2) rest
unfolding code_section codes_image byte_if
codes_read [] rest g = absurd (omega (arith, three_codes [] g))
codes_read (a ∷ []) rest g = absurd (omega (arith, three_codes (a ∷ []) g))
codes_read (a ∷ b ∷ []) rest g = absurd (omega (arith, three_codes (a ∷ b ∷ []) g))
codes_read (a ∷ b ∷ c ∷ []) rest g =
    let each : (k : ℕ) → k < 3 → good_code k (code_of (a ∷ b ∷ c ∷ []) k) ≡ true = good_code_lem (a ∷ b ∷ c ∷ []) g in
    rw (
      append_assoc (code_image a) (code_image b ++ code_image c) rest,
      append_assoc (code_image b) (code_image c) rest,
      code_read PUK a (code_image b ++ (code_image c ++ rest)) (each 0 (omega arith)),
      code_read PIN1 b (code_image c ++ rest) (each 1 (omega arith)),
      code_read PIN2 c rest (each 2 (omega arith)),
    )
codes_read (a ∷ b ∷ c ∷ d ∷ l) rest g = absurd (omega (arith, three_codes (a ∷ b ∷ c ∷ d ∷ l) g))

-- A class of which one key is usable has its mark: the signature keys, the authentication keys.
signature_mark : (a b c d : Bool) (key : ℕ) → usable (a ∷ b ∷ c ∷ d ∷ []) 2 key ≡ true → (a || b) ≡ true
unfolding present of_class
signature_mark true b c d key e = refl
signature_mark false true c d key e = refl
signature_mark false false c d key e =
    or_cases _ (eqb key 0x0100) (eqb key 0x0200) (and_right (present (false ∷ false ∷ c ∷ d ∷ []) key) (signature_key key) e)
    (λ t. absurd (false≢true (rw (eqb-true key 0x0100 t) at e)))
    (λ t. absurd (false≢true (rw (eqb-true key 0x0200 t) at e)))

authentication_mark : (a b c d : Bool) (key : ℕ) → usable (a ∷ b ∷ c ∷ d ∷ []) 1 key ≡ true → (c || d) ≡ true
unfolding present of_class
authentication_mark a b true d key e = refl
authentication_mark a b false true key e = refl
authentication_mark a b false false key e =
    or_cases _ (eqb key 0x1100) (eqb key 0x1200) (and_right (present (a ∷ b ∷ false ∷ false ∷ []) key) (authentication_key key) e)
    (λ t. absurd (false≢true (rw (eqb-true key 0x1100 t) at e)))
    (λ t. absurd (false≢true (rw (eqb-true key 0x1200 t) at e)))

-- Four marks of which each class has one, read back.
marks_read : (a b c d : Bool) (rest : Bytes) → (a || b) ≡ true → (c || d) ≡ true
    → key_section (keys_image (a ∷ b ∷ c ∷ d ∷ []) ++ rest) ≡ got (a ∷ b ∷ c ∷ d ∷ []) rest
unfolding key_section read_keys read_key byte_if keys_image keys_among present key_bytes
marks_read false false c d rest e f = absurd (false≢true e)
marks_read false true false false rest e f = absurd (false≢true f)
marks_read false true false true rest e f = refl
marks_read false true true false rest e f = refl
marks_read false true true true rest e f = refl
marks_read true false false false rest e f = absurd (false≢true f)
marks_read true false false true rest e f = refl
marks_read true false true false rest e f = refl
marks_read true false true true rest e f = refl
marks_read true true false false rest e f = absurd (false≢true f)
marks_read true true false true rest e f = refl
marks_read true true true false rest e f = refl
marks_read true true true true rest e f = refl

-- The marks of good references, read back.
keys_read : (keys : List Bool) (references rest : Bytes) → length keys ≡ 4 → good_references keys references ≡ true
    → key_section (keys_image keys ++ rest) ≡ got keys rest
keys_read [] references rest n g = absurd (omega arith)
keys_read (a ∷ []) references rest n g = absurd (omega arith)
keys_read (a ∷ b ∷ []) references rest n g = absurd (omega arith)
keys_read (a ∷ b ∷ c ∷ []) references rest n g = absurd (omega arith)
keys_read (a ∷ b ∷ c ∷ d ∷ []) references rest n g =
    marks_read a b c d rest
    (signature_mark a b c d (active_key references 2) (active_usable (a ∷ b ∷ c ∷ d ∷ []) references g Sign))
    (authentication_mark a b c d (active_key references 1) (active_usable (a ∷ b ∷ c ∷ d ∷ []) references g Authenticate))
keys_read (a ∷ b ∷ c ∷ d ∷ e ∷ l) references rest n g = absurd (omega arith)

-- The record of 0033h, read back.
references_read : (keys : List Bool) (references rest : Bytes) → good_references keys references ≡ true
    → reference_section keys (references_image references ++ rest) ≡ got references rest
unfolding reference_section references_image byte_if
references_read keys references rest g =
    rw (
      count_read (λ x. true) 21 21 references rest (references_length keys references g) (any_passes references),
      active_usable keys references g Authenticate,
      active_usable keys references g Sign,
    )

-- A good record, read back.
personal_read : (r : Record) (rest : Bytes) → good_record r ≡ true → read_personal (record_image r ++ rest) ≡ got r rest
unfolding read_personal record_image
personal_read r rest g =
    let room : good_room 64 r.bytes r.len ≡ true = and_right (leb 1 r.len) _ g in
    let limits : (leb 1 r.len && leb r.len 64) ≡ true =
    simp (and_left (leb 1 r.len) _ g, le-leb r.len 64 (room_len 64 r.bytes r.len room)) in
    let size : length (take r.len r.bytes) ≡ r.len = room_taken 64 r.bytes r.len room in
    rw (
      byte_read _ 26 r.len (take r.len r.bytes ++ rest) limits,
      count_read (λ x. true) 21 r.len (take r.len r.bytes) rest size (any_passes (take r.len r.bytes)),
      room_filled 64 r.bytes r.len room,
      size,
    )

records_read : (rs : List Record) (rest : Bytes) → good_records (length rs) rs ≡ true
    → read_records (length rs) (records_image rs ++ rest) ≡ got rs rest
unfolding read_records records_image
records_read [] rest g = refl
records_read (r ∷ rs) rest g =
    let both : (good_record r && good_records (length rs) rs) ≡ true = rw (records_first (length rs) r rs) at g in
    rw (
      append_assoc (record_image r) (records_image rs) rest,
      personal_read r (records_image rs ++ rest) (and_left (good_record r) _ both),
      records_read rs rest (and_right (good_record r) _ both),
    )

-- Sixteen good records, read back.
personals_read : (rs : List Record) (rest : Bytes) → length rs ≡ 16 → good_records 16 rs ≡ true
    → personal_section (personal_image rs ++ rest) ≡ got rs rest
unfolding personal_section personal_image byte_if
personals_read rs rest n g =
    subst (λ (m : ℕ). good_records m rs ≡ true → read_records m (records_image rs ++ rest) ≡ got rs rest) n (records_read rs rest) g

-- Good counts of which one is not A5h, read back; good counts at the end of an image.
counts_read : (counts : List ℕ) (rest : Bytes) → good_counts counts ≡ true → unlimited counts ≡ false
    → read_counts (counts_image counts ++ rest) ≡ got counts rest
unfolding read_counts count_section counts_image
counts_read [] rest g u = absurd (omega (arith, two_counts [] g))
counts_read (a ∷ []) rest g u = absurd (omega (arith, two_counts (a ∷ []) g))
counts_read (a ∷ b ∷ []) rest g u =
    let each = good_count (a ∷ b ∷ []) g in
    rw (
      u,
      byte_read _ 22 2 (a ∷ b ∷ rest) refl,
      byte_read _ 28 a (b ∷ rest) (le-leb a no_limit (each 1 (omega arith) (omega arith))),
      byte_read _ 28 b rest (le-leb b no_limit (each 2 (omega arith) (omega arith))),
      u,
    )
counts_read (a ∷ b ∷ c ∷ l) rest g u = absurd (omega (arith, two_counts (a ∷ b ∷ c ∷ l) g))

unlimited_counts : (counts : List ℕ) → good_counts counts ≡ true → unlimited counts ≡ true → counts ≡ no_limits
unlimited_counts [] g u = absurd (omega (arith, two_counts [] g))
unlimited_counts (a ∷ []) g u = absurd (omega (arith, two_counts (a ∷ []) g))
unlimited_counts (a ∷ b ∷ []) g u =
    rw (eqb-true a no_limit (and_left _ (eqb b no_limit) u), eqb-true b no_limit (and_right (eqb a no_limit) _ u))
unlimited_counts (a ∷ b ∷ c ∷ l) g u = absurd (omega (arith, two_counts (a ∷ b ∷ c ∷ l) g))

counts_ended : (counts : List ℕ) → good_counts counts ≡ true → read_counts (counts_image counts ++ []) ≡ got counts []
unfolding read_counts counts_image
counts_ended counts g =
    by_test _ (unlimited counts)
    (λ u. rw (u, unlimited_counts counts g u))
    (counts_read counts [] g)

-- A good card's image, read as that card after a power reset, but for its unblocking counts and what stands behind it.
image_read : (c : Card) (rest : Bytes) → good c ≡ true → read_card (image_of c ++ rest)
    ≡ continued (read_counts (counts_image c.counts ++ rest)) (λ counts b. continued (end b) (λ _. pure (card_of
    (closed (closed (closed c.codes PUK) PIN1) PIN2) c.profile.keys c.profile.references c.profile.personal counts)))
unfolding read_card image_of
image_read c rest g =
    let p : Profile = c.profile in
    let is_good : good_profile p ≡ true = good_profile_lem c g in
    let references : good_references p.keys p.references ≡ true = good_references_lem p is_good in
    rw (
      append_assoc (codes_image c.codes),
      append_assoc (keys_image p.keys),
      append_assoc (references_image p.references),
      append_assoc (personal_image p.personal),
      codes_read c.codes _ (good_codes_lem c g),
      keys_read p.keys p.references _ (four_keys p is_good) references,
      references_read p.keys p.references _ references,
      personals_read p.personal _ (sixteen_records p is_good) (good_records_lem p is_good),
    )

pub image_loads : (c : Card) → good c ≡ true → load (image_of c) ≡ (0, (power_reset c).1)
unfolding load loaded end power_reset
image_loads c g = rw (← append-nil (image_of c), image_read c [] g, counts_ended c.counts (good_counts_lem c g), g)

-- A byte behind an image with a section of unblocking counts; bytes behind one without.
pub image_followed : (c : Card) → good c ≡ true → unlimited c.counts ≡ false → (x : ℕ) (rest : Bytes) → (load (image_of c ++ x ∷ rest)).0 ≡ 27
unfolding load loaded end
image_followed c g u x rest = rw (image_read c (x ∷ rest) g, counts_read c.counts (x ∷ rest) (good_counts_lem c g) u)

pub last_section_lem : (c : Card) → good c ≡ true → unlimited c.counts ≡ true → LastSection c
unfolding load loaded read_counts count_section counts_image byte_if end power_reset
last_section_lem c g u = record {
  count = λ x rest n. rw (image_read c (x ∷ rest) g, u, ne_eqb x 2 n);
  missing = rw (image_read c (2 ∷ []) g, u);
  missing_second = λ a h. rw (image_read c (2 ∷ a ∷ []) g, u, le-leb a no_limit h);
  over = λ a rest h. rw (image_read c (2 ∷ a ∷ rest) g, u, lt-leb a no_limit h);
  over_second = λ a b rest h k. rw (image_read c (2 ∷ a ∷ b ∷ rest) g, u, le-leb a no_limit h, lt-leb b no_limit k);
  twice = λ rest. rw (image_read c (2 ∷ no_limit ∷ no_limit ∷ rest) g, u);
  loads = λ a b h k other. rw (image_read c (2 ∷ a ∷ b ∷ []) g, u, le-leb a no_limit h, le-leb b no_limit k, other, g);
}

-- So it has the length of an image that loads.
image_sizes : (c : Card) → good c ≡ true → (84 ≤ length (image_of c)) × (length (image_of c) ≤ 1118)
image_sizes c g =
    let known : Fresh (image_of c) (load (image_of c)).1 = fresh (image_of c) (ap (λ (r : ℕ × Card). r.0) (image_loads c g)) in
    (known.at_least, known.at_most)

pub image_least : (c : Card) → good c ≡ true → 84 ≤ length (image_of c)
image_least c g = (image_sizes c g).0

pub image_most : (c : Card) → good c ≡ true → length (image_of c) ≤ 1118
image_most c g = (image_sizes c g).1

-- The section of unblocking counts has three bytes more than none.
image_parts : (c : Card) → length (image_of c)
    ≡ length (codes_image c.codes) + (length (keys_image c.profile.keys) + (length (references_image c.profile.references)
    + (length (personal_image c.profile.personal) + length (counts_image c.counts))))
unfolding image_of
image_parts c = simp length-append

without_limits : Card → Card
without_limits c = record { codes = c.codes; counts = no_limits; profile = c.profile; session = c.session }

pub image_limited : (c : Card) → good c ≡ true → unlimited c.counts ≡ false → 87 ≤ length (image_of c)
unfolding without_limits counts_image good_counts
image_limited c g u =
    let free : Card = without_limits c in
    let is_good : good free ≡ true = good_card free (good_codes_lem c g) refl (good_profile_lem c g) (good_session_lem c g) in
    let three : length (counts_image c.counts) ≡ 3 = rw u in
    omega (arith, image_parts c, image_parts free, image_least free is_good, three)

-- What the call gives: on a bad state, with a short buffer, else.
module _ (c : Card) (buffer : Bytes) where
  pub write_bad : good c ≡ false → write c buffer ≡ (unwritten 1, buffer)
  unfolding write
  write_bad g = rw g

  pub write_short : good c ≡ true → length buffer < 1118 → write c buffer ≡ (unwritten 2, buffer)
  unfolding write
  write_short g h = rw (g, lt-ltb (length buffer) 1118 h)

  pub write_whole : good c ≡ true → 1118 ≤ length buffer
      → write c buffer ≡ (wrote (length (image_of c)), image_of c ++ drop (length (image_of c)) buffer)
  unfolding write
  write_whole g h = rw (g, le-ltb (length buffer) 1118 h)
