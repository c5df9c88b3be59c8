-- What load gives: a good card in a new session, of an image of 84 to 1,118 bytes; or a fault beside the all-zero state.
use mathlib.Core.Path.{◌≡◌, refl, sym, ap, ◌∙◌}
use mathlib.Core.Bool.{Bool, true, false, cond, not, ◌&&◌, ◌||◌, or-false}
use mathlib.Core.List.{List, [], ◌∷◌, ◌++◌, append_assoc, append-nil}
use Prim.Native.Nat.{ℕ, zero, suc, ◌+◌, ◌*◌, ◌≤◌, ◌<◌}
use native.Mathlib.Omega.{arith}
use lib.Dec.{eqb, leb, ltb}
use lib.ListN.{length, take, drop}
use lib.Seq.{drop-drop, drop_at}
use borrow.Author.Tests.{eqb-true, leb-true, ltb-true, eq-eqb, ne_eqb, le-leb, not-true}
use Rattle.octets.specs.Octets.{Bytes, byte_at, word, member, all, all_bytes, blank, filled, good_room}
use Rattle.octets.proofs.Tests.{and_left, and_right, or_cases, below_three}
use Rattle.octets.proofs.Strings.{all_right, take_filled}
use Rattle.octets.proofs.Words.{halves_of_word}
use Rattle.octets.proofs.Lists.{between, byte_after, rest_after}
use Rattle.rules.specs.declared.Card.{Card}
use Rattle.rules.specs.declared.Code.{Code}
use Rattle.rules.specs.declared.Record.{Record}
use Rattle.rules.specs.Codes.{PUK, PIN1, PIN2, least, most, allowed, storing, code_of, no_limit, no_limits, count_of}
use Rattle.rules.specs.Codes.{unlimited}
use Rattle.rules.specs.Keys.{signature_key, authentication_key, present, usable, active_key}
use Rattle.rules.specs.Session.{new_session}
use Rattle.rules.specs.State.{good_code, good_codes, good_counts, good_references, good_record, good_records, good_profile, good}
use Rattle.rules.specs.Image.{Read, got, fault, Reading, continued, require, byte_if, bytes_if, read_code}
use Rattle.rules.specs.Image.{code_section, read_key, read_keys, key_marks, key_section, reference_section, read_personal}
use Rattle.rules.specs.Image.{read_records, personal_section, count_section, read_counts, end, card_of, read_card, zero_card, loaded, load}
use Rattle.rules.specs.Writer.{code_image, codes_image, keys_among, keys_on, key_bytes, keys_image, references_image}
use Rattle.rules.specs.Writer.{record_image, records_image, personal_image, counts_image, image_of}
use Rattle.rules.specs.Counting.{image_from, tries_at_load, behind_records, last_section, count_at_load}
use Rattle.rules.specs.Demands.{Images}
use Rattle.rules.proofs.Parts.{filled_room, marked_good, stored_good, codes_good, records_first, good_card}
use Rattle.rules.proofs.Sessions.{new_session_good}

-- A fault's number.
record FaultNumber (n : ℕ) : Type 0 where
  least : 21 ≤ n
  most : n ≤ 28

-- What a reading ensures: Q of what was read and the bytes after it, or a fault's number.
abbrev EnsuresOf : {A : Type 0} → (A → Bytes → Type 0) → Read A → Type 0
EnsuresOf Q (got a rest) = Q a rest
EnsuresOf Q (fault n) = FaultNumber n

-- As a record, so that antt finds the reading from the goal.
record Ensures {A : Type 0} (Q : A → Bytes → Type 0) (r : Read A) : Type 0 where
  ensured : EnsuresOf Q r

found : {A : Type 0} {Q : A → Bytes → Type 0} {a : A} {rest : Bytes} → Q a rest → Ensures Q (got a rest)
found q = record { ensured = q }

failed : {A : Type 0} {Q : A → Bytes → Type 0} {n : ℕ} → FaultNumber n → Ensures Q (fault n)
failed f = record { ensured = f }

-- One reading after another.
goes_on : {A B : Type 0} {Q : A → Bytes → Type 0} {R : B → Bytes → Type 0} {r : Read A} {next : A → Reading B}
    → Ensures Q r → ((a : A) (rest : Bytes) → Q a rest → Ensures R (next a rest)) → Ensures R (continued r next)
goes_on {r = got a rest} h g = g a rest h.ensured
goes_on {r = fault n} h g = failed h.ensured

-- What follows from what a reading ensures.
follows : {A : Type 0} {Q R : A → Bytes → Type 0} {r : Read A} → Ensures Q r → ((a : A) (rest : Bytes) → Q a rest → R a rest) → Ensures R r
follows {r = got a rest} h g = found (g a rest h.ensured)
follows {r = fault n} h g = failed h.ensured

-- Of the bytes b, low to high were used, and P holds of what was read and of the bytes after it.
record Used {A : Type 0} (P : A → Bytes → Type 0) (low high : ℕ) (b : Bytes) (a : A) (rest : Bytes) : Type 0 where
  what : P a rest
  size : (low + length rest ≤ length b) × (length b ≤ high + length rest)

-- What is tested before reading goes on.
tested : {A : Type 0} {Q : A → Bytes → Type 0} (t : Bool) (n : ℕ) (a : A) (rest : Bytes) → FaultNumber n
    → (t ≡ true → Q a rest) → Ensures Q (cond t (got a rest) (fault n))
tested true n a rest f h = found (h refl)
tested false n a rest f h = failed f

-- A test that reads nothing.
record Required (t : Bool) (b rest : Bytes) : Type 0 where
  passed : t ≡ true
  stays : rest ≡ b

require_ensures : (t : Bool) (n : ℕ) (b : Bytes) → FaultNumber n → Ensures (Used (λ _ rest. Required t b rest) 0 0 b) (require t n b)
require_ensures t n b f = tested t n t b f (λ e. record { what = record { passed = e; stays = refl }; size = omega arith })

-- One byte that passed a test.
record OneByte (test : ℕ → Bool) (b : Bytes) (x : ℕ) (rest : Bytes) : Type 0 where
  joined : b ≡ x ∷ rest
  passed : test x ≡ true

byte_if_ensures : (test : ℕ → Bool) (n : ℕ) (b : Bytes) → FaultNumber n → Ensures (Used (OneByte test b) 1 1 b) (byte_if test n b)
unfolding byte_if
byte_if_ensures test n [] f = failed (record { least = omega arith; most = omega arith })
byte_if_ensures test n (x ∷ b) f =
    tested (test x) n x b f (λ e. record { what = record { joined = refl; passed = e }; size = omega arith })

-- The faults of the sections.
numbered : (n : ℕ) → leb 21 n ≡ true → leb n 28 ≡ true → FaultNumber n
numbered n l m = record { least = leb-true 21 n l; most = leb-true n 28 m }

-- A section's count.
count_ensures : (n : ℕ) (b : Bytes) → Ensures (Used (λ _ rest. b ≡ n ∷ rest) 1 1 b) (byte_if (λ x. eqb x n) 22 b)
count_ensures n b = follows (byte_if_ensures _ 22 b (numbered 22 refl refl)) (λ x rest h.
    record { what = rw (← eqb-true x n h.what.passed) h.what.joined; size = h.size })

-- n bytes that each passed a test.
record SomeBytes (test : ℕ → Bool) (n : ℕ) (b : Bytes) (d : Bytes) (rest : Bytes) : Type 0 where
  joined : b ≡ d ++ rest
  passed : all test d ≡ true
  number : length d ≡ n

bytes_if_ensures : (test : ℕ → Bool) (f n : ℕ) (b : Bytes) → FaultNumber f → Ensures (Used (SomeBytes test n b) n n b) (bytes_if test f n b)
unfolding bytes_if
bytes_if_ensures test f zero b z = found (record { what = record { joined = refl; passed = refl; number = refl }; size = omega arith })
bytes_if_ensures test f (suc n) b z =
    goes_on (byte_if_ensures test f b z) (λ x b₁ h.
    goes_on (bytes_if_ensures test f n b₁ z) (λ d rest g.
    found (record {
      what = record {
        joined = rw (h.what.joined, g.what.joined);
        passed = rw h.what.passed g.what.passed;
        number = omega arith;
      };
      size = omega arith;
    })))

-- Code k, read where the image has it, from the bytes b.
record OneCode (image : Bytes) (k : ℕ) (b : Bytes) (v : Code) (rest : Bytes) : Type 0 where
  joined : b ≡ code_image v ++ rest
  is_good : good_code k v ≡ true
  unverified : v.verified ≡ false
  tries : v.tries ≡ tries_at_load image k
  next : rest ≡ image_from image (suc k)

read_code_ensures : (image : Bytes) (k : ℕ) (b : Bytes) → b ≡ image_from image k → Ensures (Used (OneCode image k b) (least k + 2) 14 b) (read_code k b)
unfolding read_code allowed code_image
read_code_ensures image k b e =
    goes_on (byte_if_ensures _ 23 b (numbered 23 refl refl)) (λ n b₁ h₁.
    goes_on (bytes_if_ensures _ 23 n b₁ (numbered 23 refl refl)) (λ d b₂ h₂.
    goes_on (byte_if_ensures _ 23 b₂ (numbered 23 refl refl)) (λ t rest h₃.
    let limits : (least k ≤ n) × (n ≤ 12) = between (least k) n most h₁.what.passed in
    let value : allowed k d ≡ true = simp (h₂.what.number, h₁.what.passed, h₂.what.passed) in
    let bytes : b ≡ length d ∷ (d ++ t ∷ rest) = rw (h₁.what.joined, h₂.what.joined, h₃.what.joined, h₂.what.number) in
    let there : image_from image k ≡ length d ∷ (d ++ t ∷ rest) = rw (← e) bytes in
    let kept : take (length d) (filled 12 d) ≡ d = take_filled 12 d (omega arith) in
    found (record {
      what = record {
        joined = rw (kept, append_assoc d (t ∷ []) rest) bytes;
        is_good = marked_good k (storing d 3 false) (stored_good k d value) t false (leb-true t 3 h₃.what.passed) refl;
        unverified = refl;
        tries = sym (byte_after (image_from image k) d t rest there);
        next = sym (rest_after (image_from image k) d t rest there);
      };
      size = omega arith;
    }))))

-- The codes section: 24 to 43 bytes.
record Codes (image : Bytes) (codes : List Code) (rest : Bytes) : Type 0 where
  joined : image ≡ codes_image codes ++ rest
  is_good : good_codes codes ≡ true
  unverified : (k : ℕ) → k < 3 → (code_of codes k).verified ≡ false
  tries : (k : ℕ) → k < 3 → (code_of codes k).tries ≡ tries_at_load image k
  next : rest ≡ image_from image 3

code_section_ensures : (image : Bytes) → Ensures (Used (Codes image) 24 43 image) (code_section image)
unfolding code_section least codes_image
code_section_ensures image =
    goes_on (count_ensures 3 image) (λ _ b₀ h₀.
    goes_on (read_code_ensures image PUK b₀ (rw h₀.what)) (λ puk b₁ h₁.
    goes_on (read_code_ensures image PIN1 b₁ h₁.what.next) (λ pin1 b₂ h₂.
    goes_on (read_code_ensures image PIN2 b₂ h₂.what.next) (λ pin2 b₃ h₃.
    let codes : List Code = puk ∷ pin1 ∷ pin2 ∷ [] in
    found (record {
      what = record {
        joined = rw (h₀.what, h₁.what.joined, h₂.what.joined, h₃.what.joined, append_assoc, append_assoc);
        is_good = codes_good codes refl
            (below_three (λ k. good_code k (code_of codes k) ≡ true) h₁.what.is_good h₂.what.is_good h₃.what.is_good);
        unverified =
            below_three (λ k. (code_of codes k).verified ≡ false) h₁.what.unverified h₂.what.unverified h₃.what.unverified;
        tries = below_three (λ k. (code_of codes k).tries ≡ tries_at_load image k) h₁.what.tries h₂.what.tries h₃.what.tries;
        next = h₃.what.next;
      };
      size = omega arith;
    })))))

-- A known key, and above the last one.
abbrev pub known_above : ℕ → ℕ → Bool
known_above last key = (signature_key key || authentication_key key) && ltb last key

-- A key number read from the bytes b, where they are bytes.
record OneKey (last : ℕ) (b : Bytes) (key : ℕ) (rest : Bytes) : Type 0 where
  joined : all_bytes b ≡ true → b ≡ key_bytes (key ∷ []) ++ rest
  passed : known_above last key ≡ true
  next : rest ≡ drop 2 b

read_key_ensures : (last : ℕ) (b : Bytes) → Ensures (Used (OneKey last b) 2 2 b) (read_key last b)
unfolding read_key key_bytes
read_key_ensures last b =
    goes_on (byte_if_ensures _ 21 b (numbered 21 refl refl)) (λ high b₁ h₁.
    goes_on (byte_if_ensures _ 21 b₁ (numbered 21 refl refl)) (λ low b₂ h₂.
    goes_on (require_ensures (known_above last (word high low)) 24 b₂ (numbered 24 refl refl)) (λ _ b₃ h₃.
    let bytes : b ≡ high ∷ low ∷ b₃ = rw (h₁.what.joined, h₂.what.joined, h₃.what.stays) in
    found (record {
      what = record {
        joined = λ e. bytes ∙ halves_of_word high low b₃ (rw bytes at e);
        passed = h₃.what.passed;
        next = sym (ap (λ (l : Bytes). drop 2 l) bytes);
      };
      size = omega arith;
    }))))

-- Known keys, strictly rising from above the last one.
abbrev rising : ℕ → List ℕ → Bool
rising last [] = true
rising last (key ∷ keys) = known_above last key && rising key keys

-- A key that is not above the last one is not among them.
not_among : (last x : ℕ) (keys : List ℕ) → rising last keys ≡ true → x ≤ last → member x keys ≡ false
not_among last x [] r h = refl
not_among last x (key ∷ keys) r h =
    let passed : known_above last key ≡ true = and_left (known_above last key) (rising key keys) r in
    let above : last < key = ltb-true last key (and_right (signature_key key || authentication_key key) (ltb last key) passed) in
    rw (ne_eqb x key (λ e. absurd (omega arith))) (not_among key x keys (and_right (known_above last key) (rising key keys) r) (omega arith))

-- One of the four known keys.
one_of_four : (P : ℕ → Type 0) → P 0x0100 → P 0x0200 → P 0x1100 → P 0x1200 → (key : ℕ)
    → (signature_key key || authentication_key key) ≡ true → P key
one_of_four P a b c d key e =
    or_cases (P key) (signature_key key) (authentication_key key) e
    (λ s. or_cases (P key) (eqb key 0x0100) (eqb key 0x0200) s
    (λ t. rw (eqb-true key 0x0100 t) a)
    (λ t. rw (eqb-true key 0x0200 t) b))
    (λ s. or_cases (P key) (eqb key 0x1100) (eqb key 0x1200) s
    (λ t. rw (eqb-true key 0x1100 t) c)
    (λ t. rw (eqb-true key 0x1200 t) d))

-- A key before others, where its mark is on.
abbrev before : Bool → ℕ → List ℕ → List ℕ
before mark key keys = cond mark (key ∷ keys) keys

marks_kept : (a b c d : Bool)
    → keys_on (a ∷ b ∷ c ∷ d ∷ []) ≡ before a 0x0100 (before b 0x0200 (before c 0x1100 (before d 0x1200 [])))
unfolding keys_among present
marks_kept a b c d = simp or-false

members_kept : (keys : List ℕ)
    → keys_on (key_marks keys)
    ≡ before (member 0x0100 keys) 0x0100 (before (member 0x0200 keys) 0x0200
    (before (member 0x1100 keys) 0x1100 (before (member 0x1200 keys) 0x1200 [])))
members_kept keys = marks_kept (member 0x0100 keys) (member 0x0200 keys) (member 0x1100 keys) (member 0x1200 keys)

-- A key before rising keys stands before them in what the marks give.
first_kept : (key : ℕ) (keys : List ℕ) → (signature_key key || authentication_key key) ≡ true → rising key keys ≡ true
    → keys_on (key_marks (key ∷ keys)) ≡ key ∷ keys_on (key_marks keys)
first_kept key keys known r =
    rw (members_kept (key ∷ keys), members_kept keys)
    (one_of_four
    (λ k. rising k keys ≡ true →
    before (member 0x0100 (k ∷ keys)) 0x0100 (before (member 0x0200 (k ∷ keys)) 0x0200
    (before (member 0x1100 (k ∷ keys)) 0x1100 (before (member 0x1200 (k ∷ keys)) 0x1200 [])))
    ≡ k ∷ before (member 0x0100 keys) 0x0100 (before (member 0x0200 keys) 0x0200
    (before (member 0x1100 keys) 0x1100 (before (member 0x1200 keys) 0x1200 []))))
    (λ a. simp (not_among 0x0100 0x0100 keys a (omega arith)))
    (λ a. simp (not_among 0x0200 0x0100 keys a (omega arith), not_among 0x0200 0x0200 keys a (omega arith)))
    (λ a. simp (
      not_among 0x1100 0x0100 keys a (omega arith),
      not_among 0x1100 0x0200 keys a (omega arith),
      not_among 0x1100 0x1100 keys a (omega arith),
    ))
    (λ a. simp (
      not_among 0x1200 0x0100 keys a (omega arith),
      not_among 0x1200 0x0200 keys a (omega arith),
      not_among 0x1200 0x1100 keys a (omega arith),
      not_among 0x1200 0x1200 keys a (omega arith),
    ))
    key known r)

-- Rising keys are the keys that their marks give, in the same order.
rising_kept : (last : ℕ) (keys : List ℕ) → rising last keys ≡ true → keys_on (key_marks keys) ≡ keys
unfolding keys_among present
rising_kept last [] r = refl
rising_kept last (key ∷ keys) r =
    let passed : known_above last key ≡ true = and_left (known_above last key) (rising key keys) r in
    let known : (signature_key key || authentication_key key) ≡ true = and_left _ (ltb last key) passed in
    let after : rising key keys ≡ true = and_right (known_above last key) (rising key keys) r in
    first_kept key keys known after ∙ ap (λ (l : List ℕ). key ∷ l) (rising_kept key keys after)

-- Key numbers read from the bytes b.
record SomeKeys (n last : ℕ) (b : Bytes) (keys : List ℕ) (rest : Bytes) : Type 0 where
  joined : all_bytes b ≡ true → b ≡ key_bytes keys ++ rest
  passed : rising last keys ≡ true
  number : length keys ≡ n
  next : rest ≡ drop (2 * n) b

read_keys_ensures : (n last : ℕ) (b : Bytes) → Ensures (Used (SomeKeys n last b) (2 * n) (2 * n) b) (read_keys n last b)
unfolding read_keys key_bytes
read_keys_ensures zero last b = found (record { what = record { joined = λ _. refl; passed = refl; number = refl; next = refl }; size = omega arith })
read_keys_ensures (suc n) last b =
    goes_on (read_key_ensures last b) (λ key b₁ h₁.
    goes_on (read_keys_ensures n key b₁) (λ keys rest h₂.
    let two-more : 2 + 2 * n ≡ 2 * suc n = omega arith in
    found (record {
      what = record {
        joined = λ e.
            let first : b ≡ key_bytes (key ∷ []) ++ b₁ = h₁.what.joined e in
            rw (← h₂.what.joined (all_right (λ x. ltb x 256) (key_bytes (key ∷ [])) b₁ (rw first at e))) first;
        passed = rw h₁.what.passed h₂.what.passed;
        number = omega arith;
        next =
            h₂.what.next ∙ ap (λ (l : Bytes). drop (2 * n) l) h₁.what.next ∙ drop-drop (2 * n) 2 b
            ∙ ap (λ (m : ℕ). drop m b) two-more;
      };
      size = omega arith;
    })))

-- A key of each class.
abbrev pub both_classes : List ℕ → Bool
both_classes keys = (member 0x0100 keys || member 0x0200 keys) && (member 0x1100 keys || member 0x1200 keys)

-- The keys section: 5 to 9 bytes.
record Keys (b : Bytes) (keys : List Bool) (rest : Bytes) : Type 0 where
  joined : all_bytes b ≡ true → b ≡ keys_image keys ++ rest
  four : length keys ≡ 4
  next : rest ≡ drop (suc (2 * byte_at b 0)) b

key_section_ensures : (b : Bytes) → Ensures (Used (Keys b) 5 9 b) (key_section b)
unfolding key_section keys_image
key_section_ensures b =
    goes_on (byte_if_ensures _ 22 b (numbered 22 refl refl)) (λ n b₁ h₁.
    let limits : (2 ≤ n) × (n ≤ 4) = between 2 n 4 h₁.what.passed in
    goes_on (read_keys_ensures n 0 b₁) (λ keys b₂ h₂.
    goes_on (require_ensures (both_classes keys) 24 b₂ (numbered 24 refl refl)) (λ _ b₃ h₃.
    found (record {
      what = record {
        joined = λ e.
            let all_but_one : all_bytes b₁ ≡ true = and_right (ltb n 256) (all_bytes b₁) (rw h₁.what.joined at e) in
            rw (h₁.what.joined, rising_kept 0 keys h₂.what.passed, h₂.what.number, h₃.what.stays) (ap (λ (l : Bytes). n ∷ l) (h₂.what.joined all_but_one));
        four = refl;
        next = rw (h₁.what.joined, h₃.what.stays) h₂.what.next;
      };
      size = omega arith;
    }))))

-- References whose active keys were tested usable.
abbrev pub active_usable_lem : List Bool → Bytes → ℕ → Bool
active_usable_lem keys references kind = usable keys kind (active_key references kind)

references_good : (keys : List Bool) (references : Bytes) → length references ≡ 21
    → (active_usable_lem keys references 1 && active_usable_lem keys references 2) ≡ true → good_references keys references ≡ true
unfolding good_references
references_good keys references h e = simp (
  eq-eqb (length references) 21 h,
  and_left (active_usable_lem keys references 1) (active_usable_lem keys references 2) e,
  and_right (active_usable_lem keys references 1) (active_usable_lem keys references 2) e,
)

-- The references section: 22 bytes.
record References (keys : List Bool) (b references rest : Bytes) : Type 0 where
  joined : b ≡ references_image references ++ rest
  is_good : good_references keys references ≡ true
  next : rest ≡ drop 22 b

reference_section_ensures : (keys : List Bool) (b : Bytes) → Ensures (Used (References keys b) 22 22 b) (reference_section keys b)
unfolding reference_section references_image
reference_section_ensures keys b =
    goes_on (count_ensures 21 b) (λ _ b₁ h₁.
    goes_on (bytes_if_ensures _ 21 21 b₁ (numbered 21 refl refl)) (λ references b₂ h₂.
    goes_on (require_ensures (active_usable_lem keys references 1 && active_usable_lem keys references 2) 25 b₂ (numbered 25 refl refl)) (λ _ b₃ h₃.
    found (record {
      what = record {
        joined = rw (h₁.what, h₂.what.joined, h₃.what.stays);
        is_good = references_good keys references h₂.what.number h₃.what.passed;
        next = rw (h₁.what, h₂.what.joined, h₃.what.stays) (sym (drop_at references b₂ 21 h₂.what.number));
      };
      size = omega arith;
    }))))

-- A record read from the bytes b.
record OneRecord (b : Bytes) (r : Record) (rest : Bytes) : Type 0 where
  joined : b ≡ record_image r ++ rest
  is_good : good_record r ≡ true
  next : rest ≡ drop (suc (byte_at b 0)) b

read_personal_ensures : (b : Bytes) → Ensures (Used (OneRecord b) 2 65 b) (read_personal b)
unfolding read_personal record_image
read_personal_ensures b =
    goes_on (byte_if_ensures _ 26 b (numbered 26 refl refl)) (λ n b₁ h₁.
    goes_on (bytes_if_ensures _ 21 n b₁ (numbered 21 refl refl)) (λ d rest h₂.
    let limits : (1 ≤ n) × (n ≤ 64) = between 1 n 64 h₁.what.passed in
    let size : length d ≤ 64 = omega arith in
    found (record {
      what = record {
        joined = rw (take_filled 64 d size, h₁.what.joined, h₂.what.joined, h₂.what.number);
        is_good = rw (le-leb 1 (length d) (omega arith)) (filled_room 64 d size);
        next = rw (h₁.what.joined, h₂.what.joined) (sym (drop_at d rest n h₂.what.number));
      };
      size = omega arith;
    })))

-- n records read from the bytes b.
record SomeRecords (n : ℕ) (b : Bytes) (rs : List Record) (rest : Bytes) : Type 0 where
  joined : b ≡ records_image rs ++ rest
  is_good : good_records n rs ≡ true
  number : length rs ≡ n
  next : rest ≡ behind_records n b

read_records_ensures : (n : ℕ) (b : Bytes) → Ensures (Used (SomeRecords n b) (2 * n) (65 * n) b) (read_records n b)
unfolding read_records good_records records_image behind_records
read_records_ensures zero b = found (record { what = record { joined = refl; is_good = refl; number = refl; next = refl }; size = omega arith })
read_records_ensures (suc n) b =
    goes_on (read_personal_ensures b) (λ r b₁ h₁.
    goes_on (read_records_ensures n b₁) (λ rs rest h₂.
    found (record {
      what = record {
        joined = rw (h₁.what.joined, h₂.what.joined, append_assoc);
        is_good = rw (records_first n r rs, h₁.what.is_good) h₂.what.is_good;
        number = omega arith;
        next = h₂.what.next ∙ ap (behind_records n) h₁.what.next;
      };
      size = omega arith;
    })))

-- The personal section: 33 to 1,041 bytes.
record Personal (b : Bytes) (rs : List Record) (rest : Bytes) : Type 0 where
  joined : b ≡ personal_image rs ++ rest
  is_good : good_records 16 rs ≡ true
  sixteen : length rs ≡ 16
  next : rest ≡ behind_records 16 (drop 1 b)

personal_section_ensures : (b : Bytes) → Ensures (Used (Personal b) 33 1041 b) (personal_section b)
unfolding personal_section personal_image
personal_section_ensures b =
    goes_on (count_ensures 16 b) (λ _ b₁ h₁.
    follows (read_records_ensures 16 b₁) (λ rs rest h₂. record {
      what = record {
        joined = rw (h₁.what, h₂.what.joined);
        is_good = h₂.what.is_good;
        sixteen = h₂.what.number;
        next = rw h₁.what h₂.what.next;
      };
      size = omega arith;
    }))

-- The unblocking counts, 3 bytes or none, which the bytes b give each PIN.
record Counts (b : Bytes) (counts : List ℕ) (rest : Bytes) : Type 0 where
  joined : b ≡ counts_image counts ++ rest
  is_good : good_counts counts ≡ true
  each : (k : ℕ) → k < 3 → 1 ≤ k → count_of counts k ≡ cond (eqb (length b) 0) no_limit (byte_at b k)

read_counts_ensures : (b : Bytes) → Ensures (Used (Counts b) 0 3 b) (read_counts b)
unfolding read_counts count_section counts_image good_counts
read_counts_ensures [] =
    found (record {
      what = record {
        joined = refl;
        is_good = refl;
        each = below_three (λ k. 1 ≤ k → count_of no_limits k ≡ no_limit) (λ none. absurd (omega arith)) (λ _. refl) (λ _. refl);
      };
      size = omega arith;
    })
read_counts_ensures (x ∷ b) =
    goes_on (count_ensures 2 (x ∷ b)) (λ _ b₁ h₁.
    goes_on (byte_if_ensures _ 28 b₁ (numbered 28 refl refl)) (λ pin1 b₂ h₂.
    goes_on (byte_if_ensures _ 28 b₂ (numbered 28 refl refl)) (λ pin2 b₃ h₃.
    let counts : List ℕ = pin1 ∷ pin2 ∷ [] in
    goes_on (require_ensures (not (unlimited counts)) 28 b₃ (numbered 28 refl refl)) (λ _ b₄ h₄.
    let some : eqb (length (x ∷ b)) 0 ≡ false = ne_eqb (length (x ∷ b)) 0 (omega arith) in
    let bytes : x ∷ b ≡ 2 ∷ pin1 ∷ pin2 ∷ b₄ = rw (h₁.what, h₂.what.joined, h₃.what.joined, h₄.what.stays) in
    found (record {
      what = record {
        joined = rw (not-true (unlimited counts) h₄.what.passed) bytes;
        is_good = simp (h₂.what.passed, h₃.what.passed);
        each =
            rw (some, bytes)
            (below_three (λ k. 1 ≤ k → count_of counts k ≡ byte_at (2 ∷ pin1 ∷ pin2 ∷ b₄) k) (λ none. absurd (omega arith)) (λ _. refl) (λ _. refl));
      };
      size = omega arith;
    })))))

end_ensures : (b : Bytes) → Ensures (λ _ _. b ≡ []) (end b)
unfolding end
end_ensures [] = found refl
end_ensures (x ∷ b) = failed (numbered 27 refl refl)

-- The all-zero state is not good.
pub zero_not_good : good zero_card ≡ false
unfolding good zero_card good_codes good_code good_room least blank
zero_not_good = refl

-- What is known of the card that load returned for an image.
pub record Fresh (image : Bytes) (c : Card) : Type 0 where
  pub is_good : good c ≡ true
  pub joined : all_bytes image ≡ true → image ≡ image_of c
  pub session : c.session ≡ new_session
  pub unverified : (k : ℕ) → k < 3 → (code_of c.codes k).verified ≡ false
  pub tries : (k : ℕ) → k < 3 → (code_of c.codes k).tries ≡ tries_at_load image k
  pub counts : (k : ℕ) → 1 ≤ k → k < 3 → count_of c.counts k ≡ count_at_load image k
  pub at_least : 84 ≤ length image
  pub at_most : length image ≤ 1118

-- The sections are the whole image.
sections_joined : {b₁ b₂ b₃ b₄ b₅ : Bytes} (image : Bytes) (codes : List Code) (keys : List Bool) (references : Bytes) (personal : List Record)
    (counts : List ℕ)
    → image ≡ codes_image codes ++ b₁ → (all_bytes b₁ ≡ true → b₁ ≡ keys_image keys ++ b₂) → b₂ ≡ references_image references ++ b₃
    → b₃ ≡ personal_image personal ++ b₄ → b₄ ≡ counts_image counts ++ b₅ → b₅ ≡ [] → all_bytes image ≡ true
    → image ≡ image_of (card_of codes keys references personal counts)
unfolding image_of
sections_joined {b₁} image codes keys references personal counts first second third fourth fifth last e =
    rw (first, second (all_right (λ x. ltb x 256) (codes_image codes) b₁ (rw first at e)), third, fourth, fifth, last, append-nil)

-- 84 = 24 + 5 + 22 + 33, and 1,118 = 43 + 9 + 22 + 1,041 + 3.
read_card_ensures : (image : Bytes) → Ensures (λ c _. Fresh image c) (read_card image)
unfolding read_card good_profile count_at_load
read_card_ensures image =
    goes_on (code_section_ensures image) (λ codes b₁ h₁.
    goes_on (key_section_ensures b₁) (λ keys b₂ h₂.
    goes_on (reference_section_ensures keys b₂) (λ references b₃ h₃.
    goes_on (personal_section_ensures b₃) (λ personal b₄ h₄.
    goes_on (read_counts_ensures b₄) (λ counts b₅ h₅.
    goes_on (end_ensures b₅) (λ _ _ h₆.
    let profile : good_profile (card_of codes keys references personal counts).profile ≡ true =
    simp (eq-eqb (length keys) 4 h₂.what.four, h₃.what.is_good, eq-eqb (length personal) 16 h₄.what.sixteen, h₄.what.is_good) in
    let none : length b₅ ≡ 0 = ap length h₆ in
    let last : b₄ ≡ last_section image = rw (← h₁.what.next, ← h₂.what.next, ← h₃.what.next) h₄.what.next in
    found (record {
      is_good = good_card (card_of codes keys references personal counts) h₁.what.is_good h₅.what.is_good profile (new_session_good keys);
      joined = sections_joined image codes keys references personal counts h₁.what.joined h₂.what.joined h₃.what.joined h₄.what.joined h₅.what.joined h₆;
      session = refl;
      unverified = h₁.what.unverified;
      tries = h₁.what.tries;
      counts = λ k low h. h₅.what.each k h low ∙ ap (λ (b : Bytes). cond (eqb (length b) 0) no_limit (byte_at b k)) last;
      at_least = omega arith;
      at_most = omega arith;
    })))))))

-- An accepted image's card is what was read.
accepted : {Q : Card → Type 0} (r : Read Card) → Ensures (λ c _. Q c) r → (loaded r).0 ≡ 0 → Q (loaded r).1
unfolding loaded
accepted (got c rest) h e = h.ensured
accepted (fault n) h e = absurd (omega (arith, h.ensured.least))

pub fresh : (image : Bytes) → (load image).0 ≡ 0 → Fresh image (load image).1
unfolding load
fresh image e = accepted (read_card image) (read_card_ensures image) e

-- A refused image's number is a fault's, and its card is the all-zero state.
refused : {Q : Card → Bytes → Type 0} (r : Read Card) → Ensures Q r → ¬ ((loaded r).0 ≡ 0)
    → ((loaded r).1 ≡ zero_card) × (21 ≤ (loaded r).0) × ((loaded r).0 ≤ 28)
unfolding loaded
refused (got c rest) h n = absurd (n refl)
refused (fault f) h n = (refl, h.ensured.least, h.ensured.most)

pub images : Images
unfolding load
images = record {
  read = λ image e. ((fresh image e).at_least, (fresh image e).at_most);
  session = λ image e. (fresh image e).session;
  unverified = λ image e. (fresh image e).unverified;
  tries = λ image e. (fresh image e).tries;
  counts = λ image e. (fresh image e).counts;
  refused = λ image n. refused (read_card image) (read_card_ensures image) n;
}
