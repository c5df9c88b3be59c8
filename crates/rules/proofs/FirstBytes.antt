-- Load reads at most 1,119 bytes: what stands past them changes nothing.
use mathlib.Core.Path.{◌≡◌, refl}
use mathlib.Core.Bool.{Bool, true, false, cond, not, ◌&&◌}
use mathlib.Core.List.{List, [], ◌∷◌}
use Prim.Native.Nat.{ℕ, zero, suc, ◌+◌, ◌*◌, ◌≤◌}
use native.Mathlib.Omega.{arith}
use lib.ListN.{take}
use Rattle.octets.specs.Octets.{Bytes, word, digit}
use Rattle.octets.proofs.Lists.{between}
use Rattle.rules.specs.declared.Card.{Card}
use Rattle.rules.specs.Codes.{PUK, PIN1, PIN2, least, most, storing, no_limits, unlimited}
use Rattle.rules.specs.Image.{Read, got, fault, Reading, continued, require, byte_if, bytes_if, read_code, code_section, read_key, read_keys}
use Rattle.rules.specs.Image.{key_marks, key_section, reference_section, read_personal, read_records, personal_section, count_section, read_counts}
use Rattle.rules.specs.Image.{end, read_card, loaded, load}
use Rattle.rules.proofs.Loading.{known_above, both_classes, active_usable_lem}

-- What is read of the first bytes agrees with what is read of all: the same value, of which P holds, and at least so many of the bytes after
-- it; or the same fault.
abbrev AgreesOn : {A : Type 0} → (A → Type 0) → ℕ → Read A → Read A → Type 0
AgreesOn P left (got a rest) (got b part) = P a × (a ≡ b) × (m : ℕ) × (left ≤ m) × (part ≡ take m rest)
AgreesOn P left (got a rest) (fault n) = ⊥
AgreesOn P left (fault n) (got b part) = ⊥
AgreesOn P left (fault n) (fault m) = n ≡ m

-- As a record, so that antt finds the readings from the goal.
record Agrees {A : Type 0} (P : A → Type 0) (left : ℕ) (whole part : Read A) : Type 0 where
  agrees : AgreesOn P left whole part

-- Where nothing needs to be known of what was read.
abbrev Anything : {A : Type 0} → A → Type 0
Anything a = Unit {0}

-- One reading after another.
agree_on : {A B : Type 0} {P : A → Type 0} {Q : B → Type 0} {left more : ℕ} {r s : Read A} {next : A → Reading B}
    → Agrees P more r s → ((a : A) (rest : Bytes) (m : ℕ) → more ≤ m → P a → Agrees Q left (next a rest) (next a (take m rest)))
    → Agrees Q left (continued r next) (continued s next)
agree_on {r = got a rest} {s = got b part} h g =
    rw (← h.agrees.1, h.agrees.4) (g a rest h.agrees.2 h.agrees.3 h.agrees.0)
agree_on {r = got a rest} {s = fault n} h g = absurd h.agrees
agree_on {r = fault n} {s = got b part} h g = absurd h.agrees
agree_on {r = fault n} {s = fault m} h g = record { agrees = h.agrees }

-- A value, and no more is read.
value_agrees : {A : Type 0} {left : ℕ} (a : A) (rest : Bytes) (m : ℕ) → left ≤ m → Agrees Anything left (got a rest) (got a (take m rest))
value_agrees a rest m h = record { agrees = (tt, refl, m, h, refl) }

-- What is tested before reading goes on.
tested_agrees : {A : Type 0} {left : ℕ} (P : A → Type 0) (t : Bool) (n : ℕ) (a : A) (rest : Bytes) (m : ℕ) → left ≤ m → (t ≡ true → P a)
    → Agrees P left (cond t (got a rest) (fault n)) (cond t (got a (take m rest)) (fault n))
tested_agrees P true n a rest m h p = record { agrees = (p refl, refl, m, h, refl) }
tested_agrees P false n a rest m h p = record { agrees = refl }

require_agrees : {left : ℕ} (t : Bool) (n : ℕ) (b : Bytes) (m : ℕ) → left ≤ m → Agrees Anything left (require t n b) (require t n (take m b))
require_agrees t n b m h = tested_agrees Anything t n t b m h (λ _. tt)

byte_agrees : {left : ℕ} (test : ℕ → Bool) (n : ℕ) (b : Bytes) (m : ℕ) → suc left ≤ m
    → Agrees (λ x. test x ≡ true) left (byte_if test n b) (byte_if test n (take m b))
unfolding byte_if
byte_agrees test n b zero h = absurd (omega arith)
byte_agrees test n [] (suc m) h = record { agrees = refl }
byte_agrees test n (x ∷ b) (suc m) h = tested_agrees (λ x. test x ≡ true) (test x) n x b m (omega arith) (λ e. e)

bytes_agrees : {left : ℕ} (test : ℕ → Bool) (n count : ℕ) (b : Bytes) (m : ℕ) → count + left ≤ m
    → Agrees Anything left (bytes_if test n count b) (bytes_if test n count (take m b))
unfolding bytes_if
bytes_agrees test n zero b m h = value_agrees [] b m (omega arith)
bytes_agrees {left} test n (suc count) b m h =
    agree_on (byte_agrees {left = count + left} test n b m (omega arith)) (λ x b₁ m₁ h₁ _.
    agree_on (bytes_agrees {left = left} test n count b₁ m₁ (omega arith)) (λ d b₂ m₂ h₂ _.
    value_agrees (x ∷ d) b₂ m₂ h₂))

code_agrees : {left : ℕ} (k : ℕ) (b : Bytes) (m : ℕ) → 14 + left ≤ m → Agrees Anything left (read_code k b) (read_code k (take m b))
unfolding read_code
code_agrees {left} k b m h =
    agree_on (byte_agrees {left = 13 + left} _ 23 b m (omega arith)) (λ n b₁ m₁ h₁ e.
    let limit : n ≤ 12 = (between (least k) n most e).1 in
    agree_on (bytes_agrees {left = 1 + left} digit 23 n b₁ m₁ (omega arith)) (λ d b₂ m₂ h₂ _.
    agree_on (byte_agrees {left = left} _ 23 b₂ m₂ (omega arith)) (λ t b₃ m₃ h₃ _.
    value_agrees (storing d t false) b₃ m₃ h₃)))

codes_agree : {left : ℕ} (b : Bytes) (m : ℕ) → 43 + left ≤ m → Agrees Anything left (code_section b) (code_section (take m b))
unfolding code_section
codes_agree {left} b m h =
    agree_on (byte_agrees {left = 42 + left} _ 22 b m (omega arith)) (λ _ b₁ m₁ h₁ _.
    agree_on (code_agrees {left = 28 + left} PUK b₁ m₁ (omega arith)) (λ puk b₂ m₂ h₂ _.
    agree_on (code_agrees {left = 14 + left} PIN1 b₂ m₂ (omega arith)) (λ pin1 b₃ m₃ h₃ _.
    agree_on (code_agrees {left = left} PIN2 b₃ m₃ (omega arith)) (λ pin2 b₄ m₄ h₄ _.
    value_agrees (puk ∷ pin1 ∷ pin2 ∷ []) b₄ m₄ h₄))))

key_agrees : {left : ℕ} (last : ℕ) (b : Bytes) (m : ℕ) → 2 + left ≤ m → Agrees Anything left (read_key last b) (read_key last (take m b))
unfolding read_key
key_agrees {left} last b m h =
    agree_on (byte_agrees {left = 1 + left} _ 21 b m (omega arith)) (λ high b₁ m₁ h₁ _.
    agree_on (byte_agrees {left = left} _ 21 b₁ m₁ (omega arith)) (λ low b₂ m₂ h₂ _.
    agree_on (require_agrees {left = left} (known_above last (word high low)) 24 b₂ m₂ (omega arith)) (λ _ b₃ m₃ h₃ _.
    value_agrees (word high low) b₃ m₃ h₃)))

keys_agree : {left : ℕ} (n last : ℕ) (b : Bytes) (m : ℕ) → 2 * n + left ≤ m
    → Agrees Anything left (read_keys n last b) (read_keys n last (take m b))
unfolding read_keys
keys_agree zero last b m h = value_agrees [] b m (omega arith)
keys_agree {left} (suc n) last b m h =
    agree_on (key_agrees {left = 2 * n + left} last b m (omega arith)) (λ key b₁ m₁ h₁ _.
    agree_on (keys_agree {left = left} n key b₁ m₁ (omega arith)) (λ keys b₂ m₂ h₂ _.
    value_agrees (key ∷ keys) b₂ m₂ h₂))

key_section_agrees : {left : ℕ} (b : Bytes) (m : ℕ) → 9 + left ≤ m → Agrees Anything left (key_section b) (key_section (take m b))
unfolding key_section
key_section_agrees {left} b m h =
    agree_on (byte_agrees {left = 8 + left} _ 22 b m (omega arith)) (λ n b₁ m₁ h₁ e.
    let limit : n ≤ 4 = (between 2 n 4 e).1 in
    agree_on (keys_agree {left = left} n 0 b₁ m₁ (omega arith)) (λ keys b₂ m₂ h₂ _.
    agree_on (require_agrees {left = left} (both_classes keys) 24 b₂ m₂ (omega arith)) (λ _ b₃ m₃ h₃ _.
    value_agrees (key_marks keys) b₃ m₃ h₃)))

references_agree : {left : ℕ} (keys : List Bool) (b : Bytes) (m : ℕ) → 22 + left ≤ m
    → Agrees Anything left (reference_section keys b) (reference_section keys (take m b))
unfolding reference_section
references_agree {left} keys b m h =
    agree_on (byte_agrees {left = 21 + left} _ 22 b m (omega arith)) (λ _ b₁ m₁ h₁ _.
    agree_on (bytes_agrees {left = left} _ 21 21 b₁ m₁ (omega arith)) (λ references b₂ m₂ h₂ _.
    agree_on (require_agrees {left = left} (active_usable_lem keys references 1 && active_usable_lem keys references 2) 25 b₂ m₂ (omega arith)) (λ _ b₃ m₃ h₃ _.
    value_agrees references b₃ m₃ h₃)))

record_agrees : {left : ℕ} (b : Bytes) (m : ℕ) → 65 + left ≤ m → Agrees Anything left (read_personal b) (read_personal (take m b))
unfolding read_personal
record_agrees {left} b m h =
    agree_on (byte_agrees {left = 64 + left} _ 26 b m (omega arith)) (λ n b₁ m₁ h₁ e.
    let limit : n ≤ 64 = (between 1 n 64 e).1 in
    agree_on (bytes_agrees {left = left} _ 21 n b₁ m₁ (omega arith)) (λ d b₂ m₂ h₂ _.
    value_agrees _ b₂ m₂ h₂))

records_agree : {left : ℕ} (n : ℕ) (b : Bytes) (m : ℕ) → 65 * n + left ≤ m → Agrees Anything left (read_records n b) (read_records n (take m b))
unfolding read_records
records_agree zero b m h = value_agrees [] b m (omega arith)
records_agree {left} (suc n) b m h =
    agree_on (record_agrees {left = 65 * n + left} b m (omega arith)) (λ r b₁ m₁ h₁ _.
    agree_on (records_agree {left = left} n b₁ m₁ (omega arith)) (λ rs b₂ m₂ h₂ _.
    value_agrees (r ∷ rs) b₂ m₂ h₂))

personal_agrees : {left : ℕ} (b : Bytes) (m : ℕ) → 1041 + left ≤ m → Agrees Anything left (personal_section b) (personal_section (take m b))
unfolding personal_section
personal_agrees {left} b m h =
    agree_on (byte_agrees {left = 1040 + left} _ 22 b m (omega arith)) (λ _ b₁ m₁ h₁ _. records_agree {left = left} 16 b₁ m₁ (omega arith))

counts_agree : {left : ℕ} (b : Bytes) (m : ℕ) → 3 + left ≤ m → Agrees Anything left (read_counts b) (read_counts (take m b))
unfolding read_counts count_section
counts_agree b zero h = absurd (omega arith)
counts_agree [] (suc m) h = value_agrees no_limits [] (suc m) (omega arith)
counts_agree {left} (x ∷ b) (suc m) h =
    agree_on (byte_agrees {left = 2 + left} _ 22 (x ∷ b) (suc m) (omega arith)) (λ _ b₁ m₁ h₁ _.
    agree_on (byte_agrees {left = 1 + left} _ 28 b₁ m₁ (omega arith)) (λ pin1 b₂ m₂ h₂ _.
    agree_on (byte_agrees {left = left} _ 28 b₂ m₂ (omega arith)) (λ pin2 b₃ m₃ h₃ _.
    agree_on (require_agrees {left = left} (not (unlimited (pin1 ∷ pin2 ∷ []))) 28 b₃ m₃ (omega arith)) (λ _ b₄ m₄ h₄ _.
    value_agrees (pin1 ∷ pin2 ∷ []) b₄ m₄ h₄))))

-- One byte more tells whether any is left over.
end_agrees : (b : Bytes) (m : ℕ) → 1 ≤ m → Agrees Anything 0 (end b) (end (take m b))
unfolding end
end_agrees b zero h = absurd (omega arith)
end_agrees [] (suc m) h = value_agrees true [] (suc m) (omega arith)
end_agrees (x ∷ b) (suc m) h = record { agrees = refl }

-- 1,119 = 43 + 9 + 22 + 1,041 + 3 + 1.
card_agrees : (b : Bytes) (m : ℕ) → 1119 ≤ m → Agrees Anything 0 (read_card b) (read_card (take m b))
unfolding read_card
card_agrees b m h =
    agree_on (codes_agree {left = 1076} b m (omega arith)) (λ codes b₁ m₁ h₁ _.
    agree_on (key_section_agrees {left = 1067} b₁ m₁ (omega arith)) (λ keys b₂ m₂ h₂ _.
    agree_on (references_agree {left = 1045} keys b₂ m₂ (omega arith)) (λ references b₃ m₃ h₃ _.
    agree_on (personal_agrees {left = 4} b₃ m₃ (omega arith)) (λ personal b₄ m₄ h₄ _.
    agree_on (counts_agree {left = 1} b₄ m₄ (omega arith)) (λ counts b₅ m₅ h₅ _.
    agree_on (end_agrees b₅ m₅ h₅) (λ _ b₆ m₆ h₆ _.
    value_agrees _ b₆ m₆ h₆))))))

-- What agrees loads alike.
loaded_alike : {P : Card → Type 0} {left : ℕ} (r s : Read Card) → Agrees P left r s → loaded s ≡ loaded r
unfolding loaded
loaded_alike (got a rest) (got b part) h = rw h.agrees.1
loaded_alike (got a rest) (fault n) h = absurd h.agrees
loaded_alike (fault n) (got b part) h = absurd h.agrees
loaded_alike (fault n) (fault m) h = rw h.agrees

pub first_bytes : (n : ℕ) (image : Bytes) → 1119 ≤ n → load (take n image) ≡ load image
unfolding load
first_bytes n image h = loaded_alike (read_card image) (read_card (take n image)) (card_agrees image n h)
