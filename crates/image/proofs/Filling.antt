-- Room filled by one reading after another.
use mathlib.Core.Path.{◌≡◌, refl, ap, ◌∙◌}
use mathlib.Core.Bool.{Bool}
use mathlib.Core.List.{List, [], ◌∷◌, ◌++◌, append-nil}
use Prim.Native.Nat.{ℕ, suc, ◌+◌, ◌-◌, ◌<◌, ◌≤◌}
use native.Mathlib.Numerals.{add-one}
use native.Mathlib.Nat.{sub-zero}
use native.Mathlib.Omega.{arith}
use lib.ListN.{length, take, set, length-set}
use lib.Seq.{take-suc-set, take_all, append_snoc}
use Rattle.octets.specs.Octets.{Bytes}
use Rattle.rules.specs.Image.{got, fault, Reading, continued, pure, byte_if, bytes_if, any_byte, any_bytes, read_personal, read_records}
use Rattle.image.proofs.Readings.{in_pieces, same_next, nothing_next}

-- n readings, one after another.
pub record Repeats {A : Type 0} (one : Reading A) (many : ℕ → Reading (List A)) : Type 0 where
  pub none : (b : Bytes) → many 0 b ≡ pure [] b
  pub more : (n : ℕ) (b : Bytes) → many (suc n) b ≡ continued (one b) (λ a b. continued (many n b) (λ xs. pure (a ∷ xs)))

pub bytes_repeat : (test : ℕ → Bool) (f : ℕ) → Repeats (byte_if test f) (bytes_if test f)
unfolding bytes_if
bytes_repeat test f = record { none = λ b. refl; more = λ n b. refl }

pub any_repeat : Repeats any_byte any_bytes
any_repeat = bytes_repeat _ 21

pub records_repeat : Repeats read_personal read_records
unfolding read_records
records_repeat = record { none = λ b. refl; more = λ n b. refl }

-- What is read in all, where the first i places of the room are filled and the bytes b are left.
abbrev pub filling : {A : Type 0} → (ℕ → Reading (List A)) → List A → ℕ → Reading (List A)
filling many room i b = continued (many (length room - i) b) (λ xs. pure (take i room ++ xs))

module _ {A : Type 0} {one : Reading A} {many : ℕ → Reading (List A)} (h : Repeats one many) (room : List A) where
  pub none_yet : (b : Bytes) → filling many room 0 b ≡ many (length room) b
  none_yet b = rw (sub-zero (length room)) (nothing_next (many (length room) b))

  module _ (i : ℕ) (b : Bytes) (inside : i < length room) where
    first_left : filling many room i b
        ≡ continued (one b) (λ a b. continued (many (length room - (i + 1)) b) (λ xs. pure (take i room ++ a ∷ xs)))
    first_left =
        let next : length room - i ≡ suc (length room - (i + 1)) = omega arith in
        rw (next, h.more (length room - (i + 1)) b)
        (in_pieces (one b) _ _ ∙ same_next (one b) (λ a b. in_pieces (many (length room - (i + 1)) b) _ _))

    pub one_more : (a : A) (rest : Bytes) → got a rest ≡ one b → filling many (set room i a) (i + 1) rest ≡ filling many room i b
    one_more a rest e =
        rw (first_left, ← e, length-set room i a, add-one, take-suc-set room i a inside)
        (same_next (many (length room - suc i) rest) (λ xs b. ap (λ (xs : List A). pure xs b) (append_snoc (take i room) a xs)))

    pub stopped : (e : ℕ) → fault e ≡ one b → fault e ≡ filling many room i b
    stopped e s = rw (first_left, ← s)

  pub full : (i : ℕ) (b : Bytes) → length room ≤ i → got room b ≡ filling many room i b
  full i b past =
      let none_left : length room - i ≡ 0 = omega arith in
      rw (none_left, h.none b, append-nil (take i room), take_all i room past)
