-- Key numbers, read one after another into four marks.
use mathlib.Core.Path.{◌≡◌, refl, sym, ap, ◌∙◌}
use mathlib.Core.Bool.{Bool, false, ◌&&◌, ◌||◌, or-false, or_assoc}
use mathlib.Core.List.{List, [], ◌∷◌}
use Prim.Native.Nat.{ℕ, suc, ◌+◌, ◌-◌, ◌<◌, ◌≤◌}
use native.Mathlib.Nat.{sub-zero}
use native.Mathlib.Omega.{arith}
use lib.Dec.{eqb}
use lib.ListN.{get_or}
use borrow.Author.Tests.{ne_eqb}
use Rattle.octets.specs.Octets.{Bytes, member}
use Rattle.octets.proofs.Tests.{either}
use Rattle.rules.specs.Image.{Read, Reading, got, fault, continued, ◌>>=◌, pure, require, read_key, read_keys, key_marks}
use Rattle.image.specs.Marks.{with_mark, marked_keys}
use Rattle.image.proofs.Readings.{in_pieces, same_next}

-- The marks of the keys read so far and of those that follow.
unfoldable pub marks_with : List Bool → List ℕ → List Bool
marks_with marks keys =
    (get_or marks 0 false || member 0x0100 keys)
    ∷ (get_or marks 1 false || member 0x0200 keys)
    ∷ (get_or marks 2 false || member 0x1100 keys)
    ∷ (get_or marks 3 false || member 0x1200 keys)
    ∷ []

equal_either_way : (a b : ℕ) → eqb a b ≡ eqb b a
equal_either_way a b = either _ a b (λ e. rw e) (λ n. rw (ne_eqb a b n, ne_eqb b a (λ e. n (sym e))))

marks_more : (marks : List Bool) (key : ℕ) (keys : List ℕ) → marks_with (with_mark marks key) keys ≡ marks_with marks (key ∷ keys)
unfolding with_mark marks_with
marks_more marks key keys =
    simp (
      or_assoc,
      equal_either_way key 0x0100,
      equal_either_way key 0x0200,
      equal_either_way key 0x1100,
      equal_either_way key 0x1200,
    )

pub no_marks : false ∷ false ∷ false ∷ false ∷ [] ≡ marks_with (false ∷ false ∷ false ∷ false ∷ []) []
unfolding marks_with
no_marks = refl

pub marks_kept : (marks : List Bool) (key : ℕ) → with_mark marks key ≡ marks_with (with_mark marks key) []
unfolding with_mark marks_with
marks_kept marks key = simp or-false

-- What is read in all, where the marks of the keys so far are known and n more follow.
abbrev pub marks_from : List Bool → ℕ → ℕ → Reading (List Bool)
marks_from marks n last = do
  keys ← read_keys n last
  pure (marks_with marks keys)

pub no_key_yet : (n : ℕ) (b : Bytes) → marks_from (false ∷ false ∷ false ∷ false ∷ []) (n - 0) 0 b ≡ marked_keys n b
unfolding marked_keys marks_with
no_key_yet n b = rw (sub-zero n)

module _ (marks : List Bool) (n i last : ℕ) (b : Bytes) where
  module _ (inside : i < n) where
    first_key : continued (read_key last b) (λ key. marks_from (with_mark marks key) (n - (i + 1)) key) ≡ marks_from marks (n - i) last b
    unfolding read_keys
    first_key =
        let next : n - i ≡ suc (n - (i + 1)) = omega arith in
        rw next
        (same_next (read_key last b) (λ key b.
        same_next (read_keys (n - (i + 1)) key b) (λ keys b. ap (λ (marks : List Bool). pure marks b) (marks_more marks key keys))
        ∙ sym (in_pieces (read_keys (n - (i + 1)) key b) _ _))
        ∙ sym (in_pieces (read_key last b) _ _))

    pub one_key_more : (key : ℕ) (rest : Bytes) → got key rest ≡ read_key last b
        → marks_from (with_mark marks key) (n - (i + 1)) key rest ≡ marks_from marks (n - i) last b
    one_key_more key rest e = ap (λ (r : Read ℕ). continued r (λ key. marks_from (with_mark marks key) (n - (i + 1)) key)) e ∙ first_key

    pub bad_key : (e : ℕ) → fault e ≡ read_key last b → fault e ≡ marks_from marks (n - i) last b
    bad_key e s = ap (λ (r : Read ℕ). continued r (λ key. marks_from (with_mark marks key) (n - (i + 1)) key)) s ∙ first_key

  pub no_key_more : marks ≡ marks_with marks [] → n ≤ i → got marks b ≡ marks_from marks (n - i) last b
  unfolding read_keys
  no_key_more e h = let none : n - i ≡ 0 = omega arith in rw none (ap (λ (marks : List Bool). got marks b) e)

-- Whether each class has a key.
abbrev pub classes : List Bool → Bool
classes marks = (get_or marks 0 false || get_or marks 1 false) && (get_or marks 2 false || get_or marks 3 false)

-- The marks, and then the test of the classes.
pub classes_tested : (keys : Read (List ℕ)) (marks : Read (List Bool)) → marks ≡ continued keys (λ keys. pure (key_marks keys))
    → continued marks (λ marks b. continued (require (classes marks) 24 b) (λ _. pure marks))
    ≡ continued keys (λ keys b. continued (require (classes (key_marks keys)) 24 b) (λ _. pure (key_marks keys)))
classes_tested keys marks e =
    ap (λ (r : Read (List Bool)). continued r (λ marks b. continued (require (classes marks) 24 b) (λ _. pure marks))) e ∙ in_pieces keys _ _
