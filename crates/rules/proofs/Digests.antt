-- The rows and forms of the digests: tests that are computed over the tables, and what they say of each row and of every string.
use mathlib.Core.Path.{◌≡◌, refl, sym, ap, ◌∙◌}
use mathlib.Core.Bool.{Bool, true, not, ◌&&◌}
use mathlib.Core.List.{List, [], ◌∷◌, map}
use Prim.Native.Nat.{ℕ, zero, suc, ◌+◌, ◌<◌}
use native.Mathlib.Omega.{arith}
use lib.Dec.{eqb, leb}
use lib.ListN.{length, take, get_or}
use borrow.Author.Tests.{eq-eqb, eqb-true, leb-true, not-true}
use Rattle.octets.specs.Octets.{Bytes, same, every, all_bytes}
use Rattle.octets.proofs.Tests.{and_left, and_right, never, at_each, any_at, any_place}
use Rattle.octets.proofs.Strings.{same_refl, same_equal, take_swap}
use Rattle.rules.specs.Digests.{prefixed, rows, Form, forms, fits, form_at, is_digest, FitsOne, DigestForms}

-- How many bytes a digest of a form has.
abbrev size : Form → ℕ
size f = length f.prefix + f.count

-- Whether some string could fit both: they have one size, and their prefixes agree as far as both go.
abbrev clash : Form → Form → Bool
clash f g = eqb (size f) (size g) && same (take (length g.prefix) f.prefix) (take (length f.prefix) g.prefix)

-- Whether no form of a list clashes with one behind it.
abbrev none_clash : List Form → Bool
none_clash [] = true
none_clash (f ∷ fs) = every (map (λ g. not (clash f g)) fs) && none_clash fs

module _ (d : Bytes) where
  fits_size : (f : Form) → fits d f ≡ true → length d ≡ size f
  unfolding prefixed
  fits_size f e = eqb-true (length d) (size f) (and_right (same (take (length f.prefix) d) f.prefix) _ e)

  fits_prefix : (f : Form) → fits d f ≡ true → take (length f.prefix) d ≡ f.prefix
  unfolding prefixed
  fits_prefix f e = same_equal _ _ (and_left (same (take (length f.prefix) d) f.prefix) _ e)

  fits_both : (f g : Form) → fits d f ≡ true → fits d g ≡ true → clash f g ≡ true
  fits_both f g e k =
      let p : ℕ = length f.prefix in
      let q : ℕ = length g.prefix in
      let agree : take q f.prefix ≡ take p g.prefix =
      ap (take q) (sym (fits_prefix f e)) ∙ take_swap q p d ∙ ap (take p) (fits_prefix g k) in
      rw (eq-eqb (size f) (size g) (sym (fits_size f e) ∙ fits_size g k), agree) (same_refl (take p g.prefix))

  -- No string fits a form and one behind it that it does not clash with.
  not_behind : {A : Type 0} (f : Form) (fs : List Form) (j : ℕ) (z : Form) → every (map (λ g. not (clash f g)) fs) ≡ true → j < length fs
      → fits d f ≡ true → fits d (get_or fs j z) ≡ true → A
  not_behind f fs j z t inside e k = never (not-true _ (at_each (λ g. not (clash f g)) fs j z t inside)) (fits_both f (get_or fs j z) e k)

  one_place : (fs : List Form) (i j : ℕ) (z : Form) → none_clash fs ≡ true → i < length fs → j < length fs
      → fits d (get_or fs i z) ≡ true → fits d (get_or fs j z) ≡ true → i ≡ j
  one_place [] i j z t a b e k = absurd (omega arith)
  one_place (f ∷ fs) zero zero z t a b e k = refl
  one_place (f ∷ fs) zero (suc j) z t a b e k = not_behind f fs j z (and_left _ (none_clash fs) t) (omega arith) e k
  one_place (f ∷ fs) (suc i) zero z t a b e k = not_behind f fs i z (and_left _ (none_clash fs) t) (omega arith) k e
  one_place (f ∷ fs) (suc i) (suc j) z t a b e k =
      ap suc (one_place fs i j z (and_right (every (map (λ g. not (clash f g)) fs)) _ t) (omega arith) (omega arith) e k)

fits_one : (d : Bytes) → is_digest d ≡ true → FitsOne d
unfolding is_digest
fits_one d e = let p = any_place (fits d) forms _ e in record { place = p.0; inside = p.1; fitted = p.2 }

pub digest_forms : DigestForms
unfolding is_digest
digest_forms =
    record {
      lengths = λ i inside. eqb-true _ _ (at_each (λ r. eqb r.l (r.h + 0x11)) rows i _ refl inside);
      of_bytes = λ i inside. at_each (λ f. all_bytes f.prefix) forms i _ refl inside;
      exactly = λ d. (fits_one d, λ one. any_at (fits d) forms one.place _ one.inside one.fitted);
      apart = λ d i j. one_place d forms i j _ refl;
      short = λ d e.
          let one = fits_one d e in
          let f = form_at one.place in
          let few : leb (size f) 245 ≡ true = at_each (λ g. leb (size g) 245) forms one.place _ refl one.inside in
          omega (arith, leb-true (size f) 245 few, fits_size d f one.fitted);
    }
