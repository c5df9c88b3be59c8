-- Laws of a loop that goes through a list of tests by an index: what is left from the index on decides.
use mathlib.Core.Path.{◌≡◌}
use mathlib.Core.Bool.{Bool, ◌||◌, or_assoc, or-false}
use mathlib.Core.List.{List, map}
use Prim.Native.Nat.{ℕ, ◌+◌, ◌<◌, ◌≤◌}
use native.Mathlib.Numerals.{add-one}
use lib.ListN.{length, get_or, drop, drop_of_length-le}
use lib.Seq.{drop-cons}
use Rattle.octets.specs.Octets.{any}

-- Whether one of a list's elements passes a test, with no early end: k tells of the elements before the index.
module _ {A : Type 0} (t : A → Bool) (l : List A) (i : ℕ) (k : Bool) where
  pub any_more : (d : A) → i < length l → (k || any (map t (drop i l))) ≡ ((k || t (get_or l i d)) || any (map t (drop (i + 1) l)))
  any_more d h = rw (add-one, drop-cons l i d, or_assoc)

  pub any_end : length l ≤ i → (k || any (map t (drop i l))) ≡ k
  any_end h = rw (drop_of_length-le l h, or-false)
