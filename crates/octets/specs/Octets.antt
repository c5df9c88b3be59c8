-- Lists of bytes, and tests over lists.
use Rattle.std.specs.Prelude.{ℕ, ◌+◌, ◌-◌, ◌*◌, Bool, true, false, ◌&&◌, ◌||◌, List, [], ◌∷◌, ◌++◌, length, get_or, take, drop, replicate, eqb, leb, ltb}

-- A string of bytes.
abbrev pub Bytes : Type 0
Bytes = List ℕ

-- The byte at a place counted from zero; 0 where there is none.
abbrev pub byte_at : Bytes → ℕ → ℕ
byte_at b i = get_or b i 0

-- Two bytes as one number, high byte first.
abbrev pub word : ℕ → ℕ → ℕ
word high low = high * 256 + low

-- Whether two strings are equal: the same bytes and the same length.
abbrev pub same : Bytes → Bytes → Bool
same [] [] = true
same [] (y ∷ ys) = false
same (x ∷ xs) [] = false
same (x ∷ xs) (y ∷ ys) = eqb x y && same xs ys

-- Whether every test of a list is true.
abbrev pub every : List Bool → Bool
every [] = true
every (t ∷ ts) = t && every ts

-- Whether one test of a list or more is true.
abbrev pub any : List Bool → Bool
any [] = false
any (t ∷ ts) = t || any ts

-- Whether every byte passes a test.
abbrev pub all : (ℕ → Bool) → Bytes → Bool
all t [] = true
all t (x ∷ xs) = t x && all t xs

-- Whether a number stands in a list.
abbrev pub member : ℕ → List ℕ → Bool
member x [] = false
member x (y ∷ ys) = eqb x y || member x ys

-- A digit is 30h to 39h.
abbrev pub digit : ℕ → Bool
digit x = leb 0x30 x && leb x 0x39

-- Whether every byte is a digit.
abbrev pub all_digits : Bytes → Bool
all_digits = all digit

-- Whether every byte is zero.
abbrev pub all_zero : Bytes → Bool
all_zero = all (λ x. eqb x 0)

-- Whether every number of a list is a byte.
abbrev pub all_bytes : List ℕ → Bool
all_bytes = all (λ x. ltb x 256)

-- n zeros.
unfoldable pub blank : ℕ → Bytes
blank n = replicate n 0

-- A string in the first of n places, with zeros after it.
unfoldable pub filled : ℕ → Bytes → Bytes
filled n d = d ++ blank (n - length d)

-- A string with another written into it from a place on, as much of it as fits; past the end nothing is written.
unfoldable pub pasted : Bytes → ℕ → Bytes → Bytes
pasted dst at src = take at dst ++ (take (length dst - at) src ++ drop (at + length src) dst)

-- A string of a stated length in an array of a stated size: the length fits, and every unused place is zero.
unfoldable pub good_room : ℕ → Bytes → ℕ → Bool
good_room size bytes len = every (eqb (length bytes) size ∷ leb len size ∷ all_zero (drop len bytes) ∷ [])
