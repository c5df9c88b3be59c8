-- Laws of the keys, counted and written one behind the other.
use mathlib.Core.Path.{◌≡◌, refl, sym, ap, ◌∙◌}
use mathlib.Core.Bool.{Bool, true, false}
use mathlib.Core.List.{List, [], ◌∷◌, ◌++◌, append-nil}
use Prim.Native.Nat.{ℕ, ◌+◌, ◌/◌, ◌%◌, ◌<◌}
use native.Mathlib.Omega.{arith}
use native.Mathlib.Numerals.{add-one}
use lib.ListN.{length, take, get_or, length-append}
use lib.Seq.{take-suc}
use Rattle.std.specs.Prelude.{count_by}
use Rattle.octets.proofs.Tests.{by_test}
use Rattle.rules.specs.Keys.{present}
use Rattle.rules.specs.Writer.{keys_among, keys_on, key_bytes}

bytes_append : (a b : List ℕ) → key_bytes (a ++ b) ≡ key_bytes a ++ key_bytes b
unfolding key_bytes
bytes_append [] b = refl
bytes_append (k ∷ a) b = rw (bytes_append a b)

-- A key's two bytes.
pub two_bytes : (k : ℕ) → k < 65536 → (k / 256) % 256 ∷ k % 256 ∷ [] ≡ key_bytes (k ∷ [])
unfolding key_bytes
two_bytes k h = let high : (k / 256) % 256 ≡ k / 256 = omega arith in rw high

module _ (keys : List Bool) where
  -- One key.
  pub key_there : (k : ℕ) → present keys k ≡ true → keys_among keys (k ∷ []) ≡ k ∷ []
  unfolding keys_among
  key_there k e = rw e

  pub key_missing : (k : ℕ) → present keys k ≡ false → keys_among keys (k ∷ []) ≡ []
  unfolding keys_among
  key_missing k e = rw e

  -- Some keys and others.
  keys_append : (a b : List ℕ) → keys_among keys (a ++ b) ≡ keys_among keys a ++ keys_among keys b
  unfolding keys_among
  keys_append [] b = refl
  keys_append (k ∷ a) b = by_test _ (present keys k) (λ e. rw (e, keys_append a b)) (λ e. rw (e, keys_append a b))

  pub keys_behind : (a b : List ℕ) → key_bytes (keys_among keys a) ++ key_bytes (keys_among keys b) ≡ key_bytes (keys_among keys (a ++ b))
  keys_behind a b = rw (keys_append a b) (sym (bytes_append (keys_among keys a) (keys_among keys b)))

  pub key_counted : (k : ℕ) (a : List ℕ) → length (keys_among keys (k ∷ a)) ≡ length (keys_among keys (k ∷ [])) + length (keys_among keys a)
  key_counted k a = ap length (keys_append (k ∷ []) a) ∙ length-append (keys_among keys (k ∷ [])) (keys_among keys a)

  -- One more of a list of known keys.
  pub key_more_there : (known : List ℕ) (i : ℕ) → i < length known → present keys (get_or known i 0) ≡ true
      → key_bytes (keys_among keys (take i known)) ++ key_bytes (get_or known i 0 ∷ []) ≡ key_bytes (keys_among keys (take (i + 1) known))
  key_more_there known i h e =
      ap (λ (ks : List ℕ). key_bytes (keys_among keys (take i known)) ++ key_bytes ks) (sym (key_there (get_or known i 0) e))
      ∙ rw (add-one, take-suc known i 0 h) (keys_behind (take i known) (get_or known i 0 ∷ []))

  pub key_more_missing : (known : List ℕ) (i : ℕ) → i < length known → present keys (get_or known i 0) ≡ false
      → keys_among keys (take i known) ≡ keys_among keys (take (i + 1) known)
  key_more_missing known i h e =
      rw (add-one, take-suc known i 0 h, keys_append (take i known) (get_or known i 0 ∷ []), key_missing (get_or known i 0) e, append-nil (keys_among keys (take i known)))

-- How many of the four marks are on.
pub marks_counted : (keys : List Bool) → length keys ≡ 4 → length (keys_on keys) ≡ count_by (λ on. on) keys
unfolding keys_among present
marks_counted (true ∷ true ∷ true ∷ true ∷ []) e = refl
marks_counted (true ∷ true ∷ true ∷ false ∷ []) e = refl
marks_counted (true ∷ true ∷ false ∷ true ∷ []) e = refl
marks_counted (true ∷ true ∷ false ∷ false ∷ []) e = refl
marks_counted (true ∷ false ∷ true ∷ true ∷ []) e = refl
marks_counted (true ∷ false ∷ true ∷ false ∷ []) e = refl
marks_counted (true ∷ false ∷ false ∷ true ∷ []) e = refl
marks_counted (true ∷ false ∷ false ∷ false ∷ []) e = refl
marks_counted (false ∷ true ∷ true ∷ true ∷ []) e = refl
marks_counted (false ∷ true ∷ true ∷ false ∷ []) e = refl
marks_counted (false ∷ true ∷ false ∷ true ∷ []) e = refl
marks_counted (false ∷ true ∷ false ∷ false ∷ []) e = refl
marks_counted (false ∷ false ∷ true ∷ true ∷ []) e = refl
marks_counted (false ∷ false ∷ true ∷ false ∷ []) e = refl
marks_counted (false ∷ false ∷ false ∷ true ∷ []) e = refl
marks_counted (false ∷ false ∷ false ∷ false ∷ []) e = refl
marks_counted [] e = absurd (omega arith)
marks_counted (a ∷ []) e = absurd (omega arith)
marks_counted (a ∷ b ∷ []) e = absurd (omega arith)
marks_counted (a ∷ b ∷ c ∷ []) e = absurd (omega arith)
marks_counted (a ∷ b ∷ c ∷ d ∷ x ∷ keys) e = absurd (omega arith)
