-- Laws of the readings: one after another, and judged.
use mathlib.Core.Path.{◌≡◌, refl, sym, ap, ◌∙◌}
use mathlib.Core.Bool.{Bool, true}
use mathlib.Core.List.{[], ◌∷◌}
use Prim.Native.Nat.{ℕ, zero, suc, ◌<◌, ◌≤◌}
use native.Mathlib.Omega.{arith}
use lib.Dec.{leb}
use lib.ListN.{length}
use borrow.Author.Tests.{le-leb}
use Rattle.std.specs.Prelude.{Result}
use Rattle.std.specs.Result.{IsErrAnd}
use Rattle.std.proofs.lemmas.Result.{err_from_is_err_and}
use Rattle.octets.specs.Octets.{Bytes, byte_at}
use Rattle.octets.proofs.Tests.{by_test}
use Rattle.octets.proofs.Lists.{between}
use Rattle.rules.specs.declared.Fault.{Fault}
use Rattle.rules.specs.Numbers.{fault_number}
use Rattle.rules.specs.Image.{Read, got, fault, Reading, continued, pure, byte_if, bytes_if}
use Rattle.image.specs.Results.{read_as, read_into, within}

-- One reading after another: in pieces, and with what is done next put otherwise.
pub in_pieces : {A B C : Type 0} (r : Read A) (f : A → Reading B) (g : B → Reading C)
    → continued (continued r f) g ≡ continued r (λ a b. continued (f a b) g)
in_pieces (got a rest) f g = refl
in_pieces (fault e) f g = refl

pub same_next : {A B : Type 0} (r : Read A) {f g : A → Reading B} → ((a : A) (b : Bytes) → f a b ≡ g a b)
    → continued r f ≡ continued r g
same_next (got a rest) h = h a rest
same_next (fault e) h = refl

pub nothing_next : {A : Type 0} (r : Read A) → continued r (λ a. pure a) ≡ r
nothing_next (got a rest) = refl
nothing_next (fault e) = refl

-- A byte that was read passed its test.
module _ (test : ℕ → Bool) (f : ℕ) where
  byte_passed : (b : Bytes) {x : ℕ} {rest : Bytes} → got x rest ≡ byte_if test f b → test x ≡ true
  unfolding byte_if
  byte_passed [] e = cc
  byte_passed (y ∷ b) {x} e =
      by_test _ (test y)
      (λ t. let e : got x _ ≡ got y b = rw t at e in let same : x ≡ y = cc in rw (same, t))
      (λ t. let e : got x _ ≡ fault f = rw t at e in cc)

-- A byte that was read is within its limits.
pub read_within : (low high f : ℕ) (b : Bytes) {x : ℕ} {rest : Bytes} → got x rest ≡ byte_if (within low high) f b → x ≤ high
read_within low high f b {x} e = (between low x high (byte_passed (within low high) f b e)).1

-- A byte within 0 and a limit is a byte of at most that limit.
pub at_most : (high f : ℕ) (b : Bytes) → byte_if (within 0 high) f b ≡ byte_if (λ n. leb n high) f b
unfolding byte_if
at_most high f [] = refl
at_most high f (x ∷ b) = rw (le-leb 0 x (omega arith))

-- The exit of a `?`: the fault that the call gave.
pub exits : {A : Type 0} (d : Fault) (r : Result A Fault) (rest : Bytes) (what : Read A) → IsErrAnd r (λ e. e ≡ d)
    → fault (fault_number d) ≡ what → read_as r rest ≡ what
exits d r rest what h e = let p = err_from_is_err_and r h in rw (p.1, p.2) e

pub exits_into : {U A : Type 0} (d : Fault) (r : Result U Fault) (a : A) (rest : Bytes) (what : Read A) → IsErrAnd r (λ e. e ≡ d)
    → fault (fault_number d) ≡ what → read_into r a rest ≡ what
exits_into d r a rest what h e = let p = err_from_is_err_and r h in rw (p.1, p.2) e

-- Tests that agree on every byte.
pub same_test : {s t : ℕ → Bool} (n : ℕ) → ((x : ℕ) → s x ≡ t x) → (b : Bytes) → byte_if s n b ≡ byte_if t n b
unfolding byte_if
same_test n h [] = refl
same_test n h (x ∷ b) = rw (h x)

-- Every byte is within 0 and 255.
pub any_bytes_law : (f n : ℕ) (b : Bytes) → ((i : ℕ) → byte_at b i < 256) → bytes_if (within 0 255) f n b ≡ bytes_if (λ x. true) f n b
unfolding bytes_if byte_if
any_bytes_law f zero b h = refl
any_bytes_law f (suc n) [] h = refl
any_bytes_law f (suc n) (x ∷ b) h =
    let small : x < 256 = h 0 in
    rw (le-leb 0 x (omega arith), le-leb x 255 (omega arith))
    (ap (λ (r : Read Bytes). continued r (λ xs. pure (x ∷ xs))) (any_bytes_law f n b (λ i. h (suc i))))

-- What is done next may be put otherwise for a byte that passed its test, and for bytes as many as were asked for.
pub same_byte : {B : Type 0} (test : ℕ → Bool) (f : ℕ) (b : Bytes) {g h : ℕ → Reading B}
    → ((x : ℕ) (b : Bytes) → test x ≡ true → g x b ≡ h x b) → continued (byte_if test f b) g ≡ continued (byte_if test f b) h
unfolding byte_if
same_byte test f [] e = refl
same_byte test f (x ∷ b) e = by_test _ (test x) (λ t. rw t (e x b t)) (λ t. rw t)

pub same_bytes : {B : Type 0} (test : ℕ → Bool) (f : ℕ) (n : ℕ) (b : Bytes) {g h : Bytes → Reading B}
    → ((d b : Bytes) → length d ≡ n → g d b ≡ h d b) → continued (bytes_if test f n b) g ≡ continued (bytes_if test f n b) h
unfolding bytes_if
same_bytes test f zero b e = e [] b refl
same_bytes {B} test f (suc n) b {g} {h} e =
    first g ∙ same_next (byte_if test f b) (λ x b. same_bytes test f n b (λ d b l. e (x ∷ d) b (ap suc l))) ∙ sym (first h)
  where
    first : (g : Bytes → Reading B) → continued (bytes_if test f (suc n) b) g
        ≡ continued (byte_if test f b) (λ x b. continued (bytes_if test f n b) (λ xs. g (x ∷ xs)))
    first g = in_pieces (byte_if test f b) _ _ ∙ same_next (byte_if test f b) (λ x b. in_pieces (bytes_if test f n b) _ _)
