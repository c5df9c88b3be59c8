-- Laws of a text that is written piece by piece.
use mathlib.Core.Path.{◌≡◌, sym, ap, ◌∙◌}
use mathlib.Core.List.{[], ◌++◌}
use Prim.Native.Nat.{ℕ}
use native.Mathlib.Omega.{arith}
use lib.ListN.{length, length-append}
use Rattle.octets.specs.Octets.{Bytes}
use Rattle.octets.proofs.Pasting.{length_pasted, pasted_then, pasted_zero}
use Rattle.writing.specs.Puts.{Put}

-- One text behind another.
pub put_then : {d d₁ d₂ p q : Bytes} {at e₁ e₂ : ℕ} → Put d at p d₁ e₁ → Put d₁ e₁ q d₂ e₂ → Put d at (p ++ q) d₂ e₂
put_then {d} {d₁} {d₂} {p} {q} {at} {e₁} {e₂} f g = record {
  whole = g.whole ∙ rw (f.whole, f.place) (pasted_then d at p q);
  place = omega (arith, g.place, f.place, ap length f.whole, length_pasted d at p, length-append p q);
}

-- The same text, written otherwise.
pub put_same : {d d₁ p q : Bytes} {at e₁ : ℕ} → p ≡ q → Put d at p d₁ e₁ → Put d at q d₁ e₁
put_same {d} {d₁} {p} {q} {at} {e₁} e f = rw (← e) f

-- Nothing more behind a text.
pub put_nothing : {d d₁ p : Bytes} {at e₁ : ℕ} → Put d at p d₁ e₁ → Put d₁ e₁ [] d₁ e₁
put_nothing {d} {d₁} {p} {at} {e₁} f = record {
  whole = sym (pasted_zero d₁ e₁);
  place = omega (arith, f.place, ap length f.whole, length_pasted d at p);
}
