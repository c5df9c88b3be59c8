-- A header whose Le an answer can hold.
use mathlib.Core.Path.{◌≡◌}
use Prim.Native.Nat.{◌≤◌}
use borrow.Author.Tests.{le-leb, leb-true}
use native.Mathlib.Omega.{arith}
use lib.Dec.{leb}
use Rattle.octets.proofs.Tests.{split}
use Rattle.rules.specs.declared.Header.{Header}
use Rattle.apdu.specs.Reach.{le_in_reach}

-- It is kept as it is.
pub le_reached : (h : Header) → h.le ≤ 256 → le_in_reach h ≡ h
le_reached h e = simp (le-leb h.le 256 e)

-- An Le that was brought into reach.
pub le_within : (h : Header) → (le_in_reach h).le ≤ 256
le_within h = split (λ n. n ≤ 256) (leb h.le 256) (λ e. leb-true h.le 256 e) (λ e. omega arith)
