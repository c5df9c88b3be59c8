use Prim.Native.Nat.{◌≤◌, min}
use mathlib.Core.Path.{◌≡◌}
use lib.ListN.{drop}
use Rattle.requests.specs.Requests.{decimal_from, decimal}
use Rattle.requests.proofs.decimal.Given as goal

abbrev pub invariant-loop-c : goal.invariant-loop-c
invariant-loop-c l = (l.n ≤ 4097) × (min (decimal l.s) 4097 ≡ min (decimal_from l.n (drop l.c-index l.s)) 4097)
