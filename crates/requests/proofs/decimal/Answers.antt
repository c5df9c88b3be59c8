use mathlib.Core.Path.{ap, ◌∙◌}
use Prim.Native.Nat.{ℕ, ◌+◌, ◌*◌, min}
use native.Mathlib.Omega.{arith}
use Rattle.requests.proofs.Requests.{decimal_more}
use Rattle.requests.proofs.decimal.Goals as goal

pub loop-c-preserved : goal.loop-c-preserved
loop-c-preserved c =
    let n = c.loop-c.n in
    let digit = c.from.ensures ∙ c.saturating_sub.ensures in
    (omega arith, c.loop-c.invariant.1 ∙ decimal_more c.args.s.now c.loop-c.c-index n (omega arith) (c.min-n.ensures ∙ ap (λ (d : ℕ). min (n * 10 + d) 4097) digit))
