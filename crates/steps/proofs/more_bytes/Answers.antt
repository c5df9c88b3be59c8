-- At most 256 bytes are counted.
use Rattle.octets.proofs.Cutting.{cut_length}
use Rattle.rules.specs.Answers.{more_bytes}
use Rattle.octets.specs.Octets.{Bytes}
use native.Mathlib.Omega.{arith}
use Prim.Native.Nat.{◌+◌, ◌≤◌}
use lib.ListN.{length}
use mathlib.Core.Path.{◌≡◌, ap, ◌∙◌}
use borrow.Author.Tests.{eq-eqb, ne_eqb}
use Rattle.steps.proofs.more_bytes.Goals as goal

pub returns-then-n-eq256 : goal.returns-then-n-eq256
unfolding more_bytes
returns-then-n-eq256 c =
    let same : 0x6100 ≡ more_bytes (length c.part-n.result.now) = simp (eq-eqb _ _ c.if-n-eq256.true) in
    same ∙ ap (λ (b : Bytes). more_bytes (length b)) c.part-n.ensures

pub overflow_cast-result : goal.overflow_cast-result
overflow_cast-result c =
    let counted : length c.part-n.result.now ≤ 256 = cut_length 256 c.part-n.result.now c.args.d.now c.part-n.ensures in
    omega (arith, counted)

pub overflow_add-result : goal.overflow_add-result
overflow_add-result c =
    let counted : length c.part-n.result.now ≤ 256 = cut_length 256 c.part-n.result.now c.args.d.now c.part-n.ensures in
    omega (arith, counted)

pub returns : goal.returns
unfolding more_bytes
returns c =
    let n = length c.part-n.result.now in
    let same : 0x6100 + n ≡ more_bytes n = simp (ne_eqb _ _ c.if-n-eq256.false) in
    same ∙ ap (λ (b : Bytes). more_bytes (length b)) c.part-n.ensures
