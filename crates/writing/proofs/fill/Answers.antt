use Rattle.std.proofs.Common.{◌+◌, ◌-◌, ◌∙◌, sym, ◌≡◌, ℕ, zero, suc, List, [], ◌∷◌, ◌++◌, refl, ap, take, replicate, arith, add-one}
use Rattle.std.proofs.Math.Seq.{take-suc-set, take_all}
use Rattle.std.proofs.lemmas.List.{take-replicate, length-replicate}
use Rattle.octets.proofs.Pasting.{pasted_part}
use Rattle.writing.proofs.fill.Goals as goal

replicate_more : (n b : ℕ) → replicate n b ++ b ∷ [] ≡ replicate (suc n) b
replicate_more zero b = refl
replicate_more (suc n) b = ap (λ (l : List ℕ). b ∷ l) (replicate_more n b)

pub loop-place-preserved : goal.loop-place-preserved
loop-place-preserved c =
    let l = c.loop-place in
    rw (add-one, take-suc-set l.place-items l.place-index c.args.byte (omega arith), l.invariant) (replicate_more l.place-index c.args.byte)

pub returns : goal.returns
returns c =
    let l = c.loop-place in
    let count = c.min-count.result in
    let k = c.min-start.result + count - c.min-start.result in
    let cut : k ≡ count = omega arith in
    let all : take l.place-index l.place-items ≡ l.place-items = take_all l.place-index l.place-items (omega arith) in
    let size : l.place-index ≡ k = omega arith in
    let filled : l.place-items ≡ take k (replicate c.args.n c.args.byte) = sym all ∙ rw (l.invariant, size, cut, take-replicate count c.args.n c.args.byte (omega arith)) in
    pasted_part c.args.dst.now c.args.at (replicate c.args.n c.args.byte) l.place-items c.min-start.result k (omega arith) (rw (length-replicate c.args.n c.args.byte) (omega arith)) filled
