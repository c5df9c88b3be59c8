use Rattle.std.proofs.Common.{◌&&◌, true, ◌∙◌, rules}
use Rattle.std.proofs.lemmas.Iterator.{YieldsList-from_slice}
use Rattle.std.proofs.lemmas.Iterator.Consumers.{fold_from_yields_List}
use borrow.Author.Tests.{tests}
use lib.Dec.{eqb}
use Rattle.octets.proofs.Iterators.{all_fold}
use Rattle.octets.proofs.all_zero.Goals as goal

pub returns : goal.returns
returns c =
    let s = c.args.s.now in
    fold_from_yields_List _ (λ b x. b && eqb x 0) true _ c.fold.ensures.ran (YieldsList-from_slice s cc) (λ b x r q k. search (rules, tests))
    ∙ all_fold (λ x. eqb x 0) s true
