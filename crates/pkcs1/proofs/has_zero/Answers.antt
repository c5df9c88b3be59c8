use Rattle.std.proofs.Common.{false, ◌∙◌, rules, tests}
use Rattle.std.proofs.lemmas.Iterator.{YieldsList-from_slice}
use Rattle.std.proofs.lemmas.Iterator.Consumers.{fold_from_yields_List}
use mathlib.Core.Bool.{◌||◌}
use lib.Dec.{eqb}
use Rattle.pkcs1.proofs.Steps.{zero_fold}
use Rattle.pkcs1.proofs.has_zero.Goals as goal

pub returns : goal.returns
returns c =
    let s = c.args.group.now in
    fold_from_yields_List _ (λ f x. f || eqb x 0) false _ c.fold.ensures.ran (YieldsList-from_slice s cc) (λ f x r q k. search (rules, tests)) ∙ zero_fold s false
