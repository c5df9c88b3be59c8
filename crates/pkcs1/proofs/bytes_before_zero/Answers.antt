use Rattle.std.proofs.Common.{sym, ◌∙◌, rules, tests}
use Rattle.std.proofs.lemmas.Iterator.{YieldsList-from_slice}
use Rattle.std.proofs.lemmas.Iterator.Search.{YieldsList-from_take_while}
use Rattle.std.proofs.lemmas.Iterator.Consumers.{count_from_yields_List}
use Rattle.std.proofs.lemmas.List.Folds.{length-prefix_len}
use mathlib.Core.Bool.{not}
use lib.Dec.{eqb}
use Rattle.pkcs1.proofs.Steps.{before_is}
use Rattle.pkcs1.proofs.bytes_before_zero.Goals as goal

pub returns : goal.returns
returns c =
    let s = c.args.s.now in
    count_from_yields_List _ _ c.count.ensures.ran (YieldsList-from_take_while _ (λ x. not (eqb x 0)) (YieldsList-from_slice s cc) (cc) (cc) (λ x b q k. search (rules, tests)))
    ∙ length-prefix_len (λ x. not (eqb x 0)) s
    ∙ sym (before_is s)
