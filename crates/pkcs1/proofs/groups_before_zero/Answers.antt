use Rattle.std.proofs.Common.{◌≡◌, ◌/◌, length, ◌∙◌, rules, tests, arith}
use Rattle.std.specs.List.{list_any, prefix_len}
use Rattle.std.specs.Simd.{first_chunks}
use Rattle.std.proofs.lemmas.Iterator.{YieldsList-from_slice}
use Rattle.std.proofs.lemmas.Iterator.Search.{YieldsList-from_take_while}
use Rattle.std.proofs.lemmas.Iterator.Consumers.{count_from_yields_List}
use Rattle.std.proofs.lemmas.List.Folds.{length-prefix_len}
use mathlib.Core.Bool.{not}
use lib.Dec.{eqb}
use Rattle.pkcs1.proofs.Steps.{groups_before}
use Rattle.pkcs1.proofs.groups_before_zero.Goals as goal

pub returns : goal.returns
returns c =
    let s = c.args.s.now in
    let k = length s / 8 in
    let passed : c.count.result ≡ prefix_len (λ g. not (list_any (λ x. eqb x 0) g)) (first_chunks 8 k s) =
    count_from_yields_List _ _ c.count.ensures.ran (YieldsList-from_take_while _ (λ g. not (list_any (λ x. eqb x 0) g)) (YieldsList-from_slice (first_chunks 8 k s) cc) (cc) (cc) (λ x b q k. search (rules, tests)))
    ∙ length-prefix_len (λ g. not (list_any (λ x. eqb x 0) g)) (first_chunks 8 k s) in
    rw passed (groups_before 8 k s (omega arith))
