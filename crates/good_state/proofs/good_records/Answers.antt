-- There are sixteen records.
use native.Mathlib.Omega.{arith}
use lib.ListN.{length}
use borrow.Author.Tests.{eq-eqb, tests}
use Rattle.std.proofs.Common.{◌≡◌, ◌&&◌, true, ◌∙◌, rules}
use Rattle.std.proofs.lemmas.Iterator.{YieldsList-from_slice}
use Rattle.std.proofs.lemmas.Iterator.Consumers.{fold_from_yields_List}
use Rattle.rules.specs.State.{good_record, good_records}
use Rattle.good_state.proofs.Records.{good_fold}
use Rattle.good_state.proofs.good_records.Goals as goal

pub returns : goal.returns
returns c =
    let personal = c.args.personal.now in
    let sixteen : length personal ≡ 16 = omega arith in
    let each : c.fold.result ≡ good_records (length personal) personal =
    fold_from_yields_List _ (λ b r. b && good_record r) true _ c.fold.ensures.ran (YieldsList-from_slice personal cc) (λ b x r q k. search (rules, tests))
    ∙ good_fold personal true in
    rw (eq-eqb _ _ sixteen) (rw sixteen at each)
