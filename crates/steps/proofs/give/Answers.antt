use mathlib.Core.Path.{◌≡◌, ap, ◌∙◌}
use native.Mathlib.Omega.{arith}
use lib.ListN.{take}
use Rattle.octets.specs.Octets.{Bytes}
use Rattle.octets.proofs.Cutting.{cut_again}
use Rattle.rules.specs.Answers.{response, give}
use Rattle.steps.specs.Steps.{session_output_for}
use Rattle.steps.proofs.Laws.{give_all, give_held}
use Rattle.steps.proofs.give.Goals as goal

pub returns-then-shown-from : goal.returns-then-shown-from
returns-then-shown-from c =
    let a = c.args in
    let b : Bytes = c.part-shown.result.now in
    let cut : b ≡ take 256 a.d.now = c.part-shown.ensures in
    c.session_data.ensures
    ∙ ap session_output_for
    (ap (λ (x : Bytes). record { session = a.s; answer = response x 0x9000 }) (cut_again 256 b a.d.now cut)
    ∙ give_all a.s a.le b (omega (arith, c.from.ensures, c.if-shown-from.true))
    ∙ ap (give a.s a.le) cut)

pub returns : goal.returns
returns c =
    let a = c.args in
    let b : Bytes = c.part-shown.result.now in
    let cut : b ≡ take 256 a.d.now = c.part-shown.ensures in
    c.session_status.ensures
    ∙ ap session_output_for
    (simp (c.with_held-held.ensures, c.more_bytes.ensures, cut_again 256 b a.d.now cut)
    (give_held a.s a.le b (omega (arith, c.from.ensures, c.if-shown-from.false)) ∙ ap (give a.s a.le) cut))
