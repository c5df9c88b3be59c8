use Rattle.rules.specs.declared.Code.{Code}
use Rattle.rules.specs.Codes.{PUK, full_tries, code_of}
use Rattle.rules.specs.CodeCommands.{new_value, unblocked, unblock_by_presented_puk}
use Rattle.code_commands.proofs.Laws.{replaced_whole}
use Rattle.code_commands.proofs.unblock_by_presented_puk.Goals as goal

pub returns : goal.returns
unfolding unblock_by_presented_puk
returns c =
    let a = c.args in
    let blocked : Code = code_of a.codes a.pin in
    simp (
      c.replaced.ensures,
      c.unblocked-stored.ensures,
      c.storing-renewed.ensures,
      c.code_of-blocked.ensures,
      c.verdict-found.ensures,
      c.two_values.ensures.old,
      c.two_values.ensures.new,
      c.code_of-puk.ensures,
    )
    (replaced_whole a.codes PUK a.pin (new_value a.codes PUK a.values.now) (λ v. unblocked a.codes a.pin v full_tries) blocked.tries blocked.verified _)
