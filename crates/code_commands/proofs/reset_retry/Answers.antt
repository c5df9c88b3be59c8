use Rattle.std.proofs.Common.{arith}
use Rattle.std.proofs.lemmas.Bool.Decides.{nat_tests}
use Rattle.rules.specs.CodeCommands.{reset_retry}
use Rattle.code_commands.proofs.Laws.{promised}
use Rattle.code_commands.proofs.reset_retry.Goals as goal

pub returns-then-code-ne0 : goal.returns-then-code-ne0
unfolding reset_retry
returns-then-code-ne0 c = promised c.args.codes c.args.counts c.args.h c.args.values.now _ (grind (arith, nat_tests))

pub returns-then-count_of-eq0 : goal.returns-then-count_of-eq0
unfolding reset_retry
returns-then-count_of-eq0 c = promised c.args.codes c.args.counts c.args.h c.args.values.now _ (grind (arith, nat_tests))

pub returns-then-h-eq3 : goal.returns-then-h-eq3
unfolding reset_retry
returns-then-h-eq3 c = promised c.args.codes c.args.counts c.args.h c.args.values.now _ (grind (arith, nat_tests))

pub returns : goal.returns
unfolding reset_retry
returns c = promised c.args.codes c.args.counts c.args.h c.args.values.now _ (grind (arith, nat_tests))
