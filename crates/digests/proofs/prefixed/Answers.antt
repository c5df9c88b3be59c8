use Rattle.std.proofs.Common.{rules}
use Rattle.digests.proofs.Prefixes.{stripped}
use Rattle.digests.proofs.prefixed.Goals as goal

pub returns : goal.returns
returns c = stripped c.args.prefix.now c.args.n c.args.d.now c.strip_prefix.result c.is_some_and.result c.strip_prefix.ensures.cases (search rules) (search rules)
