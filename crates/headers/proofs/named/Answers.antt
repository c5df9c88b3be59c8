use Rattle.std.proofs.Common.{rules}
use borrow.Author.Tests.{tests}
use Rattle.std.proofs.lemmas.Iterator.{YieldsList-from_slice}
use Rattle.std.proofs.lemmas.Iterator.Consumers.{YieldsList-at, YieldsList-from_copied}
use Rattle.std.proofs.lemmas.Iterator.Search.{find_from_yields_List}
use Rattle.rules.specs.Judgement.{commands}
use Rattle.headers.proofs.Lists.{named_found, names}
use Rattle.headers.proofs.named.Goals as goal

pub returns : goal.returns
returns c =
    let chain = YieldsList-from_copied (YieldsList-at c.copied.ensures.source (YieldsList-from_slice commands c.iter.ensures.rest)) in
    named_found c.args.h commands c.find.result (find_from_yields_List (names c.args.h) _ _ c.find.result c.find.ensures.ran chain (λ x b q k. search (rules, tests)))
