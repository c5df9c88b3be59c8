-- VERIFY without data does as the cases expect.
use mathlib.Core.Path.{refl}
use Rattle.cases.specs.QueryCases.{queries, asking_calls, QueriesShown}
use Rattle.cases.proofs.Rules.{rules}

pub queries_shown : QueriesShown
unfolding rules queries asking_calls
queries_shown = record { answers = refl; asked = refl; first = refl; counted = refl }
