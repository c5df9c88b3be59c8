use Rattle.std.proofs.Common.{refl, rules}
use Rattle.std.proofs.lemmas.List.Recursion.{and_is}
use Rattle.octets.specs.Octets.{digit, all_digits}
use Rattle.octets.proofs.all_digits.Goals as goal

pub returns : goal.returns
returns c = and_is all_digits digit refl (λ _ _. refl) c.args.s.now 0 _ (search rules) (search rules)
