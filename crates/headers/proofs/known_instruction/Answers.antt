use mathlib.Core.Path.{refl}
use mathlib.Core.List.{map}
use lib.Dec.{eqb}
use Rattle.std.proofs.Common.{rules}
use Rattle.std.proofs.lemmas.List.Recursion.{or_is}
use Rattle.std.specs.Slice.Iter.{iter_rest}
use Rattle.octets.specs.Octets.{member}
use Rattle.rules.specs.declared.Command.TheVariants.{Select}
use Rattle.rules.specs.Judgement.{instruction, known_instruction}
use Rattle.headers.proofs.known_instruction.Goals as goal

pub returns : goal.returns
unfolding known_instruction
returns c =
    let ins = c.args.h.ins in
    rw (or_is (λ l. member ins (map instruction l)) (λ x. eqb ins (instruction x)) refl (λ _ _. refl) (iter_rest c.iter.result) Select c.any.result (search rules) (search rules), c.iter.ensures.rest)
