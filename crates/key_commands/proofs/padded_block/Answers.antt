use mathlib.Core.Path.{ap, ◌∙◌}
use native.Mathlib.Omega.{arith}
use Rattle.octets.proofs.Cutting.{cut_length}
use Rattle.pkcs1.specs.Pkcs1.{padded}
use Rattle.key_commands.proofs.Blocks.{pad_alone}
use Rattle.key_commands.proofs.padded_block.Goals as goal

pub returns : goal.returns
returns c =
    ap (λ p. p.1) (c.shoalpennant_pad.ensures ∙ pad_alone c.part.result.now _ (cut_length 245 _ c.args.d.now c.part.ensures) (omega arith))
    ∙ ap padded c.part.ensures
