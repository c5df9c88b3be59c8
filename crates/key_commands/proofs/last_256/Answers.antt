use mathlib.Core.Path.{◌∙◌}
use native.Mathlib.Omega.{arith}
use lib.ListN.{drop, length-drop}
use lib.Seq.{take_all}
use Rattle.key_commands.proofs.last_256.Goals as goal

pub returns : goal.returns
returns c = c.copy_from_slice.ensures.after ∙ take_all 256 (drop 1 c.args.cryptogram) (omega (arith, length-drop 1 c.args.cryptogram))
