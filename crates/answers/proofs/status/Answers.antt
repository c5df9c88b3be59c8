use Rattle.std.proofs.Common.{refl}
use Rattle.octets.specs.Octets.{filled, blank}
use Rattle.answers.specs.Outputs.{output_for}
use Rattle.answers.proofs.status.Goals as goal

pub returns : goal.returns
unfolding output_for filled blank
returns c = refl
