use Rattle.std.proofs.Common.{arith}
use Rattle.std.proofs.lemmas.Grind.{common_steps}
use Rattle.octets.specs.Octets.{good_room}
use Rattle.octets.proofs.good_room.Goals as goal

pub returns-then-len-size : goal.returns-then-len-size
unfolding good_room
returns-then-len-size c = grind (arith, common_steps)

pub returns-else-len-size : goal.returns-else-len-size
unfolding good_room
returns-else-len-size c = grind (arith, common_steps)
