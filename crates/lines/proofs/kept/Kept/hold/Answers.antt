use native.Mathlib.Omega.{arith}
use Rattle.lines.proofs.Rooms.{hold_lem}
use Rattle.lines.proofs.kept.Kept.hold.Goals as goal

pub returns : goal.returns
returns g c = hold_lem c.args.self.now (omega arith) c.args.string.now c.copy_at.ensures c.min-self.ensures
