use native.Mathlib.Omega.{arith}
use Rattle.lines.proofs.Rooms.{tidy_lem}
use Rattle.lines.proofs.kept.Kept.tidy.Goals as goal

pub returns : goal.returns
returns g c = tidy_lem c.args.self.now (omega arith) c.min-self.ensures c.fill.ensures
