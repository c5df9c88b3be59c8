use Rattle.lines.proofs.Rooms.{fit_lem}
use native.Mathlib.Omega.{arith}
use Rattle.lines.proofs.kept.Kept.fit.Goals as goal

pub returns : goal.returns
returns g c = fit_lem c.args.self.now (omega arith) c.min-self.ensures
