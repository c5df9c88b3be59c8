use Rattle.lines.proofs.Rooms.{new_lem}
use Rattle.lines.proofs.kept.Kept.new.Goals as goal

pub returns : goal.returns
returns g c = new_lem g.row.N c.args.string.now c.filled.ensures c.min.ensures
