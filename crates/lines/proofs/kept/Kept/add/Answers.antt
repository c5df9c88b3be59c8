use native.Mathlib.Omega.{arith}
use Rattle.lines.proofs.Rooms.{add_lem, added_lem}
use Rattle.lines.proofs.kept.Kept.add.Goals as goal

pub returns-clause-whole : goal.returns-clause-whole
returns-clause-whole g c = added_lem c.args.self.now (omega arith) c.args.string.now (omega arith) c.min-room.ensures c.min-have.ensures c.copy_at.ensures c.saturating_add.ensures c.min-self.ensures

pub returns-clause-held : goal.returns-clause-held
returns-clause-held g c = add_lem c.args.self.now (omega arith) c.args.string.now (omega arith) c.min-room.ensures c.min-have.ensures c.copy_at.ensures c.saturating_add.ensures c.min-self.ensures
