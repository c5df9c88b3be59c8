use Rattle.std.proofs.Common.{sym, ◌∙◌}
use Rattle.image_reader.proofs.Reading.{read_some, read_none}
use Rattle.image_reader.proofs.read_at.Goals as goal

pub returns-in-Some : goal.returns-in-Some
returns-in-Some c = read_some c.args.image.now c.args.at c.in-Some.byte (sym c.byte_at.ensures ∙ c.in-Some.is)

pub returns-in-None : goal.returns-in-None
returns-in-None c = read_none c.args.image.now c.args.at (sym c.byte_at.ensures ∙ c.in-None.is)
