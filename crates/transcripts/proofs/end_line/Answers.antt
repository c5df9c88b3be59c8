use Rattle.transcripts.proofs.Reading.{line_ended}
use Rattle.transcripts.proofs.end_line.Goals as goal

pub returns : goal.returns
returns c = line_ended c.args.dialect c.args.console.now c.args.last.now c.most.ensures c.add.new.self c.add.ensures.held c.held.ensures c.answer-end.ensures c.add.new.self.bytes
