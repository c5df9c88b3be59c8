use Rattle.pages.proofs.Pages.{written_then}
use Rattle.line_texts.proofs.put_block.Goals as goal

pub returns-in-Transcript : goal.returns-in-Transcript
returns-in-Transcript c = rw c.in-Transcript.is c.put.ensures

pub returns-in-StandIn : goal.returns-in-StandIn
returns-in-StandIn c = rw c.in-StandIn.is (rw c.part.ensures at (written_then c.put-in-StandIn.ensures c.put_hex.ensures))
