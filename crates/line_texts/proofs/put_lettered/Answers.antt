use Rattle.pages.proofs.Pages.{written_then}
use Rattle.line_texts.proofs.put_lettered.Goals as goal

pub returns : goal.returns
returns c = rw c.part.ensures at (written_then c.put.ensures c.put_hex.ensures)
