use Rattle.pages.proofs.Pages.{written_then}
use Rattle.image_writer.proofs.put_counted.Goals as goal

pub returns : goal.returns
returns c = rw (c.part.ensures, c.from.ensures) at (written_then c.put.ensures c.put-2.ensures)
