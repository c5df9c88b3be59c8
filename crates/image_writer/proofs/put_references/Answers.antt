use Rattle.rules.specs.Writer.{references_image}
use Rattle.pages.proofs.Pages.{written_then}
use Rattle.image_writer.proofs.put_references.Goals as goal

pub returns : goal.returns
unfolding references_image
returns c = written_then c.put.ensures c.put-2.ensures
