use Rattle.rules.specs.Writer.{code_image}
use Rattle.pages.proofs.Pages.{written_then}
use Rattle.image_writer.proofs.put_code.Goals as goal

pub returns : goal.returns
unfolding code_image
returns c = written_then c.put_counted.ensures c.put.ensures
