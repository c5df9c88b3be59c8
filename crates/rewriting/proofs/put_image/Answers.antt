use Rattle.rewriting.proofs.Texts.{image_put}
use Rattle.rewriting.proofs.put_image.Goals as goal

pub returns : goal.returns
returns c = rw c.unwrap_or.ensures (image_put c.args.card.now c.args.text.now c.requires c.told-text c.write.result c.write.ensures)
