use Rattle.rules.specs.Writer.{image_of}
use Rattle.pages.proofs.Pages.{written_then, page_put}
use Rattle.std.proofs.Common.{rules}
use Rattle.image_writer.proofs.put_image.Goals as goal

pub returns : goal.returns
unfolding image_of
returns c =
    page_put (written_then c.put_codes.ensures (written_then c.put_keys.ensures (written_then c.put_references.ensures
    (written_then c.put_personal.ensures c.put_counts.ensures)))) (search rules)
