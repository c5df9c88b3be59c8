use Rattle.pages.proofs.Pages.{written_then, page_put}
use Rattle.std.proofs.Common.{rules}
use Rattle.line_texts.proofs.put_line.Goals as goal

pub returns : goal.returns
returns c = page_put (written_then c.put_reply.ensures c.put.ensures) (search rules)
