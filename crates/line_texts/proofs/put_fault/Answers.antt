use Rattle.pages.proofs.Pages.{written_same}
use Rattle.line_texts.proofs.Texts.{fault_text}
use Rattle.line_texts.proofs.put_fault.Goals as goal

pub returns : goal.returns
returns c = written_same (simp (fault_text c.args.fault, c.from-n.ensures)) c.put.ensures
