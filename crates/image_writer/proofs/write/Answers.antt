use mathlib.Core.Path.{sym, ap, ◌∙◌}
use mathlib.Core.Bool.{not}
use borrow.Author.Tests.{not-true, not-false}
use Rattle.rules.proofs.Writing.{write_bad, write_short}
use Rattle.image_writer.proofs.Edges.{write_put}
use Rattle.image_writer.proofs.write.Goals as goal

pub returns-then-not-good : goal.returns-then-not-good
returns-then-not-good c =
    let good = not-true _ (ap not (sym c.good.ensures) ∙ c.if-not-good.true-raw) in
    sym (write_bad c.args.card.now c.args.buffer.now good)

pub returns-then-buffer-lt1118 : goal.returns-then-buffer-lt1118
returns-then-buffer-lt1118 c =
    let good = not-false _ (ap not (sym c.good.ensures) ∙ c.if-not-good.false-raw) in
    sym (write_short c.args.card.now c.args.buffer.now good c.if-buffer-lt1118.true)

pub returns : goal.returns
returns c =
    let good = not-false _ (ap not (sym c.good.ensures) ∙ c.if-not-good.false-raw) in
    sym (write_put c.args.card.now c.args.buffer.now good c.if-buffer-lt1118.false c.put_image.ensures)
