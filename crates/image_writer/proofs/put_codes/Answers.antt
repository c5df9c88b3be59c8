use mathlib.Core.Path.{ap}
use native.Mathlib.Omega.{arith}
use Rattle.std.proofs.lemmas.List.{get_or_default}
use Rattle.rules.specs.Codes.{zero_code}
use Rattle.rules.specs.Writer.{code_image, codes_image}
use Rattle.pages.proofs.Pages.{written_then, written_same}
use Rattle.image_writer.proofs.put_codes.Goals as goal

pub returns : goal.returns
unfolding codes_image
returns c =
    let codes = c.args.codes.now in
    let puk = written_same (ap code_image (get_or_default codes 0 _ zero_code (omega arith))) c.put_code.ensures in
    let pin1 = written_same (ap code_image (get_or_default codes 1 _ zero_code (omega arith))) c.put_code-2.ensures in
    let pin2 = written_same (ap code_image (get_or_default codes 2 _ zero_code (omega arith))) c.put_code-3.ensures in
    written_then c.put.ensures (written_then puk (written_then pin1 pin2))
