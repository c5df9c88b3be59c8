use mathlib.Core.Path.{ap}
use mathlib.Core.List.{List, ◌∷◌}
use native.Mathlib.Omega.{arith}
use native.Mathlib.Numerals.{add-one}
use lib.Seq.{take_all}
use Rattle.octets.specs.Octets.{Bytes, blank}
use Rattle.rules.specs.declared.Record.{Record}
use Rattle.rules.specs.Writer.{records_image, personal_image}
use Rattle.pages.proofs.Pages.{written_then, written_same}
use Rattle.image_writer.proofs.Records.{records_more}
use Rattle.image_writer.proofs.put_personal.Goals as goal

pub loop-record-init : goal.loop-record-init
unfolding records_image
loop-record-init c = c.put.ensures

pub loop-record-preserved : goal.loop-record-preserved
unfolding blank
loop-record-preserved c =
    let more = records_more c.args.personal.now c.loop-record.record-index (omega arith) in
    rw add-one (written_same (ap (λ (b : Bytes). 16 ∷ b) more) (written_then c.loop-record.invariant c.put_record.ensures))

pub returns : goal.returns
unfolding personal_image
returns c =
    let all = take_all c.loop-record.record-index c.args.personal.now (omega arith) in
    written_same (ap (λ (rs : List Record). 16 ∷ records_image rs) all) c.loop-record.invariant
