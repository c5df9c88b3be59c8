use lib.ListN.{take}
use mathlib.Core.List.{◌∷◌}
use Rattle.rules.specs.Writer.{records_image}
use Rattle.pages.specs.Pages.{Written}
use Rattle.image_writer.proofs.put_personal.Given as goal

abbrev pub invariant-loop-record : goal.invariant-loop-record
invariant-loop-record l = Written l.fn.page (16 ∷ records_image (take l.record-index l.personal)) l.page
