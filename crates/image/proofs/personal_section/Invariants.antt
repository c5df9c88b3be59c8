use mathlib.Core.Path.{◌≡◌}
use lib.ListN.{length}
use Rattle.rules.specs.Image.{read_records}
use Rattle.image.proofs.Filling.{filling}
use Rattle.image.proofs.personal_section.Given as goal

abbrev pub invariant-loop-record : goal.invariant-loop-record
invariant-loop-record l = (length l.record-items ≡ 16) × (filling read_records l.record-items l.record-index l.reader ≡ read_records 16 l.initial.reader)
