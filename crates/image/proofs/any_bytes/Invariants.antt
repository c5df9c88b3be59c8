use mathlib.Core.Path.{◌≡◌}
use lib.ListN.{length}
use Rattle.rules.specs.Image.{any_bytes}
use Rattle.image.proofs.Filling.{filling}
use Rattle.image.proofs.any_bytes.Given as goal

abbrev pub invariant-loop-byte : goal.invariant-loop-byte
invariant-loop-byte l = filling any_bytes l.room l.byte-index l.reader ≡ any_bytes (length l.initial.room) l.initial.reader
