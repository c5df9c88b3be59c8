use mathlib.Core.Path.{◌≡◌}
use lib.ListN.{length}
use Rattle.rules.specs.Numbers.{fault_number}
use Rattle.rules.specs.Image.{bytes_if}
use Rattle.image.specs.Results.{within}
use Rattle.image.proofs.Filling.{filling}
use Rattle.image.proofs.bytes_within.Given as goal

abbrev pub invariant-loop-byte : goal.invariant-loop-byte
invariant-loop-byte l = filling (bytes_if (within l.low l.high) (fault_number l.fault)) l.room l.byte-index l.reader ≡ bytes_if (within l.low l.high) (fault_number l.fault) (length l.initial.room) l.initial.reader
