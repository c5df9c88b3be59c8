-- The places gone over hold the byte.
use Rattle.std.proofs.Common.{◌≡◌, take, replicate}
use Rattle.writing.proofs.fill.Given as goal

abbrev pub invariant-loop-place : goal.invariant-loop-place
invariant-loop-place l = take l.place-index l.place-items ≡ replicate l.place-index l.byte
