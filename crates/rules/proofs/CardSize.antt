-- The card has no padding: as many bytes as its fields. Three codes of 12 + 1 + 1 + 1; two unblocking
-- counts; the profile's 4 marks, 21 bytes and sixteen records of
-- 64 + 1; the session's selection, environment, held answer, chain and job.
use mathlib.Core.Path.{◌≡◌, refl}
use Prim.Native.Nat.{◌+◌, ◌*◌}
use prog.Memory.{size}
use Rattle.rules.proofs.Card.TheLaws.{mir}

pub no_padding :
    size mir ≡ 3 * (12 + 1 + 1 + 1) + 2 + (4 + 21 + 16 * (64 + 1)) + ((2 + 2) + (2 + 3 * 2) + (256 + 2) + (258 + 2) + (2 + 2 + 2))
no_padding = refl
