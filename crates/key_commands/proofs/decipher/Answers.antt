use mathlib.Core.Path.{◌≡◌}
use mathlib.Core.List.{◌++◌}
use Prim.Native.Nat.{◌+◌, ◌≤◌}
use native.Mathlib.Omega.{arith}
use lib.ListN.{length, take}
use Rattle.std.proofs.lemmas.Grind.{common_steps}
use Rattle.std.proofs.lemmas.Bool.Decides.{nat_tests}
use Rattle.rules.specs.Session.{chain_bytes}
use Rattle.rules.specs.KeyCommands.{decipher}
use Rattle.key_commands.proofs.Blocks.{chain_whole}
use Rattle.key_commands.proofs.decipher.Goals as goal

pub returns-then-h-eq16 : goal.returns-then-h-eq16
unfolding decipher
returns-then-h-eq16 c =
    let count : c.saturating_add-len.result ≡ length (chain_bytes c.args.s) + length c.args.d.now = grind (arith, common_steps) in
    let whole : take 257 c.part.result.now ≡ chain_bytes c.args.s ++ c.args.d.now = grind (arith, chain_whole) in
    let fits : length (chain_bytes c.args.s ++ c.args.d.now) ≤ 257 = grind (arith, common_steps) in
    simp (c.session_status-then-h-eq16.ensures, c.with_chain-chained.ensures, whole) (grind (arith, nat_tests))
