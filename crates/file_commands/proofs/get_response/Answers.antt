use mathlib.Core.Path.{◌≡◌}
use mathlib.Core.Logic.{◌≢◌}
use Prim.Native.Nat.{◌≤◌, ◌<◌}
use native.Mathlib.Omega.{arith}
use lib.ListN.{length, take, drop, length-drop}
use borrow.Author.Tests.{ne_eqb, lt-leb}
use Rattle.octets.specs.Octets.{Bytes}
use Rattle.std.proofs.lemmas.Grind.{common_steps}
use Rattle.rules.specs.Session.{held_bytes}
use Rattle.rules.specs.FileCommands.{get_response}
use Rattle.file_commands.proofs.Laws.{first_uncut, rest_uncut}
use Rattle.file_commands.proofs.get_response.Goals as goal

pub returns : goal.returns
unfolding get_response
returns c =
    let all : Bytes = c.part-all.result.now in
    let held : all ≡ held_bytes c.args.s = grind (arith, common_steps) in
    let short : length all ≤ 256 = grind (arith, common_steps) in
    let first : take 256 c.split_at.result.0.now ≡ take c.args.h.le all = grind (arith, first_uncut) in
    let rest : take 256 c.split_at.result.1.now ≡ drop c.args.h.le all = grind (arith, rest_uncut) in
    let some : length all ≢ 0 = grind arith in
    let more : c.args.h.le < length all = grind arith in
    simp (
      c.session_data-2.ensures,
      c.with_held.ensures,
      c.more_bytes.ensures,
      first,
      rest,
      ← held,
      length-drop c.args.h.le all,
      ne_eqb (length all) 0 some,
      lt-leb (length all) c.args.h.le more,
    )
