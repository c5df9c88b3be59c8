use mathlib.Core.Path.{◌∙◌, sym}
use native.Mathlib.Omega.{arith}
use lib.ListN.{length, take, drop, length-drop}
use Prim.Native.Nat.{◌-◌}
use mathlib.Core.Path.{◌≡◌}
use lib.Seq.{take_all}
use Rattle.requests.proofs.Requests.{nothing_asked, hex_line}
use Rattle.std.proofs.Common.{rules}
use Rattle.std.proofs.lemmas.Grind.{common_steps}
use Rattle.requests.proofs.asked.Goals as goal

pub returns-in_default : goal.returns-in_default
returns-in_default c = nothing_asked c.args.dialect c.args.line.now c.args.room.now c.in_default.len_below

pub returns-in_default-len1-up : goal.returns-in_default-len1-up
returns-in_default-len1-up c =
    let e = c.hex_asked.ensures in
    let line = c.args.line.now in
    let rest : take (length line - 1) (drop 1 line) ≡ drop 1 line = take_all (length line - 1) (drop 1 line) (omega (arith, length-drop 1 line)) in
    hex_line c.args.dialect c.args.line.now c.args.room.now (omega (arith, c.longest.ensures)) (omega arith) (λ h i. absurd (grind (arith, common_steps))) (λ s h i. grind (arith, common_steps)) (λ s h. search rules) rest (sym c.is_hex.ensures ∙ c.if-is_hex.true) c.bytes_of-n.ensures (c.hex_asked.ensures c.bytes_of-n.new.dst)
