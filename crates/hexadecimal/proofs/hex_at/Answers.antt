use mathlib.Core.Path.{◌≡◌, refl, ◌∙◌}
use Prim.Native.Nat.{◌-◌}
use native.Mathlib.Omega.{arith}
use lib.ListN.{length, take, drop, length-set, length-take, length-drop}
use lib.Seq.{paste-zero}
use Rattle.octets.proofs.Pasting.{pasted_part}
use Rattle.hexadecimal.specs.Hex.{hex_of}
use Rattle.hexadecimal.proofs.Laws.{length_hex_of, digit_more, whole_pasted}
use Rattle.hexadecimal.proofs.hex_at.Goals as goal

pub loop-j-init : goal.loop-j-init
loop-j-init c = (refl, paste-zero (take (c.min-end.result - c.min.result) (drop c.min.result c.args.dst.now)) 0 (hex_of c.args.s.now))

pub hex_digit-requires : goal.hex_digit-requires
hex_digit-requires c =
    let rest = drop c.min.result c.args.dst.now in
    omega (arith, length_hex_of c.args.s.now, length-take (c.min-end.result - c.min.result) rest, length-drop c.min.result c.args.dst.now)

pub loop-j-preserved : goal.loop-j-preserved
loop-j-preserved c =
    let s = hex_of c.args.s.now in
    let rest = drop c.min.result c.args.dst.now in
    let front = take (c.min-end.result - c.min.result) rest in
    let digits = length_hex_of c.args.s.now in
    let room = length-take (c.min-end.result - c.min.result) rest in
    let left = length-drop c.min.result c.args.dst.now in
    let turn = digit_more front s c.loop-j.j c.loop-j-test.true (omega arith) c.hex_digit.ensures in
    (simp length-set c.loop-j.invariant.0, rw c.loop-j.invariant.1 turn)

pub returns : goal.returns
returns c =
    let s = hex_of c.args.s.now in
    let dst = c.args.dst.now in
    let n = c.min-end.result - c.min.result in
    let digits = length_hex_of c.args.s.now in
    let room = length-take n (drop c.min.result dst) in
    let left = length-drop c.min.result dst in
    let size : length (take n (drop c.min.result dst)) ≡ n = omega arith in
    let all : c.loop-j.j ≡ n = omega arith in
    let part : c.loop-j.place-items ≡ take n s = c.loop-j.invariant.1 ∙ rw all (whole_pasted (take n (drop c.min.result dst)) s n size) in
    (omega arith, pasted_part dst c.args.at s c.loop-j.place-items c.min.result n (omega arith) (omega arith) part)
