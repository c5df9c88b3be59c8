use mathlib.Core.Path.{◌≡◌, refl, ◌∙◌}
use native.Mathlib.Omega.{arith}
use Prim.Native.Nat.{◌≤◌}
use lib.ListN.{length, length-set, length-take, take}
use lib.Seq.{paste-zero}
use Rattle.hexadecimal.specs.Hex.{bytes_of}
use Rattle.hexadecimal.proofs.Laws.{length_bytes_of, byte_more, front_pasted}
use Rattle.hexadecimal.proofs.bytes_of.Goals as goal

pub loop-j-init : goal.loop-j-init
loop-j-init c = (refl, paste-zero (take c.min-end.result c.args.dst.now) 0 (bytes_of c.args.s.now))

pub loop-j-preserved : goal.loop-j-preserved
loop-j-preserved c =
    let s = c.args.s.now in
    let front = take c.min-end.result c.args.dst.now in
    let room : length front ≤ c.min-end.result = omega (arith, length-take c.min-end.result c.args.dst.now) in
    let turn = byte_more front s c.loop-j.j c.loop-j-test.true (omega (arith, length_bytes_of s)) c.byte.ensures in
    (simp length-set c.loop-j.invariant.0, rw c.loop-j.invariant.1 turn)

pub returns : goal.returns
returns c =
    let s = c.args.s.now in
    let dst = c.args.dst.now in
    let n = c.min-end.result in
    let size = length_bytes_of s in
    let front = length-take n dst in
    let all : c.loop-j.j ≡ n = omega arith in
    (omega arith, rw (c.loop-j.invariant.1, all) (front_pasted dst (bytes_of s) n (omega arith)))
