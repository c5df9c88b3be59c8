use Rattle.std.proofs.Common.{◌≡◌, ℕ, ◌+◌, ◌-◌, ◌≤◌, List, Option, rules, arith, drop, length, take}
use Rattle.std.proofs.Math.Seq.{take-add}
use Rattle.std.specs.Io.KnownBytes.{Consumes}
use Rattle.std.proofs.KnownBytes.{Consumes-trans}
use Rattle.std.proofs.lemmas.Grind.{common_steps}
use borrow.Rule.Slice.PartMut.{put_mid}
use Rattle.image_input.proofs.read_image.Goals as goal

-- What came stands behind what was read.
read_behind : (a b c : Option (List ℕ)) (image room : List ℕ) (len n : ℕ) → len ≤ length image → length room ≡ length image - len
    → Consumes a b (take len image) → Consumes b c (take n room) → Consumes a c (take (len + n) (put_mid len (length image - len) image room))
read_behind a b c image room len n h e before more =
    let after = put_mid len (length image - len) image room in
    let front : take len after ≡ take len image = grind (arith, common_steps) in
    let behind : drop len after ≡ room = grind (arith, common_steps) in
    rw (take-add len n after, front, behind) (Consumes-trans a b c (take len image) (take n room) before more)

pub loop-preserved : goal.loop-preserved
loop-preserved g c =
    record {
      fits = search rules;
      more = search rules;
      read = read_behind _ _ _ c.loop.image c.read.new.room c.loop.len c.in-Ok.n (search rules) (search rules) c.loop.invariant.read c.in-Ok.ensures.bytes.0;
    }
