use mathlib.Core.Path.{sym, ap, ◌∙◌}
use mathlib.Core.List.{List, [], ◌∷◌}
use Prim.Native.Nat.{ℕ}
use native.Mathlib.Omega.{arith}
use lib.ListN.{length}
use lib.Seq.{take_all}
use Rattle.octets.specs.Octets.{Bytes}
use Rattle.rules.specs.Writer.{keys_among, keys_on, key_bytes, keys_image}
use Rattle.pages.proofs.Pages.{written_then, written_same}
use Rattle.image_writer.proofs.Keys.{key_more_there, key_more_missing, two_bytes}
use Rattle.image_writer.proofs.put_keys.Goals as goal
use Rattle.image_writer.proofs.put_keys.Goals.{then-present, else-present}

pub loop-key-init : goal.loop-key-init
unfolding keys_among key_bytes
loop-key-init c = rw (← c.key_count.ensures) c.put.ensures

pub loop-key-preserved : goal.loop-key-preserved
loop-key-preserved c =
    let known : List ℕ = 0x0100 ∷ 0x0200 ∷ 0x1100 ∷ 0x1200 ∷ [] in
    elim c.if-present.branch [
      | then-present w ↦
          let more = key_more_there c.args.keys known c.loop-key.key-index (omega arith) (sym c.present.ensures ∙ w.if-present.true) in
          rw w.page-is (written_same (ap (λ (b : Bytes). length (keys_on c.args.keys) ∷ b) (rw (w.to_be_bytes.ensures, two_bytes _ c.loop-key-test.element_fits.fits) more)) (written_then c.loop-key.invariant w.put-then-present.ensures))
      | else-present w ↦ rw w.page-is (written_same (ap (λ (ks : List ℕ). length (keys_on c.args.keys) ∷ key_bytes ks) (key_more_missing c.args.keys known c.loop-key.key-index (omega arith) (sym c.present.ensures ∙ w.if-present.false))) c.loop-key.invariant)
    ]

pub returns : goal.returns
unfolding keys_image
returns c =
    let known : List ℕ = 0x0100 ∷ 0x0200 ∷ 0x1100 ∷ 0x1200 ∷ [] in
    let all = take_all c.loop-key.key-index known (omega arith) in
    written_same (ap (λ (ks : List ℕ). length (keys_on c.args.keys) ∷ key_bytes (keys_among c.args.keys ks)) all) c.loop-key.invariant
