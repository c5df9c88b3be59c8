use mathlib.Core.Path.{◌≡◌, ap}
use native.Mathlib.Omega.{arith}
use mathlib.Core.List.{[], ◌∷◌}
use Prim.Native.Nat.{ℕ, ◌+◌, ◌/◌, ◌%◌}
use Rattle.hexadecimal.specs.Hex.{hex_of}
use Rattle.line_texts.specs.Texts.{reply_text}
use Rattle.pages.proofs.Pages.{written_then, written_same}
use Rattle.line_texts.proofs.put_job.Goals as goal

pub returns : goal.returns
unfolding reply_text
returns c =
    let head = written_same (ap (λ (n : ℕ). 0x4A ∷ (0x30 + n) ∷ 0x20 ∷ []) c.from.ensures) c.put.ensures in
    let k = c.args.key in
    let high : (k / 256) % 256 ≡ k / 256 = omega arith in
    let key = written_same (ap hex_of (rw high at c.to_be_bytes.ensures)) c.put_hex.ensures in
    written_then head (written_then key c.put_block.ensures)
