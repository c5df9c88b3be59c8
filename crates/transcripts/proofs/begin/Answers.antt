use mathlib.Core.Path.{ap, ◌∙◌}
use Prim.Native.Nat.{ℕ}
use Rattle.rules.specs.declared.Card.{Card}
use Rattle.rules.specs.Sample.{sample_image}
use Rattle.rules.proofs.Cases.{sample_loads}
use Rattle.transcripts.proofs.begin.Goals as goal

pub returns : goal.returns
unfolding sample_image
returns c =
    let card = ap (λ (x : ℕ × Card). x.1) (c.load-loaded.ensures ∙ sample_loads) in
    rw (card, c.new.ensures, c.new-2.ensures, c.first_buffer.ensures, c.new-3.ensures)
