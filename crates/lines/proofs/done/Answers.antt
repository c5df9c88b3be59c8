use mathlib.Core.Path.{ap}
use mathlib.Core.List.{[], ◌∷◌, ◌++◌}
use Prim.Native.Nat.{ℕ}
use native.Mathlib.Omega.{arith}
use Rattle.rules.specs.declared.Card.{Card}
use Rattle.rules.specs.Numbers.{Returned}
use Rattle.rules.specs.Edge.{power_reset}
use Rattle.rules.specs.Image.{load}
use lib.ListN.{take}
use Rattle.requests.specs.Requests.{line_feed}
use Rattle.line_texts.specs.Texts.{reply_text, load_text}
use Rattle.writing.proofs.Puts.{put_same}
use Rattle.lines.specs.Lines.{answer_to, setup_after}
use Rattle.lines.proofs.Answers.{call_buffer, held_a, held_s, card_changed, called, saved, buffer_changed, authentication_lent, signature_lent}
use Rattle.lines.proofs.done.Goals as goal

pub returns-in-Reset : goal.returns-in-Reset
unfolding answer_to setup_after
returns-in-Reset c =
    let t = c.args.terminal.now in
    let reset = c.power_reset-reply.ensures in
    rw (c.in-Reset.is, ap (λ (x : Returned × Card). x.1) reset) (record {
      lent = card_changed t c.fit.ensures c.fit-2.ensures (power_reset t.card).1;
      line = put_same (ap (λ (x : Returned × Card). reply_text c.args.dialect x.0 [] ++ line_feed ∷ []) reset) c.put_line.ensures;
    })

pub returns-in-Command : goal.returns-in-Command
unfolding answer_to setup_after
returns-in-Command c =
    let t = c.args.terminal.now in
    let made = rw (
      c.part.ensures,
      c.held.ensures,
      held_a t c.fit.ensures c.fit-2.ensures,
      c.held-in-Command.ensures,
      held_s t c.fit.ensures c.fit-2.ensures,
      call_buffer t.buffer c.blank-space.ensures c.min.ensures,
    ) at c.command-reply.ensures in
    rw c.in-Command.is (called t c.fit.ensures c.fit-2.ensures c.args.dialect made c.put_line-in-Command.ensures)

pub returns-in-Delivery : goal.returns-in-Delivery
unfolding answer_to setup_after
returns-in-Delivery c =
    let t = c.args.terminal.now in
    let made = rw (c.part-in-Delivery.ensures, call_buffer t.buffer c.blank-space.ensures c.min.ensures) at c.delivery-reply.ensures in
    rw c.in-Delivery.is (called t c.fit.ensures c.fit-2.ensures c.args.dialect made c.put_line-in-Delivery.ensures)

pub returns-in-Image : goal.returns-in-Image
unfolding answer_to setup_after
returns-in-Image c =
    let t = c.args.terminal.now in
    let loaded = rw c.part-in-Image.ensures at c.load-loaded.ensures in
    rw (c.in-Image.is, ap (λ (x : ℕ × Card). x.1) loaded) (record {
      lent = card_changed t c.fit.ensures c.fit-2.ensures (load (take c.in-Image.n c.args.room.now)).1;
      line = put_same (ap (λ (x : ℕ × Card). load_text x.0 ++ line_feed ∷ []) loaded) c.put_load.ensures;
    })

pub returns-in-Saving : goal.returns-in-Saving
unfolding answer_to setup_after
returns-in-Saving c =
    let t = c.args.terminal.now in
    let made = rw (call_buffer t.buffer c.blank-space.ensures c.min.ensures) at c.write-result.ensures in
    rw c.in-Saving.is (saved t c.fit.ensures c.fit-2.ensures made c.put_saved.ensures)

pub returns-in-Authentication : goal.returns-in-Authentication
unfolding answer_to setup_after
returns-in-Authentication c =
    rw c.in-Authentication.is (record {
      lent = authentication_lent c.args.terminal.now c.fit.ensures c.fit-2.ensures c.in-Authentication.n c.args.room.now (omega arith) c.part-in-Authentication.ensures (omega arith) c.hold.ensures;
      line = c.put.ensures;
    })

pub returns-in-Signature : goal.returns-in-Signature
unfolding answer_to setup_after
returns-in-Signature c =
    rw c.in-Signature.is (record {
      lent = signature_lent c.args.terminal.now c.fit.ensures c.fit-2.ensures c.in-Signature.n c.args.room.now (omega arith) c.part-in-Signature.ensures (omega arith) c.hold-in-Signature.ensures;
      line = c.put-in-Signature.ensures;
    })

pub returns-in-Buffer : goal.returns-in-Buffer
unfolding answer_to setup_after
returns-in-Buffer c =
    rw c.in-Buffer.is (record { lent = buffer_changed c.args.terminal.now c.fit.ensures c.fit-2.ensures c.in-Buffer.n; line = c.put-in-Buffer.ensures })

pub returns-in-Other : goal.returns-in-Other
unfolding answer_to setup_after
returns-in-Other c =
    rw c.in-Other.is (record { lent = card_changed c.args.terminal.now c.fit.ensures c.fit-2.ensures c.args.terminal.now.card; line = c.put-in-Other.ensures })
