-- What load and the writer ensure, as what is put into the text.
use Prim.Native.Nat.{ℕ, ◌≤◌}
use Rattle.std.proofs.Common.{Result, Ok, Err, subst}
use Rattle.std.specs.Result.{result_unwrap_or}
use mathlib.Core.Path.{◌≡◌, sym, ap, ◌∙◌}
use mathlib.Core.Bool.{true}
use mathlib.Core.List.{◌++◌}
use native.Mathlib.Omega.{arith}
use lib.ListN.{length, drop}
use Rattle.octets.specs.Octets.{Bytes}
use Rattle.writing.specs.Puts.{Put}
use Rattle.rules.specs.declared.Card.{Card}
use Rattle.rules.specs.declared.Fault.{Fault}
use Rattle.rules.specs.declared.Loaded.{Loaded}
use Rattle.rules.specs.declared.Refusal.{Refusal}
use Rattle.rules.specs.Numbers.{fault_number, load_number, Wrote, wrote, wrote_of}
use Rattle.rules.specs.State.{good}
use Rattle.rules.specs.Image.{load}
use Rattle.rules.specs.Writer.{image_of, write}
use Rattle.rules.proofs.Numbers.{told_apart, fault_some}
use Rattle.rules.proofs.Writing.{image_most, write_whole}
use Rattle.rules.proofs.GoodStates.{good_states}
use Rattle.image_writer.proofs.Edges.{image_front}
use Rattle.rewriting.specs.Rewriting.{number_text, rewritten}

-- The writer on a good card and a text of 1,119 bytes.
module _ (c : Card) (text : Bytes) (g : good c ≡ true) (size : length text ≡ 1119) where
  room : 1118 ≤ length text
  room = omega arith

  whole : write c text ≡ (wrote (length (image_of c)), image_of c ++ drop (length (image_of c)) text)
  whole = write_whole c text g room

  -- It answers the image's length, and no other case has that value.
  pub image_put : (r : Result ℕ Refusal) {after : Bytes} → ◌≡◌ {A = Wrote × Bytes} (wrote_of r, after) (write c text) → Put text 0 (image_of c) after (result_unwrap_or r 0)
  image_put r {after} e =
      let answered = told_apart.writes r (Ok (length (image_of c))) (ap (λ (x : Wrote × Bytes). x.0) (e ∙ whole)) in
      let P : Result ℕ Refusal → Type 0 = λ r. Put text 0 (image_of c) after (result_unwrap_or r 0) in
      subst P (sym answered) (record {
        whole = ap (λ (x : Wrote × Bytes). x.1) (e ∙ whole) ∙ sym (image_front c text g room);
        place = omega (arith, image_most c g);
      })

-- What load answered.
module _ (image : Bytes) (r : Loaded) (e : ◌≡◌ {A = ℕ × Card} (load_number r.result, r.card) (load image)) where
  number : (load image).0 ≡ load_number r.result
  number = sym (ap (λ (x : ℕ × Card). x.0) e)

  card : (load image).1 ≡ r.card
  card = sym (ap (λ (x : ℕ × Card). x.1) e)

  module _ {x : Unit {0}} (t : r.result ≡ Ok x) where
    accepted : (load image).0 ≡ 0
    accepted = number ∙ ap load_number t

    pub loaded_good : good r.card ≡ true
    loaded_good = rw (← card) (good_states.at_load image accepted)

    pub accepted_text : image_of r.card ≡ rewritten image
    unfolding rewritten
    accepted_text = rw (accepted, card)

  pub refused_text : {f : Fault} → r.result ≡ Err f → number_text (fault_number f) ≡ rewritten image
  unfolding rewritten
  refused_text {f} t =
      let same : (load image).0 ≡ fault_number f = number ∙ ap load_number t in
      rw (same, fault_some f)
