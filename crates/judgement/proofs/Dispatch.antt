-- The order of judgement, one law for each way through it.
use mathlib.Core.Path.{◌≡◌}
use mathlib.Core.Bool.{true, false, not}
use Rattle.octets.specs.Octets.{Bytes}
use Rattle.rules.specs.declared.Card.{Card}
use Rattle.std.specs.Prelude.{Option, Some, None}
use Rattle.rules.specs.declared.Command.{Command}
use Rattle.rules.specs.declared.Header.{Header}
use Rattle.rules.specs.Numbers.{Naming, naming}
use Rattle.rules.specs.Answers.{Step}
use Rattle.rules.specs.Judgement.{
  commands,
  lengths,
  own_rules,
  refusal,
  known_class,
  known_instruction,
  bad_chaining,
  named_in,
  judge_named,
  judge_header,
}

module _ (c : Card) (h : Header) (d authentication signature : Bytes) where
  -- steps 5 to 7
  abbrev named : Naming → Step
  named n = judge_named n c h d authentication signature

  pub unnamed : {n : Option Command} → n ≡ None → refusal c 0x6A86 ≡ named (naming n)
  unfolding judge_named
  unnamed e = simp e

  module _ {n : Option Command} (x : Command) (is : n ≡ Some x) where
    pub lengths_refused : not (lengths x h) ≡ true → refusal c 0x6700 ≡ named (naming n)
    unfolding judge_named
    lengths_refused e = simp (is, e)

    pub admitted : not (lengths x h) ≡ false → own_rules x c h d authentication signature ≡ named (naming n)
    unfolding judge_named
    admitted e = simp (is, e)

  -- steps 2 to 4
  abbrev judged : Step
  judged = judge_header c h d authentication signature

  pub class_unknown : not (known_class h) ≡ true → refusal c 0x6E00 ≡ judged
  unfolding judge_header
  class_unknown e = simp e

  module _ (class : not (known_class h) ≡ false) where
    pub instruction_unknown : not (known_instruction h) ≡ true → refusal c 0x6D00 ≡ judged
    unfolding judge_header
    instruction_unknown e = simp (class, e)

    module _ (instruction : not (known_instruction h) ≡ false) where
      pub chaining_refused : bad_chaining h ≡ true → refusal c 0x6884 ≡ judged
      unfolding judge_header
      chaining_refused e = simp (class, instruction, e)

      pub parameters_next : bad_chaining h ≡ false → named (named_in h commands) ≡ judged
      unfolding judge_header
      parameters_next e = simp (class, instruction, e)
