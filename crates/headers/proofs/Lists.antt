-- The command that a header names is the first of a list that passes the test.
use mathlib.Core.Path.{◌≡◌, refl, ap, ◌∙◌}
use mathlib.Core.Bool.{Bool, true, false, cond, ◌&&◌}
use mathlib.Core.List.{List, [], ◌∷◌}
use lib.Dec.{eqb}
use Rattle.std.specs.Prelude.{Option, Some, None, option_map}
use Rattle.std.specs.List.{find}
use Rattle.rules.specs.declared.Command.{Command}
use Rattle.rules.specs.declared.Header.{Header}
use Rattle.rules.specs.Numbers.{naming, names as names-it}
use Rattle.rules.specs.Judgement.{instruction, parameters, named_in}

abbrev pub names : Header → Command → Bool
names h x = eqb h.ins (instruction x) && parameters x h.p1 h.p2

first : (h : Header) (l : List Command) → naming (find (names h) l) ≡ named_in h l
unfolding named_in
first h [] = refl
first h (x ∷ xs) =
    elim (names h x) as (λ b. naming (cond b (Some x) (find (names h) xs)) ≡ cond b (names-it x) (named_in h xs)) [ true ↦ refl | false ↦ first h xs ]

as_found : (r : Option Command) → naming r ≡ naming (option_map (λ x. x) r)
as_found None = refl
as_found (Some x) = refl

pub named_found : (h : Header) (l : List Command) (r : Option Command) → option_map (λ x. x) r ≡ find (names h) l → naming r ≡ named_in h l
named_found h l r e = as_found r ∙ ap naming e ∙ first h l
