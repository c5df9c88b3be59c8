use Rattle.std.proofs.Common.{◌≡◌, ◌%◌, length, refl, rules, arith}
use Rattle.std.proofs.lemmas.List.Recursion.{and_is}
use borrow.Author.Tests.{eq-eqb}
use Rattle.octets.specs.Octets.{all}
use Rattle.hexadecimal.specs.Hex.{hex_digit}
use Rattle.hexadecimal.proofs.is_hex.Goals as goal

pub returns-then-s-eq0 : goal.returns-then-s-eq0
returns-then-s-eq0 c =
    let s = c.args.s.now in
    let even : length s % 2 ≡ 0 = omega arith in
    rw (eq-eqb (length s % 2) 0 even) (and_is (all hex_digit) hex_digit refl (λ _ _. refl) s 0 _ (search rules) (search rules))
