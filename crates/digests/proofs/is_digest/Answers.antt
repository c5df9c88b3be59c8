use Rattle.std.proofs.Common.{rules}
use Rattle.std.proofs.lemmas.List.Recursion.{or_is}
use Rattle.std.specs.Slice.Iter.{iter_rest}
use mathlib.Core.Path.{refl}
use mathlib.Core.Bool.{Bool}
use mathlib.Core.List.{map}
use Rattle.octets.specs.Octets.{Bytes, any}
use Rattle.digests.specs.declared.Row.{Row}
use Rattle.rules.specs.Digests.{row, sha2_form, fits, is_digest}
use Rattle.digests.proofs.is_digest.Goals as goal

-- Whether a string fits a row of the code's table.
abbrev fits_row : Bytes → Row → Bool
fits_row d r = fits d (sha2_form (row r.0 r.1 r.2))

pub returns-then-prefixed : goal.returns-then-prefixed
unfolding is_digest
returns-then-prefixed c = rw (← c.prefixed.ensures, c.if-prefixed.true)

pub returns-else-prefixed : goal.returns-else-prefixed
unfolding is_digest
returns-else-prefixed c =
    let d = c.args.d.now in
    let one = or_is (λ rows. any (map (fits_row d) rows)) (fits_row d) refl (λ _ _. refl) (iter_rest c.iter.result) (0, 0, 0) c.any.result (search rules) (search rules) in
    rw (← c.prefixed.ensures, c.if-prefixed.false, one, c.iter.ensures.rest)
