-- A fold over the personal records that looks at every one, in the words of specs/.
use Rattle.std.proofs.Common.{◌≡◌, Bool, ◌&&◌, List, [], ◌∷◌, length, sym}
use Rattle.std.specs.List.{fold}
use mathlib.Core.Bool.{and_assoc, and-true}
use Rattle.rules.specs.declared.Record.{Record}
use Rattle.rules.specs.State.{good_record, good_records}
use Rattle.rules.proofs.Parts.{records_first}

-- b tells of the records before.
pub good_fold : (rs : List Record) (b : Bool) → fold (λ a r. a && good_record r) b rs ≡ (b && good_records (length rs) rs)
unfolding good_records
good_fold [] b = sym (and-true b)
good_fold (r ∷ rs) b = rw (good_fold rs (b && good_record r), records_first (length rs) r rs, and_assoc)
