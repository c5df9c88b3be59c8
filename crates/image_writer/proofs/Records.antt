-- Laws of the personal records, written one behind the other.
use mathlib.Core.Path.{◌≡◌, refl}
use mathlib.Core.List.{List, [], ◌∷◌, ◌++◌, append_assoc, append-nil}
use Prim.Native.Nat.{ℕ, suc, ◌<◌}
use lib.ListN.{length, take, get_or}
use lib.Seq.{take-suc}
use Rattle.rules.specs.declared.Record.{Record}
use Rattle.rules.specs.Files.{no_record}
use Rattle.rules.specs.Writer.{record_image, records_image}

records_append : (a b : List Record) → records_image (a ++ b) ≡ records_image a ++ records_image b
unfolding records_image
records_append [] b = refl
records_append (r ∷ a) b = rw (records_append a b, append_assoc)

pub records_more : (rs : List Record) (i : ℕ) → i < length rs
    → records_image (take i rs) ++ record_image (get_or rs i no_record) ≡ records_image (take (suc i) rs)
unfolding records_image
records_more rs i h =
    rw (take-suc rs i no_record h, records_append (take i rs) (get_or rs i no_record ∷ []), append-nil (record_image (get_or rs i no_record)))
