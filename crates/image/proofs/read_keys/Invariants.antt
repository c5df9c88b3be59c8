use Prim.Native.Nat.{◌-◌}
use mathlib.Core.Path.{◌≡◌}
use mathlib.Core.List.{[]}
use Rattle.image.specs.Marks.{marked_keys}
use Rattle.image.proofs.Keys.{marks_with, marks_from}
use Rattle.image.proofs.read_keys.Given as goal

abbrev pub invariant-loop : goal.invariant-loop
invariant-loop l = (l.keys ≡ marks_with l.keys []) × (marks_from l.keys (l.n - l.counter) l.last l.reader ≡ marked_keys l.n l.initial.reader)
