-- What follows from what the system answered.
use Rattle.std.specs.Prelude.{ℕ, ◌≤◌, Bool, true, false, List, Option, Result, Ok, Err, length, take, if◌then◌else◌, nat_le}
use Rattle.std.specs.Io.KnownBytes.{Appends}
use Rattle.std.specs.declared.io.Error.{Error}
use Rattle.streams.specs.declared.Failure.{Failure}
use Rattle.streams.specs.declared.Failure.TheVariants.{Interrupted, Said}
use Rattle.streams.specs.declared.Given.{Given}

-- Known bytes grow by the front of the text, which may be all of it.
abbrev pub AppendsFront : Option (List ℕ) → Option (List ℕ) → List ℕ → Type 0
AppendsFront old new text = (n : ℕ) × (n ≤ length text) × Appends old new (take n text)

-- Whether to read on after a reading that failed: where a signal had interrupted it.
abbrev pub reads_on : Failure → Bool
reads_on Interrupted = true
reads_on Said = false

-- A writing that failed was said.
abbrev pub written_for : Result Unit Error → Result Unit Failure
written_for (Ok done) = Ok done
written_for (Err why) = Err Said

-- What a program that takes no arguments was given, by how many the system counts, the program's name among them.
abbrev pub arguments_for : ℕ → Result ℕ Given
arguments_for n = if nat_le n 1 then Ok n else Err (record { count = n })

-- How many arguments the system counts.
abbrev pub counted : Result ℕ Given → ℕ
counted (Ok n) = n
counted (Err given) = given.count
