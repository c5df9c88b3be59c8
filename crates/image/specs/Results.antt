-- What the code reads, as the rule book's readings say it.
use Rattle.std.specs.Prelude.{ℕ, Bool, ◌&&◌, leb, Result, Ok, Err}
use Rattle.octets.specs.Octets.{Bytes}
use Rattle.rules.specs.declared.Fault.{Fault}
use Rattle.rules.specs.Numbers.{fault_number}
use Rattle.rules.specs.Image.{Read, got, fault}

-- What was read and the bytes after it, or the number of the first fault.
abbrev pub read_as : {A : Type 0} → Result A Fault → Bytes → Read A
read_as (Ok a) rest = got a rest
read_as (Err f) rest = fault (fault_number f)

-- The same, where what was read stands beside the result.
abbrev pub read_into : {U A : Type 0} → Result U Fault → A → Bytes → Read A
read_into (Ok u) a rest = got a rest
read_into (Err f) a rest = fault (fault_number f)

-- A byte within its limits.
abbrev pub within : ℕ → ℕ → ℕ → Bool
within low high x = leb low x && leb x high
