-- What is known of a command after the length form (step 1), and after the lengths that it must have (step 6).
use Rattle.std.specs.Prelude.{◌≡◌, true, ◌≤◌, length}
use Rattle.octets.specs.Octets.{Bytes}
use Rattle.rules.specs.declared.Command.{Command}
use Rattle.rules.specs.declared.Header.{Header}
use Rattle.rules.specs.Judgement.{lengths}

-- A header with an Le in reach, and no more data than it says.
pub record Sized (h : Header) (d : Bytes) : Type 0 where
  pub le : h.le ≤ 256
  pub fits : length d ≤ h.lc

-- Its data and Le are as the command wants them.
pub record Admitted (x : Command) (h : Header) (d : Bytes) : Type 0 where
  pub sized : Sized h d
  pub lengths : lengths x h ≡ true
