-- Response data by Le; and a step in the session alone, with the codes and the unblocking counts beside it.
use mathlib.Core.Path.{◌≡◌}
use mathlib.Core.List.{List}
use Prim.Native.Nat.{ℕ, ◌≤◌, ◌<◌}
use lib.ListN.{length}
use borrow.Author.Tests.{le-leb, lt-leb}
use Rattle.octets.specs.Octets.{Bytes}
use Rattle.rules.specs.declared.Code.{Code}
use Rattle.rules.specs.declared.Session.{Session}
use Rattle.rules.specs.Session.{with_held}
use Rattle.rules.specs.Answers.{SessionStep, response, in_session, session_status, more_bytes, give}
use Rattle.steps.specs.declared.SessionOutput.{SessionOutput}
use Rattle.steps.specs.Steps.{session_output_for, step_output_for}

module _ (s : Session) (le : ℕ) (d : Bytes) where
  pub give_all : length d ≤ le → record { session = s; answer = response d 0x9000 } ≡ give s le d
  unfolding give
  give_all h = simp (le-leb (length d) le h)

  pub give_held : le < length d → session_status (with_held s d) (more_bytes (length d)) ≡ give s le d
  unfolding give
  give_held h = simp (lt-leb (length d) le h)
