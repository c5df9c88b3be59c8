-- The edge does as the cases expect.
use mathlib.Core.Path.{refl}
use Rattle.cases.specs.EdgeCases.{edges, EdgeShown, writing, WrittenShown}
use Rattle.cases.proofs.Rules.{rules}

pub edge_shown : EdgeShown
unfolding rules edges
edge_shown = refl

pub written_shown : WrittenShown
unfolding rules writing
written_shown =
    record {
      written = refl;
      loads = refl;
      resets = refl;
      reset = refl;
      reset_with_job = refl;
      stays = refl;
      stays_waiting = refl;
    }
