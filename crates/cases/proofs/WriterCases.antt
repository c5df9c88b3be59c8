-- The writer makes the images that the cases expect.
use mathlib.Core.Path.{refl}
use Rattle.cases.specs.WriterCases.{key_sets, images, saved, returned, buffers, again, WriterShown}
use Rattle.cases.specs.StateCases.{bad, idle, busy}
use Rattle.cases.proofs.Rules.{rules}

pub writer_shown : WriterShown
unfolding rules bad idle busy key_sets images saved returned buffers again
writer_shown =
    record {
      bad = refl;
      idle = refl;
      busy = refl;
      keys = refl;
      images = refl;
      saved = refl;
      returned = refl;
      buffers = refl;
      again = refl;
    }
