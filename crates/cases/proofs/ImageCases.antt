-- Load gives the images of the cases the numbers they expect.
use mathlib.Core.Path.{refl}
use Rattle.cases.specs.ImageCases.{ended, counts, wrong_codes, wrong_keys, wrong_references, wrong_records, wrong_limits, left_over}
use Rattle.cases.specs.ImageCases.{early, place_ranges, twice, accepted, ImagesShown}
use Rattle.cases.proofs.Rules.{rules}

pub images_shown : ImagesShown
unfolding rules ended counts wrong_codes wrong_keys wrong_references wrong_records wrong_limits left_over early place_ranges twice accepted
images_shown =
    record {
      ended = refl;
      counts = refl;
      codes = refl;
      keys = refl;
      references = refl;
      records = refl;
      limits = refl;
      left_over = refl;
      early = refl;
      places = refl;
      first = refl;
      accepted = refl;
      sizes = refl;
      nothing = refl;
    }
