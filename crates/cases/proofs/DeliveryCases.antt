-- Deliveries, padding and stripping do as the cases expect.
use mathlib.Core.Path.{refl}
use Rattle.cases.specs.DeliveryCases.{deliveries, DeliveriesShown, paddings, strippings, PaddingShown}
use Rattle.cases.proofs.Rules.{rules}

pub deliveries_shown : DeliveriesShown
unfolding rules deliveries
deliveries_shown = refl

pub padding_shown : PaddingShown
unfolding rules paddings strippings
padding_shown = record { padded = refl; stripped = refl }
