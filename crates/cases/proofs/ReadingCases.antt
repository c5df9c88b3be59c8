-- A reader in blocks, and READ BINARY at the end of a file, do as the cases expect.
use mathlib.Core.Path.{refl}
use Rattle.cases.specs.ReadingCases.{readings, last_words, data_read, whole_blocks, words, warnings, leavings, ReadingShown}
use Rattle.cases.proofs.Rules.{rules}

pub reading_shown : ReadingShown
unfolding rules readings last_words data_read whole_blocks words warnings leavings
reading_shown = record { in_blocks = refl; lasts = refl; taken = refl; blocks = refl; tested = refl; answered_so = refl; kept = refl }
