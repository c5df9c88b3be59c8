-- 22 F3, 22 41 and INTERNAL AUTHENTICATE do as the cases expect.
use mathlib.Core.Path.{refl}
use Rattle.cases.specs.KeyCases.{environments, EnvironmentsShown, choice_words, ChoiceWordsShown, key_ranges}
use Rattle.cases.specs.KeyCases.{KeyRanges, keys, KeysShown}
use Rattle.cases.proofs.Rules.{rules}

pub environments_shown : EnvironmentsShown
unfolding rules environments
environments_shown = refl

pub choice_words_shown : ChoiceWordsShown
unfolding rules choice_words
choice_words_shown = refl

pub key_ranges_lem : KeyRanges
unfolding rules key_ranges
key_ranges_lem = refl

pub keys_shown : KeysShown
unfolding rules keys
keys_shown = refl
