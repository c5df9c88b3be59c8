-- What opens and closes a code, and what RESET RETRY promises, are as the cases expect.
use mathlib.Core.Path.{refl, sym}
use mathlib.Core.Bool.{false≢true}
use Rattle.cases.specs.SheetCases.{moved, lowerings, SheetShown}
use Rattle.cases.proofs.Rules.{rules}

pub sheet_shown : SheetShown
unfolding rules moved lowerings
sheet_shown =
    record {
      moves = refl;
      lowers = refl;
      pin_open = λ says. false≢true (sym (says refl refl).0);
      puk_open = λ says. false≢true (sym (says refl refl).1);
    }
