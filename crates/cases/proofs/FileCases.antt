-- SELECT, READ RECORD and READ BINARY do as the cases expect.
use mathlib.Core.Path.{refl}
use Rattle.cases.specs.FileCases.{files, FilesShown}
use Rattle.cases.proofs.Rules.{rules}

pub files_shown : FilesShown
unfolding rules files
files_shown = refl
