-- READ BINARY of a certificate file, by its offset.
use mathlib.Core.Path.{◌≡◌}
use mathlib.Core.Bool.{true, false}
use Prim.Native.Nat.{◌≤◌, ◌<◌}
use lib.Dec.{eqb}
use lib.ListN.{length, take, drop}
use borrow.Author.Tests.{eqb-true, le-leb, lt-leb}
use Rattle.octets.specs.Octets.{Bytes, word}
use Rattle.octets.proofs.Tests.{or_cases}
use Rattle.rules.specs.declared.Header.{Header}
use Rattle.rules.specs.declared.Session.{Session}
use Rattle.rules.specs.Session.{no_file}
use Rattle.rules.specs.Files.{certificate_file, certificate_of}
use Rattle.rules.specs.Answers.{response, session_status}
use Rattle.rules.specs.FileCommands.{read_status, read_binary}

module _ (s : Session) (h : Header) (authentication signature : Bytes) (readable : certificate_file s.selection.file ≡ true) where
  abbrev shown : Bytes
  shown = certificate_of s.selection.file authentication signature

  abbrev remaining : Bytes
  remaining = drop (word h.p1 h.p2) shown

  some_file : eqb s.selection.file no_file ≡ false
  some_file =
      or_cases _ (eqb s.selection.file 0xAACE) (eqb s.selection.file 0xDDCE) readable
      (λ e. rw (eqb-true s.selection.file 0xAACE e))
      (λ e. rw (eqb-true s.selection.file 0xDDCE e))

  pub offset_past_end : length shown ≤ word h.p1 h.p2 → session_status s 0x6B00 ≡ read_binary s h authentication signature
  unfolding read_binary
  offset_past_end e = simp (some_file, readable, le-leb (length shown) (word h.p1 h.p2) e)

  pub part_read : word h.p1 h.p2 < length shown
      → record { session = s; answer = response (take h.le remaining) (read_status h.le (length remaining)) }
      ≡ read_binary s h authentication signature
  unfolding read_binary
  part_read e = simp (some_file, readable, lt-leb (length shown) (word h.p1 h.p2) e)
