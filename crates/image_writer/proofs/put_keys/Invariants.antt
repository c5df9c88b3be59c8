use lib.ListN.{length, take}
use mathlib.Core.List.{◌∷◌}
use Rattle.rules.specs.Writer.{keys_among, keys_on, key_bytes}
use Rattle.pages.specs.Pages.{Written}
use Rattle.image_writer.proofs.put_keys.Given as goal

abbrev pub invariant-loop-key : goal.invariant-loop-key
invariant-loop-key l = Written l.fn.page (length (keys_on l.keys) ∷ key_bytes (keys_among l.keys (take l.key-index l.key-items))) l.page
