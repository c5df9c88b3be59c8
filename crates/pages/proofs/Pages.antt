-- Laws of a page that is written piece by piece.
use mathlib.Core.Path.{◌≡◌, sym, ◌∙◌}
use mathlib.Core.List.{◌++◌}
use Rattle.octets.specs.Octets.{Bytes}
use Rattle.writing.specs.Puts.{Put}
use Rattle.writing.proofs.Puts.{put_then, put_same}
use Rattle.pages.specs.declared.Page.{Page}
use Rattle.pages.specs.Pages.{Written}

-- One text behind another.
pub written_then : {a b c : Page} {p q : Bytes} → Written a p b → Written b q c → Written a (p ++ q) c
written_then f g = record { put = put_then f.put g.put; same_room = g.same_room ∙ f.same_room }

-- The same text, written otherwise.
pub written_same : {a b : Page} {p q : Bytes} → p ≡ q → Written a p b → Written a q b
written_same e f = record { put = put_same e f.put; same_room = f.same_room }

-- What a room holds that was lent to a page.
pub page_put : {a b : Page} {p : Bytes} {after : Bytes} → Written a p b → (a.room.ghost_name ≡ b.room.ghost_name → after ≡ b.room.now)
    → Put a.room.now a.at p after b.at
page_put f ends = rw (ends (sym f.same_room)) f.put
