-- What is written on a page.
use Rattle.std.specs.Prelude.{◌≡◌}
use Rattle.octets.specs.Octets.{Bytes}
use Rattle.writing.specs.Puts.{Put}
use Rattle.pages.specs.declared.Page.{Page}

-- A text written behind what a page has, as much of it as fits. The room stays the one that was lent.
pub record Written (before : Page) (text : Bytes) (after : Page) : Type 0 where
  pub put : Put before.room.now before.at text after.room.now after.at
  pub same_room : after.room.ghost_name ≡ before.room.ghost_name
