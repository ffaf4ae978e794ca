-- A text for which there is room is written, and one that is too long is refused: "last 20".
-- Assumes nothing.
use mathlib.Core.Path.{◌≡◌}
use mathlib.Core.List.{List}
use Prim.Native.Nat.{ℕ, ◌<◌, ◌≤◌}
use borrow.Author.Tests.{le-leb, lt-leb}
use lib.ListN.{length}
use Rattle.open_sheet.specs.Results.{accepted, refused}
use Rattle.spec_dump.specs.Dumps.{with_room}

module _ (t : List ℕ) (room : ℕ) where
  pub room_for : length t ≤ room → with_room room t ≡ accepted t
  unfolding with_room
  room_for h = rw (le-leb (length t) room h)

  pub over_room : room < length t → with_room room t ≡ refused 20 0
  unfolding with_room
  over_room h = rw (lt-leb (length t) room h)
