-- A text that is measured before it is written: there is too little room for it, or it stands in the buffer.
-- Assumes nothing. t is the text, O the buffer before.
use mathlib.Core.List.{List}
use Prim.Native.Nat.{ℕ, ◌<◌, ◌≤◌}
use native.Mathlib.Omega.{arith}
use lib.ListN.{length}
use Rattle.write_bytes.specs.Writes.{Wrote}
use Rattle.write_bytes.proofs.Writing.{in_front}
use Rattle.open_sheet.specs.Results.{accepted, refused}
use Rattle.spec_operations.specs.TextAnswers.{Gives}
use Rattle.spec_operations.proofs.TextAnswers.{gives_refused, gives_text}
use Rattle.spec_dump.specs.Dumps.{with_room}
use Rattle.spec_dump.proofs.Rooms.{room_for, over_room}

module _ {t m m₁ : List ℕ} {long : ℕ} (w : Wrote t 0 m m₁ long) {O : List ℕ} where
  pub too_long : length O < long → Gives (with_room (length O) t) O O (refused 20 0)
  too_long h = gives_refused (over_room t (length O) (omega (arith, w.next))) O

  pub all_fits : long ≤ length O → {U : List ℕ} {u : ℕ} → Wrote t 0 O U u → Gives (with_room (length O) t) O U (accepted u)
  all_fits h x = let l : length t ≤ length O = omega (arith, w.next) in gives_text (room_for t (length O) l) O (omega (arith, x.next)) (in_front x l)
