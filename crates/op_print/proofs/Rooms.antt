-- A text for which there is room, and one that is too long.
-- Assumes nothing. t is the text, O the buffer.
use mathlib.Core.Path.{◌≡◌, refl, ap, subst}
use mathlib.Core.Bool.{Bool, true, false, ◌&&◌}
use mathlib.Core.List.{List}
use Prim.Native.Nat.{ℕ, ◌<◌, ◌≤◌}
use native.Mathlib.Omega.{arith}
use borrow.Author.Tests.{le-leb, lt-leb}
use lib.Dec.{leb}
use lib.ListN.{length, take, drop}
use lib.Seq.{take_at}
use Rattle.spec_limits.specs.Limits.{most_rule_bytes}
use Rattle.write_bytes.specs.Writes.{Wrote, Counted}
use Rattle.write_bytes.proofs.Writing.{in_front}
use Rattle.open_sheet.specs.Results.{accepted, refused}
use Rattle.spec_operations.specs.TextAnswers.{Gives}
use Rattle.spec_operations.proofs.TextAnswers.{gives_refused, gives_text}
use Rattle.spec_print.specs.Printing.{with_room}

and-false : (b : Bool) → b && false ≡ false
and-false true = refl
and-false false = refl

module _ (t : List ℕ) (room : ℕ) where
  pub room_for : length t ≤ most_rule_bytes → length t ≤ room → with_room room t ≡ accepted t
  unfolding with_room
  room_for a b = rw (le-leb (length t) most_rule_bytes a, le-leb (length t) room b)

  pub over_limit : most_rule_bytes < length t → with_room room t ≡ refused 20 0
  unfolding with_room
  over_limit a = rw (lt-leb (length t) most_rule_bytes a)

  pub over_room : room < length t → with_room room t ≡ refused 20 0
  unfolding with_room
  over_room a = rw (lt-leb (length t) room a, and-false (leb (length t) most_rule_bytes))

-- The text was written into a buffer m of its own, as far as there was room there.
module _ {t m m₁ : List ℕ} {u : ℕ} (w : Wrote t 0 m m₁ u) (O : List ℕ) where
  pub too_long : most_rule_bytes < u → Gives (with_room (length O) t) O O (refused 20 0)
  too_long h = gives_refused (over_limit t (length O) (omega (arith, w.next))) O

  pub no_room : length O < u → Gives (with_room (length O) t) O O (refused 20 0)
  no_room h = gives_refused (over_room t (length O) (omega (arith, w.next))) O

  -- What stands there is the text, and it is copied.
  pub own_text : u ≤ length m → take u m₁ ≡ t
  own_text h = let l : length t ≤ length m = omega (arith, w.next) in rw (in_front w l) (take_at t (drop (length t) m) u (omega (arith, w.next)))

  pub own_long : u ≤ length m → u ≡ length (take u m₁)
  own_long h = omega (arith, w.next, ap length (own_text h))

  pub own_counted : u ≤ most_rule_bytes → u ≤ length m → Counted 0 (take u m₁)
  own_counted a h = record { below = omega (arith, own_long h) }

  pub copied : u ≤ most_rule_bytes → u ≤ length m → u ≤ length O → {U : List ℕ} {v : ℕ} → Wrote (take u m₁) 0 O U v → Gives (with_room (length O) t) O U (accepted u)
  copied a b h {U} {v} x =
      let l : length t ≤ length O = omega (arith, w.next) in
      gives_text (room_for t (length O) (omega (arith, w.next)) l) O (omega (arith, w.next)) (in_front (subst (λ r. Wrote r 0 O U v) (own_text b) x) l)
