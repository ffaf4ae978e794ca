-- The text of held signs: its places can be counted, and where it ends.
-- Assumes nothing.
use mathlib.Core.List.{List}
use Prim.Native.Nat.{ℕ, ◌+◌, ◌-◌, ◌*◌, ◌<◌, ◌≤◌}
use native.Mathlib.Omega.{arith}
use lib.ListN.{length}
use Rattle.spec_limits.specs.Limits.{most_ticks}
use Rattle.write_bytes.specs.Writes.{Counted, Wrote}
use Rattle.dump_readings.specs.HeldSigns.{held, tick_text, most_tick_bytes, CanHold}
use Rattle.dump_readings.proofs.SignTexts.{signs_most}

module _ {names : List (List ℕ)} {signs : List ℕ} (can : CanHold names signs) {t u : ℕ} (inside : t < most_ticks) (low : u ≤ most_tick_bytes * t) where
  -- The readings of a tick can be counted,
  pub tick_counted : Counted u (tick_text names signs t 0)
  tick_counted = record { below = omega (arith, signs_most names can.short (held signs) t 0 (length names - 0) inside, can.few) }

  -- and end below the next tick's.
  pub tick_end : {m m₁ : List ℕ} {v : ℕ} → Wrote (tick_text names signs t 0) u m m₁ v → v ≤ most_tick_bytes * (t + 1)
  tick_end w = omega (arith, signs_most names can.short (held signs) t 0 (length names - 0) inside, can.few, w.next)
