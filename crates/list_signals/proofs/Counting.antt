-- The places of what follows a sign or a signal can be counted: what was written is as long, whatever the marks are.
-- Assumes nothing.
use mathlib.Core.Path.{ap}
use mathlib.Core.List.{List, [], ◌∷◌}
use Prim.Native.Nat.{ℕ, ◌+◌, ◌-◌, ◌<◌}
use native.Mathlib.Omega.{arith}
use lib.ListN.{length, get_or, drop, length-append}
use Rattle.spec_tilco.specs.Table.{Answer}
use Rattle.write_bytes.specs.Writes.{Counted}
use Rattle.write_bytes.specs.declared.Writer.{Writer}
use Rattle.write_bytes.specs.Writers.{Writes}
use Rattle.list_signals.specs.Signals.{signs, signal_text, signals_text}
use Rattle.list_signals.proofs.Lengths.{signs_length, signal_length}
use Rattle.list_signals.proofs.Signs.{signals_next}

module _ (f : ℕ → Answer) (t W : ℕ) (h : t < W) where
  pub sign_counted : {b x : ℕ} → Counted b (signs f t (W - t)) → Counted b (x ∷ [])
  sign_counted k = record { below = omega (arith, signs_length f t (W - t)) }

  pub signs_counted : {x : ℕ} {v u : Writer} → Counted v.used (signs f t (W - t)) → Writes (x ∷ []) v u → Counted u.used (signs f (t + 1) (W - (t + 1)))
  signs_counted k w = record { below = omega (arith, w.wrote.next, signs_length f t (W - t), signs_length f (t + 1) (W - (t + 1))) }

pub signals_counted : (names : List (List ℕ)) (xs : List ℕ) (W : ℕ) (f : ℕ → ℕ → Answer) (i : ℕ) {t u : Writer} → i < length xs → Counted t.used (signals_text W f names (drop i xs))
    → (g : ℕ → Answer) → Writes (signal_text (get_or names (get_or xs i 0) []) (signs g 0 W)) t u → Counted u.used (signals_text W f names (drop (i + 1) xs))
signals_counted names xs W f i h k g w =
    let x = get_or xs i 0 in
    let name = get_or names x [] in
    let rest = signals_text W f names (drop (i + 1) xs) in
    let one = signal_length name (signs (f x) 0 W) in
    let other = signal_length name (signs g 0 W) in
    record { below = omega (arith, w.wrote.next, ap length (signals_next names xs W f i h), length-append (signal_text name (signs (f x) 0 W)) rest, signs_length (f x) 0 W, signs_length g 0 W) }
