-- A record's first tick is the earliest settled in any run without a clash.
-- Assumes that the sheet is accepted. `s` is its text and k its contents, x a signal.
use mathlib.Core.Path.{◌≡◌, refl, sym, subst}
use mathlib.Core.Bool.{true, false}
use mathlib.Core.List.Memᴰ
use mathlib.Core.List.{List, map, Memᴰ}
use Prim.Native.Nat.{ℕ, ◌<◌}
use native.Mathlib.Omega.{arith}
use lib.ListN.{length}
use Rattle.spec_tilco.specs.Table.{Answer}
use Rattle.read_sheet.specs.Sheet.{Contents}
use Rattle.spec_operations.specs.Gain.{Gain, gain}
use Rattle.proof_demands.specs.Refusals.{SheetAccepted}
use Rattle.spec_figures.specs.Records.{Settles, SettledIn, Earliest, earliest, none}
use Rattle.proof_figures.specs.SingleRuns.{OneRun, FirstSettled}
use Rattle.proof_figures.specs.SingleRuns.FirstSettled.{settled_at, settled_never}
use Rattle.proof_figures.proofs.Sound.{clash_columns}

module _ {s : List ℕ} {k : Contents} (accepts : SheetAccepted s k) (x : ℕ) (h : x < length k.places) where
  -- A run that settles a tick has no clash.
  no_clash : (z : OneRun s k) (t : ℕ) → t < k.window → Settles (z.answer x t) → (new : ℕ) × (z.gained ≡ gain new false)
  no_clash z t l e = go z.gained refl
    where
      go : (g : Gain) → z.gained ≡ g → (new : ℕ) × (z.gained ≡ gain new false)
      go (gain new false) f = (new, f)
      go (gain new true) f = absurd ((clash_columns accepts z f x h).settles_none t l e)

  -- A tick that a run settles is settled in the runs.
  settled_in : (runs : List (OneRun s k)) (u : ℕ) (y : OneRun s k) → u < k.window → Memᴰ y runs → Settles (y.answer x u) → SettledIn k.window (map (λ z. z.answer x) runs) u
  settled_in runs u y l i e = (l, (y.answer x, Memᴰ.map (λ z. z.answer x) i, e))

  pub first_settled : (runs : List (OneRun s k)) {t : ℕ} → Earliest (SettledIn k.window (map (λ z. z.answer x) runs)) t → FirstSettled s k runs x t
  first_settled runs (earliest t p before) =
      let y = Memᴰ.of_map (λ z. z.answer x) runs p.1.1 in
      let e : Settles (y.0.answer x t) = subst (λ (f : ℕ → Answer). Settles (f t)) (sym y.2) p.1.2 in
      let c = no_clash y.0 t p.0 e in
      settled_at t y.0 c.0 y.1 c.1 p.0 e (λ u w l i d. before u l (settled_in runs u w (omega (arith, p.0)) i d))
  first_settled runs (none f) = settled_never (λ u w l i d. f u (settled_in runs u w l i d))
