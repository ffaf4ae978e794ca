-- One more run in a signal's record, of a run that clashes and of one that does not.
-- Assumes that the run can be counted in the record, and that a word is below 2 ^ 64.
use mathlib.Core.Path.{◌≡◌, refl, sym, ◌∙◌, subst}
use mathlib.Core.Bool.{true, false, false≢true}
use mathlib.Core.List.Memᴰ
use mathlib.Core.List.{List, [], ◌∷◌, ◌++◌}
use mathlib.Core.Logic.{◌⊎◌, inl, inr, ⊎_elim}
use Prim.Native.Nat.{ℕ, ◌+◌, ◌-◌, ◌<◌, ◌≤◌}
use native.Mathlib.Omega.{arith}
use Rattle.spec_ticks.specs.Ticks.{Small}
use Rattle.spec_tilco.specs.Inference.{mark, Marks, Clash}
use Rattle.spec_tilco.specs.Table.{Stands, Answer, Unsettled, True, False, Contradiction, Asked, clashes, holds, fails, neither}
use Rattle.list_signals.specs.Signals.{Listable, AnswersAt}
use Rattle.list_signals.proofs.Answered.{answers_there}
use Rattle.spec_figures.specs.declared.Record.{Record}
use Rattle.spec_figures.specs.Records.{ticks_of, column, Settles, SettledIn, Earliest, Tells}
use Rattle.spec_figures.proofs.Columns.{snoc_total, ticks_add_up}
use Rattle.figure_run.specs.declared.counts.RowTicks.{RowTicks}
use Rattle.figure_run.specs.RunCounts.{Marked, RowCounted, Countable, CountsRun}
use Rattle.figure_run.proofs.Earliest.{earliest_same, earliest_of}
use Rattle.figure_run.proofs.Counting.{clash_ticks, free_ticks, value_ticks}

-- ---- the ticks settled in one more run

module _ (W : ℕ) (runs : List (ℕ → Answer)) (f : ℕ → Answer) where
  settled_before : (t : ℕ) → SettledIn W runs t → SettledIn W (runs ++ f ∷ []) t
  settled_before t s = (s.0, (s.1.0, Memᴰ.append_left (f ∷ []) s.1.1, s.1.2))

  settled_here : (t : ℕ) → t < W → Settles (f t) → SettledIn W (runs ++ f ∷ []) t
  settled_here t l s = (l, (f, Memᴰ.append_right runs (Memᴰ.head refl), s))

  settled_either : (t : ℕ) → SettledIn W (runs ++ f ∷ []) t → SettledIn W runs t ⊎ Settles (f t)
  settled_either t s =
      ⊎_elim (λ m. inl (s.0, (s.1.0, m, s.1.2))) (λ m. inr (subst (λ (g : ℕ → Answer). Settles (g t)) (Memᴰ.eq_of_singleton m) s.1.2))
      (Memᴰ.append_cases runs s.1.1)

module _ (S : Marks) (x t : ℕ) where
  settles_marked : {a : Answer} → Asked S x t a → Settles a → S (mark x t true) ⊎ S (mark x t false)
  settles_marked (clashes c) s = absurd s
  settles_marked (holds p i) s = inl i
  settles_marked (fails p i) s = inr i
  settles_marked (neither p i j) s = absurd s

  marked_settles : {a : Answer} → (Clash S → ⊥) → Asked S x t a → S (mark x t true) ⊎ S (mark x t false) → Settles a
  marked_settles free (clashes c) m = absurd (free c)
  marked_settles free (holds p i) m = tt
  marked_settles free (fails p i) m = tt
  marked_settles free (neither p i j) m = absurd (⊎_elim i j m)

  clash_settles : {a : Answer} → Clash S → Asked S x t a → Settles a → ⊥
  clash_settles c (clashes d) s = s
  clash_settles c (holds p i) s = p c
  clash_settles c (fails p i) s = p c
  clash_settles c (neither p i j) s = p c

-- ---- what is added to a record

-- The record v is r with so much more in each column.
pub record Adds (held failed unsettled clashed : ℕ) (r v : Record) : Type 0 where
  pub same_signal : v.signal ≡ r.signal
  pub held_more : v.held ≡ r.held + held
  pub failed_more : v.failed ≡ r.failed + failed
  pub unsettled_more : v.unsettled ≡ r.unsettled + unsettled
  pub clashed_more : v.clashed ≡ r.clashed + clashed

-- c is the lesser of a and b.
abbrev pub Lesser : ℕ → ℕ → ℕ → Type 0
Lesser a b c = ((c ≡ a) × (a ≤ b)) ⊎ ((c ≡ b) × (b ≤ a))

told_more : {W : ℕ} {runs : List (ℕ → Answer)} {r v : Record} (f : ℕ → Answer) → Tells W r.signal runs r
    → Adds (ticks_of True f W) (ticks_of False f W) (ticks_of Unsettled f W) (ticks_of Contradiction f W) r v → Earliest (SettledIn W (runs ++ f ∷ [])) v.first
    → Tells W r.signal (runs ++ f ∷ []) v
told_more {W} {runs} {r} {v} f told a e = record {
  signal_is = a.same_signal;
  held_is = omega (arith, a.held_more, told.held_is, more True);
  failed_is = omega (arith, a.failed_more, told.failed_is, more False);
  unsettled_is = omega (arith, a.unsettled_more, told.unsettled_is, more Unsettled);
  clashed_is = omega (arith, a.clashed_more, told.clashed_is, more Contradiction);
  first_is = e;
}
  where
    more : (b : Answer) → column b W (runs ++ f ∷ []) ≡ column b W runs + ticks_of b f W
    more b = snoc_total (λ (g : ℕ → Answer). ticks_of b g W) runs f

module _ {n W : ℕ} {T : List ℕ} {r : Record} where
  -- A run that clashes: its window is counted as clashed, and no tick is settled.
  pub clashing_run : {v : Record} → Clash (Stands n T) → Adds 0 0 0 W r v → v.first ≡ r.first → CountsRun n W T r v
  clashing_run c a e = λ runs f asked told.
      let w = clash_ticks n T r.signal W f asked c in
      let u = ticks_add_up f W in
      told_more f told (omega (arith, a, w, u))
      (subst (Earliest (SettledIn W (runs ++ f ∷ []))) (sym e)
      (earliest_same (settled_before W runs f)
      (λ t s. ⊎_elim (λ b. b) (λ b. absurd (clash_settles (Stands n T) r.signal t c (asked t s.0) b)) (settled_either W runs f t s))
      told.first_is))

  module _ (k : Countable r n W T false) (small : Small 64 T) {t : RowTicks} (row : RowCounted n T r.signal t) where
    free : Clash (Stands n T) → ⊥
    free c = false≢true (k.clashes.1 c)

    -- the columns of the run
    row_held : (f : ℕ → Answer) → AnswersAt (Stands n T) r.signal W f → ticks_of True f W ≡ t.held
    row_held f asked = value_ticks n T r.signal W f asked free small k.covered k.inside true ∙ sym row.held_are

    row_failed : (f : ℕ → Answer) → AnswersAt (Stands n T) r.signal W f → ticks_of False f W ≡ t.failed
    row_failed f asked = value_ticks n T r.signal W f asked free small k.covered k.inside false ∙ sym row.failed_are

    -- No more ticks are settled than the window has.
    pub few_settled : t.held + t.failed ≤ W
    few_settled =
        let l : Listable (r.signal + 1) W n T false = record { rows = k.row; ticks = k.covered; clashes = k.clashes } in
        let a = answers_there l r.signal in
        omega (arith, ticks_add_up a.0 W, row_held a.0 a.1, row_failed a.0 a.1)

    marked_low : (u : ℕ) → Marked n T r.signal u → u < W
    marked_low u = ⊎_elim (k.inside r.signal u true) (k.inside r.signal u false)

    -- The first settled tick of all runs.
    first_of : {first : ℕ} (runs : List (ℕ → Answer)) (f : ℕ → Answer) → AnswersAt (Stands n T) r.signal W f → Earliest (SettledIn W runs) r.first → Lesser t.first r.first (first)
        → Earliest (SettledIn W (runs ++ f ∷ [])) (first)
    first_of {first} runs f asked e l = ⊎_elim here before l
      where
        new : (u : ℕ) → Marked n T r.signal u → SettledIn W (runs ++ f ∷ []) u
        new u m = settled_here W runs f u (marked_low u m) (marked_settles (Stands n T) r.signal u free (asked u (marked_low u m)) m)

        split : (u : ℕ) → SettledIn W (runs ++ f ∷ []) u → SettledIn W runs u ⊎ Marked n T r.signal u
        split u s = ⊎_elim inl (λ b. inr (settles_marked (Stands n T) r.signal u (asked u s.0) b)) (settled_either W runs f u s)

        here : (first ≡ t.first) × (t.first ≤ r.first) → Earliest (SettledIn W (runs ++ f ∷ [])) (first)
        here p =
            subst (Earliest (SettledIn W (runs ++ f ∷ []))) (sym p.0)
            (earliest_of new (λ u s. ⊎_elim inr inl (split u s)) (λ u s. omega (arith, s.0, k.covered, k.few)) row.first_is e p.1)

        before : (first ≡ r.first) × (r.first ≤ t.first) → Earliest (SettledIn W (runs ++ f ∷ [])) (first)
        before p =
            subst (Earliest (SettledIn W (runs ++ f ∷ []))) (sym p.0)
            (earliest_of (settled_before W runs f) split (λ u m. omega (arith, marked_low u m, k.covered, k.few)) e row.first_is p.1)

    -- A run that does not clash.
    pub settled_run : {v : Record} → Adds t.held t.failed (W - t.held - t.failed) 0 r v → Lesser t.first r.first v.first → CountsRun n W T r v
    settled_run a l = λ runs f asked told.
        let h = row_held f asked in
        let g = row_failed f asked in
        let u = ticks_add_up f W in
        let z = free_ticks n T r.signal W f asked free in
        told_more f told (omega (arith, a, h, g, u, z)) (first_of runs f asked told.first_is l)
