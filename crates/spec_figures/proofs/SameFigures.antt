-- Runs whose answers agree in the window have one record: its columns, and the earliest settled tick.
-- Assumes nothing. W is the window, x the signal.
use mathlib.Core.Path.{◌≡◌, refl, sym, ap₂, subst, ◌∙◌}
use mathlib.Core.List.{List, [], ◌∷◌}
use Prim.Native.Nat.{ℕ, zero, suc, ◌+◌, ◌<◌}
use native.Mathlib.Decide.{dec_lt}
use native.Mathlib.Omega.{arith}
use lib.Dec.{eqb}
use Rattle.spec_tilco.specs.Table.{Answer}
use Rattle.write_lines.specs.LineTexts.{one_if}
use Rattle.list_signals.specs.Signals.{sign_byte}
use Rattle.spec_figures.specs.declared.Record.{Record}
use Rattle.spec_figures.specs.Records.{ticks_of, column, Settles, SettledIn, Earliest, earliest, none, Tells}
use Rattle.spec_figures.specs.Figures.{Each}
use Rattle.spec_figures.proofs.EachLaws.{each_turned, each_beside}

-- The answers of two runs are the same in the window.
abbrev pub Agree : ℕ → (ℕ → Answer) → (ℕ → Answer) → Type 0
Agree W f g = (t : ℕ) → t < W → f t ≡ g t

ticks_same : (a : Answer) (f g : ℕ → Answer) (W : ℕ) → Agree W f g → ticks_of a f W ≡ ticks_of a g W
unfolding ticks_of
ticks_same a f g zero e = refl
ticks_same a f g (suc t) e =
    ap₂ (λ (m : ℕ) (b : Answer). m + one_if (eqb (sign_byte b) (sign_byte a))) (ticks_same a f g t (λ u h. e u (omega arith))) (e t (omega arith))

columns_same : (a : Answer) (W : ℕ) (runs others : List (ℕ → Answer)) → Each (Agree W) runs others → column a W runs ≡ column a W others
columns_same a W [] [] e = refl
columns_same a W [] (g ∷ others) e = absurd e
columns_same a W (f ∷ runs) [] e = absurd e
columns_same a W (f ∷ runs) (g ∷ others) e = omega (arith, ticks_same a f g W e.0, columns_same a W runs others e.1)

settled_also : {W t : ℕ} (runs others : List (ℕ → Answer)) → Each (Agree W) runs others → SettledIn W runs t → SettledIn W others t
settled_also {W} {t} runs others e s = let z = each_beside (Agree W) runs others e s.1.1 in (s.0, (z.0, z.1, subst Settles (z.2 t s.0) s.1.2))

-- There is one earliest tick, or none.
earliest_one : {P Q : ℕ → Type 0} {m n : ℕ} → ((t : ℕ) → P t → Q t) → ((t : ℕ) → Q t → P t) → Earliest P m → Earliest Q n → m ≡ n
earliest_one f g (earliest t p before) (earliest u q first) = go (dec_lt t u) (dec_lt u t)
  where
    go : Dec (t < u) → Dec (u < t) → t ≡ u
    go (yes l) d = absurd (first t l (f t p))
    go (no l) (yes i) = absurd (before u i (g u q))
    go (no l) (no i) = omega arith
earliest_one f g (earliest t p before) (none n) = absurd (n t (f t p))
earliest_one f g (none n) (earliest u q first) = absurd (n u (g u q))
earliest_one f g (none n) (none k) = refl

-- One record.
pub tells_one : (W x : ℕ) (runs others : List (ℕ → Answer)) → Each (Agree W) runs others → {r d : Record} → Tells W x runs r → Tells W x others d → r ≡ d
tells_one W x runs others e p q =
    let back = each_turned (Agree W) (Agree W) (λ f g z t h. sym (z t h)) runs others e in
    let signals = p.signal_is ∙ sym q.signal_is in
    let helds = p.held_is ∙ columns_same _ W runs others e ∙ sym q.held_is in
    let faileds = p.failed_is ∙ columns_same _ W runs others e ∙ sym q.failed_is in
    let unsettleds = p.unsettled_is ∙ columns_same _ W runs others e ∙ sym q.unsettled_is in
    let clasheds = p.clashed_is ∙ columns_same _ W runs others e ∙ sym q.clashed_is in
    let firsts = earliest_one (λ t. settled_also runs others e) (λ t. settled_also others runs back) p.first_is q.first_is in
    λ i. record { signal = signals i; held = helds i; failed = faileds i; unsettled = unsettleds i; clashed = clasheds i; first = firsts i }
