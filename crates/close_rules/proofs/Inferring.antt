-- Inference from one table to another, and the promise of a piece of it: nothing done, one after another, a weaker one, and what joined ticks give.
-- Assumes nothing.
use mathlib.Core.Path.{◌≡◌, refl, ◌∙◌, subst}
use mathlib.Core.List.{List}
use mathlib.Core.Logic.{inl, inr, ⊎_elim}
use Prim.Native.Nat.{ℕ, ◌+◌, ◌<◌}
use Rattle.spec_tilco.specs.Inference.{Program, Mark, mark, Marks, Derives, start, ◌or◌}
use Rattle.spec_tilco.specs.Table.{Stands, Inside}
use Rattle.spec_tilco.proofs.Derives.{cut, monotone, stays_inside}
use Rattle.table_words.specs.WordTicks.{Joins}
use Rattle.table_words.proofs.Telling.{some_or_none, tells_none, tells_as, tells_then}
use Rattle.close_rules.specs.Effects.{Infers, InfersOnly}

-- ---- inference
pub infers_none : {n : ℕ} {P : Program} {W : ℕ} (T : List ℕ) → Infers n P W T T
infers_none T = record { size = refl; grows = λ m i. i; sound = λ m i. start i }

pub infers_then : {n : ℕ} {P : Program} {W : ℕ} {T T' T'' : List ℕ} → Infers n P W T T' → Infers n P W T' T'' → Infers n P W T T''
infers_then f g = record { size = g.size ∙ f.size; grows = λ m i. g.grows m (f.grows m i); sound = λ m i. cut f.sound (g.sound m i) }

-- No mark leaves the window.
pub infers_inside : {n : ℕ} {P : Program} {W : ℕ} {T T' : List ℕ} → Infers n P W T T' → Inside W (Stands n T) → Inside W (Stands n T')
infers_inside f i r t v h = stays_inside i r t v (f.sound (mark r t v) h)

-- ---- a piece of it
module _ (n : ℕ) (P : Program) (W : ℕ) where
  -- Nothing done.
  pub idle : (A : Marks) (T : List ℕ) → InfersOnly n P W A T T 0
  idle A T = record { infers = infers_none T; only = λ m i. inl i; tells = tells_none T }

  -- More marks that may be new, and another number that tells the same.
  pub weaker : {A B : Marks} {T T' : List ℕ} {x : ℕ} (z : ℕ) → z ≡ x → ((m : Mark) → A m → B m) → InfersOnly n P W A T T' x → InfersOnly n P W B T T' z
  weaker z e g m = record { infers = m.infers; only = λ k i. ⊎_elim inl (λ a. inr (g k a)) (m.only k i); tells = tells_as z e m.tells }

  -- One piece after another.
  pub then : {A B : Marks} {T T' T'' : List ℕ} {x y : ℕ} → InfersOnly n P W A T T' x → InfersOnly n P W B T' T'' y → InfersOnly n P W (◌or◌ A B) T T'' (x + y)
  then m k = record {
    infers = infers_then m.infers k.infers;
    only = λ p i. ⊎_elim (λ h. ⊎_elim inl (λ a. inr (inl a)) (m.only p h)) (λ b. inr (inr b)) (k.only p i);
    tells = tells_then m.tells k.tells;
  }

  -- Marks joined where each of them follows from what stood in an earlier table.
  pub joins_infer : (T₀ : List ℕ) {T T' : List ℕ} (R : Marks) {x : ℕ} → ((m : Mark) → Stands n T₀ m → Stands n T m) → Joins n R T T' x
      → ((m : Mark) → R m → Derives P W (Stands n T₀) m) → InfersOnly n P W (λ m. R m × (0 < x)) T T' x
  joins_infer T₀ {T} {T'} R {x} older j rule = record {
    infers = record {
      size = j.gains.size;
      grows = λ m i. (j.gains.exactly m).1 (inl i);
      sound = λ m i. ⊎_elim start (λ h. monotone older (rule m h)) ((j.gains.exactly m).0 i);
    };
    only = λ m i. ⊎_elim (λ l. ⊎_elim inl (λ h. inr (h, l)) ((j.gains.exactly m).0 i))
        (λ e. inl (subst (λ (X : List ℕ). Stands n X m) (j.tells.still e) i)) (some_or_none x);
    tells = j.tells;
  }
