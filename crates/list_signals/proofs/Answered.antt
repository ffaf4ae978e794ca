-- Every cell of a table that can be listed has an answer, so that the contracts of the listing speak of one.
-- Assumes nothing.
use mathlib.Core.Path.{◌≡◌, refl, sym, ◌∙◌}
use mathlib.Core.Bool.{Bool, true, false, false≢true}
use mathlib.Core.List.{List}
use Prim.Native.Nat.{ℕ, ◌+◌, ◌*◌, ◌/◌, ◌%◌, ◌<◌}
use native.Mathlib.Decide.{dec_lt, ℕ_discrete}
use lib.ListN.{get_or}
use Rattle.spec_ticks.specs.Ticks.{Has, bit, block}
use Rattle.spec_tilco.specs.Inference.{mark}
use Rattle.spec_tilco.specs.Table.{Stands, Answer, Asked, clashes, holds, fails, neither}
use Rattle.spec_tilco.specs.Table.Answer.{Unsettled, True, False, Contradiction}
use Rattle.list_signals.specs.Signals.{Listable, AnswersAt}

-- Whether a mark stands in the table can be told.
told : (n : ℕ) (T : List ℕ) (r t : ℕ) (v : Bool) → Dec (Stands n T (mark r t v))
told n T r t v = go (dec_lt t (n * 64)) (ℕ_discrete (bit (get_or T (block r v * n + t / 64) 0) (t % 64)) 1)
  where
    go : Dec (t < n * 64) → Dec (Has (get_or T (block r v * n + t / 64) 0) (t % 64)) → Dec (Stands n T (mark r t v))
    go (yes h) (yes e) = yes (record { within = h; set_at = e })
    go (yes h) (no e) = no (λ m. e m.set_at)
    go (no h) e = no (λ m. h m.within)

module _ {k W n : ℕ} {T : List ℕ} {clash : Bool} (l : Listable k W n T clash) (x : ℕ) where
  answered : (t : ℕ) → (a : Answer) × Asked (Stands n T) x t a
  answered t = go clash refl (told n T x t true) (told n T x t false)
    where
      go : (b : Bool) → clash ≡ b → Dec (Stands n T (mark x t true)) → Dec (Stands n T (mark x t false)) → (a : Answer) × Asked (Stands n T) x t a
      go true e i j = (Contradiction, clashes (l.clashes.0 e))
      go false e (yes i) j = (True, holds (λ z. false≢true (sym e ∙ l.clashes.1 z)) i)
      go false e (no i) (yes j) = (False, fails (λ z. false≢true (sym e ∙ l.clashes.1 z)) j)
      go false e (no i) (no j) = (Unsettled, neither (λ z. false≢true (sym e ∙ l.clashes.1 z)) i j)

  -- The answers to a signal.
  pub answers_there : (f : ℕ → Answer) × AnswersAt (Stands n T) x W f
  answers_there = ((λ t. (answered t).0), λ t h. (answered t).1)
