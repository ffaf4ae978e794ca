-- The signs of a dump and those of a table: a sign is known by the value that it says, if it says one.
-- Assumes nothing. x is a signal's number, t a tick.
use mathlib.Core.Path.{◌≡◌, refl, sym}
use mathlib.Core.Bool.{Bool, true, false}
use mathlib.Core.List.{List, [], ◌∷◌}
use mathlib.Core.Logic.{◌↔◌}
use Prim.Native.Nat.{ℕ}
use native.Mathlib.Omega.{arith}
use lib.Dec.{ltb, eqb}
use Rattle.spec_tilco.specs.Inference.{mark, Marks, Clash}
use Rattle.spec_tilco.specs.Table.{Answer, Asked, clashes, holds, fails, neither}
use Rattle.read_bytes.specs.Bytes.{bytes, byte, pick}
use Rattle.spec_dump.specs.DumpTexts.{Event, time, sign}
use Rattle.spec_dump.specs.DumpLines.{signal_after}
use Rattle.spec_dump.specs.EventOrder.{Sign, Follow}
use Rattle.spec_dump.specs.DumpSigns.{sign_at_lem, value_sign}
use Rattle.spec_dump.specs.TableSigns.{answer_sign}
use Rattle.spec_dump.proofs.Signs.{of_one}

-- No value is unsettled, and none is both.
pub settled_sign : (v : Bool) → byte "x" ≡ value_sign v → ⊥
settled_sign true e = omega arith
settled_sign false e = omega arith

pub one_value : value_sign true ≡ value_sign false → ⊥
one_value e = omega arith

-- Two signs that say the same value, or none, are one.
pub same_sign : (a b : ℕ) → Sign a → Sign b → ((v : Bool) → (a ≡ value_sign v) ↔ (b ≡ value_sign v)) → a ≡ b
same_sign a b p q = of_one (λ c. ((v : Bool) → (c ≡ value_sign v) ↔ (b ≡ value_sign v)) → c ≡ b) a (bytes "01x") (λ h. sym ((h false).0 refl), (λ h. sym ((h true).0 refl), (λ h. none (λ v e. settled_sign v ((h v).1 e)), tt))) p
  where
    none : ((v : Bool) → b ≡ value_sign v → ⊥) → byte "x" ≡ b
    none = of_one (λ c. ((v : Bool) → c ≡ value_sign v → ⊥) → byte "x" ≡ c) b (bytes "01x") (λ f. absurd (f false refl), (λ f. absurd (f true refl), (λ f. refl, tt))) q

-- What events that keep the order say is a sign.
pub events_sign : (W N : ℕ) (x t : ℕ) (es : List Event) (u k b : ℕ) → Follow W N u k es → Sign b → Sign (sign_at_lem x t b es)
unfolding sign_at_lem Follow
events_sign W N x t [] u k b f h = h
events_sign W N x t (sign y c ∷ es) u k b f h = events_sign W N x t es u (signal_after (sign y c)) (pick (eqb y x) (λ _. c) b) f.1 (go (eqb y x))
  where
    go : (e : Bool) → Sign (pick e (λ _. c) b)
    go true = f.0.known
    go false = h
events_sign W N x t (time i ∷ es) u k b f h = go (ltb t i) (events_sign W N x t es i 0 b f.1 h)
  where
    go : (e : Bool) → Sign (sign_at_lem x t b es) → Sign (pick e (λ _. b) (sign_at_lem x t b es))
    go true r = h
    go false r = r

-- Where nothing clashes, the sign of what ask answers says just the mark that stands.
pub answer_told : {S : Marks} {x t : ℕ} {a : Answer} → (Clash S → ⊥) → Asked S x t a → (v : Bool) → (answer_sign a ≡ value_sign v) ↔ S (mark x t v)
answer_told calm (clashes c) v = absurd (calm c)
answer_told calm (holds c i) true = (λ e. i, λ j. refl)
answer_told {x = x} {t = t} calm (holds c i) false = (λ e. absurd (one_value e), λ j. absurd (calm (record { row = x; tick = t; holds = i; fails = j })))
answer_told {x = x} {t = t} calm (fails c i) true = (λ e. absurd (one_value (sym e)), λ j. absurd (calm (record { row = x; tick = t; holds = j; fails = i })))
answer_told calm (fails c i) false = (λ e. i, λ j. refl)
answer_told calm (neither c i j) true = (λ e. absurd (settled_sign true e), λ k. absurd (i k))
answer_told calm (neither c i j) false = (λ e. absurd (settled_sign false e), λ k. absurd (j k))
