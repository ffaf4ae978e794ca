-- since and until as they were before E2, for the theorem that row counts stay; nothing else reads this.
-- Assumes nothing.
use Rattle.std.specs.Prelude.{Bool, true, List, ◌∷◌, ℕ, length}
use Rattle.spec_tilco.specs.Lists.{laid}
use Rattle.spec_tilco.specs.Formula.{And, Or, Iff, Formula, sig, hiddens, over_signals, step_of, definings_by, Sheet, signal_rows}
use Rattle.spec_tilco.specs.Lowering.{lows, assembled}

-- "x <=> A | (B & x@[-1,-1]); until(A,B) the same with [1,1]" (01; 004, section 4.1).
abbrev pub former_defining : Bool → ℕ → Formula → Formula → Formula
former_defining b x f g = Formula.pair Iff (sig x) (Formula.pair Or f (Formula.pair And g (Formula.time true (step_of b) 0 (sig x))))

-- All the sheet's rules over signals, with these.
abbrev pub former_formulas : Sheet → List Formula
former_formulas s = laid hiddens (λ w x. over_signals x w ∷ definings_by former_defining x w) s.rules s.signals

-- What check answered.
abbrev pub former_row_count : Sheet → ℕ
former_row_count s = length (assembled (signal_rows s) (lows (former_formulas s))).rows
