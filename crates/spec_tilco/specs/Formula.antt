-- Rules as they are read, hidden signals for since and until, and the sheet (01, "The sheet" and "Meaning").
-- Assumes nothing.
use Rattle.std.specs.Prelude.{Bool, true, false, List, [], ◌∷◌, ◌++◌, ℕ, suc, ◌+◌, ◌<◌}
use Rattle.spec_tilco.specs.Lists.{All, total, laid}

-- The signs & | => <=>.
pub data Op : Type 0 where
  And Or Implies Iff : Op

-- A rule as it is read. A name is a declared signal's number, from 0. An interval is its first whole number, with 64 added, and how many
-- more follow: never empty, and never negative.
pub data Written : Type 0 where
  name : ℕ → Written
  neg : Written → Written
  pair : Op → Written → Written → Written
  time : Bool → ℕ → ℕ → Written → Written
  keep : Bool → Written → Written → Written

-- f@i.
abbrev pub always : ℕ → ℕ → Written → Written
always = Written.time true

-- f?i.
abbrev pub sometime : ℕ → ℕ → Written → Written
sometime = Written.time false

-- since(A,B).
abbrev pub since : Written → Written → Written
since = Written.keep true

-- until(A,B).
abbrev pub until : Written → Written → Written
until = Written.keep false

-- A formula over signals, declared and hidden, each by its number, which is also its row.
pub data Formula : Type 0 where
  sig : ℕ → Formula
  neg : Formula → Formula
  pair : Op → Formula → Formula → Formula
  time : Bool → ℕ → ℕ → Formula → Formula

-- "Each written since or until stands for one hidden signal": how many a rule has.
abbrev pub hiddens : Written → ℕ
hiddens (Written.name x) = 0
hiddens (Written.neg f) = hiddens f
hiddens (Written.pair o f g) = hiddens f + hiddens g
hiddens (Written.time u lo n f) = hiddens f
hiddens (Written.keep b f g) = suc (hiddens f + hiddens g)

-- The rule over signals, its hidden ones numbered from x in the order written, outer before inner.
abbrev pub over_signals : ℕ → Written → Formula
over_signals x (Written.name y) = sig y
over_signals x (Written.neg f) = Formula.neg (over_signals x f)
over_signals x (Written.pair o f g) = Formula.pair o (over_signals x f) (over_signals (x + hiddens f) g)
over_signals x (Written.time u lo n f) = Formula.time u lo n (over_signals x f)
over_signals x (Written.keep b f g) = sig x

-- [-1,-1] for since and [1,1] for until, with 64 added.
abbrev pub step_of : Bool → ℕ
step_of true = 63
step_of false = 65

-- "since(A,B) adds x <=> (A | (B & x))@[-1,-1], and until the same with [1,1]" (E2; 004, section 2.1).
abbrev pub defining : Bool → ℕ → Formula → Formula → Formula
defining b x f g = Formula.pair Iff (sig x) (Formula.time true (step_of b) 0 (Formula.pair Or f (Formula.pair And g (sig x))))

-- The defining rules of a rule's hidden signals, each once, in the order written, where `rule` gives each.
abbrev pub definings_by : (Bool → ℕ → Formula → Formula → Formula) → ℕ → Written → List Formula
definings_by rule x (Written.name y) = []
definings_by rule x (Written.neg f) = definings_by rule x f
definings_by rule x (Written.pair o f g) = definings_by rule x f ++ definings_by rule (x + hiddens f) g
definings_by rule x (Written.time u lo n f) = definings_by rule x f
definings_by rule x (Written.keep b f g) =
    rule b x (over_signals (suc x) f) (over_signals (suc x + hiddens f) g) ∷ definings_by rule (suc x) f ++ definings_by rule (suc x + hiddens f) g

-- The defining rules of a rule's hidden signals.
abbrev pub definings : ℕ → Written → List Formula
definings = definings_by defining

-- "Each rule is followed by the defining rules of its hidden signals."
abbrev pub spelled : Written → ℕ → List Formula
spelled w x = over_signals x w ∷ definings x w

-- A sheet as it is read: the window's ticks, the number of declared signals, the rules.
pub record Sheet : Type 0 where
  pub window : ℕ
  pub signals : ℕ
  pub rules : List Written

-- Its rows of signals: the declared ones, then the hidden ones in the order written.
abbrev pub signal_rows : Sheet → ℕ
signal_rows s = s.signals + total hiddens s.rules

-- All its rules over signals, the defining ones too.
abbrev pub formulas : Sheet → List Formula
formulas s = laid hiddens spelled s.rules s.signals

-- The sheet with other rules.
abbrev pub with_rules : Sheet → List Written → Sheet
with_rules s ws = record { window = s.window; signals = s.signals; rules = ws }

-- Every name in the rule is one of n declared signals'.
abbrev pub Named : ℕ → Written → Type 0
Named n (Written.name x) = x < n
Named n (Written.neg f) = Named n f
Named n (Written.pair o f g) = Named n f × Named n g
Named n (Written.time u lo k f) = Named n f
Named n (Written.keep b f g) = Named n f × Named n g

-- A sheet in which every name is declared, as reading it ensures (refusal 6).
abbrev pub Declared : Sheet → Type 0
Declared s = All (Named s.signals) s.rules

-- Every interval in the rule passes S, which is of its first offset and how many more follow.
abbrev pub Intervals : (ℕ → ℕ → Type 0) → Written → Type 0
Intervals S (Written.name x) = Unit {0}
Intervals S (Written.neg f) = Intervals S f
Intervals S (Written.pair o f g) = Intervals S f × Intervals S g
Intervals S (Written.time u lo k f) = S lo k × Intervals S f
Intervals S (Written.keep b f g) = Intervals S f × Intervals S g
