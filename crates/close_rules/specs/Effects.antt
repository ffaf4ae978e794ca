-- What a rule and a row's rules do to the table. Assumes nothing.
-- n is how many words a row has for each value, q a word of a row, W the window, T the table before and T' after. A number that tells
-- of a change is 0 if there is none.
use Rattle.std.specs.Prelude.{◌≡◌, Bool, true, false, List, ◌⊎◌, ℕ, ◌+◌, ◌/◌, ◌≤◌, ◌<◌, length}
use Rattle.spec_limits.specs.Limits.{most_ticks}
use Rattle.spec_tilco.specs.Inference.{Node, look, Program, node, Mark, mark, Marks, Derives, ◌or◌}
use Rattle.spec_tilco.specs.Table.{words, Stands, Inside}
use Rattle.table_words.specs.WordTicks.{HasRows, Ticks, Sides, Bits, Tells}

-- Inference leads from T to T': no mark is lost, every new mark follows, and the length stays.
pub record Infers (n : ℕ) (P : Program) (W : ℕ) (T T' : List ℕ) : Type 0 where
  pub size : length T' ≡ length T
  pub grows : (m : Mark) → Stands n T m → Stands n T' m
  pub sound : (m : Mark) → Stands n T' m → Derives P W (Stands n T) m

-- Inference in which only marks of A are new; the number tells whether the table changed.
pub record InfersOnly (n : ℕ) (P : Program) (W : ℕ) (A : Marks) (T T' : List ℕ) (changed : ℕ) : Type 0 where
  pub infers : Infers n P W T T'
  pub only : (m : Mark) → Stands n T' m → (◌or◌ (Stands n T) A) m
  pub tells : Tells T T' changed

-- The marks of row x's word q, if it is told that this word changed.
abbrev pub ChangedWord : ℕ → ℕ → ℕ → Marks
ChangedWord x q told (mark y t v) = (y ≡ x) × (t / 64 ≡ q) × (0 < told)

-- The marks of row x in the word h words before word e, if it is told that this word changed.
abbrev pub ChangedWordBefore : ℕ → ℕ → ℕ → ℕ → Marks
ChangedWordBefore x h e told (mark y t v) = (y ≡ x) × (e ≡ t / 64 + h) × (0 < told)

-- The marks of a gate's row r and of its children's rows a and b in word q, as far as these words are told to have changed.
abbrev pub ChangedByGate : ℕ → ℕ → ℕ → ℕ → ℕ → ℕ → ℕ → Marks
ChangedByGate r a b q row left right = ◌or◌ (ChangedWord r q row) (◌or◌ (ChangedWord a q left) (ChangedWord b q right))

-- The marks of a look's row r in the words that look at its child's word q, as far as they are told to have changed; h is its offset / 64.
abbrev pub ChangedByLook : ℕ → ℕ → ℕ → ℕ → ℕ → Marks
ChangedByLook r h q before after = ◌or◌ (ChangedWordBefore r h q before) (ChangedWordBefore r h (q + 1) after)

-- The words v and w have, as word q, the ticks U of true and of false.
pub record HoldTicks (q : ℕ) (U : Bool → ℕ → Type 0) (v w : ℕ) : Type 0 where
  pub this : Ticks q v (U true)
  pub other : Ticks q w (U false)

-- Ticks gathered for word q of row c, of true and of false.
abbrev pub Gathered : ℕ → ℕ → ℕ → ℕ → Marks
Gathered c q v w = Sides c true q (Bits v) (Bits w)

-- More was gathered: nothing is lost from the marks G, and what is new follows from S.
pub record Gathers (P : Program) (W : ℕ) (S G G' : Marks) : Type 0 where
  pub grows : (m : Mark) → G m → G' m
  pub sound : (m : Mark) → G' m → G m ⊎ Derives P W S m

-- What a look's visit does, or a part of it, for every program in which row r looks at row c with the offset k: only the marks A are new, C holds
-- of the marks then, and what the look gives its child is gathered.
abbrev pub LookInfers : ℕ → ℕ → ℕ → Marks → (Marks → Type 0) → Marks → Marks → ℕ → ℕ → List ℕ → List ℕ → ℕ → Type 0
LookInfers k c r A C G G' W n T T' changed =
    (P : Program) → node P r ≡ look k c → Inside W (Stands n T) → InfersOnly n P W A T T' changed × C (Stands n T') × Gathers P W (Stands n T) G G'

-- What a function does for every program in which row r is the node d: only the marks A are new, and C holds of the marks then.
abbrev pub NodeInfers : Node → ℕ → Marks → (Marks → Type 0) → ℕ → ℕ → List ℕ → List ℕ → ℕ → Type 0
NodeInfers d r A C W n T T' changed = (P : Program) → node P r ≡ d → InfersOnly n P W A T T' changed × C (Stands n T')

-- The table has n words for each value of `count` rows, and they cover the window.
pub record TableFits (n count W : ℕ) (T : List ℕ) : Type 0 where
  pub some : 1 ≤ W
  pub most : W ≤ most_ticks
  pub words_are : n ≡ words W
  pub long : HasRows n T count
