-- The rows' nodes, the inference rules over them, and what a finite chain of the rules leads to (01, "The inference rules"; 004, section 5).
-- Assumes nothing.
use Rattle.std.specs.Prelude.{◌≡◌, Bool, true, false, not, ◌⊎◌, ℕ, ◌+◌, ◌<◌, get_or}
use mathlib.Core.List.{List, Memᴰ}

-- What a row is: a signal (declared or hidden), the opposite of a signal's row, an And (true) or an Or (false) of two rows, or a look
-- at another tick of a row, at an offset written with 64 added.
pub data Node : Type 0 where
  signal : Node
  not_of : ℕ → Node
  gate : Bool → ℕ → ℕ → Node
  look : ℕ → ℕ → Node

-- The rows of a lowered sheet, and each rule's top row.
pub record Program : Type 0 where
  pub rows : List Node
  pub tops : List ℕ

-- The node of a row. Past the last row no rule applies, as at a signal.
abbrev pub node : Program → ℕ → Node
node P r = get_or P.rows r signal

-- A mark: row, tick, value.
pub data Mark : Type 0 where
  mark : ℕ → ℕ → Bool → Mark

-- A set of marks.
abbrev pub Marks : Type 1
Marks = Mark → Type 0

-- Tick s is at the offset k from tick t.
abbrev pub Shifted : ℕ → ℕ → ℕ → Type 0
Shifted t k s = t + k ≡ s + 64

-- The rules with one premise. With u = true they are And's: true gives both true, a false child gives false. "Or: the same with true and
-- false traded." A look's value at t and its child's at t+k give each other, "only where both ticks are in the window".
pub data One (P : Program) (W : ℕ) : Mark → Mark → Type 0 where
  down_left : {r a b t : ℕ} {u : Bool} → node P r ≡ gate u a b → One P W (mark r t u) (mark a t u)
  down_right : {r a b t : ℕ} {u : Bool} → node P r ≡ gate u a b → One P W (mark r t u) (mark b t u)
  up_left : {r a b t : ℕ} {u : Bool} → node P r ≡ gate u a b → One P W (mark a t (not u)) (mark r t (not u))
  up_right : {r a b t : ℕ} {u : Bool} → node P r ≡ gate u a b → One P W (mark b t (not u)) (mark r t (not u))
  look_down : {r c k t s : ℕ} {v : Bool} → node P r ≡ look k c → Shifted t k s → t < W → s < W → One P W (mark r t v) (mark c s v)
  look_up : {r c k t s : ℕ} {v : Bool} → node P r ≡ look k c → Shifted t k s → t < W → s < W → One P W (mark c s v) (mark r t v)
  not_down : {r x t : ℕ} {v : Bool} → node P r ≡ not_of x → One P W (mark r t v) (mark x t (not v))
  not_up : {r x t : ℕ} {v : Bool} → node P r ≡ not_of x → One P W (mark x t v) (mark r t (not v))

-- The rules with two premises. And: both true gives true; false and one child true gives the other false.
pub data Two (P : Program) : Mark → Mark → Mark → Type 0 where
  up_both : {r a b t : ℕ} {u : Bool} → node P r ≡ gate u a b → Two P (mark a t u) (mark b t u) (mark r t u)
  rest_right : {r a b t : ℕ} {u : Bool} → node P r ≡ gate u a b → Two P (mark r t (not u)) (mark a t u) (mark b t (not u))
  rest_left : {r a b t : ℕ} {u : Bool} → node P r ≡ gate u a b → Two P (mark r t (not u)) (mark b t u) (mark a t (not u))

-- What a finite chain of the rules leads to, from the marks S and every top true at every tick of the window.
pub data Derives (P : Program) (W : ℕ) (S : Marks) : Mark → Type 0 where
  start : {m : Mark} → S m → Derives P W S m
  top : {r t : ℕ} → Memᴰ r P.tops → t < W → Derives P W S (mark r t true)
  one : {p m : Mark} → One P W p m → Derives P W S p → Derives P W S m
  two : {p q m : Mark} → Two P p q m → Derives P W S p → Derives P W S q → Derives P W S m

-- A gate's rules add nothing to the marks T at tick t: row r is the gate, over the rows a and b.
pub record GateSettled (T : Marks) (u : Bool) (r a b t : ℕ) : Type 0 where
  pub down_left : T (mark r t u) → T (mark a t u)
  pub down_right : T (mark r t u) → T (mark b t u)
  pub up_both : T (mark a t u) → T (mark b t u) → T (mark r t u)
  pub up_left : T (mark a t (not u)) → T (mark r t (not u))
  pub up_right : T (mark b t (not u)) → T (mark r t (not u))
  pub rest_right : T (mark r t (not u)) → T (mark a t u) → T (mark b t (not u))
  pub rest_left : T (mark r t (not u)) → T (mark b t u) → T (mark a t (not u))

-- Two sets of marks together.
abbrev pub ◌or◌ : Marks → Marks → Marks
◌or◌ S R m = S m ⊎ R m

-- "A clash is a row with both marks at one tick."
pub record Clash (S : Marks) : Type 0 where
  pub row : ℕ
  pub tick : ℕ
  pub holds : S (mark row tick true)
  pub fails : S (mark row tick false)
