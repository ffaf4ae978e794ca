-- A row whose rules add nothing to a word of ticks, and the words on which that rests. Assumes nothing.
-- n is how many words a row has for each value, q and p words of a row, W the window, T the table before and T' after.
use Rattle.std.specs.Prelude.{◌≡◌, Bool, not, List, ◌⊎◌, ℕ, ◌+◌, ◌/◌, ◌<◌}
use Rattle.spec_tilco.specs.Inference.{Node, signal, not_of, gate, look, mark, Marks, Shifted, GateSettled}
use Rattle.spec_tilco.specs.Table.{Stands}

-- The rules of row r, by its node, add nothing to the ticks of word q, and what a look gives its child is among C; a look's ticks are its child's.
abbrev pub SettledTo : Marks → ℕ → ℕ → Marks → ℕ → Node → Type 0
SettledTo C q W S r signal = Unit {0}
SettledTo C q W S r (not_of x) = (t : ℕ) (v : Bool) → t / 64 ≡ q → (S (mark r t v) → S (mark x t (not v))) × (S (mark x t v) → S (mark r t (not v)))
SettledTo C q W S r (gate u a b) = (t : ℕ) → t / 64 ≡ q → GateSettled S u r a b t
SettledTo C q W S r (look k c) =
    (t s : ℕ) (v : Bool) → Shifted t k s → t < W → s < W → s / 64 ≡ q → (S (mark r t v) → C (mark c s v)) × (S (mark c s v) → S (mark r t v))

-- They add nothing to them at all.
abbrev pub SettledIn : ℕ → ℕ → Marks → ℕ → Node → Type 0
SettledIn q W S r d = SettledTo S q W S r d

-- Whether row r's rules add something to word q rests on word p of row x. A look's offset k is written with 64 added (1..127), so
-- the ticks of its word p look at its child's words p + k / 64 - 1 and p + k / 64.
abbrev pub Rests : Node → ℕ → ℕ → ℕ → ℕ → Type 0
Rests signal r q x p = ⊥
Rests (not_of y) r q x p = (p ≡ q) × ((x ≡ r) ⊎ (x ≡ y))
Rests (gate u a b) r q x p = (p ≡ q) × ((x ≡ r) ⊎ ((x ≡ a) ⊎ (x ≡ b)))
Rests (look k c) r q x p = ((x ≡ c) × (p ≡ q)) ⊎ ((x ≡ r) × ((q ≡ p + k / 64) ⊎ (q + 1 ≡ p + k / 64)))

-- Word p of row x is the same in both tables.
abbrev pub SameWord : ℕ → List ℕ → List ℕ → ℕ → ℕ → Type 0
SameWord n T T' x p = (t : ℕ) (v : Bool) → t / 64 ≡ p → Stands n T' (mark x t v) → Stands n T (mark x t v)

-- The same of a look of row r at row c with the offset k, where r's tick is in the word e - k / 64.
abbrev pub LookTo : Marks → ℕ → ℕ → ℕ → Marks → ℕ → ℕ → ℕ → Type 0
LookTo C q e W S r k c =
    (t s : ℕ) (v : Bool) → Shifted t k s → t < W → s < W → s / 64 ≡ q → e ≡ t / 64 + k / 64 → (S (mark r t v) → C (mark c s v)) × (S (mark c s v) → S (mark r t v))

-- The ticks t at which a look has the value v by word q of its child's row c; k is its offset.
abbrev pub FromChild : ℕ → Marks → ℕ → ℕ → ℕ → Bool → ℕ → Type 0
FromChild W S k c q v t = (t < W) × ((s : ℕ) × (s / 64 ≡ q) × Shifted t k s × S (mark c s v))

-- The ticks s at which its child has the value v by word p of the look's row r.
abbrev pub FromLook : ℕ → Marks → ℕ → ℕ → ℕ → Bool → ℕ → Type 0
FromLook W S k r p v s = (s < W) × ((t : ℕ) × (t / 64 ≡ p) × Shifted t k s × S (mark r t v))
