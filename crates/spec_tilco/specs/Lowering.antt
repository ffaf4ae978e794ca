-- From a formula to BTL, and from BTL to rows (01, "Lowering, row by row"; 004, sections 4 and 4.1).
-- Assumes nothing.
use Rattle.std.specs.Prelude.{Bool, true, false, not, List, [], ◌∷◌, ◌++◌, map, ℕ, zero, suc, ◌+◌, ℤ, length, get_or, replicate}
use Rattle.spec_tilco.specs.Lists.{tab, laid}
use Rattle.spec_tilco.specs.Formula.{Op, And, Or, Implies, Iff, Formula, Sheet, signal_rows, formulas}
use Rattle.spec_tilco.specs.Meaning.{History, at_offset, gate_of, over_offsets}
use Rattle.spec_tilco.specs.Inference.{Node, signal, not_of, gate, look, Program}

-- BTL: a signal (true) or its opposite (false), an and (true) or an or (false), and the looks of an interval joined by and or by or.
pub data BTL : Type 0 where
  lit : Bool → ℕ → BTL
  join : Bool → BTL → BTL → BTL
  timed : Bool → ℕ → ℕ → BTL → BTL

-- A truth value in a sense: itself in the true sense, its opposite in the false one.
abbrev pub turn : Bool → Bool → Bool
turn true b = b
turn false b = not b

-- Two formulas joined by a sign in the sense s, where f and g give each of them in either sense. "In the false sense they trade places
-- and the children are lowered false. A=>B is not A, or B." A<=>B takes both of its sides twice.
abbrev pub paired : Op → Bool → (Bool → BTL) → (Bool → BTL) → BTL
paired And s f g = join s (f s) (g s)
paired Or s f g = join (not s) (f s) (g s)
paired Implies s f g = join (not s) (f (not s)) (g s)
paired Iff s f g = join s (join (not s) (f (not s)) (g s)) (join (not s) (g (not s)) (f s))

-- A formula in the sense s. "! turns the sense"; a timed part lowers its child once, joined "by and for @, or for ? (traded in the false sense)".
abbrev pub lowered : Bool → Formula → BTL
lowered s (Formula.sig x) = lit s x
lowered s (Formula.neg f) = lowered (not s) f
lowered s (Formula.pair o f g) = paired o s (λ z. lowered z f) (λ z. lowered z g)
lowered s (Formula.time u lo n f) = timed (turn u s) lo n (lowered s f)

-- The value of BTL in a history.
abbrev pub worth : History → BTL → ℤ → Bool
worth h (lit s x) t = turn s (h x t)
worth h (join u a b) t = gate_of u (worth h a t) (worth h b t)
worth h (timed u lo n a) t = over_offsets u (λ k. worth h a (at_offset t k)) lo n

-- How many rows it adds: signals none in the true sense, one not-row in the false.
abbrev pub size : BTL → ℕ
size (lit true x) = 0
size (lit false x) = 1
size (join u a b) = size a + size b + 1
size (timed u lo n a) = size a + suc n + n

-- The row that joins looks 0 to j, where the looks start at row l and the joins at row k.
abbrev pub joined : ℕ → ℕ → ℕ → ℕ
joined l k zero = l
joined l k (suc j) = k + j

-- Its top row, where its own rows start at row b.
abbrev pub top_of : BTL → ℕ → ℕ
top_of (lit true x) b = x
top_of (lit false x) b = b
top_of (join u a c) b = b + size a + size c
top_of (timed u lo n a) b = joined (b + size a) (b + size a + suc n) n

-- Its rows, "children before parents and left before right"; a timed part's child, its looks "from the smallest up", their joins "from the left".
abbrev pub rows_of : BTL → ℕ → List Node
rows_of (lit true x) b = []
rows_of (lit false x) b = not_of x ∷ []
rows_of (join u a c) b = rows_of a b ++ (rows_of c (b + size a) ++ (gate u (top_of a b) (top_of c (b + size a)) ∷ []))
rows_of (timed u lo n a) b =
    rows_of a b
    ++ (tab (λ j. look (lo + j) (top_of a b)) (suc n)
    ++ tab (λ j. gate u (joined (b + size a) (b + size a + suc n) j) (b + size a + suc j)) n)

-- The rows of formulas one after the other, the first row being b.
abbrev pub rows_all : List BTL → ℕ → List Node
rows_all = laid size rows_of

-- Their top rows.
abbrev pub tops_all : List BTL → ℕ → List ℕ
tops_all = laid size (λ c b. top_of c b ∷ [])

-- The program of m signals' rows and of these formulas.
abbrev pub assembled : ℕ → List BTL → Program
assembled m cs = record { rows = replicate m signal ++ rows_all cs m; tops = tops_all cs m }

-- "Each rule is lowered in its true sense."
abbrev pub lows : List Formula → List BTL
lows = map (lowered true)

-- "Rows: declared signals, hidden signals in the order written, then nodes."
abbrev pub program : Sheet → Program
program s = assembled (signal_rows s) (lows (formulas s))

-- What check answers.
abbrev pub row_count_lem : Sheet → ℕ
row_count_lem s = length (program s).rows

-- What each row of a lowered formula stands for, in the order of the rows.
abbrev pub parts : BTL → List BTL
parts (lit true x) = []
parts (lit false x) = lit false x ∷ []
parts (join u a b) = parts a ++ (parts b ++ (join u a b ∷ []))
parts (timed u lo n a) = parts a ++ (tab (λ j. timed u (lo + j) 0 a) (suc n) ++ tab (λ j. timed u lo (suc j) a) n)

-- What row r of a program stands for; the first m rows are signals and stand for themselves.
abbrev pub part_at : ℕ → List BTL → ℕ → BTL
part_at m cs r = get_or (tab (lit true) m ++ laid size (λ c b. parts c) cs m) r (lit true 0)

-- What a row of the sheet stands for.
abbrev pub row_part : Sheet → ℕ → BTL
row_part s = part_at (signal_rows s) (lows (formulas s))
