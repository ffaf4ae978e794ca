-- What a reader of a part asks, and what it promises of the text, the declared names in it and the arena that are lent to it.
-- Assumes nothing. `s` is the text, `names` the index of the declared names in it and N what is known of it, `arena` has m nodes, h is the next hidden
-- signal's row, and at most d of `(` and `!` may still be opened.
use Rattle.std.specs.Prelude.{◌≡◌, ◌||◌, ◌&&◌, Bool, List, ℕ, suc, ◌+◌, ◌-◌, ◌≤◌, ◌<◌, length}
use Rattle.std.proofs.Math.Option.{Option}
use Rattle.read_bytes.specs.declared.bytes.Class.TheVariants.{Letter}
use Rattle.read_bytes.specs.Read.{Read}
use Rattle.read_bytes.specs.Bytes.{peek, pick, class_of, starts}
use Rattle.read_names.specs.Slices.{Slice, MutSlice, before, old, new}
use Rattle.read_index.specs.Index.{names_in}
use Rattle.spec_tilco.specs.Formula.{Op, Written, hiddens}
use Rattle.read_arena.specs.declared.Sign.{Sign}
use Rattle.read_arena.specs.declared.Node.TheVariants.{Pair}
use Rattle.read_arena.specs.Nodes.{put_node}
use Rattle.read_arena.specs.NodeRules.{NodeRoom, Held}
use Rattle.read_parts.specs.FormulaText.{Reader, sign_text, repeats, declared, timed_part, times, level, below, formula, negated, in_parens, second, since_until, name_or_keep, inside, plain_part, rule}
use Rattle.read_parts.specs.Parsed.{Answer, PartReady, Parses}

-- ---- what is asked

-- Ready at a byte of the text.
pub record AtByte (s a : List ℕ) (N : Type 0) (p m h : ℕ) : Type 0 where
  pub ready : PartReady s a N p m h
  pub inside : p < length s

-- Ready at a letter.
pub record AtLetter (s a : List ℕ) (N : Type 0) (p m h : ℕ) : Type 0 where
  pub ready : PartReady s a N p m h
  pub letter : class_of (peek s p) ≡ Letter

-- Ready after a part, whose node is the last one.
pub record AfterPart (s a : List ℕ) (N : Type 0) (p m h : ℕ) : Type 0 where
  pub ready : PartReady s a N p m h
  pub some : 0 < m

-- Ready after since or until, whose five bytes count as what is left.
pub record AfterKeyword (s a : List ℕ) (N : Type 0) (p m h : ℕ) : Type 0 where
  pub ready : PartReady s a N (p - 5) m h
  pub keyword : 5 ≤ p
  pub within : p ≤ length s

-- Ready after the first formula of since or until, whose node is the last one; four bytes before p count as what is left, and the hidden
-- signal has its row before h.
pub record AfterFirst (s a : List ℕ) (N : Type 0) (p m h row : ℕ) : Type 0 where
  pub ready : PartReady s a N (p - 4) m h
  pub some : 0 < m
  pub numbered : row < h
  pub four : 4 ≤ p
  pub within : p ≤ length s

-- Ready to put a node over what stands at a level and its next part, whose nodes are the last one of m and the last one of u.
pub record Joinable (a : List ℕ) (m u : ℕ) : Type 0 where
  pub room : NodeRoom a u 1
  pub some : 0 < m
  pub after : m < u

-- ---- what the text says at p, by the definitions of FormulaText

abbrev pub declared_at : Slice → Slice → ℕ → Read Written
declared_at s names p = declared (names_in (before s) (before names)) (before s) p

abbrev pub times_at : Slice → ℕ → ℕ → Written → Read Written
times_at s p n f = times (before s) n f p

abbrev pub rule_at : Slice → Slice → ℕ → Read Written
rule_at s names p = rule (names_in (before s) (before names)) (before s) p

module _ (s names : Slice) (d : ℕ) where
  abbrev text : List ℕ
  text = before s

  -- What reads a plain part, and what reads one inside what it opens.
  abbrev outer : Reader
  outer = plain_part d (names_in (before s) (before names)) text

  abbrev inner : Option Reader
  inner = inside d (names_in (before s) (before names)) text

  abbrev pub plain_at : ℕ → Read Written
  plain_at p = outer p

  abbrev pub timed_at : ℕ → Read Written
  timed_at p = timed_part outer text p

  abbrev pub level_at : Op → ℕ → Read Written
  level_at o p = level o (below o outer text) text p

  abbrev pub below_at : Op → ℕ → Read Written
  below_at o p = below o outer text p

  abbrev pub negated_at : ℕ → Read Written
  negated_at p = negated inner p

  abbrev pub parens_at : ℕ → Read Written
  parens_at p = in_parens inner text p

  abbrev pub name_or_keep_at : ℕ → Read Written
  name_or_keep_at p = name_or_keep inner (names_in (before s) (before names)) text p

  abbrev pub since_until_at : Bool → ℕ → Read Written
  since_until_at since p = since_until inner since text p

  abbrev pub second_at : Bool → ℕ → Written → Read Written
  second_at since p f = second since (formula outer text) text f p

-- ---- what is promised, of a part R whose bytes and nodes are counted from p on

-- The answer is what R says, and on a formula the arena holds it at its last node, its hidden signals numbered from h.
abbrev pub Reads : Read Written → Slice → MutSlice → ℕ → ℕ → ℕ → Answer → Type 0
Reads R s arena p m h r = Parses (old arena) (new arena) (length (before s)) 1 p m h h R r

-- The same of what follows a part: whatever formula f stands at the last node, its hidden signals numbered from x, the answer is what R says
-- of f, with enough turns n.
abbrev pub ReadsOn : (ℕ → Written → Read Written) → Slice → MutSlice → ℕ → ℕ → ℕ → Answer → Type 0
ReadsOn R s arena p m h r =
    (n x : ℕ) (f : Written) → length (before s) ≤ p + n → Held (old arena) x (m - 1) f → h ≡ x + hiddens f
    → Parses (old arena) (new arena) (length (before s)) 0 p m h x (R n f) r

-- The same of what follows the first formula f of since or until, whose own hidden signal has the row before those of f.
abbrev pub ReadsSecond : (Written → Read Written) → Slice → MutSlice → ℕ → ℕ → ℕ → ℕ → Answer → Type 0
ReadsSecond R s arena p m h row r =
    (f : Written) → Held (old arena) (suc row) (m - 1) f → h ≡ suc row + hiddens f
    → Parses (old arena) (new arena) (length (before s)) 0 p m h row (R f) r

-- Does another part follow at q, after the level's first part or a later one? Only if the sign stands there, and if it repeats or only the
-- first part was read.
abbrev pub goes_on : Op → Bool → List ℕ → ℕ → Bool
goes_on o first s q = (repeats o || first) && starts s q (sign_text o)

-- A level's part with the last one of u nodes: the first stands for itself, any other is joined by the sign to what stands before it, with the
-- last one of m nodes. The arena goes from a to a', and r nodes are then used.
pub record Joins (sign : Sign) (first : Bool) (m u : ℕ) (a a' : List ℕ) (r : ℕ) : Type 0 where
  pub put : a' ≡ pick first (λ _. a) (put_node a u (Pair sign (m - 1) (u - 1)))
  pub count : r ≡ pick first (λ _. u) (u + 1)
