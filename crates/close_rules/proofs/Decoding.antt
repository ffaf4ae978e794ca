-- A row of the program by its word, and the words of a table that has the rows.
-- Assumes nothing.
use mathlib.Core.Path.{◌≡◌, refl, sym, ap, ◌∙◌, subst}
use mathlib.Core.List.{List}
use mathlib.Core.Logic.{⊎_elim}
use Prim.Native.Nat.{ℕ, zero, suc, ◌+◌, ◌-◌, ◌*◌, ◌/◌, ◌%◌, ◌≤◌, ◌<◌}
use native.Mathlib.Nat.{mul-le-mul_right}
use native.Mathlib.Omega.{arith}
use lib.ListN.{length, get_or, get_or-eq_default}
use Rattle.spec_limits.specs.Limits.{code_kinds, code_numbers}
use Rattle.spec_ticks.proofs.Bits.{lt_or_ge}
use Rattle.spec_tilco.specs.Inference.{Node, signal, not_of, gate, look, Program, node}
use Rattle.spec_tilco.specs.Table.{words}
use Rattle.lower_rows.specs.RowCodes.{unpacked, row_at}
use Rattle.close_rules.specs.Codes.{Codes, Coded, LooksAt}
use Rattle.table_words.specs.WordTicks.{HasRow, HasRows}
use Rattle.close_rules.specs.Effects.{TableFits}

-- A word of a row lies in the window.
pub word_in_window : (W n q : ℕ) → n ≡ words W → q < n → q * 64 < W
unfolding words
word_in_window W n q e l = omega arith

-- The words of a row cover the window.
pub words_cover : (W n : ℕ) → n ≡ words W → W ≤ n * 64
unfolding words
words_cover W n e = omega arith

-- A table that has the rows has each of them.
pub has_row : (n count : ℕ) (T : List ℕ) (x : ℕ) → HasRows n T count → x < count → HasRow n T x
has_row n count T x s l =
    let b : 2 * (x + 1) * n ≤ 2 * count * n = mul-le-mul_right n (omega arith) in
    omega arith

-- A table of the same length is as large.
pub sized_as : {n count W : ℕ} {T T' : List ℕ} → length T' ≡ length T → TableFits n count W T → TableFits n count W T'
sized_as e s = record { some = s.some; most = s.most; words_are = s.words_are; long = omega (arith, e, s.long) }

-- A row with a rule is no signal's.
abbrev Ruled : Node → Type 0
Ruled signal = ⊥
Ruled (not_of x) = Unit {0}
Ruled (gate u a b) = Unit {0}
Ruled (look k c) = Unit {0}

signal_kind : (k a b : ℕ) → unpacked k a b ≡ signal → k ≡ 0
signal_kind zero a b e = refl
signal_kind (suc zero) a b e = absurd (subst Ruled e tt)
signal_kind (suc (suc zero)) a b e = absurd (subst Ruled e tt)
signal_kind (suc (suc (suc zero))) a b e = absurd (subst Ruled e tt)
signal_kind (suc (suc (suc (suc k)))) a b e = absurd (subst Ruled e tt)

-- A look's word starts with its kind and its child.
pub look_start : (B : List ℕ) (r : ℕ) → get_or B r 0 % code_kinds ≡ 3 → LooksAt B r (get_or B r 0 % (code_kinds * code_numbers) / code_kinds)
look_start B r e = omega arith

module _ (count : ℕ) (B : List ℕ) (r : ℕ) where
  -- the kind and the two numbers of the row code
  abbrev pub kind : ℕ
  kind = get_or B r 0 % code_kinds

  abbrev pub left : ℕ
  left = get_or B r 0 / code_kinds % code_numbers

  abbrev pub right : ℕ
  right = get_or B r 0 / (code_kinds * code_numbers)

  -- a kind past a look's: a not-row's
  abbrev pub past : ℕ
  past = suc (suc (suc (suc (kind - 4))))

  -- The row's node by the kind in its word.
  pub node_as : (k : ℕ) → kind ≡ k → (P : Program) → Codes P count B → node P r ≡ unpacked k left right
  node_as k e P c = c.nodes r ∙ ap (λ (z : ℕ). unpacked z left right) e

  -- Past the program's rows there are signals.
  pub row_in : Coded count B → (kind ≡ 0 → ⊥) → r < count
  row_in c f = ⊎_elim (λ l. l) (λ l. absurd (f (signal_kind kind left right (sym (c.codes.nodes r) ∙ past_rows l)))) (lt_or_ge r count)
    where
      past_rows : count ≤ r → node c.program r ≡ signal
      past_rows l = get_or-eq_default c.program.rows signal (omega (arith, c.codes.rows_are))

  -- A look at row c, told by the start of its word: its kind and its child.
  module _ (c : ℕ) (e : LooksAt B r c) where
    pub look_kind : kind ≡ 3
    look_kind = omega arith

    pub look_child : left ≡ c
    look_child = omega arith

    pub look_row : row_at B r ≡ look right c
    look_row = ap (λ (z : ℕ). unpacked z left right) look_kind ∙ ap (look right) look_child

    pub look_in : Coded count B → r < count
    look_in k = row_in k (λ z. omega (arith, z, look_kind))
