-- What a table's words tell: the ones in one more word, a clash in a word of ticks, and a clash in the table.
-- Assumes nothing.
use mathlib.Core.Path.{◌≡◌, refl, ap, subst}
use mathlib.Core.Bool.{true, false}
use mathlib.Core.List.{List}
use mathlib.Core.Logic.{⊎_elim}
use Prim.Native.Nat.{ℕ, ◌+◌, ◌*◌, ◌/◌, ◌%◌, ◌^◌, ◌≤◌, ◌<◌}
use native.Mathlib.Nat.{mul-le-mul_right, lt_of_le_of_lt}
use native.Mathlib.Numerals.{add-one}
use native.Mathlib.Omega.{arith}
use lib.Bits.{bit_and, and_le_l}
use lib.Count.{ones, count_trailing_zeros}
use lib.ListN.{length, get_or, get_or-eq_default}
use Rattle.spec_ticks.specs.Ticks.{Has, block, tally}
use Rattle.spec_ticks.proofs.Bits.{lt_or_ge, has_below, no_ticks}
use Rattle.spec_ticks.proofs.Counts.{first_has}
use Rattle.spec_tilco.specs.Inference.{Clash}
use Rattle.spec_tilco.specs.Table.{Stands}
use Rattle.table_words.specs.WordTicks.{Ticks, Both}
use Rattle.table_facts.specs.Clashes.{ClashIn}
use Rattle.table_words.proofs.OneWord.{flow_ticks}

pub tally_none : (T : List ℕ) → 0 ≡ tally T 0
unfolding tally
tally_none T = refl

pub tally_more : (T : List ℕ) (i : ℕ) → tally T (i + 1) ≡ tally T i + ones (get_or T i 0)
unfolding tally
tally_more T i = ap (tally T) (add-one i)

module _ (n : ℕ) (T : List ℕ) where
  -- the ticks of word q at which row r has both marks
  abbrev pub meeting : ℕ → ℕ → ℕ
  meeting q r = bit_and (get_or T (block r true * n + q) 0) (get_or T (block r false * n + q) 0)

  met : (q r : ℕ) → q < n → Ticks q (meeting q r) (Both n T r true r false)
  met q r l = flow_ticks n T r true r false q l refl refl

  pub clash_found : (q r : ℕ) → q < n → get_or T (block r true * n + q) 0 < 2 ^ 64 → (meeting q r ≡ 0 → ⊥) → ClashIn n T q
  clash_found q r l small f =
      let s : meeting q r < 2 ^ 64 = lt_of_le_of_lt (and_le_l (get_or T (block r true * n + q) 0) (get_or T (block r false * n + q) 0)) small in
      let h : Has (meeting q r) (count_trailing_zeros 64 (meeting q r)) = first_has 64 (meeting q r) (omega arith) s in
      let t : ℕ = count_trailing_zeros 64 (meeting q r) in
      let b : t < 64 = has_below (meeting q r) 64 t s h in
      let m : Both n T r true r false (q * 64 + t) = (met q r l t b).0 h in
      (record { row = r; tick = q * 64 + t; holds = m.0; fails = m.1 }, omega arith)

  -- A clash is in a row of the table, since past it there is no mark.
  pub no_clash : (count q : ℕ) → length T ≡ 2 * count * n → ((r : ℕ) → r < count → meeting q r ≡ 0) → ClashIn n T q → ⊥
  no_clash count q e f (c, at) = ⊎_elim inner past (lt_or_ge c.row count)
    where
      inner : c.row < count → ⊥
      inner l =
          let g : c.tick ≡ q * 64 + c.tick % 64 = omega arith in
          let h : Has (meeting q c.row) (c.tick % 64) = (met q c.row (omega (arith, c.holds.within)) (c.tick % 64) (omega arith)).1 (subst (Both n T c.row true c.row false) g (c.holds, c.fails)) in
          omega (arith, no_ticks (c.tick % 64), subst (λ (w : ℕ). Has w (c.tick % 64)) (f c.row l) h)

      past : count ≤ c.row → ⊥
      past l =
          let b : 2 * count * n ≤ block c.row true * n = mul-le-mul_right n (omega arith) in
          let z : get_or T (block c.row true * n + c.tick / 64) 0 ≡ 0 = get_or-eq_default T 0 {n = block c.row true * n + c.tick / 64} (omega arith) in
          omega (arith, no_ticks (c.tick % 64), subst (λ (w : ℕ). Has w (c.tick % 64)) z c.holds.set_at)

  -- A clash is at a tick of one of the words.
  pub clash_in_word : ((q : ℕ) → q < n → ClashIn n T q → ⊥) → Clash (Stands n T) → ⊥
  clash_in_word f c = f (c.tick / 64) (omega (arith, c.holds.within)) (c, refl)
