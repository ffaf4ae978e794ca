-- Rounds until no item is left: the table has every consequence of its marks then, and nothing else.
-- Assumes that no mark is outside the window at the start.
use mathlib.Core.Path.{◌≡◌, sym, ap, subst}
use mathlib.Core.Bool.{Bool, true, false}
use mathlib.Core.List.{List}
use mathlib.Core.Logic.{inr, ⊎_elim}
use Prim.Native.Nat.{ℕ, zero, suc, ◌+◌, ◌*◌, ◌/◌, ◌%◌, ◌≤◌, ◌<◌}
use native.Mathlib.Nat.{zero-mul, mul_comm, zero-lt-suc, mod-lt, div-lt_iff_lt-mul, div-add-mod'}
use native.Mathlib.Omega.{arith}
use lib.ListN.{length, get_or}
use Rattle.spec_ticks.specs.Ticks.{Has, Small}
use Rattle.spec_ticks.proofs.Bits.{lt_or_ge, no_ticks}
use Rattle.lower_rows.specs.RowCodes.{row_at}
use Rattle.spec_tilco.specs.Inference.{Node, Program, node, mark}
use Rattle.spec_tilco.specs.Table.{words, Stands}
use Rattle.spec_tilco.proofs.Closing.{SettledAt, finished}
use Rattle.close_rules.specs.Codes.{Codes, Coded}
use Rattle.close_rules.specs.Effects.{Infers}
use Rattle.table_words.specs.WordTicks.{room}
use Rattle.close_list.specs.Items.{per, OnList, SettledOffList}
use Rattle.close_list.specs.Workable.{Workable}
use Rattle.close_list.proofs.Queueing.{column_in}
use Rattle.close_list.proofs.Workable.{workable_after}
use Rattle.close_word.specs.VisitSeries.{VisitSeries, WorksList}
use Rattle.close_table.specs.Closes.{ClosesAll}
use Rattle.close_table.specs.Rounds.{InColumns}
use Rattle.close_rules.proofs.Decoding.{words_cover}
use Rattle.close_rules.proofs.Inferring.{infers_none, infers_then}
use Rattle.close_word.proofs.Local.{settled_all}

-- 1 if there is another round, and else 0.
abbrev pub another : Bool → ℕ
another true = 1
another false = 0

-- On the way from T to the closed table: what is not on the list is settled, and when there is no other round nothing is on it.
pub record OnTheWay (n : ℕ) (P : Program) (W count : ℕ) (B T T' D : List ℕ) (go : Bool) : Type 0 where
  pub infers : Infers n P W T T'
  pub done : SettledOffList count B W n T' D
  pub clear : go ≡ false → (j : ℕ) → j < per count * n → get_or D j 0 ≡ 0

-- Each of the words is one of those for a word of ticks.
in_columns : (count n j : ℕ) → j < per count * n → InColumns count n j
in_columns count n = divided (per count)
  where
    divided : (s j : ℕ) → j < s * n → (q : ℕ) × (q < n) × ((i : ℕ) × (i < s) × (j ≡ q * s + i))
    divided zero j l = absurd (omega (arith, zero-mul n))
    divided (suc s) j l = (
      j / suc s,
      (div-lt_iff_lt-mul (zero-lt-suc s)).1 (subst (λ (z : ℕ). j < z) (mul_comm (suc s) n) l),
      (j % suc s, mod-lt j (zero-lt-suc s), sym (div-add-mod' j (suc s))),
    )

-- A round that changes something leaves less room, and one that changes nothing is the last.
pub toward_less : (count : ℕ) (B : List ℕ) (W n : ℕ) (T T' D D' : List ℕ) (go : Bool) → Coded count B → WorksList count B W n (InColumns count n) T T' D D'
    → (((j : ℕ) → j < per count * n → get_or D' j 0 ≡ 0) → go ≡ false) → room T' + another go < room T + 1
toward_less count B W n T T' D D' go k g last = ⊎_elim (λ h. falls go (m.tells.less_room h)) (λ h. ends h) (lt_or_ge 0 g.changed)
  where
    m : VisitSeries (SettledOffList count B W n) (SettledOffList count B W n) n k.program W (InColumns count n) T T' D D' g.changed
    m = g.each k.program k.codes

    falls : (go : Bool) → room T' < room T → room T' + another go < room T + 1
    falls true l = omega arith
    falls false l = omega arith

    ends : g.changed ≤ 0 → room T' + another go < room T + 1
    ends h =
        let z : g.changed ≡ 0 = omega arith in
        let e = last (λ j l. m.empty z j (inr (in_columns count n j l))) in
        omega (arith, ap room (m.tells.still z), ap another e)

module _ (count : ℕ) (B : List ℕ) (W n : ℕ) (T : List ℕ) where
  -- The same for every program with these rows.
  abbrev pub Toward : List ℕ → List ℕ → Bool → Type 0
  Toward T' D go = (P : Program) → Codes P count B → OnTheWay n P W count B T T' D go

  pub toward_start : (D : List ℕ) → SettledOffList count B W n T D → Toward T D true
  toward_start D f P c = record {
    infers = infers_none T;
    done = f;
    clear = λ e. absurd (omega (arith, ap another e));
  }

  -- Items can be visited on the way.
  pub toward_workable : {H N D₀ T' D : List ℕ} {go : Bool} → Workable count n W B H N D₀ T → length D ≡ length D₀ → Toward T' D go → Workable count n W B H N D T'
  toward_workable k e f = workable_after k e (f k.coded.program k.coded.codes).infers

  pub toward_more : (T' T'' D D' : List ℕ) {x : Bool} (y : Bool) → Toward T' D x → WorksList count B W n (InColumns count n) T' T'' D D'
      → (y ≡ false → (j : ℕ) → j < per count * n → get_or D' j 0 ≡ 0) → Toward T'' D' y
  toward_more T' T'' D D' y f g last P c =
      let a = f P c in
      let m = g.each P c in
      record {
        infers = infers_then a.infers m.infers;
        done = m.rests a.done;
        clear = last;
      }

  pub toward_end : (T' D : List ℕ) (go : Bool) → go ≡ false → n ≡ words W → Small 64 T' → Toward T' D go → ClosesAll count B W n T T'
  toward_end T' D go z e small f P c tops =
      let a = f P c in
      let g = a.infers in
      record {
        size = g.size;
        small = small;
        exactly = finished P W (Stands n T') (Stands n T) g.sound g.grows (λ r i t l. g.grows (mark r t true) (tops r i t l)) (λ r l. settled a r (omega (arith, c.rows_are)));
      }
    where
      settled : OnTheWay n P W count B T T' D go → (r : ℕ) → r < count → SettledAt W (Stands n T') r (node P r)
      settled a r l =
          subst (λ (d : Node). SettledAt W (Stands n T') r d) (sym (c.nodes r))
          (settled_all n W T' r (row_at B r) (words_cover W n e) (λ q b. a.done r q l b (off q b)))
        where
          off : (q : ℕ) → q < n → OnList count D r q → ⊥
          off q b t = omega (arith, no_ticks (r % 64), subst (λ (w : ℕ). Has w (r % 64)) (a.clear z (q * per count + r / 64) (omega (arith, column_in (per count) n q (per count * n) b (omega arith)))) t)
