-- What the rules lead to holds: every derived mark on a row is the value of what the row stands for, and a clash excludes every history.
-- Assumes a sheet in which every name is declared.
use mathlib.Core.Path.{◌≡◌, sym, ◌∙◌, ap, ap₂, subst}
use mathlib.Core.Bool.{Bool, true, false, not, not-not, true≢false}
use mathlib.Core.List.Memᴰ
use mathlib.Core.List.{List, [], ◌∷◌, ◌++◌, Memᴰ}
use mathlib.Core.Logic.{◌⊎◌, inl, inr}
use Prim.Native.Nat.{ℕ, zero, suc, ◌+◌, ◌<◌}
use native.Mathlib.Nat.{add-zero, zero-add}
use native.Mathlib.Omega.{arith}
use lib.IntN.{ℤ, pos, ◌-ℤ◌, +ℤ-neg_ℤ_cancel}
use Rattle.spec_tilco.specs.Lists.{All, tab, laid}
use Rattle.spec_tilco.specs.Formula.{Sheet, signal_rows, formulas, Declared}
use Rattle.spec_tilco.specs.Meaning.{History, at_offset, gate_of, Obeys}
use Rattle.spec_tilco.specs.Inference.{Node, signal, not_of, gate, look, Program, node, Mark, mark, Marks, Shifted, One, down_left, down_right, up_left, up_right, look_down, look_up, not_down, not_up, Two, up_both, rest_right, rest_left, Derives, start, top, one, two, Clash}
use Rattle.spec_tilco.specs.Lowering.{BTL, lit, join, timed, lowered, worth, size, joined, top_of, tops_all, assembled, lows, program, parts, part_at, row_part}
use Rattle.spec_tilco.specs.Table.{Leads}
use Rattle.spec_tilco.proofs.Lists.{length_tab}
use Rattle.spec_tilco.proofs.At.{At, at_left, at_right, tab_at, at_joined, at_timed, Timed, at_self}
use Rattle.spec_tilco.proofs.Rows.{length_parts, Along, Each, all_along, every_row}
use Rattle.spec_tilco.proofs.Values.{both_left, both_right, of_both, of_left, of_right, other_left, other_right}
use Rattle.spec_tilco.proofs.Sense.{lowering_keeps}
use Rattle.spec_tilco.proofs.Order.{Below, sheet_below}

-- ---- for every program: what is derived holds in every model

-- Values of the rows at the ticks that fit the nodes, the tops and the marks S.
pub record Model (P : Program) (W : ℕ) (S : Marks) (val : ℕ → ℕ → Bool) : Type 0 where
  pub gates : (r a b : ℕ) (u : Bool) → node P r ≡ gate u a b → (t : ℕ) → val r t ≡ gate_of u (val a t) (val b t)
  pub looks : (r k c : ℕ) → node P r ≡ look k c → (t s : ℕ) → Shifted t k s → val r t ≡ val c s
  pub nots : (r x : ℕ) → node P r ≡ not_of x → (t : ℕ) → val r t ≡ not (val x t)
  pub tops : (r : ℕ) → Memᴰ r P.tops → (t : ℕ) → t < W → val r t ≡ true
  pub starts : (r t : ℕ) (v : Bool) → S (mark r t v) → val r t ≡ v

abbrev pub Fits : (ℕ → ℕ → Bool) → Marks
Fits val (mark r t v) = val r t ≡ v

module _ {P : Program} {W : ℕ} {S : Marks} {val : ℕ → ℕ → Bool} (M : Model P W S val) where
  one_fits : {p m : Mark} → One P W p m → Fits val p → Fits val m
  one_fits (down_left {r} {a} {b} {t} {u} e) h = both_left u (val a t) (val b t) (sym (M.gates r a b u e t) ∙ h)
  one_fits (down_right {r} {a} {b} {t} {u} e) h = both_right u (val a t) (val b t) (sym (M.gates r a b u e t) ∙ h)
  one_fits (up_left {r} {a} {b} {t} {u} e) h = M.gates r a b u e t ∙ of_left u (val a t) (val b t) h
  one_fits (up_right {r} {a} {b} {t} {u} e) h = M.gates r a b u e t ∙ of_right u (val a t) (val b t) h
  one_fits (look_down {r} {c} {k} {t} {s} e z h₁ h₂) h = sym (M.looks r k c e t s z) ∙ h
  one_fits (look_up {r} {c} {k} {t} {s} e z h₁ h₂) h = M.looks r k c e t s z ∙ h
  one_fits (not_down {r} {x} {t} {v} e) h = sym (not-not (val x t)) ∙ ap not (sym (M.nots r x e t) ∙ h)
  one_fits (not_up {r} {x} {t} {v} e) h = M.nots r x e t ∙ ap not h

  two_fits : {p q m : Mark} → Two P p q m → Fits val p → Fits val q → Fits val m
  two_fits (up_both {r} {a} {b} {t} {u} e) h k = M.gates r a b u e t ∙ of_both u (val a t) (val b t) h k
  two_fits (rest_right {r} {a} {b} {t} {u} e) h k = other_right u (val a t) (val b t) (sym (M.gates r a b u e t) ∙ h) k
  two_fits (rest_left {r} {a} {b} {t} {u} e) h k = other_left u (val a t) (val b t) (sym (M.gates r a b u e t) ∙ h) k

  pub sound : {m : Mark} → Derives P W S m → Fits val m
  sound (start {m = mark r t v} s) = M.starts r t v s
  sound (top {r} {t} i h) = M.tops r i t h
  sound (one r d) = one_fits r (sound d)
  sound (two r d e) = two_fits r (sound d) (sound e)

  pub no_clash : Clash (Derives P W S) → ⊥
  no_clash c = true≢false (sym (sound c.holds) ∙ sound c.fails)

-- ---- a lowered formula: what its rows stand for fits their nodes

-- What a row's value has to be by its node.
abbrev Worthy : (ℕ → ℤ → Bool) → ℕ → Node → Type 0
Worthy v r signal = Unit {0}
Worthy v r (not_of x) = (t : ℤ) → v r t ≡ not (v x t)
Worthy v r (gate u a b) = (t : ℤ) → v r t ≡ gate_of u (v a t) (v b t)
Worthy v r (look k c) = (t : ℤ) → v r t ≡ v c (at_offset t k)

-- Row r stands for c.
abbrev Is : (ℕ → BTL) → ℕ → BTL → Type 0
Is F r c = F r ≡ c

-- The rows from b on stand for the formula's parts; its signals are below m.
abbrev Stood : ℕ → (ℕ → BTL) → BTL → ℕ → Type 0
Stood m F c b = Below m c × At (Is F) b (parts c)

abbrev Looked : (ℕ → BTL) → Bool → ℕ → ℕ → BTL → ℕ → Type 0
Looked F u lo n a b = Timed (Is F) b (size a) n (parts a) (λ j. timed u (lo + j) 0 a) (λ j. timed u lo (suc j) a)

module _ (m : ℕ) (F : ℕ → BTL) (own : (x : ℕ) → x < m → F x ≡ lit true x) where
  looked : (u : Bool) (lo n : ℕ) (a : BTL) (b : ℕ) → At (Is F) b (parts (timed u lo n a)) → Looked F u lo n a b
  looked u lo n a b s = at_timed (Is F) b (size a) n (parts a) (λ j. timed u (lo + j) 0 a) (λ j. timed u lo (suc j) a) (length_parts a) s

  joined_is : (u : Bool) (lo n : ℕ) (a : BTL) (b : ℕ) → Looked F u lo n a b → (j : ℕ) → j < suc n → F (joined (b + size a) (b + size a + suc n) j) ≡ timed u lo j a
  joined_is u lo n a b s zero h = ap F (sym (add-zero (b + size a))) ∙ s.looks 0 h ∙ ap (λ (k : ℕ). timed u k 0 a) (add-zero lo)
  joined_is u lo n a b s (suc j) h = s.ties j (omega arith)

  pub top_is : (c : BTL) (b : ℕ) → Stood m F c b → F (top_of c b) ≡ c
  top_is (lit true x) b k = own x k.0
  top_is (lit false x) b k = k.1.0
  top_is (join u a c) b k = (at_joined (Is F) b (size a) (size c) (parts a) (parts c) (join u a c) (length_parts a) (length_parts c) k.1).last
  top_is (timed u lo n a) b k = joined_is u lo n a b (looked u lo n a b k.1) n (omega arith)

  left_stood : (u : Bool) (a c : BTL) (b : ℕ) → Stood m F (join u a c) b → Stood m F a b
  left_stood u a c b k = (k.0.0, at_left (Is F) b (parts a) (parts c ++ (join u a c ∷ [])) k.1)

  right_stood : (u : Bool) (a c : BTL) (b : ℕ) → Stood m F (join u a c) b → Stood m F c (b + size a)
  right_stood u a c b k = (k.0.1, (at_joined (Is F) b (size a) (size c) (parts a) (parts c) (join u a c) (length_parts a) (length_parts c) k.1).right)

  child_stood : (u : Bool) (lo n : ℕ) (a : BTL) (b : ℕ) → Stood m F (timed u lo n a) b → Stood m F a b
  child_stood u lo n a b k = (k.0.1, (looked u lo n a b k.1).child)

  module _ (h : History) where
    worthy_along : Along (Stood m F) (Worthy (λ r t. worth h (F r) t))
    worthy_along = record {
      left = left_stood;
      right = right_stood;
      child = child_stood;
      nots = λ x b k t. ap (λ (z : BTL). worth h z t) k.1.0 ∙ sym (ap (λ (z : BTL). not (worth h z t)) (own x k.0));
      joins = λ u a c b k t. ap (λ (z : BTL). worth h z t) (top_is (join u a c) b k)
          ∙ sym (ap₂ (λ (x y : BTL). gate_of u (worth h x t) (worth h y t)) (top_is a b (left_stood u a c b k)) (top_is c (b + size a) (right_stood u a c b k)));
      looks = λ u lo n a b k j l t. ap (λ (z : BTL). worth h z t) ((looked u lo n a b k.1).looks j l)
          ∙ sym (ap (λ (z : BTL). worth h z (at_offset t (lo + j))) (top_is a b (child_stood u lo n a b k)));
      ties = λ u lo n a b k j l t. let s = looked u lo n a b k.1 in ap (λ (z : BTL). worth h z t) (s.ties j l)
          ∙ sym (ap₂ (λ (x y : BTL). gate_of u (worth h x t) (worth h y t)) (joined_is u lo n a b s j (omega arith)) (s.looks (suc j) (omega arith)));
    }

-- ---- a sheet's program

-- The two ways to say which tick an offset leads to agree.
moved_shifted : (t k s : ℕ) → Shifted t k s → at_offset (pos t) k ≡ pos s
moved_shifted t k s e = ap (λ (n : ℕ). pos n -ℤ pos 64) e ∙ +ℤ-neg_ℤ_cancel (pos s) (pos 64)

module _ (m : ℕ) (cs : List BTL) where
  abbrev F : ℕ → BTL
  F = part_at m cs

  abbrev parts_all : List BTL → ℕ → List BTL
  parts_all = laid size (λ c b. parts c)

  parts_at : At (Is F) 0 (tab (lit true) m ++ parts_all cs m)
  parts_at = at_self (lit true 0) F 0 (tab (lit true) m ++ parts_all cs m) (λ i h. ap F (zero-add i))

  pub signal_part : (x : ℕ) → x < m → F x ≡ lit true x
  signal_part x h = ap F (sym (zero-add x)) ∙ tab_at (Is F) (lit true) 0 m (at_left (Is F) 0 (tab (lit true) m) (parts_all cs m) parts_at) x h

  each_stood : (ds : List BTL) (b : ℕ) → All (Below m) ds → At (Is F) b (parts_all ds b) → Each (Stood m F) ds b
  each_stood [] b w s = tt
  each_stood (d ∷ ds) b w s = (
    (w.0, at_left (Is F) b (parts d) (parts_all ds (b + size d)) s),
    each_stood ds (b + size d) w.1 (at_right (Is F) b (b + size d) (parts d) (parts_all ds (b + size d)) (omega (arith, length_parts d)) s),
  )

  module _ (below : All (Below m) cs) where
    stood : Each (Stood m F) cs m
    stood = each_stood cs m below (at_right (Is F) 0 m (tab (lit true) m) (parts_all cs m) (omega (arith, length_tab (lit true) m)) parts_at)

    top_part : (ds : List BTL) (b : ℕ) → Each (Stood m F) ds b → (r : ℕ) → Memᴰ r (tops_all ds b) → Memᴰ (F r) ds
    top_part [] b k r i = absurd (Memᴰ.not-nil i)
    top_part (d ∷ ds) b k r i = go (Memᴰ.cases_cons i) (top_part ds (b + size d) k.1 r)
      where
        go : (r ≡ top_of d b) ⊎ Memᴰ r (tops_all ds (b + size d)) → (Memᴰ r (tops_all ds (b + size d)) → Memᴰ (F r) ds) → Memᴰ (F r) (d ∷ ds)
        go (inl e) f = Memᴰ.head (ap F e ∙ top_is m F signal_part d b k.0)
        go (inr j) f = Memᴰ.tail (f j)

    module _ (W : ℕ) (S : Marks) (h : History)
        (rules : (c : BTL) → Memᴰ c cs → (t : ℕ) → t < W → worth h c (pos t) ≡ true)
        (agree : (r t : ℕ) (v : Bool) → S (mark r t v) → worth h (F r) (pos t) ≡ v) where
      row_worthy : (r : ℕ) → Worthy (λ r t. worth h (F r) t) r (node (assembled m cs) r)
      row_worthy = every_row (Worthy (λ r t. worth h (F r) t)) (λ r. tt) m cs (all_along (worthy_along m F signal_part h) cs m stood)

      at_node : (r : ℕ) (n : Node) → node (assembled m cs) r ≡ n → Worthy (λ r t. worth h (F r) t) r n
      at_node r n e = subst (Worthy (λ r t. worth h (F r) t) r) e (row_worthy r)

      pub modelled : Model (assembled m cs) W S (λ r t. worth h (F r) (pos t))
      modelled = record {
        gates = λ r a b u e t. at_node r (gate u a b) e (pos t);
        looks = λ r k c e t s z. at_node r (look k c) e (pos t) ∙ ap (worth h (F c)) (moved_shifted t k s z);
        nots = λ r x e t. at_node r (not_of x) e (pos t);
        tops = λ r i t l. rules (F r) (top_part cs m stood r i) t l;
        starts = agree;
      }

module _ (s : Sheet) (declared : Declared s) (h : History) (obeys : Obeys s h) where
  obeyed : (c : BTL) → Memᴰ c (lows (formulas s)) → (t : ℕ) → t < s.window → worth h c (pos t) ≡ true
  obeyed c i t l =
      let f = Memᴰ.of_map (lowered true) (formulas s) i in
      ap (λ (d : BTL). worth h d (pos t)) (sym f.2) ∙ lowering_keeps h true f.0 (pos t) ∙ obeys f.0 f.1 t l

  -- A history that obeys the sheet and agrees with the start marks S, on whatever rows they are.
  module _ (S : Marks) (agrees : (r t : ℕ) (v : Bool) → S (mark r t v) → worth h (row_part s r) (pos t) ≡ v) where
    model : Model (program s) s.window S (λ r t. worth h (row_part s r) (pos t))
    model = modelled (signal_rows s) (lows (formulas s)) (sheet_below s declared) s.window S h obeyed agrees

    -- Every derived mark on a row is the value of what the row stands for.
    pub row_holds : (r t : ℕ) (v : Bool) → Leads s S (mark r t v) → worth h (row_part s r) (pos t) ≡ v
    row_holds r t v d = sound model d

    -- Hence a signal's marks are its values.
    pub signal_holds : (x t : ℕ) (v : Bool) → x < signal_rows s → Leads s S (mark x t v) → h x (pos t) ≡ v
    signal_holds x t v l d = ap (λ (c : BTL). worth h c (pos t)) (sym (signal_part (signal_rows s) (lows (formulas s)) x l)) ∙ row_holds x t v d

    -- A clash excludes every such history.
    pub clash_excludes : Clash (Leads s S) → ⊥
    clash_excludes c = no_clash model c
