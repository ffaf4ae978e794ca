-- Edges put into the lists of parents one after the other, and a list gone along.
-- Assumes nothing.
use mathlib.Core.Path.{◌≡◌, refl, sym, subst}
use mathlib.Core.List.{List}
use mathlib.Core.Logic.{◌⊎◌, inl, inr, ⊎_elim}
use Prim.Native.Nat.{ℕ, zero, suc, ◌+◌, ◌*◌, ◌/◌, ◌≤◌, ◌<◌}
use native.Mathlib.Decide.{ℕ_discrete}
use native.Mathlib.Omega.{arith}
use lib.ListN.{length, get_or, set, replicate, length-set}
use lib.Seq.{get_or-set_same, get_or-set_other}
use Rattle.spec_ticks.proofs.Bits.{lt_or_ge}
use Rattle.lower_rows.specs.RowCodes.{row_at}
use Rattle.close_parents.specs.Links.{Child, Reach, here, later, Falls, ends, goes, LinkedTo, Ended, Linked}

-- ---- along a list

-- The first edge's row, or the rest.
pub reach_next : (N : List ℕ) (h y : ℕ) → Reach N h y → (h / 2 ≡ y) ⊎ Reach N (get_or N h 0) y
reach_next N h y (here l p) = inl p
reach_next N h y (later l r) = inr r

pub reach_end : (N : List ℕ) (h y : ℕ) → h ≡ 0 → Reach N h y → ⊥
reach_end N h y e (here l p) = omega arith
reach_end N h y e (later l r) = omega arith

-- From an edge the list goes on lower.
pub falls_next : {N : List ℕ} {m h : ℕ} → 0 < h → Falls N m h → (h < m) × (get_or N h 0 < h) × Falls N m (get_or N h 0)
falls_next l (ends z) = absurd (omega arith)
falls_next l (goes k b f w) = (b, f, w)

falls_under : {N : List ℕ} {m h e : ℕ} → Falls N m h → m ≤ e → 0 < e → h < e
falls_under (ends z) l some = omega arith
falls_under (goes k b f w) l some = omega arith

-- A list stays where its edges do.
module _ (N N' : List ℕ) (m : ℕ) (same : (e : ℕ) → e < m → get_or N e 0 ≡ get_or N' e 0) where
  falls_kept : (m' : ℕ) → m ≤ m' → {h : ℕ} → Falls N m h → Falls N' m' h
  falls_kept m' l (ends z) = ends z
  falls_kept m' l {h} (goes k b f w) = goes k (omega arith) (omega (arith, same h b)) (subst (Falls N' m') (same h b) (falls_kept m' l w))

  reach_kept : {h y : ℕ} → Falls N m h → Reach N h y → Reach N' h y
  reach_kept w (here l p) = here l p
  reach_kept {h} {y} w (later l r) =
      let n = falls_next l w in
      later l (subst (λ (k : ℕ). Reach N' k y) (same h n.0) (reach_kept n.2 r))

-- ---- one edge more

-- The lists have the edges of the first m rows and of row m those to the rows C; their edges are below l.
pub record Linking (count : ℕ) (B H N : List ℕ) (m l : ℕ) (C : ℕ → Type 0) : Type 0 where
  pub starts : count ≤ length H
  pub edges : 2 * count ≤ length N
  pub falls : (x : ℕ) → x < count → Falls N l (get_or H x 0)
  pub reach : (x y : ℕ) → x < count → y < m → Child (row_at B y) x → Reach N (get_or H x 0) y
  pub new : (x : ℕ) → x < count → C x → Reach N (get_or H x 0) m

module _ (count : ℕ) (B : List ℕ) (m : ℕ) where
  pub linking_none : (H N : List ℕ) → LinkedTo count B H N m → Linking count B H N m (2 * m) (λ x. ⊥)
  linking_none H N p = record { starts = p.starts; edges = p.edges; falls = p.falls; reach = p.reach; new = λ x h k. absurd k }

  -- Row m is linked when each of its children has it in its list.
  pub linking_all : (H N : List ℕ) (l : ℕ) (C : ℕ → Type 0) → l ≤ 2 * (m + 1) → ((x : ℕ) → Child (row_at B m) x → C x) → Linking count B H N m l C → LinkedTo count B H N (m + 1)
  linking_all H N l C h f p = record {
    starts = p.starts;
    edges = p.edges;
    falls = λ x k. falls_kept N N l (λ e b. refl) (2 * (m + 1)) h (p.falls x k);
    reach = λ x y k b c. ⊎_elim (λ g. p.reach x y k g c)
        (λ g. let z : y ≡ m = omega arith in subst (Reach N (get_or H x 0)) (sym z) (p.new x k (f x (subst (λ (v : ℕ). Child (row_at B v) x) z c)))) (lt_or_ge y m);
  }

  -- Edge e of row m, put before row a's list.
  module _ (H N : List ℕ) (l : ℕ) (C : ℕ → Type 0) (a e : ℕ) (below : a < count) (some : 0 < e) (later_edge : l ≤ e) (mine : e / 2 ≡ m) (fits : e < 2 * count)
      (p : Linking count B H N m l C) (H' N' : List ℕ) (is-head : H' ≡ set H a e) (is-next : N' ≡ set N e (get_or H a 0)) where
    at_edge : get_or N' e 0 ≡ get_or H a 0
    at_edge = subst (λ (X : List ℕ). get_or X e 0 ≡ get_or H a 0) (sym is-next) (get_or-set_same N e (get_or H a 0) 0 (omega (arith, p.edges)))

    old_edge : (d : ℕ) → d < l → get_or N d 0 ≡ get_or N' d 0
    old_edge d b = subst (λ (X : List ℕ). get_or N d 0 ≡ get_or X d 0) (sym is-next) (sym (get_or-set_other N e d (get_or H a 0) 0 (λ q. omega (arith, q))))

    at_head : get_or H' a 0 ≡ e
    at_head = subst (λ (X : List ℕ). get_or X a 0 ≡ e) (sym is-head) (get_or-set_same H a e 0 (omega (arith, p.starts)))

    old_head : (x : ℕ) → (x ≡ a → ⊥) → get_or H x 0 ≡ get_or H' x 0
    old_head x f = subst (λ (X : List ℕ). get_or H x 0 ≡ get_or X x 0) (sym is-head) (sym (get_or-set_other H a x e 0 f))

    -- What was in a list is in it still.
    old : (x y : ℕ) → x < count → Reach N (get_or H x 0) y → Reach N' (get_or H' x 0) y
    old x y k r = go (ℕ_discrete x a)
      where
        kept : Reach N' (get_or H x 0) y
        kept = reach_kept N N' l old_edge (p.falls x k) r

        go : Dec (x ≡ a) → Reach N' (get_or H' x 0) y
        go (yes z) =
            subst (λ (v : ℕ). Reach N' (get_or H' v 0) y) (sym z)
            (subst (λ (v : ℕ). Reach N' v y) (sym at_head) (later some (subst (λ (v : ℕ). Reach N' v y) (sym at_edge) (subst (λ (v : ℕ). Reach N' (get_or H v 0) y) z kept))))
        go (no f) = subst (λ (v : ℕ). Reach N' v y) (old_head x f) kept

    falls_on : (x : ℕ) → x < count → Falls N' (e + 1) (get_or H' x 0)
    falls_on x k = go (ℕ_discrete x a)
      where
        kept : (z : ℕ) → z < count → Falls N' (e + 1) (get_or H z 0)
        kept z b = falls_kept N N' l old_edge (e + 1) (omega arith) (p.falls z b)

        before : (z : ℕ) → z < count → get_or H z 0 < e
        before z b = falls_under (p.falls z b) later_edge some

        go : Dec (x ≡ a) → Falls N' (e + 1) (get_or H' x 0)
        go (yes z) =
            subst (λ (v : ℕ). Falls N' (e + 1) (get_or H' v 0)) (sym z)
            (subst (Falls N' (e + 1)) (sym at_head) (goes some (omega arith) (subst (λ (v : ℕ). v < e) (sym at_edge) (before a below)) (subst (Falls N' (e + 1)) (sym at_edge) (kept a below))))
        go (no f) = subst (Falls N' (e + 1)) (old_head x f) (kept x k)

    pub linking_more : Linking count B H' N' m (e + 1) (λ x. C x ⊎ (x ≡ a))
    linking_more = record {
      starts = subst (λ (X : List ℕ). count ≤ length X) (sym is-head) (simp length-set p.starts);
      edges = subst (λ (X : List ℕ). 2 * count ≤ length X) (sym is-next) (simp length-set p.edges);
      falls = falls_on;
      reach = λ x y k b c. old x y k (p.reach x y k b c);
      new = λ x k. ⊎_elim (λ c. old x m k (p.new x k c)) (λ z. subst (λ (v : ℕ). Reach N' (get_or H' v 0) m) (sym z) (subst (λ (v : ℕ). Reach N' v m) (sym at_head) (here some mine)));
    }

-- ---- a row with no, one or two children

module _ (count : ℕ) (B : List ℕ) (r : ℕ) (H N : List ℕ) (l : r < count) (p : LinkedTo count B H N r) where
  start : Linking count B H N r (2 * r) (λ x. ⊥)
  start = linking_none count B r H N p

  pub link_none : ((x : ℕ) → Child (row_at B r) x → ⊥) → LinkedTo count B H N (r + 1)
  link_none f = linking_all count B r H N (2 * r) (λ x. ⊥) (omega arith) f start

  module _ (a : ℕ) (H' N' : List ℕ) (below : a < r) (is-head : H' ≡ set H a (2 * r)) (is-next : N' ≡ set N (2 * r) (get_or H a 0)) where
    first : Linking count B H' N' r (2 * r + 1) (λ x. ⊥ ⊎ (x ≡ a))
    first = linking_more count B r H N (2 * r) (λ x. ⊥) a (2 * r) (omega arith) (omega arith) (omega arith) (omega arith) (omega arith) start H' N' is-head is-next

    pub link_one : ((x : ℕ) → Child (row_at B r) x → x ≡ a) → LinkedTo count B H' N' (r + 1)
    link_one f = linking_all count B r H' N' (2 * r + 1) (λ x. ⊥ ⊎ (x ≡ a)) (omega arith) (λ x c. inr (f x c)) first

    pub link_two : (b : ℕ) (H'' N'' : List ℕ) → b < count → H'' ≡ set H' b (2 * r + 1) → N'' ≡ set N' (2 * r + 1) (get_or H' b 0)
        → ((x : ℕ) → Child (row_at B r) x → (x ≡ a) ⊎ (x ≡ b)) → LinkedTo count B H'' N'' (r + 1)
    link_two b H'' N'' k e g f =
        linking_all count B r H'' N'' (2 * r + 1 + 1) (λ x. (⊥ ⊎ (x ≡ a)) ⊎ (x ≡ b)) (omega arith) (λ x c. ⊎_elim (λ z. inl (inr z)) inr (f x c))
        (linking_more count B r H' N' (2 * r + 1) (λ x. ⊥ ⊎ (x ≡ a)) b (2 * r + 1) k (omega arith) (omega arith) (omega arith) (omega arith) first H'' N'' e g)

-- ---- the lists without an edge

-- Noughts at the start of every list: no row has one.
pub no_lists : (m x : ℕ) → get_or {A = ℕ} (replicate m 0) x 0 ≡ 0
no_lists zero x = refl
no_lists (suc m) zero = refl
no_lists (suc m) (suc x) = no_lists m x

pub linked_none : (count : ℕ) (B H N : List ℕ) → count ≤ length H → 2 * count ≤ length N → ((x : ℕ) → x < count → get_or H x 0 ≡ 0) → LinkedTo count B H N 0
linked_none count B H N h k f = record { starts = h; edges = k; falls = λ x l. ends (f x l); reach = λ x y l m c. absurd (omega arith) }

-- Lists that have every edge end.
pub ended : {count : ℕ} {B H N : List ℕ} → Linked count B H N → Ended count H N
ended k = (k.starts, k.edges, k.falls)
