-- Lowering relocates: a formula whose signals are renamed and whose rows start elsewhere has the same rows, renamed.
-- Assumes nothing but that a renaming fixes the declared signals where a rule's names are concerned.
use mathlib.Core.Path.{◌≡◌, refl, sym, ◌∙◌, ap, ap₂}
use mathlib.Core.Bool.{Bool, true, false, not}
use mathlib.Core.List.Memᴰ
use mathlib.Core.List.{List, [], ◌∷◌, ◌++◌, map, map-append, Memᴰ}
use mathlib.Core.Logic.{◌⊎◌, inl, inr}
use Prim.Native.Nat.{ℕ, zero, suc, ◌+◌, ◌<◌, ◌≤◌}
use native.Mathlib.Omega.{arith}
use Rattle.spec_tilco.specs.Lists.{total}
use Rattle.spec_tilco.specs.Formula.{Op, And, Or, Implies, Iff, Written, Formula, sig, hiddens, over_signals, defining, definings, spelled, Named}
use Rattle.spec_tilco.specs.Inference.{Node, signal, not_of, gate, look}
use Rattle.spec_tilco.specs.Lowering.{BTL, lit, join, timed, turn, paired, lowered, size, joined, top_of, rows_of, rows_all, tops_all, lows}
use Rattle.spec_tilco.proofs.At.{At, at_left, at_right, Joined, at_joined, Timed, at_timed}
use Rattle.spec_tilco.proofs.Rows.{length_rows, Along, Each, all_along}

-- What a row is among the nodes N of another program, where f says which row it is there; nothing is said of a signal.
abbrev pub Kept : (ℕ → ℕ) → (ℕ → Node) → ℕ → Node → Type 0
Kept f N r signal = Unit {0}
Kept f N r (not_of x) = N (f r) ≡ not_of (f x)
Kept f N r (gate u a b) = N (f r) ≡ gate u (f a) (f b)
Kept f N r (look k c) = N (f r) ≡ look k (f c)

-- The n rows from b on go to those from d on.
abbrev pub Slides : (ℕ → ℕ) → ℕ → ℕ → ℕ → Type 0
Slides f b d n = (i : ℕ) → i < n → f (b + i) ≡ d + i

-- the row at b + i, and a run of them, by whatever sums they are written
slide : (f : ℕ → ℕ) (b d n : ℕ) → Slides f b d n → (r q i : ℕ) → i < n → r ≡ b + i → q ≡ d + i → f r ≡ q
slide f b d n S r q i h e e' = ap f e ∙ S i h ∙ sym e'

run : (f : ℕ → ℕ) (b d n : ℕ) → Slides f b d n → (b' d' k n' : ℕ) → b' ≡ b + k → d' ≡ d + k → k + n' ≤ n → Slides f b' d' n'
run f b d n S b' d' k n' e e' h i l = slide f b d n S (b' + i) (d' + i) (k + i) (omega arith) (omega arith) (omega arith)

module _ (f : ℕ → ℕ) where
  abbrev pub ren_f : Formula → Formula
  ren_f (Formula.sig x) = sig (f x)
  ren_f (Formula.neg g) = Formula.neg (ren_f g)
  ren_f (Formula.pair o g k) = Formula.pair o (ren_f g) (ren_f k)
  ren_f (Formula.time u lo n g) = Formula.time u lo n (ren_f g)

  abbrev pub ren_b : BTL → BTL
  ren_b (lit s x) = lit s (f x)
  ren_b (join u a b) = join u (ren_b a) (ren_b b)
  ren_b (timed u lo n a) = timed u lo n (ren_b a)

  paired_ren : (o : Op) (s : Bool) (g k g' k' : Bool → BTL) → ((z : Bool) → g' z ≡ ren_b (g z)) → ((z : Bool) → k' z ≡ ren_b (k z)) → paired o s g' k' ≡ ren_b (paired o s g k)
  paired_ren And s g k g' k' p q = ap₂ (join s) (p s) (q s)
  paired_ren Or s g k g' k' p q = ap₂ (join (not s)) (p s) (q s)
  paired_ren Implies s g k g' k' p q = ap₂ (join (not s)) (p (not s)) (q s)
  paired_ren Iff s g k g' k' p q = ap₂ (join s) (ap₂ (join (not s)) (p (not s)) (q s)) (ap₂ (join (not s)) (q (not s)) (p s))

  lowered_ren : (s : Bool) (g : Formula) → lowered s (ren_f g) ≡ ren_b (lowered s g)
  lowered_ren s (Formula.sig x) = refl
  lowered_ren s (Formula.neg g) = lowered_ren (not s) g
  lowered_ren s (Formula.pair o g k) =
      paired_ren o s (λ z. lowered z g) (λ z. lowered z k) (λ z. lowered z (ren_f g)) (λ z. lowered z (ren_f k)) (λ z. lowered_ren z g) (λ z. lowered_ren z k)
  lowered_ren s (Formula.time u lo n g) = ap (timed (turn u s) lo n) (lowered_ren s g)

  size_ren : (c : BTL) → size (ren_b c) ≡ size c
  size_ren (lit true x) = refl
  size_ren (lit false x) = refl
  size_ren (join u a b) = omega (arith, size_ren a, size_ren b)
  size_ren (timed u lo n a) = omega (arith, size_ren a)

  joined_ren : (u : Bool) (lo n : ℕ) (a : BTL) (b d : ℕ) → Slides f b d (size (timed u lo n a)) → (j : ℕ) → j < suc n
      → joined (d + size (ren_b a)) (d + size (ren_b a) + suc n) j ≡ f (joined (b + size a) (b + size a + suc n) j)
  joined_ren u lo n a b d S zero h = sym (slide f b d (size (timed u lo n a)) S _ _ (size a) (omega arith) (omega arith) (omega (arith, size_ren a)))
  joined_ren u lo n a b d S (suc j) h = sym (slide f b d (size (timed u lo n a)) S _ _ (size a + suc n + j) (omega arith) (omega arith) (omega (arith, size_ren a)))

  top_ren : (c : BTL) (b d : ℕ) → Slides f b d (size c) → top_of (ren_b c) d ≡ f (top_of c b)
  top_ren (lit true x) b d S = refl
  top_ren (lit false x) b d S = sym (slide f b d 1 S b d 0 (omega arith) (omega arith) (omega arith))
  top_ren (join u a c) b d S =
      sym (slide f b d (size a + size c + 1) S _ _ (size a + size c) (omega arith) (omega arith) (omega (arith, size_ren a, size_ren c)))
  top_ren (timed u lo n a) b d S = joined_ren u lo n a b d S n (omega arith)

  module _ (N : ℕ → Node) where
    abbrev Is : ℕ → Node → Type 0
    Is r x = N r ≡ x

    -- The formula's rows from b on go to rows that are there, of the renamed formula.
    pub record There (c : BTL) (b : ℕ) : Type 0 where
      pub to : ℕ
      pub slides : Slides f b to (size c)
      pub rows : At Is to (rows_of (ren_b c) to)

    left_slides : (u : Bool) (a c : BTL) (b d : ℕ) → Slides f b d (size (join u a c)) → Slides f b d (size a)
    left_slides u a c b d S = run f b d (size a + size c + 1) S b d 0 (size a) (omega arith) (omega arith) (omega arith)

    right_slides : (u : Bool) (a c : BTL) (b d : ℕ) → Slides f b d (size (join u a c)) → Slides f (b + size a) (d + size (ren_b a)) (size c)
    right_slides u a c b d S = run f b d (size a + size c + 1) S (b + size a) (d + size (ren_b a)) (size a) (size c) (omega arith) (omega (arith, size_ren a)) (omega arith)

    child_slides : (u : Bool) (lo n : ℕ) (a : BTL) (b d : ℕ) → Slides f b d (size (timed u lo n a)) → Slides f b d (size a)
    child_slides u lo n a b d S = run f b d (size a + suc n + n) S b d 0 (size a) (omega arith) (omega arith) (omega arith)

    abbrev Halves : Bool → BTL → BTL → ℕ → Type 0
    Halves u a c d = Joined Is d (size (ren_b a)) (size (ren_b c)) (rows_of (ren_b a) d) (rows_of (ren_b c) (d + size (ren_b a))) (gate u (top_of (ren_b a) d) (top_of (ren_b c) (d + size (ren_b a))))

    halves : (u : Bool) (a c : BTL) (d : ℕ) → At Is d (rows_of (ren_b (join u a c)) d) → Halves u a c d
    halves u a c d s = at_joined Is d (size (ren_b a)) (size (ren_b c)) _ _ _ (length_rows (ren_b a) d) (length_rows (ren_b c) (d + size (ren_b a))) s

    abbrev Looked : Bool → ℕ → ℕ → BTL → ℕ → Type 0
    Looked u lo n a d =
        Timed Is d (size (ren_b a)) n (rows_of (ren_b a) d) (λ j. look (lo + j) (top_of (ren_b a) d))
        (λ j. gate u (joined (d + size (ren_b a)) (d + size (ren_b a) + suc n) j) (d + size (ren_b a) + suc j))

    looked : (u : Bool) (lo n : ℕ) (a : BTL) (d : ℕ) → At Is d (rows_of (ren_b (timed u lo n a)) d) → Looked u lo n a d
    looked u lo n a d s =
        at_timed Is d (size (ren_b a)) n (rows_of (ren_b a) d) (λ j. look (lo + j) (top_of (ren_b a) d))
        (λ j. gate u (joined (d + size (ren_b a)) (d + size (ren_b a) + suc n) j) (d + size (ren_b a) + suc j)) (length_rows (ren_b a) d) s

    kept_along : Along There (Kept f N)
    kept_along = record {
      left = λ u a c b k. record { to = k.to; slides = left_slides u a c b k.to k.slides; rows = (halves u a c k.to k.rows).left };
      right = λ u a c b k. record { to = k.to + size (ren_b a); slides = right_slides u a c b k.to k.slides; rows = (halves u a c k.to k.rows).right };
      child = λ u lo n a b k. record { to = k.to; slides = child_slides u lo n a b k.to k.slides; rows = (looked u lo n a k.to k.rows).child };
      nots = λ x b k. ap N (slide f b k.to 1 k.slides b k.to 0 (omega arith) (omega arith) (omega arith)) ∙ k.rows.0;
      joins = λ u a c b k. ap N (sym (top_ren (join u a c) b k.to k.slides)) ∙ (halves u a c k.to k.rows).last
          ∙ ap₂ (gate u) (top_ren a b k.to (left_slides u a c b k.to k.slides)) (top_ren c (b + size a) (k.to + size (ren_b a)) (right_slides u a c b k.to k.slides));
      looks = λ u lo n a b k j h. ap N (slide f b k.to (size a + suc n + n) k.slides _ _ (size a + j) (omega arith) (omega arith) (omega (arith, size_ren a)))
          ∙ (looked u lo n a k.to k.rows).looks j h ∙ ap (look (lo + j)) (top_ren a b k.to (child_slides u lo n a b k.to k.slides));
      ties = λ u lo n a b k j h. ap N (slide f b k.to (size a + suc n + n) k.slides _ _ (size a + suc n + j) (omega arith) (omega arith) (omega (arith, size_ren a)))
          ∙ (looked u lo n a k.to k.rows).ties j h
          ∙ ap₂ (gate u) (joined_ren u lo n a b k.to k.slides j (omega arith)) (sym (slide f b k.to (size a + suc n + n) k.slides _ _ (size a + suc j) (omega arith) (omega arith) (omega (arith, size_ren a))));
    }

    each_there : (cs : List BTL) (b d : ℕ) → Slides f b d (total size cs) → At Is d (rows_all (map ren_b cs) d) → Each There cs b
    each_there [] b d S s = tt
    each_there (c ∷ cs) b d S s = (
      record { to = d; slides = run f b d (size c + total size cs) S b d 0 (size c) (omega arith) (omega arith) (omega arith); rows = at_left Is d (rows_of (ren_b c) d) (rows_all (map ren_b cs) (d + size (ren_b c))) s },
      each_there cs (b + size c) (d + size (ren_b c))
          (run f b d (size c + total size cs) S (b + size c) (d + size (ren_b c)) (size c) (total size cs) (omega arith) (omega (arith, size_ren c)) (omega arith))
          (at_right Is d (d + size (ren_b c)) (rows_of (ren_b c) d) (rows_all (map ren_b cs) (d + size (ren_b c))) (omega (arith, length_rows (ren_b c) d)) s),
    )

    -- The rows of a list of formulas are kept.
    pub rows_kept : (cs : List BTL) (b d : ℕ) → Slides f b d (total size cs) → At Is d (rows_all (map ren_b cs) d) → At (Kept f N) b (rows_all cs b)
    rows_kept cs b d S s = all_along kept_along cs b (each_there cs b d S s)

  -- And so are their tops.
  pub tops_kept : (cs : List BTL) (b d : ℕ) → Slides f b d (total size cs) → (r : ℕ) → Memᴰ r (tops_all cs b) → Memᴰ (f r) (tops_all (map ren_b cs) d)
  tops_kept [] b d S r i = absurd (Memᴰ.not-nil i)
  tops_kept (c ∷ cs) b d S r i =
      go (Memᴰ.cases_cons i)
      (tops_kept cs (b + size c) (d + size (ren_b c))
      (run f b d (size c + total size cs) S (b + size c) (d + size (ren_b c)) (size c) (total size cs) (omega arith) (omega (arith, size_ren c)) (omega arith)) r)
    where
      go : (r ≡ top_of c b) ⊎ Memᴰ r (tops_all cs (b + size c)) → (Memᴰ r (tops_all cs (b + size c)) → Memᴰ (f r) (tops_all (map ren_b cs) (d + size (ren_b c)))) → Memᴰ (f r) (tops_all (map ren_b (c ∷ cs)) d)
      go (inl e) k = Memᴰ.head (ap f e ∙ sym (top_ren c b d (run f b d (size c + total size cs) S b d 0 (size c) (omega arith) (omega arith) (omega arith))))
      go (inr j) k = Memᴰ.tail (k j)

  -- ---- a rule whose hidden signals are numbered from y and not from x is the rule renamed

  first : (x y k : ℕ) → Slides f x y (suc k) → y ≡ f x
  first x y k S = sym (slide f x y (suc k) S x y 0 (omega arith) (omega arith) (omega arith))

  inner : (x y k : ℕ) → Slides f x y (suc k) → Slides f (suc x) (suc y) k
  inner x y k S = run f x y (suc k) S (suc x) (suc y) 1 k (omega arith) (omega arith) (omega arith)

  left : (x y k l : ℕ) → Slides f x y (k + l) → Slides f x y k
  left x y k l S = run f x y (k + l) S x y 0 k (omega arith) (omega arith) (omega arith)

  right : (x y k l : ℕ) → Slides f x y (k + l) → Slides f (x + k) (y + k) l
  right x y k l S = run f x y (k + l) S (x + k) (y + k) k l (omega arith) (omega arith) (omega arith)

  module _ (n : ℕ) (fixed : (i : ℕ) → i < n → f i ≡ i) where
    plain_ren : (x y : ℕ) (w : Written) → Named n w → Slides f x y (hiddens w) → over_signals y w ≡ ren_f (over_signals x w)
    plain_ren x y (Written.name z) d S = ap sig (sym (fixed z d))
    plain_ren x y (Written.neg g) d S = ap Formula.neg (plain_ren x y g d S)
    plain_ren x y (Written.pair o g k) d S =
        ap₂ (Formula.pair o) (plain_ren x y g d.0 (left x y (hiddens g) (hiddens k) S)) (plain_ren (x + hiddens g) (y + hiddens g) k d.1 (right x y (hiddens g) (hiddens k) S))
    plain_ren x y (Written.time u lo m g) d S = ap (Formula.time u lo m) (plain_ren x y g d S)
    plain_ren x y (Written.keep b g k) d S = ap sig (first x y (hiddens g + hiddens k) S)

    defining_ren : (b : Bool) (x y : ℕ) (g g' k k' : Formula) → y ≡ f x → g' ≡ ren_f g → k' ≡ ren_f k → defining b y g' k' ≡ ren_f (defining b x g k)
    defining_ren b x y g g' k k' e p q = cc

    append_ren : (x y : ℕ) (g k : Written) → definings y g ≡ map ren_f (definings x g) → definings (y + hiddens g) k ≡ map ren_f (definings (x + hiddens g) k)
        → definings y g ++ definings (y + hiddens g) k ≡ map ren_f (definings x g ++ definings (x + hiddens g) k)
    append_ren x y g k p q = ap₂ (λ (u v : List Formula). u ++ v) p q ∙ sym (map-append ren_f (definings x g) (definings (x + hiddens g) k))

    definings_ren : (x y : ℕ) (w : Written) → Named n w → Slides f x y (hiddens w) → definings y w ≡ map ren_f (definings x w)
    definings_ren x y (Written.name z) d S = refl
    definings_ren x y (Written.neg g) d S = definings_ren x y g d S
    definings_ren x y (Written.pair o g k) d S =
        append_ren x y g k (definings_ren x y g d.0 (left x y (hiddens g) (hiddens k) S)) (definings_ren (x + hiddens g) (y + hiddens g) k d.1 (right x y (hiddens g) (hiddens k) S))
    definings_ren x y (Written.time u lo m g) d S = definings_ren x y g d S
    definings_ren x y (Written.keep b g k) d S =
        let I : Slides f (suc x) (suc y) (hiddens g + hiddens k) = inner x y (hiddens g + hiddens k) S in
        let L : Slides f (suc x) (suc y) (hiddens g) = left (suc x) (suc y) (hiddens g) (hiddens k) I in
        let R : Slides f (suc x + hiddens g) (suc y + hiddens g) (hiddens k) = right (suc x) (suc y) (hiddens g) (hiddens k) I in
        ap₂ (λ (e : Formula) (l : List Formula). e ∷ l)
        (defining_ren b x y (over_signals (suc x) g) _ (over_signals (suc x + hiddens g) k) _ (first x y (hiddens g + hiddens k) S) (plain_ren (suc x) (suc y) g d.0 L) (plain_ren (suc x + hiddens g) (suc y + hiddens g) k d.1 R))
        (append_ren (suc x) (suc y) g k (definings_ren (suc x) (suc y) g d.0 L) (definings_ren (suc x + hiddens g) (suc y + hiddens g) k d.1 R))

    lows_ren : (gs : List Formula) → lows (map ren_f gs) ≡ map ren_b (lows gs)
    lows_ren [] = refl
    lows_ren (g ∷ gs) = ap₂ (λ (c : BTL) (l : List BTL). c ∷ l) (lowered_ren true g) (lows_ren gs)

    -- The rule with its defining rules, lowered.
    pub rule_ren : (x y : ℕ) (w : Written) → Named n w → Slides f x y (hiddens w) → lows (spelled w y) ≡ map ren_b (lows (spelled w x))
    rule_ren x y w d S =
        ap lows (ap₂ (λ (e : Formula) (l : List Formula). e ∷ l) (plain_ren x y w d S) (definings_ren x y w d S)) ∙ lows_ren (spelled w x)
