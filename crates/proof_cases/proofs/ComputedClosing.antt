-- A step of the proof: a closing that the checker computes, for windows up to 64 ticks. What it reaches is derived, and a test says that it is all.
-- Assumes nothing.
use mathlib.Core.Path.{◌≡◌, refl, sym, ◌∙◌, ap, subst}
use mathlib.Core.Bool.{Bool, true, false, not, ◌&&◌, ◌||◌}
use mathlib.Core.List.Memᴰ
use mathlib.Core.List.{List, [], ◌∷◌, ◌++◌, Memᴰ}
use mathlib.Core.Logic.{◌⊎◌, inl, inr, ⊎_elim, ◌↔◌}
use Prim.Native.Nat.{ℕ, zero, suc, ◌+◌, ◌-◌, ◌^◌, ◌<◌, ◌≤◌}
use native.Mathlib.Nat.{zero-add}
use native.Mathlib.Decide.{ℕ_discrete, dec_lt}
use native.Mathlib.Omega.{arith}
use lib.Bits.{bit_or}
use lib.Dec.{T, eqb, eqb→eq, leb, ltb, leb→le, ltb→lt, le→leb, lt→ltb}
use lib.ListN.{length, get_or, set}
use lib.Pow.{pow_pos}
use lib.Seq.{get_or-set_same, get_or-set_other, set_out}
use Rattle.spec_ticks.specs.Ticks.{bit, Has, block}
use Rattle.spec_ticks.proofs.Bits.{has_below, or_out}
use Rattle.spec_ticks.proofs.Shifts.{one_only}
use Rattle.spec_ticks.proofs.Tables.{block_apart}
use Rattle.spec_tilco.specs.Lists.{All, tab}
use Rattle.spec_tilco.specs.Inference.{Node, signal, not_of, gate, look, Program, node, Mark, mark, Marks, Shifted, down_left, down_right, up_left, up_right, look_down, look_up, not_down, not_up, up_both, rest_right, rest_left, Derives, top, one, two}
use Rattle.spec_tilco.proofs.Lists.{all_append, all_left, all_right, all_of_lem, all_at, all_weaker}
use Rattle.spec_tilco.proofs.At.{At, at_get_d, at_self}
use Rattle.spec_tilco.proofs.Closing.{SettledAt, finished}

-- ---- tests

pub and_left : (a b : Bool) → T (a && b) → T a
and_left true b t = tt
and_left false b t = t

pub and_right : (a b : Bool) → T (a && b) → T b
and_right true b t = t
and_right false b t = absurd t

pub both_so : (a b : Bool) → T a → T b → T (a && b)
both_so true b i j = j
both_so false b i j = i

module _ {A : Type 0} (p : A → Bool) where
  -- p is true of each entry
  abbrev pub all_of : List A → Bool
  all_of [] = true
  all_of (x ∷ xs) = p x && all_of xs

  pub all_of_all : (xs : List A) → T (all_of xs) → All (λ x. T (p x)) xs
  all_of_all [] t = tt
  all_of_all (x ∷ xs) t = (and_left (p x) (all_of xs) t, all_of_all xs (and_right (p x) (all_of xs) t))

-- f is true at some number below n
abbrev pub some_below : (ℕ → Bool) → ℕ → Bool
some_below f zero = false
some_below f (suc n) = f n || some_below f n

module _ (f : ℕ → Bool) where
  pub some_found : (n : ℕ) → T (some_below f n) → (k : ℕ) × T (f k)
  some_found zero t = absurd t
  some_found (suc n) t = go (f n) refl t (some_found n)
    where
      go : (b : Bool) → f n ≡ b → T (b || some_below f n) → (T (some_below f n) → (k : ℕ) × T (f k)) → (k : ℕ) × T (f k)
      go true e t k = (n, subst T (sym e) tt)
      go false e t k = k t

  pub found_some : (n k : ℕ) → k < n → T (f k) → T (some_below f n)
  found_some zero k h t = absurd (omega arith)
  found_some (suc n) k h t = go (ℕ_discrete k n) (λ l. found_some n k l t)
    where
      or_left : (a b : Bool) → T a → T (a || b)
      or_left true b i = tt
      or_left false b i = absurd i

      or_right : (a b : Bool) → T b → T (a || b)
      or_right true b i = tt
      or_right false b i = i

      go : Dec (k ≡ n) → (k < n → T (some_below f n)) → T (f n || some_below f n)
      go (yes e) g = or_left (f n) (some_below f n) (subst (λ (x : ℕ). T (f x)) e t)
      go (no e) g = or_right (f n) (some_below f n) (g (omega arith))

-- ---- marks in a table of one word a row and value

abbrev pub Plain : List ℕ → Marks
Plain U (mark r t v) = Has (get_or U (block r v) 0) t

abbrev pub stands : List ℕ → Mark → Bool
stands U (mark r t v) = eqb (bit (get_or U (block r v) 0) t) 1

pub stands_is : (U : List ℕ) (m : Mark) → T (stands U m) → Plain U m
stands_is U (mark r t v) i = eqb→eq (bit (get_or U (block r v) 0) t) 1 i

pub is_stands : (U : List ℕ) (m : Mark) → Plain U m → T (stands U m)
is_stands U (mark r t v) i = subst (λ (x : ℕ). T (eqb x 1)) (sym i) tt

abbrev put : Mark → List ℕ → List ℕ
put (mark r t v) U = set U (block r v) (bit_or (get_or U (block r v) 0) (2 ^ t))

put_only : (m : Mark) (U : List ℕ) (n : Mark) → Plain (put m U) n → (n ≡ m) ⊎ Plain U n
put_only (mark r t v) U (mark q s u) e = go (ℕ_discrete (block q u) (block r v)) (dec_lt (block r v) (length U))
  where
    i : ℕ
    i = block r v

    w : ℕ
    w = bit_or (get_or U i 0) (2 ^ t)

    found : block q u ≡ i → Has (get_or U i 0) s ⊎ Has (2 ^ t) s → (mark q s u ≡ mark r t v) ⊎ Has (get_or U (block q u) 0) s
    found z (inl d) = inr (ap (λ (x : ℕ). bit (get_or U x 0) s) z ∙ d)
    found z (inr d) = let p = block_apart q r u v z in inl (λ j. mark (p.0 j) (one_only t s d j) (p.1 j))

    go : Dec (block q u ≡ i) → Dec (i < length U) → (mark q s u ≡ mark r t v) ⊎ Has (get_or U (block q u) 0) s
    go (no z) l = inr (ap (λ (x : ℕ). bit x s) (sym (get_or-set_other U i (block q u) w 0 z)) ∙ e)
    go (yes z) (no l) = inr (ap (λ (x : List ℕ). bit (get_or x (block q u) 0) s) (sym (set_out U i w (omega arith))) ∙ e)
    go (yes z) (yes l) =
        found z (or_out (get_or U i 0) (2 ^ t) s (ap (λ (x : ℕ). bit x s) (sym (get_or-set_same U i w 0 l)) ∙ ap (λ (x : ℕ). bit (get_or (set U i w) x 0) s) (sym z) ∙ e))

-- ---- the rules as a list

-- Two premises and a conclusion; a rule with one premise names it twice.
pub data Step : Type 0 where
  step : Mark → Mark → Mark → Step

abbrev pub Follows : Marks → Step → Type 0
Follows D (step p q m) = D p → D q → D m

abbrev look_at : Bool → ℕ → ℕ → ℕ → ℕ → List Step
look_at false r c t s = []
look_at true r c t s =
    step (mark r t true) (mark r t true) (mark c s true) ∷ step (mark r t false) (mark r t false) (mark c s false)
    ∷ step (mark c s true) (mark c s true) (mark r t true) ∷ step (mark c s false) (mark c s false) (mark r t false) ∷ []

abbrev steps_at : ℕ → ℕ → Node → ℕ → List Step
steps_at W r signal t = []
steps_at W r (not_of x) t =
    step (mark r t true) (mark r t true) (mark x t false) ∷ step (mark r t false) (mark r t false) (mark x t true)
    ∷ step (mark x t true) (mark x t true) (mark r t false) ∷ step (mark x t false) (mark x t false) (mark r t true) ∷ []
steps_at W r (gate u a b) t =
    step (mark r t u) (mark r t u) (mark a t u) ∷ step (mark r t u) (mark r t u) (mark b t u) ∷ step (mark a t u) (mark b t u) (mark r t u)
    ∷ step (mark a t (not u)) (mark a t (not u)) (mark r t (not u)) ∷ step (mark b t (not u)) (mark b t (not u)) (mark r t (not u))
    ∷ step (mark r t (not u)) (mark a t u) (mark b t (not u)) ∷ step (mark r t (not u)) (mark b t u) (mark a t (not u)) ∷ []
steps_at W r (look k c) t = look_at (leb 64 (t + k) && ltb (t + k - 64) W) r c t (t + k - 64)

-- at the ticks below k of one row, and at all rows
abbrev steps_of : ℕ → ℕ → Node → ℕ → List Step
steps_of W r n zero = []
steps_of W r n (suc t) = steps_at W r n t ++ steps_of W r n t

abbrev pub steps_all : ℕ → ℕ → List Node → List Step
steps_all W r [] = []
steps_all W r (n ∷ ns) = steps_of W r n W ++ steps_all W (suc r) ns

-- the tops at every tick
abbrev top_marks : ℕ → List ℕ → List Mark
top_marks W [] = []
top_marks W (r ∷ rs) = tab (λ t. mark r t true) W ++ top_marks W rs

abbrev pub start_marks : Program → ℕ → List Mark → List Mark
start_marks P W R = R ++ top_marks W P.tops

-- ---- the closing, and the test that nothing is left to do

abbrev put_all : List Mark → List ℕ → List ℕ
put_all [] U = U
put_all (m ∷ ms) U = put_all ms (put m U)

abbrev put_if : Bool → Mark → List ℕ → List ℕ
put_if true m U = put m U
put_if false m U = U

abbrev use_all : List Step → List ℕ → List ℕ
use_all [] U = U
use_all (step p q m ∷ is) U = use_all is (put_if (stands U p && stands U q) m U)

abbrev passes : ℕ → List Step → List ℕ → List ℕ
passes zero is U = U
passes (suc k) is U = passes k is (use_all is U)

abbrev pub closing : ℕ → Program → ℕ → List Mark → List ℕ → List ℕ
closing k P W R U = passes k (steps_all W 0 P.rows) (put_all (start_marks P W R) U)

abbrev follows : List ℕ → Step → Bool
follows U (step p q m) = not (stands U p && stands U q) || stands U m

-- no mark past the window, every start mark stands, and no rule adds one
abbrev pub closed : Program → ℕ → List Mark → List ℕ → Bool
closed P W R U = all_of (λ w. ltb w (2 ^ W)) U && (all_of (stands U) (start_marks P W R) && all_of (follows U) (steps_all W 0 P.rows))

-- ---- what it reaches is derived

module _ (P : Program) (W : ℕ) (S : Marks) where
  abbrev D : Marks
  D = Derives P W S

  look_sound : (r k c t : ℕ) → node P r ≡ look k c → t < W → (b : Bool) → (T b → T (leb 64 (t + k) && ltb (t + k - 64) W)) → All (Follows D) (look_at b r c t (t + k - 64))
  look_sound r k c t e l false f = tt
  look_sound r k c t e l true f =
      let low : 64 ≤ t + k = leb→le 64 (t + k) (and_left (leb 64 (t + k)) (ltb (t + k - 64) W) (f tt)) in
      let high : t + k - 64 < W = ltb→lt (t + k - 64) W (and_right (leb 64 (t + k)) (ltb (t + k - 64) W) (f tt)) in
      let z : Shifted t k (t + k - 64) = omega arith in
      (λ d d'. one (look_down e z l high) d, (λ d d'. one (look_down e z l high) d, (λ d d'. one (look_up e z l high) d, (λ d d'. one (look_up e z l high) d, tt))))

  steps_sound : (r t : ℕ) (n : Node) → node P r ≡ n → t < W → All (Follows D) (steps_at W r n t)
  steps_sound r t signal e l = tt
  steps_sound r t (not_of x) e l =
      (λ d d'. one (not_down e) d, (λ d d'. one (not_down e) d, (λ d d'. one (not_up e) d, (λ d d'. one (not_up e) d, tt))))
  steps_sound r t (gate u a b) e l = (
    λ d d'. one (down_left e) d,
    (
      λ d d'. one (down_right e) d,
      (
        λ d d'. two (up_both e) d d',
        (
          λ d d'. one (up_left e) d,
          (
            λ d d'. one (up_right e) d,
            (λ d d'. two (rest_right e) d d', (λ d d'. two (rest_left e) d d', tt)),
          ),
        ),
      ),
    ),
  )
  steps_sound r t (look k c) e l = look_sound r k c t e l (leb 64 (t + k) && ltb (t + k - 64) W) (λ i. i)

  row_sound : (r : ℕ) (n : Node) → node P r ≡ n → (k : ℕ) → k ≤ W → All (Follows D) (steps_of W r n k)
  row_sound r n e zero l = tt
  row_sound r n e (suc t) l = all_append (Follows D) (steps_at W r n t) (steps_of W r n t) (steps_sound r t n e l) (row_sound r n e t (omega arith))

  rows_sound : (r : ℕ) (ns : List Node) → At (λ r n. node P r ≡ n) r ns → All (Follows D) (steps_all W r ns)
  rows_sound r [] s = tt
  rows_sound r (n ∷ ns) s = all_append (Follows D) (steps_of W r n W) (steps_all W (suc r) ns) (row_sound r n s.0 W (omega arith)) (rows_sound (suc r) ns s.1)

  all_sound : All (Follows D) (steps_all W 0 P.rows)
  all_sound = rows_sound 0 P.rows (at_self signal (node P) 0 P.rows (λ i h. ap (node P) (zero-add i)))

  ticks_derived : (r : ℕ) → ((t : ℕ) → t < W → D (mark r t true)) → (f : ℕ → ℕ) (n : ℕ) → ((j : ℕ) → j < n → f j < W) → All D (tab (λ t. mark r (f t) true) n)
  ticks_derived r d f zero l = tt
  ticks_derived r d f (suc n) l = (d (f 0) (l 0 (omega arith)), ticks_derived r d (λ k. f (suc k)) n (λ j h. l (suc j) (omega arith)))

  tops_derived : (rs : List ℕ) → ((r : ℕ) → Memᴰ r rs → Memᴰ r P.tops) → All D (top_marks W rs)
  tops_derived [] f = tt
  tops_derived (r ∷ rs) f =
      all_append D (tab (λ t. mark r t true) W) (top_marks W rs) (ticks_derived r (λ t l. top (f r (Memᴰ.head refl)) l) (λ t. t) W (λ j h. h))
      (tops_derived rs (λ q i. f q (Memᴰ.tail i)))

  -- every mark of the table is derived
  abbrev Only : List ℕ → Type 0
  Only U = (n : Mark) → Plain U n → D n

  put_derived : (m : Mark) (U : List ℕ) → D m → Only U → Only (put m U)
  put_derived m U d o n e = ⊎_elim (λ z. subst D (sym z) d) (o n) (put_only m U n e)

  put_all_derived : (ms : List Mark) (U : List ℕ) → All D ms → Only U → Only (put_all ms U)
  put_all_derived [] U d o = o
  put_all_derived (m ∷ ms) U d o = put_all_derived ms (put m U) d.1 (put_derived m U d.0 o)

  put_if_derived : (b : Bool) (m : Mark) (U : List ℕ) → (T b → D m) → Only U → Only (put_if b m U)
  put_if_derived true m U d o = put_derived m U (d tt) o
  put_if_derived false m U d o = o

  use_all_derived : (is : List Step) (U : List ℕ) → All (Follows D) is → Only U → Only (use_all is U)
  use_all_derived [] U w o = o
  use_all_derived (step p q m ∷ is) U w o =
      use_all_derived is (put_if (stands U p && stands U q) m U) w.1
      (put_if_derived (stands U p && stands U q) m U
      (λ i. w.0 (o p (stands_is U p (and_left (stands U p) (stands U q) i))) (o q (stands_is U q (and_right (stands U p) (stands U q) i)))) o)

  passes_derived : (k : ℕ) (U : List ℕ) → Only U → Only (passes k (steps_all W 0 P.rows) U)
  passes_derived zero U o = o
  passes_derived (suc k) U o = passes_derived k (use_all (steps_all W 0 P.rows) U) (use_all_derived (steps_all W 0 P.rows) U all_sound o)

  pub closing_derived : (k : ℕ) (R : List Mark) (U : List ℕ) → ((m : Mark) → Memᴰ m R → D m) → Only U → Only (closing k P W R U)
  closing_derived k R U d o =
      passes_derived k (put_all (start_marks P W R) U)
      (put_all_derived (start_marks P W R) U (all_append D R (top_marks W P.tops) (all_of_lem D R d) (tops_derived P.tops (λ r i. i))) o)

-- ---- and where the test passes, it is all

pub inside_word : (W : ℕ) (U : List ℕ) → All (λ w. T (ltb w (2 ^ W))) U → (i : ℕ) → get_or U i 0 < 2 ^ W
inside_word W [] a i = pow_pos W
inside_word W (w ∷ ws) a zero = ltb→lt w (2 ^ W) a.0
inside_word W (w ∷ ws) a (suc i) = inside_word W ws a.1 i

all_tab : {A : Type 0} (P : A → Type 0) (f : ℕ → A) (n : ℕ) → All P (tab f n) → (j : ℕ) → j < n → P (f j)
all_tab P f zero a j h = absurd (omega arith)
all_tab P f (suc n) a zero h = a.0
all_tab P f (suc n) a (suc j) h = all_tab P (λ k. f (suc k)) n a.1 j (omega arith)

follows_so : (U : List ℕ) (i : Step) → T (follows U i) → Follows (Plain U) i
follows_so U (step p q m) t = λ i j. stands_is U m (go (stands U p) (stands U q) (stands U m) t (is_stands U p i) (is_stands U q j))
  where
    go : (a b c : Bool) → T (not (a && b) || c) → T a → T b → T c
    go true true c t i j = t
    go true false c t i j = absurd j
    go false b c t i j = absurd i

module _ (P : Program) (W : ℕ) (U : List ℕ) (inside : (i : ℕ) → get_or U i 0 < 2 ^ W) where
  early : (r t : ℕ) (v : Bool) → Plain U (mark r t v) → t < W
  early r t v i = has_below (get_or U (block r v) 0) W t (inside (block r v)) i

  -- no rule adds a mark at row r
  abbrev Idle : ℕ → Node → Type 0
  Idle r n = (t : ℕ) → t < W → All (Follows (Plain U)) (steps_at W r n t)

  row_idle : (r : ℕ) (n : Node) (k : ℕ) → All (Follows (Plain U)) (steps_of W r n k) → (t : ℕ) → t < k → All (Follows (Plain U)) (steps_at W r n t)
  row_idle r n zero a t l = absurd (omega arith)
  row_idle r n (suc k) a t l = go (ℕ_discrete k t) (row_idle r n k (all_right (Follows (Plain U)) (steps_at W r n k) (steps_of W r n k) a) t)
    where
      go : Dec (k ≡ t) → (t < k → All (Follows (Plain U)) (steps_at W r n t)) → All (Follows (Plain U)) (steps_at W r n t)
      go (yes e) f = subst (λ (z : ℕ). All (Follows (Plain U)) (steps_at W r n z)) e (all_left (Follows (Plain U)) (steps_at W r n k) (steps_of W r n k) a)
      go (no e) f = f (omega arith)

  settles_not : (r x : ℕ) → Idle r (not_of x) → SettledAt W (Plain U) r (not_of x)
  settles_not r x f t true = (λ i. (f t (early r t true i)).0 i i, λ i. (f t (early x t true i)).1.1.0 i i)
  settles_not r x f t false = (λ i. (f t (early r t false i)).1.0 i i, λ i. (f t (early x t false i)).1.1.1.0 i i)

  settles_gate : (r a b : ℕ) (u : Bool) → Idle r (gate u a b) → SettledAt W (Plain U) r (gate u a b)
  settles_gate r a b u f t = record {
    down_left = λ i. (f t (early r t u i)).0 i i;
    down_right = λ i. (f t (early r t u i)).1.0 i i;
    up_both = λ i j. (f t (early a t u i)).1.1.0 i j;
    up_left = λ i. (f t (early a t (not u) i)).1.1.1.0 i i;
    up_right = λ i. (f t (early b t (not u) i)).1.1.1.1.0 i i;
    rest_right = λ i j. (f t (early r t (not u) i)).1.1.1.1.1.0 i j;
    rest_left = λ i j. (f t (early r t (not u) i)).1.1.1.1.1.1.0 i j;
  }

  look_idle : (r c t s : ℕ) (b : Bool) → T b → All (Follows (Plain U)) (look_at b r c t s) → (v : Bool) → (Plain U (mark r t v) → Plain U (mark c s v)) × (Plain U (mark c s v) → Plain U (mark r t v))
  look_idle r c t s false y w v = absurd y
  look_idle r c t s true y w true = (λ i. w.0 i i, λ i. w.1.1.0 i i)
  look_idle r c t s true y w false = (λ i. w.1.0 i i, λ i. w.1.1.1.0 i i)

  settles_look : (r k c : ℕ) → Idle r (look k c) → SettledAt W (Plain U) r (look k c)
  settles_look r k c f t s v z h l =
      let e : t + k - 64 ≡ s = omega arith in
      subst (λ (q : ℕ). (Plain U (mark r t v) → Plain U (mark c q v)) × (Plain U (mark c q v) → Plain U (mark r t v))) e
      (look_idle r c t (t + k - 64) (leb 64 (t + k) && ltb (t + k - 64) W)
      (both_so (leb 64 (t + k)) (ltb (t + k - 64) W) (le→leb 64 (t + k) (omega arith)) (lt→ltb (t + k - 64) W (omega arith))) (f t h) v)

  settles : (r : ℕ) (n : Node) → Idle r n → SettledAt W (Plain U) r n
  settles r signal f = tt
  settles r (not_of x) f = settles_not r x f
  settles r (gate u a b) f = settles_gate r a b u f
  settles r (look k c) f = settles_look r k c f

  rows_settled : (r : ℕ) (ns : List Node) → All (Follows (Plain U)) (steps_all W r ns) → At (SettledAt W (Plain U)) r ns
  rows_settled r [] a = tt
  rows_settled r (n ∷ ns) a = (
    settles r n (row_idle r n W (all_left (Follows (Plain U)) (steps_of W r n W) (steps_all W (suc r) ns) a)),
    rows_settled (suc r) ns (all_right (Follows (Plain U)) (steps_of W r n W) (steps_all W (suc r) ns) a),
  )

  tops_stand : (rs : List ℕ) → All (Plain U) (top_marks W rs) → (r : ℕ) → Memᴰ r rs → (t : ℕ) → t < W → Plain U (mark r t true)
  tops_stand [] a r i t l = absurd (Memᴰ.not-nil i)
  tops_stand (q ∷ rs) a r i t l = ⊎_elim first (λ j. tops_stand rs (all_right (Plain U) (tab (λ u. mark q u true) W) (top_marks W rs) a) r j t l) (Memᴰ.cases_cons i)
    where
      first : r ≡ q → Plain U (mark r t true)
      first e = subst (λ (z : ℕ). Plain U (mark z t true)) (sym e) (all_tab (Plain U) (λ u. mark q u true) W (all_left (Plain U) (tab (λ u. mark q u true) W) (top_marks W rs) a) t l)

  -- A table that passes the test, all of it derived from S, with S in it, holds exactly what the rules lead to.
  pub closed_exactly : (R : List Mark) (S : Marks) → T (closed P W R U) → ((m : Mark) → Plain U m → Derives P W S m) → (((m : Mark) → Memᴰ m R → Plain U m) → (m : Mark) → S m → Plain U m)
      → (m : Mark) → Plain U m ↔ Derives P W S m
  closed_exactly R S t only begun =
      finished P W (Plain U) S only (begun (λ m i. all_at (Plain U) R (all_left (Plain U) R (top_marks W P.tops) stood) m i))
      (tops_stand P.tops (all_right (Plain U) R (top_marks W P.tops) stood))
      (λ r h. at_get_d (SettledAt W (Plain U)) signal (λ n. tt) P.rows (rows_settled 0 P.rows idle) r)
    where
      fits : Bool
      fits = all_of (λ w. ltb w (2 ^ W)) U

      begins : Bool
      begins = all_of (stands U) (start_marks P W R)

      ends : Bool
      ends = all_of (follows U) (steps_all W 0 P.rows)

      stood : All (Plain U) (start_marks P W R)
      stood = all_weaker (λ m. T (stands U m)) (Plain U) (stands_is U) (start_marks P W R) (all_of_all (stands U) (start_marks P W R) (and_left begins ends (and_right fits (begins && ends) t)))

      idle : All (Follows (Plain U)) (steps_all W 0 P.rows)
      idle = all_weaker (λ i. T (follows U i)) (Follows (Plain U)) (follows_so U) (steps_all W 0 P.rows) (all_of_all (follows U) (steps_all W 0 P.rows) (and_right begins ends (and_right fits (begins && ends) t)))
