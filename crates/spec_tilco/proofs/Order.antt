-- Children stand before parents, a not-row turns a signal's row, a look's offset is of an interval, and every top is a row.
-- Assumes a sheet in which every name is declared.
use mathlib.Core.Path.{◌≡◌, refl, sym, ◌∙◌, subst}
use mathlib.Core.Bool.{Bool, true, false, not}
use mathlib.Core.List.Memᴰ
use mathlib.Core.List.{List, [], ◌∷◌, ◌++◌, map-append, Memᴰ}
use mathlib.Core.Logic.{◌⊎◌, inl, inr}
use Prim.Native.Nat.{ℕ, zero, suc, ◌+◌, ◌<◌, ◌≤◌}
use native.Mathlib.Omega.{arith}
use lib.ListN.{length, length-append, replicate, length-replicate, get_or-replicate, get_or-append}
use Rattle.spec_tilco.specs.Lists.{All, total, laid}
use Rattle.spec_tilco.specs.Formula.{Op, And, Or, Implies, Iff, Written, Formula, hiddens, over_signals, step_of, defining, definings, spelled, Sheet, signal_rows, formulas, Named, Intervals, Declared}
use Rattle.spec_tilco.specs.Inference.{Node, signal, not_of, gate, look, node}
use Rattle.spec_tilco.specs.Lowering.{BTL, lit, join, timed, paired, lowered, size, joined, top_of, rows_all, tops_all, assembled, lows, program, row_count_lem}
use Rattle.spec_tilco.proofs.Lists.{all_append, all_weaker}
use Rattle.spec_tilco.proofs.Rows.{Along, Each, all_along, every_row, length_rows_all}

-- ---- the signals of a sheet's formulas have rows of their own, and its intervals are those of the rules and of since and until

-- its signals are below m, and its intervals pass S
abbrev pub Within : (ℕ → ℕ → Type 0) → ℕ → BTL → Type 0
Within S m (lit s x) = x < m
Within S m (join u a b) = Within S m a × Within S m b
Within S m (timed u lo n a) = S lo n × Within S m a

-- Any interval passes.
abbrev AnyInterval : ℕ → ℕ → Type 0
AnyInterval lo n = Unit {0}

-- its signals are below m
abbrev pub Below : ℕ → BTL → Type 0
Below = Within AnyInterval

any_intervals : (w : Written) → Intervals AnyInterval w
any_intervals (Written.name x) = tt
any_intervals (Written.neg f) = any_intervals f
any_intervals (Written.pair o f g) = (any_intervals f, any_intervals g)
any_intervals (Written.time u lo n f) = (tt, any_intervals f)
any_intervals (Written.keep b f g) = (any_intervals f, any_intervals g)

module _ (S : ℕ → ℕ → Type 0) (steps : (b : Bool) → S (step_of b) 0) where
  paired_within : (m : ℕ) (o : Op) (s : Bool) (f g : Bool → BTL) → ((z : Bool) → Within S m (f z)) → ((z : Bool) → Within S m (g z)) → Within S m (paired o s f g)
  paired_within m And s f g p q = (p s, q s)
  paired_within m Or s f g p q = (p s, q s)
  paired_within m Implies s f g p q = (p (not s), q s)
  paired_within m Iff s f g p q = ((p (not s), q s), (q (not s), p s))

  -- The rule's names are declared, and its intervals pass.
  abbrev Fit : ℕ → Written → Type 0
  Fit n w = Named n w × Intervals S w

  module _ (n m : ℕ) (le : n ≤ m) where
    -- in either sense
    abbrev Low : Formula → Type 0
    Low f = (z : Bool) → Within S m (lowered z f)

    plain_low : (x : ℕ) (w : Written) → Fit n w → x + hiddens w ≤ m → Low (over_signals x w)
    plain_low x (Written.name y) d h s = omega (arith, d.0)
    plain_low x (Written.neg f) d h s = plain_low x f d h (not s)
    plain_low x (Written.pair o f g) d h s =
        paired_within m o s (λ z. lowered z (over_signals x f)) (λ z. lowered z (over_signals (x + hiddens f) g)) (plain_low x f (d.0.0, d.1.0) (omega arith)) (plain_low (x + hiddens f) g (d.0.1, d.1.1) (omega arith))
    plain_low x (Written.time u lo k f) d h s = (d.1.0, plain_low x f (d.0, d.1.1) h s)
    plain_low x (Written.keep b f g) d h s = omega arith

    defining_low : (b : Bool) (x : ℕ) (f g : Formula) → x < m → Low f → Low g → Low (defining b x f g)
    defining_low b x f g h p q s = search (h, p s, q s, p (not s), q (not s), steps b)

    abbrev AllWithin : List Formula → Type 0
    AllWithin fs = All (Within S m) (lows fs)

    append_within : (fs gs : List Formula) → AllWithin fs → AllWithin gs → AllWithin (fs ++ gs)
    append_within fs gs p q = subst (All (Within S m)) (sym (map-append (lowered true) fs gs)) (all_append (Within S m) (lows fs) (lows gs) p q)

    definings_within : (x : ℕ) (w : Written) → Fit n w → x + hiddens w ≤ m → AllWithin (definings x w)
    definings_within x (Written.name y) d h = tt
    definings_within x (Written.neg f) d h = definings_within x f d h
    definings_within x (Written.pair o f g) d h =
        append_within (definings x f) (definings (x + hiddens f) g) (definings_within x f (d.0.0, d.1.0) (omega arith)) (definings_within (x + hiddens f) g (d.0.1, d.1.1) (omega arith))
    definings_within x (Written.time u lo k f) d h = definings_within x f (d.0, d.1.1) h
    definings_within x (Written.keep b f g) d h =
        let l : Fit n f = (d.0.0, d.1.0) in
        let r : Fit n g = (d.0.1, d.1.1) in (
          defining_low b x (over_signals (suc x) f) (over_signals (suc x + hiddens f) g) (omega arith) (plain_low (suc x) f l (omega arith)) (plain_low (suc x + hiddens f) g r (omega arith)) true,
          append_within (definings (suc x) f) (definings (suc x + hiddens f) g) (definings_within (suc x) f l (omega arith)) (definings_within (suc x + hiddens f) g r (omega arith)),
        )

    rules_within : (x : ℕ) (ws : List Written) → All (Fit n) ws → x + total hiddens ws ≤ m → AllWithin (laid hiddens spelled ws x)
    rules_within x [] d h = tt
    rules_within x (w ∷ ws) d h =
        append_within (spelled w x) (laid hiddens spelled ws (x + hiddens w))
        (plain_low x w d.0 (omega arith) true, definings_within x w d.0 (omega arith))
        (rules_within (x + hiddens w) ws d.1 (omega arith))

  -- Where the names are declared and the intervals pass, so they do in each formula of the sheet.
  pub sheet_within : (s : Sheet) → All (Fit s.signals) s.rules → All (Within S (signal_rows s)) (lows (formulas s))
  sheet_within s d = rules_within s.signals (signal_rows s) (omega arith) s.signals s.rules d (omega arith)

pub sheet_below : (s : Sheet) → Declared s → All (Below (signal_rows s)) (lows (formulas s))
sheet_below s d = sheet_within AnyInterval (λ b. tt) s (all_weaker (Named s.signals) (Fit AnyInterval (λ b. tt) s.signals) (λ w e. (e, any_intervals w)) s.rules d)

-- ---- children before parents

-- What a row's node keeps to where the first m rows are the signals': its children are rows before it, and a not-row turns a signal's row.
abbrev pub Ordered : ℕ → ℕ → Node → Type 0
Ordered m r signal = Unit {0}
Ordered m r (not_of x) = (x < m) × (x < r)
Ordered m r (gate u a b) = (a < r) × (b < r)
Ordered m r (look k c) = c < r

joined_before : (l k j n : ℕ) → k ≡ l + suc n → j < suc n → joined l k j < k + j
joined_before l k zero n e h = omega arith
joined_before l k (suc j) n e h = omega arith

module _ (m : ℕ) where
  pub top_before : (c : BTL) (b : ℕ) → m ≤ b → Below m c → top_of c b < b + size c
  top_before (lit true x) b h w = omega arith
  top_before (lit false x) b h w = omega arith
  top_before (join u a c) b h w = omega arith
  top_before (timed u lo n a) b h w = omega (arith, joined_before (b + size a) (b + size a + suc n) n n refl (omega arith))

  abbrev Past : BTL → ℕ → Type 0
  Past c b = (m ≤ b) × Below m c

  ordered_along : Along Past (Ordered m)
  ordered_along = record {
    left = λ u a c b k. (k.0, k.1.0);
    right = λ u a c b k. (omega (arith, k.0), k.1.1);
    child = λ u lo n a b k. (k.0, k.1.1);
    nots = λ x b k. (k.1, omega (arith, k.0, k.1));
    joins = λ u a c b k. (omega (arith, top_before a b k.0 k.1.0), omega (arith, top_before c (b + size a) (omega (arith, k.0)) k.1.1));
    looks = λ u lo n a b k j h. omega (arith, top_before a b k.0 k.1.1);
    ties = λ u lo n a b k j h. (joined_before (b + size a) (b + size a + suc n) j n refl (omega arith), omega arith);
  }

  each_past : (cs : List BTL) (b : ℕ) → m ≤ b → All (Below m) cs → Each Past cs b
  each_past [] b h w = tt
  each_past (c ∷ cs) b h w = ((h, w.0), each_past cs (b + size c) (omega arith) w.1)

  tops_before : (cs : List BTL) (b : ℕ) → m ≤ b → All (Below m) cs → (r : ℕ) → Memᴰ r (tops_all cs b) → r < b + total size cs
  tops_before [] b h w r i = absurd (Memᴰ.not-nil i)
  tops_before (c ∷ cs) b h w r i = go (Memᴰ.cases_cons i) (tops_before cs (b + size c) (omega arith) w.1 r)
    where
      go : (r ≡ top_of c b) ⊎ Memᴰ r (tops_all cs (b + size c)) → (Memᴰ r (tops_all cs (b + size c)) → r < b + size c + total size cs) → r < b + (size c + total size cs)
      go (inl e) k = omega (arith, top_before c b h w.0)
      go (inr j) k = omega (arith, k j)

-- ---- looks

-- A look's offset is one of an interval that passes S.
abbrev pub LooksWithin : (ℕ → ℕ → Type 0) → ℕ → Node → Type 0
LooksWithin S r signal = Unit {0}
LooksWithin S r (not_of x) = Unit {0}
LooksWithin S r (gate u a b) = Unit {0}
LooksWithin S r (look k c) = (lo : ℕ) × (n : ℕ) × S lo n × (lo ≤ k) × (k ≤ lo + n)

module _ (S : ℕ → ℕ → Type 0) (m : ℕ) where
  looks_along : Along (λ c b. Within S m c) (LooksWithin S)
  looks_along = record {
    left = λ u a c b k. k.0;
    right = λ u a c b k. k.1;
    child = λ u lo n a b k. k.1;
    nots = λ x b k. tt;
    joins = λ u a c b k. tt;
    looks = λ u lo n a b k j h. (lo, n, k.0, omega arith, omega arith);
    ties = λ u lo n a b k j h. tt;
  }

  each_within : (cs : List BTL) (b : ℕ) → All (Within S m) cs → Each (λ c i. Within S m c) cs b
  each_within [] b w = tt
  each_within (c ∷ cs) b w = (w.0, each_within cs (b + size c) w.1)

-- The rows of a program are the signals' and then each formula's.
pub rows_counted : (m : ℕ) (cs : List BTL) → length (assembled m cs).rows ≡ m + total size cs
rows_counted m cs = length-append (replicate m signal) (rows_all cs m) ∙ omega (arith, length-replicate m signal, length_rows_all cs m)

module _ (s : Sheet) where
  abbrev m : ℕ
  m = signal_rows s

  abbrev cs : List BTL
  cs = lows (formulas s)

  pub row_count : row_count_lem s ≡ m + total size cs
  row_count = rows_counted m cs

  -- The first rows are the signals'.
  pub signal_row : (x : ℕ) → x < m → node (program s) x ≡ signal
  signal_row x h = get_or-append (replicate m signal) (rows_all cs m) signal x (omega (arith, length-replicate m signal)) ∙ get_or-replicate m x signal signal h

  -- Each look is one of an interval that passes, where those of the rules and of since and until do.
  pub looks_within : (S : ℕ → ℕ → Type 0) (steps : (b : Bool) → S (step_of b) 0) → All (Fit S steps s.signals) s.rules → (r : ℕ) → LooksWithin S r (node (program s) r)
  looks_within S steps d = every_row (LooksWithin S) (λ r. tt) m cs (all_along (looks_along S m) cs m (each_within S m cs m (sheet_within S steps s d)))

  module _ (declared : Declared s) where
    -- Each row's children are rows before it.
    pub children_before : (r : ℕ) → Ordered m r (node (program s) r)
    children_before = every_row (Ordered m) (λ r. tt) m cs (all_along (ordered_along m) cs m (each_past m cs m (omega arith) (sheet_below s declared)))

    -- A not-row turns a signal's row.
    pub not_of_signal : (r x : ℕ) → node (program s) r ≡ not_of x → node (program s) x ≡ signal
    not_of_signal r x e = signal_row x (subst (Ordered m r) e (children_before r)).0

    -- Every top is a row.
    pub top_is_row : (r : ℕ) → Memᴰ r (program s).tops → r < row_count_lem s
    top_is_row r i = omega (arith, row_count, tops_before m cs m (omega arith) (sheet_below s declared) r i)
