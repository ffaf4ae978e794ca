-- Tables by their marks: a table is its marks, and a table with more marks has no fewer ones.
-- Assumes that a word holds at least one tick and a row at least one word; fixes neither number.
use mathlib.Core.Path.{◌≡◌, refl, sym, ◌∙◌, ap, subst}
use mathlib.Core.Bool.{Bool, true, false}
use mathlib.Core.Logic.{⊎_elim}
use mathlib.Core.List.{List}
use Prim.Native.Nat.{ℕ, zero, suc, ◌+◌, ◌*◌, ◌/◌, ◌%◌, ◌^◌, ◌<◌, ◌≤◌}
use native.Mathlib.Nat.{div-add-mod', mod-lt, mul-le-mul_right, suc-mul}
use native.Mathlib.Omega.{arith}
use lib.Arith.{digits_lt, digits_div, digits_mod}
use lib.Count.{ones, ones_in}
use lib.ListN.{length, get_or}
use lib.Pow.{pow_pos}
use lib.Seq.{ext_get_or}
use Rattle.spec_ticks.specs.Ticks.{bit, Has, In, block, MarkAt, Small, tally, empty}
use Rattle.spec_ticks.proofs.Bits.{lt_or_ge, bit_lt, bit_same, bit_ext, has_below, no_ticks}
use Rattle.spec_ticks.proofs.Counts.{ones_grow}

-- Tick q * width + c of a block is bit c of its word q.
module _ (width n : ℕ) (T : List ℕ) (i : ℕ) where
  pub in_to : (q c t : ℕ) → c < width → t ≡ q * width + c → q < n → Has (get_or T (i + q) 0) c → In width n T i t
  in_to q c t h e l k = record {
    within = subst (λ (x : ℕ). x < n * width) (sym e) (digits_lt l h);
    set_at = subst (λ (x : ℕ). Has (get_or T (i + x / width) 0) (x % width)) (sym e)
        (subst (λ (x : ℕ). Has (get_or T (i + x) 0) ((q * width + c) % width)) (sym (digits_div q h)) (subst (Has (get_or T (i + q) 0)) (sym (digits_mod q h)) k));
  }

  pub in_from : (q c t : ℕ) → c < width → t ≡ q * width + c → In width n T i t → Has (get_or T (i + q) 0) c
  in_from q c t h e k =
      subst (Has (get_or T (i + q) 0)) (digits_mod q h)
      (subst (λ (x : ℕ). Has (get_or T (i + x) 0) ((q * width + c) % width)) (digits_div q h)
      (subst (λ (x : ℕ). Has (get_or T (i + x / width) 0) (x % width)) e k.set_at))

-- The row, the value and the place in its block that word i of a table belongs to.
pub record Place (n i : ℕ) : Type 0 where
  pub row : ℕ
  pub value : Bool
  pub at : ℕ
  pub inside : at < n
  pub is : block row value * n + at ≡ i

block_of : (i : ℕ) → (r : ℕ) × ((v : Bool) × (i ≡ block r v))
block_of i = ⊎_elim (λ l. (i / 2, (true, omega arith))) (λ l. (i / 2, (false, omega arith))) (lt_or_ge (i % 2) 1)

pub block_apart : (r q : ℕ) (v u : Bool) → block r v ≡ block q u → (r ≡ q) × (v ≡ u)
block_apart r q true true e = (omega arith, refl)
block_apart r q true false e = absurd (omega arith)
block_apart r q false true e = absurd (omega arith)
block_apart r q false false e = (omega arith, refl)

-- a row's two blocks lie between those of the rows before and after it
pub block_low : (k r : ℕ) (v : Bool) → k ≤ r → 2 * k ≤ block r v
block_low k r true l = omega arith
block_low k r false l = omega arith

pub block_high : (r : ℕ) (v : Bool) → suc (block r v) ≤ 2 * suc r
block_high r true = omega arith
block_high r false = omega arith

module _ (n : ℕ) (some : 1 ≤ n) where
  pub placed : (i : ℕ) → Place n i
  placed i =
      let x = block_of (i / n) in
      record {
        row = x.0;
        value = x.1.0;
        at = i % n;
        inside = mod-lt i some;
        is = ap (λ (k : ℕ). k * n + i % n) (sym x.1.1) ∙ div-add-mod' i n;
      }

  -- a word of the first k rows' belongs to one of them
  placed_below : (k i : ℕ) → i < 2 * k * n → (p : Place n i) → p.row < k
  placed_below k i h p =
      ⊎_elim (λ l. l)
      (λ l. let b : 2 * k ≤ block p.row p.value = block_low k p.row p.value l in absurd (omega (arith, p.is, mul-le-mul_right n b)))
      (lt_or_ge p.row k)

  -- and comes before the end of its row's blocks
  placed_above : (i : ℕ) (p : Place n i) → i < 2 * suc p.row * n
  placed_above i p =
      let b : suc (block p.row p.value) * n ≤ 2 * suc p.row * n = mul-le-mul_right n (block_high p.row p.value) in
      omega (arith, p.is, p.inside, suc-mul (block p.row p.value) n)

  module _ (width : ℕ) where
    -- every mark of T's first k rows is a mark of U
    abbrev pub Under : ℕ → List ℕ → List ℕ → Type 0
    Under k T U = (r t : ℕ) (v : Bool) → r < k → MarkAt width n T r t v → MarkAt width n U r t v

    word_under : (k : ℕ) (T U : List ℕ) → Small width T → Under k T U → (i : ℕ) → i < 2 * k * n → (t : ℕ) → Has (get_or T i 0) t → Has (get_or U i 0) t
    word_under k T U small f i h t e =
        let p = placed i in
        let b : ℕ = block p.row p.value * n in
        let u : ℕ = p.at * width + t in
        let l : t < width = has_below (get_or T i 0) width t (small i) e in
        subst (λ (j : ℕ). Has (get_or U j 0) t) p.is
        (in_from width n U b p.at t u l refl
        (f p.row u p.value (placed_below k i h p)
        (in_to width n T b p.at t u l refl p.inside (subst (λ (j : ℕ). Has (get_or T j 0) t) (sym p.is) e))))

    word_same : (k : ℕ) (T U : List ℕ) → Small width T → Small width U → Under k T U → Under k U T → (i : ℕ) → i < 2 * k * n → get_or T i 0 ≡ get_or U i 0
    word_same k T U st su f g i h =
        bit_ext width (get_or T i 0) (get_or U i 0) (st i) (su i)
        (λ t l. bit_same (bit (get_or T i 0) t) (bit (get_or U i 0) t) (bit_lt (get_or T i 0) t) (bit_lt (get_or U i 0) t) (word_under k T U st f i h t) (word_under k U T su g i h t))

    tally_words : (T U : List ℕ) (m : ℕ) → ((i : ℕ) → i < m → ones (get_or T i 0) ≤ ones (get_or U i 0)) → tally T m ≤ tally U m
    unfolding tally
    tally_words T U zero f = omega arith
    tally_words T U (suc m) f = omega (arith, tally_words T U m (λ i h. f i (omega arith)), f m (omega arith))

    -- A table with more marks has no fewer ones.
    pub tally_grows : (k : ℕ) (T U : List ℕ) → Small width T → Under k T U → tally T (2 * k * n) ≤ tally U (2 * k * n)
    tally_grows k T U st f = tally_words T U (2 * k * n) (λ i h. ones_grow width (get_or T i 0) (get_or U i 0) (st i) (word_under k T U st f i h))

    -- The ones of the first k rows are told by their marks.
    pub tally_same : (k : ℕ) (T U : List ℕ) → Small width T → Small width U → Under k T U → Under k U T → tally T (2 * k * n) ≡ tally U (2 * k * n)
    tally_same k T U st su f g = omega (arith, tally_grows k T U st f, tally_grows k U T su g)

    -- Two tables of one length are equal when they have the same marks.
    pub same_table : (T U : List ℕ) → length T ≡ length U → Small width T → Small width U
        → ((r t : ℕ) (v : Bool) → MarkAt width n T r t v → MarkAt width n U r t v) → ((r t : ℕ) (v : Bool) → MarkAt width n U r t v → MarkAt width n T r t v) → T ≡ U
    same_table T U e st su f g =
        ext_get_or 0 T U e (λ i h. let p = placed i in
        word_same (suc p.row) T U st su (λ r t v l. f r t v) (λ r t v l. g r t v) i (placed_above i p))

-- ---- the empty table

empty_word : (m i : ℕ) → get_or (empty m) i 0 ≡ 0
empty_word zero i = refl
empty_word (suc m) zero = refl
empty_word (suc m) (suc i) = empty_word m i

pub empty_small : (width m : ℕ) → Small width (empty m)
empty_small width m i = subst (λ (w : ℕ). w < 2 ^ width) (sym (empty_word m i)) (pow_pos width)

pub empty_bare : (width n m r t : ℕ) (v : Bool) → MarkAt width n (empty m) r t v → ⊥
empty_bare width n m r t v i =
    omega (arith, no_ticks (t % width), subst (λ (w : ℕ). Has w (t % width)) (empty_word m (block r v * n + t / width)) i.set_at)

pub empty_tally : (m k : ℕ) → tally (empty m) k ≡ 0
unfolding ones ones_in tally
empty_tally m zero = refl
empty_tally m (suc k) = omega (arith, empty_tally m k, ap ones (empty_word m k))
