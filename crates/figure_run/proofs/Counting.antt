-- What a run adds to the columns: where a row clashes its whole window to the fourth, else the ones in the row's words to the first two.
-- Assumes that a word is below 2 ^ 64, that the words cover the window and that no mark is past it.
use mathlib.Core.Path.{◌≡◌, refl, sym, ap, ap₂, ◌∙◌}
use mathlib.Core.Bool.{Bool, true, false}
use mathlib.Core.List.{List}
use Prim.Native.Nat.{ℕ, zero, suc, ◌+◌, ◌-◌, ◌*◌, ◌/◌, ◌%◌, ◌<◌, ◌≤◌}
use native.Mathlib.Omega.{arith}
use lib.Count.{ones}
use lib.ListN.{get_or}
use Rattle.spec_ticks.specs.Ticks.{bit, block, Small}
use Rattle.spec_ticks.proofs.Bits.{bit_lt}
use Rattle.spec_ticks.proofs.Counts.{ticks_below, ones_are_ticks}
use Rattle.spec_tilco.specs.Inference.{mark, Clash}
use Rattle.spec_tilco.specs.Table.{Stands, Inside, Answer, True, False, Contradiction, Asked, clashes, holds, fails, neither}
use Rattle.list_signals.specs.Signals.{AnswersAt}
use Rattle.spec_figures.specs.Records.{ticks_of}
use Rattle.spec_figures.proofs.Columns.{alike}
use Rattle.figure_run.specs.RunCounts.{ones_from}

-- ---- ticks counted one by one

-- The bit of tick t in the words from place b on.
abbrev tick_bit : List ℕ → ℕ → ℕ → ℕ
tick_bit T b t = bit (get_or T (b + t / 64) 0) (t % 64)

-- The bits of the ticks before t.
unfoldable bits_below : List ℕ → ℕ → ℕ → ℕ
bits_below T b zero = 0
bits_below T b (suc t) = bits_below T b t + tick_bit T b t

module _ (T : List ℕ) (b : ℕ) where
  -- c bits of word q
  in_word : (q c : ℕ) → c ≤ 64 → bits_below T b (q * 64 + c) ≡ bits_below T b (q * 64) + ticks_below c (get_or T (b + q) 0)
  unfolding bits_below ticks_below
  in_word q zero h = let e : q * 64 + 0 ≡ q * 64 = omega arith in omega (arith, ap (bits_below T b) e)
  in_word q (suc c) h =
      let e : q * 64 + suc c ≡ suc (q * 64 + c) = omega arith in
      let d : (q * 64 + c) / 64 ≡ q = omega arith in
      let m : (q * 64 + c) % 64 ≡ c = omega arith in
      omega (arith, ap (bits_below T b) e, in_word q c (omega arith), ap₂ (λ (x y : ℕ). bit (get_or T (b + x) 0) y) d m)

  past_none : (W d : ℕ) → ((t : ℕ) → W ≤ t → t < W + d → tick_bit T b t ≡ 0) → bits_below T b (W + d) ≡ bits_below T b W
  unfolding bits_below
  past_none W zero f = let e : W + 0 ≡ W = omega arith in ap (bits_below T b) e
  past_none W (suc d) f =
      let e : W + suc d ≡ suc (W + d) = omega arith in
      omega (arith, ap (bits_below T b) e, past_none W d (λ t l h. f t l (omega arith)), f (W + d) (omega arith) (omega arith))

  answers_bits : (a : Answer) (f : ℕ → Answer) (W : ℕ) → ((t : ℕ) → t < W → alike (f t) a ≡ tick_bit T b t) → ticks_of a f W ≡ bits_below T b W
  unfolding bits_below ticks_of
  answers_bits a f zero g = refl
  answers_bits a f (suc W) g = omega (arith, answers_bits a f W (λ t l. g t (omega arith)), g W (omega arith))

last_ones : (T : List ℕ) (b n : ℕ) → ones_from T b (suc n) ≡ ones_from T b n + ones (get_or T (b + n) 0)
unfolding ones_from
last_ones T b zero = let e : b + 0 ≡ b = omega arith in omega (arith, ap (λ (k : ℕ). ones (get_or T k 0)) e)
last_ones T b (suc n) = let e : suc b + n ≡ b + suc n = omega arith in omega (arith, last_ones T (suc b) n, ap (λ (k : ℕ). ones (get_or T k 0)) e)

-- The ones in words are their bits.
ones_bits : (T : List ℕ) (b n : ℕ) → Small 64 T → ones_from T b n ≡ bits_below T b (n * 64)
unfolding ones_from bits_below
ones_bits T b zero small = refl
ones_bits T b (suc n) small =
    let e : suc n * 64 ≡ n * 64 + 64 = omega arith in
    omega (arith, last_ones T b n, ones_bits T b n small, ones_are_ticks 64 (get_or T (b + n) 0) (small (b + n)), in_word T b n 64 (omega arith), ap (bits_below T b) e)

-- Every tick counts alike.
all_alike : (a : Answer) (f : ℕ → Answer) (k W : ℕ) → ((t : ℕ) → t < W → alike (f t) a ≡ k) → ticks_of a f W ≡ W * k
unfolding ticks_of
all_alike a f k zero g = omega arith
all_alike a f k (suc W) g = omega (arith, all_alike a f k W (λ t l. g t (omega arith)), g W (omega arith))

-- ---- the answers of one run

-- The answer that a mark gives.
abbrev pub said_by : Bool → Answer
said_by true = True
said_by false = False

module _ (n : ℕ) (T : List ℕ) (x : ℕ) where
  unset : (t : ℕ) (v : Bool) → t < n * 64 → (Stands n T (mark x t v) → ⊥) → 0 ≡ tick_bit T (block x v * n) t
  unset t v l f =
      let g : tick_bit T (block x v * n) t ≡ 1 → ⊥ = λ e. f (record { within = l; set_at = e }) in
      omega (arith, bit_lt (get_or T (block x v * n + t / 64) 0) (t % 64))

  told_apart : (t : ℕ) → (Clash (Stands n T) → ⊥) → Stands n T (mark x t true) → Stands n T (mark x t false) → ⊥
  told_apart t free i j = free (record { row = x; tick = t; holds = i; fails = j })

  answer_bit : (t : ℕ) (v : Bool) {a : Answer} → t < n * 64 → (Clash (Stands n T) → ⊥) → Asked (Stands n T) x t a → alike a (said_by v) ≡ tick_bit T (block x v * n) t
  answer_bit t v l free (clashes c) = absurd (free c)
  answer_bit t true l free (holds p i) = sym i.set_at
  answer_bit t false l free (holds p i) = unset t false l (told_apart t free i)
  answer_bit t true l free (fails p i) = unset t true l (λ j. told_apart t free j i)
  answer_bit t false l free (fails p i) = sym i.set_at
  answer_bit t true l free (neither p i j) = unset t true l i
  answer_bit t false l free (neither p i j) = unset t false l j

  answer_settled : {t : ℕ} {a : Answer} → (Clash (Stands n T) → ⊥) → Asked (Stands n T) x t a → alike a Contradiction ≡ 0
  answer_settled free (clashes c) = absurd (free c)
  answer_settled free (holds p i) = refl
  answer_settled free (fails p i) = refl
  answer_settled free (neither p i j) = refl

  answer_clash : {t : ℕ} {a : Answer} → Clash (Stands n T) → Asked (Stands n T) x t a → alike a Contradiction ≡ 1
  answer_clash c (clashes d) = refl
  answer_clash c (holds p i) = absurd (p c)
  answer_clash c (fails p i) = absurd (p c)
  answer_clash c (neither p i j) = absurd (p c)

  module _ (W : ℕ) (f : ℕ → Answer) (asked : AnswersAt (Stands n T) x W f) where
    -- A run that clashes counts its whole window in the fourth column.
    pub clash_ticks : Clash (Stands n T) → ticks_of Contradiction f W ≡ W
    clash_ticks c = omega (arith, all_alike Contradiction f 1 W (λ t l. answer_clash c (asked t l)))

    module _ (free : Clash (Stands n T) → ⊥) where
      -- Another counts nothing there.
      pub free_ticks : ticks_of Contradiction f W ≡ 0
      free_ticks = omega (arith, all_alike Contradiction f 0 W (λ t l. answer_settled free (asked t l)))

      -- The ticks of a value are the ones in the row's words of that value.
      pub value_ticks : Small 64 T → W ≤ n * 64 → Inside W (Stands n T) → (v : Bool) → ticks_of (said_by v) f W ≡ ones_from T (block x v * n) n
      value_ticks small covered inside v =
          let b : ℕ = block x v * n in
          let e : W + (n * 64 - W) ≡ n * 64 = omega arith in
          answers_bits T b (said_by v) f W (λ t l. answer_bit t v (omega arith) free (asked t l))
          ∙ sym (past_none T b W (n * 64 - W) (λ t l h. sym (unset t v (omega arith) (λ i. omega (arith, inside x t v i)))))
          ∙ ap (bits_below T b) e
          ∙ sym (ones_bits T b n small)
