-- Marks past the window: they can stand only in the last word of a row and value, at its upper bits.
-- Assumes a window of at least one tick, and as many words as cover it.
use mathlib.Core.Path.{◌≡◌, refl, sym, ◌∙◌, subst}
use mathlib.Core.Bool.{Bool, true, false}
use mathlib.Core.List.{List}
use mathlib.Core.Logic.{⊎_elim}
use Prim.Native.Nat.{ℕ, zero, suc, ◌+◌, ◌-◌, ◌*◌, ◌/◌, ◌%◌, ◌^◌, ◌≤◌, ◌<◌}
use native.Mathlib.Nat.{mul-le-mul_right, lt_of_le_of_lt, div-le_self, div-lt_iff_lt-mul}
use native.Mathlib.Omega.{arith}
use lib.Count.{count_trailing_zeros}
use lib.Pow.{pow_pos}
use lib.ListN.{length, get_or, get_or-eq_default}
use Rattle.spec_ticks.specs.Ticks.{Has, block}
use Rattle.spec_ticks.proofs.Bits.{lt_or_ge, bit_shr, has_below, no_ticks}
use Rattle.spec_ticks.proofs.Counts.{first_has}
use Rattle.spec_ticks.proofs.Tables.{in_to}
use Rattle.spec_tilco.specs.Inference.{mark}
use Rattle.spec_tilco.specs.Table.{words, Stands, Inside}

-- The ticks that the window has in the last word.
pub last_ticks : (n W : ℕ) → n ≡ words W → 1 ≤ W → (1 ≤ n) × (W ≡ 64 * (n - 1) + (W - 64 * (n - 1))) × (1 ≤ W - 64 * (n - 1)) × (W - 64 * (n - 1) ≤ 64)
unfolding words
last_ticks n W e some = (omega arith, omega arith, omega arith, omega arith)

-- Every block is some row's, of some value.
row_of_block : (k : ℕ) → (r : ℕ) × (v : Bool) × (block r v ≡ k)
row_of_block zero = (0, true, refl)
row_of_block (suc k) = next (row_of_block k)
  where
    next : (r : ℕ) × (v : Bool) × (block r v ≡ k) → (r : ℕ) × (v : Bool) × (block r v ≡ suc k)
    next (r, true, e) = (r, false, omega (arith, e))
    next (r, false, e) = (r + 1, true, omega (arith, e))

module _ (n W : ℕ) (T : List ℕ) (last ticks : ℕ) (some : n ≡ last + 1) (whole : W ≡ 64 * last + ticks) where
  -- the last word of a block
  abbrev pub last_word : ℕ → ℕ
  last_word k = get_or T (k * n + last) 0

  module _ (count : ℕ) (long : length T ≡ 2 * count * n) where
    pub below_inside : ((k : ℕ) → k < 2 * count → last_word k / 2 ^ ticks ≡ 0) → Inside W (Stands n T)
    below_inside f r t v i = ⊎_elim inner outer (lt_or_ge (block r v) (2 * count))
      where
        q : ℕ
        q = t / 64

        under : {w : ℕ} → w / 2 ^ ticks ≡ 0 → w < 2 ^ ticks
        under {w} z = omega (arith, (div-lt_iff_lt-mul {k = 2 ^ ticks} {x = w} {y = 1} (pow_pos ticks)).0 (omega arith))

        outer : 2 * count ≤ block r v → t < W
        outer l =
            let b : 2 * count * n ≤ block r v * n = mul-le-mul_right n l in
            let z : get_or T (block r v * n + q) 0 ≡ 0 = get_or-eq_default T 0 {n = block r v * n + q} (omega arith) in
            absurd (omega (arith, no_ticks (t % 64), subst (λ (w : ℕ). Has w (t % 64)) z i.set_at))

        inner : block r v < 2 * count → t < W
        inner l = ⊎_elim (λ h. omega arith) at_last (lt_or_ge q last)
          where
            at_last : last ≤ q → t < W
            at_last h =
                let e : q ≡ last = omega (arith, i.within) in
                let b : t % 64 < ticks = has_below (last_word (block r v)) ticks (t % 64) (under (f (block r v) l)) (subst (λ (j : ℕ). Has (get_or T (block r v * n + j) 0) (t % 64)) e i.set_at) in
                omega arith

    pub past_outside : (k : ℕ) → last_word k < 2 ^ 64 → (last_word k / 2 ^ ticks ≡ 0 → ⊥) → Inside W (Stands n T) → ⊥
    past_outside k small f inside =
        let over : ℕ = last_word k / 2 ^ ticks in
        let b : ℕ = count_trailing_zeros 64 over in
        let h : Has (last_word k) (ticks + b) = sym (bit_shr (last_word k) ticks b) ∙ first_has 64 over (omega arith) (lt_of_le_of_lt (div-le_self (last_word k) (2 ^ ticks)) small) in
        let l : ticks + b < 64 = has_below (last_word k) 64 (ticks + b) small h in
        let o = row_of_block k in
        let m : Stands n T (mark o.0 (last * 64 + (ticks + b)) o.1) = in_to 64 n T (block o.0 o.1 * n) last (ticks + b) (last * 64 + (ticks + b)) l refl (omega arith) (subst (λ (j : ℕ). Has (get_or T (j * n + last) 0) (ticks + b)) (sym o.2) h) in
        absurd (omega (arith, inside o.0 (last * 64 + (ticks + b)) o.1 m))
