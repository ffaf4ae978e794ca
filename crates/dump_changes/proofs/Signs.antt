-- The sign of a row by its bits, and where it changes. Assumes nothing; a word is one below 2 ^ 64.
use mathlib.Core.Path.{◌≡◌, refl, sym, ap, ap₂, ◌∙◌}
use mathlib.Core.Bool.{Bool, true, false}
use mathlib.Core.List.{List}
use mathlib.Core.Logic.{◌↔◌, ⊎_elim}
use Prim.Native.Nat.{ℕ, zero, suc, ◌+◌, ◌-◌, ◌*◌, ◌/◌, ◌%◌, ◌^◌, ◌<◌, max}
use native.Mathlib.Omega.{arith}
use borrow.Author.Tests.{eq-eqb, ne_eqb}
use lib.Bits.{bit_and, bit_or, differ, or_lt}
use lib.Dec.{eqb}
use lib.ListN.{get_or}
use Rattle.spec_ticks.specs.Ticks.{bit, block}
use Rattle.spec_ticks.proofs.Bits.{lt_or_ge, bit_lt, bit_or_lem}
use Rattle.spec_tilco.specs.Inference.{mark}
use Rattle.spec_tilco.specs.Table.{Stands}
use Rattle.read_bytes.specs.Bytes.{byte, pick}
use Rattle.table_words.specs.WordTicks.{Ticks}
use Rattle.dump_changes.specs.WordSigns.{has_mark, row_sign, Differs}
use Rattle.dump_changes.proofs.Moved.{Word, change, differ_is, either, changed, lowest_in, highest_in}

-- The sign where these are the answers for true and for false.
abbrev pub sign_of : Bool → Bool → ℕ
sign_of y z = pick y (λ _. byte "1") (pick z (λ _. byte "0") (byte "x"))

-- As a number: y is the bit of the true marks, and the greater one that of either value.
sign_is : (y z : ℕ) → y < 2 → z < 2 → sign_of (eqb y 1) (eqb z 1) + 72 * max y z ≡ 120 + y
sign_is zero zero k l = refl
sign_is zero (suc zero) k l = refl
sign_is zero (suc (suc z)) k l = absurd (omega arith)
sign_is (suc zero) z k l = omega arith
sign_is (suc (suc y)) z k l = absurd (omega arith)

-- The signs s and r differ exactly where the true marks or the marks of either value do.
signs_differ : (y e s u f r : ℕ) → y < 2 → e < 2 → u < 2 → f < 2 → s + 72 * e ≡ 120 + y → r + 72 * f ≡ 120 + u
    → (max (differ y u) (differ e f) ≡ 1) ↔ (s ≡ r → ⊥)
signs_differ y e s u f r a b c d i j =
    let k = differ_is y u in
    let l = differ_is e f in
    (λ h g. omega arith, λ g. ⊎_elim (λ h. absurd (g (omega arith))) (λ h. omega arith) (lt_or_ge (max (differ y u) (differ e f)) 1))

module _ (n : ℕ) (T : List ℕ) (x : ℕ) where
  -- Whether a mark stands, as the test says it.
  pub mark_is : (t : ℕ) (v : Bool) → t < n * 64 → (r : Bool) → (r ≡ true) ↔ Stands n T (mark x t v) → has_mark n T x t v ≡ r
  unfolding has_mark
  mark_is t v l true f = eq-eqb _ 1 (f.0 refl).set_at
  mark_is t v l false f = ne_eqb _ 1 (λ e. let z = f.1 (record { within = l; set_at = e }) in let o : ◌≡◌ {A = ℕ} 0 1 = cc in omega arith)

  -- The sign by the two answers.
  pub signed : (t : ℕ) (y z : Bool) → has_mark n T x t true ≡ y → has_mark n T x t false ≡ z → sign_of y z ≡ row_sign n T x t
  unfolding row_sign
  signed t y z e f = sym (ap₂ sign_of e f)

  -- The row's bits of one value, and of either.
  abbrev at : Bool → ℕ → ℕ
  at v t = bit (get_or T (block x v * n + t / 64) 0) (t % 64)

  abbrev any : ℕ → ℕ
  any t = max (at true t) (at false t)

  low : (v : Bool) (t : ℕ) → at v t < 2
  low v t = bit_lt (get_or T (block x v * n + t / 64) 0) (t % 64)

  any_low : (t : ℕ) → any t < 2
  any_low t = omega (arith, low true t, low false t)

  -- A word as the code read it.
  read : (q : ℕ) (v : Bool) (w : ℕ) → w ≡ get_or T (block x v * n + q) 0 → Word q w (at v)
  read q v w e b l =
      let i : q ≡ (q * 64 + b) / 64 = omega arith in
      let j : b ≡ (q * 64 + b) % 64 = omega arith in
      ap₂ bit (e ∙ ap (λ (p : ℕ). get_or T (block x v * n + p) 0) i) j

  -- Word q of the true marks is y, and of the false marks z.
  module _ (q y z : ℕ) (yes-is : y ≡ get_or T (block x true * n + q) 0) (no-is : z ≡ get_or T (block x false * n + q) 0) where
    yeses : Word q y (at true)
    yeses = read q true y yes-is

    anys : Word q (bit_or y z) any
    anys = either q y z (at true) (at false) yeses (read q false z no-is)

    -- c and d are the bits before the words.
    changes : (c d : ℕ) → c ≡ at true (q * 64 - 1) → d ≡ any (q * 64 - 1) → Ticks q (bit_or (change y c) (change (bit_or y z) d)) (λ t. Differs n T t x)
    unfolding row_sign has_mark
    changes c d e f b l =
        let t : ℕ = q * 64 + b in
        let k : c < 2 = omega (arith, low true (q * 64 - 1)) in
        let m : d < 2 = omega (arith, any_low (q * 64 - 1)) in
        let w = bit_or_lem (change y c) (change (bit_or y z) d) b ∙ ap₂ max (changed q y (at true) yeses c k e b l) (changed q (bit_or y z) any anys d m f b l) in
        let i = sign_is (at true t) (at false t) (low true t) (low false t) in
        let j = sign_is (at true (t - 1)) (at false (t - 1)) (low true (t - 1)) (low false (t - 1)) in
        let s = signs_differ (at true t) (any t) _ (at true (t - 1)) (any (t - 1)) _ (low true t) (any_low t) (low true (t - 1)) (any_low (t - 1)) i j in
        (λ h. s.0 (sym w ∙ h), λ h. w ∙ s.1 h)

    -- The first word: before it is what is at its first tick.
    pub changes_first : q ≡ 0 → Ticks q (bit_or (change y (bit_and y 1)) (change (bit_or y z) (bit_and (bit_or y z) 1))) (λ t. Differs n T t x)
    changes_first o = changes (bit_and y 1) (bit_and (bit_or y z) 1) (lowest_in q y (at true) yeses o) (lowest_in q (bit_or y z) any anys o)

    -- A later word: u and v are the words before.
    pub changes_later : (p u v : ℕ) → u ≡ get_or T (block x true * n + p) 0 → v ≡ get_or T (block x false * n + p) 0 → q ≡ p + 1 → u < 2 ^ 64 → v < 2 ^ 64
        → Ticks q (bit_or (change y (u / 2 ^ 63)) (change (bit_or y z) (bit_or u v / 2 ^ 63))) (λ t. Differs n T t x)
    changes_later p u v e f next k l =
        let g = read p true u e in
        let h = either p u v (at true) (at false) g (read p false v f) in
        changes (u / 2 ^ 63) (bit_or u v / 2 ^ 63) (highest_in p u (at true) g q next k) (highest_in p (bit_or u v) any h q next (or_lt 64 u v k l))
