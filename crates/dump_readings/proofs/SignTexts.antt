-- The text of signs' readings: sign by sign, tick by tick, and how long it is at most.
-- Assumes nothing. f x t is the sign of signal x at tick t.
use mathlib.Core.Path.{◌≡◌, ap}
use mathlib.Core.Bool.{Bool, true, false}
use mathlib.Core.List.{List, [], ◌∷◌, ◌++◌, flatten}
use Prim.Native.Nat.{ℕ, zero, suc, ◌+◌, ◌-◌, ◌*◌, ◌<◌, ◌≤◌}
use native.Mathlib.Numerals.{add-one}
use native.Mathlib.Omega.{arith}
use borrow.Author.Tests.{ne_eqb}
use lib.Dec.{eqb}
use lib.ListN.{length, get_or, length-append}
use Rattle.spec_limits.specs.Limits.{most_ticks, most_name_bytes}
use Rattle.spec_tilco.specs.Lists.{All}
use Rattle.read_bytes.specs.Bytes.{byte, pick}
use Rattle.read_reading.specs.Spans.{span}
use Rattle.write_readings.specs.EntryTexts.{entry_text, entries_text}
use Rattle.write_readings.proofs.Lengths.{entry_most}
use Rattle.write_readings.proofs.WholeTexts.{one_entry, entries_append}
use Rattle.spec_dump.specs.DumpSigns.{reading_of, readings_at, sign_readings}

module _ (names : List (List ℕ)) where
  -- A sign is written as a reading of 0, as one of 1, or not at all.
  module _ (x t : ℕ) {b : ℕ} where
    pub zero_text : b ≡ byte "0" → entries_text false names (reading_of x t b) ≡ entry_text false names (span x false t t)
    unfolding reading_of
    zero_text e = rw e (one_entry false names (span x false t t))

    pub one_text : b ≡ byte "1" → entries_text false names (reading_of x t b) ≡ entry_text false names (span x true t t)
    unfolding reading_of
    one_text e = rw e (one_entry false names (span x true t t))

    pub no_text : (b ≡ byte "0" → ⊥) → (b ≡ byte "1" → ⊥) → entries_text false names (reading_of x t b) ≡ []
    unfolding reading_of entries_text flatten
    no_text h k = rw (ne_eqb b (byte "0") h, ne_eqb b (byte "1") k)

  module _ (f : ℕ → ℕ → ℕ) where
    -- The text of n signals' signs at tick t, from x on, and that of n ticks from t on.
    abbrev pub signs_text : ℕ → ℕ → ℕ → List ℕ
    signs_text t x n = entries_text false names (readings_at f t x n)

    abbrev pub ticks_text : ℕ → ℕ → List ℕ
    ticks_text t n = entries_text false names (sign_readings f (length names) t n)

    -- A signal, and those after it.
    pub next_signal : (t x n : ℕ) → x < n → signs_text t x (n - x) ≡ entries_text false names (reading_of x t (f x t)) ++ signs_text t (x + 1) (n - (x + 1))
    unfolding readings_at
    next_signal t x n h =
        let k : n - x ≡ suc (n - (x + 1)) = omega arith in
        rw (k, add-one) (entries_append false names (reading_of x t (f x t)) (readings_at f t (suc x) (n - suc x)))

    pub no_signal : (t x n : ℕ) → n ≤ x → signs_text t x (n - x) ≡ []
    unfolding readings_at entries_text flatten
    no_signal t x n h = let k : n - x ≡ 0 = omega arith in rw k

    -- A tick, and those after it.
    pub next_tick : (t n : ℕ) → t < n → ticks_text t (n - t) ≡ signs_text t 0 (length names - 0) ++ ticks_text (t + 1) (n - (t + 1))
    unfolding sign_readings
    next_tick t n h =
        let k : n - t ≡ suc (n - (t + 1)) = omega arith in
        let all : length names - 0 ≡ length names = omega arith in
        rw (k, all, add-one) (entries_append false names (readings_at f t 0 (length names)) (sign_readings f (length names) (suc t) (n - suc t)))

    pub no_tick_lem : (t n : ℕ) → n ≤ t → ticks_text t (n - t) ≡ []
    unfolding sign_readings entries_text flatten
    no_tick_lem t n h = let k : n - t ≡ 0 = omega arith in rw k

-- ---- how long it is

name_most : (names : List (List ℕ)) (x : ℕ) → All (λ w. length w ≤ most_name_bytes) names → length (get_or names x []) ≤ most_name_bytes
name_most [] x h = omega arith
name_most (w ∷ names) zero h = h.0
name_most (w ∷ names) (suc x) h = name_most names x h.1

module _ (names : List (List ℕ)) (short : All (λ w. length w ≤ most_name_bytes) names) where
  entry_bytes : (x : ℕ) (v : Bool) (t : ℕ) → t < most_ticks → length (entry_text false names (span x v t t)) ≤ 50
  entry_bytes x v t h = entry_most false names (span x v t t) (name_most names x short) (omega arith) (omega arith)

  sign_most : (x t b : ℕ) → t < most_ticks → length (entries_text false names (reading_of x t b)) ≤ 50
  unfolding reading_of entries_text flatten
  sign_most x t b h = go (eqb b (byte "0")) (eqb b (byte "1"))
    where
      go : (y z : Bool) → length (entries_text false names (pick y (λ _. span x false t t ∷ []) (pick z (λ _. span x true t t ∷ []) []))) ≤ 50
      go true z = rw one_entry (entry_bytes x false t h)
      go false true = rw one_entry (entry_bytes x true t h)
      go false false = omega arith

  -- 50 bytes for each signal.
  pub signs_most : (f : ℕ → ℕ → ℕ) (t x n : ℕ) → t < most_ticks → length (signs_text names f t x n) ≤ 50 * n
  unfolding readings_at entries_text flatten
  signs_most f t x zero h = omega arith
  signs_most f t x (suc n) h =
      omega (
        arith,
        ap length (entries_append false names (reading_of x t (f x t)) (readings_at f t (suc x) n)),
        length-append (entries_text false names (reading_of x t (f x t))) (signs_text names f t (suc x) n),
        sign_most x t (f x t) h,
        signs_most f t (suc x) n h,
      )
