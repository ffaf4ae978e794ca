-- Writes to the row buffer one after the other, and runs of rows that a loop writes.
-- Assumes nothing.
use mathlib.Core.Path.{◌≡◌, refl, sym, ap, ◌∙◌}
use mathlib.Core.Bool.{Bool}
use mathlib.Core.List.{List, [], ◌∷◌, ◌++◌, map, map-append}
use Prim.Native.Nat.{ℕ, zero, suc, ◌+◌, ◌≤◌, ◌<◌}
use native.Mathlib.Nat.{add-zero, add-suc, suc-add}
use native.Mathlib.Numerals.{add-one}
use native.Mathlib.Omega.{arith}
use lib.ListN.{length, set, length-append, length-set}
use lib.Seq.{sets, length-sets}
use Rattle.std.specs.Prelude.{Option, Some, None}
use Rattle.spec_tilco.specs.Lists.{tab}
use Rattle.spec_tilco.specs.Inference.{Node, gate, look}
use Rattle.spec_tilco.specs.Lowering.{joined}
use Rattle.lower_rows.specs.RowCodes.{row_code}
use Rattle.lower_rows.specs.RowWrites.{RowBuffer, Fits, looks, gates, last_gate, WroteRows, Spreads}
use Rattle.lower_rows.specs.declared.words.Lowered.{Lowered}

-- Two runs of stores are one.
pub sets_append : (m : List ℕ) (b : ℕ) (ws vs : List ℕ) → sets (sets m b ws) (b + length ws) vs ≡ sets m b (ws ++ vs)
sets_append m b [] vs = rw add-zero
sets_append m b (w ∷ ws) vs = rw (add-suc, ← suc-add) (sets_append (set m b w) (suc b) ws vs)

-- What is known where the row codes fit.
pub fits : {ws : List ℕ} {t b : ℕ} {m m₁ : List ℕ} {v : Lowered} → WroteRows ws t b m m₁ (Some v) → Fits ws t b m m₁ v.row v.used
unfolding WroteRows
fits h = h

-- After a writer the buffer is a row buffer with other rows in use.
pub buffer_on : {m m₁ : List ℕ} {b u : ℕ} → RowBuffer m b → u ≤ length m → length m₁ ≡ length m → RowBuffer m₁ u
buffer_on B room long = record { few = omega (arith, B.few); used_in = omega arith }

-- One write after another is one write, whatever the second answers.
pub and_then_lem : (ws vs : List ℕ) (t t' b : ℕ) (m m₁ m₂ : List ℕ) (v : Lowered) (r : Option Lowered)
    → WroteRows ws t b m m₁ (Some v) → WroteRows vs t' v.used m₁ m₂ r → WroteRows (ws ++ vs) t' b m m₂ r
unfolding WroteRows
and_then_lem ws vs t t' b m m₁ m₂ v (Some w) R k = record {
  top = k.top;
  next = omega (arith, length-append ws vs);
  room = omega arith;
  holds = k.holds ∙ rw (R.holds, R.next) (sets_append m b ws vs);
  long = k.long ∙ R.long;
}
and_then_lem ws vs t t' b m m₁ m₂ v None R k = record { over = omega (arith, length-append ws vs); long = k.long ∙ R.long }

-- Where the first part does not fit, the whole does not.
pub no_room : (ws vs : List ℕ) (t t' b : ℕ) (m m₁ : List ℕ) → WroteRows ws t b m m₁ None → WroteRows (ws ++ vs) t' b m m₁ None
unfolding WroteRows
no_room ws vs t t' b m m₁ k = record { over = omega (arith, length-append ws vs); long = k.long }

-- One row code more fits.
pub stored : (w b : ℕ) (m : List ℕ) → b < length m → WroteRows (w ∷ []) b b m (set m b w) (Some (record { row = b; used = b + 1 }))
unfolding WroteRows
stored w b m h = record { top = refl; next = refl; room = omega arith; holds = refl; long = length-set m b w }

-- It does not.
pub not_stored : (w b : ℕ) (m : List ℕ) → length m ≤ b → WroteRows (w ∷ []) b b m m None
unfolding WroteRows
not_stored w b m h = record { over = omega arith; long = refl }

-- Nothing is written.
pub nothing : (t b : ℕ) (m : List ℕ) → b ≤ length m → WroteRows [] t b m m (Some (record { row = t; used = b }))
unfolding WroteRows
nothing t b m h = record { top = refl; next = rw add-zero; room = h; holds = refl; long = refl }

-- A run of rows that grows by one at the end: r i is the row that comes after i rows.
module _ (R : ℕ → List Node) (r : ℕ → Node) (start : R zero ≡ []) (next : (i : ℕ) → R (suc i) ≡ R i ++ (r i ∷ [])) where
  -- It has n row codes.
  pub run_length : (n : ℕ) → length (map row_code (R n)) ≡ n
  run_length zero = rw start
  run_length (suc n) = rw (next n, map-append, length-append, run_length n) (add-one n)

  -- One more of them stored.
  pub run_step : (m : List ℕ) (b i : ℕ) → set (sets m b (map row_code (R i))) (b + i) (row_code (r i)) ≡ sets m b (map row_code (R (i + 1)))
  run_step m b i =
      rw (add-one i, next i, map-append)
      (ap (λ (k : ℕ). set (sets m b (map row_code (R i))) (b + k) (row_code (r i))) (sym (run_length i)) ∙ sets_append m b (map row_code (R i)) (row_code (r i) ∷ []))

  -- None of them stored yet.
  pub run_none : (m : List ℕ) (b : ℕ) → m ≡ sets m b (map row_code (R 0))
  run_none m b = rw start

  -- All n of them stored.
  pub run_done : (t n b : ℕ) (m m' : List ℕ) → b + n ≤ length m → m' ≡ sets m b (map row_code (R n)) → WroteRows (map row_code (R n)) t b m m' (Some (record { row = t; used = b + n }))
  unfolding WroteRows
  run_done t n b m m' h e = record {
    top = refl;
    next = ap (λ (k : ℕ). b + k) (sym (run_length n));
    room = h;
    holds = e;
    long = ap length e ∙ length-sets m b (map row_code (R n));
  }

  -- They do not fit.
  pub run_full : (t n b : ℕ) (m : List ℕ) → length m < b + n → WroteRows (map row_code (R n)) t b m m None
  unfolding WroteRows
  run_full t n b m h = record { over = omega (arith, run_length n); long = refl }

tab_snoc : (f : ℕ → Node) (n : ℕ) → tab f (suc n) ≡ tab f n ++ (f n ∷ [])
tab_snoc f zero = refl
tab_snoc f (suc n) = ap (λ (l : List Node). f 0 ∷ l) (tab_snoc (λ k. f (suc k)) n)

pub looks_start : (x lo : ℕ) → looks x lo zero ≡ []
unfolding looks
looks_start x lo = refl

pub looks_next : (x lo i : ℕ) → looks x lo (suc i) ≡ looks x lo i ++ (look (lo + i) x ∷ [])
unfolding looks
looks_next x lo i = tab_snoc (λ j. look (lo + j) x) i

pub gates_start : (g : Bool) (i b : ℕ) → gates g i b zero ≡ []
unfolding gates
gates_start g i b = refl

pub gates_next : (g : Bool) (i b k : ℕ) → gates g i b (suc k) ≡ gates g i b k ++ (gate g (last_gate i b k) (i + suc k) ∷ [])
unfolding gates last_gate
gates_next g i b k = tab_snoc (λ j. gate g (joined i b j) (i + suc j)) k

-- The gate just written is the last.
pub last_next : (i b k : ℕ) → b + k ≡ last_gate i b (k + 1)
unfolding last_gate
last_next i b k = rw (add-one k)

-- Its right child is the next row of those to be joined.
pub gate_row : (g : Bool) (x i k : ℕ) → row_code (gate g x (i + k + 1)) ≡ row_code (gate g x (i + suc k))
gate_row g x i k = let e : i + k + 1 ≡ i + suc k = omega arith in ap (λ (y : ℕ). row_code (gate g x y)) e

-- The looks of an interval were tried: the joins follow.
module _ (g : Bool) (lo k x b : ℕ) (m m₁ : List ℕ) where
  pub spread_full : WroteRows (map row_code (looks x lo (k + 1))) b b m m₁ None → Spreads g lo k x b m m₁ None
  unfolding Spreads
  spread_full w = rw map-append (no_room _ _ _ _ _ _ _ (rw add-one at w))

  pub spread_then : (v : Lowered) (m₂ : List ℕ) (r : Option Lowered) → WroteRows (map row_code (looks x lo (k + 1))) b b m m₁ (Some v)
      → WroteRows (map row_code (gates g b v.used k)) (last_gate b v.used k) v.used m₁ m₂ r → Spreads g lo k x b m m₂ r
  unfolding Spreads
  spread_then v m₂ r w h =
      let R = fits w in
      let n : v.used ≡ b + suc k = omega (arith, run_length (looks x lo) _ (looks_start x lo) (looks_next x lo) (k + 1)) in
      rw (map-append, ← n) (and_then_lem _ _ _ _ _ _ _ _ _ _ (rw add-one at w) h)
