-- Runs as texts that stand in a text: a run stands where it was read, and what passes and stands before a byte that does not is the run.
-- Assumes nothing. P is a test on bytes, s a text and p a place in it.
use mathlib.Core.Path.{◌≡◌, refl, sym, ap, subst, ◌∙◌}
use mathlib.Core.Bool.{Bool, true, false}
use mathlib.Core.List.{List}
use Prim.Native.Nat.{ℕ, zero, suc, ◌+◌, ◌-◌, ◌<◌, ◌≤◌}
use native.Mathlib.Omega.{arith}
use borrow.Author.Tests.{eq-eqb}
use lib.ListN.{length, get_or, take, drop}
use Rattle.read_bytes.specs.Bytes.{peek, starts, run_at, run_end, every}
use Rattle.read_bytes.proofs.Places.{drop_in, peek_in}
use Rattle.read_bytes.proofs.Runs.{every_at, run_every, end_reach, run_slice, run_byte, end_at_lem}
use Rattle.write_bytes.proofs.Standing.{Standing, stands_cut}

-- What is cut out of a text stands there.
cut_starts : (s : List ℕ) (n p : ℕ) → p + n ≤ length s → starts s p (take n (drop p s)) ≡ true
unfolding starts
cut_starts s zero p h = refl
cut_starts s (suc n) p h =
    let l : p < length s = omega arith in
    rw (drop_in s p 0 l, eq-eqb (get_or s p 0) (peek s p) (peek_in s p l)) (cut_starts s n (p + 1) (omega arith))

module _ (P : ℕ → Bool) (s : List ℕ) (p : ℕ) where
  pub run_stands : p ≤ length s → Standing s p (run_at P s p)
  unfolding run_end
  run_stands l =
      let r = end_reach P s p l in
      let e = run_slice P s p (run_end P s p) refl in
      record { bytes = subst (λ w. starts s p w ≡ true) e (cut_starts s (run_end P s p - p) p (omega (arith, r.ahead, r.inside))); inside = omega (arith, r.inside) }

  pub run_is : (w : List ℕ) → every P w ≡ true → Standing s p w → p + length w < length s → P (peek s (p + length w)) ≡ false → run_at P s p ≡ w
  run_is w h i l o =
      let cut : take (p + length w - p) (drop p s) ≡ w = (let n : p + length w - p ≡ length w = omega arith in rw n (stands_cut s p w i)) in
      let e = end_at_lem P s p (p + length w) (omega arith) l (rw cut h) o in
      sym (run_slice P s p (p + length w) (sym e)) ∙ cut

  -- Each byte of a run passes.
  pub run_passes : (j : ℕ) → p ≤ j → j < p + length (run_at P s p) → P (peek s j) ≡ true
  run_passes j l h =
      let b = run_byte P s p (j - p) (omega arith) in
      let n : j - p + p ≡ j = omega arith in
      let e : get_or (run_at P s p) (j - p) 0 ≡ peek s j = b.1 ∙ ap (λ (i : ℕ). get_or s i 0) n ∙ peek_in s j (omega (arith, b.0)) in
      rw (← e) (every_at P (run_at P s p) (run_every P s p) (j - p) (omega arith))
