-- A text cut off at an LF: the names that stand before the LF are the same.
-- Assumes nothing.
use mathlib.Core.Path.{◌≡◌, refl}
use mathlib.Core.Bool.{Bool, true, false}
use mathlib.Core.List.{List, [], ◌∷◌}
use Prim.Native.Nat.{ℕ, zero, suc, ◌<◌, ◌≤◌}
use native.Mathlib.Omega.{arith}
use lib.ListN.{length, get_or, take}
use Rattle.read_bytes.specs.Bytes.{byte, peek, name_byte, run, run_at}
use Rattle.read_names.specs.Spellings.{spelling_at, names_at}
use Rattle.read_bytes.proofs.Places.{peek_in}
use Rattle.spec_tilco.specs.Lists.{All}

module _ (P : ℕ → Bool) where
  -- A run ends at a byte that does not pass, whether or not the text goes on there.
  run_cut : (l : List ℕ) (k : ℕ) → k < length l → P (get_or l k 0) ≡ false → run P (take k l) ≡ run P l
  unfolding run
  run_cut [] k h e = let z : ⊥ = omega arith in absurd z
  run_cut (x ∷ l) zero h e = rw e
  run_cut (x ∷ l) (suc k) h e = let i : k < length l = omega arith in go (P x) refl (run_cut l k i e)
    where
      go : (b : Bool) → P x ≡ b → run P (take k l) ≡ run P l → run P (x ∷ take k l) ≡ run P (x ∷ l)
      go true f i = rw (f, i)
      go false f i = rw f

  -- The same for a run from a place before that byte on.
  run_kept : (s : List ℕ) (p e : ℕ) → p ≤ e → e < length s → P (get_or s e 0) ≡ false → run_at P (take e s) p ≡ run_at P s p
  unfolding run_at
  run_kept s zero e h l f = run_cut s e l f
  run_kept [] (suc p) e h l f = let z : ⊥ = omega arith in absurd z
  run_kept (x ∷ s) (suc p) zero h l f = let z : ⊥ = omega arith in absurd z
  run_kept (x ∷ s) (suc p) (suc e) h l f =
      let i : p ≤ e = omega arith in
      let j : e < length s = omega arith in
      run_kept s p e i j f

module _ (s : List ℕ) (e : ℕ) (l : e < length s) (lf : peek s e ≡ byte "\n") where
  -- A spelling that stands before the LF is the same.
  word_kept : (p : ℕ) → p ≤ e → spelling_at (take e s) p ≡ spelling_at s p
  unfolding name_byte
  word_kept p h = run_kept name_byte s p e h l (rw (peek_in s e l, lf))

  -- And so are the names at places before it.
  pub names_kept : (places : List ℕ) → All (λ v. v ≤ e) places → names_at (take e s) places ≡ names_at s places
  unfolding names_at
  names_kept [] h = refl
  names_kept (p ∷ places) h = rw (word_kept p h.0, names_kept places h.1)
