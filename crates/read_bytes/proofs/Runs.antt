-- Runs of bytes that pass a test: byte by byte, where they end, and that they are a part of the text.
-- Assumes nothing.
use mathlib.Core.Path.{◌≡◌, refl, ap, ◌∙◌}
use mathlib.Core.Bool.{Bool, true, false, and-eq-true_iff}
use mathlib.Core.List.{List, [], ◌∷◌}
use Prim.Native.Nat.{ℕ, zero, suc, ◌+◌, ◌-◌, ◌<◌, ◌≤◌}
use native.Mathlib.Omega.{arith}
use lib.ListN.{length, get_or, take, drop, drop_of_length-le, length-drop}
use lib.Seq.{drop-drop, get_or-drop, get_or-take}
use Rattle.read_bytes.specs.Bytes.{peek, pick, run, run_at, run_end, every}
use Rattle.read_bytes.proofs.Places.{Reach, drop_in, peek_in}

module _ (P : ℕ → Bool) (s : List ℕ) (p : ℕ) where
  step : p < length s → run_at P s p ≡ pick (P (get_or s p 0)) (λ _. get_or s p 0 ∷ run_at P s (p + 1)) []
  unfolding run_at run
  step h = ap (run P) (drop_in s p 0 h)

  pub run_more : p < length s → P (get_or s p 0) ≡ true → run_at P s p ≡ get_or s p 0 ∷ run_at P s (p + 1)
  run_more h e = step h ∙ rw e

  pub run_none : p < length s → P (get_or s p 0) ≡ false → run_at P s p ≡ []
  run_none h e = step h ∙ rw e

  pub run_past : length s ≤ p → run_at P s p ≡ []
  unfolding run_at run
  run_past h = rw (drop_of_length-le s h)

  pub end_more : p < length s → P (get_or s p 0) ≡ true → run_end P s p ≡ run_end P s (p + 1)
  unfolding run_end
  end_more h e = omega (arith, ap length (run_more h e))

  pub end_here : p < length s → P (get_or s p 0) ≡ false → run_end P s p ≡ p
  unfolding run_end
  end_here h e = omega (arith, ap length (run_none h e))

  pub end_past : length s ≤ p → run_end P s p ≡ p
  unfolding run_end
  end_past h = omega (arith, ap length (run_past h))

-- A byte of a text that passes whole.
pub every_at : (P : ℕ → Bool) (l : List ℕ) → every P l ≡ true → (k : ℕ) → k < length l → P (get_or l k 0) ≡ true
unfolding every
every_at P [] h k n = absurd (omega arith)
every_at P (x ∷ l) h zero n = ((and-eq-true_iff (P x) (every P l)).0 h).0
every_at P (x ∷ l) h (suc k) n = every_at P l ((and-eq-true_iff (P x) (every P l)).0 h).1 k (omega arith)

module _ (P : ℕ → Bool) where
  run_part : (l : List ℕ) → take (length (run P l)) l ≡ run P l
  unfolding run
  run_part [] = refl
  run_part (x ∷ l) = go (P x) refl (run_part l)
    where
      go : (b : Bool) → P x ≡ b → take (length (run P l)) l ≡ run P l → take (length (run P (x ∷ l))) (x ∷ l) ≡ run P (x ∷ l)
      go true e h = rw (e, h)
      go false e h = rw e

  run_short : (l : List ℕ) → length (run P l) ≤ length l
  unfolding run
  run_short [] = omega arith
  run_short (x ∷ l) = go (P x) refl (run_short l)
    where
      go : (b : Bool) → P x ≡ b → length (run P l) ≤ length l → length (run P (x ∷ l)) ≤ length (x ∷ l)
      go true e h = rw e (omega arith)
      go false e h = rw e (omega arith)

  every_run : (l : List ℕ) → every P (run P l) ≡ true
  unfolding run every
  every_run [] = refl
  every_run (x ∷ l) = go (P x) refl (every_run l)
    where
      go : (b : Bool) → P x ≡ b → every P (run P l) ≡ true → every P (run P (x ∷ l)) ≡ true
      go true e h = rw (e, e, h)
      go false e h = rw e

  -- The bytes of a run pass, and the byte after it does not.
  pub run_every : (s : List ℕ) (p : ℕ) → every P (run_at P s p) ≡ true
  unfolding run_at
  run_every s p = every_run (drop p s)

  stop_at : (l : List ℕ) → length (run P l) < length l → P (get_or l (length (run P l)) 0) ≡ false
  unfolding run
  stop_at [] h = let w : ⊥ = omega arith in absurd w
  stop_at (x ∷ l) h = go (P x) refl (stop_at l) h
    where
      go : (b : Bool) → P x ≡ b → (length (run P l) < length l → P (get_or l (length (run P l)) 0) ≡ false) → length (run P (x ∷ l)) < length (x ∷ l) → P (get_or (x ∷ l) (length (run P (x ∷ l))) 0) ≡ false
      go true e k i = rw e (k (let j = rw e at i in omega arith))
      go false e k i = rw (e, e)

  pub end_stops : (s : List ℕ) (p : ℕ) → run_end P s p < length s → P (peek s (run_end P s p)) ≡ false
  unfolding run_end run_at
  end_stops s p h =
      let l = length-drop p s in
      let k = stop_at (drop p s) (omega arith) in
      rw (← peek_in s (p + length (run P (drop p s))) h, ← get_or-drop p s (length (run P (drop p s))) 0) k

  pub end_reach : (s : List ℕ) (p : ℕ) → p ≤ length s → Reach s p (run_end P s p)
  unfolding run_end run_at
  end_reach s p h =
      let w = run_short (drop p s) in
      let l = length-drop p s in
      record { ahead = omega arith; inside = omega arith }

  -- The run, cut out of the text.
  pub run_slice : (s : List ℕ) (p e : ℕ) → e ≡ run_end P s p → take (e - p) (drop p s) ≡ run_at P s p
  unfolding run_end run_at
  run_slice s p e h =
      let n : e - p ≡ length (run P (drop p s)) = omega arith in
      rw n (run_part (drop p s))

  -- A run that is not empty is inside the text, byte by byte.
  pub run_byte : (s : List ℕ) (p k : ℕ) → k < length (run_at P s p) → (p + length (run_at P s p) ≤ length s) × (get_or (run_at P s p) k 0 ≡ get_or s (k + p) 0)
  unfolding run_end run_at
  run_byte s p k h =
      let w = run_short (drop p s) in
      let l = length-drop p s in
      let n : p + k ≡ k + p = omega arith in
      (omega arith, rw (← run_part (drop p s), get_or-take, get_or-drop, n))

  -- Bytes that pass, and one after them that does not, are a run.
  run_to : (n : ℕ) (l : List ℕ) → n < length l → every P (take n l) ≡ true → P (get_or l n 0) ≡ false → length (run P l) ≡ n
  unfolding run every
  run_to n [] h a o = absurd (omega arith)
  run_to zero (x ∷ l) h a o = rw o
  run_to (suc n) (x ∷ l) h a o =
      let w = (and-eq-true_iff (P x) (every P (take n l))).0 a in
      let k = run_to n l (omega arith) w.1 o in
      rw w.0 (omega arith)

  pub end_at_lem : (s : List ℕ) (p e : ℕ) → p ≤ e → e < length s → every P (take (e - p) (drop p s)) ≡ true → P (peek s e) ≡ false → run_end P s p ≡ e
  unfolding run_end run_at
  end_at_lem s p e l h a o =
      let n : p + (e - p) ≡ e = omega arith in
      let b : P (get_or (drop p s) (e - p) 0) ≡ false = rw (get_or-drop p s (e - p) 0, n, peek_in s e h) o in
      omega (arith, run_to (e - p) (drop p s) (omega (arith, length-drop p s)) a b)

-- Where all that passes P passes Q too, a run of P ends inside that of Q.
module _ (P Q : ℕ → Bool) (sub : (b : ℕ) → P b ≡ true → Q b ≡ true) where
  run_within : (l : List ℕ) → length (run Q l) ≡ length (run P l) + length (run Q (drop (length (run P l)) l))
  unfolding run
  run_within [] = omega arith
  run_within (x ∷ l) = go (P x) refl (run_within l)
    where
      go : (b : Bool) → P x ≡ b → length (run Q l) ≡ length (run P l) + length (run Q (drop (length (run P l)) l)) → length (run Q (x ∷ l)) ≡ length (run P (x ∷ l)) + length (run Q (drop (length (run P (x ∷ l))) (x ∷ l)))
      go true e h = rw (e, sub x e) (omega arith)
      go false e h = rw e (omega arith)

  pub end_within : (s : List ℕ) (p : ℕ) → run_end Q s p ≡ run_end Q s (run_end P s p)
  unfolding run_end run_at
  end_within s p = omega (arith, run_within (drop p s), ap (λ l. length (run Q l)) (drop-drop (length (run P (drop p s))) p s))
