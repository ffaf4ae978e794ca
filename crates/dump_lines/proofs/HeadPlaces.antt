-- The readers of the lines up to `#0` stay in the dump.
-- Assumes that of the place where reading starts.
use mathlib.Core.List.{List, [], ◌∷◌}
use Prim.Native.Nat.{ℕ, zero, suc, ◌+◌, ◌<◌, ◌≤◌}
use native.Mathlib.Omega.{arith}
use lib.Dec.{ltb, eqb}
use lib.ListN.{length}
use Rattle.read_bytes.specs.Read.{Read, and_then}
use Rattle.read_bytes.specs.Read.Read.{got, refused}
use Rattle.read_bytes.specs.Bytes.{bytes}
use Rattle.read_names.specs.Spellings.{find_name}
use Rattle.read_lines.specs.Lines.{keyed_at}
use Rattle.read_lines.proofs.ValueFirst.{keyed_is}
use Rattle.read_lines.proofs.Stays.{Stays, Any, then_stays, pick_stays}
use Rattle.spec_dump.specs.DumpLines.{one_of_texts, scales, units, timescale_line, var_form, var_name, named_var, var_line, var_lines, head_end, head_lines}
use Rattle.dump_lines.proofs.VarForms.{form_said, form_stays}

module _ (d : List ℕ) (p : ℕ) (h : p ≤ length d) where
  -- One of some texts, and what goes on from there,
  pub texts_stay : (q : ℕ) (ws : List (List ℕ)) → Stays Any (length d) (one_of_texts d p q ws)
  unfolding one_of_texts
  texts_stay q [] = h
  texts_stay q (w ∷ ws) =
      pick_stays Any (length d) (keyed_at d q w) (got 0 (q + length w)) (one_of_texts d p q ws) (λ k. (tt, (keyed_is d q w k).0)) (texts_stay q ws)

  texts_then : (q : ℕ) (ws : List (List ℕ)) (K : ℕ → ℕ → Read ℕ) → ((a r : ℕ) → r ≤ length d → Stays Any (length d) (K a r)) → Stays Any (length d) (and_then (one_of_texts d p q ws) K)
  texts_then q ws K f = then_stays Any (length d) Any (one_of_texts d p q ws) K (texts_stay q ws) (λ a r e x l. f a r l)

  -- the line of the timescale,
  pub timescale_stays : Stays Any (length d) (timescale_line d p)
  unfolding timescale_line
  timescale_stays = texts_then p (bytes "$timescale " ∷ []) _ (λ a q l. texts_then q scales _ (λ b r m. texts_stay r units))

-- the lines after those of the signals,
pub end_stays : (d : List ℕ) (p : ℕ) → p ≤ length d → Stays Any (length d) (head_end d p)
unfolding head_end
end_stays d p h =
    texts_then d p h p (bytes "$upscope $end\n" ∷ []) _
    (λ a q l. texts_then d q l q (bytes "$enddefinitions $end\n" ∷ []) _ (λ b r m. texts_stay d r m r (bytes "#0\n" ∷ [])))

-- the line of a signal,
named_stays : (L N x p v e f : ℕ) → p ≤ L → v ≤ L → e < L → Stays Any L (named_var N x p v e f)
unfolding named_var
named_stays L N x p v e f h i l =
    pick_stays Any L (eqb f x) (got x (e + 1)) _ (λ _. (tt, omega arith)) (pick_stays Any L (ltb f N) (refused 22 p) (refused 12 v) (λ _. h) i)

module _ (names : List (List ℕ)) (d : List ℕ) where
  pub var_stays : (x p : ℕ) → p ≤ length d → Stays Any (length d) (var_line names d x p)
  unfolding var_line
  var_stays x p h =
      then_stays Any (length d) (λ v. v ≤ length d) (var_form d x p) _ (form_stays d x p h)
      (λ v e f i l. named_stays (length d) (length names) x p v e (find_name (var_name d v e) names) h i (form_said d x p f).0.inside)

  -- those of n signals,
  pub vars_stay : (n x p : ℕ) → p ≤ length d → Stays Any (length d) (var_lines names d n x p)
  unfolding var_lines
  vars_stay zero x p h = (tt, h)
  vars_stay (suc n) x p h = then_stays Any (length d) Any (var_line names d x p) _ (var_stays x p h) (λ a q e i l. vars_stay n (suc x) q l)

  -- and all of them.
  pub head_stays : Stays Any (length d) (head_lines names d)
  unfolding head_lines
  head_stays =
      then_stays Any (length d) Any (timescale_line d 0) _ (timescale_stays d 0 (omega arith))
      (λ a p e i l. texts_then d p l p (bytes "$scope module sheet $end\n" ∷ []) _
      (λ b q m. then_stays Any (length d) Any (var_lines names d (length names) 0 q) _ (vars_stay (length names) 0 q m) (λ g r f j k. end_stays d r k)))
