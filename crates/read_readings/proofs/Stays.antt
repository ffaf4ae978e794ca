-- Readers stay in their text: the place after what is read, and the place of a refusal, are at most the text's length.
-- Assumes that of the place where reading starts.
use mathlib.Core.Path.{◌≡◌, refl}
use mathlib.Core.Bool.{Bool, true, false}
use mathlib.Core.List.{List, []}
use Prim.Native.Nat.{ℕ, ◌+◌, ◌-◌, ◌≤◌}
use native.Mathlib.Omega.{arith}
use lib.Dec.{ltb, leb}
use lib.ListN.{length}
use Rattle.spec_limits.specs.Limits.{most_bytes}
use Rattle.read_bytes.specs.Read.{Read}
use Rattle.read_bytes.specs.Read.Read.{got, refused}
use Rattle.read_bytes.specs.Bytes.{bytes}
use Rattle.read_names.specs.Spellings.{spelling_at, find_name}
use Rattle.read_lines.specs.Lines.{ranged_line, name_line, up_to}
use Rattle.read_reading.specs.OneEntry.{known_line, tick_line, first_key, to_line, last_tick, entry}
use Rattle.read_reading.proofs.Lines.{ranged_long}
use Rattle.read_readings.specs.Readings.{in_spans, entries}
use Rattle.read_lines.proofs.Stays.{Stays, Any, then_stays, pick_stays, up_stays, ranged_stays, name_stays, stays_got, stays_refused}

-- A line with a declared name.
known_stays : (s : List ℕ) (p : ℕ) → p ≤ length s → (names : List (List ℕ)) → Stays Any (length s) (known_line names s p)
unfolding known_line
known_stays s p h names =
    then_stays Any (length s) (λ v. v ≤ length s) (name_line s p (bytes "signal=") 11 12) _ (name_stays s p h (bytes "signal=") 11 12)
    (λ v q f i l. pick_stays Any (length s) (ltb (find_name (spelling_at s v) names) (length names)) (got (find_name (spelling_at s v) names) q) (refused 12 v) (λ _. (tt, l)) i)

-- The line `to=`, and the last tick.
to_stays : (r : List ℕ) (p : ℕ) → p ≤ length r → (W f : ℕ) → Stays Any (length r) (to_line W r f p)
unfolding to_line
to_stays r p h W f =
    then_stays Any (length r) (λ l. p + length (bytes "to=") ≤ length r) (tick_line W r p (bytes "to=")) _ (tick_stays (tick_line W r p (bytes "to=")) refl)
    (λ l q g i j. pick_stays Any (length r) (leb f l) (got l q) (refused 21 (p + length (bytes "to="))) (λ _. (tt, j)) i)
  where
    tick_stays : (R : Read ℕ) → tick_line W r p (bytes "to=") ≡ R → Stays (λ l. p + length (bytes "to=") ≤ length r) (length r) R
    tick_stays (got l q) e =
        let w = stays_got Any (length r) (ranged_stays r p h (bytes "to=") 11 13 0 (W - 1)) e in
        (omega (arith, ranged_long r p (bytes "to=") 11 13 0 (W - 1) e, w.1), w.1)
    tick_stays (refused n k) e = stays_refused Any (length r) (ranged_stays r p h (bytes "to=") 11 13 0 (W - 1)) e

last_stays : (spans : Bool) (r : List ℕ) (p : ℕ) → p ≤ length r → (W f : ℕ) → Stays Any (length r) (last_tick spans W r f p)
last_stays false r p h W f = (tt, h)
last_stays true r p h W f = to_stays r p h W f

module _ (names : List (List ℕ)) (W : ℕ) (r : List ℕ) where
  -- an entry
  entry_stays : (spans : Bool) (p : ℕ) → p ≤ length r → Stays Any (length r) (entry spans names W r p)
  unfolding entry
  entry_stays spans p h =
      then_stays Any (length r) Any (tick_line W r p (first_key spans)) _ (ranged_stays r p h (first_key spans) 11 13 0 (W - 1))
      (λ f i _ _ g.
      then_stays Any (length r) Any (last_tick spans W r f i) _ (last_stays spans r i g W f)
      (λ l q _ _ m.
      then_stays Any (length r) Any (known_line names r q) _ (known_stays r q m names)
      (λ x u _ _ k.
      then_stays Any (length r) Any (ranged_line r u (bytes "value=") 11 14 0 1) _ (ranged_stays r u k (bytes "value=") 11 14 0 1) (λ v y _ _ j. (tt, j)))))

  -- The entries of a text.
  pub entries_stay : Stays Any (length r) (entries names W r)
  unfolding entries
  entries_stay =
      pick_stays Any (length r) (leb (length r) most_bytes) (up_to (entry (in_spans r) names W r) (length r) (length r) [] 0) (refused 10 0)
      (λ _. up_stays (length r) (entry (in_spans r) names W r) (length r) (entry_stays (in_spans r)) (length r) [] 0 (omega arith)) (omega arith)

  -- A refusal's place is at most the text's length.
  pub refusal_inside : {n p : ℕ} → entries names W r ≡ refused n p → p ≤ length r
  refusal_inside e = stays_refused Any (length r) entries_stay e
