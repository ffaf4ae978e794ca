-- What stands before a text only moves the places of its entries, and what stands after it changes no entry that was read.
-- Assumes nothing.
use mathlib.Core.Path.{◌≡◌, refl, sym, ap, ◌∙◌}
use mathlib.Core.Bool.{Bool, true, false}
use mathlib.Core.List.{List, ◌++◌}
use Prim.Native.Nat.{ℕ, ◌+◌, ◌-◌}
use native.Mathlib.Nat.{add_assoc}
use lib.Dec.{leb, ltb}
use lib.ListN.{length}
use Rattle.read_bytes.specs.Read.Read.{got, refused}
use Rattle.read_bytes.specs.Bytes.{bytes, name_byte}
use Rattle.read_names.specs.Spellings.{spelling_at, find_name}
use Rattle.read_lines.specs.Lines.{ranged_line, name_line}
use Rattle.read_bytes.proofs.Answers.{came}
use Rattle.read_bytes.proofs.Later.{later, pick_map, run_at_later}
use Rattle.read_lines.proofs.LinesLater.{then_moved, ranged_line_later, name_line_later}
use Rattle.read_lines.proofs.Prefix.{ranged_line_kept, name_line_kept, word_kept}
use Rattle.read_reading.specs.Spans.{Span}
use Rattle.read_reading.specs.OneEntry.{known_line, tick_line, first_key, to_line, last_tick, entry}
use Rattle.read_reading.proofs.Lines.{to_line_lem, to_is, lines_of, entry_is}

-- ---- after a text

module _ (u t : List ℕ) where
  -- A line with a declared name.
  pub known_line_later : (names : List (List ℕ)) (i : ℕ) → known_line names (u ++ t) (length u + i) ≡ later (length u) (known_line names t i)
  unfolding known_line
  known_line_later names i =
      rw (name_line_later u t i (bytes "signal=") 11 12)
      (then_moved (λ v. length u + v) (λ x. x) (length u) (name_line t i (bytes "signal=") 11 12) _ _
      (λ v q. rw (run_at_later u t v name_byte) (pick_map (later (length u)) (ltb (find_name (spelling_at t v) names) (length names)) (got (find_name (spelling_at t v) names) q) (refused 12 v))))

  -- The line `to=`.
  to_line_later : (W f i : ℕ) → to_line W (u ++ t) f (length u + i) ≡ later (length u) (to_line W t f i)
  unfolding to_line
  to_line_later W f i =
      rw (ranged_line_later u t i (bytes "to=") 11 13 0 (W - 1), add_assoc (length u) i (length (bytes "to=")))
      (then_moved (λ l. l) (λ l. l) (length u) (tick_line W t i (bytes "to=")) _ _
      (λ l q. pick_map (later (length u)) (leb f l) (got l q) (refused 21 (i + length (bytes "to=")))))

  last_later : (spans : Bool) (W f i : ℕ) → last_tick spans W (u ++ t) f (length u + i) ≡ later (length u) (last_tick spans W t f i)
  last_later false W f i = refl
  last_later true W f i = to_line_later W f i

  -- An entry.
  pub entry_later : (spans : Bool) (names : List (List ℕ)) (W i : ℕ) → entry spans names W (u ++ t) (length u + i) ≡ later (length u) (entry spans names W t i)
  unfolding entry
  entry_later spans names W i =
      rw (ranged_line_later u t i (first_key spans) 11 13 0 (W - 1))
      (then_moved (λ k. k) (λ m. m) (length u) (tick_line W t i (first_key spans)) _ _
      (λ f q. rw (last_later spans W f q)
      (then_moved (λ k. k) (λ m. m) (length u) (last_tick spans W t f q) _ _
      (λ l j. rw (known_line_later names j)
      (then_moved (λ x. x) (λ m. m) (length u) (known_line names t j) _ _
      (λ x v. rw (ranged_line_later u t v (bytes "value=") 11 14 0 1)
      (then_moved (λ b. b) (λ m. m) (length u) (ranged_line t v (bytes "value=") 11 14 0 1) _ _ (λ b e. refl))))))))

-- ---- before one

module _ (r x : List ℕ) where
  -- A line with a declared name.
  pub known_line_kept : (names : List (List ℕ)) (p : ℕ) {i q : ℕ} → known_line names r p ≡ got i q → known_line names (r ++ x) p ≡ got i q
  unfolding known_line
  known_line_kept names p e =
      let d = came (name_line r p (bytes "signal=") 11 12) _ e in
      rw (name_line_kept r x p (bytes "signal=") 11 12 d.first, word_kept r x p (bytes "signal=") 11 12 d.first) d.then

  last_kept : (spans : Bool) (W f p : ℕ) {l q : ℕ} → last_tick spans W r f p ≡ got l q → last_tick spans W (r ++ x) f p ≡ got l q
  last_kept false W f p e = e
  last_kept true W f p e =
      let t = to_line_lem W r f p e in
      sym (to_is W (r ++ x) f p (ranged_line_kept r x p (bytes "to=") 11 13 0 (W - 1) t.line) refl t.order)

  -- An entry.
  pub entry_kept : (spans : Bool) (names : List (List ℕ)) (W p : ℕ) {e : Span} {q : ℕ} → entry spans names W r p ≡ got e q → entry spans names W (r ++ x) p ≡ got e q
  entry_kept spans names W p {e} {q} h =
      let l = lines_of spans names W r p h in
      let a = ranged_line_kept r x p (first_key spans) 11 13 0 (W - 1) l.first_line in
      let b = last_kept spans W l.first l.second l.last_tick_lem in
      let d = known_line_kept names l.third l.signal_line_lem in
      let v = ranged_line_kept r x l.fourth (bytes "value=") 11 14 0 1 l.value_line in
      sym (entry_is spans names W (r ++ x) p a b d v) ∙ ap (λ k. got k q) l.is
