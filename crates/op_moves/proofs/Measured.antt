-- A text's length added up piece by piece up to a limit: how it starts, goes on, stops past the limit, and ends.
-- Assumes nothing. `total` is where the text ends, u where its pieces so far do, `rest` how much is left.
use mathlib.Core.Path.{◌≡◌, ap, ◌∙◌}
use mathlib.Core.Bool.{Bool, true, false}
use mathlib.Core.List.{List}
use Prim.Native.Nat.{ℕ, ◌+◌, ◌-◌, ◌<◌, ◌≤◌}
use native.Mathlib.Decide.{dec_lt}
use native.Mathlib.Omega.{arith}
use lib.ListN.{length, length-append}
use Rattle.read_reading.specs.Spans.{Span, span}
use Rattle.write_readings.specs.EntryTexts.{entry_text, entries_text}
use Rattle.write_readings.proofs.WholeTexts.{one_entry}
use Rattle.join_spans.specs.Joining.{merged, singles_from, singles}
use Rattle.join_spans.specs.Runs.{in_row, spans_from, RunFrom}
use Rattle.op_moves.specs.Measures.{Measures}
use Rattle.op_moves.specs.MovedText.{run_entries, moved_text}
use Rattle.op_moves.proofs.RunTexts.{runs_text, moved_runs, next_run, no_run, next_single, no_single}

-- What is known is measured, within any limit.
pub known_length : {limit n u : ℕ} → n ≡ u → Measures limit n u
known_length e = record { within = λ h. omega arith; over = λ h. omega arith }

module _ {limit total : ℕ} (u rest : ℕ) (z : Measures limit total (u + rest)) where
  -- A piece more, whose end is measured.
  pub adds : (piece after : ℕ) {v : ℕ} → rest ≡ piece + after → Measures limit (u + piece) v → Measures limit total (v + after)
  adds piece after {v} e w = go (dec_lt limit (u + piece))
    where
      go : Dec (limit < u + piece) → Measures limit total (v + after)
      go (yes l) = record { within = λ h. absurd (omega (arith, z.within h)); over = λ h. omega (arith, w.over l) }
      go (no l) = record { within = λ h. omega (arith, z.within h, w.within (omega arith)); over = λ h. omega (arith, z.over h, w.within (omega arith)) }

  -- Past the limit, the whole text is.
  pub stops_adding : limit < u → Measures limit total u
  stops_adding h = record { within = λ k. absurd (omega (arith, z.within k)); over = λ _. h }

  -- With no rest, the text is measured.
  pub ends_adding : rest ≡ 0 → Measures limit total u
  ends_adding e = record { within = λ h. omega (arith, z.within h); over = λ h. omega (arith, z.over h) }

-- ---- readings

module _ (names : List (List ℕ)) (x : ℕ) (v : Bool) (t l u : ℕ) {limit total : ℕ} (z : Measures limit total (u + length (entries_text false names (singles_from x v t (l + 1 - t))))) where
  -- One more, or none is left.
  pub single_more : t ≤ l → {r : ℕ} → r ≡ length (entry_text false names (span x v t t)) → Measures limit total (u + r + length (entries_text false names (singles_from x v (t + 1) (l + 1 - (t + 1)))))
  single_more h e = adds u _ z _ _ (ap length (next_single names x v t l h) ∙ length-append (entry_text false names (span x v t t)) _) (known_length (omega arith))

  pub single_last : l < t → Measures limit total u
  single_last h = ends_adding u _ z (ap length (no_single names x v t l h))

-- ---- joined spans

module _ (spans : Bool) (names : List (List ℕ)) where
  -- Its own entry, or its readings.
  pub run_long : (e : Span) {limit : ℕ} (used : ℕ) {r : ℕ} → spans ≡ true → r ≡ length (entry_text true names e) → Measures limit (used + length (entries_text spans names (run_entries spans e))) (used + r)
  run_long e used h g = rw (h, one_entry true names e) (known_length (omega arith))

  pub run_singles_long : (e : Span) {limit : ℕ} (used : ℕ) {r : ℕ} → spans ≡ false → Measures limit (used + length (entries_text false names (singles e))) r → Measures limit (used + length (entries_text spans names (run_entries spans e))) r
  run_singles_long e used h w = rw h w

  -- At the start all of them are left.
  pub runs_start : (a : List ℕ) {limit : ℕ} → Measures limit (length (moved_text spans names a)) (0 + length (runs_text spans names (merged (spans_from a 0))))
  runs_start a = known_length (omega (arith, ap length (moved_runs spans names a)))

  module _ (a : List ℕ) (i u : ℕ) {limit total : ℕ} (z : Measures limit total (u + length (runs_text spans names (merged (spans_from a i))))) where
    -- One more, or none is left.
    pub run_more : {row f l next r : ℕ} → RunFrom a i row f l next → Measures limit (u + length (entries_text spans names (run_entries spans (in_row row f l)))) r
        → Measures limit total (r + length (runs_text spans names (merged (spans_from a next))))
    run_more {row} {f} {l} k w = adds u _ z _ _ (ap length (next_run spans names k) ∙ length-append (entries_text spans names (run_entries spans (in_row row f l))) _) w

    pub run_last : length a ≤ i → Measures limit total u
    run_last h = ends_adding u _ z (ap length (no_run spans names a i h))
