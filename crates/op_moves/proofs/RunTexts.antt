-- The text of a move, joined span by joined span; and of a span, reading by reading.
-- Assumes nothing.
use mathlib.Core.Path.{◌≡◌, refl, sym, ap, subst, ◌∙◌}
use mathlib.Core.Bool.{Bool, true, false}
use mathlib.Core.List.{List, [], ◌∷◌, ◌++◌, map, flatten}
use Prim.Native.Nat.{ℕ, suc, ◌+◌, ◌-◌, ◌*◌, ◌<◌, ◌≤◌}
use native.Mathlib.Omega.{arith}
use lib.ListN.{length, get_or}
use Rattle.spec_limits.specs.Limits.{most_name_bytes}
use Rattle.spec_tilco.proofs.Lists.{all_nth}
use Rattle.write_bytes.specs.Writes.{Counted}
use Rattle.write_bytes.specs.declared.Writer.{Writer}
use Rattle.write_bytes.specs.Writers.{Writes}
use Rattle.read_reading.specs.Spans.{Span, span}
use Rattle.read_readings.specs.SpanNumbers.{row_spans, span_of}
use Rattle.write_readings.specs.EntryTexts.{entry_text, entries_text}
use Rattle.write_readings.proofs.WholeTexts.{entries_more, one_entry, entries_append}
use Rattle.join_spans.specs.Joining.{merged, singles_from, singles, all_singles, move_to}
use Rattle.join_spans.specs.Runs.{in_row, spans_from, RunFrom}
use Rattle.join_spans.proofs.RunSpans.{from_end}
use Rattle.op_moves.specs.MovedText.{run_entries, moved_text, Writable, CanWrite}

module _ (spans : Bool) (names : List (List ℕ)) where
  -- The text of joined spans.
  pub runs_text : List Span → List ℕ
  runs_text [] = []
  runs_text (e ∷ es) = entries_text spans names (run_entries spans e) ++ runs_text es

-- A move's text is that of the joined spans.
runs_of : (spans : Bool) (names : List (List ℕ)) (es : List Span) → entries_text spans names (flatten (map (run_entries spans) es)) ≡ runs_text spans names es
unfolding runs_text flatten entries_text
runs_of spans names [] = refl
runs_of spans names (e ∷ es) =
    entries_append spans names (run_entries spans e) (flatten (map (run_entries spans) es)) ∙ ap (λ (t : List ℕ). entries_text spans names (run_entries spans e) ++ t) (runs_of spans names es)

itself : (es : List Span) → flatten (map (run_entries true) es) ≡ es
unfolding flatten
itself [] = refl
itself (e ∷ es) = ap (λ (ds : List Span). e ∷ ds) (itself es)

pub moved_runs : (spans : Bool) (names : List (List ℕ)) (a : List ℕ) → moved_text spans names a ≡ runs_text spans names (merged (spans_from a 0))
unfolding move_to all_singles
moved_runs true names a = ap (entries_text true names) (sym (itself (merged (map span_of a)))) ∙ runs_of true names (merged (map span_of a))
moved_runs false names a = runs_of false names (merged (map span_of a))

-- From an index on: a joined span, and what comes after it; at the end nothing.
pub next_run : (spans : Bool) (names : List (List ℕ)) {a : List ℕ} {i row f l next : ℕ} → RunFrom a i row f l next
    → runs_text spans names (merged (spans_from a i)) ≡ entries_text spans names (run_entries spans (in_row row f l)) ++ runs_text spans names (merged (spans_from a next))
unfolding runs_text
next_run spans names r = ap (runs_text spans names) r.comes

pub no_run : (spans : Bool) (names : List (List ℕ)) (a : List ℕ) (i : ℕ) → length a ≤ i → runs_text spans names (merged (spans_from a i)) ≡ []
unfolding runs_text merged
no_run spans names a i h = ap (λ (es : List Span). runs_text spans names (merged es)) (from_end a i h)

-- The readings of a span: one, and those after its tick.
pub next_single : (names : List (List ℕ)) (x : ℕ) (v : Bool) (t l : ℕ) → t ≤ l
    → entries_text false names (singles_from x v t (l + 1 - t)) ≡ entry_text false names (span x v t t) ++ entries_text false names (singles_from x v (t + 1) (l + 1 - (t + 1)))
unfolding singles_from
next_single names x v t l h =
    let n : l + 1 - t ≡ suc (l + 1 - (t + 1)) = omega arith in
    rw n (entries_more false names (span x v t t) (singles_from x v (t + 1) (l + 1 - (t + 1))))

pub no_single : (names : List (List ℕ)) (x : ℕ) (v : Bool) (t l : ℕ) → l < t → entries_text false names (singles_from x v t (l + 1 - t)) ≡ []
unfolding singles_from entries_text flatten
no_single names x v t l h = let n : l + 1 - t ≡ 0 = omega arith in rw n

-- The name of the span's signal is short.
pub name_short : (names : List (List ℕ)) {e : Span} → Writable names e → length (get_or names e.signal []) ≤ most_name_bytes
name_short names {e} w = all_nth (λ n. length n ≤ most_name_bytes) [] names e.signal w.short w.signal

-- A joined span is written as itself, or as its readings: the places of the one can be counted where those of the other can, and what is written is the same.
module _ {spans : Bool} (names : List (List ℕ)) (e : Span) where
  pub whole_counted : {b : ℕ} → spans ≡ true → Counted b (entries_text spans names (run_entries spans e)) → Counted b (entry_text true names e)
  whole_counted {b} h c = subst (Counted b) (rw (h, one_entry true names e)) c

  pub whole_written : {t u : Writer} → spans ≡ true → Writes (entry_text true names e) t u → Writes (entries_text spans names (run_entries spans e)) t u
  whole_written h w = rw (h, one_entry true names e) w

  pub singles_counted : {b : ℕ} → spans ≡ false → Counted b (entries_text spans names (run_entries spans e)) → Counted b (entries_text false names (singles e))
  singles_counted h c = rw h at c

  pub singles_written : {t u : Writer} → spans ≡ false → Writes (entries_text false names (singles e)) t u → Writes (entries_text spans names (run_entries spans e)) t u
  singles_written h w = rw h w

-- A joined span can be written: its row is one of the signals'.
pub run_writable : {names : List (List ℕ)} {a : List ℕ} {i row f l next : ℕ} → CanWrite names a → i < length a → RunFrom a i row f l next → Writable names (in_row row f l)
run_writable {names} {a} {i} c h r =
    let w = all_nth (λ v. v < 2 * row_spans * length names) 0 a i c.rows h in
    record { signal = omega (arith, r.row_is); short = c.short; start = r.start; ticks = r.tick }
