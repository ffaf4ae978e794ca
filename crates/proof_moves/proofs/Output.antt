-- What a move writes: its entries are read back, it has the marks of the text that was moved, and it is in order.
-- Assumes of the written text that it is at most 32,768 bytes. `s` is the sheet's text, r the readings' text, O the lent buffer, t the text that is written.
use mathlib.Core.Path.{◌≡◌, refl, sym, ap, subst, ◌∙◌}
use mathlib.Core.Bool.{Bool, true, false, true≢false}
use mathlib.Core.List.{List, [], ◌∷◌, ◌++◌, flatten, Memᴰ}
use mathlib.Core.Logic.{◌⊎◌, inl, inr, ⊎_elim}
use Prim.Native.Nat.{ℕ, ◌≤◌}
use native.Mathlib.Omega.{arith}
use lib.ListN.{length, take, drop}
use lib.Seq.{take_at}
use Rattle.spec_limits.specs.Limits.{most_bytes}
use Rattle.read_bytes.specs.Read.Read.{got}
use Rattle.read_bytes.proofs.Answers.{same_value}
use Rattle.spec_tilco.specs.Inference.{mark}
use Rattle.spec_tilco.specs.Lists.{All}
use Rattle.spec_tilco.proofs.Lists.{all_of_lem, all_at}
use Rattle.read_reading.specs.Spans.{Span, marks_of_all}
use Rattle.read_reading.proofs.Lines.{Within}
use Rattle.read_readings.specs.Readings.{in_spans, entries, readings}
use Rattle.read_readings.proofs.Turns.{entries_short, readings_are}
use Rattle.read_readings.proofs.Cuts.{either_form, readings_end}
use Rattle.read_readings.proofs.Bounds.{MarkWithin, readings_within}
use Rattle.open_sheet.specs.Results.{accepted}
use Rattle.open_sheet.specs.SheetIn.{names_in}
use Rattle.open_table.proofs.Tables.{in_sheet}
use Rattle.write_readings.specs.EntryTexts.{entries_text}
use Rattle.write_readings.proofs.WholeTexts.{all_entries, OfForm, form_told, entries_back}
use Rattle.spec_moves.specs.InOrder.{Shaped, SameMarks}
use Rattle.spec_moves.specs.Moves.{Written, Moves}
use Rattle.spec_moves.specs.Moves.Moves.{moved}
use Rattle.spec_moves.proofs.Bounds.{moved_within}
use Rattle.spec_moves.proofs.Ranks.{same_back, same_on}
use Rattle.spec_moves.proofs.ReadableNames.{names_readable}
use Rattle.proof_moves.specs.MoveCases.{Tidy}
use Rattle.proof_moves.specs.SameReadings.{SameReadings}
use Rattle.spec_operations.proofs.Determined.{Reads, one_sheet}

-- ---- the written text

-- A single reading has one tick.
one_tick_each : (spans : Bool) (e : Span) → Shaped spans e → spans ≡ false → e.first ≡ e.last
one_tick_each true e h f = absurd (true≢false f)
one_tick_each false e h f = h

-- The text of entries is of the form, or empty: "an empty text is both".
text_form : (spans : Bool) (names : List (List ℕ)) (es : List Span) → (entries_text spans names es ≡ []) ⊎ (in_spans (entries_text spans names es) ≡ spans)
unfolding entries_text flatten in_spans
text_form spans names [] = inl refl
text_form spans names (e ∷ es) = inr (form_told spans names e es)

module _ {spans : Bool} {s r t : List ℕ} (w : Written spans s r t) where
  -- The window has at least a tick, and few.
  window_some : 1 ≤ w.contents.window
  window_some = (in_sheet s w.sheet).sizes.window_low

  window_few : w.contents.window ≤ 100000
  window_few = omega (arith, (in_sheet s w.sheet).sizes.window_high)

  -- Each written entry can be read back: it is of a declared signal at ticks of the window, as the marks are.
  writable : All (OfForm spans (length (names_in s w.contents)) w.contents.window) w.entries
  writable = all_of_lem (OfForm spans k W) w.entries each
    where
      k : ℕ
      k = length (names_in s w.contents)

      W : ℕ
      W = w.contents.window

      each : (e : Span) → Memᴰ e w.entries → OfForm spans k W e
      each e i =
          let a = readings_within (names_in s w.contents) W r window_some w.reads in
          let b = moved_within k W w.moved (λ x t v j. all_at (MarkWithin k W) w.marks a (mark x t v) j) in
          record {
            within = all_at (Within k W) w.entries b e i;
            one_tick = one_tick_each spans e (all_at (Shaped spans) w.entries w.moved.in_order.shaped e i);
          }

  -- Read in its form, it is the written entries.
  written_back : all_entries spans (names_in s w.contents) w.contents.window t ≡ got w.entries (length t)
  written_back =
      let names = names_in s w.contents in
      let b = entries_back spans names (names_readable s w.sheet) w.contents.window window_few w.entries writable in
      subst (λ (x : List ℕ). all_entries spans names w.contents.window x ≡ got w.entries (length x)) (sym w.text) b

  module _ (short : length t ≤ most_bytes) where
    -- The entries that were written are read back.
    pub entries_written : entries (names_in s w.contents) w.contents.window t ≡ got w.entries (length t)
    entries_written =
        entries_short (names_in s w.contents) w.contents.window t short ∙ either_form (names_in s w.contents) w.contents.window spans t written_back

    -- So the text's marks are those of these entries,
    pub marks_written : readings (names_in s w.contents) w.contents.window t ≡ got (marks_of_all w.entries) (length t)
    marks_written = readings_are (names_in s w.contents) w.contents.window t entries_written

    -- the same as those of the text that was moved,
    pub same_written : SameReadings s r t
    same_written = record {
      contents = w.contents;
      marks = w.marks;
      others = marks_of_all w.entries;
      sheet = w.sheet;
      reads = w.reads ∙ ap (got w.marks) (readings_end (names_in s w.contents) w.contents.window r w.marks w.place w.reads);
      reads_other = marks_written;
      same = w.moved.same;
    }

    -- and the text is in order.
    pub tidy_written : Tidy spans s t
    tidy_written = record {
      contents = w.contents;
      list = w.entries;
      place = length t;
      sheet = w.sheet;
      reads = entries_written;
      form = ⊎_elim (λ e. inl (w.text ∙ e)) (λ e. inr (cc w.text)) (text_form spans (names_in s w.contents) w.entries);
      in_order = w.moved.in_order;
    }

-- ---- what an accepted call leaves

-- The first n bytes of the buffer are the text that the move makes of r, and the others are as they were.
pub record Left (spans : Bool) (s r O O' : List ℕ) (n : ℕ) : Type 0 where
  pub written : Written spans s r (take n O')
  pub long : length (take n O') ≡ n
  pub short : length (take n O') ≤ most_bytes
  pub room : n ≤ length O
  pub whole : O' ≡ take n O' ++ drop n O

pub text_left : {spans : Bool} {s r O O' : List ℕ} {n : ℕ} → Moves spans s r O O' (accepted n) → Left spans s r O O' n
text_left {spans} {s} {r} {O} {O'} (moved {t} w l i f) =
    let e : take (length t) O' ≡ t = ap (take (length t)) f ∙ take_at t (drop (length t) O) (length t) refl in
    record {
      written = subst (Written spans s r) (sym e) w;
      long = ap length e;
      short = omega (arith, ap length e);
      room = i;
      whole = f ∙ ap (λ (x : List ℕ). x ++ drop (length t) O) (sym e);
    }

module _ {spans : Bool} {s r O O' : List ℕ} {n : ℕ} (m : Moves spans s r O O' (accepted n)) where
  -- Each move's output has the same set of readings as its input,
  pub output_same : SameReadings s r (take n O')
  output_same = let x = text_left m in same_written x.written x.short

  -- and is in order: "a merged, sorted text", or single readings, "each once, in that same order".
  pub output_tidy : Tidy spans s (take n O')
  output_tidy = let x = text_left m in tidy_written x.written x.short

-- ---- from one text to the next

-- What has the same readings as a text that has the same readings.
pub same_then : {s r t u : List ℕ} → SameReadings s r t → SameReadings s t u → SameReadings s r u
same_then {s} {r} {t} {u} a b =
    let k = one_sheet b.sheet a.sheet in
    let e = same_value (sym (subst (Reads s t (got b.marks (length t))) k b.reads) ∙ a.reads_other) in
    record {
      contents = a.contents;
      marks = a.marks;
      others = b.others;
      sheet = a.sheet;
      reads = a.reads;
      reads_other = subst (Reads s u (got b.others (length u))) k b.reads_other;
      same = same_on b.same (subst (λ ns. SameMarks ns a.marks) (sym e) a.same);
    }

pub same_turned : {s r u : List ℕ} → SameReadings s r u → SameReadings s u r
same_turned a = record { contents = a.contents; marks = a.others; others = a.marks; sheet = a.sheet; reads = a.reads_other; reads_other = a.reads; same = same_back a.same }
