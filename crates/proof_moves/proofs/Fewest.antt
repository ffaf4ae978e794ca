-- The spans that the move writes are the fewest for their set of readings.
-- Assumes nothing. `s` is the sheet's text, r the readings' text, O the lent buffer and O' what the move leaves in it; x is any text.
use mathlib.Core.Path.{◌≡◌, sym, subst, ◌∙◌}
use mathlib.Core.Bool.{true}
use mathlib.Core.List.{List}
use Prim.Native.Nat.{ℕ, ◌≤◌}
use lib.ListN.{length, take}
use Rattle.read_bytes.specs.Read.Read.{got}
use Rattle.read_bytes.proofs.Answers.{same_value}
use Rattle.spec_tilco.specs.Inference.{Mark}
use Rattle.spec_tilco.specs.Lists.{All}
use Rattle.spec_tilco.proofs.Lists.{all_weaker}
use Rattle.read_sheet.specs.Sheet.{Contents}
use Rattle.read_reading.specs.Spans.{Span, marks_of_all}
use Rattle.read_reading.proofs.Lines.{Within}
use Rattle.read_readings.specs.Readings.{entries}
use Rattle.read_readings.proofs.Turns.{readings_are}
use Rattle.read_readings.proofs.Bounds.{entries_within}
use Rattle.open_sheet.specs.Results.{accepted}
use Rattle.open_sheet.specs.SheetIn.{sheet_in, names_in}
use Rattle.open_table.proofs.Tables.{in_sheet}
use Rattle.spec_moves.specs.InOrder.{Shaped, SameMarks}
use Rattle.spec_moves.specs.Moves.{Written, Moves}
use Rattle.spec_moves.proofs.Fewest.{fewest}
use Rattle.spec_moves.proofs.Ranks.{same_back, same_on}
use Rattle.proof_moves.specs.SameReadings.{SameReadings}
use Rattle.spec_operations.proofs.Determined.{Reads, one_sheet}
use Rattle.proof_moves.proofs.Output.{entries_written, text_left}

-- The entries that are read of a text for a sheet with these contents.
abbrev Lists : List ℕ → List ℕ → List Span → ℕ → Contents → Type 0
Lists s x ds q k = entries (names_in s k) k.window x ≡ got ds q

-- Every entry of an accepted text has a tick at least.
entries_shaped : (s x : List ℕ) {k : Contents} {ds : List Span} {q : ℕ} → sheet_in s ≡ accepted k → Lists s x ds q k → All (Shaped true) ds
entries_shaped s x {k} {ds} e f =
    all_weaker (Within (length (names_in s k)) k.window) (Shaped true) (λ d w. w.order) ds (entries_within (names_in s k) k.window x (in_sheet s e).sizes.window_low f)

-- An accepted text with the marks of r has at least as many entries as were written.
pub fewest_written : {s r t : List ℕ} (w : Written true s r t) (x : List ℕ) {ds : List Span} {q : ℕ} → entries (names_in s w.contents) w.contents.window x ≡ got ds q
    → SameMarks (marks_of_all ds) w.marks → length w.entries ≤ length ds
fewest_written {s} w x {ds} f same = fewest w.entries ds w.moved.in_order (entries_shaped s x w.sheet f) (same_on w.moved.same (same_back same))

-- "Merging equal, overlapping and touching spans": the spans written are the fewest for that set. Of the texts with the same set of readings none has fewer
-- entries than the one that the move to spans leaves.
pub fewest_spans : {s r O O' x : List ℕ} {n p q : ℕ} {es ds : List Span} → Moves true s r O O' (accepted n) → (a : SameReadings s r x)
    → entries (names_in s a.contents) a.contents.window (take n O') ≡ got es p → entries (names_in s a.contents) a.contents.window x ≡ got ds q → length es ≤ length ds
fewest_spans {s} {r} {O' = O'} {x} {n} {p} {q} {es} {ds} m a f g =
    let l = text_left m in
    let w = l.written in
    let z = one_sheet a.sheet w.sheet in
    let own : es ≡ w.entries = same_value (sym (subst (Lists s (take n O') es p) z f) ∙ entries_written w l.short) in
    let first : a.marks ≡ w.marks = same_value (sym (subst (Reads s r (got a.marks (length r))) z a.reads) ∙ w.reads) in
    let other : a.others ≡ marks_of_all ds = same_value (sym a.reads_other ∙ readings_are (names_in s a.contents) a.contents.window x g) in
    let same : SameMarks (marks_of_all ds) w.marks = subst (SameMarks (marks_of_all ds)) first (subst (λ (ms : List Mark). SameMarks ms a.marks) other a.same) in
    subst (λ (us : List Span). length us ≤ length ds) (sym own) (fewest_written w x (subst (Lists s x ds q) z g) same)
