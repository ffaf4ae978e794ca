-- What each outcome of writing a move's text, and of reading what is moved, says of the buffer and of the answer.
-- Assumes what each law states.
use mathlib.Core.Path.{◌≡◌, refl, sym, ap, subst}
use mathlib.Core.Bool.{Bool, true}
use mathlib.Core.List.{List, [], ◌∷◌, map}
use mathlib.Core.Logic.{inl, inr}
use Prim.Native.Nat.{ℕ, ◌*◌, ◌<◌, ◌≤◌}
use native.Mathlib.Decide.{dec_lt}
use native.Mathlib.Omega.{arith}
use lib.ListN.{length, take}
use Rattle.spec_limits.specs.Limits.{most_bytes, most_signals, most_name_bytes, most_readings}
use Rattle.spec_tilco.specs.Lists.{All}
use Rattle.sort_numbers.specs.Sorts.{Sorts}
use Rattle.read_bytes.specs.Read.Read.{got, refused as unread}
use Rattle.write_bytes.specs.Writes.{Wrote, Counted}
use Rattle.write_bytes.proofs.Writing.{in_front}
use Rattle.read_names.specs.Spellings.{names_at}
use Rattle.read_names.proofs.Names.{names_many}
use Rattle.read_head.proofs.DeclaredNames.{head_names}
use Rattle.read_sheet.proofs.Wholes.{sheet_head}
use Rattle.read_reading.specs.Spans.{Span, marks_of_all}
use Rattle.read_reading.proofs.Lines.{Within}
use Rattle.read_index.specs.Index.{IndexOf}
use Rattle.read_readings.specs.Readings.{entries, readings}
use Rattle.read_readings.specs.SpanNumbers.{row_spans, span_of, spans_in, CanNote}
use Rattle.read_readings.proofs.Turns.{readings_are, readings_off}
use Rattle.read_readings.proofs.Bounds.{entries_within}
use Rattle.read_readings.proofs.Outcomes.{NotedAs}
use Rattle.open_sheet.specs.Results.{Result, accepted, refused}
use Rattle.open_table.proofs.Tables.{InSheet, in_sheet}
use Rattle.write_readings.specs.EntryTexts.{entries_text}
use Rattle.spec_moves.specs.InOrder.{Shaped, MovedTo}
use Rattle.spec_moves.specs.Moves.{Written, Moves}
use Rattle.spec_moves.specs.Moves.Moves.{not_read, no_room, moved}
use Rattle.op_moves.specs.Measures.{Measures}
use Rattle.op_moves.specs.MovedText.{moved_text, CanWrite, WritesMoved}
use Rattle.op_moves.specs.MovedText.WritesMoved.{no_room as too_large, written}
use Rattle.op_moves.specs.OpenedFor.{Opened}
use Rattle.op_moves.proofs.Noted.{moves_marks}

-- ---- the text

-- What is measured within the limit is so long.
so_long : {limit n u : ℕ} → Measures limit n u → u ≤ limit → u ≡ n
so_long {limit} {n} {u} z h = go (dec_lt limit n)
  where
    go : Dec (limit < n) → u ≡ n
    go (yes l) = absurd (omega (arith, z.over l))
    go (no l) = z.within (omega arith)

-- What is measured past the limit is past it.
too_much : {limit n u : ℕ} → Measures limit n u → limit < u → limit < n
too_much {limit} {n} z h = go (dec_lt limit n)
  where
    go : Dec (limit < n) → limit < n
    go (yes l) = l
    go (no l) = absurd (omega (arith, z.within (omega arith)))

-- A text that is measured within the limit has places that can be counted.
pub within_counted : {t : List ℕ} {n : ℕ} → Measures most_bytes (length t) n → n ≤ most_bytes → Counted 0 t
within_counted z h = record { below = omega (arith, so_long z h) }

module _ (spans : Bool) (names : List (List ℕ)) {a b : List ℕ} (o : Sorts a b) (c : CanWrite names a) {n : ℕ} (z : Measures most_bytes (length (moved_text spans names b)) n) where
  -- It is too long, there is too little room, or it is written.
  pub too_long : {O : List ℕ} → most_bytes < n → WritesMoved spans names a O O (refused 20 0)
  too_long h = too_large _ (moves_marks o spans c) (inl (too_much z h)) refl

  pub too_little : {O : List ℕ} → n ≤ most_bytes → length O < n → WritesMoved spans names a O O (refused 20 0)
  too_little h l = too_large _ (moves_marks o spans c) (inr (omega (arith, so_long z h))) refl

  pub all_written : {O : List ℕ} → n ≤ most_bytes → n ≤ length O → {U : List ℕ} {u : ℕ} → Wrote (moved_text spans names b) 0 O U u → WritesMoved spans names a O U (accepted n)
  all_written {O} h l {U} w =
      let e = so_long z h in
      subst (λ (k : ℕ). WritesMoved spans names a O U (accepted k)) (sym e)
      (written _ (moves_marks o spans c) (omega arith) (omega arith) (in_front w (omega arith)))

-- ---- the numbers

-- The numbers of entries within bounds can be written.
rows_within : (k W : ℕ) (a : List ℕ) → All (Within k W) (map span_of a) → All (λ w. w < 2 * row_spans * k) a
rows_within k W [] h = tt
rows_within k W (w ∷ a) h = (let s = h.0.signal in omega arith, rows_within k W a h.1)

all_shaped : (k W : ℕ) (es : List Span) → All (Within k W) es → All (Shaped true) es
all_shaped k W [] h = tt
all_shaped k W (e ∷ es) h = (h.0.order, all_shaped k W es h.1)

-- ---- the sheet and the readings

module _ {s places : List ℕ} {window : ℕ} (k : Opened s places window) where
  known : InSheet s k.contents
  known = in_sheet s k.holds

  -- What is said of the numbers at hand is said of the contents.
  to_contents : (F : List ℕ → ℕ → Type 0) → F places window → F k.contents.places k.contents.window
  to_contents F x = subst (λ (p : List ℕ). F p k.contents.window) k.names_are (subst (F places) k.window_is x)

  of_contents : (F : List ℕ → Type 0) → F k.contents.places → F places
  of_contents F x = subst F (sym k.names_are) x

  pub can_note : {names : List ℕ} → IndexOf s names → (a : List ℕ) → most_readings ≤ length a → CanNote s names window a
  can_note index a h = record {
    index = index;
    some = omega (arith, known.sizes.window_low, k.window_is);
    ticks = omega (arith, known.sizes.window_high, k.window_is);
    room = h;
  }

  module _ (r : List ℕ) where
    -- The readings are refused,
    pub readings_refused : {spans : Bool} {O : List ℕ} {n p : ℕ} → entries (names_at s places) window r ≡ unread n p → Moves spans s r O O (refused n p)
    readings_refused {n = n} {p = p} e = not_read k.holds (to_contents (λ l w. readings (names_at s l) w r ≡ unread n p) (readings_off (names_at s places) window r e)) refl

    module _ {a : List ℕ} {count q : ℕ} (y : NotedAs (entries (names_at s places) window r) a count q) where
      writable : CanWrite (names_at s places) (take count a)
      unfolding spans_in
      writable =
          let w = entries_within (names_at s places) window r (omega (arith, known.sizes.window_low, k.window_is)) y.all in
          record {
            few = omega (arith, names_many s places, of_contents (λ (p : List ℕ). length p ≤ most_signals) known.sizes.signals_high);
            rows = rows_within (length (names_at s places)) window (take count a) w;
            shaped = all_shaped (length (names_at s places)) window (map span_of (take count a)) w;
            short = of_contents (λ (p : List ℕ). All (λ w. length w ≤ most_name_bytes) (names_at s p)) (head_names s (sheet_head s known.reads).2).short;
          }

      -- or their entries can be written, with the places that are lent for it,
      pub noted_writable : {part : List ℕ} → part ≡ places → CanWrite (names_at s part) (take count a)
      noted_writable e = subst (λ (p : List ℕ). CanWrite (names_at s p) (take count a)) (sym e) writable

      whole_text : (spans : Bool) (es : List Span) → MovedTo spans (marks_of_all (map span_of (take count a))) es → Written spans s r (entries_text spans (names_at s places) es)
      unfolding spans_in
      whole_text spans es m = record {
        contents = k.contents;
        marks = marks_of_all (map span_of (take count a));
        place = q;
        entries = es;
        sheet = k.holds;
        reads = to_contents (λ l w. readings (names_at s l) w r ≡ got (marks_of_all (map span_of (take count a))) q) (readings_are (names_at s places) window r y.all);
        moved = m;
        text = ap (λ (p : List ℕ). entries_text spans (names_at s p) es) k.names_are;
      }

      promised : {spans : Bool} {O U : List ℕ} {x : Result ℕ} → WritesMoved spans (names_at s places) (take count a) O U x → Moves spans s r O U x
      promised {spans} (too_large es m h e) = no_room (whole_text spans es m) h e
      promised {spans} (written es m h l e) = moved (whole_text spans es m) h l e

      -- and what is written of them is what the move promises.
      pub as_moved : {spans : Bool} {part O U : List ℕ} {x : Result ℕ} → part ≡ places → WritesMoved spans (names_at s part) (take count a) O U x → Moves spans s r O U x
      as_moved {spans} {part} {O} {U} {x} e w = promised (subst (λ (p : List ℕ). WritesMoved spans (names_at s p) (take count a) O U x) e w)
