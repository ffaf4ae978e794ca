-- A move to one form and back: the readings stay the same set, and a text that is in order already is the same text again.
-- Assumes nothing. `s` is the sheet's text, r the readings' text; O and Q are lent buffers, O' and Q' what the moves leave in them.
use mathlib.Core.Path.{◌≡◌, refl, sym, ap, subst, ◌∙◌}
use mathlib.Core.Bool.{Bool, true, false}
use mathlib.Core.List.{List, [], ◌++◌, flatten}
use mathlib.Core.Logic.{inr, ⊎_elim}
use Prim.Native.Nat.{ℕ, ◌<◌, ◌≤◌}
use native.Mathlib.Decide.{dec_lt}
use native.Mathlib.Omega.{arith}
use lib.ListN.{length, take, drop}
use Rattle.spec_limits.specs.Limits.{most_bytes}
use Rattle.read_bytes.specs.Read.Read.{got}
use Rattle.read_bytes.proofs.Answers.{same_value}
use Rattle.read_lines.specs.Lines.{up_to}
use Rattle.read_reading.specs.Spans.{marks_of_all}
use Rattle.read_reading.specs.OneEntry.{entry}
use Rattle.read_readings.specs.Readings.{in_spans, entries}
use Rattle.read_readings.proofs.Turns.{every, entries_short, entries_every, readings_are}
use Rattle.open_sheet.specs.Results.{accepted, refused}
use Rattle.open_sheet.specs.SheetIn.{names_in}
use Rattle.open_table.proofs.Tables.{accepted_refused}
use Rattle.proof_demands.proofs.Refusals.{readings_in}
use Rattle.write_readings.specs.EntryTexts.{entries_text}
use Rattle.write_readings.proofs.WholeTexts.{text_of}
use Rattle.spec_moves.specs.Moves.{Written, Moves}
use Rattle.spec_moves.specs.Moves.Moves.{no_room, moved}
use Rattle.proof_moves.specs.MoveCases.{Tidy}
use Rattle.proof_moves.specs.SameReadings.{SameReadings}
use Rattle.spec_operations.proofs.Determined.{Reads}
use Rattle.spec_moves.proofs.Determined.{written_one, moves_one}
use Rattle.proof_moves.proofs.Output.{same_written, text_left, output_same, same_then}
use Rattle.proof_moves.proofs.EitherForm.{written_also}

-- ---- the same readings

-- Two moves in a row, to whatever forms: the text that is written last has the marks of the first.
pub written_twice : {b c : Bool} {s r t u : List ℕ} → Written b s r t → length t ≤ most_bytes → Written c s t u → length u ≤ most_bytes → SameReadings s r u
written_twice w l v h = same_then (same_written w l) (same_written v h)

-- The same of two calls in a row, of which the second takes what the first left in its buffer.
pub moves_twice : {b c : Bool} {s r O O' Q Q' : List ℕ} {n m : ℕ} → Moves b s r O O' (accepted n) → Moves c s (take n O') Q Q' (accepted m) → SameReadings s r (take m Q')
moves_twice x y = same_then (output_same x) (output_same y)

-- "Old to new to old gives the same set of readings."
pub old_new_old : {s r O O' Q Q' : List ℕ} {n m : ℕ} → Moves true s r O O' (accepted n) → Moves false s (take n O') Q Q' (accepted m) → SameReadings s r (take m Q')
old_new_old x y = moves_twice x y

-- ---- a text in order

-- An empty text has no entries.
none_read : (names : List (List ℕ)) (W : ℕ) → entries names W [] ≡ got [] 0
unfolding up_to
none_read names W = entries_short names W [] (omega arith)

no_text : (spans : Bool) (names : List (List ℕ)) → [] ≡ entries_text spans names []
unfolding entries_text flatten
no_text spans names = refl

module _ {b : Bool} {s r : List ℕ} (x : Tidy b s r) where
  -- A text in order is the writing of its entries.
  tidy_text : r ≡ entries_text b (names_in s x.contents) x.list
  tidy_text = ⊎_elim (λ e. empty e) (λ e. formed (cc)) x.form
    where
      names : List (List ℕ)
      names = names_in s x.contents

      W : ℕ
      W = x.contents.window

      empty : r ≡ [] → r ≡ entries_text b names x.list
      empty e =
          let f = subst (λ (z : List ℕ). entries names W z ≡ got x.list x.place) e x.reads in
          e ∙ no_text b names ∙ ap (entries_text b names) (same_value (sym (none_read names W) ∙ f))

      formed : in_spans r ≡ b → r ≡ entries_text b names x.list
      formed f = text_of b names W r (subst (λ (form : Bool). every (entry form names W r) r ≡ got x.list x.place) f (entries_every names W r x.reads))

  -- Its marks are those of its entries.
  tidy_marks : Reads s r (got (marks_of_all x.list) x.place) x.contents
  tidy_marks = readings_are (names_in s x.contents) x.contents.window r x.reads

  tidy_short : length r ≤ most_bytes
  tidy_short = (readings_in s x.contents r tidy_marks).short

  -- It is what the move to its form writes for it,
  pub stays_written : Written b s r r
  stays_written = record {
    contents = x.contents;
    marks = marks_of_all x.list;
    place = x.place;
    entries = x.list;
    sheet = x.sheet;
    reads = tidy_marks;
    moved = record { in_order = x.in_order; same = λ m. (λ i. i, λ i. i) };
    text = tidy_text;
  }

  module _ {t : List ℕ} (a : SameReadings s r t) where
    -- and for every other text with the same set of readings.
    tidy_again : Written b s t r
    tidy_again = written_also a stays_written

    -- That move leaves it in a buffer that has room for it,
    pub again_moves : {Q : List ℕ} → length r ≤ length Q → Moves b s t Q (r ++ drop (length r) Q) (accepted (length r))
    again_moves h = moved tidy_again tidy_short h refl

    -- and is refused only where there is none.
    pub again_refused : {Q Q' : List ℕ} {n p : ℕ} → Moves b s t Q Q' (refused n p) → (n ≡ 20) × (p ≡ 0) × (length Q < length r)
    again_refused {Q} {Q'} {n} {p} m = go (dec_lt (length Q) (length r))
      where
        go : Dec (length Q < length r) → (n ≡ 20) × (p ≡ 0) × (length Q < length r)
        go (yes l) = let e = (moves_one m (no_room tidy_again (inr l) refl)).1 in (cc, cc, l)
        go (no l) = absurd (accepted_refused (moves_one (again_moves (omega arith)) m).1)

  -- A text in order is left as it is by the move to its form, in a buffer that has room for it,
  pub tidy_stays : {O : List ℕ} → length r ≤ length O → Moves b s r O (r ++ drop (length r) O) (accepted (length r))
  tidy_stays h = again_moves (same_written stays_written tidy_short) h

  -- and that move is refused only for the buffer's room.
  pub tidy_refused : {O O' : List ℕ} {n p : ℕ} → Moves b s r O O' (refused n p) → (n ≡ 20) × (p ≡ 0) × (length O < length r)
  tidy_refused m = again_refused (same_written stays_written tidy_short) m

  -- After an accepted move to either form,
  module _ {c : Bool} {O O' : List ℕ} {n : ℕ} (m : Moves c s r O O' (accepted n)) where
    -- the way back leaves the text as it was, in a buffer that has room for it,
    pub way_back : {Q : List ℕ} → length r ≤ length Q → Moves b s (take n O') Q (r ++ drop (length r) Q) (accepted (length r))
    way_back h = again_moves (output_same m) h

    -- is refused only where there is none,
    pub way_back_refused : {Q Q' : List ℕ} {k p : ℕ} → Moves b s (take n O') Q Q' (refused k p) → (k ≡ 20) × (p ≡ 0) × (length Q < length r)
    way_back_refused y = again_refused (output_same m) y

    -- and changes nothing.
    pub there_and_back : {Q Q' : List ℕ} {k : ℕ} → Moves b s (take n O') Q Q' (accepted k) → take k Q' ≡ r
    there_and_back y = written_one (text_left y).written (tidy_again (output_same m))

-- "New to old to new changes nothing in a merged, sorted text, where no move is refused."
pub new_old_new : {s r O O' Q Q' : List ℕ} {n m : ℕ} → Tidy true s r → Moves false s r O O' (accepted n) → Moves true s (take n O') Q Q' (accepted m) → take m Q' ≡ r
new_old_new x y z = there_and_back x y z
