-- Any two outcomes that a move allows for one input coincide: the text, the buffer byte by byte, and the answer.
-- Assumes nothing. `s` is the sheet's text, r and q are readings' texts, O the lent buffer.
use mathlib.Core.Path.{◌≡◌, sym, ap, ap₂, subst, ◌∙◌}
use mathlib.Core.Bool.{Bool}
use mathlib.Core.List.{List, ◌++◌}
use mathlib.Core.Logic.{◌⊎◌, inl, inr}
use Prim.Native.Nat.{ℕ, ◌<◌, ◌≤◌}
use native.Mathlib.Omega.{arith}
use lib.ListN.{length, drop}
use Rattle.spec_limits.specs.Limits.{most_bytes}
use Rattle.read_bytes.specs.Read.Read.{got, refused as unread}
use Rattle.read_bytes.proofs.Answers.{not_both, same_value}
use Rattle.read_sheet.specs.Sheet.{Contents}
use Rattle.read_reading.specs.Spans.{Span}
use Rattle.read_readings.specs.Readings.{readings}
use Rattle.open_sheet.specs.Results.{Result, accepted}
use Rattle.open_sheet.specs.SheetIn.{sheet_in, names_in}
use Rattle.open_table.proofs.Tables.{accepted_refused}
use Rattle.spec_operations.proofs.Determined.{Reads, one_sheet, refused_alike, unread_alike}
use Rattle.write_readings.specs.EntryTexts.{entries_text}
use Rattle.spec_moves.specs.InOrder.{SameMarks}
use Rattle.spec_moves.specs.Moves.{Written, Moves}
use Rattle.spec_moves.specs.Moves.Moves.{not_opened, not_read, no_room, moved}
use Rattle.spec_moves.proofs.OneOrder.{moved_one}

-- ---- the text

module _ {a b : Bool} {s r t u : List ℕ} where
  -- Two moves of one text, in either form, start from the same marks.
  pub marks_one : (w : Written a s r t) (v : Written b s r u) → w.marks ≡ v.marks
  marks_one w v = same_value (sym w.reads ∙ subst (Reads s r (got v.marks v.place)) (one_sheet v.sheet w.sheet) v.reads)

module _ {spans : Bool} {s r q t u : List ℕ} where
  -- A move makes one text of all the texts that have the same marks.
  pub written_alike : (w : Written spans s r t) (v : Written spans s q u) → SameMarks w.marks v.marks → t ≡ u
  written_alike w v same =
      w.text ∙ ap₂ (λ (k : Contents) (es : List Span). entries_text spans (names_in s k) es) (one_sheet w.sheet v.sheet) (moved_one same w.moved v.moved) ∙ sym v.text

-- So there is one text that a move makes of a text.
pub written_one : {spans : Bool} {s r t u : List ℕ} → Written spans s r t → Written spans s r u → t ≡ u
written_one w v = written_alike w v (subst (SameMarks w.marks) (marks_one w v) (λ m. (λ i. i, λ i. i)))

-- ---- the answer and the buffer

-- A text that is moved is not refused,
not_unread : {spans : Bool} {s r t : List ℕ} {k : Contents} {n p : ℕ} → Written spans s r t → sheet_in s ≡ accepted k → readings (names_in s k) k.window r ≡ unread n p → ⊥
not_unread {s = s} {r} {n = n} {p} w e f = not_both (sym w.reads ∙ subst (Reads s r (unread n p)) (one_sheet e w.sheet) f)

-- and what is made of it does not both fit and not fit into a buffer of so many bytes.
not_full : {spans : Bool} {s r t u : List ℕ} {room : ℕ} → Written spans s r t → Written spans s r u → (most_bytes < length t) ⊎ (room < length t) → length u ≤ most_bytes → length u ≤ room → ⊥
not_full w v (inl l) h i = omega (arith, ap length (written_one w v))
not_full w v (inr l) h i = omega (arith, ap length (written_one w v))

module _ {spans : Bool} {s r O : List ℕ} where
  -- "A written text or list starts at its buffer's first place, its length is answered, and the rest of the buffer stays": two outcomes for one input coincide,
  -- in every byte of the buffer and in the answer, refusals too.
  pub moves_one : {O' O'' : List ℕ} {a b : Result ℕ} → Moves spans s r O O' a → Moves spans s r O O'' b → (O' ≡ O'') × (a ≡ b)
  moves_one (not_opened e f) (not_opened g h) = (f ∙ sym h, refused_alike (sym e ∙ g))
  moves_one (not_opened e f) (not_read g i h) = absurd (accepted_refused (sym g ∙ e))
  moves_one (not_opened e f) (no_room v l h) = absurd (accepted_refused (sym v.sheet ∙ e))
  moves_one (not_opened e f) (moved v l i h) = absurd (accepted_refused (sym v.sheet ∙ e))
  moves_one (not_read e j f) (not_opened g h) = absurd (accepted_refused (sym e ∙ g))
  moves_one (not_read e j f) (not_read g i h) = (f ∙ sym h, unread_alike (sym (subst (Reads s r (unread _ _)) (one_sheet e g) j) ∙ i))
  moves_one (not_read e j f) (no_room v l h) = absurd (not_unread v e j)
  moves_one (not_read e j f) (moved v l i h) = absurd (not_unread v e j)
  moves_one (no_room w o f) (not_opened g h) = absurd (accepted_refused (sym w.sheet ∙ g))
  moves_one (no_room w o f) (not_read g i h) = absurd (not_unread w g i)
  moves_one (no_room w o f) (no_room v l h) = (f ∙ sym h, cc)
  moves_one (no_room w o f) (moved v l i h) = absurd (not_full w v o l i)
  moves_one (moved w l i f) (not_opened g h) = absurd (accepted_refused (sym w.sheet ∙ g))
  moves_one (moved w l i f) (not_read g j h) = absurd (not_unread w g j)
  moves_one (moved w l i f) (no_room v o h) = absurd (not_full v w o l i)
  moves_one (moved w l i f) (moved v m j h) =
      let e = written_one w v in
      (f ∙ ap (λ (t : List ℕ). t ++ drop (length t) O) e ∙ sym h, ap (λ (t : List ℕ). accepted (length t)) e)
