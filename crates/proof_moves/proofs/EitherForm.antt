-- Add and the moves make the same of two texts with the same set of readings, whatever the form of each.
-- Assumes nothing. `s` is the sheet's text, r and u are readings' texts; T is the table before and U after, O the lent buffer before and O' after.
use mathlib.Core.Path.{◌≡◌, sym, subst, ◌∙◌}
use mathlib.Core.Bool.{Bool}
use mathlib.Core.List.{List}
use mathlib.Core.Logic.{inl, inr, ◌↔◌}
use Prim.Native.Nat.{ℕ}
use lib.ListN.{length, take}
use Rattle.read_bytes.specs.Read.Read.{got, refused as unread}
use Rattle.read_bytes.proofs.Answers.{not_both, same_value}
use Rattle.spec_tilco.specs.Formula.{Sheet}
use Rattle.spec_tilco.specs.Inference.{Mark, ◌or◌}
use Rattle.spec_tilco.specs.Table.{Standing, ReadMarks, Added}
use Rattle.spec_tilco.proofs.Derives.{monotone}
use Rattle.read_sheet.specs.Sheet.{Contents, meant}
use Rattle.open_sheet.specs.Results.{Result, accepted}
use Rattle.open_sheet.specs.SheetIn.{sheet_in}
use Rattle.spec_operations.specs.Gain.{Gain}
use Rattle.spec_operations.specs.Operations.{Adds}
use Rattle.spec_operations.specs.Operations.Adds.{not_opened as not-taken-up, not_read as not_taken, added}
use Rattle.spec_operations.proofs.Determined.{Reads, one_sheet, opens_sheet}
use Rattle.spec_moves.specs.InOrder.{SameMarks}
use Rattle.spec_moves.specs.Moves.{Written, Moves}
use Rattle.spec_moves.specs.Moves.Moves.{not_opened, not_read, no_room, moved}
use Rattle.spec_moves.proofs.Ranks.{same_back, same_on}
use Rattle.proof_moves.specs.SameReadings.{SameReadings}
use Rattle.proof_moves.proofs.Output.{output_same, same_turned}

-- ---- what is read

module _ {s r u : List ℕ} (x : SameReadings s r u) {k : Contents} (e : sheet_in s ≡ accepted k) where
  -- The first text is not refused.
  never_unread : {n p : ℕ} → Reads s r (unread n p) k → ⊥
  never_unread {n} {p} f = not_both (sym x.reads ∙ subst (Reads s r (unread n p)) (one_sheet e x.sheet) f)

  -- The second is read,
  other_read : Reads s u (got x.others (length u)) k
  other_read = subst (Reads s u (got x.others (length u))) (one_sheet x.sheet e) x.reads_other

  -- with the marks of the first.
  other_marks : {ms : List Mark} {q : ℕ} → Reads s r (got ms q) k → SameMarks x.others ms
  other_marks f = subst (SameMarks x.others) (same_value (sym (subst (Reads s r (got x.marks (length r))) (one_sheet x.sheet e) x.reads) ∙ f)) x.same

-- ---- the moves

-- What a move writes for the one text it writes for the other.
pub written_also : {spans : Bool} {s r u t : List ℕ} → SameReadings s r u → Written spans s r t → Written spans s u t
written_also {u = u} x w = record {
  contents = w.contents;
  marks = x.others;
  place = length u;
  entries = w.entries;
  sheet = w.sheet;
  reads = other_read x w.sheet;
  moved = record { in_order = w.moved.in_order; same = same_on w.moved.same (same_back (other_marks x w.sheet w.reads)) };
  text = w.text;
}

moves_also : {spans : Bool} {s r u O O' : List ℕ} {a : Result ℕ} → SameReadings s r u → Moves spans s r O O' a → Moves spans s u O O' a
moves_also x (not_opened e f) = not_opened e f
moves_also x (not_read e g f) = absurd (never_unread x e g)
moves_also x (no_room w l f) = no_room (written_also x w) l f
moves_also x (moved w l i f) = moved (written_also x w) l i f

-- "Either takes either form": a move answers the same, and leaves the same bytes, for every text with the same set of readings.
pub either_moved : {spans : Bool} {s r u O O' : List ℕ} {a : Result ℕ} → SameReadings s r u → Moves spans s r O O' a ↔ Moves spans s u O O' a
either_moved x = (moves_also x, moves_also (same_turned x))

-- ---- add

-- What the same marks lead to is the same.
added_also : (s : Sheet) {T U : List ℕ} {ms ns : List Mark} → SameMarks ns ms → Added s T ms U → Added s T ns U
added_also s {T} {U} {ms} {ns} same A = record {
  size = A.size;
  small = A.small;
  exactly = λ m. (λ i. monotone forth ((A.exactly m).0 i), λ d. (A.exactly m).1 (monotone back d));
}
  where
    forth : (m : Mark) → ◌or◌ (Standing s T) (ReadMarks ms) m → ◌or◌ (Standing s T) (ReadMarks ns) m
    forth m (inl i) = inl i
    forth m (inr i) = inr ((same m).1 i)

    back : (m : Mark) → ◌or◌ (Standing s T) (ReadMarks ns) m → ◌or◌ (Standing s T) (ReadMarks ms) m
    back m (inl i) = inl i
    back m (inr i) = inr ((same m).0 i)

adds_also : {s r u T U : List ℕ} {a : Result Gain} → SameReadings s r u → Adds s r T U a → Adds s u T U a
adds_also x (not-taken-up o e) = not-taken-up o e
adds_also x (not_taken o f e) = absurd (never_unread x (opens_sheet o) f)
adds_also x (added {k} o f A n c) = added o (other_read x (opens_sheet o)) (added_also (meant k) (other_marks x (opens_sheet o) f) A) n c

-- "Add takes either form": it answers the same, and leaves the same table, for every text with the same set of readings.
pub either_added : {s r u T U : List ℕ} {a : Result Gain} → SameReadings s r u → Adds s r T U a ↔ Adds s u T U a
either_added x = (adds_also x, adds_also (same_turned x))

-- So a move's output is accepted by add wherever its input is, and gives the same marks.
pub output_added : {spans : Bool} {s r O O' T U : List ℕ} {n : ℕ} {a : Result Gain} → Moves spans s r O O' (accepted n) → Adds s r T U a ↔ Adds s (take n O') T U a
output_added m = either_added (output_same m)
