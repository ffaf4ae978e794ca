-- Every input gets an answer: for every sheet text, readings text and buffer there is one that the move's promise allows.
-- Assumes nothing. `s` is the sheet's text, r the readings' text, O the lent buffer.
use mathlib.Core.Path.{◌≡◌, refl}
use mathlib.Core.Bool.{Bool}
use mathlib.Core.List.{List, ◌++◌}
use mathlib.Core.Logic.{inl, inr}
use Prim.Native.Nat.{ℕ, ◌<◌}
use native.Mathlib.Decide.{dec_lt}
use native.Mathlib.Omega.{arith}
use lib.ListN.{length, drop}
use Rattle.spec_limits.specs.Limits.{most_bytes}
use Rattle.read_bytes.specs.Read.{Read}
use Rattle.read_bytes.specs.Read.Read.{got, refused as unread}
use Rattle.spec_tilco.specs.Inference.{Mark}
use Rattle.read_sheet.specs.Sheet.{Contents}
use Rattle.read_readings.specs.Readings.{readings}
use Rattle.open_sheet.specs.Results.{Result, accepted, refused}
use Rattle.open_sheet.specs.SheetIn.{sheet_in, names_in}
use Rattle.write_readings.specs.EntryTexts.{entries_text}
use Rattle.spec_moves.specs.Moves.{Written, Moves}
use Rattle.spec_moves.specs.Moves.Moves.{not_opened, not_read, no_room, moved}
use Rattle.join_spans.proofs.Existence.{moved_some}

-- Every accepted text has one that the move makes of it.
pub written_some : (spans : Bool) (s r : List ℕ) {k : Contents} {ms : List Mark} {q : ℕ} → sheet_in s ≡ accepted k → readings (names_in s k) k.window r ≡ got ms q
    → (t : List ℕ) × Written spans s r t
written_some spans s r {k} {ms} {q} e f =
    let x = moved_some spans ms in
    (entries_text spans (names_in s k) x.0, record { contents = k; marks = ms; place = q; entries = x.0; sheet = e; reads = f; moved = x.1; text = refl })

module _ (spans : Bool) (s r O : List ℕ) where
  -- What a move may come to.
  abbrev Outcome : Type 0
  Outcome = (O' : List ℕ) × (a : Result ℕ) × Moves spans s r O O' a

  -- The text is given, or there is no room for it.
  with_text : (t : List ℕ) → Written spans s r t → Outcome
  with_text t w = go (dec_lt most_bytes (length t)) (dec_lt (length O) (length t))
    where
      go : Dec (most_bytes < length t) → Dec (length O < length t) → Outcome
      go (yes l) d = (O, refused 20 0, no_room w (inl l) refl)
      go (no l) (yes i) = (O, refused 20 0, no_room w (inr i) refl)
      go (no l) (no i) = (t ++ drop (length t) O, accepted (length t), moved w (omega arith) (omega arith) refl)

  -- Every call of a move gets an answer and a buffer.
  pub moves_some : (O' : List ℕ) × (a : Result ℕ) × Moves spans s r O O' a
  moves_some = go (sheet_in s) refl
    where
      by_text : (k : Contents) → sheet_in s ≡ accepted k → (R : Read (List Mark)) → readings (names_in s k) k.window r ≡ R → Outcome
      by_text k e (got ms q) f = let x = written_some spans s r e f in with_text x.0 x.1
      by_text k e (unread n p) f = (O, refused n p, not_read e f refl)

      go : (R : Result Contents) → sheet_in s ≡ R → Outcome
      go (accepted k) e = by_text k e (readings (names_in s k) k.window r) refl
      go (refused n p) e = (O, refused n p, not_opened e refl)
