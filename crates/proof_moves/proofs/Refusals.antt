-- Each refusal of a move exactly in its listed case, and the lent buffer keeps every byte.
-- Assumes nothing. `s` is the sheet's text, r the readings' text, O the lent buffer; n is the number and p the place.
use mathlib.Core.Path.{◌≡◌, refl, sym, subst, ◌∙◌}
use mathlib.Core.Bool.{Bool}
use mathlib.Core.List.{List}
use mathlib.Core.Logic.{inl, inr, ◌↔◌}
use Prim.Native.Nat.{ℕ, ◌<◌}
use native.Mathlib.Decide.{dec_lt}
use native.Mathlib.Omega.{arith}
use lib.ListN.{length}
use Rattle.spec_limits.specs.Limits.{most_bytes}
use Rattle.read_bytes.specs.Read.Read.{refused as unread}
use Rattle.read_sheet.specs.Sheet.{Contents}
use Rattle.read_readings.specs.Readings.{readings}
use Rattle.read_readings.proofs.Turns.{readings_long}
use Rattle.spec_grammar.proofs.ReadingLines.{readings_refused}
use Rattle.open_sheet.specs.Results.{refused}
use Rattle.open_sheet.specs.SheetIn.{names_in}
use Rattle.proof_demands.specs.Refusals.{SheetAccepted}
use Rattle.proof_demands.proofs.Refusals.{sheet_case, case_sheet, sheet_in_lem, in_sheet_text}
use Rattle.spec_moves.specs.Moves.{Moves}
use Rattle.spec_moves.specs.Moves.Moves.{not_opened, not_read, no_room}
use Rattle.proof_moves.specs.MoveCases.{MoveRefused}
use Rattle.proof_moves.specs.MoveCases.MoveRefused.{up_to_nine, ten, line_by_line, twenty}
use Rattle.spec_moves.proofs.Determined.{moves_one}

module _ {spans : Bool} {s r O : List ℕ} where
  -- A move's refusal of the readings is one of theirs: 10, or that of their first line at fault.
  of_readings : {k : Contents} {n p : ℕ} → SheetAccepted s k → readings (names_in s k) k.window r ≡ unread n p → MoveRefused spans s r O n p
  of_readings {k} {n} {p} x e = go (dec_lt most_bytes (length r))
    where
      go : Dec (most_bytes < length r) → MoveRefused spans s r O n p
      go (yes l) =
          let z = sym (readings_long (names_in s k) k.window r l) ∙ e in
          let i : 10 ≡ n = cc in
          let j : 0 ≡ p = cc in
          subst (MoveRefused spans s r O n) j (subst (λ (m : ℕ). MoveRefused spans s r O m 0) i (ten x l))
      go (no l) = line_by_line x (omega arith) ((readings_refused (names_in s k) k.window r (omega arith) n p).0 e)

module _ {spans : Bool} {s r O O' : List ℕ} where
  move_case : {n p : ℕ} → Moves spans s r O O' (refused n p) → MoveRefused spans s r O n p × (O' ≡ O)
  move_case (not_opened e f) = (up_to_nine (sheet_case s e), f)
  move_case (not_read e g f) = (of_readings (sheet_in_lem s e) g, f)
  move_case (no_room w (inl l) f) = (twenty w (inl (omega arith)), f)
  move_case (no_room w (inr l) f) = (twenty w (inr (omega arith)), f)

  case_move : {n p : ℕ} → MoveRefused spans s r O n p → O' ≡ O → Moves spans s r O O' (refused n p)
  case_move (up_to_nine x) f = not_opened (case_sheet s x) f
  case_move (ten {k} x l) f = not_read (in_sheet_text s x) (readings_long (names_in s k) k.window r l) f
  case_move (line_by_line {k} {n} {p} x l g) f = not_read (in_sheet_text s x) ((readings_refused (names_in s k) k.window r l n p).1 g) f
  case_move (twenty w (inl l)) f = no_room w (inl (omega arith)) f
  case_move (twenty w (inr l)) f = no_room w (inr (omega arith)) f

  -- "Each refusal is given exactly in its case. It returns number and place only, and every lent table and buffer keeps every word." A move's are the sheet's, the
  -- readings', "last 20, also for output over 32,768 bytes".
  pub move_refusals : {n p : ℕ} → Moves spans s r O O' (refused n p) ↔ (MoveRefused spans s r O n p × (O' ≡ O))
  move_refusals = (move_case, λ x. case_move x.0 x.1)

-- No input has two refusals: what is given in one case is given in no other.
pub refusal_one : {spans : Bool} {s r O : List ℕ} {n p m q : ℕ} → MoveRefused spans s r O n p → MoveRefused spans s r O m q → (n ≡ m) × (p ≡ q)
refusal_one {O = O} x y = let e = (moves_one (case_move {O' = O} x refl) (case_move {O' = O} y refl)).1 in (cc, cc)
