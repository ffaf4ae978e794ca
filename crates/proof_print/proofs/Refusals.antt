-- Each answer of printing a rule exactly in its listed case, and a refusal keeps every byte of the lent buffer.
-- Assumes nothing. `s` is the sheet's text, r the rule's number, O the lent buffer; n is the number and p the place.
use mathlib.Core.Path.{◌≡◌, refl, sym, ap, subst, ◌∙◌}
use mathlib.Core.List.{List}
use mathlib.Core.Logic.{inl, inr, ◌↔◌}
use mathlib.Core.Option.{Option, none, some}
use Prim.Native.Nat.{ℕ, ◌<◌, ◌≤◌}
use native.Mathlib.Decide.{dec_lt}
use native.Mathlib.Omega.{arith}
use lib.ListN.{length}
use Rattle.spec_limits.specs.Limits.{most_rule_bytes}
use Rattle.spec_tilco.specs.Formula.{Written}
use Rattle.read_sheet.specs.Sheet.{Contents}
use Rattle.open_sheet.specs.Results.{Result, accepted, refused}
use Rattle.open_sheet.specs.SheetIn.{sheet_in, names_in}
use Rattle.proof_demands.specs.Refusals.{SheetAccepted}
use Rattle.proof_demands.proofs.Refusals.{sheet_case, case_sheet, sheet_in_lem, in_sheet_text}
use Rattle.spec_print.specs.RuleTexts.{printed}
use Rattle.spec_operations.specs.TextAnswers.{Gives}
use Rattle.spec_print.specs.Printing.{rule_at, with_room, printed_rule, printed_of, printing, PrintsRule}
use Rattle.spec_operations.proofs.TextAnswers.{gives_refused, gives_text}
use Rattle.op_print.proofs.Rooms.{room_for, over_limit, over_room}
use Rattle.op_print.proofs.RulesFound.{rule_past_all, rule_absent}
use Rattle.op_print.proofs.Outcomes.{sheet_refused}
use Rattle.proof_print.specs.PrintCases.{RuleText, PrintRefused, PrintedIn}
use Rattle.proof_print.specs.PrintCases.PrintRefused.{up_to_nine, seventeen, twenty}

-- ---- what each case gives

module _ (s : List ℕ) (r : ℕ) where
  of_text : (room : ℕ) {k : Contents} {f : Written} {t : List ℕ} → RuleText s r k f t → printing s r room ≡ printed_rule (names_in s k) room (some f)
  unfolding printing
  of_text room {k} x = ap (printed_of s r room) (in_sheet_text s x.sheet) ∙ ap (printed_rule (names_in s k) room) x.rule

  refused_by : {O : List ℕ} {n p : ℕ} → PrintRefused s r O n p → printing s r (length O) ≡ refused n p
  unfolding printing
  refused_by {O} (up_to_nine x) = sheet_refused s (case_sheet s x) r (length O)
  refused_by {O} (seventeen {k} x l) = ap (printed_of s r (length O)) (in_sheet_text s x) ∙ ap (printed_rule (names_in s k) (length O)) (rule_past_all k.rules r l)
  refused_by {O} (twenty {k} {f} x (inl l)) = of_text (length O) x ∙ over_limit (printed (names_in s k) f) (length O) (subst (λ t. most_rule_bytes < length t) x.text l)
  refused_by {O} (twenty {k} {f} x (inr l)) = of_text (length O) x ∙ over_room (printed (names_in s k) f) (length O) (subst (λ t. length O < length t) x.text l)

  accepted_by : {O O' : List ℕ} {n : ℕ} → PrintedIn s r O O' n → PrintsRule s r O O' (accepted n)
  accepted_by {O} x =
      let e = ap (with_room (length O)) (sym x.is_text.text) ∙ room_for x.text (length O) x.in_limit x.in_room in
      gives_text (of_text (length O) x.is_text ∙ e) O x.answer x.buffer

-- ---- and that there is no other

-- What is printed, or refused, by its case.
data Case (s : List ℕ) (r : ℕ) (O : List ℕ) : Result (List ℕ) → Type 0 where
  off : {n p : ℕ} → PrintRefused s r O n p → Case s r O (refused n p)
  on : {k : Contents} {f : Written} {t : List ℕ} → RuleText s r k f t → length t ≤ most_rule_bytes → length t ≤ length O → Case s r O (accepted t)

module _ (s : List ℕ) (r : ℕ) (O : List ℕ) where
  of_length : {k : Contents} {f : Written} {t : List ℕ} → RuleText s r k f t → Case s r O (with_room (length O) t)
  of_length {t = t} x = go (dec_lt most_rule_bytes (length t)) (dec_lt (length O) (length t))
    where
      go : Dec (most_rule_bytes < length t) → Dec (length O < length t) → Case s r O (with_room (length O) t)
      go (yes l) m = rw (over_limit t (length O) l) (off (twenty x (inl l)))
      go (no l) (yes m) = rw (over_room t (length O) m) (off (twenty x (inr m)))
      go (no l) (no m) = rw (room_for t (length O) (omega arith) (omega arith)) (on x (omega arith) (omega arith))

  of_rule : {k : Contents} → SheetAccepted s k → (o : Option Written) → rule_at k.rules r ≡ o → Case s r O (printed_rule (names_in s k) (length O) o)
  of_rule {k} x none e = off (seventeen x (rule_absent k.rules r e))
  of_rule {k} x (some f) e = of_length (record { sheet = x; rule = e; text = refl })

  of_sheet : (R : Result Contents) → sheet_in s ≡ R → Case s r O (printed_of s r (length O) R)
  of_sheet (accepted k) e = of_rule (sheet_in_lem s e) (rule_at k.rules r) refl
  of_sheet (refused n p) e = off (up_to_nine (sheet_case s e))

  which : Case s r O (printing s r (length O))
  unfolding printing
  which = of_sheet (sheet_in s) refl

abbrev Refusal : List ℕ → ℕ → List ℕ → List ℕ → Result ℕ → Type 0
Refusal s r O O' (accepted n) = Unit {0}
Refusal s r O O' (refused n p) = PrintRefused s r O n p × (O' ≡ O)

refusal_of : {s : List ℕ} {r : ℕ} {O : List ℕ} {R : Result (List ℕ)} → Case s r O R → {O' : List ℕ} {a : Result ℕ} → Gives R O O' a → Refusal s r O O' a
refusal_of {s} {r} {O} (off x) {O'} g = subst (Refusal s r O O') (sym g.answer) (x, g.leaves)
refusal_of {s} {r} {O} (on x l m) {O'} g = subst (Refusal s r O O') (sym g.answer) tt

abbrev Acceptance : List ℕ → ℕ → List ℕ → List ℕ → Result ℕ → Type 0
Acceptance s r O O' (accepted n) = PrintedIn s r O O' n
Acceptance s r O O' (refused n p) = Unit {0}

acceptance_of : {s : List ℕ} {r : ℕ} {O : List ℕ} {R : Result (List ℕ)} → Case s r O R → {O' : List ℕ} {a : Result ℕ} → Gives R O O' a → Acceptance s r O O' a
acceptance_of {s} {r} {O} (off x) {O'} g = subst (Acceptance s r O O') (sym g.answer) tt
acceptance_of {s} {r} {O} (on {k} {f} {t} x l m) {O'} g =
    subst (Acceptance s r O O') (sym g.answer)
    (record { contents = k; rule = f; text = t; is_text = x; in_limit = l; in_room = m; answer = refl; buffer = g.leaves })

-- ---- the theorems

module _ (s : List ℕ) (r : ℕ) {O O' : List ℕ} where
  -- "Each refusal is given exactly in its case. It returns number and place only, and every lent table and buffer keeps every word." Those of printing a rule:
  -- "after the sheet's own, 17 when the rule number, from 0, is outside its range, then 20, also for text over 256 bytes".
  pub print_refusals : {n p : ℕ} → PrintsRule s r O O' (refused n p) ↔ (PrintRefused s r O n p × (O' ≡ O))
  print_refusals {n} {p} = (
    λ g. refusal_of (which s r O) g,
    λ x. subst (λ U. PrintsRule s r O U (refused n p)) (sym x.1) (gives_refused (refused_by s r x.0) O),
  )

  -- "A written text starts at its buffer's first place, its length is answered, and the rest of the buffer stays."
  pub print_accepts : {n : ℕ} → PrintsRule s r O O' (accepted n) ↔ PrintedIn s r O O' n
  print_accepts = (λ g. acceptance_of (which s r O) g, λ x. accepted_by s r x)

-- No input has two refusals: what is given in one case is given in no other.
pub refusal_one : (s : List ℕ) (r : ℕ) {O : List ℕ} {n p m q : ℕ} → PrintRefused s r O n p → PrintRefused s r O m q → (n ≡ m) × (p ≡ q)
refusal_one s r {O} x y = let e = sym (refused_by s r x) ∙ refused_by s r y in (cc, cc)
