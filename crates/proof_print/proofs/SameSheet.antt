-- A sheet in which rules are replaced by what is printed of them is the same sheet, and every rule of it is printed as before.
-- Assumes that no rule's text has an LF in it, and that the head counts the rules.
use mathlib.Core.Path.{◌≡◌, refl, sym, ap, ap₂, subst, ◌∙◌}
use mathlib.Core.Bool.{Bool, true, false}
use mathlib.Core.List.{List}
use Prim.Native.Nat.{ℕ, suc, ◌+◌, ◌*◌, ◌≤◌}
use native.Mathlib.Omega.{arith}
use lib.ListN.{length, length-append}
use Rattle.spec_limits.specs.Limits.{most_bytes, most_rule_bytes}
use Rattle.read_bytes.specs.Read.Read.{got, refused}
use Rattle.read_bytes.specs.Bytes.{pick, between, InLine}
use Rattle.read_bytes.proofs.Tests.{between_in, between_is}
use Rattle.read_bytes.proofs.Answers.{not_both}
use Rattle.read_names.specs.Spellings.{names_at}
use Rattle.spec_tilco.specs.Formula.{Written}
use Rattle.spec_tilco.specs.Lists.{All, total}
use Rattle.read_parts.specs.FormulaText.{rule}
use Rattle.read_head.specs.SheetHead.{Head, head}
use Rattle.read_head.proofs.Heads.{head_past}
use Rattle.read_head.proofs.HeadPrefix.{head_names_kept}
use Rattle.read_sheet.specs.Sheet.{Contents, contents, rule_lines, sheet_text}
use Rattle.read_sheet.proofs.Bodies.{rule_text, Each}
use Rattle.read_sheet.proofs.Bodies.Each.{none, one}
use Rattle.read_sheet.proofs.SheetTexts.{lines_long, sheet_read, read_sheet}
use Rattle.open_sheet.specs.Results.{accepted}
use Rattle.open_sheet.specs.SheetIn.{sheet_in}
use Rattle.open_sheet.proofs.Sheets.{in_fits}
use Rattle.open_table.proofs.Tables.{in_sheet}
use Rattle.spec_print.specs.RuleTexts.{printed, IsRule}
use Rattle.spec_print.specs.Printing.{rule_at, printed_rule, printed_of, printing}
use Rattle.spec_print.proofs.ReadBack.{read_back, in_one_line, not_empty}
use Rattle.proof_print.proofs.HeadLength.{head_short}
use Rattle.proof_print.specs.PrintCases.{Replaced}
use Rattle.proof_print.specs.PrintCases.Replaced.{end, kept, replaced}

-- ---- the rules' texts

module _ {names : List (List ℕ)} where
  -- A rule's text by itself says a rule, and is at most 256 bytes.
  text_rule : (t : List ℕ) {f : Written} {q : ℕ} → rule_text names t ≡ got f q → IsRule names f × (length t ≤ most_rule_bytes)
  unfolding rule_text
  text_rule t {f} {q} e = go (between 1 most_rule_bytes (length t)) refl e
    where
      go : (b : Bool) → between 1 most_rule_bytes (length t) ≡ b → pick b (λ _. rule names t 0) (refused 5 0) ≡ got f q → IsRule names f × (length t ≤ most_rule_bytes)
      go true h x = (record { text = t; place = 0; end = q; reads = x }, (between_is 1 most_rule_bytes (length t) h).1)
      go false h x = absurd (not_both (sym x))

  -- What is printed of it says the same rule.
  printed_rule_lem : {f : Written} → IsRule names f → length (printed names f) ≤ most_rule_bytes → rule_text names (printed names f) ≡ got f (length (printed names f))
  unfolding rule_text
  printed_rule_lem {f} h l = rw (between_in 1 most_rule_bytes (length (printed names f)) (not_empty h) l) (read_back h)

  each_replaced : {ts us : List (List ℕ)} {fs : List Written} → Each names ts fs → Replaced names ts fs us → Each names us fs
  each_replaced none end = none
  each_replaced (one q e x) (kept r) = one q e (each_replaced x r)
  each_replaced (one {body = t} {w = f} q e x) (replaced l r) = one (length (printed names f)) (printed_rule_lem (text_rule t e).0 l) (each_replaced x r)

  lines_replaced : {ts us : List (List ℕ)} {fs : List Written} → Each names ts fs → Replaced names ts fs us → All InLine ts → All InLine us
  lines_replaced none end h = h
  lines_replaced (one q e x) (kept r) h = (h.0, lines_replaced x r h.1)
  lines_replaced (one {body = t} q e x) (replaced l r) h = (in_one_line (text_rule t e).0, lines_replaced x r h.1)

  -- There are as many lines, each at most 262 bytes long.
  many_replaced : {ts us : List (List ℕ)} {fs : List Written} → Replaced names ts fs us → length ts ≡ length us
  many_replaced end = refl
  many_replaced (kept r) = ap suc (many_replaced r)
  many_replaced (replaced l r) = ap suc (many_replaced r)

  lines_short : {ts : List (List ℕ)} {fs : List Written} → Each names ts fs → total (λ t. length t + 6) ts ≤ 262 * length ts
  lines_short none = omega arith
  lines_short (one {body = t} q e x) = omega (arith, (text_rule t e).1, lines_short x)

-- ---- the sheet

module _ (h : List ℕ) {d : Head} (headed : head h ≡ got d (length h)) {ts us : List (List ℕ)} (in_line_lem : All InLine ts) (count : d.count ≡ length ts) {k : Contents}
    (e : sheet_in (sheet_text h ts) ≡ accepted k) (r : Replaced (names_at h d.places) ts k.rules us) where
  -- The sheet is the same: window, names and rules.
  pub same_sheet : sheet_in (sheet_text h us) ≡ accepted k
  same_sheet =
      let x = in_sheet (sheet_text h ts) e in
      let y = read_sheet h headed ts in_line_lem count x.reads in
      let own : Each (names_at h d.places) ts k.rules = subst (λ (c : Contents). Each (names_at h d.places) ts c.rules) y.all y.each in
      let each = each_replaced own r in
      let c = count ∙ many_replaced r in
      let m = (head_past h headed).sizes.rules_high in
      let l : length (sheet_text h us) ≤ most_bytes = omega (arith, length-append h (rule_lines us), lines_long us, lines_short each, head_short h headed) in
      let z = sheet_read h headed us (lines_replaced own r in_line_lem) c each l in
      let i : contents d.window d.places k.rules ≡ k = ap₂ (λ (w : ℕ) (p : List ℕ). contents w p k.rules) (ap (λ (v : Contents). v.window) y.all) (ap (λ (v : Contents). v.places) y.all) in
      in_fits (sheet_text h us) (z ∙ ap (λ (v : Contents). got v (length (sheet_text h us))) i) x.hidden x.rows

  -- So "writing it again changes no byte": each of its rules is printed as it was.
  pub same_printing : (i room : ℕ) → printing (sheet_text h us) i room ≡ printing (sheet_text h ts) i room
  unfolding printing
  same_printing i room =
      let x = in_sheet (sheet_text h ts) e in
      let y = read_sheet h headed ts in_line_lem count x.reads in
      let p : d.places ≡ k.places = ap (λ (v : Contents). v.places) y.all in
      let a = subst (λ ps. names_at (sheet_text h us) ps ≡ names_at h ps) p (head_names_kept h (rule_lines us) headed) in
      let b = subst (λ ps. names_at (sheet_text h ts) ps ≡ names_at h ps) p (head_names_kept h (rule_lines ts) headed) in
      ap (printed_of (sheet_text h us) i room) same_sheet ∙ ap (λ names. printed_rule names room (rule_at k.rules i)) (a ∙ sym b) ∙ sym (ap (printed_of (sheet_text h ts) i room) e)
