-- Accepted sheets and refused ones: every name in a rule is declared, every interval is near, and a refusal's place is at most the text's length.
-- Assumes nothing.
use mathlib.Core.Path.{◌≡◌, subst}
use mathlib.Core.List.{List, []}
use Prim.Native.Nat.{ℕ, ◌+◌, ◌-◌, ◌<◌, ◌≤◌}
use native.Mathlib.Omega.{arith}
use lib.Dec.{leb, eqb}
use lib.ListN.{length, take}
use lib.Seq.{length-take-le}
use Rattle.spec_limits.specs.Limits.{most_bytes, most_rule_bytes, most_rules, most_signals, most_ticks}
use Rattle.read_bytes.specs.Read.{and_then}
use Rattle.read_bytes.specs.Read.Read.{got, refused}
use Rattle.read_bytes.specs.Bytes.{bytes, pick, between}
use Rattle.read_names.specs.Spellings.{spelling_at, names_at, find_name}
use Rattle.read_lines.specs.Lines.{line, ranged_line, name_line, in_turn}
use Rattle.read_lines.proofs.KeyedLines.{placed}
use Rattle.read_names.proofs.Names.{names_many}
use Rattle.read_lines.proofs.Stays.{Stays, Any, then_stays, pick_stays, stays_longer, stays_got, stays_refused, line_stays, ranged_stays, name_stays}
use Rattle.spec_tilco.specs.Formula.{Named, Declared}
use Rattle.spec_tilco.specs.Lists.{All}
use Rattle.spec_tilco.proofs.Lists.{all_weaker}
use Rattle.read_parts.specs.FormulaText.{rule}
use Rattle.read_head.specs.SheetHead.{signal_line, head_of, head}
use Rattle.read_sheet.specs.Sheet.{rule_to, rule_line, rules, Contents, contents, sheet_of, meant}
use Rattle.read_sheet.proofs.Stays.{turn_stays}
use Rattle.read_sheet.proofs.Formulas.{Fits, rule_reads}

-- The rules fit the names.
abbrev pub FitsAll : Contents → Type 0
FitsAll k = All (Fits (length k.places)) k.rules

module _ (s : List ℕ) where
  -- the head
  signal_stays : (t : List ℕ) (p : ℕ) → p ≤ length s → Stays (λ v. v ≤ length s) (length s) (signal_line s t p)
  unfolding signal_line
  signal_stays t p h =
      then_stays (λ v. v ≤ length s) (length s) (λ v. v ≤ length s) (name_line s p (bytes "signal=") 2 4) _ (name_stays s p h (bytes "signal=") 2 4)
      (λ v q e i l.
      pick_stays (λ v. v ≤ length s) (length s) (eqb (find_name (spelling_at s v) (names_at s t)) (length t)) (got v q) (refused 4 v) (λ _. (i, l)) i)

  head_stays : Stays Any (length s) (head s)
  unfolding head
  head_stays =
      then_stays Any (length s) Any (ranged_line s 0 (bytes "window=") 2 3 1 most_ticks) _ (ranged_stays s 0 (omega arith) (bytes "window=") 2 3 1 most_ticks)
      (λ w p _ _ h.
      then_stays Any (length s) Any (ranged_line s p (bytes "signals=") 2 3 1 most_signals) _ (ranged_stays s p h (bytes "signals=") 2 3 1 most_signals)
      (λ n q _ _ i.
      then_stays Any (length s) (All (λ v. v ≤ length s)) (in_turn (signal_line s) n [] q) _ (turn_stays (λ v. v ≤ length s) (length s) (signal_line s) signal_stays n [] q i tt)
      (λ t u _ _ j.
      then_stays Any (length s) Any (ranged_line s u (bytes "rules=") 2 3 0 most_rules) (λ m e. got (head_of w t m) e) (ranged_stays s u j (bytes "rules=") 2 3 0 most_rules)
      (λ m e _ _ k. (tt, k)))))

  module _ (names : List (List ℕ)) where
    -- the rules
    rule_to_stays : (v e : ℕ) → v ≤ e → e < length s → Stays (Fits (length names)) (length s) (rule_to names s v e)
    unfolding rule_to
    rule_to_stays v e h l =
        let i : length (take e s) ≡ e = length-take-le e s (omega arith) in
        let j = rule_reads names (take e s) v (omega arith) in
        pick_stays (Fits (length names)) (length s) (between 1 most_rule_bytes (e - v)) (and_then (rule names (take e s) v) (λ w q. got w (e + 1))) (refused 5 v)
        (λ _.
        then_stays (Fits (length names)) (length s) (Fits (length names)) (rule names (take e s) v) (λ w q. got w (e + 1))
        (stays_longer (Fits (length names)) (length (take e s)) (length s) (rule names (take e s) v) (omega arith) j)
        (λ w q _ f k. (f, omega arith)))
        (omega arith)

    rule_line_stays : (p : ℕ) → p ≤ length s → Stays (Fits (length names)) (length s) (rule_line names s p)
    unfolding rule_line
    rule_line_stays p h =
        then_stays (Fits (length names)) (length s) (λ v. v ≤ length s) (line s p (bytes "rule=") 2) (λ v e. rule_to names s v e) (line_stays s p h (bytes "rule=") 2)
        (λ v e f i l. let w = placed s p (bytes "rule=") 2 f in rule_to_stays v e w.order w.inside)

    rules_stay : (m p : ℕ) → p ≤ length s → Stays (All (Fits (length names))) (length s) (rules names s m p)
    unfolding rules
    rules_stay m p h = turn_stays (Fits (length names)) (length s) (λ _ q. rule_line names s q) (λ _ q. rule_line_stays q) m [] p h tt

  -- Every sheet: its rules fit its names, and its places, a refusal's too, stay in the text.
  pub sheet_stays : Stays FitsAll (length s) (sheet_of s)
  unfolding sheet_of
  sheet_stays =
      pick_stays FitsAll (length s) (leb (length s) most_bytes)
      (and_then (head s) (λ h p. and_then (rules (names_at s h.places) s h.count p) (λ ws q. pick (eqb q (length s)) (λ _. got (contents h.window h.places ws) q) (refused 2 q))))
      (refused 1 0)
      (λ _.
      then_stays FitsAll (length s) Any (head s) _ head_stays
      (λ h p _ _ i.
      then_stays FitsAll (length s) (All (Fits (length (names_at s h.places)))) (rules (names_at s h.places) s h.count p) _ (rules_stay (names_at s h.places) h.count p i)
      (λ ws q _ f j.
      pick_stays FitsAll (length s) (eqb q (length s)) (got (contents h.window h.places ws) q) (refused 2 q)
      (λ _. (subst (λ (n : ℕ). All (Fits n) ws) (names_many s h.places) f, j)) j)))
      (omega arith)

  -- Of an accepted sheet every name is declared (refusal 6) and every interval is near (refusal 7).
  pub sheet_fits : {k : Contents} {q : ℕ} → sheet_of s ≡ got k q → FitsAll k
  sheet_fits e = (stays_got FitsAll (length s) sheet_stays e).0

  pub sheet_declared : {k : Contents} {q : ℕ} → sheet_of s ≡ got k q → Declared (meant k)
  sheet_declared {k} e = let n : ℕ = length k.places in all_weaker (Fits n) (Named n) (λ w f. f.0) k.rules (sheet_fits e)

  -- A refusal's place is at most the text's length.
  pub refusal_inside : {n p : ℕ} → sheet_of s ≡ refused n p → p ≤ length s
  refusal_inside e = stays_refused FitsAll (length s) sheet_stays e
