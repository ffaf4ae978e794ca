-- A sheet's rules that were read and lowered: what each answer says once as many hidden signals were found as were assumed.
-- Assumes nothing.
use mathlib.Core.Path.{◌≡◌, refl, sym, ap, subst, ◌∙◌}
use mathlib.Core.Bool.{true}
use mathlib.Core.Logic.{◌⊎◌, inl, inr, ⊎_elim}
use mathlib.Core.List.{List, [], ◌∷◌}
use Prim.Native.Nat.{ℕ, ◌+◌, ◌<◌, ◌≤◌}
use native.Mathlib.Omega.{arith}
use lib.ListN.{length, length-append, length-map}
use Rattle.spec_limits.specs.Limits.{most_hidden, most_rows, most_tops}
use Rattle.read_bytes.specs.Read.{Read}
use Rattle.read_bytes.specs.Read.Read.{got}
use Rattle.read_index.specs.Index.{name_count, names_in}
use Rattle.read_bytes.proofs.Answers.{same_value}
use Rattle.spec_tilco.specs.Lists.{total, laid}
use Rattle.spec_tilco.specs.Formula.{Written, hiddens, spelled}
use Rattle.spec_tilco.specs.Lowering.{lowered, size}
use Rattle.read_sheet.specs.RuleAnswers.{AllRules}
use Rattle.read_sheet.proofs.Ruled.{rules_many}
use Rattle.lower_rule.specs.RuleRows.{Buffers, all_lowered_says}
use Rattle.lower_rows.specs.RowWrites.{no_room_lem}
use Rattle.std.specs.Prelude.{Option, Some, None}
use Rattle.lower_rule.specs.declared.rules.InUse.{InUse}
use Rattle.lower_rule.proofs.Spelled.{definings_length}
use Rattle.lower_lines.specs.InTurn.{Legible, rules_at, spelled_all, Tried, RulesRead}
use Rattle.lower_sheet.specs.SheetRows.{Lent, InPlace, FitOrOver, RulesStand}
use Rattle.lower_lines.specs.InTurn.Tried.{went, full}
use Rattle.lower_sheet.specs.SheetRows.FitOrOver.{fits, over}
use Rattle.lower_lines.specs.declared.RuleLines.{RuleLines}
use Rattle.std.specs.Prelude.{Result, Ok, Err}
use Rattle.spec_refusals.specs.Numbers.{Refusal}

-- How many formulas rules come to: one a rule, and one a hidden signal.
pub spelled_many : (ws : List Written) (n : ℕ) → length (laid hiddens spelled ws n) ≡ length ws + total hiddens ws
spelled_many [] n = refl
spelled_many (w ∷ ws) n =
    omega (arith, length-append (spelled w n) (laid hiddens spelled ws (n + hiddens w)), definings_length n w, spelled_many ws (n + hiddens w))

-- So many tops are theirs.
pub tops_many : (ws : List Written) (n : ℕ) → length (spelled_all ws n) ≡ length ws + total hiddens ws
tops_many ws n = length-map (laid hiddens spelled ws n) (lowered true) ∙ spelled_many ws n

-- The same rules have the same hidden signals.
pub same_hidden : {R : Read (List Written)} {h q h' q' : ℕ} → AllRules R h q → AllRules R h' q' → h ≡ h'
same_hidden v w = v.hidden ∙ ap (total hiddens) (same_value (sym v.reads ∙ w.reads)) ∙ sym w.hidden

-- ---- the rules as they stand

module _ (s T : List ℕ) (k first : ℕ) (g : Legible s T k first) where
  abbrev R : Read (List Written)
  R = rules_at s T k first

  abbrev n : ℕ
  n = name_count T

  -- no room for the tops: there are too many hidden signals
  too_many : {h q : ℕ} (w : AllRules R h q) → most_tops < length (spelled_all w.all n) → most_hidden < h
  too_many w o =
      omega (arith, o, tops_many w.all n, rules_many (names_in s T) s k first g.within w.reads, g.most, w.hidden)

  module _ (B B' : Buffers) (a : Lent B.rows B.tops) where
    sized : {h q : ℕ} (w : AllRules R h q) → h ≤ most_hidden → (r : Option InUse) → Tried (spelled_all w.all n) (n + h) B B' (all_lowered_says r) → FitOrOver w.all n h B' (all_lowered_says r)
    sized w f (Some u) (went l o) = fits (record { start = B; lent = a; few = f; done = o })
    sized w f None (full o) = over (⊎_elim (λ i. inr (omega (arith, i, a.long))) (λ i. inl (too_many w (omega (arith, i, a.wide)))) o)

    -- As many hidden signals are found as were assumed, h.
    pub stands : {h : ℕ} → h ≤ most_hidden → ((h' q : ℕ) → AllRules R h' q → h' ≡ h) → (r : Result RuleLines Refusal) → RulesRead R n (n + h) B B' r → RulesStand R n B' r
    stands f same (Ok l) (w, t) =
        let e = same l.hidden l.end w in
        (w, sized w (omega (arith, e)) l.lowered (subst (λ (i : ℕ). Tried (spelled_all w.all n) (n + i) B B' (all_lowered_says l.lowered)) (sym e) t))
    stands f same (Err x) e = e

-- ---- the answer of a sheet's rules, case by case

of_place : {ws : List Written} {n h : ℕ} {B' : Buffers} {u : InUse} → FitOrOver ws n h B' (got u.tops u.rows) → InPlace ws n h u B'
of_place (fits k) = k

of_over : {ws : List Written} {n h : ℕ} {B' : Buffers} → FitOrOver ws n h B' no_room_lem → (most_hidden < h) ⊎ (most_rows < n + h + total size (spelled_all ws n))
of_over (over o) = o

module _ {ws : List Written} {n h : ℕ} {B' : Buffers} {r : Read ℕ} (x : FitOrOver ws n h B' r) where
  -- they are lowered
  pub when_placed : {u : InUse} → r ≡ got u.tops u.rows → InPlace ws n h u B'
  when_placed e = of_place (subst (FitOrOver ws n h B') e x)

  -- they are over their size
  pub when_over : r ≡ no_room_lem → (most_hidden < h) ⊎ (most_rows < n + h + total size (spelled_all ws n))
  when_over e = of_over (subst (FitOrOver ws n h B') e x)
