-- A name whose end breaks the rule for end numbers (E8): "4 covers the new rule in a signal line; such a name gives 6 in a rule and 12 elsewhere."
-- Assumes that the text has at most 32,768 bytes. It can't be declared, so in a rule and in readings it is a name that is not.
use mathlib.Core.Path.{◌≡◌, refl, sym, subst, ◌∙◌}
use mathlib.Core.Bool.{Bool, true, false, true≢false}
use mathlib.Core.List.{List, [], ◌∷◌, ◌++◌}
use Prim.Native.Nat.{ℕ, suc, ◌+◌, ◌<◌, ◌≤◌}
use lib.ListN.{length}
use Rattle.spec_limits.specs.Limits.{most_bytes, most_open, most_rule_bytes}
use Rattle.read_bytes.specs.Bytes.{bytes, between}
use Rattle.read_bytes.specs.Read.Read.{refused}
use Rattle.read_names.specs.EndNumbers.{well_ended}
use Rattle.read_names.specs.Spellings.{spelling_at, names_at, find_name}
use Rattle.read_names.proofs.Names.{find_is, names_append}
use Rattle.spec_tilco.specs.Lists.{All}
use Rattle.spec_tilco.proofs.Lists.{all_append, all_nth}
use Rattle.spec_tilco.specs.Formula.{Written}
use Rattle.read_sheet.specs.Sheet.{sheet_of}
use Rattle.read_reading.specs.Spans.{Span}
use Rattle.read_readings.specs.Readings.{readings}
use Rattle.spec_grammar.specs.Tokens.{TokenAt, Tokens}
use Rattle.spec_grammar.specs.Grammar.{Name, Declared}
use Rattle.spec_grammar.specs.RuleFaults.{Begins, Wrong}
use Rattle.spec_grammar.specs.Lines.{LineAt, SignalName}
use Rattle.spec_grammar.specs.SheetLines as sheets
use Rattle.spec_grammar.specs.SheetLines.{Next, Right, Reached, BadName, BadFormula}
use Rattle.spec_grammar.specs.ReadingLines as taking
use Rattle.spec_grammar.proofs.Lines.{value_at_lem, same_word}
use Rattle.spec_grammar.proofs.Refusals.{refusal_4, refusal_6, refusal_12}

-- No such name is a signal's.
no_signal : {v : List ℕ} → well_ended v ≡ false → SignalName v → ⊥
no_signal e n = true≢false (sym n.ended ∙ e)

module _ (s : List ℕ) where
  -- The names that stand declared before what comes next.
  abbrev declared_in : Next → List (List ℕ)
  declared_in Next.window = []
  declared_in (Next.signals w) = []
  declared_in (Next.signal w n places) = names_at s places
  declared_in (Next.rule w places m ws) = names_at s places

  right_ended : {p : ℕ} {c e : Next} {v : List ℕ} → LineAt s p (sheets.key c ++ v) → Right s p c v e → All (λ w. well_ended w ≡ true) (declared_in c) → All (λ w. well_ended w ≡ true) (declared_in e)
  unfolding names_at
  right_ended a (Right.number sheets.Ranged.ticks n b) h = tt
  right_ended a (Right.number sheets.Ranged.signal_count n b) h = tt
  right_ended a (Right.number sheets.Ranged.rule_count n b) h = h
  right_ended {p} {v = v} a (Right.name {places = places} n new) h =
      let u = p + length (bytes "signal=") in
      let i : spelling_at s u ≡ v = same_word s u 4 v (value_at_lem (bytes "signal=") v a) n in
      subst (All (λ w. well_ended w ≡ true)) (sym (names_append s places (u ∷ [])))
      (all_append (λ w. well_ended w ≡ true) (names_at s places) (spelling_at s u ∷ []) h (subst (λ w. well_ended w ≡ true) (sym i) n.ended, tt))
  right_ended a (Right.formula b r) h = h

  -- They all end well.
  reached_ended : {c : Next} {p : ℕ} → Reached s c p → All (λ w. well_ended w ≡ true) (declared_in c)
  reached_ended Reached.start = tt
  reached_ended (Reached.line r a x) = right_ended a x (reached_ended r)

  -- So a name that does not is not declared.
  not_declared : {names : List (List ℕ)} {u : List ℕ} → All (λ w. well_ended w ≡ true) names → well_ended u ≡ false → (i : ℕ) → Declared names u i → ⊥
  not_declared {names} {u} a e i d =
      let l : find_name u names < length names = rw d.found d.declared in
      true≢false (sym (subst (λ w. well_ended w ≡ true) (find_is u names l) (all_nth (λ w. well_ended w ≡ true) [] names (find_name u names) a l)) ∙ e)

  module _ (fits : length s ≤ most_bytes) {p : ℕ} where
    -- "4 covers the new rule in a signal line":
    pub ill_ended_signal : {w n : ℕ} {places v : List ℕ} → Reached s (Next.signal w (suc n) places) p → LineAt s p (bytes "signal=" ++ v) → well_ended v ≡ false
        → sheet_of s ≡ refused 4 (p + length (bytes "signal="))
    ill_ended_signal r a e = (refusal_4 s fits _).1 (record { next = _; place = p; reached = r; holds = (BadName.name a (λ n _. no_signal e n), refl) })

    -- "such a name gives 6 in a rule", where a name may stand and nothing is wrong before it,
    pub ill_ended_in_rule : {w m κ : ℕ} {places v u : List ℕ} {ws : List Written} {us : List (List ℕ)} → Reached s (Next.rule w places (suc m) ws) p → LineAt s p (bytes "rule=" ++ v)
        → between 1 most_rule_bytes (length v) ≡ true → Tokens v κ 0 us → TokenAt v κ u → Name u → well_ended u ≡ false → Begins most_open (us ++ (u ∷ []))
        → ((n i : ℕ) → Wrong (names_at s places) v 0 n i → κ ≤ i) → sheet_of s ≡ refused 6 (p + length (bytes "rule=") + κ)
    ill_ended_in_rule r a l t b n e g first =
        (refusal_6 s fits _).1 (record { next = _; place = p; reached = r; holds = BadFormula.formula a l (record { wrong = Wrong.name t b n (not_declared (reached_ended r) e) g; first = first }) })

-- "and 12 elsewhere": in readings of either form.
pub ill_ended_in_readings : (names : List (List ℕ)) (W : ℕ) (r : List ℕ) → length r ≤ most_bytes → {spans : Bool} {p f l : ℕ} {es : List Span} {v : List ℕ}
    → taking.HasForm r spans → taking.Reached spans names W r (taking.Next.signal f l es) p → LineAt r p (bytes "signal=" ++ v) → well_ended v ≡ false
    → readings names W r ≡ refused 12 (p + length (bytes "signal="))
ill_ended_in_readings names W r fits {spans} {p} h x a e =
    (refusal_12 names W r fits _).1 (spans, h, record { next = _; place = p; reached = x; holds = (taking.Unknown.name a (λ y n _. no_signal e n), refl) })
