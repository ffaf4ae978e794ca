-- The lines of an accepted sheet's rules: where each is, and that the rule with a number is read there.
-- Assumes nothing. `names` are the declared names' texts, `s` is the sheet's text.
use mathlib.Core.Path.{◌≡◌, refl, sym, ap, subst, ◌∙◌}
use mathlib.Core.List.{List, [], ◌∷◌, ◌++◌}
use mathlib.Core.Option.{Option, none, some}
use mathlib.Core.Logic.{◌⊎◌, inl, inr, ⊎_elim}
use Prim.Native.Nat.{ℕ, zero, suc, ◌+◌, ◌-◌, ◌*◌, ◌<◌, ◌≤◌}
use native.Mathlib.Decide.{dec_le}
use native.Mathlib.Nat.{add-zero}
use native.Mathlib.Omega.{arith}
use lib.ListN.{length, length-append}
use Rattle.read_bytes.specs.Read.Read.{got}
use Rattle.read_bytes.specs.Bytes.{bytes}
use Rattle.read_bytes.proofs.Answers.{same_value, came}
use Rattle.read_bytes.proofs.Runs.{end_past, end_reach}
use Rattle.read_lines.specs.Lines.{in_line, line_end, line, in_turn}
use Rattle.read_lines.proofs.KeyedLines.{placed}
use Rattle.spec_tilco.specs.Formula.{Written}
use Rattle.read_sheet.specs.Sheet.{rule_line, rules}
use Rattle.read_sheet.proofs.Ruled.{rule_to_past, rule_past}
use Rattle.spec_print.specs.Printing.{rule_at}
use Rattle.op_print.specs.RuleLines.{line_of}

-- ---- the place of a line

pub line_here : (s : List ℕ) (left p : ℕ) → left ≡ 0 → line_of s left p ≡ p
unfolding line_of
line_here s left p e = rw e

pub line_after : (s : List ℕ) (left p : ℕ) → 0 < left → line_of s left p ≡ line_of s (left - 1) (line_end s (p + length (bytes "rule=")) + 1)
unfolding line_of
line_after s zero p h = absurd (omega arith)
line_after s (suc left) p h = let e : suc left - 1 ≡ left = omega arith in rw e

-- A line's end is in the text, or it starts past it.
end_most : (s : List ℕ) (p : ℕ) → (line_end s p ≤ length s) ⊎ (line_end s p ≡ p)
end_most s p = go (dec_le p (length s))
  where
    go : Dec (p ≤ length s) → (line_end s p ≤ length s) ⊎ (line_end s p ≡ p)
    go (yes h) = inl (end_reach in_line s p h).inside
    go (no h) = inr (end_past in_line s p (omega arith))

-- So the places of at most `rule` lines can be counted.
pub line_within : (s : List ℕ) (at left rule : ℕ) → 0 < left → left ≤ rule → at + 6 * left ≤ length s + 6 * rule → line_end s (at + 5) + 1 + 6 * (left - 1) ≤ length s + 6 * rule
line_within s at left rule z l h = ⊎_elim (λ e. omega arith) (λ e. omega arith) (end_most s (at + 5))

-- ---- rules by their numbers

rule_kept : (fs gs : List Written) (r : ℕ) → r < length fs → rule_at (fs ++ gs) r ≡ rule_at fs r
unfolding rule_at
rule_kept [] gs r h = absurd (omega arith)
rule_kept (f ∷ fs) gs zero h = refl
rule_kept (f ∷ fs) gs (suc r) h = rule_kept fs gs r (omega arith)

rule_new : (fs : List Written) (f : Written) → rule_at (fs ++ (f ∷ [])) (length fs) ≡ some f
unfolding rule_at
rule_new [] f = refl
rule_new (g ∷ fs) f = rule_new fs f

pub rule_past_all : (fs : List Written) (r : ℕ) → length fs ≤ r → rule_at fs r ≡ none
unfolding rule_at
rule_past_all [] r h = refl
rule_past_all (f ∷ fs) zero h = absurd (omega arith)
rule_past_all (f ∷ fs) (suc r) h = rule_past_all fs r (omega arith)

none_some : {f : Written} → ◌≡◌ {A = Option Written} none (some f) → ⊥
none_some e = let z : ◌≡◌ {A = ℕ} 0 1 = cc in omega arith

pub rule_inside : (fs : List Written) (r : ℕ) {f : Written} → rule_at fs r ≡ some f → r < length fs
unfolding rule_at
rule_inside [] r e = absurd (none_some e)
rule_inside (g ∷ fs) zero e = omega arith
rule_inside (g ∷ fs) (suc r) e = let l = rule_inside fs r e in omega arith

pub rule_absent : (fs : List Written) (r : ℕ) → rule_at fs r ≡ none → length fs ≤ r
unfolding rule_at
rule_absent [] r e = omega arith
rule_absent (f ∷ fs) zero e = absurd (none_some (sym e))
rule_absent (f ∷ fs) (suc r) e = let l = rule_absent fs r e in omega arith

-- ---- the lines in turn

module _ (names : List (List ℕ)) (s : List ℕ) where
  -- The next line follows a rule that is read.
  line_next : (p : ℕ) {f : Written} {q : ℕ} → rule_line names s p ≡ got f q → q ≡ line_end s (p + length (bytes "rule=")) + 1
  unfolding rule_line
  line_next p e =
      let d = came (line s p (bytes "rule=") 2) _ e in
      let y = placed s p (bytes "rule=") 2 d.first in
      let z = rule_to_past names s d.value d.place d.then in
      sym z ∙ ap (λ x. x + 1) (y.ends ∙ ap (line_end s) y.value)

  -- The rules that were read before stay.
  rules_kept : (m : ℕ) (t : List Written) (p : ℕ) {fs : List Written} {q : ℕ} → in_turn (λ _ x. rule_line names s x) m t p ≡ got fs q → (r : ℕ) → r < length t → rule_at fs r ≡ rule_at t r
  unfolding in_turn
  rules_kept zero t p e r h = ap (λ x. rule_at x r) (sym (same_value e))
  rules_kept (suc m) t p e r h =
      let d = came (rule_line names s p) _ e in
      let l = length-append t (d.value ∷ []) in
      rules_kept m (t ++ (d.value ∷ [])) d.place d.then r (omega arith) ∙ rule_kept t (d.value ∷ []) r h

  -- Rule number r is read at its line, which stands in the text.
  pub record Found (p r : ℕ) (o : Option Written) : Type 0 where
    pub rule : Written
    pub end : ℕ
    pub reads : rule_line names s (line_of s r p) ≡ got rule end
    pub is_rule : o ≡ some rule
    pub ahead : p ≤ line_of s r p
    pub inside : line_of s r p ≤ length s

  -- The rule after the next line is the rule after it.
  further : (p q r : ℕ) {o : Option Written} → q ≡ line_end s (p + length (bytes "rule=")) + 1 → p ≤ q → Found q r o → Found p (suc r) o
  unfolding line_of
  further p q r j l x = record {
    rule = x.rule;
    end = x.end;
    reads = rw j at x.reads;
    is_rule = x.is_rule;
    ahead = rw (← j) (omega (arith, x.ahead));
    inside = rw (← j) x.inside;
  }

  found_from : (m : ℕ) (t : List Written) (p : ℕ) {fs : List Written} {q : ℕ} → p ≤ length s → in_turn (λ _ x. rule_line names s x) m t p ≡ got fs q → (r : ℕ) → r < m → Found p r (rule_at fs (length t + r))
  unfolding in_turn line_of
  found_from zero t p h e r l = absurd (omega arith)
  found_from (suc m) t p {fs} h e zero l =
      let d = came (rule_line names s p) _ e in
      let n = length-append t (d.value ∷ []) in
      let k = rules_kept m (t ++ (d.value ∷ [])) d.place d.then (length t) (omega arith) in
      record {
        rule = d.value;
        end = d.place;
        reads = d.first;
        is_rule = ap (rule_at fs) (add-zero (length t)) ∙ k ∙ rule_new t d.value;
        ahead = omega arith;
        inside = h;
      }
  found_from (suc m) t p {fs} h e (suc r) l =
      let d = came (rule_line names s p) _ e in
      let n = length-append t (d.value ∷ []) in
      let y = rule_past names s p d.first in
      let i : length (t ++ (d.value ∷ [])) + r ≡ length t + suc r = omega arith in
      further p d.place r (line_next p d.first) (omega (arith, y.ahead))
      (subst (λ x. Found d.place r (rule_at fs x)) i (found_from m (t ++ (d.value ∷ [])) d.place y.inside d.then r (omega arith)))

  pub found : (m p : ℕ) {fs : List Written} {q : ℕ} → p ≤ length s → rules names s m p ≡ got fs q → (r : ℕ) → r < m → Found p r (rule_at fs r)
  unfolding rules
  found m p {fs} h e r l = let z : 0 + r ≡ r = omega arith in rw z at (found_from m [] p h e r l)
