-- A rule that is read from its line can be printed; and each answer of printing the rule with a number.
-- Assumes nothing. `s` is the sheet's text.
use mathlib.Core.Path.{◌≡◌, refl, sym, ap, ap₂, subst, ◌∙◌}
use mathlib.Core.Bool.{Bool, true, false}
use mathlib.Core.List.{List}
use mathlib.Core.Option.{some}
use Prim.Native.Nat.{ℕ, ◌+◌, ◌-◌, ◌*◌, ◌<◌, ◌≤◌}
use native.Mathlib.Decide.{dec_le}
use native.Mathlib.Omega.{arith}
use lib.Dec.{leb, eqb}
use lib.ListN.{length, take, length-drop, get_or}
use lib.Seq.{length-take-le, get_or-drop}
use Rattle.spec_limits.specs.Limits.{most_bytes, most_rules, most_rule_bytes}
use Rattle.read_bytes.specs.Read.{and_then}
use Rattle.read_bytes.specs.Read.Read.{got, refused as unread}
use Rattle.read_bytes.specs.Bytes.{bytes, pick, between}
use Rattle.read_bytes.proofs.Answers.{not_both, same_value, same_place, through, came}
use Rattle.read_bytes.proofs.Tests.{between_is}
use Rattle.read_names.specs.Spellings.{names_at}
use Rattle.read_names.proofs.Names.{names_many}
use Rattle.read_index.specs.Index.{links, name_count, places_in, names_in, IndexOf}
use Rattle.read_lines.specs.Lines.{line_end, line, ranged_line}
use Rattle.read_lines.proofs.KeyedLines.{placed}
use Rattle.read_lines.proofs.Stays.{stays_got}
use Rattle.spec_tilco.specs.Formula.{Written, Named}
use Rattle.read_arena.specs.NodeRules.{written_at, Arena}
use Rattle.read_parts.specs.FormulaText.{rule}
use Rattle.read_head.specs.SheetHead.{Head, head_of, head}
use Rattle.read_sheet.specs.Sheet.{Contents, contents, rule_to, rule_line, rules, at_end, sheet_of}
use Rattle.read_sheet.specs.RuleAnswers.{RuleHeld}
use Rattle.read_sheet.proofs.Formulas.{rule_reads}
use Rattle.read_sheet.proofs.Wholes.{sheet_long, sheet_head}
use Rattle.read_sheet.proofs.Ruled.{rules_many}
use Rattle.read_head.proofs.Heads.{head_past}
use Rattle.read_head.proofs.Signals.{up_to_lem}
use Rattle.open_sheet.specs.Results.{Result, accepted, refused}
use Rattle.open_sheet.specs.SheetIn.{sheet_in}
use Rattle.open_sheet.proofs.Sheets.{in_refused}
use Rattle.open_table.proofs.Tables.{in_sheet, accepted_refused}
use Rattle.spec_print.specs.RuleTexts.{printed, IsRule}
use Rattle.spec_operations.specs.TextAnswers.{Gives}
use Rattle.spec_print.specs.Printing.{with_room, printed_rule, printed_of, printing, rule_at, PrintsRule}
use Rattle.spec_print.proofs.ReadBack.{at_most_twice}
use Rattle.write_formula.specs.PartTexts.{NamedNode}
use Rattle.op_print.specs.RuleLines.{line_of, printed_line, RuleAt, OpenedNames}
use Rattle.spec_operations.proofs.TextAnswers.{gives_refused}
use Rattle.op_print.proofs.RulesLine.{last_place, RulesLine, rules_line}
use Rattle.op_print.proofs.RulesFound.{rule_past_all, rule_inside, Found, found}

-- ---- a rule that is read from its line

-- Its names are declared, and its text is at most twice as long as a rule.
pub record Printable (names : List (List ℕ)) (f : Written) : Type 0 where
  pub is_rule : IsRule names f
  pub named : Named (length names) f
  pub short : length (printed names f) ≤ 2 * most_rule_bytes

module _ (names : List (List ℕ)) (s : List ℕ) where
  rule_printable : (v e : ℕ) {f : Written} {q : ℕ} → v ≤ e → e < length s → rule_to names s v e ≡ got f q → Printable names f
  unfolding rule_to
  rule_printable v e {f} {q} o i x = go (between 1 most_rule_bytes (e - v)) refl x
    where
      go : (b : Bool) → between 1 most_rule_bytes (e - v) ≡ b → pick b (λ _. and_then (rule names (take e s) v) (λ w y. got w (e + 1))) (unread 5 v) ≡ got f q → Printable names f
      go true h y =
          let d = came (rule names (take e s) v) _ y in
          let r : rule names (take e s) v ≡ got f d.place = d.first ∙ ap (λ (w : Written). got w d.place) (same_value d.then) in
          let l : length (take e s) ≡ e = length-take-le e s (omega arith) in
          let m = between_is 1 most_rule_bytes (e - v) h in
          record {
            is_rule = record { text = take e s; place = v; end = d.place; reads = r };
            named = (stays_got _ (length (take e s)) (rule_reads names (take e s) v (omega arith)) r).0.0;
            short = omega (arith, at_most_twice names (take e s) v r, m.1);
          }
      go false h y = absurd (not_both (sym y))

  pub line_printable : (p : ℕ) {f : Written} {q : ℕ} → rule_line names s p ≡ got f q → Printable names f
  unfolding rule_line
  line_printable p x =
      let d = came (line s p (bytes "rule=") 2) _ x in
      let y = placed s p (bytes "rule=") 2 d.first in
      rule_printable d.value d.place y.order y.inside d.then

-- The rule stands at the last node of the arena.
module _ (s T : List ℕ) (p : ℕ) {a : List ℕ} {h q u h' : ℕ} (x : RuleHeld a h (rule_line (names_in s T) s p) q u h') where
  pub node_named : NamedNode T a (u - 1)
  node_named =
      let m = (line_printable (names_in s T) s p x.reads).named in
      let c : length (names_in s T) ≡ name_count T = names_many s (places_in T) ∙ length-drop links T in
      let z : u ≡ u - 1 + 1 = omega (arith, x.some) in
      record {
        stands = subst (λ n. Arena n a) z x.arena;
        named = subst (λ n. Named n (written_at a (u - 1))) c (subst (Named (length (names_in s T))) (sym x.held.text) m);
      }

  pub node_short : length (printed (names_in s T) (written_at a (u - 1))) ≤ 2 * most_rule_bytes
  node_short = rw x.held.text (line_printable (names_in s T) s p x.reads).short

  pub gives_rule : {O U : List ℕ} {r : Result ℕ} → Gives (with_room (length O) (printed (names_in s T) (written_at a (u - 1)))) O U r → Gives (printed_line (names_in s T) (length O) (rule_line (names_in s T) s p)) O U r
  gives_rule {O} {U} {r} g =
      subst (λ R. Gives (printed_line (names_in s T) (length O) R) O U r) (sym x.reads)
      (subst (λ f. Gives (with_room (length O) (printed (names_in s T) f)) O U r) x.held.text g)

-- ---- the rule with a number

-- An accepted sheet's rules are read after its head.
after_head : (s : List ℕ) {k : Contents} {q : ℕ} {h : Head} {p : ℕ} → sheet_of s ≡ got k q → head s ≡ got h p
    → (h.places ≡ k.places) × (x : ℕ) × (rules (names_at s h.places) s h.count p ≡ got k.rules x)
unfolding sheet_of
after_head s {k} {q} {h} {p} e f = go (leb (length s) most_bytes) (rw f at e)
  where
    go : (b : Bool) → pick b (λ _. and_then (rules (names_at s h.places) s h.count p) (λ ws x. at_end s (contents h.window h.places ws) x)) (unread 1 0) ≡ got k q
        → (h.places ≡ k.places) × (x : ℕ) × (rules (names_at s h.places) s h.count p ≡ got k.rules x)
    go true y =
        let d = came (rules (names_at s h.places) s h.count p) _ y in
        let g = (through (eqb d.place (length s)) (contents h.window h.places d.value) d.place 2 d.place d.then).1 in
        (ap (λ (c : Contents). c.places) g, d.place, d.first ∙ ap (λ (c : Contents). got c.rules d.place) g)
    go false y = absurd (not_both (sym y))

module _ (s : List ℕ) {k : Contents} (e : sheet_in s ≡ accepted k) where
  module _ {h : Head} {p : ℕ} (f : head s ≡ got h p) where
    abbrev names : List (List ℕ)
    names = names_at s h.places

    read_after_lem : (h.places ≡ k.places) × (x : ℕ) × (rules names s h.count p ≡ got k.rules x)
    read_after_lem = after_head s (in_sheet s e).reads f

    printing_is : (r room : ℕ) → printing s r room ≡ printed_rule names room (rule_at k.rules r)
    unfolding printing
    printing_is r room = rw e (ap (λ ps. printed_rule (names_at s ps) room (rule_at k.rules r)) (sym read_after_lem.0))

    -- there is no rule with a number past the last,
    pub no_rule : {r : ℕ} → h.count ≤ r → (room : ℕ) → printing s r room ≡ refused 17 0
    no_rule {r} l room =
        let m = rules_many names s h.count p (head_past s f).inside read_after_lem.2 in
        printing_is r room ∙ ap (printed_rule names room) (rule_past_all k.rules r (omega arith))

    -- and any other is read from its line.
    pub rule_found : {r : ℕ} → r < h.count → Found names s p r (rule_at k.rules r)
    rule_found {r} l = found names s h.count p (head_past s f).inside read_after_lem.2 r l

    pub rule_printed : {r : ℕ} → r < h.count → (room : ℕ) → printing s r room ≡ printed_line names room (rule_line names s (line_of s r p))
    rule_printed {r} l room =
        let x = rule_found l in
        printing_is r room ∙ ap (printed_rule names room) x.is_rule ∙ ap (printed_line names room) (sym x.reads)

-- A refused sheet.
pub sheet_refused : (s : List ℕ) {n p : ℕ} → sheet_in s ≡ refused n p → (r room : ℕ) → printing s r room ≡ refused n p
unfolding printing
sheet_refused s e r room = ap (printed_of s r room) e

-- ---- what each step of the operation owes

-- What is known of an opened sheet's text: it has m rules, the first of which has its line at p.
pub record Lines (s T : List ℕ) (m p : ℕ) : Type 0 where
  pub contents : Contents
  pub sheet : sheet_in s ≡ accepted contents
  pub index : IndexOf s T
  pub heading : head s ≡ got (head_of contents.window (places_in T) m) p
  pub short : length s ≤ most_bytes

module _ {s T : List ℕ} (o : OpenedNames s T) where
  -- Its head.
  opened_head : (m p : ℕ) × (head s ≡ got (head_of o.contents.window (places_in T) m) p)
  opened_head =
      let h = sheet_head s (in_sheet s o.sheet).reads in
      (h.0, h.1, h.2 ∙ ap (λ ps. got (head_of o.contents.window ps h.0) h.1) (sym o.names_are))

  of_line : RulesLine s (places_in T) opened_head.0 opened_head.1
  of_line = rules_line s opened_head.2

  -- There is a name, and its place is the last number of the index.
  some_name : links < length T
  some_name = omega (arith, of_line.some, length-drop links T)

  last_is : last_place (places_in T) ≡ get_or T (length T - 1) 0
  last_is =
      let l = length-drop links T in
      let e : links + (length (places_in T) - 1) ≡ length T - 1 = omega (arith, some_name) in
      get_or-drop links T (length (places_in T) - 1) 0 ∙ ap (λ i. get_or T i 0) e

  pub short_text : length s ≤ most_bytes
  short_text = go (dec_le (length s) most_bytes)
    where
      go : Dec (length s ≤ most_bytes) → length s ≤ most_bytes
      go (yes l) = l
      go (no l) = absurd (accepted_refused (sym o.sheet ∙ in_refused s (sheet_long s (omega arith))))

  -- The line after the last name's.
  module _ {e : ℕ} (is-end : e ≡ line_end s (get_or T (length T - 1) 0)) where
    to_end : line_end s (last_place (places_in T)) ≡ e
    to_end = ap (line_end s) last_is ∙ sym is-end

    pub line_inside : e < length s
    line_inside = omega (arith, of_line.inside, to_end)

    known : ranged_line s (e + 1) (bytes "rules=") 2 3 0 most_rules ≡ got opened_head.0 opened_head.1
    known = subst (λ i. ranged_line s (i + 1) (bytes "rules=") 2 3 0 most_rules ≡ got opened_head.0 opened_head.1) to_end of_line.reads

    -- What is read there.
    pub lines_are : {m p : ℕ} → got m p ≡ ranged_line s (e + 1) (bytes "rules=") 2 3 0 most_rules → Lines s T m p
    lines_are {m} {p} reads =
        let r = reads ∙ known in
        let x : opened_head.0 ≡ m = sym (same_value r) in
        let y : opened_head.1 ≡ p = sym (same_place r) in
        record {
          contents = o.contents;
          sheet = o.sheet;
          index = o.index;
          heading = opened_head.2 ∙ ap₂ (λ i j. got (head_of o.contents.window (places_in T) i) j) x y;
          short = short_text;
        }

    pub no_refusal : {n k : ℕ} → unread n k ≡ ranged_line s (e + 1) (bytes "rules=") 2 3 0 most_rules → ⊥
    no_refusal reads = not_both (sym known ∙ sym reads)

module _ {s T : List ℕ} {m p : ℕ} (x : Lines s T m p) where
  pub first_inside : p ≤ length s
  first_inside = (head_past s x.heading).inside

  pub few_rules : m ≤ most_rules
  few_rules = (head_past s x.heading).sizes.rules_high

  pub past_last : {i : ℕ} → m ≤ i → (O : List ℕ) → PrintsRule s i O O (refused 17 0)
  past_last l O = gives_refused (no_rule s x.sheet x.heading l (length O)) O

  module _ {i at : ℕ} (l : i < m) (is-line : at ≡ line_of s i p) where
    pub rule_there : RuleAt s T at
    rule_there =
        let f = rule_found s x.sheet x.heading l in
        rw is-line
        (record {
          line = record { within = f.inside; before = up_to_lem f.ahead (places_in T) (head_past s x.heading).before; index = x.index };
          rule = f.rule;
          end = f.end;
          reads = f.reads;
        })

    pub gives_line : {O U : List ℕ} {a : Result ℕ} → Gives (printed_line (names_in s T) (length O) (rule_line (names_in s T) s at)) O U a → PrintsRule s i O U a
    gives_line {O} {U} {a} g =
        subst (λ R. Gives R O U a)
        (ap (λ z. printed_line (names_in s T) (length O) (rule_line (names_in s T) s z)) is-line ∙ sym (rule_printed s x.sheet x.heading l (length O))) g

-- ---- a sheet's rules are rules

some_one : {f g : Written} → some f ≡ some g → f ≡ g
some_one e = cc

pub rule_is : (s : List ℕ) (r : ℕ) {k : Contents} {f : Written} → sheet_in s ≡ accepted k → rule_at k.rules r ≡ some f → IsRule (names_at s k.places) f
rule_is s r {k} {f} e x =
    let h = sheet_head s (in_sheet s e).reads in
    let y = after_head s (in_sheet s e).reads h.2 in
    let m = rules_many (names_at s k.places) s h.0 h.1 (head_past s h.2).inside y.2 in
    let z = rule_found s e h.2 {r = r} (omega (arith, rule_inside k.rules r x)) in
    subst (IsRule (names_at s k.places)) (some_one (sym z.is_rule ∙ x)) (line_printable (names_at s k.places) s (line_of s r h.1) z.reads).is_rule
