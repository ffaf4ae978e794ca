-- A rule of an accepted sheet read again, from its line's value up to the LF: it is read as it was, and stands in the arena.
-- Assumes nothing. `s` is the sheet's text, T the index of the names in it, p the place of the line.
use mathlib.Core.Path.{◌≡◌, refl, sym, ap, subst, ◌∙◌}
use mathlib.Core.Bool.{Bool, true, false}
use mathlib.Core.List.{List}
use Prim.Native.Nat.{ℕ, ◌+◌, ◌-◌, ◌≤◌, ◌<◌}
use native.Mathlib.Omega.{arith}
use lib.Dec.{eqb}
use lib.ListN.{length, take}
use lib.Seq.{length-take-le}
use Rattle.spec_limits.specs.Limits.{arena_numbers, most_rule_bytes, most_open}
use Rattle.read_bytes.specs.Read.{Read, and_then}
use Rattle.read_bytes.specs.Read.Read.{got, refused as unread}
use Rattle.read_bytes.specs.Bytes.{bytes, pick, between}
use Rattle.read_bytes.proofs.Answers.{not_both, same_value, through, came}
use Rattle.read_bytes.proofs.Tests.{between_is}
use Rattle.read_lines.specs.Lines.{line_end, line}
use Rattle.read_lines.proofs.KeyedLines.{placed}
use Rattle.read_index.specs.Index.{places_in, names_in, IndexOf}
use Rattle.read_head.proofs.Signals.{up_to_lem}
use Rattle.spec_tilco.specs.Formula.{Written}
use Rattle.read_parts.specs.FormulaText.{formula, plain_part, rule}
use Rattle.std.specs.Prelude.{Err}
use Rattle.spec_refusals.specs.Numbers.{Refusal}
use Rattle.read_parts.specs.Parsed.{Answer, reached, PartReady, Parses}
use Rattle.read_parts.specs.Parsed.Parses.{parsed, refuses}
use Rattle.read_sheet.specs.Sheet.{rule_to, rule_line}
use Rattle.read_sheet.specs.RuleAnswers.{ValueEnds, RuleHeld}
use Rattle.read_sheet.proofs.Cut.{names_kept}
use Rattle.read_sheet.proofs.Ruled.{rule_ready}
use Rattle.op_print.specs.RuleLines.{RuleAt}

-- ---- what was read there

-- The rule's text is from v to e, and this is read of it.
record Within (names : List (List ℕ)) (s : List ℕ) (v e : ℕ) (f : Written) : Type 0 where
  few : e - v ≤ most_rule_bytes
  place : ℕ
  reads : formula (plain_part most_open names (take e s)) (take e s) v ≡ got f place

within_rule : (names : List (List ℕ)) (s : List ℕ) (v e : ℕ) {f : Written} {q : ℕ} → rule_to names s v e ≡ got f q → Within names s v e f
unfolding rule_to rule
within_rule names s v e {f} {q} x = go (between 1 most_rule_bytes (e - v)) refl x
  where
    go : (b : Bool) → between 1 most_rule_bytes (e - v) ≡ b → pick b (λ _. and_then (rule names (take e s) v) (λ w y. got w (e + 1))) (unread 5 v) ≡ got f q → Within names s v e f
    go true h y =
        let d = came (rule names (take e s) v) _ y in
        let a = came (formula (plain_part most_open names (take e s)) (take e s) v) _ d.first in
        let t = through (eqb a.place (length (take e s))) a.value a.place 5 a.place a.then in
        record { few = (between_is 1 most_rule_bytes (e - v) h).1; place = a.place; reads = a.first ∙ ap (λ (w : Written). got w a.place) (t.1 ∙ same_value d.then) }
    go false h y = absurd (not_both (sym y))

module _ (s T : List ℕ) (p : ℕ) (x : RuleAt s T p) where
  -- The places of its value and of its LF.
  abbrev value : ℕ
  value = p + length (bytes "rule=")

  abbrev end : ℕ
  end = line_end s value

  record Told : Type 0 where
    ends : ValueEnds s value end
    text : Within (names_in s T) s value end x.rule

  told : Told
  unfolding rule_line
  told =
      let d = came (line s p (bytes "rule=") 2) _ x.reads in
      let y = placed s p (bytes "rule=") 2 d.first in
      let e : d.place ≡ end = y.ends ∙ ap (line_end s) y.value in
      record {
        ends = record { order = omega (arith, y.order, y.value); inside = omega (arith, y.inside); lf = rw (← e) y.lf };
        text =
            within_rule (names_in s T) s value end
            (subst (λ i. rule_to (names_in s T) s i end ≡ got x.rule x.end) y.value (subst (λ i. rule_to (names_in s T) s d.value i ≡ got x.rule x.end) e d.then));
      }

  -- ---- reading it again

  cut_long : length (take end s) ≡ end
  cut_long = length-take-le end s (omega (arith, told.ends.inside))

  -- It can be read,
  ready : (a : List ℕ) → arena_numbers ≤ length a → PartReady (take end s) a (IndexOf (take end s) T) value 0 0
  ready a room =
      rule_ready s T value end 0 a
      (record {
        within = omega (arith, told.ends.order, told.ends.inside);
        before = up_to_lem {p = p} (omega arith) (places_in T) x.line.before;
        index = x.line.index;
        room = room;
        rows = omega arith;
      })
      told.ends told.text.few

  -- and what is read is the rule.
  same_names : names_in (take end s) T ≡ names_in s T
  same_names = names_kept s end told.ends.inside told.ends.lf (places_in T) (up_to_lem {p = p} (omega (arith, told.ends.order)) (places_in T) x.line.before)

  same_reading : formula (plain_part most_open (names_in (take end s) T) (take end s)) (take end s) value ≡ got x.rule told.text.place
  same_reading = rw same_names told.text.reads

  -- What is read there, up to a place.
  abbrev Formula : ℕ → Read Written
  Formula e = formula (plain_part most_open (names_in (take e s) T) (take e s)) (take e s) value

  held_at : {a a' : List ℕ} {q u h' : ℕ} → Parses a a' (length (take end s)) 1 value 0 0 0 (Formula end) (reached q u h') → RuleHeld a' 0 (rule_line (names_in s T) s p) x.end u h'
  held_at (parsed w e far arena same held next) = record {
    rule = w;
    reads = x.reads ∙ ap (λ (f : Written). got f x.end) (same_value (sym same_reading ∙ e));
    some = omega (arith, far.fresh);
    arena = arena;
    held = held;
    next = next;
    few = omega (arith, far.hidden, far.inside, cut_long, told.text.few);
  }

  not_refused : {a a' : List ℕ} {r : Refusal} → Parses a a' (length (take end s)) 1 value 0 0 0 (Formula end) (Err r) → ⊥
  not_refused (refuses e) = not_both (sym same_reading ∙ e)

  -- The same at a place e that is the LF's.
  module _ {e : ℕ} (is-end : e ≡ end) where
    pub again_inside : e < length s
    again_inside = omega (arith, told.ends.inside)

    pub again_ready : (a : List ℕ) → arena_numbers ≤ length a → PartReady (take e s) a (IndexOf (take e s) T) value 0 0
    again_ready a room = rw is-end (ready a room)

    module _ {a a' : List ℕ} where
      at_end_lem : {r : Answer} → Parses a a' (length (take e s)) 1 value 0 0 0 (Formula e) r → Parses a a' (length (take end s)) 1 value 0 0 0 (Formula end) r
      at_end_lem {r} h = subst (λ z. Parses a a' (length (take z s)) 1 value 0 0 0 (Formula z) r) is-end h

      pub again_held : {q u h' : ℕ} → Parses a a' (length (take e s)) 1 value 0 0 0 (Formula e) (reached q u h') → RuleHeld a' 0 (rule_line (names_in s T) s p) x.end u h'
      again_held h = held_at (at_end_lem h)

      pub again_accepted : {r : Refusal} → Parses a a' (length (take e s)) 1 value 0 0 0 (Formula e) (Err r) → ⊥
      again_accepted h = not_refused (at_end_lem h)
