-- The lines of the rules: each answer of the reader of a line, what follows a line, and a loop over them.
-- Assumes nothing.
use mathlib.Core.Path.{◌≡◌, sym, ap, subst, ◌∙◌}
use mathlib.Core.Bool.{Bool, true, false}
use mathlib.Core.List.{List, [], ◌∷◌, ◌++◌}
use Prim.Native.Nat.{ℕ, ◌+◌, ◌-◌, ◌*◌, ◌<◌, ◌≤◌}
use native.Mathlib.Omega.{arith}
use lib.ListN.{length, take}
use lib.Seq.{length-take-le}
use Rattle.spec_limits.specs.Limits.{most_rule_bytes}
use Rattle.read_bytes.specs.Read.{and_then}
use Rattle.read_bytes.specs.Read.Read.{got, refused}
use Rattle.read_bytes.specs.Bytes.{bytes, pick, between}
use Rattle.read_index.specs.Index.{places_in, names_in, Indexed, IndexOf}
use Rattle.read_lines.specs.Lines.{line, in_turn}
use Rattle.read_bytes.proofs.Tests.{between_in, between_low, between_high}
use Rattle.read_bytes.proofs.Places.{Reach}
use Rattle.read_bytes.proofs.Answers.{not_both, same_place, came}
use Rattle.read_lines.proofs.KeyedLines.{placed}
use Rattle.read_lines.proofs.Loops.{turn_start, turn_next, turn_off, turn_end, turn_reach}
use Rattle.spec_tilco.specs.Formula.{Written, hiddens}
use Rattle.spec_tilco.specs.Lists.{total}
use Rattle.spec_tilco.proofs.Lists.{total_append}
use Rattle.std.specs.Prelude.{Err}
use Rattle.spec_refusals.specs.Numbers.{Refusal}
use Rattle.read_parts.specs.FormulaText.{rule}
use Rattle.read_parts.specs.Parsed as formula
use Rattle.read_parts.specs.Parsed.{Answer, reached, Parses}
use Rattle.read_parts.specs.Parsed.Parses.{parsed, refuses}
use Rattle.read_sheet.specs.Sheet.{rule_to, rule_line, rules}
use Rattle.read_sheet.specs.RuleAnswers.{LineReady, ValueEnds, RuleRead}
use Rattle.read_sheet.proofs.Cut.{names_kept}
use Rattle.read_head.proofs.Signals.{up_to_lem}

-- ---- a rule from v to its LF at e

module _ (names : List (List ℕ)) (s : List ℕ) (v e : ℕ) where
  -- it is too short
  pub rule_short : e - v < 1 → rule_to names s v e ≡ refused 5 v
  unfolding rule_to
  rule_short h = rw (between_low 1 most_rule_bytes (e - v) h)

  -- it is too long
  pub rule_long : most_rule_bytes < e - v → rule_to names s v e ≡ refused 5 v
  unfolding rule_to
  rule_long h = rw (between_high 1 most_rule_bytes (e - v) h)

module _ (s T : List ℕ) (v e h : ℕ) (a : List ℕ) (z : LineReady s a T v h) (d : ValueEnds s v e) (few : e - v ≤ most_rule_bytes) where
  cut_length : length (take e s) ≡ e
  cut_length = let i = d.inside in length-take-le e s (omega arith)

  -- its names are the sheet's, though its formula is read in a part of the text
  same_names : names_in (take e s) T ≡ names_in s T
  same_names = names_kept s e d.inside d.lf (places_in T) (up_to_lem d.order (places_in T) z.before)

  -- its formula can be read
  pub rule_ready : formula.PartReady (take e s) a (IndexOf (take e s) T) v 0 h
  rule_ready =
      let l = cut_length in
      let o = d.order in
      let r = z.room in
      let x = z.rows in
      record {
        within = omega arith;
        arena = record { inside = omega arith; right = λ n k. let w : ⊥ = omega arith in absurd w };
        room = record { fits = omega arith; few = omega arith };
        rows = omega arith;
        names = subst (λ (ns : List (List ℕ)). Indexed ns T) (sym same_names) z.index;
      }

  module _ (a' : List ℕ) (some : 1 ≤ e - v) where
    in_part : rule (names_in (take e s) T) (take e s) v ≡ rule (names_in s T) (take e s) v
    in_part = ap (λ (names : List (List ℕ)). rule names (take e s) v) same_names

    -- a formula is read: so is the rule
    pub rule_read : {q u h' : ℕ} → Parses a a' (length (take e s)) 1 v 0 h h (rule (names_in (take e s) T) (take e s) v) (reached q u h') → RuleRead a' h (rule_to (names_in s T) s v e) (reached (e + 1) u h')
    unfolding rule_to
    rule_read (parsed w x far arena same held next) =
        let l = cut_length in
        let y = sym in_part ∙ x in
        record {
          rule = w;
          reads = rw (between_in 1 most_rule_bytes (e - v) some few, y);
          some = omega (arith, far.fresh);
          arena = arena;
          held = held;
          next = next;
          few = omega (arith, far.hidden, far.inside, d.order);
        }

    -- the formula is refused: so is the rule
    pub rule_refused : {r : Refusal} {z : Answer} → Parses a a' (length (take e s)) 1 v 0 h h (rule (names_in (take e s) T) (take e s) v) (Err r) → z ≡ Err r → RuleRead a' h (rule_to (names_in s T) s v e) z
    unfolding rule_to
    rule_refused (refuses x) k = let y = sym in_part ∙ x in rw k (rw (between_in 1 most_rule_bytes (e - v) some few, y))

-- ---- the line at p with a rule: where its value stands

module _ (s : List ℕ) (p : ℕ) {v e : ℕ} (x : line s p (bytes "rule=") 2 ≡ got v e) where
  -- from v to its LF at e
  pub line_ended : ValueEnds s v e
  line_ended = let w = placed s p (bytes "rule=") 2 x in record { order = w.order; inside = w.inside; lf = w.lf }

  -- its rule can be read
  pub line_ready : {a T : List ℕ} {h : ℕ} → LineReady s a T p h → LineReady s a T v h
  line_ready {T = T} z =
      let w = placed s p (bytes "rule=") 2 x in
      let l : p ≤ v = omega (arith, w.value) in
      record {
        within = omega (arith, w.order, w.inside);
        before = up_to_lem l (places_in T) z.before;
        index = z.index;
        room = z.room;
        rows = z.rows;
      }

-- A rule that is read ends its line at the LF.
pub rule_to_past : (names : List (List ℕ)) (s : List ℕ) (v e : ℕ) {w : Written} {q : ℕ} → rule_to names s v e ≡ got w q → e + 1 ≡ q
unfolding rule_to
rule_to_past names s v e {w} {q} = go (between 1 most_rule_bytes (e - v))
  where
    go : (b : Bool) → pick b (λ _. and_then (rule names (take e s) v) (λ f x. got f (e + 1))) (refused 5 v) ≡ got w q → e + 1 ≡ q
    go true x = same_place (came (rule names (take e s) v) (λ f y. got f (e + 1)) x).then
    go false x = absurd (not_both (sym x))

-- What follows it stands after it.
pub rule_past : (names : List (List ℕ)) (s : List ℕ) (p : ℕ) {w : Written} {q : ℕ} → rule_line names s p ≡ got w q → Reach s (p + 1) q
unfolding rule_line
rule_past names s p {w} {q} x =
    let d = came (line s p (bytes "rule=") 2) _ x in
    let y = placed s p (bytes "rule=") 2 d.first in
    let z = rule_to_past names s d.value d.place d.then in
    record { ahead = omega (arith, y.value, y.order); inside = omega (arith, y.inside) }

-- ---- the lines of m rules from `at` on

-- i of the rules are read, up to p: these are ws.
pub record Passed (names : List (List ℕ)) (s : List ℕ) (m at i p : ℕ) (ws : List Written) : Type 0 where
  pub same : rules names s m at ≡ in_turn (λ _ q. rule_line names s q) (m - i) ws p
  pub few : total hiddens ws ≤ most_rule_bytes * i
  pub most : i ≤ m
  pub ahead : at ≤ p
  pub inside : p ≤ length s

module _ (names : List (List ℕ)) (s : List ℕ) (m at : ℕ) where
  -- none are read at first
  pub passed_none : at ≤ length s → Passed names s m at 0 at []
  unfolding rules
  passed_none h = record {
    same = turn_start (λ _ q. rule_line names s q) m [] at;
    few = omega arith;
    most = omega arith;
    ahead = omega arith;
    inside = h;
  }

  module _ {i p : ℕ} {ws : List Written} (z : Passed names s m at i p ws) where
    -- one more is read
    pub passed_one : {w : Written} {q : ℕ} → i < m → rule_line names s p ≡ got w q → hiddens w ≤ most_rule_bytes → Passed names s m at (i + 1) q (ws ++ (w ∷ []))
    passed_one {w} l e k =
        let r = rule_past names s p e in
        let t = total_append hiddens ws (w ∷ []) in
        record {
          same = z.same ∙ turn_next (λ _ q. rule_line names s q) m i ws p l e;
          few = omega (arith, z.few, k, t);
          most = omega arith;
          ahead = omega (arith, z.ahead, r.ahead);
          inside = r.inside;
        }

    -- one is refused, and so are all
    pub passed_off : {n k : ℕ} → i < m → rule_line names s p ≡ refused n k → rules names s m at ≡ refused n k
    passed_off l e = z.same ∙ turn_off (λ _ q. rule_line names s q) (m - i) ws p (omega arith) e

    -- all are read
    pub passed_all : m ≤ i → rules names s m at ≡ got ws p
    passed_all l = z.same ∙ turn_end (λ _ q. rule_line names s q) (m - i) ws p (omega arith)

-- As many rules are read as there are lines.
pub rules_many : (names : List (List ℕ)) (s : List ℕ) (m p : ℕ) {ws : List Written} {q : ℕ} → p ≤ length s → rules names s m p ≡ got ws q → length ws ≡ m
unfolding rules
rules_many names s m p h e =
    let r = turn_reach (λ _ x. rule_line names s x) s (λ t x a y g. let w = rule_past names s x g in record { ahead = omega (arith, w.ahead); inside = w.inside }) m [] p h e in
    omega (arith, r.1)
