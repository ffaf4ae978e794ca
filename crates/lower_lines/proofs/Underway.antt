-- The rules of a sheet, read and lowered one after another.
-- Assumes nothing.
use mathlib.Core.Path.{◌≡◌, refl, sym, ap, subst, ◌∙◌}
use mathlib.Core.Bool.{true}
use mathlib.Core.List.{List, [], ◌∷◌, ◌++◌, append-nil, map-append}
use Prim.Native.Nat.{ℕ, ◌+◌, ◌-◌, ◌<◌, ◌≤◌}
use native.Mathlib.Omega.{arith}
use lib.ListN.{length}
use Rattle.spec_limits.specs.Limits.{arena_numbers}
use Rattle.spec_tilco.specs.Lists.{total, laid}
use Rattle.spec_tilco.specs.Formula.{Written, Formula, hiddens, spelled}
use Rattle.spec_tilco.specs.Lowering.{BTL, lowered, lows}
use Rattle.spec_tilco.proofs.Lists.{total_append, laid_append}
use Rattle.read_arena.proofs.Puts.{arena_fewer}
use Rattle.read_sheet.specs.Sheet.{rule_line}
use Rattle.read_sheet.specs.RuleAnswers.{LineReady, RuleHeld, AllRules}
use Rattle.read_head.proofs.Signals.{up_to_lem}
use Rattle.read_sheet.proofs.Ruled.{Passed, passed_none, passed_one, passed_all}
use Rattle.read_bytes.specs.Read.{Read}
use Rattle.read_index.specs.Index.{places_in, name_count, names_in}
use Rattle.lower_rule.specs.RuleRows.{Buffers, RuleIn, whole_at, all_lowered_says}
use Rattle.std.specs.Prelude.{Option, Some}
use Rattle.lower_rule.specs.declared.rules.InUse.{InUse}
use Rattle.lower_rule.proofs.InTurn.{in_use}
use Rattle.lower_rule.proofs.Spelled.{held_definings, held_spelled}
use Rattle.lower_lines.specs.InTurn.{Legible, rules_at, spelled_all, Tried, Follows}
use Rattle.lower_lines.proofs.Trying.{tried_none}

-- One rule more.
spelled_more : (ws : List Written) (w : Written) (n : ℕ) → spelled_all (ws ++ (w ∷ [])) n ≡ spelled_all ws n ++ lows (spelled w (n + total hiddens ws))
spelled_more ws w n =
    ap lows (laid_append hiddens spelled ws (w ∷ []) n (n + total hiddens ws) refl ∙ ap (λ (l : List Formula). laid hiddens spelled ws n ++ l) (append-nil (spelled w (n + total hiddens ws))))
    ∙ map-append (lowered true) (laid hiddens spelled ws n) (spelled w (n + total hiddens ws))

-- A rule that was read into the arena, its hidden signals' rows from x on.
module _ {a : List ℕ} {x : ℕ} {R : Read Written} {q u y : ℕ} (w : RuleHeld a x R q u y) where
  -- its node stands in the arena, with so many defining rules
  pub rule_in : RuleIn a (u - 1) (y - x)
  rule_in = record { stands = arena_fewer (u - 1 + 1) (omega (arith, w.some)) w.arena; hidden = omega (arith, held_definings w.held, w.next) }

-- The lines of rules that are to be read: the sheet's text, the index of its names, how many lines there are and where the first one
-- starts; and where they are to be lowered: the first row, and the buffers.
pub record Lines : Type 0 where
  pub text : List ℕ
  pub index : List ℕ
  pub many : ℕ
  pub first : ℕ
  pub base : ℕ
  pub start : Buffers

abbrev pub lines_of : List ℕ → List ℕ → ℕ → ℕ → ℕ → Buffers → Lines
lines_of s T m p b B = record { text = s; index = T; many = m; first = p; base = b; start = B }

-- How far they are read: so many lines, up to a place, and the next hidden signal's row; and how far they are lowered.
pub record State : Type 0 where
  pub done : ℕ
  pub place : ℕ
  pub row : ℕ
  pub lowered : Option InUse
  pub now : Buffers

abbrev pub state_of : ℕ → ℕ → ℕ → Option InUse → Buffers → State
state_of i p x r B = record { done = i; place = p; row = x; lowered = r; now = B }

-- The rules that are read are ws, and they are lowered as far as there was room.
pub record Underway (o : Lines) (z : State) (ws : List Written) : Type 0 where
  pub passed : Passed (names_in o.text o.index) o.text o.many o.first z.done z.place ws
  pub row : z.row ≡ name_count o.index + total hiddens ws
  pub long : length z.now.rows ≡ length o.start.rows
  pub wide : length z.now.tops ≡ length o.start.tops
  pub tried : Tried (spelled_all ws (name_count o.index)) o.base o.start z.now (all_lowered_says z.lowered)

module _ (o : Lines) where
  abbrev names : List (List ℕ)
  names = names_in o.text o.index

  -- none is at first
  pub underway_none : o.first ≤ length o.text → o.base ≤ length o.start.rows
      → Underway o (state_of 0 o.first (name_count o.index) (Some (in_use 0 o.base)) o.start) []
  underway_none h k = record {
    passed = passed_none names o.text o.many o.first h;
    row = omega arith;
    long = refl;
    wide = refl;
    tried = tried_none o.base o.start k;
  }

  module _ {z : State} {ws : List Written} (k : Underway o z ws) where
    -- the next line can be read
    pub line_ready : Legible o.text o.index o.many o.first → (a : List ℕ) → length a ≡ arena_numbers → LineReady o.text a o.index z.place z.row
    line_ready g a e = record {
      within = k.passed.inside;
      before = up_to_lem k.passed.ahead (places_in o.index) g.before;
      index = g.index;
      room = omega (arith, e);
      rows = omega (arith, k.row, k.passed.few, k.passed.most, g.index.few, g.most);
    }

    -- one more is read and lowered
    pub underway_one : {a : List ℕ} {q u y : ℕ} → z.done < o.many → (w : RuleHeld a z.row (rule_line names o.text z.place) q u y) → (r : Option InUse) (B : Buffers)
        → length B.rows ≡ length z.now.rows → length B.tops ≡ length z.now.tops → Follows (whole_at a (u - 1)) z.now B z.lowered r
        → Underway o (state_of (z.done + 1) q y r B) (ws ++ (w.rule ∷ []))
    underway_one {a} {q} {u} h w r B e f follows =
        let n : ℕ = name_count o.index in
        let v : Written = w.rule in
        let t = total_append hiddens ws (v ∷ []) in
        let same : whole_at a (u - 1) ≡ lows (spelled v (n + total hiddens ws)) = ap lows (held_spelled w.held ∙ ap (spelled v) k.row) in
        let d = follows (spelled_all ws n) o.base o.start k.tried in
        record {
          passed = passed_one names o.text o.many o.first k.passed h w.reads (omega (arith, w.few, w.next));
          row = omega (arith, w.next, k.row, t);
          long = e ∙ k.long;
          wide = f ∙ k.wide;
          tried = subst (λ (cs : List BTL). Tried cs o.base o.start B (all_lowered_says r)) (ap (λ (cs : List BTL). spelled_all ws n ++ cs) same ∙ sym (spelled_more ws v n)) d;
        }

    -- all are
    pub underway_all : o.many ≤ z.done
        → (w : AllRules (rules_at o.text o.index o.many o.first) (z.row - name_count o.index) z.place) × Tried (spelled_all w.all (name_count o.index)) o.base o.start z.now (all_lowered_says z.lowered)
    underway_all h =
        let w : AllRules (rules_at o.text o.index o.many o.first) (z.row - name_count o.index) z.place = record { all = ws; reads = passed_all names o.text o.many o.first k.passed h; hidden = omega (arith, k.row) } in
        (w, k.tried)
