-- A sheet's text as its head's text and its rules' texts, and that each rule is read there as it is by itself.
-- Assumes that no rule's text has an LF in it.
use mathlib.Core.Path.{◌≡◌, refl, sym, ap, subst, ◌∙◌}
use mathlib.Core.Bool.{Bool, true, false}
use mathlib.Core.List.{List, [], ◌∷◌, ◌++◌, append-nil, append_assoc}
use mathlib.Core.Logic.{◌↔◌}
use Prim.Native.Nat.{ℕ, ◌+◌, ◌-◌, ◌<◌}
use native.Mathlib.Nat.{add-zero}
use native.Mathlib.Omega.{arith}
use borrow.Author.Tests.{ne_eqb}
use lib.ListN.{length, take, length-append}
use lib.Seq.{take_at}
use Rattle.spec_limits.specs.Limits.{most_rule_bytes}
use Rattle.read_bytes.specs.Read.{Read, and_then}
use Rattle.read_bytes.specs.Read.Read.{got, refused}
use Rattle.read_bytes.specs.Bytes.{byte, bytes, pick, between, peek, starts, run, run_at, run_end, InLine}
use Rattle.read_lines.specs.Lines.{in_line, line_end, in_turn}
use Rattle.read_bytes.proofs.Answers.{not_both, same_value, same_place}
use Rattle.read_lines.proofs.KeyedLines.{line_is}
use Rattle.read_bytes.proofs.Later.{later, starts_later, run_end_later}
use Rattle.spec_tilco.specs.Formula.{Written}
use Rattle.spec_tilco.specs.Lists.{All}
use Rattle.read_parts.specs.FormulaText.{rule}
use Rattle.read_parts.proofs.Later.{rule_later}
use Rattle.read_sheet.specs.Sheet.{rule_to, rule_line, rules, rule_line_of, rule_lines, sheet_text}

-- A rule read by itself: "A rule has 1 to 256 bytes", else 5 at its start, before its formula is read.
unfoldable pub rule_text : List (List ℕ) → List ℕ → Read Written
rule_text names body = pick (between 1 most_rule_bytes (length body)) (λ _. rule names body 0) (refused 5 0)

-- Each text is accepted by itself, and these are the rules in turn.
pub data Each (names : List (List ℕ)) : List (List ℕ) → List Written → Type 0 where
  none : Each names [] []
  one : {body : List ℕ} {bodies : List (List ℕ)} {w : Written} {ws : List Written} (q : ℕ) → rule_text names body ≡ got w q → Each names bodies ws → Each names (body ∷ bodies) (w ∷ ws)

-- ---- one line

-- A line's text ends at its LF.
run_line : (body b : List ℕ) → InLine body → run in_line ((body ++ (byte "\n" ∷ [])) ++ b) ≡ body
unfolding run in_line
run_line [] b h = refl
run_line (x ∷ body) b h = rw (ne_eqb x (byte "\n") h.0, run_line body b h.1)

-- A rule at the end of a text is read as it is by itself.
rule_from : (names : List (List ℕ)) (u t : List ℕ) (v : ℕ) → v ≡ length u → rule names (u ++ t) v ≡ later v (rule names t 0)
rule_from names u t v e = rw e (rw add-zero at (rule_later u t names 0))

-- The line of a rule, between a text a and a text b:
module _ (a body b : List ℕ) (in_line_lem : InLine body) where
  -- it has its key,
  keyed : starts (a ++ (rule_line_of body ++ b)) (length a) (bytes "rule=") ≡ true
  unfolding starts peek rule_line_of
  keyed = rw add-zero at (starts_later a (rule_line_of body ++ b) 0 (bytes "rule="))

  -- its LF stands after the rule's text,
  ends : length a + 5 + length body ≡ line_end (a ++ (rule_line_of body ++ b)) (length a + 5)
  unfolding run_end run_at rule_line_of
  ends = omega (arith, run_end_later a (rule_line_of body ++ b) 5 in_line, ap length (run_line body b in_line_lem))

  -- and what stands before the LF ends with the rule's text.
  split : a ++ (rule_line_of body ++ b) ≡ ((a ++ bytes "rule=") ++ body) ++ (byte "\n" ∷ b)
  unfolding rule_line_of
  split = simp append_assoc

  front : length (a ++ bytes "rule=") ≡ length a + 5
  front = length-append a (bytes "rule=")

  cut : take (length a + 5 + length body) (a ++ (rule_line_of body ++ b)) ≡ (a ++ bytes "rule=") ++ body
  cut = rw split (take_at ((a ++ bytes "rule=") ++ body) (byte "\n" ∷ b) (length a + 5 + length body) (omega (arith, front, length-append (a ++ bytes "rule=") body)))

  long : length (a ++ rule_line_of body) ≡ length a + 5 + length body + 1
  unfolding rule_line_of
  long = omega (arith, length-append a (rule_line_of body), length-append body (byte "\n" ∷ []))

  -- The line is read as its rule is by itself, and the next line stands after it.
  pub line_alone : (names : List (List ℕ)) → rule_line names (a ++ (rule_line_of body ++ b)) (length a) ≡ and_then (later (length a + 5) (rule_text names body)) (λ w q. got w (length (a ++ rule_line_of body)))
  unfolding rule_line rule_to rule_text
  line_alone names =
      let n : length a + 5 + length body - (length a + 5) ≡ length body = omega arith in
      let l : length a + 5 + length body < length (a ++ (rule_line_of body ++ b)) = omega (arith, long, length-append a (rule_line_of body ++ b), length-append (rule_line_of body) b, length-append a (rule_line_of body)) in
      rw (sym (line_is (a ++ (rule_line_of body ++ b)) (length a) (bytes "rule=") 2 (length a + 5 + length body) keyed ends l), n, cut, rule_from names (a ++ bytes "rule=") body (length a + 5) (sym front), ← long)
      (go (between 1 most_rule_bytes (length body)))
    where
      go : (t : Bool)
          → pick t (λ _. and_then (later (length a + 5) (rule names body 0)) (λ w q. got w (length (a ++ rule_line_of body)))) (refused 5 (length a + 5))
          ≡ and_then (later (length a + 5) (pick t (λ _. rule names body 0) (refused 5 0))) (λ w q. got w (length (a ++ rule_line_of body)))
      go true = refl
      go false = rw add-zero

-- ---- all lines

lines_none : (a : List ℕ) → a ++ rule_lines [] ≡ a
unfolding rule_lines
lines_none a = append-nil a

lines_next : (a body : List ℕ) (bodies : List (List ℕ)) → a ++ rule_lines (body ∷ bodies) ≡ (a ++ rule_line_of body) ++ rule_lines bodies
unfolding rule_lines
lines_next a body bodies = sym (append_assoc a (rule_line_of body) (rule_lines bodies))

-- What is read in turn, after the text a and the rules t.
abbrev read_after : List (List ℕ) → List (List ℕ) → List ℕ → List Written → Read (List Written)
read_after names bodies a t = in_turn (λ _ q. rule_line names (a ++ rule_lines bodies) q) (length bodies) t (length a)

-- Of what was read, vs, the rules t came from before, and the others each from its text; q is the end of the last line.
record Parted (names bodies : List (List ℕ)) (a : List ℕ) (t vs : List Written) (q : ℕ) : Type 0 where
  own : List Written
  each : Each names bodies own
  all : vs ≡ t ++ own
  end : q ≡ length (a ++ rule_lines bodies)

module _ (names : List (List ℕ)) where
  all_read : (a : List ℕ) (t : List Written) → read_after names [] a t ≡ got t (length a)
  unfolding in_turn
  all_read a t = refl

  -- one more is read, or is refused
  module _ (body : List ℕ) (bodies : List (List ℕ)) (in_line_lem : InLine body) (a : List ℕ) (t : List Written) where
    one_more : {w : Written} {q : ℕ} → rule_text names body ≡ got w q → read_after names (body ∷ bodies) a t ≡ read_after names bodies (a ++ rule_line_of body) (t ++ (w ∷ []))
    unfolding in_turn rule_lines
    one_more e = rw (line_alone a body (rule_lines bodies) in_line_lem names, e, append_assoc a (rule_line_of body) (rule_lines bodies))

    none_more : {n p : ℕ} → rule_text names body ≡ refused n p → read_after names (body ∷ bodies) a t ≡ refused n (length a + 5 + p)
    unfolding in_turn rule_lines
    none_more e = rw (line_alone a body (rule_lines bodies) in_line_lem names, e)

  -- Texts that are accepted by themselves are accepted in turn,
  each_read : {bodies : List (List ℕ)} {ws : List Written} → Each names bodies ws → All InLine bodies → (a : List ℕ) (t : List Written)
      → read_after names bodies a t ≡ got (t ++ ws) (length (a ++ rule_lines bodies))
  each_read none h a t = all_read a t ∙ rw (append-nil t, lines_none a)
  each_read (one {body} {bodies} {w} {ws} q e r) h a t =
      let i = each_read r h.1 (a ++ rule_line_of body) (t ++ (w ∷ [])) in
      one_more body bodies h.0 a t e ∙ i ∙ rw (append_assoc t (w ∷ []) ws, lines_next a body bodies)

  -- and those that are accepted in turn are accepted by themselves.
  read_each : (bodies : List (List ℕ)) → All InLine bodies → (a : List ℕ) (t : List Written) {vs : List Written} {q : ℕ} → read_after names bodies a t ≡ got vs q → Parted names bodies a t vs q
  read_each [] h a t e =
      let f = sym (all_read a t) ∙ e in
      record { own = []; each = none; all = sym (same_value f) ∙ sym (append-nil t); end = sym (same_place f) ∙ ap length (sym (lines_none a)) }
  read_each (body ∷ bodies) h a t {vs} {q} e = go (rule_text names body) refl (λ b u f. read_each bodies h.1 b u f)
    where
      go : (R : Read Written) → rule_text names body ≡ R → ((b : List ℕ) (u : List Written) → read_after names bodies b u ≡ got vs q → Parted names bodies b u vs q)
          → Parted names (body ∷ bodies) a t vs q
      go (got w x) f rest =
          let r = rest (a ++ rule_line_of body) (t ++ (w ∷ [])) (sym (one_more body bodies h.0 a t f) ∙ e) in
          record { own = w ∷ r.own; each = one x f r.each; all = r.all ∙ append_assoc t (w ∷ []) r.own; end = r.end ∙ ap length (sym (lines_next a body bodies)) }
      go (refused n p) f rest = absurd (not_both (sym e ∙ none_more body bodies h.0 a t f))

  -- The rules after a head are read, to the end of the text, exactly if each text is accepted by itself.
  pub rules_exactly : (h : List ℕ) (bodies : List (List ℕ)) → All InLine bodies → (ws : List Written) (q : ℕ)
      → rules names (sheet_text h bodies) (length bodies) (length h) ≡ got ws q ↔ (Each names bodies ws × (q ≡ length (sheet_text h bodies)))
  unfolding rules
  rules_exactly h bodies l ws q = (
    λ e. let r = read_each bodies l h [] e in (subst (Each names bodies) (sym r.all) r.each, r.end),
    λ z. each_read z.0 l h [] ∙ ap (got ws) (sym z.1),
  )
