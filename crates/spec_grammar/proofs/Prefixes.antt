-- The lines of a readings text up to a place are the lines of the text that ends there.
-- Assumes nothing. r is the text up to the place and x what follows it; `names` are the declared names and W is the window; `spans` tells the whole text's form.
use mathlib.Core.Path.{sym, ◌∙◌}
use mathlib.Core.Bool.{Bool}
use mathlib.Core.List.{List, ◌++◌}
use Prim.Native.Nat.{ℕ, ◌+◌, ◌≤◌, ◌<◌}
use native.Mathlib.Omega.{arith}
use lib.ListN.{length}
use Rattle.read_lines.proofs.Prefix.{peek_kept, starts_kept}
use Rattle.spec_grammar.specs.Lines.{LineAt}
use Rattle.spec_grammar.specs.ReadingLines.{Next, Reached}
use Rattle.spec_grammar.specs.ReadingLines.Reached.{start, line}

line_narrow : (r x : List ℕ) {p : ℕ} {l : List ℕ} → LineAt (r ++ x) p l → p + length l < length r → LineAt r p l
line_narrow r x {p} {l} a h = record {
  stands = sym (starts_kept r x p l (omega arith)) ∙ a.stands;
  in_line_lem = a.in_line_lem;
  inside = h;
  ends = sym (peek_kept r x (p + length l) h) ∙ a.ends;
}

-- Whatever its lines are: the form changes nothing here.
pub reached_narrow : (r x : List ℕ) {spans : Bool} {names : List (List ℕ)} {W p : ℕ} {c : Next} → Reached spans names W (r ++ x) c p → p ≤ length r → Reached spans names W r c p
reached_narrow r x start h = start
reached_narrow r x (line b a d) h = line (reached_narrow r x b (omega arith)) (line_narrow r x a (omega arith)) d
