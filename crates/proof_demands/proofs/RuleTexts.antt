-- The lines of rules that were read are the lines of rules' texts: what stands from the first of them on.
-- Assumes nothing.
use mathlib.Core.Path.{◌≡◌, refl, sym, ap, ◌∙◌}
use mathlib.Core.Bool.{Bool, true, false, and-eq-true_iff, true≢false}
use mathlib.Core.List.{List, [], ◌∷◌, ◌++◌, append_assoc}
use Prim.Native.Nat.{ℕ, zero, suc, ◌+◌, ◌≤◌}
use native.Mathlib.Nat.{add-zero}
use native.Mathlib.Omega.{arith}
use borrow.Author.Tests.{eqb-true}
use lib.Dec.{eqb}
use lib.ListN.{length, drop}
use lib.Seq.{drop-cons, drop-drop}
use Rattle.read_bytes.specs.Read.Read.{got}
use Rattle.read_bytes.specs.Bytes.{byte, bytes, peek, starts, run, run_at, run_end, InLine}
use Rattle.read_lines.specs.Lines.{in_line, line, in_turn}
use Rattle.read_bytes.proofs.Answers.{same_place, came}
use Rattle.read_lines.proofs.KeyedLines.{lf_ends, Placed, placed}
use Rattle.spec_tilco.specs.Formula.{Written}
use Rattle.spec_tilco.specs.Lists.{All}
use Rattle.read_sheet.specs.Sheet.{rule_to, rule_line, rule_line_of, rule_lines}
use Rattle.read_sheet.proofs.Ruled.{rule_to_past}

-- ---- one line

-- Bytes that stand at p are what the text from p on starts with.
starts_text : (s : List ℕ) (p : ℕ) (w : List ℕ) → p + length w ≤ length s → starts s p w ≡ true → drop p s ≡ w ++ drop (p + length w) s
unfolding starts peek
starts_text s p [] h e = rw add-zero
starts_text s p (x ∷ w) h e =
    let b = (and-eq-true_iff (eqb x (peek s p)) (starts s (p + 1) w)).0 e in
    let i : x ≡ peek s p = eqb-true x (peek s p) b.0 in
    let n : p + 1 ≡ suc p = omega arith in
    let m : p + 1 + length w ≡ p + length (x ∷ w) = omega arith in
    drop-cons s p (byte "\n") (omega arith) ∙ ap (λ (y : ℕ). y ∷ drop (suc p) s) (sym i)
    ∙ ap (λ (l : List ℕ). x ∷ l) (ap (λ (j : ℕ). drop j s) (sym n) ∙ starts_text s (p + 1) w (omega arith) b.1 ∙ ap (λ (j : ℕ). w ++ drop j s) m)

-- A run, and what follows it.
run_text : (P : ℕ → Bool) (l : List ℕ) → l ≡ run P l ++ drop (length (run P l)) l
unfolding run
run_text P [] = refl
run_text P (y ∷ l) = go (P y) refl (run_text P l)
  where
    go : (b : Bool) → P y ≡ b → l ≡ run P l ++ drop (length (run P l)) l → y ∷ l ≡ run P (y ∷ l) ++ drop (length (run P (y ∷ l))) (y ∷ l)
    go true e k = rw e (ap (λ (m : List ℕ). y ∷ m) k)
    go false e k = rw e

run_in_line : (l : List ℕ) → InLine (run in_line l)
unfolding run
run_in_line [] = tt
run_in_line (y ∷ l) = go (in_line y) refl (run_in_line l)
  where
    go : (b : Bool) → in_line y ≡ b → InLine (run in_line l) → InLine (run in_line (y ∷ l))
    go true e k = rw e (λ z. true≢false (sym e ∙ lf_ends y z), k)
    go false e k = rw e tt

-- The text of a line's value.
abbrev body_at : List ℕ → ℕ → List ℕ
body_at s v = run_at in_line s v

line_text_lem : (s : List ℕ) (p : ℕ) {v e : ℕ} → Placed s p (bytes "rule=") v e → drop p s ≡ rule_line_of (body_at s v) ++ drop (suc e) s
unfolding run_at run_end rule_line_of peek
line_text_lem s p {v} {e} h =
    let a = starts_text s p (bytes "rule=") (omega (arith, h.value, h.order, h.inside)) h.keyed in
    let b = run_text in_line (drop v s) in
    let n : drop (length (body_at s v)) (drop v s) ≡ drop e s = drop-drop (length (body_at s v)) v s ∙ ap (λ (j : ℕ). drop j s) (sym h.ends) in
    let c = drop-cons s e (byte "\n") h.inside ∙ ap (λ (y : ℕ). y ∷ drop (suc e) s) h.lf in
    a ∙ ap (λ (j : ℕ). bytes "rule=" ++ drop j s) (sym h.value) ∙ ap (λ (l : List ℕ). bytes "rule=" ++ l) (b ∙ ap (λ (l : List ℕ). body_at s v ++ l) (n ∙ c))
    ∙ ap (λ (l : List ℕ). bytes "rule=" ++ l) (sym (append_assoc (body_at s v) (byte "\n" ∷ []) (drop (suc e) s)))

-- ---- all lines

-- From p to q stand the lines of m rules' texts.
pub record RuleTexts (s : List ℕ) (m p q : ℕ) : Type 0 where
  pub bodies : List (List ℕ)
  pub in_lines : All InLine bodies
  pub many : m ≡ length bodies
  pub stand : drop p s ≡ rule_lines bodies ++ drop q s

pub rule_texts : (names : List (List ℕ)) (s : List ℕ) (m : ℕ) (t : List Written) (p : ℕ) {ws : List Written} {q : ℕ} → in_turn (λ _ u. rule_line names s u) m t p ≡ got ws q → RuleTexts s m p q
unfolding in_turn rule_lines rule_line run_at
rule_texts names s zero t p e = record { bodies = []; in_lines = tt; many = refl; stand = ap (λ (j : ℕ). drop j s) (same_place e) }
rule_texts names s (suc m) t p {ws} {q} e =
    let d = came (rule_line names s p) (λ a u. in_turn (λ _ y. rule_line names s y) m (t ++ (a ∷ [])) u) e in
    let l = came (line s p (bytes "rule=") 2) (λ v y. rule_to names s v y) d.first in
    let h = placed s p (bytes "rule=") 2 l.first in
    let n : suc l.place ≡ d.place = omega (arith, rule_to_past names s l.value l.place l.then) in
    let r = rule_texts names s m (t ++ (d.value ∷ [])) d.place d.then in
    record {
      bodies = body_at s l.value ∷ r.bodies;
      in_lines = (run_in_line (drop l.value s), r.in_lines);
      many = ap suc r.many;
      stand =
          line_text_lem s p h ∙ ap (λ (j : ℕ). rule_line_of (body_at s l.value) ++ drop j s) n ∙ ap (λ (x : List ℕ). rule_line_of (body_at s l.value) ++ x) r.stand
          ∙ sym (append_assoc (rule_line_of (body_at s l.value)) (rule_lines r.bodies) (drop q s));
    }
