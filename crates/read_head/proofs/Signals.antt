-- The lines of the signals: each answer of the reader, and where a name and what follows its line stand.
-- Assumes nothing.
use mathlib.Core.Path.{◌≡◌, sym, ap, subst, ◌∙◌}
use mathlib.Core.List.{List, [], ◌∷◌, ◌++◌}
use Prim.Native.Nat.{ℕ, zero, suc, ◌+◌, ◌≤◌}
use native.Mathlib.Omega.{arith}
use borrow.Author.Tests.{eq-eqb, ne_eqb}
use lib.Dec.{eqb}
use lib.ListN.{length, length-append}
use Rattle.read_bytes.specs.Read.Read.{got, refused}
use Rattle.read_bytes.specs.Bytes.{bytes}
use Rattle.read_names.specs.Spellings.{spelling_at, names_at, find_name}
use Rattle.read_lines.specs.Lines.{name_line, in_turn}
use Rattle.read_bytes.proofs.Places.{Reach}
use Rattle.read_bytes.proofs.Answers.{same_value, same_place, through, came}
use Rattle.read_lines.proofs.KeyedLines.{name_held}
use Rattle.spec_tilco.specs.Lists.{All}
use Rattle.spec_tilco.proofs.Lists.{all_append, all_weaker}
use Rattle.read_head.specs.SheetHead.{signal_line}

-- A name that is read is new, or it is refused.
module _ (s places : List ℕ) (p : ℕ) {v q : ℕ} (a : name_line s p (bytes "signal=") 2 4 ≡ got v q) (i : ℕ) (e : i ≡ find_name (spelling_at s v) (names_at s places)) where
  -- no name before it is the same
  pub signal_new : i ≡ length places → got v q ≡ signal_line s places p
  unfolding signal_line
  signal_new h = rw (a, eq-eqb (find_name (spelling_at s v) (names_at s places)) (length places) (sym e ∙ h))

  -- one is
  pub signal_twice : (i ≡ length places → ⊥) → refused 4 v ≡ signal_line s places p
  unfolding signal_line
  signal_twice h = rw (a, ne_eqb (find_name (spelling_at s v) (names_at s places)) (length places) (λ x. h (e ∙ x)))

-- The line of a signal, from p on: its name stands at v, and what follows it at q.
pub record Signal (s : List ℕ) (p v q : ℕ) : Type 0 where
  pub past : Reach s (p + 1) q
  pub name : v ≤ q

-- A name's line, whatever was named before.
pub name_line_lem : (s : List ℕ) (p : ℕ) {v q : ℕ} → name_line s p (bytes "signal=") 2 4 ≡ got v q → Signal s p v q
name_line_lem s p h =
    let d = name_held s p (bytes "signal=") 2 4 h in
    let w = d.at in
    let n = d.next in
    let v = d.what.1 in
    record {
      past = record { ahead = omega (arith, w.value, w.order); inside = omega (arith, w.inside) };
      name = omega (arith, w.order);
    }

-- A signal's line is so.
pub signal_line_lem : (s places : List ℕ) (p : ℕ) {v q : ℕ} → signal_line s places p ≡ got v q → Signal s p v q
unfolding signal_line
signal_line_lem s places p {v} {q} h =
    let d = came (name_line s p (bytes "signal=") 2 4) _ h in
    let w = name_line_lem s p d.first in
    let x = through (eqb (find_name (spelling_at s d.value) (names_at s places)) (length places)) d.value d.place 4 d.value d.then in
    record {
      past = record { ahead = omega (arith, x.2, w.past.ahead); inside = omega (arith, x.2, w.past.inside) };
      name = omega (arith, x.1, x.2, w.name);
    }

-- The lines of n signals from p on, after names at the places t: the names stand before what follows.
pub record Signals (s : List ℕ) (n p : ℕ) (t u : List ℕ) (q : ℕ) : Type 0 where
  pub past : Reach s p q
  pub many : length u ≡ length t + n
  pub before : All (λ v. v ≤ q) u

-- What stands before p stands before what follows p.
pub up_to_lem : {p q : ℕ} → p ≤ q → (t : List ℕ) → All (λ v. v ≤ p) t → All (λ v. v ≤ q) t
up_to_lem {p} {q} h t = all_weaker (λ v. v ≤ p) (λ v. v ≤ q) (λ x k. omega arith) t

-- The lines of n signals are so.
pub signal_lines : (s : List ℕ) (n : ℕ) (t : List ℕ) (p : ℕ) {u : List ℕ} {q : ℕ} → p ≤ length s → All (λ v. v ≤ p) t → in_turn (signal_line s) n t p ≡ got u q → Signals s n p t u q
unfolding in_turn
signal_lines s zero t p {u} {q} h b e =
    let i : t ≡ u = same_value e in
    let j : p ≡ q = same_place e in
    let l : p ≤ q = omega arith in
    record {
      past = record { ahead = omega arith; inside = omega arith };
      many = omega (arith, ap length i);
      before = subst (All (λ v. v ≤ q)) i (up_to_lem l t b);
    }
signal_lines s (suc n) t p h b e =
    let d = came (signal_line s t p) (λ a x. in_turn (signal_line s) n (t ++ (a ∷ [])) x) e in
    let w = signal_line_lem s t p d.first in
    let l : p ≤ d.place = omega (arith, w.past.ahead) in
    let r = signal_lines s n (t ++ (d.value ∷ [])) d.place w.past.inside
    (all_append (λ v. v ≤ d.place) t (d.value ∷ []) (up_to_lem l t b) (w.name, tt)) d.then in
    let k = length-append t (d.value ∷ []) in
    record {
      past = record { ahead = omega (arith, r.past.ahead); inside = r.past.inside };
      many = omega (arith, r.many);
      before = r.before;
    }
