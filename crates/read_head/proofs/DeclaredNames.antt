-- The declared names, once the head of a sheet is accepted: each has at most 16 bytes and ends well, and no two are the same.
-- Assumes nothing.
use mathlib.Core.Path.{◌≡◌, sym, subst, ◌∙◌}
use mathlib.Core.Bool.{true}
use mathlib.Core.List.{List, [], ◌∷◌, ◌++◌}
use Prim.Native.Nat.{ℕ, zero, suc, ◌≤◌}
use native.Mathlib.Omega.{arith}
use borrow.Author.Tests.{eqb-true}
use lib.Dec.{eqb}
use lib.ListN.{length}
use Rattle.spec_limits.specs.Limits.{most_name_bytes, most_rules, most_signals, most_ticks}
use Rattle.read_bytes.specs.Read.{Read}
use Rattle.read_bytes.specs.Read.Read.{got}
use Rattle.read_bytes.specs.Bytes.{bytes}
use Rattle.read_names.specs.EndNumbers.{well_ended}
use Rattle.read_names.specs.Spellings.{spelling_at, names_at, find_name}
use Rattle.read_lines.specs.Lines.{ranged_line, name_line, in_turn}
use Rattle.read_bytes.proofs.Answers.{same_value, through, came}
use Rattle.read_lines.proofs.KeyedLines.{name_held}
use Rattle.read_names.proofs.Names.{named, names_append, names_many, Differ, differ_more}
use Rattle.spec_tilco.specs.Lists.{All}
use Rattle.spec_tilco.proofs.Lists.{all_append}
use Rattle.read_head.specs.SheetHead.{signal_line, Head, head}

-- What holds of no thing, and of one more once it is read, holds of all that is read in turn.
turn_keeps : {A : Type 0} (I : List A → Type 0) (P : List A → ℕ → Read A) → ((t : List A) (p : ℕ) (a : A) (q : ℕ) → I t → P t p ≡ got a q → I (t ++ (a ∷ [])))
    → (n : ℕ) (t : List A) (p : ℕ) {u : List A} {q : ℕ} → I t → in_turn P n t p ≡ got u q → I u
unfolding in_turn
turn_keeps I P part zero t p k e = subst I (same_value e) k
turn_keeps I P part (suc n) t p k e =
    let d = came (P t p) (λ a q. in_turn P n (t ++ (a ∷ [])) q) e in
    turn_keeps I P part n (t ++ (d.value ∷ [])) d.place (part t p d.value d.place k d.first) d.then

-- These names may be declared together.
pub record Declarable (names : List (List ℕ)) : Type 0 where
  pub short : All (λ w. length w ≤ most_name_bytes) names
  pub ended : All (λ w. well_ended w ≡ true) names
  pub differ : Differ names

no_names : Declarable []
no_names = record { short = tt; ended = tt; differ = λ x y h k e. absurd (omega arith) }

module _ (s : List ℕ) where
  -- One more.
  signal_declarable : (t : List ℕ) (p v q : ℕ) → Declarable (names_at s t) → signal_line s t p ≡ got v q → Declarable (names_at s (t ++ (v ∷ [])))
  unfolding signal_line names_at
  signal_declarable t p v q k h =
      let d = came (name_line s p (bytes "signal=") 2 4) _ h in
      let x = through (eqb (find_name (spelling_at s d.value) (names_at s t)) (length t)) d.value d.place 4 d.value d.then in
      let w = name_held s p (bytes "signal=") 2 4 d.first in
      let n = named s w.value w.what.0 in
      let i : w.value ≡ v = w.what.1 ∙ x.1 in
      let new : find_name (spelling_at s d.value) (names_at s t) ≡ length (names_at s t) = eqb-true (find_name (spelling_at s d.value) (names_at s t)) (length t) x.0 ∙ sym (names_many s t) in
      subst Declarable (sym (names_append s t (v ∷ [])))
      (record {
        short = all_append (λ w. length w ≤ most_name_bytes) (names_at s t) (spelling_at s v ∷ []) k.short (subst (λ u. length (spelling_at s u) ≤ most_name_bytes) i n.short, tt);
        ended = all_append (λ w. well_ended w ≡ true) (names_at s t) (spelling_at s v ∷ []) k.ended (subst (λ u. well_ended (spelling_at s u) ≡ true) i n.ended, tt);
        differ = differ_more (names_at s t) (spelling_at s v) k.differ (subst (λ u. find_name (spelling_at s u) (names_at s t) ≡ length (names_at s t)) x.1 new);
      })

  -- The names of an accepted head.
  pub head_names : {h : Head} {p : ℕ} → head s ≡ got h p → Declarable (names_at s h.places)
  unfolding head names_at
  head_names {h} e =
      let a = came (ranged_line s 0 (bytes "window=") 2 3 1 most_ticks) _ e in
      let b = came (ranged_line s a.place (bytes "signals=") 2 3 1 most_signals) _ a.then in
      let d = came (in_turn (signal_line s) b.value [] b.place) _ b.then in
      let f = came (ranged_line s d.place (bytes "rules=") 2 3 0 most_rules) _ d.then in
      subst (λ (x : Head). Declarable (names_at s x.places)) (same_value f.then)
      (turn_keeps (λ t. Declarable (names_at s t)) (signal_line s) signal_declarable b.value [] b.place no_names d.first)
