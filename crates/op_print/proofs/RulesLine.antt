-- The line `rules=` of an accepted head follows that of the last name.
-- Assumes nothing. `s` is the sheet's text.
use mathlib.Core.Path.{◌≡◌, sym, ap, subst, ◌∙◌}
use mathlib.Core.List.{List, [], ◌∷◌, ◌++◌}
use Prim.Native.Nat.{ℕ, zero, suc, ◌+◌, ◌-◌, ◌<◌, ◌≤◌}
use native.Mathlib.Omega.{arith}
use lib.Dec.{eqb}
use lib.ListN.{length, get_or, length-append}
use lib.Seq.{get_or-append-add}
use Rattle.spec_limits.specs.Limits.{most_ticks, most_signals, most_rules}
use Rattle.read_bytes.specs.Read.Read.{got}
use Rattle.read_bytes.specs.Bytes.{bytes}
use Rattle.read_bytes.proofs.Answers.{same_value, same_place, through, came}
use Rattle.read_names.specs.Spellings.{spelling_at, names_at, find_name}
use Rattle.read_lines.specs.Lines.{line_end, ranged_line, name_line, in_turn}
use Rattle.read_lines.proofs.KeyedLines.{name_held, ranged_past}
use Rattle.read_head.specs.SheetHead.{Head, head_of, signal_line, head}

-- The last of some places.
abbrev pub last_place : List ℕ → ℕ
last_place ps = get_or ps (length ps - 1) 0

last_added : (t : List ℕ) (v : ℕ) → last_place (t ++ (v ∷ [])) ≡ v
last_added t v =
    let l = length-append t (v ∷ []) in
    let e : length (t ++ (v ∷ [])) - 1 ≡ length t + 0 = omega arith in
    ap (λ i. get_or (t ++ (v ∷ [])) i 0) e ∙ get_or-append-add t (v ∷ []) 0 0

-- Names stand at these places, and what follows the line of the last one is at q.
record Ends (s ps : List ℕ) (q : ℕ) : Type 0 where
  some : 1 ≤ length ps
  next : q ≡ line_end s (last_place ps) + 1
  inside : line_end s (last_place ps) < length s

module _ (s : List ℕ) where
  signal_ends : (t : List ℕ) (p : ℕ) {v q : ℕ} → signal_line s t p ≡ got v q → Ends s (t ++ (v ∷ [])) q
  unfolding signal_line
  signal_ends t p {v} {q} e =
      let d = came (name_line s p (bytes "signal=") 2 4) _ e in
      let x = through (eqb (find_name (spelling_at s d.value) (names_at s t)) (length t)) d.value d.place 4 d.value d.then in
      let w = name_held s p (bytes "signal=") 2 4 d.first in
      let i : w.value ≡ v = w.what.1 ∙ x.1 in
      let l = length-append t (v ∷ []) in
      let z : line_end s (last_place (t ++ (v ∷ []))) ≡ w.lf = ap (line_end s) (last_added t v ∙ sym i) ∙ sym w.at.ends in
      record { some = omega arith; next = omega (arith, x.2, w.next); inside = omega (arith, w.at.inside) }

  signals_end : (n : ℕ) (t : List ℕ) (p : ℕ) {ps : List ℕ} {q : ℕ} → in_turn (signal_line s) (suc n) t p ≡ got ps q → Ends s ps q
  unfolding in_turn
  signals_end zero t p {ps} {q} e =
      let d = came (signal_line s t p) _ e in
      let x = signal_ends t p d.first in
      subst (λ us. Ends s us q) (same_value d.then) (subst (Ends s (t ++ (d.value ∷ []))) (same_place d.then) x)
  signals_end (suc n) t p e =
      let d = came (signal_line s t p) _ e in
      signals_end n (t ++ (d.value ∷ [])) d.place d.then

  -- What is known of the line `rules=`, after names at the places ps.
  pub record RulesLine (ps : List ℕ) (m p : ℕ) : Type 0 where
    pub some : 1 ≤ length ps
    pub inside : line_end s (last_place ps) < length s
    pub reads : ranged_line s (line_end s (last_place ps) + 1) (bytes "rules=") 2 3 0 most_rules ≡ got m p

  pub rules_line : {h : Head} {p : ℕ} → head s ≡ got h p → RulesLine h.places h.count p
  unfolding head
  rules_line {h} {p} e =
      let a = came (ranged_line s 0 (bytes "window=") 2 3 1 most_ticks) _ e in
      let b = came (ranged_line s a.place (bytes "signals=") 2 3 1 most_signals) _ a.then in
      let d = came (in_turn (signal_line s) b.value [] b.place) _ b.then in
      let f = came (ranged_line s d.place (bytes "rules=") 2 3 0 most_rules) _ d.then in
      let r = ranged_past s a.place (bytes "signals=") 2 3 1 most_signals b.first in
      let n : b.value ≡ suc (b.value - 1) = omega (arith, r.1) in
      let y = signals_end (b.value - 1) [] b.place (subst (λ i. in_turn (signal_line s) i [] b.place ≡ got d.value d.place) n d.first) in
      let same : head_of a.value d.value f.value ≡ h = same_value f.then in
      let there : ranged_line s (line_end s (last_place d.value) + 1) (bytes "rules=") 2 3 0 most_rules ≡ got f.value p =
      subst (λ i. ranged_line s i (bytes "rules=") 2 3 0 most_rules ≡ got f.value p) y.next (f.first ∙ ap (got f.value) (same_place f.then)) in
      subst (λ (k : Head). RulesLine k.places k.count p) same (record { some = y.some; inside = y.inside; reads = there })
