-- Every accepted sheet's text is a head's text and lines of rules, so that its rules' lines can be shuffled.
-- Assumes nothing.
use mathlib.Core.Path.{◌≡◌, refl, sym, ap, subst, ◌∙◌}
use mathlib.Core.Bool.{Bool, true, false}
use mathlib.Core.List.{List, [], ◌∷◌, ◌++◌, append-nil}
use Prim.Native.Nat.{ℕ, zero, suc, ◌+◌, ◌≤◌}
use native.Mathlib.Omega.{arith}
use borrow.Author.Tests.{eqb-true}
use lib.Dec.{leb, eqb}
use lib.ListN.{length, take, take-append-drop}
use lib.Seq.{drop-length, length-take-le}
use Rattle.spec_limits.specs.Limits.{most_bytes, most_ticks, most_signals, most_rules}
use Rattle.read_bytes.specs.Read.{Read, and_then}
use Rattle.read_bytes.specs.Read.Read.{got, refused}
use Rattle.read_bytes.specs.Bytes.{bytes, pick}
use Rattle.read_names.specs.Spellings.{spelling_at, names_at, find_name}
use Rattle.read_lines.specs.Lines.{ranged_line, name_line, in_turn}
use Rattle.read_bytes.proofs.Answers.{not_both, same_place, through, came}
use Rattle.read_lines.proofs.Loops.{turn_reach}
use Rattle.read_names.proofs.Names.{names_append}
use Rattle.read_bytes.proofs.Places.{Reach}
use Rattle.read_lines.proofs.Prefix.{word_kept}
use Rattle.read_lines.proofs.KeyedLines.{ranged_past}
use Rattle.read_head.specs.SheetHead.{signal_line, Head, head}
use Rattle.read_sheet.specs.Sheet.{rules, Contents, contents, at_end, sheet_of, rule_lines, sheet_text}
use Rattle.read_head.proofs.Signals.{signal_line_lem}
use Rattle.read_head.proofs.Heads.{head_is, head_past}
use Rattle.open_sheet.specs.Results.{accepted}
use Rattle.open_sheet.specs.SheetIn.{sheet_in}
use Rattle.open_table.proofs.Tables.{in_sheet}
use Rattle.spec_grammar.specs.SheetLines.{Next, Reached}
use Rattle.spec_grammar.proofs.HeadLines.{head_reached}
use Rattle.proof_demands.specs.Shuffles.{InParts}
use Rattle.proof_demands.proofs.Narrow.{ranged_line_narrow, name_line_narrow}
use Rattle.proof_demands.proofs.RuleTexts.{RuleTexts, rule_texts}

-- ---- the head alone

-- Lines of signals end inside the text.
signals_reach : (s : List ℕ) (n : ℕ) (t : List ℕ) (p : ℕ) {u : List ℕ} {q : ℕ} → p ≤ length s → in_turn (signal_line s) n t p ≡ got u q → Reach s p q × (length u ≡ length t + n)
signals_reach s =
    turn_reach (signal_line s) s (λ a b c y f. let z = (signal_line_lem s a b f).past in record { ahead = omega (arith, z.ahead); inside = z.inside })

module _ (h x : List ℕ) where
  abbrev Same : List ℕ → Type 0
  Same places = names_at (h ++ x) places ≡ names_at h places

  signal_narrow : (places : List ℕ) (p v q : ℕ) → Same places → signal_line (h ++ x) places p ≡ got v q → q ≤ length h → (signal_line h places p ≡ got v q) × Same (places ++ (v ∷ []))
  unfolding signal_line names_at
  signal_narrow places p v q same e l =
      let d = came (name_line (h ++ x) p (bytes "signal=") 2 4) _ e in
      let t = through (eqb (find_name (spelling_at (h ++ x) d.value) (names_at (h ++ x) places)) (length places)) d.value d.place 4 d.value d.then in
      let n : name_line h p (bytes "signal=") 2 4 ≡ got d.value d.place = name_line_narrow h x p (bytes "signal=") 2 4 d.first (omega (arith, t.2)) in
      let w : spelling_at (h ++ x) d.value ≡ spelling_at h d.value = word_kept h x p (bytes "signal=") 2 4 n in
      (rw (n, ← w, ← same) d.then, rw (names_append (h ++ x) places (v ∷ []), names_append h places (v ∷ []), same, rw t.1 at w))

  signals_narrow : (n : ℕ) (t : List ℕ) (p : ℕ) {u : List ℕ} {q : ℕ} → Same t → in_turn (signal_line (h ++ x)) n t p ≡ got u q → q ≤ length h → in_turn (signal_line h) n t p ≡ got u q
  unfolding in_turn
  signals_narrow zero t p same e l = e
  signals_narrow (suc n) t p {u} {q} same e l =
      let d = came (signal_line (h ++ x) t p) (λ a y. in_turn (signal_line (h ++ x)) n (t ++ (a ∷ [])) y) e in
      let s = signal_line_lem (h ++ x) t p d.first in
      let far = signals_reach (h ++ x) n (t ++ (d.value ∷ [])) d.place s.past.inside d.then in
      let z = signal_narrow t p d.value d.place same d.first (omega (arith, far.0.ahead)) in
      rw z.0 (signals_narrow n (t ++ (d.value ∷ [])) d.place z.1 d.then l)

  pub head_narrow : {k : Head} → head (h ++ x) ≡ got k (length h) → head h ≡ got k (length h)
  unfolding head names_at
  head_narrow {k} e =
      let a = came (ranged_line (h ++ x) 0 (bytes "window=") 2 3 1 most_ticks) _ e in
      let b = came (ranged_line (h ++ x) a.place (bytes "signals=") 2 3 1 most_signals) _ a.then in
      let d = came (in_turn (signal_line (h ++ x)) b.value [] b.place) _ b.then in
      let f = came (ranged_line (h ++ x) d.place (bytes "rules=") 2 3 0 most_rules) _ d.then in
      let j = ranged_past (h ++ x) a.place (bytes "signals=") 2 3 1 most_signals b.first in
      let far = signals_reach (h ++ x) b.value [] b.place j.0.inside d.first in
      let l = ranged_past (h ++ x) d.place (bytes "rules=") 2 3 0 most_rules f.first in
      let n : f.place ≡ length h = same_place f.then in
      let d_in : d.place ≤ length h = omega (arith, l.0.ahead) in
      let b_in : b.place ≤ length h = omega (arith, far.0.ahead) in
      let a_in : a.place ≤ length h = omega (arith, j.0.ahead) in
      head_is h (ranged_line_narrow h x 0 (bytes "window=") 2 3 1 most_ticks a.first a_in) (ranged_line_narrow h x a.place (bytes "signals=") 2 3 1 most_signals b.first b_in)
      (signals_narrow b.value [] b.place refl d.first d_in) (ranged_line_narrow h x d.place (bytes "rules=") 2 3 0 most_rules f.first (omega arith))
      ∙ f.then

-- ---- the whole text

module _ (s : List ℕ) {d : Head} {p : ℕ} (headed : head s ≡ got d p) (inside : p ≤ length s) (r : RuleTexts s d.count p (length s)) where
  joined : sheet_text (take p s) r.bodies ≡ s
  joined =
      ap (λ (x : List ℕ). take p s ++ x) (sym (append-nil (rule_lines r.bodies)) ∙ ap (λ (x : List ℕ). rule_lines r.bodies ++ x) (sym (drop-length s)) ∙ sym r.stand)
      ∙ take-append-drop p s

  parts_of : InParts s
  parts_of =
      let n : length (take p s) ≡ p = length-take-le p s inside in
      record {
        head_text_lem = take p s;
        bodies = r.bodies;
        parted = record {
          window = d.window;
          places = d.places;
          lines = subst (λ (m : ℕ). Reached (take p s) (Next.rule d.window d.places m []) (length (take p s))) r.many
              (head_reached (take p s) (head_narrow (take p s) (rule_lines r.bodies) (ap head joined ∙ headed ∙ ap (got d) (sym n))));
          in_lines = r.in_lines;
        };
        whole = sym joined;
      }

sheet_parts : (s : List ℕ) {k : Contents} {q : ℕ} → sheet_of s ≡ got k q → InParts s
unfolding sheet_of rules
sheet_parts s {k} {q} e = go (leb (length s) most_bytes) e
  where
    rest : Head → ℕ → Read Contents
    rest h p = and_then (rules (names_at s h.places) s h.count p) (λ ws y. at_end s (contents h.window h.places ws) y)

    go : (b : Bool) → pick b (λ _. and_then (head s) rest) (refused 1 0) ≡ got k q → InParts s
    go true f =
        let a = came (head s) rest f in
        let b = came (rules (names_at s a.value.places) s a.value.count a.place) _ a.then in
        let z = through (eqb b.place (length s)) (contents a.value.window a.value.places b.value) b.place 2 b.place b.then in
        let n : b.place ≡ length s = eqb-true b.place (length s) z.0 in
        let t = rule_texts (names_at s a.value.places) s a.value.count [] a.place b.first in
        parts_of s a.first (head_past s a.first).inside (subst (RuleTexts s a.value.count a.place) n t)
    go false f = absurd (not_both (sym f))

-- Every accepted sheet's text is in parts.
pub in_parts : (s : List ℕ) {k : Contents} → sheet_in s ≡ accepted k → InParts s
in_parts s e = sheet_parts s (in_sheet s e).reads
