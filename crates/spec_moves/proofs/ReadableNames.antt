-- The declared names of an accepted sheet can be written and read back.
-- Assumes nothing. `s` is the sheet's text.
use mathlib.Core.Path.{◌≡◌, refl, sym, ap, subst, ◌∙◌}
use mathlib.Core.Bool.{Bool, true, false}
use mathlib.Core.List.{List, [], ◌∷◌, ◌++◌}
use Prim.Native.Nat.{ℕ}
use native.Mathlib.Omega.{arith}
use lib.Dec.{eqb}
use lib.ListN.{length}
use Rattle.spec_limits.specs.Limits.{most_rules, most_signals, most_ticks}
use Rattle.spec_tilco.specs.Lists.{All}
use Rattle.spec_tilco.proofs.Lists.{all_append}
use Rattle.read_bytes.specs.Read.{Read}
use Rattle.read_bytes.specs.Read.Read.{got, refused as unread}
use Rattle.read_bytes.specs.Bytes.{bytes, pick}
use Rattle.read_bytes.proofs.Answers.{same_value, through, came}
use Rattle.read_names.specs.Spellings.{spelling_at, names_at, find_name}
use Rattle.read_names.proofs.Names.{names_append}
use Rattle.read_lines.specs.Lines.{ranged_line, name_line, in_turn}
use Rattle.read_lines.proofs.KeyedLines.{name_held}
use Rattle.read_lines.proofs.Loops.{turn_alike}
use Rattle.read_head.specs.SheetHead.{signal_line, Head, head}
use Rattle.read_head.proofs.DeclaredNames.{head_names}
use Rattle.read_sheet.specs.Sheet.{Contents, sheet_of, meant}
use Rattle.read_sheet.proofs.Wholes.{sheet_head}
use Rattle.open_sheet.specs.Results.{Result, accepted, refused}
use Rattle.open_sheet.specs.SheetIn.{fits, sized, sheet_in, names_in}
use Rattle.write_readings.proofs.ReadableNames.{WholeName, Readable, name_whole}

module _ (s : List ℕ) where
  -- Each of the names at these places is a name by itself.
  abbrev Whole : List ℕ → Type 0
  Whole places = All WholeName (names_at s places)

  -- One name more.
  signal_whole : (places : List ℕ) (p v q : ℕ) → Whole places → signal_line s places p ≡ got v q → (signal_line s places p ≡ got v q) × Whole (places ++ (v ∷ []))
  unfolding signal_line names_at
  signal_whole places p v q k h =
      let d = came (name_line s p (bytes "signal=") 2 4) _ h in
      let x = through (eqb (find_name (spelling_at s d.value) (names_at s places)) (length places)) d.value d.place 4 d.value d.then in
      let w = name_held s p (bytes "signal=") 2 4 d.first in
      let one = subst (λ u. WholeName (spelling_at s u)) (w.what.1 ∙ x.1) (name_whole s w.value w.what.0) in
      (h, subst (All WholeName) (sym (names_append s places (v ∷ []))) (all_append WholeName (names_at s places) (spelling_at s v ∷ []) k (one, tt)))

  -- The names of an accepted head,
  pub head_readable : {h : Head} {p : ℕ} → head s ≡ got h p → Readable (names_at s h.places)
  unfolding head names_at
  head_readable {h} e =
      let a = came (ranged_line s 0 (bytes "window=") 2 3 1 most_ticks) _ e in
      let b = came (ranged_line s a.place (bytes "signals=") 2 3 1 most_signals) _ a.then in
      let d = came (in_turn (signal_line s) b.value [] b.place) _ b.then in
      let f = came (ranged_line s d.place (bytes "rules=") 2 3 0 most_rules) _ d.then in
      let w = (turn_alike (signal_line s) (signal_line s) Whole signal_whole b.value [] b.place tt d.first).1 in
      record { whole = subst (λ (x : Head). Whole x.places) (same_value f.then) w; differ = (head_names s e).differ }

  -- of a sheet that is read,
  pub sheet_readable : {k : Contents} {q : ℕ} → sheet_of s ≡ got k q → Readable (names_in s k)
  sheet_readable e = head_readable (sheet_head s e).2

  -- and of one that is accepted.
  pub names_readable : {k : Contents} → sheet_in s ≡ accepted k → Readable (names_in s k)
  unfolding sheet_in
  names_readable {k} e = of_read (sheet_of s) refl e
    where
      never : {n p : ℕ} → ◌≡◌ {A = Result Contents} (refused n p) (accepted k) → ⊥
      never i = let z : ◌≡◌ {A = ℕ} 0 1 = cc in omega arith

      of_fitting : (x : Contents) (q : ℕ) → sheet_of s ≡ got x q → (b : Bool) → pick b (λ _. accepted x) (refused 9 0) ≡ accepted k → Readable (names_in s k)
      of_fitting x q f true i = let same : x ≡ k = cc in sheet_readable (f ∙ ap (λ (y : Contents). got y q) same)
      of_fitting x q f false i = absurd (never i)

      of_read : (r : Read Contents) → sheet_of s ≡ r → sized r ≡ accepted k → Readable (names_in s k)
      of_read (got x q) f i = of_fitting x q f (fits (meant x)) i
      of_read (unread n p) f i = absurd (never i)
