-- A sheet's head and what follows it, x: an accepted head is read alike whatever follows, and it names the same names.
-- Assumes nothing.
use mathlib.Core.Path.{◌≡◌, refl, subst, ◌∙◌}
use mathlib.Core.List.{List, [], ◌∷◌, ◌++◌}
use Prim.Native.Nat.{ℕ}
use lib.Dec.{eqb}
use lib.ListN.{length}
use Rattle.spec_limits.specs.Limits.{most_rules, most_signals, most_ticks}
use Rattle.read_bytes.specs.Read.Read.{got}
use Rattle.read_bytes.specs.Bytes.{bytes}
use Rattle.read_names.specs.Spellings.{spelling_at, names_at, find_name}
use Rattle.read_lines.specs.Lines.{ranged_line, name_line, in_turn}
use Rattle.read_bytes.proofs.Answers.{same_value, through, came}
use Rattle.read_lines.proofs.Loops.{turn_alike}
use Rattle.read_names.proofs.Names.{names_append}
use Rattle.read_lines.proofs.Prefix.{ranged_line_kept, name_line_kept, word_kept}
use Rattle.read_head.specs.SheetHead.{signal_line, Head, head_of, head}
use Rattle.read_head.proofs.Heads.{head_is}

module _ (h x : List ℕ) where
  -- The names at these places are the same.
  abbrev Same : List ℕ → Type 0
  Same places = names_at (h ++ x) places ≡ names_at h places

  -- So a signal's line after them is read alike, and its name is the same too.
  signal_kept : (places : List ℕ) (p v q : ℕ) → Same places → signal_line h places p ≡ got v q → (signal_line (h ++ x) places p ≡ got v q) × Same (places ++ (v ∷ []))
  unfolding signal_line names_at
  signal_kept places p v q same e =
      let d = came (name_line h p (bytes "signal=") 2 4) _ e in
      let w : spelling_at (h ++ x) d.value ≡ spelling_at h d.value = word_kept h x p (bytes "signal=") 2 4 d.first in
      let i : d.value ≡ v = (through (eqb (find_name (spelling_at h d.value) (names_at h places)) (length places)) d.value d.place 4 d.value d.then).1 in
      (rw (name_line_kept h x p (bytes "signal=") 2 4 d.first, w, same) d.then, rw (names_append (h ++ x) places (v ∷ []), names_append h places (v ∷ []), same, rw i at w))

  module _ {k : Head} {p : ℕ} (e : head h ≡ got k p) where
    -- Both at once.
    both : (head (h ++ x) ≡ got k p) × Same k.places
    unfolding head names_at
    both =
        let a = came (ranged_line h 0 (bytes "window=") 2 3 1 most_ticks) _ e in
        let b = came (ranged_line h a.place (bytes "signals=") 2 3 1 most_signals) _ a.then in
        let d = came (in_turn (signal_line h) b.value [] b.place) _ b.then in
        let f = came (ranged_line h d.place (bytes "rules=") 2 3 0 most_rules) _ d.then in
        let s = turn_alike (signal_line h) (signal_line (h ++ x)) Same signal_kept b.value [] b.place refl d.first in
        let m : head_of a.value d.value f.value ≡ k = same_value f.then in (
          head_is (h ++ x) (ranged_line_kept h x 0 (bytes "window=") 2 3 1 most_ticks a.first) (ranged_line_kept h x a.place (bytes "signals=") 2 3 1 most_signals b.first) s.0
              (ranged_line_kept h x d.place (bytes "rules=") 2 3 0 most_rules f.first) ∙ f.then,
          subst (λ (y : Head). Same y.places) m s.1,
        )

    -- An accepted head is read alike.
    pub head_kept : head (h ++ x) ≡ got k p
    head_kept = both.0

    -- And its names are the same.
    pub head_names_kept : names_at (h ++ x) k.places ≡ names_at h k.places
    head_names_kept = both.1
