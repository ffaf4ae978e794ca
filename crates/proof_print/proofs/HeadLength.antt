-- How long a sheet's head is at most: 12 bytes for the window, 11 for how many signals, 24 for each of 64, and 9 for how many rules.
-- Assumes nothing. `s` is the sheet's text.
use mathlib.Core.Path.{◌≡◌}
use mathlib.Core.List.{List, [], ◌∷◌, ◌++◌}
use Prim.Native.Nat.{ℕ, zero, suc, ◌+◌, ◌*◌, ◌^◌, ◌<◌, ◌≤◌}
use native.Mathlib.Omega.{arith}
use lib.Dec.{eqb}
use lib.ListN.{length}
use Rattle.spec_limits.specs.Limits.{most_ticks, most_signals, most_rules}
use Rattle.read_bytes.specs.Read.Read.{got}
use Rattle.read_bytes.specs.Bytes.{bytes, between, run_end}
use Rattle.read_bytes.proofs.Answers.{same_place, through, came}
use Rattle.read_names.specs.Spellings.{spelling_at, names_at, find_name}
use Rattle.read_names.proofs.Names.{named}
use Rattle.read_lines.specs.Lines.{number_line, ranged_line, name_line, in_turn}
use Rattle.read_lines.proofs.KeyedLines.{number_held, name_held, ranged_past}
use Rattle.write_bytes.proofs.Decimals.{decimal_most}
use Rattle.write_bytes.proofs.OneWriting.{number_text_lem}
use Rattle.read_head.specs.SheetHead.{Head, signal_line, head}

module _ (s : List ℕ) where
  -- The line of a number with at most j + 1 digits.
  ranged_short : (p : ℕ) (key : List ℕ) (form content lo hi j : ℕ) → hi < 10 ^ suc j → {x q : ℕ} → ranged_line s p key form content lo hi ≡ got x q → q ≤ p + length key + suc j + 1
  unfolding ranged_line
  ranged_short p key form content lo hi j h {x} e =
      let d = came (number_line s p key form) _ e in
      let t = through (between lo hi d.value) d.value d.place content (p + length key) d.then in
      let r = ranged_past s p key form content lo hi e in
      let w = number_held s p key form d.first in
      let n = number_text_lem s w.value w.what in
      let m = decimal_most j d.value (omega (arith, t.1)) in
      omega (arith, t.2, w.next, n.1, w.at.value)

  -- A signal's line.
  signal_short : (places : List ℕ) (p : ℕ) {v q : ℕ} → signal_line s places p ≡ got v q → q ≤ p + 24
  unfolding signal_line run_end
  signal_short places p e =
      let d = came (name_line s p (bytes "signal=") 2 4) _ e in
      let t = through (eqb (find_name (spelling_at s d.value) (names_at s places)) (length places)) d.value d.place 4 d.value d.then in
      let w = name_held s p (bytes "signal=") 2 4 d.first in
      let n = named s w.value w.what.0 in
      omega (arith, t.2, w.next, n.ends, n.short, w.at.value)

  signals_short : (n : ℕ) (t : List ℕ) (p : ℕ) {u : List ℕ} {q : ℕ} → in_turn (signal_line s) n t p ≡ got u q → q ≤ p + 24 * n
  unfolding in_turn
  signals_short zero t p e = omega (arith, same_place e)
  signals_short (suc n) t p e =
      let d = came (signal_line s t p) _ e in
      omega (arith, signal_short t p d.first, signals_short n (t ++ (d.value ∷ [])) d.place d.then)

  pub head_short : {h : Head} {p : ℕ} → head s ≡ got h p → p ≤ 1568
  unfolding head
  head_short e =
      let a = came (ranged_line s 0 (bytes "window=") 2 3 1 most_ticks) _ e in
      let b = came (ranged_line s a.place (bytes "signals=") 2 3 1 most_signals) _ a.then in
      let d = came (in_turn (signal_line s) b.value [] b.place) _ b.then in
      let f = came (ranged_line s d.place (bytes "rules=") 2 3 0 most_rules) _ d.then in
      let w = ranged_short 0 (bytes "window=") 2 3 1 most_ticks 3 (omega arith) a.first in
      let x = ranged_short a.place (bytes "signals=") 2 3 1 most_signals 1 (omega arith) b.first in
      let y = signals_short b.value [] b.place d.first in
      let z = ranged_short d.place (bytes "rules=") 2 3 0 most_rules 1 (omega arith) f.first in
      let n = (ranged_past s a.place (bytes "signals=") 2 3 1 most_signals b.first).2 in
      omega (arith, same_place f.then)
