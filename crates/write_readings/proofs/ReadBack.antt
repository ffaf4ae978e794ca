-- What is written is read back: an entry's lines, wherever they stand, are read as the entry.
-- Assumes nothing. `names` are the declared names, W the window.
use mathlib.Core.Path.{◌≡◌, refl, sym, ap, ◌∙◌}
use mathlib.Core.Bool.{Bool, true, false}
use mathlib.Core.List.{List, [], ◌++◌}
use Prim.Native.Nat.{ℕ, ◌+◌, ◌-◌, ◌<◌, ◌≤◌}
use native.Mathlib.Omega.{arith}
use lib.Dec.{eqb}
use lib.ListN.{length, get_or, length-append}
use Rattle.read_bytes.specs.Read.Read.{got}
use Rattle.read_bytes.specs.Bytes.{bytes}
use Rattle.read_reading.specs.Spans.{Span}
use Rattle.read_reading.specs.OneEntry.{tick_line, first_key, last_tick, entry}
use Rattle.read_reading.proofs.Lines.{Within, to_is, entry_is}
use Rattle.write_bytes.proofs.Standing.{Standing, stands_first, stands_rest, stands_self}
use Rattle.write_lines.specs.LineTexts.{line_text, number_text, one_if}
use Rattle.write_readings.specs.EntryTexts.{value_text, entry_text}
use Rattle.write_readings.proofs.ReadableNames.{Readable}
use Rattle.write_readings.proofs.LinesBack.{ranged_line_back, known_line_back}

-- A value is written as a number that says it.
pub bit_back : (v : Bool) → eqb (one_if v) 1 ≡ v
bit_back true = refl
bit_back false = refl

bit_small : (v : Bool) → one_if v ≤ 1
bit_small true = omega arith
bit_small false = omega arith

module _ (names : List (List ℕ)) (readable : Readable names) (W : ℕ) (few : W ≤ 100000) (e : Span) (within : Within (length names) W e) {r : List ℕ} where
  -- A line with a tick of the window.
  tick_back : {p : ℕ} (key : List ℕ) (t : ℕ) → t < W → Standing r p (number_text key t) → tick_line W r p key ≡ got t (p + length (number_text key t))
  tick_back key t h st = ranged_line_back key 11 13 0 (W - 1) t (omega arith) (omega arith) (omega arith) st

  -- The last two lines, once the ticks are read: the entry is.
  value_back : (spans : Bool) (p : ℕ) {i j : ℕ} → tick_line W r p (first_key spans) ≡ got e.first i → last_tick spans W r e.first i ≡ got e.last j → Standing r j (value_text names e)
      → entry spans names W r p ≡ got e (j + length (value_text names e))
  unfolding value_text
  value_back spans p {i} {j} a b st =
      let line = line_text (bytes "signal=") (get_or names e.signal []) in
      let bit = one_if e.value in
      let small = bit_small e.value in
      let d = known_line_back names e.signal readable within.signal (stands_first line (number_text (bytes "value=") bit) st) in
      let g = ranged_line_back (bytes "value=") 11 14 0 1 bit (omega arith) (omega arith) small (stands_rest line (number_text (bytes "value=") bit) st) in
      let n : j + length line + length (number_text (bytes "value=") bit) ≡ j + length (line ++ number_text (bytes "value=") bit) = omega (arith, length-append line (number_text (bytes "value=") bit)) in
      sym (entry_is spans names W r p a b d g) ∙ rw (bit_back e.value, n)

  -- An entry that stands at p is read there.
  pub entry_reads : (spans : Bool) (p : ℕ) → (spans ≡ false → e.first ≡ e.last) → Standing r p (entry_text spans names e) → entry spans names W r p ≡ got e (p + length (entry_text spans names e))
  unfolding entry_text
  entry_reads true p one st =
      let from = number_text (bytes "from=") e.first in
      let to = number_text (bytes "to=") e.last in
      let rest = stands_rest from (to ++ value_text names e) st in
      let a = tick_back (bytes "from=") e.first (omega (arith, within.order, within.ticks)) (stands_first from (to ++ value_text names e) st) in
      let t = tick_back (bytes "to=") e.last within.ticks (stands_first to (value_text names e) rest) in
      let b = sym (to_is W r e.first (p + length from) t refl within.order) in
      let n : p + length from + length to + length (value_text names e) ≡ p + length (from ++ (to ++ value_text names e)) = omega (arith, length-append from (to ++ value_text names e), length-append to (value_text names e)) in
      value_back true p a b (stands_rest to (value_text names e) rest) ∙ ap (got e) n
  entry_reads false p one st =
      let at-line = number_text (bytes "at=") e.first in
      let a = tick_back (bytes "at=") e.first (omega (arith, within.order, within.ticks)) (stands_first at-line (value_text names e) st) in
      let b = ap (λ (t : ℕ). got t (p + length at-line)) (one refl) in
      let n : p + length at-line + length (value_text names e) ≡ p + length (at-line ++ value_text names e) = omega (arith, length-append at-line (value_text names e)) in
      value_back false p a b (stands_rest at-line (value_text names e) st) ∙ ap (got e) n

-- An entry at the start of a text is read, whatever follows.
pub entry_back : (spans : Bool) (names : List (List ℕ)) (W : ℕ) (e : Span) (x : List ℕ) → Readable names → W ≤ 100000 → Within (length names) W e → (spans ≡ false → e.first ≡ e.last)
    → entry spans names W (entry_text spans names e ++ x) 0 ≡ got e (length (entry_text spans names e))
entry_back spans names W e x readable few within one =
    let n : 0 + length (entry_text spans names e) ≡ length (entry_text spans names e) = omega arith in
    entry_reads names readable W few e within spans 0 one (stands_self (entry_text spans names e) x) ∙ ap (got e) n
