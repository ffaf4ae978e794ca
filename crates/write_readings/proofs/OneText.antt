-- A text is determined by its entries: the bytes from which an entry was read are those with which it is written.
-- Assumes nothing. `names` are the declared names, W the window, r a text and p a place in it.
use mathlib.Core.Path.{◌≡◌, refl, sym, ap, subst, ◌∙◌}
use mathlib.Core.Bool.{Bool, true, false}
use mathlib.Core.List.{List, [], ◌++◌}
use Prim.Native.Nat.{ℕ, zero, suc, ◌+◌, ◌-◌, ◌≤◌}
use native.Mathlib.Omega.{arith}
use borrow.Author.Tests.{ltb-true}
use lib.Dec.{ltb, eqb}
use lib.ListN.{length, get_or, length-append}
use Rattle.read_bytes.specs.Read.Read.{got}
use Rattle.read_bytes.specs.Bytes.{bytes, byte, between, starts, run_end}
use Rattle.read_bytes.proofs.Answers.{same_place, through, came}
use Rattle.read_names.specs.Spellings.{spelling_at, find_name}
use Rattle.read_names.proofs.Names.{find_is, named}
use Rattle.read_lines.specs.Lines.{number_line, ranged_line, name_line}
use Rattle.read_lines.proofs.KeyedLines.{Placed, number_held, name_held, ranged_past}
use Rattle.read_reading.specs.Spans.{Span, span}
use Rattle.read_reading.specs.OneEntry.{known_line, tick_line, first_key, last_tick, entry}
use Rattle.read_reading.proofs.Lines.{to_line_lem, lines_of}
use Rattle.write_bytes.specs.Writes.{decimal_text}
use Rattle.write_bytes.proofs.Standing.{Standing, one_starts, stands_then}
use Rattle.write_bytes.proofs.OneWriting.{number_text_lem}
use Rattle.write_lines.specs.LineTexts.{line_text, number_text, one_if}
use Rattle.write_readings.specs.EntryTexts.{value_text, entry_text}
use Rattle.write_readings.proofs.ReadableNames.{spelling_stands}

-- The text w stands from p to q.
pub record FromTo (r : List ℕ) (p : ℕ) (w : List ℕ) (q : ℕ) : Type 0 where
  pub stands : Standing r p w
  pub ends : q ≡ p + length w

-- One text after another.
pub both_from : {r : List ℕ} {p q u : ℕ} (ws vs : List ℕ) → FromTo r p ws q → FromTo r q vs u → FromTo r p (ws ++ vs) u
both_from {r} ws vs a b = record {
  stands = stands_then ws vs a.stands (subst (λ (i : ℕ). Standing r i vs) a.ends b.stands);
  ends = omega (arith, a.ends, b.ends, length-append ws vs);
}

-- ---- lines

-- A key, a value that ends at an LF, and the LF.
line_from : {r : List ℕ} {p v lf : ℕ} (key value : List ℕ) → Placed r p key v lf → starts r v value ≡ true → lf ≡ v + length value → FromTo r p (line_text key value) (lf + 1)
unfolding line_text
line_from {r} {p} {v} {lf} key value h a e =
    let k : FromTo r p key v = record { stands = record { bytes = h.keyed; inside = omega (arith, h.value, h.order, h.inside) }; ends = h.value } in
    let w : FromTo r v value lf = record { stands = record { bytes = a; inside = omega (arith, h.inside) }; ends = e } in
    let l : FromTo r lf (bytes "\n") (lf + 1) = record { stands = record { bytes = one_starts r lf (byte "\n") (sym h.lf); inside = omega (arith, h.inside) }; ends = refl } in
    both_from key (value ++ bytes "\n") k (both_from value (bytes "\n") w l)

-- A line with a number.
number_line_text : {r : List ℕ} {p : ℕ} (key : List ℕ) (form : ℕ) {n q : ℕ} → number_line r p key form ≡ got n q → FromTo r p (number_text key n) q
number_line_text {r} {p} key form {n} h =
    let w = number_held r p key form h in
    let t = number_text_lem r w.value w.what in
    subst (FromTo r p (number_text key n)) w.next (line_from key (decimal_text n) w.at t.0 t.1)

-- And with one of a range.
pub ranged_line_text : {r : List ℕ} {p : ℕ} (key : List ℕ) (form content lo hi : ℕ) {n q : ℕ} → ranged_line r p key form content lo hi ≡ got n q → FromTo r p (number_text key n) q
unfolding ranged_line
ranged_line_text {r} {p} key form content lo hi {n} {q} h =
    let d = came (number_line r p key form) _ h in
    let t = through (between lo hi d.value) d.value d.place content (p + length key) d.then in
    number_line_text key form (d.first ∙ rw (t.1, t.2))

-- A line with a declared name.
pub known_line_text : (names : List (List ℕ)) {r : List ℕ} {p i q : ℕ} → known_line names r p ≡ got i q → FromTo r p (line_text (bytes "signal=") (get_or names i [])) q
unfolding known_line run_end
known_line_text names {r} {p} {i} {q} h =
    let d = came (name_line r p (bytes "signal=") 11 12) _ h in
    let found = find_name (spelling_at r d.value) names in
    let t = through (ltb found (length names)) found d.place 12 d.value d.then in
    let w = name_held r p (bytes "signal=") 11 12 d.first in
    let same : spelling_at r w.value ≡ get_or names i [] = ap (spelling_at r) w.what.1 ∙ sym (find_is (spelling_at r d.value) names (ltb-true found (length names) t.0)) ∙ ap (λ (x : ℕ). get_or names x []) t.1 in
    let l = line_from (bytes "signal=") (spelling_at r w.value) w.at (spelling_stands r w.value) (named r w.value w.what.0).ends in
    rw (← same) (subst (FromTo r p (line_text (bytes "signal=") (spelling_at r w.value))) (w.next ∙ t.2) l)

-- ---- entries

-- A number up to 1 is the value that it says.
bit_is : (bit : ℕ) → bit ≤ 1 → one_if (eqb bit 1) ≡ bit
bit_is zero h = refl
bit_is (suc zero) h = refl
bit_is (suc (suc n)) h = absurd (omega arith)

module _ (names : List (List ℕ)) (W : ℕ) {r : List ℕ} where
  value_text_lem : (f l : ℕ) {j x k bit q : ℕ} → known_line names r j ≡ got x k → ranged_line r k (bytes "value=") 11 14 0 1 ≡ got bit q → FromTo r j (value_text names (span x (eqb bit 1) f l)) q
  unfolding value_text
  value_text_lem f l {x = x} {k} {bit} d g =
      let i = bit_is bit (ranged_past r k (bytes "value=") 11 14 0 1 g).2 in
      rw i (both_from (line_text (bytes "signal=") (get_or names x [])) (number_text (bytes "value=") bit) (known_line_text names d) (ranged_line_text (bytes "value=") 11 14 0 1 g))

  lines_text : (spans : Bool) {p i j k f l x bit q : ℕ} → tick_line W r p (first_key spans) ≡ got f i → last_tick spans W r f i ≡ got l j → known_line names r j ≡ got x k → ranged_line r k (bytes "value=") 11 14 0 1 ≡ got bit q
      → FromTo r p (entry_text spans names (span x (eqb bit 1) f l)) q
  unfolding entry_text
  lines_text true {i = i} {f = f} {l} {x} {bit} a b d g =
      let t = to_line_lem W r f i b in
      let v = value_text names (span x (eqb bit 1) f l) in
      both_from (number_text (bytes "from=") f) (number_text (bytes "to=") l ++ v) (ranged_line_text (bytes "from=") 11 13 0 (W - 1) a)
      (both_from (number_text (bytes "to=") l) v (ranged_line_text (bytes "to=") 11 13 0 (W - 1) t.line) (value_text_lem f l d g))
  lines_text false {p} {i} {j} {f = f} {l} {x} {bit} {q} a b d g =
      let here : i ≡ j = same_place b in
      let v = value_text names (span x (eqb bit 1) f l) in
      both_from (number_text (bytes "at=") f) v (ranged_line_text (bytes "at=") 11 13 0 (W - 1) a) (subst (λ (u : ℕ). FromTo r u v q) (sym here) (value_text_lem f l d g))

  -- The lines of an entry that is read stand there, up to the place after it.
  pub entry_stands : (spans : Bool) {p q : ℕ} {e : Span} → entry spans names W r p ≡ got e q → FromTo r p (entry_text spans names e) q
  entry_stands spans {p} {q} h =
      let l = lines_of spans names W r p h in
      subst (λ (y : Span). FromTo r p (entry_text spans names y) q) l.is (lines_text spans l.first_line l.last_tick_lem l.signal_line_lem l.value_line)

-- The same, byte by byte.
pub entry_text_lem : (spans : Bool) (names : List (List ℕ)) (W : ℕ) (r : List ℕ) (p : ℕ) {q : ℕ} {e : Span} → entry spans names W r p ≡ got e q
    → (starts r p (entry_text spans names e) ≡ true) × (q ≡ p + length (entry_text spans names e))
entry_text_lem spans names W r p h = let w = entry_stands names W spans h in (w.stands.bytes, w.ends)
