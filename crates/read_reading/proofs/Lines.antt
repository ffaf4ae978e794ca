-- An entry's lines: each answer of the reader, and what an accepted entry is.
-- Assumes nothing.
use mathlib.Core.Path.{◌≡◌, sym, ap, subst, ◌∙◌}
use mathlib.Core.Bool.{Bool, true, false}
use mathlib.Core.List.{List}
use Prim.Native.Nat.{ℕ, ◌+◌, ◌-◌, ◌<◌, ◌≤◌}
use native.Mathlib.Omega.{arith}
use borrow.Author.Tests.{lt-ltb, le-ltb, ltb-true, le-leb, lt-leb, leb-true}
use lib.Dec.{leb, ltb, eqb}
use lib.ListN.{length}
use Rattle.std.specs.Prelude.{Option, Some, None}
use Rattle.read_bytes.specs.Read.Read.{got, refused}
use Rattle.read_bytes.specs.Bytes.{bytes, between, starts}
use Rattle.read_names.specs.EndNumbers.{end_number}
use Rattle.read_names.specs.Spellings.{spelling_at, find_name, name_at}
use Rattle.read_index.specs.declared.Found.{Found}
use Rattle.read_index.specs.Index.{name_count, names_in, IndexOf}
use Rattle.read_index.specs.Finds.{Finds}
use Rattle.read_lines.specs.Lines.{keyed_at, lf_at, line, whole_name, number_line, ranged_line, name_line}
use Rattle.read_bytes.proofs.Places.{Reach}
use Rattle.read_bytes.proofs.Values.{number_reach}
use Rattle.read_names.proofs.Names.{name_reach}
use Rattle.read_index.proofs.NameTexts.{text_name}
use Rattle.read_index.proofs.Places.{names_in_many}
use Rattle.read_index.proofs.Looking.{found_text}
use Rattle.read_bytes.proofs.Answers.{not_both, same_value, same_place, through, came}
use Rattle.read_lines.proofs.KeyedLines.{placed, number_held, name_held, line_past, ranged_past}
use Rattle.read_lines.proofs.ValueFirst.{name_first}
use Rattle.read_reading.specs.Spans.{Span, span}
use Rattle.read_reading.specs.OneEntry.{known_line, tick_line, first_key, to_line, last_tick, entry}

-- The place of a name that is read is its value.
name_value : (v content e : ℕ) (w : Option (ℕ × Option ℕ)) {x q : ℕ} → whole_name v content e w ≡ got x q → v ≡ x
name_value v content e (Some (z, n)) f = (through (eqb z e) v (e + 1) content v f).1
name_value v content e None f = absurd (not_both (sym f))

-- A name that is read stands inside the text.
pub name_place : (s : List ℕ) (p : ℕ) (key : List ℕ) (form content : ℕ) {v q : ℕ} → name_line s p key form content ≡ got v q → v ≤ length s
unfolding name_line
name_place s p key form content h =
    let d = came (line s p key form) _ h in
    let w = placed s p key form d.first in
    omega (arith, w.order, w.inside, name_value d.value content d.place (name_at s d.value) d.then)

-- A name that is read: its number among the names of the sheet's index, or its refusal.
module _ (s T r : List ℕ) (p : ℕ) {v q : ℕ} (a : name_line r p (bytes "signal=") 11 12 ≡ got v q) (i : ℕ) (e : i ≡ find_name (spelling_at r v) (names_in s T)) where
  pub known_is : i < name_count T → got i q ≡ known_line (names_in s T) r p
  unfolding known_line
  known_is h =
      let l : find_name (spelling_at r v) (names_in s T) < length (names_in s T) = omega (arith, names_in_many s T) in
      rw (a, lt-ltb (find_name (spelling_at r v) (names_in s T)) (length (names_in s T)) l, e)

  pub known_not : name_count T ≤ i → refused 12 v ≡ known_line (names_in s T) r p
  unfolding known_line
  known_not h =
      let l : length (names_in s T) ≤ find_name (spelling_at r v) (names_in s T) = omega (arith, names_in_many s T) in
      rw (a, le-ltb (find_name (spelling_at r v) (names_in s T)) (length (names_in s T)) l)

-- What is found among the names is a name.
pub known_found : (s T r : List ℕ) (p : ℕ) {f : Found} → IndexOf s T → keyed_at r p (bytes "signal=") ≡ true → Finds (names_in s T) r (p + 7) f → f.signal < name_count T → lf_at r f.end ≡ true
    → got f.signal (f.end + 1) ≡ known_line (names_in s T) r p
known_found s T r p {f} x k d h l =
    let t = found_text x d (omega (arith, names_in_many s T)) in
    let n = text_name r (p + 7) t ∙ ap (λ (q : ℕ). Some (q, end_number (spelling_at r (p + 7)))) (sym d.ends) in
    known_is s T r p (sym (name_first r p (bytes "signal=") 11 k l 12 n)) f.signal d.found h

-- What follows a line with a declared name stands after it.
pub known_past : (names : List (List ℕ)) (r : List ℕ) (p : ℕ) {i q : ℕ} → known_line names r p ≡ got i q → Reach r (p + 1) q × (i < length names)
unfolding known_line
known_past names r p h =
    let d = came (name_line r p (bytes "signal=") 11 12) _ h in
    let w = line_past (name_held r p (bytes "signal=") 11 12 d.first) in
    let x = through (ltb (find_name (spelling_at r d.value) names) (length names)) (find_name (spelling_at r d.value) names) d.place 12 d.value d.then in
    let y = ltb-true (find_name (spelling_at r d.value) names) (length names) x.0 in
    (record { ahead = omega (arith, x.2, w.ahead); inside = omega (arith, x.2, w.inside) }, omega (arith, x.1, y))

-- A line with a number has at least a digit and its LF after its key.
pub ranged_long : (r : List ℕ) (p : ℕ) (key : List ℕ) (form content lo hi : ℕ) {x q : ℕ} → ranged_line r p key form content lo hi ≡ got x q → p + length key + 2 ≤ q
unfolding ranged_line
ranged_long r p key form content lo hi h =
    let d = came (number_line r p key form) _ h in
    let t = through (between lo hi d.value) d.value d.place content (p + length key) d.then in
    let w = number_held r p key form d.first in
    omega (arith, t.2, w.next, w.at.value, (number_reach r w.value w.what).0.ahead)

-- A line with a declared name has at least a letter and its LF after its key.
known_long : (names : List (List ℕ)) (r : List ℕ) (p : ℕ) {i q : ℕ} → known_line names r p ≡ got i q → p + length (bytes "signal=") + 2 ≤ q
unfolding known_line
known_long names r p h =
    let d = came (name_line r p (bytes "signal=") 11 12) _ h in
    let x = through (ltb (find_name (spelling_at r d.value) names) (length names)) (find_name (spelling_at r d.value) names) d.place 12 d.value d.then in
    let w = name_held r p (bytes "signal=") 11 12 d.first in
    omega (arith, x.2, w.next, w.at.value, (name_reach r w.value w.what.0).0.ahead)

-- The span is of one of k signals, at ticks of the window W, and ends at its first tick or later.
pub record Within (k W : ℕ) (e : Span) : Type 0 where
  pub signal : e.signal < k
  pub order : e.first ≤ e.last
  pub ticks : e.last < W

-- The line `to=`: each answer. c is the refusal of a tick outside the window.
module _ (W : ℕ) (r : List ℕ) (f p : ℕ) {c : ℕ} where
  pub to_refused : {n k : ℕ} → ranged_line r p (bytes "to=") 11 c 0 (W - 1) ≡ refused n k → c ≡ 13 → refused n k ≡ to_line W r f p
  unfolding to_line
  to_refused a thirteen = rw (rw thirteen at a)

  module _ {l q : ℕ} (a : ranged_line r p (bytes "to=") 11 c 0 (W - 1) ≡ got l q) (thirteen : c ≡ 13) where
    pub to_is : f ≤ l → got l q ≡ to_line W r f p
    unfolding to_line
    to_is h = rw (rw thirteen at a, le-leb f l h)

    pub to_below : l < f → refused 21 (p + length (bytes "to=")) ≡ to_line W r f p
    unfolding to_line
    to_below h = rw (rw thirteen at a, lt-leb f l h)

-- An accepted line `to=`: its tick is not below the first.
pub record ToLine (W : ℕ) (r : List ℕ) (f p l q : ℕ) : Type 0 where
  pub line : tick_line W r p (bytes "to=") ≡ got l q
  pub order : f ≤ l

pub to_line_lem : (W : ℕ) (r : List ℕ) (f p : ℕ) {l q : ℕ} → to_line W r f p ≡ got l q → ToLine W r f p l q
unfolding to_line
to_line_lem W r f p {l} {q} h =
    let d = came (tick_line W r p (bytes "to=")) _ h in
    let t = through (leb f d.value) d.value d.place 21 (p + length (bytes "to=")) d.then in
    record { line = d.first ∙ rw (t.1, t.2); order = omega (arith, t.1, leb-true f d.value t.0) }

-- The last tick of an entry that starts at the tick f: what follows it does not stand before it,
pub last_reach : (spans : Bool) (W : ℕ) (r : List ℕ) (f p : ℕ) {l q : ℕ} → last_tick spans W r f p ≡ got l q → p ≤ length r → Reach r p q
last_reach false W r f p e i = record { ahead = omega (arith, same_place e); inside = omega (arith, same_place e) }
last_reach true W r f p e i =
    let w = ranged_past r p (bytes "to=") 11 13 0 (W - 1) (to_line_lem W r f p e).line in
    record { ahead = omega (arith, w.0.ahead); inside = w.0.inside }

-- and it is a tick of the window, not below the first.
pub last_order : (spans : Bool) (W : ℕ) (r : List ℕ) (f p : ℕ) {l q : ℕ} → last_tick spans W r f p ≡ got l q → f < W → (f ≤ l) × (l < W)
last_order false W r f p e h = (omega (arith, same_value e), omega (arith, same_value e))
last_order true W r f p e h =
    let t = to_line_lem W r f p e in
    (t.order, omega (arith, (ranged_past r p (bytes "to=") 11 13 0 (W - 1) t.line).2))

-- An entry's first key has three bytes at least.
key_long : (spans : Bool) → 3 ≤ length (first_key spans)
key_long false = omega arith
key_long true = omega arith

-- The lines of an entry from p to q, which is e: what each holds, and where the following ones start.
pub record LinesOf (spans : Bool) (names : List (List ℕ)) (W : ℕ) (r : List ℕ) (p : ℕ) (e : Span) (q : ℕ) : Type 0 where
  pub first : ℕ
  pub last : ℕ
  pub row : ℕ
  pub bit : ℕ
  pub second : ℕ
  pub third : ℕ
  pub fourth : ℕ
  pub first_line : tick_line W r p (first_key spans) ≡ got first second
  pub last_tick_lem : last_tick spans W r first second ≡ got last third
  pub signal_line_lem : known_line names r third ≡ got row fourth
  pub value_line : ranged_line r fourth (bytes "value=") 11 14 0 1 ≡ got bit q
  pub is : span row (eqb bit 1) first last ≡ e

module _ (spans : Bool) (names : List (List ℕ)) (W : ℕ) (r : List ℕ) (p : ℕ) where
  -- The refusal of a line is the entry's, once those before it are accepted.
  pub refused_first : {n k : ℕ} → tick_line W r p (first_key spans) ≡ refused n k → refused n k ≡ entry spans names W r p
  unfolding entry
  refused_first a = rw a

  module _ {f i : ℕ} (a : tick_line W r p (first_key spans) ≡ got f i) where
    pub refused_last : {n k : ℕ} → last_tick spans W r f i ≡ refused n k → refused n k ≡ entry spans names W r p
    unfolding entry
    refused_last b = rw (a, b)

    module _ {l j : ℕ} (b : last_tick spans W r f i ≡ got l j) where
      pub refused_signal : {n k : ℕ} → known_line names r j ≡ refused n k → refused n k ≡ entry spans names W r p
      unfolding entry
      refused_signal d = rw (a, b, d)

      module _ {x u : ℕ} (d : known_line names r j ≡ got x u) where
        pub refused_value : {n k : ℕ} → ranged_line r u (bytes "value=") 11 14 0 1 ≡ refused n k → refused n k ≡ entry spans names W r p
        unfolding entry
        refused_value g = rw (a, b, d, g)

        -- accepted lines are an entry
        pub entry_is : {v q : ℕ} → ranged_line r u (bytes "value=") 11 14 0 1 ≡ got v q → got (span x (eqb v 1) f l) q ≡ entry spans names W r p
        unfolding entry
        entry_is g = rw (a, b, d, g)

  -- An accepted entry has accepted lines.
  pub lines_of : {e : Span} {q : ℕ} → entry spans names W r p ≡ got e q → LinesOf spans names W r p e q
  unfolding entry
  lines_of h =
      let a = came (tick_line W r p (first_key spans)) _ h in
      let b = came (last_tick spans W r a.value a.place) _ a.then in
      let d = came (known_line names r b.place) _ b.then in
      let g = came (ranged_line r d.place (bytes "value=") 11 14 0 1) _ d.then in
      record {
        first = a.value;
        last = b.value;
        row = d.value;
        bit = g.value;
        second = a.place;
        third = b.place;
        fourth = d.place;
        first_line = a.first;
        last_tick_lem = b.first;
        signal_line_lem = d.first;
        value_line = g.first ∙ ap (got g.value) (same_place g.then);
        is = same_value g.then;
      }

  -- What follows it stands after it.
  pub entry_ahead : {e : Span} {q : ℕ} → entry spans names W r p ≡ got e q → Reach r (p + 1) q
  entry_ahead h =
      let l = lines_of h in
      let f = ranged_past r p (first_key spans) 11 13 0 (W - 1) l.first_line in
      let t = last_reach spans W r l.first l.second l.last_tick_lem f.0.inside in
      let g = known_past names r l.third l.signal_line_lem in
      let v = ranged_past r l.fourth (bytes "value=") 11 14 0 1 l.value_line in
      record { ahead = omega (arith, f.0.ahead, t.ahead, g.0.ahead, v.0.ahead); inside = v.0.inside }

  -- Its first key stands there.
  pub entry_keyed : {e : Span} {q : ℕ} → entry spans names W r p ≡ got e q → starts r p (first_key spans) ≡ true
  unfolding ranged_line
  entry_keyed h =
      let d = came (number_line r p (first_key spans) 11) _ (lines_of h).first_line in
      (number_held r p (first_key spans) 11 d.first).at.keyed

  -- It has at least 22 bytes.
  pub entry_long : {e : Span} {q : ℕ} → entry spans names W r p ≡ got e q → p + 22 ≤ q
  entry_long h =
      let l = lines_of h in
      let f = ranged_past r p (first_key spans) 11 13 0 (W - 1) l.first_line in
      let t = last_reach spans W r l.first l.second l.last_tick_lem f.0.inside in
      let a = ranged_long r p (first_key spans) 11 13 0 (W - 1) l.first_line in
      let b = known_long names r l.third l.signal_line_lem in
      let d = ranged_long r l.fourth (bytes "value=") 11 14 0 1 l.value_line in
      omega (arith, key_long spans, t.ahead)

  -- Its span is within bounds.
  pub entry_within : 1 ≤ W → {e : Span} {q : ℕ} → entry spans names W r p ≡ got e q → Within (length names) W e
  entry_within some h =
      let l = lines_of h in
      let f = ranged_past r p (first_key spans) 11 13 0 (W - 1) l.first_line in
      let t = last_order spans W r l.first l.second l.last_tick_lem (omega (arith, f.2)) in
      subst (Within (length names) W) l.is (record { signal = (known_past names r l.third l.signal_line_lem).1; order = t.0; ticks = t.1 })
