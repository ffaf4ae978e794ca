-- The entries and the marks of accepted readings: each is of a declared signal at ticks of the window, and the table has room for it.
-- Assumes a window of at least one tick.
use mathlib.Core.Path.{◌≡◌, refl, subst}
use mathlib.Core.Bool.{Bool, true, false}
use mathlib.Core.Logic.{⊎_elim}
use mathlib.Core.List.{List, [], ◌∷◌, ◌++◌}
use Prim.Native.Nat.{ℕ, zero, suc, ◌+◌, ◌*◌, ◌<◌, ◌≤◌}
use native.Mathlib.Nat.{mul-le-mul_right}
use native.Mathlib.Omega.{arith}
use lib.Dec.{ltb}
use lib.ListN.{length}
use Rattle.read_bytes.specs.Read.{Read}
use Rattle.read_bytes.specs.Read.Read.{got}
use Rattle.read_lines.specs.Lines.{up_to}
use Rattle.read_bytes.proofs.Answers.{same_value, came}
use Rattle.read_index.specs.Index.{name_count, names_in}
use Rattle.read_index.proofs.Places.{names_in_many}
use Rattle.spec_tilco.specs.Formula.{Sheet}
use Rattle.spec_tilco.specs.Inference.{Mark, mark}
use Rattle.spec_tilco.specs.Lists.{All}
use Rattle.spec_tilco.specs.Table.{Stands, ReadMarks, InRange, Inside}
use Rattle.spec_tilco.proofs.Lists.{all_append, all_of_lem, all_at, all_weaker}
use Rattle.table_marks.specs.Puts.{Puts}
use Rattle.read_reading.specs.Spans.{Span, marks_of_all}
use Rattle.read_reading.specs.OneEntry.{entry}
use Rattle.read_readings.specs.Readings.{in_spans, entries, readings}
use Rattle.read_readings.specs.SpanNumbers.{SpanRoom}
use Rattle.read_reading.proofs.SpanMarks.{in_one, of_span}
use Rattle.read_reading.proofs.Lines.{Within, entry_within}
use Rattle.read_readings.proofs.Turns.{entries_every, readings_entered}

-- What holds of each part that P reads holds of all that are read up to an end.
up_all : {A : Type 0} (Q : A → Type 0) (P : ℕ → Read A) (end : ℕ) → ((p : ℕ) (a : A) (q : ℕ) → P p ≡ got a q → Q a)
    → (n : ℕ) (t : List A) (p : ℕ) {u : List A} {q : ℕ} → All Q t → up_to P end n t p ≡ got u q → All Q u
unfolding up_to
up_all Q P end part zero t p h e = subst (All Q) (same_value e) h
up_all {A} Q P end part (suc n) t p {u} {q} h e = go (ltb p end) refl (λ t' p' i f. up_all Q P end part n t' p' i f)
  where
    go : (b : Bool) → ltb p end ≡ b → ((t' : List A) (p' : ℕ) → All Q t' → up_to P end n t' p' ≡ got u q → All Q u) → All Q u
    go true l r =
        let d = came (P p) (λ a x. up_to P end n (t ++ (a ∷ [])) x) (rw l at e) in
        r (t ++ (d.value ∷ [])) d.place (all_append Q t (d.value ∷ []) h (part p d.value d.place d.first, tt)) d.then
    go false l r = subst (All Q) (same_value (rw l at e)) h

-- Every entry of an accepted text is of one of the names, at ticks of the window.
pub entries_within : (names : List (List ℕ)) (W : ℕ) (r : List ℕ) {es : List Span} {q : ℕ} → 1 ≤ W → entries names W r ≡ got es q → All (Within (length names) W) es
entries_within names W r some e =
    up_all (Within (length names) W) (entry (in_spans r) names W r) (length r) (λ p m q f. entry_within (in_spans r) names W r p some f)
    (length r) [] 0 tt (entries_every names W r e)

-- The mark is of one of k signals at a tick of the window W.
abbrev pub MarkWithin : ℕ → ℕ → Mark → Type 0
MarkWithin k W (mark x t v) = (x < k) × (t < W)

-- So is every mark of the entries.
marks_within : (k W : ℕ) (es : List Span) → All (Within k W) es → (m : Mark) → ReadMarks (marks_of_all es) m → MarkWithin k W m
marks_within k W es a (mark x t v) i =
    let j = in_one es i in
    let w = all_at (Within k W) es a j.entry j.among in
    let c = of_span j.entry j.marked in
    (omega (arith, c.0, w.signal), omega (arith, c.3, w.ticks))

-- Every mark of accepted readings is of one of the names at a tick of the window.
pub readings_within : (names : List (List ℕ)) (W : ℕ) (r : List ℕ) {ms : List Mark} {q : ℕ} → 1 ≤ W → readings names W r ≡ got ms q → All (MarkWithin (length names) W) ms
readings_within names W r some e =
    let d = readings_entered names W r e in
    subst (All (MarkWithin (length names) W)) d.marks
    (all_of_lem (MarkWithin (length names) W) (marks_of_all d.list) (marks_within (length names) W d.list (entries_within names W r some d.reads)))

-- So each is a reading of a sheet that has this window and these names.
pub readings_of_sheet : (s : Sheet) (names : List (List ℕ)) (r : List ℕ) {ms : List Mark} {q : ℕ} → 1 ≤ s.window → length names ≡ s.signals
    → readings names s.window r ≡ got ms q → All (InRange s) ms
readings_of_sheet s names r {ms} some k e =
    all_weaker (MarkWithin (length names) s.window) (InRange s) of_sheet ms (readings_within names s.window r some e)
  where
    of_sheet : (m : Mark) → MarkWithin (length names) s.window m → InRange s m
    of_sheet (mark x t v) h = (omega (arith, h.0), h.1)

-- A table with no mark outside the window has none after such marks are put.
pub puts_inside : (k W n : ℕ) {ms : List Mark} {T T' : List ℕ} → All (MarkWithin k W) ms → Inside W (Stands n T) → Puts n ms T T' → Inside W (Stands n T')
puts_inside k W n {ms} a i p =
    λ r t v m. ⊎_elim (i r t v) (λ x. (all_at (MarkWithin k W) ms a (mark r t v) x).1) ((p.exactly (mark r t v)).0 m)

-- A table with room for a declared signal's row has room for each of the entries.
pub entries_room : (s T : List ℕ) (W n m : ℕ) (r : List ℕ) {es : List Span} {q : ℕ} → 1 ≤ W → W ≤ 64 * n → 2 * name_count T * n ≤ m
    → entries (names_in s T) W r ≡ got es q → All (SpanRoom n m) es
entries_room s T W n m r {es} some h l e =
    all_weaker (Within (length (names_in s T)) W) (SpanRoom n m) room_for es (entries_within (names_in s T) W r some e)
  where
    room_for : (d : Span) → Within (length (names_in s T)) W d → SpanRoom n m d
    room_for d i =
        let b : 2 * (d.signal + 1) * n ≤ 2 * name_count T * n = mul-le-mul_right n (omega (arith, names_in_many s T, i.signal)) in
        record { order = i.order; ticks = omega (arith, i.ticks); row = omega arith }
