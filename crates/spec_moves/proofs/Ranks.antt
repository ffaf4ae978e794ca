-- The marks of entries as pairs of numbers, the rank of their row and their tick: what the order of entries speaks of.
-- Assumes nothing.
use mathlib.Core.Path.{◌≡◌, refl, ap, subst}
use mathlib.Core.Bool.{Bool, true, false}
use mathlib.Core.List.Memᴰ
use mathlib.Core.List.{List, [], ◌∷◌, Memᴰ}
use mathlib.Core.Logic.{⊎_elim}
use Prim.Native.Nat.{ℕ, ◌+◌, ◌*◌, ◌≤◌}
use native.Mathlib.Omega.{arith}
use Rattle.spec_tilco.specs.Inference.{Mark, mark}
use Rattle.spec_tilco.specs.Table.{ReadMarks}
use Rattle.write_lines.specs.LineTexts.{one_if}
use Rattle.read_reading.specs.Spans.{Span, marks_of, marks_of_all}
use Rattle.read_reading.proofs.SpanMarks.{of_span, in_span, in_none, in_cons, one_in}
use Rattle.spec_moves.specs.InOrder.{rank, SameMarks}

-- The rank of a mark's row.
abbrev pub rank_of : ℕ → Bool → ℕ
rank_of x v = 2 * x + one_if v

-- The entry has the tick t of the row with rank r.
pub record Has (e : Span) (r t : ℕ) : Type 0 where
  pub row : rank e ≡ r
  pub starts : e.first ≤ t
  pub ends : t ≤ e.last

-- One of the entries has it.
pub data Marked (r t : ℕ) : List Span → Type 0 where
  here : {e : Span} {es : List Span} → Has e r t → Marked r t (e ∷ es)
  later : {e : Span} {es : List Span} → Marked r t es → Marked r t (e ∷ es)

pub not_marked : {r t : ℕ} → Marked r t [] → ⊥
not_marked m = elim m [ ]

-- Each mark of the one list is one of the other.
abbrev pub MarksIn : List Span → List Span → Type 0
MarksIn es ds = (r t : ℕ) → Marked r t es → Marked r t ds

-- ---- a rank tells the signal and the value

pub rank_value : (x y : ℕ) (v u : Bool) → rank_of x v ≡ rank_of y u → v ≡ u
rank_value x y true true e = refl
rank_value x y true false e = absurd (omega arith)
rank_value x y false true e = absurd (omega arith)
rank_value x y false false e = refl

pub rank_signal : (x y : ℕ) (v u : Bool) → rank_of x v ≡ rank_of y u → x ≡ y
rank_signal x y v u e = omega (arith, ap one_if (rank_value x y v u e))

-- ---- from marks to pairs and back

-- A mark of the entries is a pair that one of them has.
pub to_rank : (es : List Span) {x t : ℕ} {v : Bool} → ReadMarks (marks_of_all es) (mark x t v) → Marked (rank_of x v) t es
to_rank [] i = absurd (in_none i)
to_rank (e ∷ es) {x} {t} {v} i = ⊎_elim (λ j. here (has j)) (λ j. later (to_rank es j)) ((in_cons e es).0 i)
  where
    has : ReadMarks (marks_of e) (mark x t v) → Has e (rank_of x v) t
    has j = let c = of_span e j in record { row = omega (arith, c.0, ap one_if c.1); starts = c.2; ends = c.3 }

-- A tick that an entry has is one of the marks.
pub entry_mark : (es : List Span) {e : Span} {r t : ℕ} → Memᴰ e es → Has e r t → ReadMarks (marks_of_all es) (mark e.signal t e.value)
entry_mark es {e} i h = one_in es i (in_span e (refl, refl, h.starts, h.ends))

-- The entry that has the tick.
pub record Holder (es : List Span) (r t : ℕ) : Type 0 where
  pub entry : Span
  pub among : Memᴰ entry es
  pub has : Has entry r t

pub holder : {r t : ℕ} {es : List Span} → Marked r t es → Holder es r t
holder (here {e} h) = record { entry = e; among = Memᴰ.head refl; has = h }
holder (later m) = let k = holder m in record { entry = k.entry; among = Memᴰ.tail k.among; has = k.has }

-- What one of the entries has is marked.
pub entry_marked : (es : List Span) {e : Span} {r t : ℕ} → Memᴰ e es → Has e r t → Marked r t es
entry_marked [] i h = absurd (Memᴰ.not-nil i)
entry_marked (d ∷ es) {e} {r} {t} i h = ⊎_elim (λ x. here (subst (λ (c : Span). Has c r t) x h)) (λ j. later (entry_marked es j h)) (Memᴰ.cases_cons i)

-- A pair that one of the entries has is a mark of theirs.
pub of_rank : (es : List Span) {x t : ℕ} {v : Bool} → Marked (rank_of x v) t es → ReadMarks (marks_of_all es) (mark x t v)
of_rank es {x} {t} {v} m =
    let k = holder m in
    let a = rank_signal k.entry.signal x k.entry.value v k.has.row in
    let b = rank_value k.entry.signal x k.entry.value v k.has.row in
    rw (a, b) at (entry_mark es k.among k.has)

-- The same marks are the same pairs, and the other way round.
pub same_ranks : (es ds : List Span) → SameMarks (marks_of_all es) (marks_of_all ds) → MarksIn es ds
same_ranks es ds s r t m =
    let k = holder m in
    subst (λ (q : ℕ). Marked q t ds) k.has.row (to_rank ds ((s (mark k.entry.signal t k.entry.value)).0 (entry_mark es k.among k.has)))

pub ranks_same : (es ds : List Span) → MarksIn es ds → MarksIn ds es → SameMarks (marks_of_all es) (marks_of_all ds)
ranks_same es ds f g (mark x t v) = (λ i. of_rank ds (f (rank_of x v) t (to_rank es i)), λ i. of_rank es (g (rank_of x v) t (to_rank ds i)))

-- ---- same marks, the other way round and from one list to the next

pub same_back : {ms ns : List Mark} → SameMarks ms ns → SameMarks ns ms
same_back s m = ((s m).1, (s m).0)

pub same_on : {ls ms ns : List Mark} → SameMarks ls ms → SameMarks ms ns → SameMarks ls ns
same_on s z m = (λ i. (z m).0 ((s m).0 i), λ i. (s m).1 ((z m).1 i))
