-- The marks of a span, and of spans: which they are.
-- Assumes nothing.
use mathlib.Core.Path.{◌≡◌, refl, sym, ap, ◌∙◌}
use mathlib.Core.Bool.{Bool}
use mathlib.Core.List.Memᴰ
use mathlib.Core.List.{List, [], ◌∷◌, ◌++◌, append_assoc, flatten, Memᴰ}
use mathlib.Core.Logic.{◌⊎◌, inl, inr, ⊎_elim, ◌↔◌}
use Prim.Native.Nat.{ℕ, zero, suc, ◌+◌, ◌-◌, ◌<◌, ◌≤◌}
use native.Mathlib.Omega.{arith}
use native.Mathlib.Decide.{dec_lt}
use Rattle.spec_tilco.specs.Inference.{Mark, mark}
use Rattle.spec_tilco.specs.Table.{ReadMarks}
use Rattle.read_reading.specs.Spans.{Span, marks_from, marks_of, marks_of_all}

-- The span has this mark: its signal, its value, and a tick from its first to its last.
abbrev pub Covers : Span → ℕ → ℕ → Bool → Type 0
Covers e x t v = (x ≡ e.signal) × (v ≡ e.value) × (e.first ≤ t) × (t ≤ e.last)

-- ---- one span

-- The marks at n ticks from s on are those at a tick from s to s + n - 1.
from_covers : (y : ℕ) (u : Bool) (s n : ℕ) {x t : ℕ} {v : Bool} → ReadMarks (marks_from y u s n) (mark x t v) → (x ≡ y) × (v ≡ u) × (s ≤ t) × (t < s + n)
unfolding marks_from
from_covers y u s zero i = absurd (Memᴰ.not-nil i)
from_covers y u s (suc n) {x} {t} {v} i = ⊎_elim here (λ j. later (from_covers y u (s + 1) n j)) (Memᴰ.cases_cons i)
  where
    here : mark x t v ≡ mark y s u → (x ≡ y) × (v ≡ u) × (s ≤ t) × (t < s + suc n)
    here e = let at : t ≡ s = cc in (cc, cc, omega arith, omega arith)

    later : (x ≡ y) × (v ≡ u) × (s + 1 ≤ t) × (t < s + 1 + n) → (x ≡ y) × (v ≡ u) × (s ≤ t) × (t < s + suc n)
    later c = (c.0, c.1, omega arith, omega arith)

covers_from : (y : ℕ) (u : Bool) (s n : ℕ) {x t : ℕ} {v : Bool} → x ≡ y → v ≡ u → s ≤ t → t < s + n → ReadMarks (marks_from y u s n) (mark x t v)
unfolding marks_from
covers_from y u s zero a b l h = absurd (omega arith)
covers_from y u s (suc n) {x} {t} {v} a b l h = go (dec_lt s t) (λ k. covers_from y u (s + 1) n a b k (omega arith))
  where
    go : Dec (s < t) → (s + 1 ≤ t → ReadMarks (marks_from y u (s + 1) n) (mark x t v)) → ReadMarks (mark y s u ∷ marks_from y u (s + 1) n) (mark x t v)
    go (yes k) f = Memᴰ.tail (f (omega arith))
    go (no k) f = let at : t ≡ s = omega arith in Memᴰ.head {x = mark y s u} (cc)

-- A mark of a span is one that it covers,
pub of_span : (e : Span) {x t : ℕ} {v : Bool} → ReadMarks (marks_of e) (mark x t v) → Covers e x t v
unfolding marks_of
of_span e i = let c = from_covers e.signal e.value e.first (e.last + 1 - e.first) i in (c.0, c.1, c.2, omega (arith, c.2, c.3))

-- and each that it covers is one of its marks.
pub in_span : (e : Span) {x t : ℕ} {v : Bool} → Covers e x t v → ReadMarks (marks_of e) (mark x t v)
unfolding marks_of
in_span e c = covers_from e.signal e.value e.first (e.last + 1 - e.first) c.0 c.1 c.2 (omega (arith, c.2, c.3))

pub span_marks : (e : Span) (x t : ℕ) (v : Bool) → ReadMarks (marks_of e) (mark x t v) ↔ ((x ≡ e.signal) × (v ≡ e.value) × (e.first ≤ t) × (t ≤ e.last))
span_marks e x t v = (of_span e, in_span e)

-- ---- spans

-- The marks of spans with one in front, and of spans after spans.
pub marks_of_cons : (e : Span) (es : List Span) → marks_of_all (e ∷ es) ≡ marks_of e ++ marks_of_all es
unfolding marks_of_all flatten
marks_of_cons e es = refl

pub marks_of_append : (es ds : List Span) → marks_of_all (es ++ ds) ≡ marks_of_all es ++ marks_of_all ds
unfolding marks_of_all flatten
marks_of_append [] ds = refl
marks_of_append (e ∷ es) ds = ap (λ (ms : List Mark). marks_of e ++ ms) (marks_of_append es ds) ∙ sym (append_assoc (marks_of e) (marks_of_all es) (marks_of_all ds))

-- No spans have no mark.
pub in_none : {m : Mark} → ReadMarks (marks_of_all []) m → ⊥
unfolding marks_of_all flatten
in_none i = Memᴰ.not-nil i

-- The mark is one of a span's among them.
pub record InOne (es : List Span) (m : Mark) : Type 0 where
  pub entry : Span
  pub among : Memᴰ entry es
  pub marked : ReadMarks (marks_of entry) m

-- A mark is one of the spans' exactly if it is one of a span's among them.
pub in_one : (es : List Span) {m : Mark} → ReadMarks (marks_of_all es) m → InOne es m
unfolding marks_of_all flatten
in_one [] i = absurd (Memᴰ.not-nil i)
in_one (e ∷ es) i =
    ⊎_elim (λ j. record { entry = e; among = Memᴰ.head refl; marked = j })
    (λ j. let x = in_one es j in record { entry = x.entry; among = Memᴰ.tail x.among; marked = x.marked })
    (Memᴰ.append_cases (marks_of e) i)

pub one_in : (es : List Span) {e : Span} {m : Mark} → Memᴰ e es → ReadMarks (marks_of e) m → ReadMarks (marks_of_all es) m
unfolding marks_of_all flatten
one_in [] i j = absurd (Memᴰ.not-nil i)
one_in (d ∷ es) {e} {m} i j = go (Memᴰ.cases_cons i) (λ k. one_in es k j)
  where
    go : (e ≡ d) ⊎ Memᴰ e es → (Memᴰ e es → ReadMarks (marks_of_all es) m) → ReadMarks (marks_of d ++ marks_of_all es) m
    go (inl a) f = Memᴰ.append_left (marks_of_all es) (rw a at j)
    go (inr k) f = Memᴰ.append_right (marks_of d) (f k)

-- Of a span and spans, and of spans and spans: it is of the one or of the other.
pub in_cons : (e : Span) (es : List Span) {m : Mark} → ReadMarks (marks_of_all (e ∷ es)) m ↔ (ReadMarks (marks_of e) m ⊎ ReadMarks (marks_of_all es) m)
unfolding marks_of_all flatten
in_cons e es = (Memᴰ.append_cases (marks_of e), ⊎_elim (Memᴰ.append_left (marks_of_all es)) (Memᴰ.append_right (marks_of e)))

pub in_append : (es ds : List Span) {m : Mark} → ReadMarks (marks_of_all (es ++ ds)) m ↔ (ReadMarks (marks_of_all es) m ⊎ ReadMarks (marks_of_all ds) m)
in_append es ds = (
  λ i. Memᴰ.append_cases (marks_of_all es) (rw (marks_of_append es ds) at i),
  λ i. rw (marks_of_append es ds) (⊎_elim (Memᴰ.append_left (marks_of_all ds)) (Memᴰ.append_right (marks_of_all es)) i),
)
