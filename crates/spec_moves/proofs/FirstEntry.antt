-- The first of entries in order: no mark comes before its first tick, and no other entry has a mark that it has.
-- Assumes nothing. The laws are over the gap, the ticks that have to be between two entries of one row; r and t are a mark's rank and tick.
use mathlib.Core.Path.{◌≡◌, refl}
use mathlib.Core.List.{List, ◌∷◌}
use mathlib.Core.Logic.{◌⊎◌, inl, inr}
use Prim.Native.Nat.{ℕ, ◌+◌, ◌<◌, ◌≤◌}
use native.Mathlib.Omega.{arith}
use native.Mathlib.Decide.{dec_lt}
use Rattle.spec_tilco.specs.Lists.{All}
use Rattle.read_reading.specs.Spans.{Span}
use Rattle.spec_moves.specs.InOrder.{rank, Before}
use Rattle.spec_moves.proofs.Ranks.{Has, Marked, here, later}

-- An entry has its first tick.
pub has_first : (e : Span) → e.first ≤ e.last → Has e (rank e) e.first
has_first e o = record { row = refl; starts = omega arith; ends = o }

-- The tick t of the row with rank r comes after e: in a later row, or in its row and more than `gap` ticks after its last.
pub data Past (gap : ℕ) (e : Span) (r t : ℕ) : Type 0 where
  next_row : rank e < r → Past gap e r t
  same_row : rank e ≡ r → e.last + gap < t → Past gap e r t

-- So does each tick of an entry that comes after e,
past : (gap : ℕ) (e d : Span) {r t : ℕ} → Before gap e d → Has d r t → Past gap e r t
past gap e d (inl l) h = next_row (omega (arith, h.row))
past gap e d (inr k) h = same_row (omega (arith, h.row, k.0)) (omega (arith, h.starts, k.1))

-- and each mark of the entries after it,
pub later_past : (gap : ℕ) (e : Span) (es : List Span) {r t : ℕ} → All (Before gap e) es → Marked r t es → Past gap e r t
later_past gap e mathlib.Core.List.[] {r = r} {t = t} a x'' = elim x'' [ ]
later_past gap e (d ∷ es) a (here h) = past gap e d a.0 h
later_past gap e (d ∷ es) a (later m) = later_past gap e es a.1 m

-- but none of its own.
pub not_past : (gap : ℕ) (e : Span) {r t : ℕ} → Has e r t → Past gap e r t → ⊥
not_past gap e h (next_row l) = omega (arith, h.row)
not_past gap e h (same_row k l) = omega (arith, h.ends)

-- The tick t of the row with rank r does not come before e's first.
abbrev pub NotBefore : Span → ℕ → ℕ → Type 0
NotBefore e r t = (rank e < r) ⊎ ((rank e ≡ r) × (e.first ≤ t))

-- No mark comes before the first entry's first tick,
pub from_first : (gap : ℕ) (e : Span) (es : List Span) {r t : ℕ} → e.first ≤ e.last → All (Before gap e) es → Marked r t (e ∷ es) → NotBefore e r t
from_first gap e es {r} {t} o a m = go m
  where
    beyond : Past gap e r t → NotBefore e r t
    beyond (next_row l) = inl l
    beyond (same_row k l) = inr (k, omega arith)

    go : Marked r t (e ∷ es) → NotBefore e r t
    go (here h) = inr (h.row, h.starts)
    go (later x) = beyond (later_past gap e es a x)

-- and the tick after its last is not marked, where a tick has to be between.
pub not_after : (e : Span) (es : List Span) → All (Before 1 e) es → Marked (rank e) (e.last + 1) (e ∷ es) → ⊥
not_after e es a m = go m
  where
    none : Past 1 e (rank e) (e.last + 1) → ⊥
    none (next_row l) = omega arith
    none (same_row k l) = omega arith

    go : Marked (rank e) (e.last + 1) (e ∷ es) → ⊥
    go (here h) = omega (arith, h.ends)
    go (later x) = none (later_past 1 e es a x)

-- Where a tick has to be between, an entry that starts inside e, in its row, and has only marks of e's list, ends inside it.
pub ends_inside : (e d : Span) (es : List Span) → rank d ≡ rank e → d.first ≤ e.last → All (Before 1 e) es
    → ((t : ℕ) → Has d (rank e) t → Marked (rank e) t (e ∷ es)) → d.last ≤ e.last
ends_inside e d es r l a f = go (dec_lt e.last d.last)
  where
    go : Dec (e.last < d.last) → d.last ≤ e.last
    go (yes k) = absurd (not_after e es a (f (e.last + 1) (record { row = r; starts = omega arith; ends = omega arith })))
    go (no k) = omega arith
