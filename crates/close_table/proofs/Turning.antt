-- The words of the list that a round has gone over: those of one word of ticks in turn, and word of ticks by word of ticks. Assumes nothing.
use mathlib.Core.Path.{◌≡◌, sym, ap, ◌∙◌}
use mathlib.Core.Bool.{Bool, true, false}
use mathlib.Core.List.{List}
use mathlib.Core.Logic.{◌⊎◌, inl, inr, ⊎_elim}
use Prim.Native.Nat.{ℕ, ◌+◌, ◌*◌, ◌<◌}
use native.Mathlib.Omega.{arith}
use Rattle.spec_ticks.proofs.Bits.{lt_or_ge}
use Rattle.close_list.specs.Items.{per}
use Rattle.close_word.specs.VisitSeries.{WorksList, OneWord}
use Rattle.close_word.proofs.Working.{works_none, works_as, works_then}
use Rattle.close_table.specs.Rounds.{InColumn, InColumns, turn}

-- The words up and the words down are the same words.
pub turn_below : (up : Bool) (m i : ℕ) → i < m → turn up m i < m
turn_below true m i l = l
turn_below false m i l = omega arith

turn_back : (up : Bool) (m i j : ℕ) → i < m → j < m → turn up m j ≡ i → j ≡ turn up m i
turn_back true m i j l h e = e
turn_back false m i j l h e = omega arith

module _ (count : ℕ) (B : List ℕ) (W n : ℕ) where
  -- Of the words for word q of ticks those before the m-th, up or down.
  abbrev pub Turned : Bool → ℕ → ℕ → ℕ → Type 0
  Turned up q m j = (i : ℕ) × (i < per count) × (j ≡ q * per count + i) × (turn up (per count) i < m)

  pub turned_none : (up : Bool) (q : ℕ) (T D : List ℕ) → WorksList count B W n (Turned up q 0) T T D D
  turned_none up q T D = works_none count B W n (Turned up q 0) T D (λ j h. absurd (omega (arith, h.3)))

  pub turned_more : (up : Bool) (q m k : ℕ) {T T' T'' D D' D'' : List ℕ} → m < per count → k ≡ turn up (per count) m → WorksList count B W n (Turned up q m) T T' D D'
      → WorksList count B W n (OneWord (q * per count + k)) T' T'' D' D'' → WorksList count B W n (Turned up q (m + 1)) T T'' D D''
  turned_more up q m k l is a b = works_then count B W n (Turned up q m) (OneWord (q * per count + k)) (Turned up q (m + 1)) among a b
    where
      among : (j : ℕ) → Turned up q (m + 1) j → Turned up q m j ⊎ OneWord (q * per count + k) j
      among j h =
          ⊎_elim (λ g. inl (h.0, h.1, h.2, g))
          (λ g. inr (h.2 ∙ ap (λ (i : ℕ). q * per count + i) (turn_back up (per count) m h.0 l h.1 (omega (arith, h.3)) ∙ sym is))) (lt_or_ge (turn up (per count) h.0) m)

  pub turned_all : (up : Bool) (q : ℕ) {T T' D D' : List ℕ} → WorksList count B W n (Turned up q (per count)) T T' D D' → WorksList count B W n (InColumn count q) T T' D D'
  turned_all up q a = works_as count B W n (Turned up q (per count)) (InColumn count q) (λ j h. (h.0, h.1, h.2, turn_below up (per count) h.0 h.1)) a

  pub columns_none : (T D : List ℕ) → WorksList count B W n (InColumns count 0) T T D D
  columns_none T D = works_none count B W n (InColumns count 0) T D (λ j h. absurd (omega (arith, h.1)))

  pub columns_more : (m : ℕ) {T T' T'' D D' D'' : List ℕ} → WorksList count B W n (InColumns count m) T T' D D' → WorksList count B W n (InColumn count m) T' T'' D' D''
      → WorksList count B W n (InColumns count (m + 1)) T T'' D D''
  columns_more m a b = works_then count B W n (InColumns count m) (InColumn count m) (InColumns count (m + 1)) among a b
    where
      among : (j : ℕ) → InColumns count (m + 1) j → InColumns count m j ⊎ InColumn count m j
      among j h =
          ⊎_elim (λ g. inl (h.0, g, h.2)) (λ g. let e : h.0 ≡ m = omega (arith, h.1) in inr (h.2.0, h.2.1, h.2.2 ∙ ap (λ (q : ℕ). q * per count + h.2.0) e)) (lt_or_ge h.0 m)
