-- Demand 2: after an accepted add a mark stands in the table exactly if a finite chain of the published inference rules leads to it.
-- `Added` says so; here is what follows from it, and what makes it true. Assumes a window of at least one tick where tables are compared.
use mathlib.Core.Path.{◌≡◌, refl, sym, ◌∙◌}
use mathlib.Core.Bool.{true}
use mathlib.Core.List.Memᴰ
use mathlib.Core.List.{List, [], Memᴰ}
use mathlib.Core.Logic.{inl, inr}
use Prim.Native.Nat.{ℕ, ◌≤◌, ◌<◌}
use native.Mathlib.Omega.{arith}
use lib.ListN.{length}
use Rattle.spec_ticks.specs.Ticks.{Small}
use Rattle.spec_ticks.proofs.Tables.{same_table, tally_grows}
use Rattle.spec_tilco.specs.Lists.{All}
use Rattle.spec_tilco.specs.Formula.{Sheet}
use Rattle.spec_tilco.specs.Inference.{Mark, mark, start, node, ◌or◌}
use Rattle.spec_tilco.specs.Lowering.{program}
use Rattle.spec_tilco.specs.Table.{words, Standing, Inside, facts_of, ReadMarks, InRange, Leads, Added}
use Rattle.spec_tilco.proofs.Lists.{all_at}
use Rattle.spec_tilco.proofs.Derives.{cut, monotone, stays_inside}
use Rattle.spec_tilco.proofs.Closing.{SettledAt, finished}

pub words_some : (W : ℕ) → 1 ≤ W → 1 ≤ words W
unfolding words
words_some W h = omega arith

module _ (s : Sheet) where
  -- Two tables of one length with the same marks are one.
  pub marks_tell : 1 ≤ s.window → (T U : List ℕ) → length T ≡ length U → Small 64 T → Small 64 U
      → ((m : Mark) → Standing s T m → Standing s U m) → ((m : Mark) → Standing s U m → Standing s T m) → T ≡ U
  marks_tell some T U e st su f g =
      same_table (words s.window) (words_some s.window some) 64 T U e st su (λ r t v. f (mark r t v)) (λ r t v. g (mark r t v))

  -- Two tables that meet the promise of add for one table and the same readings are equal.
  pub added_one : 1 ≤ s.window → {T U U' : List ℕ} {R : List Mark} → Added s T R U → Added s T R U' → U ≡ U'
  added_one some {U = U} {U'} A B =
      marks_tell some U U' (A.size ∙ sym B.size) A.small B.small
      (λ m i. (B.exactly m).1 ((A.exactly m).0 i)) (λ m i. (A.exactly m).1 ((B.exactly m).0 i))

  -- What stood before stands after, and so does every reading.
  pub added_keeps : {T U : List ℕ} {R : List Mark} → Added s T R U → (m : Mark) → ◌or◌ (Standing s T) (ReadMarks R) m → Standing s U m
  added_keeps A m i = (A.exactly m).1 (start i)

  -- The table made is closed: the rules lead to nothing more.
  pub added_closed : {T U : List ℕ} {R : List Mark} → Added s T R U → (m : Mark) → Leads s (Standing s U) m → Standing s U m
  added_closed A m d = (A.exactly m).1 (cut (λ n i. (A.exactly n).0 i) d)

  -- Adding the same readings again changes nothing.
  pub added_again : {T U : List ℕ} {R : List Mark} → Added s T R U → Added s U R U
  added_again {T} {U} {R} A = record { size = refl; small = A.small; exactly = λ m. (λ i. start (inl i), λ d. added_closed A m (monotone stood d)) }
    where
      stood : (n : Mark) → ◌or◌ (Standing s U) (ReadMarks R) n → Standing s U n
      stood n (inl i) = i
      stood n (inr i) = added_keeps A n (inr i)

  -- No fact is lost.
  pub added_facts : 1 ≤ s.window → {T U : List ℕ} {R : List Mark} → Small 64 T → Added s T R U → facts_of s T ≤ facts_of s U
  added_facts some {T} {U} small A =
      tally_grows (words s.window) (words_some s.window some) 64 s.signals T U small (λ r t v l i. added_keeps A (mark r t v) (inl i))

  -- No mark leaves the window.
  pub added_inside : {T U : List ℕ} {R : List Mark} → Inside s.window (Standing s T) → All (InRange s) R → Added s T R U → Inside s.window (Standing s U)
  added_inside {T} {U} {R} f read A r t v i = stays_inside begun r t v ((A.exactly (mark r t v)).0 i)
    where
      begun : Inside s.window (◌or◌ (Standing s T) (ReadMarks R))
      begun q u w (inl j) = f q u w j
      begun q u w (inr j) = (all_at (InRange s) R read (mark q u w) j).1

  -- What a closing loop has to show of its last table U: all of it is derived, the start and the tops stand in it, and each row is settled.
  pub finished_added : (T : List ℕ) (R : List Mark) (U : List ℕ) → length U ≡ length T → Small 64 U
      → ((m : Mark) → Standing s U m → Leads s (◌or◌ (Standing s T) (ReadMarks R)) m)
      → ((m : Mark) → ◌or◌ (Standing s T) (ReadMarks R) m → Standing s U m)
      → ((r : ℕ) → Memᴰ r (program s).tops → (t : ℕ) → t < s.window → Standing s U (mark r t true))
      → ((r : ℕ) → r < length (program s).rows → SettledAt s.window (Standing s U) r (node (program s) r))
      → Added s T R U
  finished_added T R U size small only begun tops settled = record {
    size = size;
    small = small;
    exactly = finished (program s) s.window (Standing s U) (◌or◌ (Standing s T) (ReadMarks R)) only begun tops settled;
  }

  -- Where the readings were put into the table first, and nothing else: adding none to that table is adding them.
  pub added_from : (T T₁ : List ℕ) (R : List Mark) {U : List ℕ} → length T₁ ≡ length T
      → ((m : Mark) → Standing s T₁ m → ◌or◌ (Standing s T) (ReadMarks R) m) → ((m : Mark) → ◌or◌ (Standing s T) (ReadMarks R) m → Standing s T₁ m)
      → Added s T₁ [] U → Added s T R U
  added_from T T₁ R e f g A = record {
    size = A.size ∙ e;
    small = A.small;
    exactly = λ m. (λ i. monotone down ((A.exactly m).0 i), λ d. (A.exactly m).1 (monotone (λ n i. inl (g n i)) d));
  }
    where
      down : (m : Mark) → ◌or◌ (Standing s T₁) (ReadMarks []) m → ◌or◌ (Standing s T) (ReadMarks R) m
      down m (inl i) = f m i
      down m (inr i) = absurd (Memᴰ.not-nil i)
