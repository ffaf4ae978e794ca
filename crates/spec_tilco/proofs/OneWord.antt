-- For a window of 1 to 64 ticks a row has one word for each value: the table is the one of before E9, word for word, in 01's own sentences.
-- Assumes nothing.
use mathlib.Core.Path.{◌≡◌, sym, subst}
use mathlib.Core.Bool.{Bool, true, false}
use mathlib.Core.List.{List}
use mathlib.Core.Logic.Iff
use mathlib.Core.Logic.{◌↔◌, inl, inr, ⊎_elim}
use Prim.Native.Nat.{ℕ, ◌+◌, ◌*◌, ◌<◌, ◌≤◌}
use native.Mathlib.Omega.{arith}
use lib.ListN.{get_or}
use Rattle.spec_ticks.specs.Ticks.{bit, Has, block, Small}
use Rattle.spec_ticks.proofs.Bits.{has_below}
use Rattle.spec_ticks.proofs.Tables.{in_to, in_from}
use Rattle.spec_tilco.specs.Formula.{Sheet}
use Rattle.spec_tilco.specs.Inference.{Mark, mark, ◌or◌}
use Rattle.spec_tilco.specs.Table.{words, Stands, Standing, table_words, ReadMarks, Leads, Added}
use Rattle.spec_tilco.specs.FormerTable.{FormerStands, former_words, FormerAdded}
use Rattle.spec_tilco.proofs.Derives.{monotone}

-- In a table of one word a row and value a mark stands exactly if its bit is set, in the word at place i.
one_stands : (T : List ℕ) (r t i : ℕ) (v : Bool) → t < 64 → i ≡ block r v → Stands 1 T (mark r t v) ↔ (bit (get_or T i 0) t ≡ 1)
one_stands T r t i v h e = (
  λ k. subst (λ (j : ℕ). Has (get_or T j 0) t) place (in_from 64 1 T (block r v * 1) 0 t t h (omega arith) k),
  λ k. in_to 64 1 T (block r v * 1) 0 t t h (omega arith) (omega arith) (subst (λ (j : ℕ). Has (get_or T j 0) t) (sym place) k),
)
  where
    place : block r v * 1 + 0 ≡ i
    place = omega arith

module _ (s : Sheet) (some : 1 ≤ s.window) (most : s.window ≤ 64) where
  pub one_word : words s.window ≡ 1
  unfolding words
  one_word = omega arith

  -- A mark at a tick of a word stands exactly if its bit is set.
  pub standing_bit : (T : List ℕ) (r t i : ℕ) (v : Bool) → t < 64 → i ≡ block r v → Standing s T (mark r t v) ↔ (bit (get_or T i 0) t ≡ 1)
  standing_bit T r t i v h e = subst (λ (n : ℕ). Stands n T (mark r t v) ↔ (bit (get_or T i 0) t ≡ 1)) (sym one_word) (one_stands T r t i v h e)

  of_bit : (T : List ℕ) → Small 64 T → (r t i : ℕ) (v : Bool) → i ≡ block r v → Standing s T (mark r t v) ↔ Has (get_or T i 0) t
  of_bit T small r t i v e = (
    λ k. (standing_bit T r t i v (omega (arith, k.within, one_word)) e).0 k,
    λ k. (standing_bit T r t i v (has_below (get_or T i 0) 64 t (small i) k) e).1 k,
  )

  -- In words of 64 bits a mark stands exactly where it stood before.
  pub stands_as_before : (T : List ℕ) → Small 64 T → (m : Mark) → Standing s T m ↔ FormerStands T m
  stands_as_before T small (mark r t true) = of_bit T small r t (2 * r) true (omega arith)
  stands_as_before T small (mark r t false) = of_bit T small r t (2 * r + 1) false (omega arith)

  -- "A window up to 64 gives today's table exactly": as long,
  pub as_long_as_before : table_words s ≡ former_words s
  as_long_as_before = rw one_word (omega arith)

  -- and word for word what an add made, no other.
  pub added_as_before : (T : List ℕ) (R : List Mark) (U : List ℕ) → Small 64 T → Added s T R U ↔ FormerAdded s T R U
  added_as_before T R U small = (
    λ a. record {
      size = a.size;
      small = a.small;
      exactly = λ m. Iff.trans (Iff.symm (stands_as_before U a.small m)) (Iff.trans (a.exactly m) (leads m));
    },
    λ a. record {
      size = a.size;
      small = a.small;
      exactly = λ m. Iff.trans (stands_as_before U a.small m) (Iff.trans (a.exactly m) (Iff.symm (leads m)));
    },
  )
    where
      held : (m : Mark) → ◌or◌ (Standing s T) (ReadMarks R) m ↔ ◌or◌ (FormerStands T) (ReadMarks R) m
      held m = (⊎_elim (λ i. inl ((stands_as_before T small m).0 i)) inr, ⊎_elim (λ i. inl ((stands_as_before T small m).1 i)) inr)

      leads : (m : Mark) → Leads s (◌or◌ (Standing s T) (ReadMarks R)) m ↔ Leads s (◌or◌ (FormerStands T) (ReadMarks R)) m
      leads m = (λ d. monotone (λ x. (held x).0) d, λ d. monotone (λ x. (held x).1) d)
