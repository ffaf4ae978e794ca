-- Settled tables: two that meet the promise are one, and such a table is what add makes of it.
-- Assumes that a row has at least one word where tables are compared.
use mathlib.Core.Path.{◌≡◌, sym, ◌∙◌}
use mathlib.Core.List.Memᴰ
use mathlib.Core.List.{List, []}
use mathlib.Core.Logic.{inl, ⊎_elim}
use Prim.Native.Nat.{ℕ, ◌≤◌}
use Rattle.spec_ticks.proofs.Tables.{same_table}
use Rattle.spec_tilco.specs.Formula.{Sheet}
use Rattle.spec_tilco.specs.Inference.{Program, mark}
use Rattle.spec_tilco.specs.Lowering.{program}
use Rattle.spec_tilco.specs.Table.{words, Added}
use Rattle.spec_tilco.proofs.Derives.{monotone}
use Rattle.close_table.specs.Closes.{LeastClosed}

pub closed_one : (n : ℕ) (P : Program) (W : ℕ) (T U U' : List ℕ) → 1 ≤ n → LeastClosed n P W T U → LeastClosed n P W T U' → U ≡ U'
closed_one n P W T U U' some a b =
    same_table n some 64 U U' (a.size ∙ sym b.size) a.small b.small
    (λ r t v i. (b.exactly (mark r t v)).1 ((a.exactly (mark r t v)).0 i)) (λ r t v i. (a.exactly (mark r t v)).1 ((b.exactly (mark r t v)).0 i))

pub closed_added : (s : Sheet) (T U : List ℕ) → LeastClosed (words s.window) (program s) s.window T U → Added s T [] U
closed_added s T U a = record {
  size = a.size;
  small = a.small;
  exactly = λ m. (λ i. monotone (λ p j. inl j) ((a.exactly m).0 i), λ d. (a.exactly m).1 (monotone (λ p j. ⊎_elim (λ k. k) (λ k. absurd (Memᴰ.not-nil k)) j) d));
}
