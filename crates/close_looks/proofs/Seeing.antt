-- A part of a visit to a look, and that the child's word is the same after it. Assumes nothing.
use mathlib.Core.Path.{◌≡◌, sym, subst, subst₂}
use mathlib.Core.Bool.{Bool, true, false}
use mathlib.Core.List.{List}
use mathlib.Core.Logic.{inl, ⊎_elim}
use Prim.Native.Nat.{ℕ, ◌+◌, ◌-◌, ◌/◌, ◌≤◌, ◌<◌}
use native.Mathlib.Omega.{arith}
use lib.Bits.{bit_or}
use Rattle.spec_tilco.specs.Inference.{mark, Marks, Shifted}
use Rattle.spec_tilco.specs.Table.{Stands}
use Rattle.table_words.specs.WordTicks.{Ticks, Sides, Reads, Bits, Joins}
use Rattle.table_words.proofs.OneWord.{ticks_as}
use Rattle.close_rules.specs.Settled.{FromChild, FromLook}
use Rattle.close_rules.specs.Effects.{HoldTicks, Gathered}
use Rattle.close_rules.proofs.RowRules.{part_steps, no_steps}
use Rattle.close_list.specs.Items.{per}
use Rattle.close_store.specs.Visits.{QueuesIf, LookItems}
use Rattle.close_store.proofs.Storing.{enters_if_not}
use Rattle.close_shift.specs.ShiftedWords.{end_of, apart, Beside}
use Rattle.close_looks.specs.Parts.{LooksFrom}

-- Ticks joined to another row's words leave those of row c as they are.
pub child_stays : (n q c r p : ℕ) {U N : ℕ → Type 0} {T T' : List ℕ} {x a b : ℕ} → c < r → Joins n (Sides r true p U N) T T' x → Reads n T q c true a b → Reads n T' q c true a b
child_stays n q c r p {T = T} {T'} {a = a} {b} l j f = record { this = each true a f.this; other = each false b f.other }
  where
    each : (v : Bool) (w : ℕ) → Ticks q w (λ t. Stands n T (mark c t v)) → Ticks q w (λ t. Stands n T' (mark c t v))
    each v w g =
        ticks_as q w (λ t. Stands n T (mark c t v)) (λ t. Stands n T' (mark c t v))
        (λ t e. (
          λ i. (j.gains.exactly (mark c t v)).1 (inl i),
          λ i. ⊎_elim (λ h. h) (λ h. absurd (⊎_elim (λ k. omega (arith, k.0)) (λ k. omega (arith, k.0)) h)) ((j.gains.exactly (mark c t v)).0 i),
        )) g

-- ---- which part it is
pub part_small : (up : Bool) (o : ℕ) → apart up o ≤ 64
part_small true o = omega arith
part_small false o = omega arith

pub part_beside : (up : Bool) (q o e k : ℕ) → e ≡ end_of up q → k ≡ apart up o → o / 64 ≤ e → Beside up (e - o / 64) q o k
part_beside up q o e k a b l = (omega arith, b)

-- A look at an offset of whole words looks at no lower ticks.
pub part_whole : (up : Bool) (q o : ℕ) → apart up o ≡ 64 → (t s : ℕ) → Shifted t o s → s / 64 ≡ q → end_of up q ≡ t / 64 + o / 64 → ⊥
part_whole true q o z t s d a b = omega arith
part_whole false q o z t s d a b = omega arith

module _ (e m count : ℕ) (H N : List ℕ) (r k c q W n : ℕ) where
  -- The row has no word e - k / 64 that looks at the child's word q.
  pub part_none : (G : Marks) (T D : List ℕ) → ((t s : ℕ) → Shifted t k s → t < W → s / 64 ≡ q → e ≡ t / 64 + k / 64 → ⊥) → LooksFrom e m count H N r k c q W n G G T T D D
  part_none G T D f = record {
    changed = 0;
    steps = no_steps n q T r c k W e G f;
    enters = enters_if_not (LookItems (per count) H N n r (e - k / 64) m) D 0 (omega arith);
    word = λ l. absurd (omega arith);
  }

  -- It has the word p, which has the ticks that its child gives it and gives it those that it has then.
  pub part_some : (p : ℕ) {T T' D D' : List ℕ} (v v₀ : ℕ) {a a₀ b b₀ g g₀ x : ℕ} → c < r → e ≡ p + k / 64 → HoldTicks p (FromChild W (Stands n T) k c q) a a₀
      → Joins n (Sides r true p (Bits a) (Bits a₀)) T T' x → HoldTicks q (FromLook W (Stands n T') k r p) b b₀ → QueuesIf (LookItems (per count) H N n r p m) D D' x
      → (g ≡ bit_or v b) × (g₀ ≡ bit_or v₀ b₀) → LooksFrom e m count H N r k c q W n (Gathered c q v v₀) (Gathered c q g g₀) T T' D D'
  part_some p {T} {T'} {D} {D'} v v₀ {b = b} {b₀} {x = x} l at up j down enters is =
      subst₂ (λ (y z : ℕ). LooksFrom e m count H N r k c q W n (Gathered c q v v₀) (Gathered c q y z) T T' D D') (sym is.0) (sym is.1)
      (record {
        changed = x;
        steps = part_steps n q e p r c k W T T' x l at v v₀ up j down;
        enters = subst (λ (z : ℕ). QueuesIf (LookItems (per count) H N n r z m) D D' x) (omega arith) enters;
        word = λ i. omega arith;
      })
