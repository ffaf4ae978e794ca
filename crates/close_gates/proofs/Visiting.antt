-- A visit by the kind in the row code. Assumes nothing.
use mathlib.Core.Path.{◌≡◌, refl, sym, ap, subst}
use mathlib.Core.List.{List}
use Prim.Native.Nat.{ℕ, ◌≤◌, ◌<◌}
use native.Mathlib.Omega.{arith}
use Rattle.lower_rows.specs.RowCodes.{unpacked}
use Rattle.spec_tilco.specs.Inference.{not_of, Marks}
use Rattle.spec_tilco.specs.Table.{Stands}
use Rattle.close_rules.specs.Settled.{SettledIn}
use Rattle.close_rules.proofs.Inferring.{idle}
use Rattle.close_rules.proofs.Decoding.{kind, left, right, past, node_as}
use Rattle.close_list.specs.Items.{OneItem}
use Rattle.close_store.specs.Visits.{Visits, VisitsNode}
use Rattle.close_store.proofs.Storing.{notes_none, visited}

-- No mark.
abbrev None : Marks
None m = ⊥

module _ (count : ℕ) (B : List ℕ) (n r q W : ℕ) where
  module _ (T T' D D' : List ℕ) (l : r < count) where
    pub visits_as : (k : ℕ) → kind count B r ≡ k → VisitsNode (unpacked k (left count B r) (right count B r)) count B r q W n T T' D D' → Visits count B r q W n T T' D D'
    visits_as k e f = record {
      changed = f.changed;
      each = λ P c. f.each P (node_as count B r k e P c) (ap (λ (z : ℕ). unpacked z (left count B r) (right count B r)) e);
      past = λ h. absurd (omega arith);
    }

    pub visits_not : 4 ≤ kind count B r → VisitsNode (not_of (left count B r)) count B r q W n T T' D D' → Visits count B r q W n T T' D D'
    visits_not h f = visits_as (past count B r) (omega arith) f

  -- A signal's row has no rules.
  pub visits_signal : (T D : List ℕ) → kind count B r ≡ 0 → Visits count B r q W n T T D D
  visits_signal T D e = record {
    changed = 0;
    each = λ P c. visited count B n r q W (Stands n T) P (idle n P W None T) (notes_none count B n (OneItem r q) None D 0 (λ x t v a. a))
        (subst (SettledIn q W (Stands n T) r) (sym (node_as count B r 0 e P c)) tt);
    past = λ h. refl;
  }
