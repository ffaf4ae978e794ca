-- A since or an until, put after the five nodes of its hidden signal's defining rule.
-- Assumes nothing.
use mathlib.Core.Path.{◌≡◌, refl, ◌∙◌}
use mathlib.Core.Bool.{Bool, true, false}
use mathlib.Core.List.{List}
use Prim.Native.Nat.{ℕ, suc, ◌+◌, ◌-◌, ◌≤◌, ◌<◌}
use native.Mathlib.Nat.{add-zero}
use native.Mathlib.Numerals.{towards_suc}
use native.Mathlib.Omega.{arith}
use Rattle.spec_limits.specs.Limits.{most_offset}
use Rattle.spec_tilco.specs.Formula.{Written, hiddens, defining, step_of}
use lib.ListN.{get_or}
use Rattle.read_arena.specs.Nodes.{node_at, put_node, put_nodes, keep_nodes, put_keep}
use Rattle.read_arena.specs.NodeRules.{form_of, form_at, AllChildrenBefore, Arena, NodeRoom, Same, Held}
use Rattle.read_arena.specs.declared.Sign.{Sign}
use Rattle.read_arena.specs.declared.Node.TheVariants.{Name, Pair, Time, Keep}
use Rattle.read_arena.proofs.Puts.{node_puts, same_puts, arena_puts}
use Rattle.read_arena.proofs.Read.{form_step, text_step, definings_step}
use Rattle.read_arena.proofs.Helds.{held_kept}

-- The step of since or until is an offset from -63 to 63.
pub step_right : (b : Bool) → (1 ≤ step_of b) × (step_of b + 0 ≤ most_offset)
step_right true = (omega arith, omega arith)
step_right false = (omega arith, omega arith)

-- The six nodes are right.
keep_rights : (c : ℕ) (b : Bool) (x l r : ℕ) → l < c → r < c → AllChildrenBefore (keep_nodes c b x l r) c
keep_rights c b x l r hl hr = (
  tt,
  (
    (omega arith, omega arith),
    ((omega arith, omega arith), ((omega arith, (step_right b).0, (step_right b).1), ((omega arith, omega arith), ((omega arith, omega arith), tt)))),
  ),
)

-- The nodes before are the same.
pub same_put_keep : (a : List ℕ) (c : ℕ) (b : Bool) (x l r : ℕ) → Same c a (put_keep a c b x l r)
unfolding put_keep
same_put_keep a c b x l r = same_puts a c c (keep_nodes c b x l r) (omega arith)

module _ {a : List ℕ} {c : ℕ} (b : Bool) (x : ℕ) {l r : ℕ} (A : Arena c a) (R : NodeRoom a c 6) (hl : l < c) (hr : r < c) where
  -- The arena grows by six nodes.
  pub arena_put_keep : Arena (c + 6) (put_keep a c b x l r)
  unfolding put_keep
  arena_put_keep = arena_puts a c (c + 6) (keep_nodes c b x l r) refl A R (keep_rights c b x l r hl hr)

  -- The six in their turn.
  keep_node : (j : ℕ) → j < 6 → node_at (put_keep a c b x l r) (c + j) ≡ get_or (keep_nodes c b x l r) j (Name 0)
  unfolding put_keep
  keep_node j lt = node_puts a c j (keep_nodes c b x l r) lt R.fits

  -- Their formulas.
  keep_form : (j : ℕ) → j < 6 → form_at (put_keep a c b x l r) (c + j) ≡ form_of (get_or (keep_nodes c b x l r) j (Name 0)) (form_at (put_keep a c b x l r))
  keep_form j lt = form_step (get_or (keep_nodes c b x l r) j (Name 0)) (c + j) arena_put_keep (omega arith) (keep_node j lt)

  -- The fifth is the defining rule.
  keep_defining : form_at (put_keep a c b x l r) (c + 4) ≡ defining b x (form_at (put_keep a c b x l r) l) (form_at (put_keep a c b x l r) r)
  keep_defining =
      rw (
        keep_form 4 (omega arith),
        keep_form 3 (omega arith),
        keep_form 2 (omega arith),
        keep_form 1 (omega arith),
        rw add-zero at (keep_form 0 (omega arith)),
      )

  -- The sixth is the since or until.
  pub held_keep : {w v : Written} → Held a (suc x) l w → Held a (suc x + hiddens w) r v → Held (put_keep a c b x l r) x (c + 5) (Written.keep b w v)
  held_keep {w} {v} h k =
      let left = held_kept A (same_put_keep a c b x l r) hl h in
      let right = held_kept A (same_put_keep a c b x l r) hr k in
      let just : c + 5 - 1 ≡ c + 4 = omega arith in
      let B = arena_put_keep in
      let sixth = keep_node 5 (omega arith) in
      record {
        text = text_step (Keep b l r x) (c + 5) B (omega arith) sixth ∙ rw (left.text, right.text);
        form = form_step (Keep b l r x) (c + 5) B (omega arith) sixth;
        definings = definings_step (Keep b l r x) (c + 5) B (omega arith) sixth
            ∙ rw (just, keep_defining, left.form, right.form, left.definings, right.definings);
      }

-- Six puts, one after the other, are it.
pub six_puts : (a : List ℕ) {a₁ a₂ a₃ a₄ a₅ a₆ : List ℕ} (c : ℕ) (b : Bool) (x l r : ℕ) {step : ℕ} → step ≡ step_of b
    → a₁ ≡ put_node a c (Name x) → a₂ ≡ put_node a₁ (c + 1) (Pair Sign.And r c) → a₃ ≡ put_node a₂ (c + 2) (Pair Sign.Or l (c + 1))
    → a₄ ≡ put_node a₃ (c + 3) (Time true (c + 2) step 0) → a₅ ≡ put_node a₄ (c + 4) (Pair Sign.Iff c (c + 3))
    → a₆ ≡ put_node a₅ (c + 5) (Keep b l r x) → a₆ ≡ put_keep a c b x l r
unfolding put_keep put_nodes
six_puts a c b x l r e e₁ e₂ e₃ e₄ e₅ e₆ = rw (e₆, e₅, e₄, e₃, e₂, e₁, e) (simp towards_suc)
