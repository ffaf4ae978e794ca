-- `stands_at` meets its contract. The invariant: the bytes of `w` stand at `at` exactly if those from `i` on stand at `at + i`.
-- Assumes nothing.
use native.Mathlib.Omega.{arith}
use mathlib.Core.Path.{sym, ◌∙◌}
use Rattle.read_bytes.proofs.Places.{starts_first}
use Rattle.read_bytes.proofs.Fours.{fours_off, fours_on}
use Rattle.read_bytes.proofs.bytes.stands_at.Goals as goal

pub loop-i-init : goal.loop-i-init
loop-i-init c = (starts_first _ _ _, omega arith)

pub returns-then-b-x : goal.returns-then-b-x
returns-then-b-x c =
    sym
    (c.loop-i.invariant.0
    ∙ fours_off _ _ (λ k. (c.type_inv.s k).fits) (λ k. (c.type_inv.w k).fits) _ c.requires _ (omega arith)
    (λ e. c.if-b-x.true (c.four_at-b.ensures ∙ e ∙ sym c.four_at-x.ensures)))

pub loop-i-preserved : goal.loop-i-preserved
loop-i-preserved c = (
  c.loop-i.invariant.0
      ∙ fours_on _ _ (λ k. (c.type_inv.s k).fits) (λ k. (c.type_inv.w k).fits) _ c.requires _ (omega arith)
      (sym c.four_at-b.ensures ∙ c.if-b-x.false ∙ c.four_at-x.ensures),
  omega arith,
)

pub returns : goal.returns
returns c = c.rest_stands.ensures ∙ sym c.loop-i.invariant.0
