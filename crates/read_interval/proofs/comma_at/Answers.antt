-- `comma_at` meets its contract. Assumes nothing.
use borrow.Author.Tests.{eq-eqb, ne_eqb}
use native.Mathlib.Omega.{arith}
use mathlib.Core.Path.{sym, ◌∙◌}
use Rattle.read_interval.proofs.Ends.{past, end_reach}
use Rattle.read_interval.proofs.Intervals.{after_not, after_end, after_cut, comma_by}
use Rattle.read_interval.proofs.comma_at.Goals as goal

pub returns-then-b-ne44 : goal.returns-then-b-ne44
returns-then-b-ne44 c =
    after_not _ _ _ _ (ne_eqb _ _ c.if-b-ne44.true) ∙ comma_by _ _ _ _ _ _ c.byte_at-b.ensures

pub end_at-requires : goal.end_at-requires
end_at-requires c =
    past _ _ _ c.byte_at-b.ensures (λ e. omega (arith, c.if-b-ne44.false))

pub returns-in_default : goal.returns-in_default
returns-in_default c =
    after_cut _ _ _ _ (eq-eqb _ _ c.if-b-ne44.false) c.end_at.ensures c.in_default.is ∙ comma_by _ _ _ _ _ _ c.byte_at-b.ensures

pub close_at-requires : goal.close_at-requires
close_at-requires c = (end_reach _ _ (sym c.end_at.ensures ∙ c.in-Some.is)).inside

pub returns : goal.returns
returns c =
    c.close_at.ensures ∙ after_end _ _ _ _ (eq-eqb _ _ c.if-b-ne44.false) c.end_at.ensures c.in-Some.is ∙ comma_by _ _ _ _ _ _ c.byte_at-b.ensures
