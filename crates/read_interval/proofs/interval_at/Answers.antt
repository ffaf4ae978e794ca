-- `interval_at` meets its contract. Assumes nothing.
use native.Mathlib.Omega.{arith}
use mathlib.Core.Logic.{⊎_elim}
use mathlib.Core.Path.{sym, ◌∙◌}
use Rattle.read_interval.proofs.Ends.{past, end_reach}
use Rattle.read_interval.proofs.Intervals.{one_of_lem_lem, none_of, after_not, after_end, after_cut, interval_by}
use Rattle.read_interval.proofs.interval_at.Goals as goal

pub end_at-requires : goal.end_at-requires
end_at-requires c =
    past _ _ _ c.byte_at-o.ensures (λ e. ⊎_elim (λ k. omega arith) (λ k. omega arith) c.in-91.is)

pub returns-in_default-end_at : goal.returns-in_default-end_at
returns-in_default-end_at c =
    after_cut _ _ _ _ (one_of_lem_lem _ _ _ c.in-91.is) c.end_at.ensures c.in_default-end_at.is ∙ interval_by _ _ _ c.byte_at-o.ensures

pub comma_at-requires : goal.comma_at-requires
comma_at-requires c = (end_reach _ _ (sym c.end_at.ensures ∙ c.in-Some.is)).inside

pub returns-in-Some : goal.returns-in-Some
returns-in-Some c =
    c.comma_at.ensures ∙ after_end _ _ _ _ (one_of_lem_lem _ _ _ c.in-91.is) c.end_at.ensures c.in-Some.is ∙ interval_by _ _ _ c.byte_at-o.ensures

pub returns-in_default : goal.returns-in_default
returns-in_default c =
    after_not _ _ _ _ (none_of _ _ _ c.in_default.in_default-own.rest.1) ∙ interval_by _ _ _ c.byte_at-o.ensures
