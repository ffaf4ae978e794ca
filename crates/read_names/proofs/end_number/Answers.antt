-- `end_number` meets its contract. Assumes nothing.
use native.Mathlib.Omega.{arith}
use mathlib.Core.Path.{◌≡◌, sym, ◌∙◌}
use Rattle.std.specs.Prelude.{None}
use Rattle.std.proofs.Common.{rules}
use Rattle.read_names.proofs.EndPlaces.{digits_inside, end_missing, end_part, end_is, end_large}
use Rattle.read_names.proofs.end_number.Goals as goal

pub number_at-requires : goal.number_at-requires
number_at-requires c = digits_inside c.requires

pub returns-in_err-x : goal.returns-in_err-x
returns-in_err-x c =
    let none : c.from_residual.result ≡ None = search rules in
    none ∙ end_missing c.requires (sym c.number_at.ensures ∙ c.in_err-x.was)

pub returns-then-q-e : goal.returns-then-q-e
returns-then-q-e c = end_part c.requires (sym c.number_at.ensures ∙ c.in_ok-x.was) (λ z. omega arith)

pub returns-then-x-le-END_NUMBER : goal.returns-then-x-le-END_NUMBER
returns-then-x-le-END_NUMBER c = end_is c.requires (sym c.number_at.ensures ∙ c.in_ok-x.was) (omega arith) (omega arith)

pub returns-else-x-le-END_NUMBER : goal.returns-else-x-le-END_NUMBER
returns-else-x-le-END_NUMBER c = end_large c.requires (sym c.number_at.ensures ∙ c.in_ok-x.was) (omega arith) (omega arith)
