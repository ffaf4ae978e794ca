-- `var_lines` meets its contract. The invariant: what is left to read after the first `x` lines is what is to be read. Assumes nothing.
use borrow.Author.Rules.{rules}
use native.Mathlib.Omega.{arith}
use mathlib.Core.Path.{◌≡◌, sym, ap, ◌∙◌}
use Rattle.std.specs.Prelude.{Err}
use Rattle.read_index.specs.Index.{name_count}
use Rattle.dump_lines.specs.PlaceSays.{place_says}
use Rattle.dump_lines.proofs.VarTurns.{vars_none, vars_one, vars_off, vars_all}
use Rattle.dump_lines.proofs.head.var_lines.Goals as goal

pub loop-x-init : goal.loop-x-init
loop-x-init c = vars_none (omega arith)

pub var_line-requires : goal.var_line-requires
var_line-requires c = (c.requires.0, c.loop-x-test.true, c.loop-x.invariant.inside)

pub returns-in_err-at : goal.returns-in_err-at
returns-in_err-at c =
    let refused : c.from_residual.result ≡ Err c.in_err-at.field-0.0 = search rules in
    ap (place_says (name_count c.args.names.now)) refused ∙ vars_off c.loop-x.invariant c.loop-x-test.true (sym c.in_err-at.ensures)

pub loop-x-preserved : goal.loop-x-preserved
loop-x-preserved c = vars_one c.loop-x.invariant c.loop-x-test.true (sym c.in_ok-at.ensures)

pub returns : goal.returns
returns c = vars_all c.loop-x.invariant (omega arith)
