-- `signals_at` meets its contract. The invariant: what is left to read after the first `i` names of the index is what is to be read. Assumes nothing.
use native.Mathlib.Omega.{arith}
use mathlib.Core.Path.{◌≡◌}
use borrow.Author.Rules.{rules}
use Rattle.std.specs.Prelude.{Err}
use Rattle.read_head.proofs.NamesPut.{read_none, read_one, read_off, read_all}
use Rattle.read_head.proofs.signals_at.Goals as goal

pub loop-i-init : goal.loop-i-init
loop-i-init c =
    read_none c.requires.0 (omega arith)

pub returns-in_err-next : goal.returns-in_err-next
returns-in_err-next c =
    let refused : c.from_residual.result ≡ Err c.in_err-next.field-0.0 = search rules in
    rw refused (read_off c.loop-i.invariant (omega arith) c.in_err-next.ensures)

pub loop-i-preserved : goal.loop-i-preserved
loop-i-preserved c = read_one c.loop-i.invariant (omega arith) c.in_ok-next.ensures

pub returns : goal.returns
returns c = read_all c.loop-i.invariant (omega arith)
