-- `fill` meets its contract. Assumes nothing.
use native.Mathlib.Omega.{arith}
use mathlib.Core.Path.{◌≡◌, ap, ◌∙◌}
use Prim.Native.Nat.{ℕ}
use lib.ListN.{length}
use Rattle.figure_run.specs.RecordWords.{record_in}
use Rattle.op_figures.proofs.Filling.{filled, filled_whole}
use Rattle.op_figures.proofs.fill.Goals as goal

pub returns : goal.returns
returns c =
    let f = record_in c.args.words.now in
    let e : c.loop-i.i ≡ length c.args.records.now = omega arith in
    c.loop-i.invariant ∙ ap (λ (i : ℕ). filled f i c.args.records.now) e ∙ filled_whole f c.args.records.now
