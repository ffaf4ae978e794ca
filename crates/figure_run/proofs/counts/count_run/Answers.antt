-- `count_run` meets its contract. The invariant: the run is counted in the records before i, and those from i on are as they were. Assumes nothing.
use native.Mathlib.Omega.{arith}
use mathlib.Core.Path.{◌∙◌, subst}
use Prim.Native.Nat.{ℕ}
use Rattle.spec_figures.specs.declared.Record.{Record}
use Rattle.figure_run.specs.RecordWords.{record_in}
use Rattle.figure_run.specs.RunCounts.{CountsRun}
use Rattle.figure_run.proofs.Storing.{one_more}
use Rattle.figure_run.proofs.counts.count_run.Goals as goal

pub loop-i-preserved : goal.loop-i-preserved
loop-i-preserved c =
    let a = c.args in
    let l = c.loop-i in
    let put = c.put_record.ensures in
    let run = c.with_run-v in
    let same = c.record_in-r.ensures ∙ l.invariant.2 l.i (omega arith) in
    let counts = subst (λ (r : Record). CountsRun a.n a.window a.table.now r run.result) same run.ensures in (
      put.size ∙ l.invariant.0,
      one_more (λ (j : ℕ) (v : Record). CountsRun a.n a.window a.table.now (record_in a.words.now j) v) l.invariant.1 put counts,
      λ j h. put.others j (λ e. omega arith) ∙ l.invariant.2 j (omega arith),
    )

pub returns : goal.returns
returns c = let l = c.loop-i in record { size = l.invariant.0; each = λ j h. l.invariant.1 j (omega arith) }
