-- `name_end` meets its contract. The invariant: what is before the first `=` from `at` on ends where that from `i` on does. Assumes nothing.
use native.Mathlib.Omega.{arith}
use mathlib.Core.Path.{◌≡◌, sym, ◌∙◌}
use mathlib.Core.Bool.{false}
use lib.ListN.{get_or}
use Rattle.read_bytes.specs.Bytes.{run_end}
use Rattle.read_bytes.proofs.Runs.{end_more, end_here, end_past}
use Rattle.read_captions.specs.Captions.{before_equals}
use Rattle.read_captions.proofs.CaptionBytes.{equals_ends, line_ends, goes_on}
use Rattle.read_captions.proofs.name_end.Goals as goal
use Rattle.read_captions.proofs.name_end.Goals.{then-c-i-eq61-via-then-c-i-eq61, then-c-i-eq61-via-else-c-i-eq61+then-c-i-eq10}

pub returns-then-c-i-eq61 : goal.returns-then-c-i-eq61
returns-then-c-i-eq61 c =
    let ends : before_equals (get_or c.args.c.now c.loop-i.i 0) ≡ false = elim c.then-c-i-eq61.branch [
      | then-c-i-eq61-via-then-c-i-eq61 w ↦ equals_ends _ w.if-c-i-eq61.true
      | then-c-i-eq61-via-else-c-i-eq61+then-c-i-eq10 w ↦ line_ends _ w.if-c-i-eq10.true
    ] in
    sym (c.loop-i.invariant ∙ end_here _ _ _ (omega arith) ends)

pub loop-i-preserved : goal.loop-i-preserved
loop-i-preserved c = c.loop-i.invariant ∙ end_more _ _ _ (omega arith) (goes_on _ c.if-c-i-eq61.false c.if-c-i-eq10.false)

pub returns-then-at-c : goal.returns-then-at-c
returns-then-at-c c =
    let done : run_end before_equals c.args.c.now c.args.at ≡ c.loop-i.i = c.loop-i.invariant ∙ end_past _ _ _ (omega arith) in
    omega (arith, done, c.loop-i.auto.i-end)

pub returns-else-at-c : goal.returns-else-at-c
returns-else-at-c c = sym (end_past _ _ _ (omega arith))
