-- `singles_length` meets its contract. The invariant: the readings at the ticks before `tick` are added up, unless the limit is passed. Assumes nothing.
use mathlib.Core.Path.{refl}
use native.Mathlib.Omega.{arith}
use Rattle.join_spans.specs.Joining.{singles}
use Rattle.op_moves.proofs.Measured.{known_length, stops_adding, single_more, single_last}
use Rattle.op_moves.proofs.lengths.singles_length.Goals as goal

pub loop-tick-init : goal.loop-tick-init
unfolding singles
loop-tick-init c = λ names x v e. known_length refl

pub returns-then-at-gt-BYTES : goal.returns-then-at-gt-BYTES
returns-then-at-gt-BYTES c = λ names x v e. stops_adding _ _ (c.loop-tick.invariant names x v e) c.if-at-gt-BYTES.true

pub entry_length-at-requires : goal.entry_length-at-requires
entry_length-at-requires c = (c.requires.0, omega arith, omega arith)

pub overflow_add-at : goal.overflow_add-at
overflow_add-at c = omega (arith, c.if-at-gt-BYTES.false, c.entry_length-at.ensures.0)

pub loop-tick-preserved : goal.loop-tick-preserved
loop-tick-preserved c = λ names x v e. single_more names x v _ _ _ (c.loop-tick.invariant names x v e) (omega arith) (c.entry_length-at.ensures.1 names x v e)

pub returns : goal.returns
returns c = λ names x v e. single_last names x v _ _ _ (c.loop-tick.invariant names x v e) (omega arith)
