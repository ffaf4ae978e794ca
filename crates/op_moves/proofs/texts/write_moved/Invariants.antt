-- `write_moved` meets its contract. The invariant: what the numbers before i are joined to is written. Assumes nothing.
use Prim.Native.Nat.{◌-◌}
use lib.ListN.{length}
use Rattle.read_names.specs.Spellings.{names_at}
use Rattle.join_spans.specs.Joining.{merged}
use Rattle.join_spans.specs.Runs.{spans_from}
use Rattle.op_moves.specs.MovedText.{moved_text}
use Rattle.op_moves.proofs.Progress.{Progress}
use Rattle.op_moves.proofs.RunTexts.{runs_text}
use Rattle.op_moves.proofs.texts.write_moved.Given as goal

abbrev pub invariant-loop-i : goal.invariant-loop-i
invariant-loop-i l =
    Progress (moved_text l.spans (names_at l.s l.places) l.noted) (runs_text l.spans (names_at l.s l.places) (merged (spans_from l.noted l.i))) l.initial.w l.w

abbrev pub decreases-loop-i : goal.decreases-loop-i
decreases-loop-i l = length l.noted - l.i
