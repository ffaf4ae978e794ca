-- `moved_length` meets its contract. The invariant: what the numbers before i are joined to is added up, unless the limit is passed. Assumes nothing.
use Prim.Native.Nat.{◌+◌, ◌-◌}
use lib.ListN.{length}
use Rattle.spec_limits.specs.Limits.{most_bytes}
use Rattle.read_names.specs.Spellings.{names_at}
use Rattle.join_spans.specs.Joining.{merged}
use Rattle.join_spans.specs.Runs.{spans_from}
use Rattle.op_moves.specs.Measures.{Measures}
use Rattle.op_moves.specs.MovedText.{moved_text}
use Rattle.op_moves.proofs.RunTexts.{runs_text}
use Rattle.op_moves.proofs.lengths.moved_length.Given as goal

abbrev pub invariant-loop-i : goal.invariant-loop-i
invariant-loop-i l =
    Measures most_bytes (length (moved_text l.spans (names_at l.s l.places) l.noted)) (l.at + length (runs_text l.spans (names_at l.s l.places) (merged (spans_from l.noted l.i))))

abbrev pub decreases-loop-i : goal.decreases-loop-i
decreases-loop-i l = length l.noted - l.i
