-- `write_word` meets its contract: the spelling is cut out of the text. Assumes nothing.
use native.Mathlib.Omega.{arith}
use mathlib.Core.Path.{sym}
use Rattle.read_bytes.specs.Bytes.{name_byte}
use Rattle.read_bytes.proofs.Runs.{end_reach, run_slice, run_past}
use Rattle.write_bytes.proofs.Writing.{nothing, like, counted_like}
use Rattle.write_lines.proofs.write_word.Goals as goal

pub slice_bounds-push_text-count : goal.slice_bounds-push_text-count
slice_bounds-push_text-count c =
    let w = end_reach name_byte c.args.s.now c.args.at (omega arith) in omega (arith, w.ahead, w.inside, c.spelling_end-e.ensures)

pub slice_bounds-push_text-start : goal.slice_bounds-push_text-start
slice_bounds-push_text-start c =
    let w = end_reach name_byte c.args.s.now c.args.at (omega arith) in omega (arith, w.ahead, w.inside, c.spelling_end-e.ensures)

pub slice_bounds-push_text-end : goal.slice_bounds-push_text-end
slice_bounds-push_text-end c =
    let w = end_reach name_byte c.args.s.now c.args.at (omega arith) in omega (arith, w.ahead, w.inside, c.spelling_end-e.ensures)

pub push_text-requires : goal.push_text-requires
push_text-requires c =
    counted_like c.requires (sym (run_slice name_byte _ _ _ c.spelling_end-e.ensures))

pub returns-then-at-s : goal.returns-then-at-s
returns-then-at-s c =
    like (sym (run_slice name_byte _ _ _ c.spelling_end-e.ensures)) c.push_text.ensures

pub returns-else-at-s : goal.returns-else-at-s
returns-else-at-s c = like (run_past name_byte _ _ c.if-at-s.false) nothing
