-- `find` meets its contract. The invariant: the names from some number on are searched, and `link` leads to the last of the others in the slot.
-- Assumes nothing.
use native.Mathlib.Omega.{arith}
use Rattle.read_bytes.specs.Bytes.{name_byte}
use Rattle.read_names.specs.Spellings.{spelling_at}
use Rattle.read_bytes.proofs.Runs.{end_reach, run_slice, run_every}
use Rattle.read_index.proofs.Slots.{slot_below}
use Rattle.read_index.proofs.Looking.{look_end, index_start, turn_inside, turn_place, turn_less, turn_here, turn_on}
use Rattle.read_index.proofs.find.Goals as goal
use Rattle.read_index.proofs.find.Goals.{then-is_name, else-is_name}

pub slice_bounds-w-count : goal.slice_bounds-w-count
slice_bounds-w-count c =
    omega (arith, end_reach name_byte c.args.r.now c.args.at (omega arith), c.slot_at-end.ensures.ends)

pub slice_bounds-w-start : goal.slice_bounds-w-start
slice_bounds-w-start c =
    omega (arith, end_reach name_byte c.args.r.now c.args.at (omega arith), c.slot_at-end.ensures.ends)

pub slice_bounds-w-end : goal.slice_bounds-w-end
slice_bounds-w-end c =
    omega (arith, end_reach name_byte c.args.r.now c.args.at (omega arith), c.slot_at-end.ensures.ends)

pub offset_bounds-names-slot : goal.offset_bounds-names-slot
offset_bounds-names-slot c =
    omega (arith, slot_below (spelling_at c.args.r.now c.args.at), c.slot_at-end.ensures.slot)

pub bounds-names-slot : goal.bounds-names-slot
bounds-names-slot c =
    omega (arith, slot_below (spelling_at c.args.r.now c.args.at), c.slot_at-end.ensures.slot, c.requires.0.long)

pub loop-link-init : goal.loop-link-init
loop-link-init c =
    index_start _ _ c.requires.0 _ _ c.slot_at-end.ensures.slot

pub overflow_add-a : goal.overflow_add-a
overflow_add-a c =
    omega (arith, turn_inside _ _ c.requires.0 c.loop-link.invariant (omega arith))

pub offset_bounds-names-i : goal.offset_bounds-names-i
offset_bounds-names-i c =
    omega (arith, turn_inside _ _ c.requires.0 c.loop-link.invariant (omega arith))

pub bounds-names-i : goal.bounds-names-i
bounds-names-i c =
    turn_inside _ _ c.requires.0 c.loop-link.invariant (omega arith)

pub is_name-requires : goal.is_name-requires
is_name-requires c =
    (turn_place _ _ c.requires.0 c.loop-link.invariant (omega arith), rw (run_slice name_byte _ _ _ c.slot_at-end.ensures.ends) (run_every name_byte _ _))

pub overflow_add-link : goal.overflow_add-link
overflow_add-link c =
    omega (arith, turn_inside _ _ c.requires.0 c.loop-link.invariant (omega arith))

pub offset_bounds-names-i-in-loop-link : goal.offset_bounds-names-i-in-loop-link
offset_bounds-names-i-in-loop-link c =
    omega (arith, turn_inside _ _ c.requires.0 c.loop-link.invariant (omega arith))

pub bounds-names-i-in-loop-link : goal.bounds-names-i-in-loop-link
bounds-names-i-in-loop-link c =
    omega (arith, turn_inside _ _ c.requires.0 c.loop-link.invariant (omega arith))

pub loop-link-smaller : goal.loop-link-smaller
loop-link-smaller c =
    turn_less _ _ c.requires.0 c.loop-link.invariant (omega arith) _ (omega arith)

pub loop-link-preserved : goal.loop-link-preserved
loop-link-preserved c =
    let cut = run_slice name_byte c.args.r.now c.args.at c.slot_at-end.result.0 c.slot_at-end.ensures.ends in
    elim c.if-is_name.branch [
      | then-is_name w ↦ turn_here _ _ c.requires.0 c.loop-link.invariant (omega arith) _ (omega arith) cut c.is_name.ensures w.if-is_name.true (omega arith)
      | else-is_name w ↦ turn_on _ _ c.requires.0 c.loop-link.invariant (omega arith) _ (omega arith) cut c.is_name.ensures w.if-is_name.false (omega arith)
    ]

pub returns : goal.returns
returns c =
    record { found = look_end c.loop-link.invariant (omega arith); ends = c.slot_at-end.ensures.ends; slot = c.slot_at-end.ensures.slot }
