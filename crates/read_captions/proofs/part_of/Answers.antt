-- `part_of` meets its contract: each arm makes its slice of its own text. Assumes nothing.
use native.Mathlib.Omega.{arith}
use mathlib.Core.Path.{refl}
use Rattle.read_captions.proofs.ShownParts.{in_sheet, in_captions_lem, part_made, shows_sheet, shows_captions}
use Rattle.read_captions.proofs.part_of.Goals as goal

pub overflow_add-result : goal.overflow_add-result
overflow_add-result c = omega (arith, in_sheet c.args.s.now c.args.c.now c.requires c.in-InSheet.is)

pub slice_bounds-result-end : goal.slice_bounds-result-end
slice_bounds-result-end c = omega (arith, in_sheet c.args.s.now c.args.c.now c.requires c.in-InSheet.is)

pub overflow_add-result-in-InCaptions : goal.overflow_add-result-in-InCaptions
overflow_add-result-in-InCaptions c = omega (arith, in_captions_lem c.args.s.now c.args.c.now c.requires c.in-InCaptions.is)

pub slice_bounds-result-end-in-InCaptions : goal.slice_bounds-result-end-in-InCaptions
slice_bounds-result-end-in-InCaptions c = omega (arith, in_captions_lem c.args.s.now c.args.c.now c.requires c.in-InCaptions.is)

pub returns-in-InSheet : goal.returns-in-InSheet
returns-in-InSheet c = shows_sheet c.in-InSheet.is (part_made c.args.s _ _ refl refl)

pub returns-in-InCaptions : goal.returns-in-InCaptions
returns-in-InCaptions c = shows_captions c.in-InCaptions.is (part_made c.args.c _ _ refl refl)
