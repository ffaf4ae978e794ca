-- `shown_part` meets its contract. Assumes nothing.
use native.Mathlib.Omega.{arith}
use mathlib.Core.Path.{subst}
use Rattle.read_bytes.specs.Bytes.{name_byte}
use Rattle.read_bytes.proofs.Runs.{end_reach}
use Rattle.read_captions.specs.Captions.{printable}
use Rattle.read_captions.specs.Parts.{CaptionWithin}
use Rattle.read_captions.proofs.ShownParts.{shows_name, shows_caption}
use Rattle.read_captions.proofs.shown_part.Goals as goal

pub overflow_sub-result : goal.overflow_sub-result
overflow_sub-result c =
    let within = subst (CaptionWithin c.args.c.now) c.in-Some.is c.requires.1 in
    omega (arith, end_reach printable c.args.c.now c.in-Some.v within, c.caption_end-e.ensures)

pub overflow_sub-result-in-None : goal.overflow_sub-result-in-None
overflow_sub-result-in-None c = omega (arith, end_reach name_byte c.args.s.now c.args.name c.requires.0, c.spelling_end-e.ensures)

pub returns-in-Some : goal.returns-in-Some
returns-in-Some c = rw c.in-Some.is (shows_caption _ _ _ _ c.caption_end-e.ensures)

pub returns-in-None : goal.returns-in-None
returns-in-None c = rw c.in-None.is (shows_name _ _ _ c.spelling_end-e.ensures)
