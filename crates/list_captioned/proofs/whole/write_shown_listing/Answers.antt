-- `write_shown_listing` meets its contract. Assumes nothing.
use borrow.Author.Rules.{rules}
use mathlib.Core.Path.{sym}
use lib.Seq.{length-take-le}
use Rattle.write_bytes.proofs.Writing.{counted_after, written_after}
use Rattle.list_captioned.specs.ShownListing.{shown_listing}
use Rattle.list_captioned.proofs.whole.write_shown_listing.Goals as goal

pub slice_bounds-write_shown_by_name-end : goal.slice_bounds-write_shown_by_name-end
slice_bounds-write_shown_by_name-end c =
    sym (length-take-le _ _ c.requires.2)

pub write_shown_by_name-requires : goal.write_shown_by_name-requires
unfolding shown_listing
write_shown_by_name-requires c =
    (length-take-le _ _ c.requires.2, c.requires.0, c.requires.1, λ f. counted_after (c.requires.3 f) c.write_head-w.ensures.head)

pub returns : goal.returns
unfolding shown_listing
returns c =
    λ f a. let h = c.write_shown_by_name.ensures f a in written_after c.write_head-w.ensures.head h (search rules) c.length.ensures
