-- `settle_table` meets its contract. Assumes nothing.
use native.Mathlib.Omega.{arith}
use Rattle.read_captions.specs.Parts.{shown_texts}
use Rattle.read_captions.proofs.ShownParts.{shown_many}
use Rattle.list_settled.proofs.Printing.{window_most, countable, listable, few}
use Rattle.list_captioned.proofs.Printing.{prints_refusal, listing_counted, prints_listing}
use Rattle.list_captioned.proofs.settle_table.Goals as goal

pub words_of-n-requires : goal.words_of-n-requires
words_of-n-requires c =
    window_most c.requires.0

pub count_facts-facts-requires : goal.count_facts-facts-requires
count_facts-facts-requires c =
    countable c.requires.0 c.in-Ok.ensures _ c.words_of-n.ensures

pub write_shown_listing-requires : goal.write_shown_listing-requires
write_shown_listing-requires c =
    (listable c.requires.0 c.in-Ok.ensures _ c.words_of-n.ensures, c.requires.1.showable, few c.requires.0, λ f. listing_counted c.requires.0 (shown_texts c.args.s.now c.args.c.now c.args.places.now c.args.captions.now) c.requires.1.short (shown_many c.args.s.now c.args.c.now c.args.places.now c.args.captions.now c.requires.1.showable.many) _ _ _ f)

pub returns-in-Ok : goal.returns-in-Ok
returns-in-Ok c =
    prints_listing c.requires.0 c.in-Ok.ensures _ c.words_of-n.ensures (shown_texts c.args.s.now c.args.c.now c.args.places.now c.args.captions.now) c.requires.1.short (shown_many c.args.s.now c.args.c.now c.args.places.now c.args.captions.now c.requires.1.showable.many) c.write_shown_listing.ensures (omega (arith, c.count_facts-facts.ensures))

pub returns-in-Err : goal.returns-in-Err
returns-in-Err c =
    prints_refusal (shown_texts c.args.s.now c.args.c.now c.args.places.now c.args.captions.now) c.in-Err.ensures (rw c.number.ensures at c.write_refusal.ensures)
