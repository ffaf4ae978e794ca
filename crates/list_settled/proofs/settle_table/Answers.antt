-- `settle_table` meets its contract. Assumes nothing.
use Rattle.list_settled.proofs.Printing.{window_most, countable, prints_refusal, listable, named, few, listing_counted, prints_listing}
use Rattle.list_settled.proofs.settle_table.Goals as goal

pub words_of-n-requires : goal.words_of-n-requires
words_of-n-requires c = window_most c.requires

pub count_facts-facts-requires : goal.count_facts-facts-requires
count_facts-facts-requires c = countable c.requires c.in-Ok.ensures _ c.words_of-n.ensures

pub write_listing-requires : goal.write_listing-requires
write_listing-requires c =
    let begun = c.requires in
    (listable begun c.in-Ok.ensures _ c.words_of-n.ensures, named begun, few begun, λ f. listing_counted begun _ _ _ f)

pub returns-in-Ok : goal.returns-in-Ok
returns-in-Ok c = prints_listing c.requires c.in-Ok.ensures _ c.words_of-n.ensures c.count_facts-facts.ensures c.write_listing.ensures

pub returns-in-Err : goal.returns-in-Err
returns-in-Err c = prints_refusal c.in-Err.ensures (rw c.number.ensures at c.write_refusal.ensures)
