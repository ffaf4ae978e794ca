-- `add_opened` meets its contract. Assumes nothing.
use native.Mathlib.Omega.{arith}
use borrow.Author.Rules.{rules}
use mathlib.Core.Path.{◌≡◌, refl, ◌∙◌}
use Rattle.std.specs.Prelude.{Err}
use Rattle.read_readings.proofs.Outcomes.{when_accepted, when_refused}
use Rattle.spec_operations.proofs.Opened.{some_window, some_words, table_length}
use Rattle.op_add.proofs.Outcomes.{names_fit, as_facts, readings_refused, close_asks, same_size, no_fewer, gains}
use Rattle.op_add.proofs.add_opened.Goals as goal

pub words_of-n-requires : goal.words_of-n-requires
words_of-n-requires c =
    let given = c.requires.opened_table.0 in
    omega (arith, (some_window given _ refl).1)

pub overflow_sub-signals : goal.overflow_sub-signals
overflow_sub-signals c = omega (arith, c.requires.opened_table.1.long)

pub count_facts-before-requires : goal.count_facts-before-requires
count_facts-before-requires c =
    let given = c.requires.opened_table.0 in
    let words = c.words_of-n.ensures in
    names_fit c.args.names.now given _ words

pub take_readings-requires : goal.take_readings-requires
take_readings-requires c =
    let given = c.requires.opened_table.0 in
    let words = c.words_of-n.ensures in
    let w = some_window given _ words in
    record { index = c.requires.opened_table.1; some = w.0; ticks = omega (arith, w.1); covered = (some_words given _ words).cover; room = (names_fit c.args.names.now given _ words).1 }

pub close_with_tops-requires : goal.close_with_tops-requires
close_with_tops-requires c =
    let given = c.requires.opened_table.0 in
    let words = c.words_of-n.ensures in
    let taken = when_accepted c.in_ok-take_readings.ensures in
    let w = close_asks given _ words _ _ taken _ c.requires.list_for in
    record { closable = w.0; k_in_bounds = w.1 }

pub count_facts-after-requires : goal.count_facts-after-requires
count_facts-after-requires c =
    let given = c.requires.opened_table.0 in
    let words = c.words_of-n.ensures in
    let taken = when_accepted c.in_ok-take_readings.ensures in
    let z = same_size given _ words _ _ taken _ c.close_with_tops.ensures in
    let k = names_fit c.args.names.now given _ words in
    (k.0, omega (arith, k.1, z), k.2)

pub clash_in-clash-requires : goal.clash_in-clash-requires
clash_in-clash-requires c =
    let given = c.requires.opened_table.0 in
    let words = c.words_of-n.ensures in
    let taken = when_accepted c.in_ok-take_readings.ensures in
    same_size given _ words _ _ taken _ c.close_with_tops.ensures ∙ table_length given _ words

pub overflow_sub-new : goal.overflow_sub-new
overflow_sub-new c =
    let given = c.requires.opened_table.0 in
    let words = c.words_of-n.ensures in
    let taken = when_accepted c.in_ok-take_readings.ensures in
    no_fewer given _ words _ _ taken _ c.close_with_tops.ensures _ _ (as_facts _ c.args.names.now _ c.count_facts-before.ensures) (as_facts _ c.args.names.now _ c.count_facts-after.ensures) (λ i. omega (arith, c.slice_known-2-1.given i))

pub returns : goal.returns
returns c =
    let given = c.requires.opened_table.0 in
    let words = c.words_of-n.ensures in
    let taken = when_accepted c.in_ok-take_readings.ensures in
    gains given _ words _ _ taken _ c.close_with_tops.ensures _ _ (as_facts _ c.args.names.now _ c.count_facts-before.ensures) (as_facts _ c.args.names.now _ c.count_facts-after.ensures) _ c.clash_in-clash.ensures

pub returns-in_err-take_readings : goal.returns-in_err-take_readings
returns-in_err-take_readings c =
    let given = c.requires.opened_table.0 in
    let words = c.words_of-n.ensures in
    let refused : c.from_residual.result ≡ Err c.in_err-take_readings.field-0.0 = search rules in
    rw refused (readings_refused given _ words _ _ (when_refused c.in_err-take_readings.ensures))
