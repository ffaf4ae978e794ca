-- `take_opened` is safe and ends. Assumes nothing.
use native.Mathlib.Omega.{arith}
use Prim.Native.Nat.{◌≤◌}
use Rattle.spec_limits.specs.Limits.{most_rows}
use Rattle.read_index.specs.Index.{name_count}
use Rattle.open_table.proofs.Tables.{row_words, table_most}
use Rattle.bench_operations.proofs.taking.take_opened.Goals as goal

pub overflow_sub-names : goal.overflow_sub-names
overflow_sub-names c = omega (arith, c.requires.0.long)

pub count_facts-before-requires : goal.count_facts-before-requires
count_facts-before-requires c =
    let given = c.requires in
    let n = c.words_of-n.ensures in
    let spread = row_words given.1 given.2 n in
    let few : name_count c.args.names.now ≤ most_rows = omega (arith, given.0.few) in
    (spread.some, rw n given.3, omega (arith, table_most few spread.most))

pub take_readings-requires : goal.take_readings-requires
take_readings-requires c =
    let given = c.requires in
    let n = c.words_of-n.ensures in
    record { index = given.0; some = given.1; ticks = omega (arith, given.2); covered = (row_words given.1 given.2 n).cover; room = rw n given.3 }
