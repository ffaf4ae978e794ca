-- `words_for` meets its contract. Assumes nothing.
use native.Mathlib.Omega.{arith}
use mathlib.Core.Path.{refl}
use Rattle.open_sheet.proofs.Buffers.{fresh}
use Rattle.open_table.proofs.Tables.{words_most}
use Rattle.bench_operations.proofs.words_for.Goals as goal

pub open_sheet-requires : goal.open_sheet-requires
open_sheet-requires c = fresh

pub overflow_mul-result : goal.overflow_mul-result
overflow_mul-result c = omega (arith, (words_most c.in-Ok.ensures.1 _ refl).1)

pub words_of-requires : goal.words_of-requires
words_of-requires c = (words_most c.in-Ok.ensures.1 _ refl).0

pub overflow_mul-result-in-Ok : goal.overflow_mul-result-in-Ok
overflow_mul-result-in-Ok c = omega (arith, (words_most c.in-Ok.ensures.1 _ c.words_of.ensures).2)

pub returns-in-Ok : goal.returns-in-Ok
returns-in-Ok c = (words_most c.in-Ok.ensures.1 _ c.words_of.ensures).2
