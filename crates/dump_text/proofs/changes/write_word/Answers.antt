-- `write_word` meets its contract. The invariant: `left` has the ticks from `next` on at which a sign changes, and their lines are left to be written.
-- Assumes nothing.
-- The tick after those of the word.
use native.Mathlib.Omega.{arith}
use native.Mathlib.Nat.{div-le_self}
use mathlib.Core.Path.{◌≡◌, ap}
use Prim.Native.Nat.{ℕ, ◌+◌, ◌-◌, ◌*◌, ◌^◌}
use lib.Count.{count_trailing_zeros, trailing_le}
use Rattle.write_bytes.proofs.Writing.{counted_like, counted_first}
use Rattle.write_bytes.proofs.Leaves.{left_all, left_rest, left_none, counted_left}
use Rattle.spec_dump.specs.DumpTexts.{events_text}
use Rattle.spec_dump.specs.TableSigns.{changes_from}
use Rattle.dump_changes.specs.WordSigns.{row_sign}
use Rattle.dump_text.specs.TableTexts.{word_ticks}
use Rattle.dump_text.proofs.Dumpable.{word_there}
use Rattle.dump_text.proofs.WordsLeft.{left_first, left_end, left_low, left_moves, left_lines, left_after}
use Rattle.dump_text.proofs.changes.write_word.Goals as goal

abbrev end : ℕ → ℕ → ℕ
end window q = 64 * q + word_ticks window q

pub word_changes-requires : goal.word_changes-requires
word_changes-requires c = (c.requires.1, c.requires.0.rows)

pub window_word-requires : goal.window_word-requires
window_word-requires c = omega (arith, word_there c.requires.0 c.requires.1)

pub overflow_mul-next : goal.overflow_mul-next
overflow_mul-next c =
    omega (arith, word_there c.requires.0 c.requires.1, c.requires.0.most)

pub loop-left-init : goal.loop-left-init
loop-left-init c =
    let w = c.args.window in
    let q = c.args.q in
    let f = row_sign c.args.n c.args.table.now in
    let k = c.args.k in
    let e : end w q - 64 * q ≡ word_ticks w q = omega arith in (
      left_first f k w q c.word_changes.result c.window_word.result (word_there c.requires.0 c.requires.1) c.word_changes.ensures c.window_word.ensures (omega arith),
      left_all (ap (λ (m : ℕ). events_text (changes_from f k (64 * q) m)) e),
    )

pub overflow_cast-b : goal.overflow_cast-b
overflow_cast-b c = omega (arith, trailing_le 64 c.loop-left.left)

pub overflow_add-tick : goal.overflow_add-tick
overflow_add-tick c =
    omega (arith, (left_moves _ _ c.loop-left.invariant.0 c.loop-left-test.true).0, word_there c.requires.0 c.requires.1, c.requires.0.most)

pub write_tick-requires : goal.write_tick-requires
write_tick-requires c =
    let m = left_moves _ _ c.loop-left.invariant.0 c.loop-left-test.true in
    (c.requires.0, omega (arith, m.0, word_there c.requires.0 c.requires.1), m.1, counted_first _ (counted_like (counted_left c.requires.2 c.loop-left.invariant.1) (left_lines _ _ c.loop-left.invariant.0 c.loop-left-test.true)))

pub overflow_shr-left : goal.overflow_shr-left
overflow_shr-left c =
    omega (arith, left_low _ _ c.loop-left.invariant.0 c.loop-left-test.true)

pub overflow_add-next : goal.overflow_add-next
overflow_add-next c =
    omega (arith, (left_moves _ _ c.loop-left.invariant.0 c.loop-left-test.true).0, word_there c.requires.0 c.requires.1, c.requires.0.most)

pub loop-left-smaller : goal.loop-left-smaller
loop-left-smaller c =
    omega (arith, div-le_self c.loop-left.left (2 ^ count_trailing_zeros 64 c.loop-left.left), c.loop-left-test.true)

pub loop-left-preserved : goal.loop-left-preserved
loop-left-preserved c =
    (left_after _ _ c.loop-left.invariant.0 c.loop-left-test.true, left_rest _ c.loop-left.invariant.1 c.write_tick.ensures (left_lines _ _ c.loop-left.invariant.0 c.loop-left-test.true))

pub returns : goal.returns
returns c = left_none c.loop-left.invariant.1 (left_end _ _ c.loop-left.invariant.0 c.loop-left-test.false)
