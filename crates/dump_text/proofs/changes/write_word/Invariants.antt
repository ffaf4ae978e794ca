-- `write_word` meets its contract. The invariant: `left` has the ticks from `next` on at which a sign changes, and their lines are left to be written.
-- Assumes nothing.
-- The tick after those of the word.
use Prim.Native.Nat.{ℕ, ◌+◌, ◌-◌, ◌*◌}
use Rattle.write_bytes.proofs.Leaves.{Leaves}
use Rattle.spec_dump.specs.DumpTexts.{events_text}
use Rattle.spec_dump.specs.TableSigns.{changes_from}
use Rattle.dump_changes.specs.WordSigns.{row_sign}
use Rattle.dump_text.specs.TableTexts.{word_ticks, word_text}
use Rattle.dump_text.proofs.WordsLeft.{WordLeft}
use Rattle.dump_text.proofs.changes.write_word.Given as goal

abbrev end : ℕ → ℕ → ℕ
end window q = 64 * q + word_ticks window q

abbrev pub invariant-loop-left : goal.invariant-loop-left
invariant-loop-left l = WordLeft (row_sign l.n l.table) l.k l.next (end l.window l.q) l.left × Leaves (word_text l.k l.window l.n l.table l.q) l.initial.w (events_text (changes_from (row_sign l.n l.table) l.k l.next (end l.window l.q - l.next))) l.w

abbrev pub decreases-loop-left : goal.decreases-loop-left
decreases-loop-left l = l.left
