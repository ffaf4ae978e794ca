-- `byte_at` meets its contract. Assumes nothing.
use mathlib.Core.Path.{sym}
use Rattle.read_bytes.proofs.Places.{peek_in, peek_out}
use Rattle.read_bytes.proofs.bytes.byte_at.Goals as goal

pub returns-then-at-s : goal.returns-then-at-s
returns-then-at-s c = peek_in _ _ c.if-at-s.true

pub returns-else-at-s : goal.returns-else-at-s
returns-else-at-s c = sym (peek_out _ _ c.if-at-s.false)
