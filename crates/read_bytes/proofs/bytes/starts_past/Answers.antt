-- `starts_past` meets its contract. The invariant: the bytes of `w` stand at `at` exactly if those from `i` on stand at `at + i`.
-- Assumes nothing.
use native.Mathlib.Omega.{arith}
use mathlib.Core.Path.{sym, ◌∙◌}
use Rattle.read_bytes.proofs.Places.{starts_done, starts_off, starts_on, starts_first}
use Rattle.read_bytes.proofs.bytes.starts_past.Goals as goal

pub loop-i-init : goal.loop-i-init
loop-i-init c = starts_first _ _ _

pub returns-then-byte_at-w : goal.returns-then-byte_at-w
returns-then-byte_at-w c =
    sym (c.loop-i.invariant ∙ starts_off _ _ _ _ (omega arith) (λ e. c.if-byte_at-w.true (c.byte_at.ensures ∙ sym e)))

pub loop-i-preserved : goal.loop-i-preserved
loop-i-preserved c =
    c.loop-i.invariant ∙ starts_on _ _ _ _ (omega arith) (sym c.if-byte_at-w.false ∙ c.byte_at.ensures)

pub returns : goal.returns
returns c =
    sym (c.loop-i.invariant ∙ starts_done _ _ _ _ (omega arith))
