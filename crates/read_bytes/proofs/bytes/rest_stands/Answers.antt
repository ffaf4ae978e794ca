-- `rest_stands` meets its contract. The invariant: the bytes of `w` from `from` on stand at `at + from` exactly if those from `i` on stand at `at + i`.
-- Assumes nothing.
use native.Mathlib.Omega.{arith}
use mathlib.Core.Path.{refl, sym, ◌∙◌}
use Rattle.read_bytes.proofs.Places.{peek_in, starts_done, starts_off, starts_on}
use Rattle.read_bytes.proofs.bytes.rest_stands.Goals as goal

pub loop-i-init : goal.loop-i-init
loop-i-init c = refl

pub returns-then-s-at : goal.returns-then-s-at
returns-then-s-at c =
    sym (c.loop-i.invariant ∙ starts_off _ _ _ _ (omega arith) (λ e. c.if-s-at.true (peek_in _ _ (omega arith) ∙ sym e)))

pub loop-i-preserved : goal.loop-i-preserved
loop-i-preserved c =
    c.loop-i.invariant ∙ starts_on _ _ _ _ (omega arith) (sym c.if-s-at.false ∙ peek_in _ _ (omega arith))

pub returns : goal.returns
returns c =
    sym (c.loop-i.invariant ∙ starts_done _ _ _ _ (omega arith))
