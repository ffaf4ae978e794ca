-- `is_name` meets its contract: where there is no room for the spelling, another one stands there. Assumes nothing.
use borrow.Author.Tests.{lt-leb}
use native.Mathlib.Omega.{arith}
use mathlib.Core.Path.{sym, ◌∙◌}
use Rattle.read_names.proofs.Names.{word_same, word_other}
use Rattle.read_index.proofs.is_name.Goals as goal

pub returns-then-a-w : goal.returns-then-a-w
returns-then-a-w c =
    c.spelled_inside.ensures ∙ word_same _ _ _ c.requires.1

pub returns-else-a-w : goal.returns-else-a-w
returns-else-a-w c = lt-leb _ _ c.if-a-w.false ∙ sym (word_other _ _ _ 0 (omega arith) (λ l e. omega arith))
