-- `span_word` meets its contract. Assumes nothing.
use native.Mathlib.Omega.{arith}
use Rattle.table_spans.proofs.SpanTicks.{span_ticks}
use Rattle.table_spans.proofs.span_word.Goals as goal

pub returns : goal.returns
returns c = span_ticks _ _ _ _ c.requires.0 c.requires.1 (omega arith)
