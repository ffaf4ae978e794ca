-- `write_keep_word` meets its contract. Assumes nothing.
use Rattle.write_bytes.proofs.Writing.{like, counted_like}
use mathlib.Core.Path.{ap}
use mathlib.Core.List.{◌++◌}
use Rattle.read_bytes.specs.Bytes.{bytes}
use Rattle.spec_grammar.specs.Grammar.{keep_word_lem}
use Rattle.write_formula.proofs.write_keep_word.Goals as goal

pub push_text-requires : goal.push_text-requires
push_text-requires c =
    counted_like c.requires (ap (λ b. keep_word_lem b ++ bytes "(") c.if-since.true)

pub push_text-requires-else-since : goal.push_text-requires-else-since
push_text-requires-else-since c =
    counted_like c.requires (ap (λ b. keep_word_lem b ++ bytes "(") c.if-since.false)

pub returns-then-since : goal.returns-then-since
returns-then-since c =
    like (ap (λ b. keep_word_lem b ++ bytes "(") c.if-since.true) c.push_text.ensures

pub returns-else-since : goal.returns-else-since
returns-else-since c =
    like (ap (λ b. keep_word_lem b ++ bytes "(") c.if-since.false) c.push_text-else-since.ensures
