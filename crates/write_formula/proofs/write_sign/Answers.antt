-- `write_sign` meets its contract. Assumes nothing.
use Rattle.write_bytes.proofs.Writing.{like, counted_like}
use mathlib.Core.Path.{ap}
use Rattle.read_arena.specs.Nodes.{op_of}
use Rattle.read_parts.specs.FormulaText.{sign_text}
use Rattle.write_formula.proofs.write_sign.Goals as goal

pub push-requires : goal.push-requires
push-requires c =
    counted_like c.requires (ap (λ o. sign_text (op_of o)) c.in-And.is)

pub push-requires-in-Or : goal.push-requires-in-Or
push-requires-in-Or c =
    counted_like c.requires (ap (λ o. sign_text (op_of o)) c.in-Or.is)

pub push_text-requires : goal.push_text-requires
push_text-requires c =
    counted_like c.requires (ap (λ o. sign_text (op_of o)) c.in-Implies.is)

pub push_text-requires-in-Iff : goal.push_text-requires-in-Iff
push_text-requires-in-Iff c =
    counted_like c.requires (ap (λ o. sign_text (op_of o)) c.in-Iff.is)

pub returns-in-And : goal.returns-in-And
returns-in-And c =
    like (ap (λ o. sign_text (op_of o)) c.in-And.is) c.push.ensures

pub returns-in-Or : goal.returns-in-Or
returns-in-Or c =
    like (ap (λ o. sign_text (op_of o)) c.in-Or.is) c.push-in-Or.ensures

pub returns-in-Implies : goal.returns-in-Implies
returns-in-Implies c =
    like (ap (λ o. sign_text (op_of o)) c.in-Implies.is) c.push_text.ensures

pub returns-in-Iff : goal.returns-in-Iff
returns-in-Iff c =
    like (ap (λ o. sign_text (op_of o)) c.in-Iff.is) c.push_text-in-Iff.ensures
