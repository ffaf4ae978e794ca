-- `write_signs` meets its contract. The invariant: the signs of the ticks from t on are left to be written. Assumes nothing.
use native.Mathlib.Omega.{arith}
use mathlib.Core.Path.{sym}
use Rattle.spec_tilco.specs.Table.Answer.{Unsettled}
use Rattle.write_bytes.proofs.Writing.{counted_like}
use Rattle.write_bytes.proofs.Leaves.{left_all, left_rest, left_none}
use Rattle.list_signals.proofs.Counting.{sign_counted, signs_counted}
use Rattle.list_signals.proofs.Signs.{fewer, signs_start, signs_next, signs_end, signed}
use Rattle.list_signals.proofs.write_signs.Goals as goal

pub loop-t-init : goal.loop-t-init
loop-t-init c = (λ f a. left_all (signs_start f _), λ f. counted_like (c.requires.1 f) (sym (signs_start f _)))

pub sign_at-sign-requires : goal.sign_at-sign-requires
sign_at-sign-requires c =
    fewer _ _ (omega arith) (omega arith) c.requires.0

pub push-requires : goal.push-requires
push-requires c = sign_counted (λ t. Unsettled) _ _ (omega arith) (c.loop-t.invariant.1 (λ t. Unsettled))

pub loop-t-preserved : goal.loop-t-preserved
loop-t-preserved c = (
  λ f a. left_rest _ (c.loop-t.invariant.0 f a) (signed (c.sign_at-sign.ensures (f c.loop-t.t) (a c.loop-t.t (omega arith))) c.push.ensures) (signs_next f _ _ (omega arith)),
  λ f. signs_counted f _ _ (omega arith) (c.loop-t.invariant.1 f) c.push.ensures,
)

pub returns : goal.returns
returns c = λ f a. left_none (c.loop-t.invariant.0 f a) (signs_end f _ _ (omega arith))
