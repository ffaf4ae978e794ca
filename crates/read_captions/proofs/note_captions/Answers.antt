-- `note_captions` meets its contract. The invariant: what is left to be taken from `p` on is all that there is. Assumes nothing.
use borrow.Author.Rules.{rules}
use native.Mathlib.Omega.{arith}
use mathlib.Core.Path.{◌≡◌, refl, sym, ap, subst, ◌∙◌}
use Prim.Native.Nat.{ℕ}
use lib.ListN.{length, length-replicate, length-set}
use Rattle.read_index.specs.Index.{names_in}
use Rattle.read_index.proofs.Places.{names_in_many}
use Rattle.std.specs.Prelude.{Option, None, Err}
use Rattle.read_captions.specs.Captions.{no_captions}
use Rattle.read_captions.proofs.CaptionTurns.{line_reach, Left, left_all, left_more, left_refused, left_none}
use Rattle.read_captions.proofs.note_captions.Goals as goal

pub loop-p-init : goal.loop-p-init
loop-p-init c =
    let none = ap no_captions (names_in_many c.args.s.now c.args.names.now) in
    (subst (λ at. Left (names_in c.args.s.now c.args.names.now) c.args.c.now at 0) (none ∙ sym c.requires.1) (left_all _ _), search rules, refl)

pub take_line-requires : goal.take_line-requires
unfolding no_captions
take_line-requires c = (c.requires.0, c.loop-p.invariant.1, c.loop-p.invariant.2 ∙ ap length c.requires.1 ∙ length-replicate {A = Option ℕ} _ None)

pub returns-in_err-next : goal.returns-in_err-next
returns-in_err-next c =
    let refused : c.from_residual.result ≡ Err c.in_err-next.field-0.0 = search rules in
    rw refused (left_refused _ _ c.loop-p.invariant.0 (omega arith) c.in_err-next.ensures)

pub loop-p-smaller : goal.loop-p-smaller
loop-p-smaller c = omega (arith, line_reach _ _ _ _ c.in_ok-next.ensures.line)

pub loop-p-preserved : goal.loop-p-preserved
loop-p-preserved c =
    let w = c.in_ok-next.ensures in
    (left_more _ _ c.loop-p.invariant.0 (omega arith) w.line w.noted, (line_reach _ _ _ _ w.line).inside, ap length w.noted ∙ simp length-set c.loop-p.invariant.2)

pub returns : goal.returns
returns c = left_none _ _ c.loop-p.invariant.0 (omega arith)
