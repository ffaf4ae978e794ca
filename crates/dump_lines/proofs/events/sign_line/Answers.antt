-- `sign_line` meets its contract: a line that is not one of a sign is refused, and each arm of the match is a sign's byte. Assumes nothing.
use borrow.Author.Rules.{rules}
use native.Mathlib.Omega.{arith}
use mathlib.Core.Path.{refl, sym}
use Rattle.spec_dump.specs.DumpLines.{sign_said}
use Rattle.dump_lines.proofs.SignLines.{sign_not, sign_other, sign_read}
use Rattle.dump_lines.proofs.events.sign_line.Goals as goal
use Rattle.dump_lines.proofs.events.sign_line.Goals.{in-48, in-49, in-120, in-122}

pub returns-then-d-p : goal.returns-then-d-p
returns-then-d-p c = sign_not _ _ _ _ (λ h. omega arith)

pub returns-then-id-lo : goal.returns-then-id-lo
returns-then-id-lo c = sign_not _ _ _ _ (λ h. omega arith)

pub returns-then-hi-id : goal.returns-then-hi-id
returns-then-hi-id c = sign_not _ _ _ _ (λ h. omega arith)

pub returns-then-d-p-ne10 : goal.returns-then-d-p-ne10
returns-then-d-p-ne10 c = sign_not _ _ _ _ (λ h. omega arith)

pub returns-in_default : goal.returns-in_default
returns-in_default c =
    sign_other _ _ _ _ (λ e. omega arith) (λ e. omega arith) (λ e. omega arith) (λ e. omega arith)

pub returns : goal.returns
unfolding sign_said
returns c =
    elim c.match-d-p.branch [
      | in-48 w ↦ sign_read _ _ _ _ (search rules) w.in-48.is refl (sym w.sign-is)
      | in-49 w ↦ sign_read _ _ _ _ (search rules) w.in-49.is refl (sym w.sign-is)
      | in-120 w ↦ sign_read _ _ _ _ (search rules) w.in-120.is refl (sym w.sign-is)
      | in-122 w ↦ sign_read _ _ _ _ (search rules) w.in-122.is refl (sym w.sign-is)
    ]
