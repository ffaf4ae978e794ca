-- `slot_at` meets its contract. The invariant: the spelling is read up to `i`, and `h` is mixed from its bytes before `i`. Assumes nothing.
use native.Mathlib.Omega.{arith}
use mathlib.Core.Path.{refl}
use mathlib.Core.Logic.{⊎_elim}
use lib.ListN.{get_or}
use Rattle.read_bytes.specs.Bytes.{byte, name_byte}
use Rattle.read_bytes.proofs.Tests.{between_in, between_low, between_high}
use Rattle.read_bytes.proofs.Runs.{run_none, run_past}
use Rattle.read_names.proofs.Spelling.{name_letter, name_digit, name_neither}
use Rattle.read_index.proofs.Walking.{walk_start, walk_more, walk_end}
use Rattle.read_index.proofs.slot_at.Goals as goal

pub loop-i-init : goal.loop-i-init
loop-i-init c = walk_start _ _

pub returns-then-b-lt48 : goal.returns-then-b-lt48
returns-then-b-lt48 c =
    let b = get_or c.args.r.now c.loop-i.i 0 in
    walk_end c.loop-i.invariant _ refl (run_none name_byte _ _ (omega arith) (name_neither b (between_low (byte "a") (byte "z") b (omega arith)) (between_low (byte "0") (byte "9") b (omega arith))))

pub returns-then-b-gt57 : goal.returns-then-b-gt57
returns-then-b-gt57 c =
    let b = get_or c.args.r.now c.loop-i.i 0 in
    walk_end c.loop-i.invariant _ refl (run_none name_byte _ _ (omega arith) (name_neither b (between_low (byte "a") (byte "z") b (omega arith)) (between_high (byte "0") (byte "9") b (omega arith))))

pub returns-then-b-gt122 : goal.returns-then-b-gt122
returns-then-b-gt122 c =
    let b = get_or c.args.r.now c.loop-i.i 0 in
    walk_end c.loop-i.invariant _ refl (run_none name_byte _ _ (omega arith) (name_neither b (between_high (byte "a") (byte "z") b (omega arith)) (between_high (byte "0") (byte "9") b (omega arith))))

pub overflow_cast-h : goal.overflow_cast-h
overflow_cast-h c = omega (arith, c.type_inv.r c.loop-i.i, c.loop-i.invariant.small)

pub overflow_add-h : goal.overflow_add-h
overflow_add-h c = omega (arith, c.type_inv.r c.loop-i.i, c.loop-i.invariant.small)

pub overflow_mul-h : goal.overflow_mul-h
overflow_mul-h c = omega (arith, c.type_inv.r c.loop-i.i, c.loop-i.invariant.small)

pub loop-i-preserved : goal.loop-i-preserved
loop-i-preserved c =
    let b = get_or c.args.r.now c.loop-i.i 0 in
    walk_more c.loop-i.invariant (omega arith)
    (⊎_elim
    (λ w. name_digit b (between_in (byte "0") (byte "9") b (omega arith) (omega arith)))
    (λ w. name_letter b (between_in (byte "a") (byte "z") b (omega arith) (omega arith)))
    c.if-b-lt97.branch-raw)

pub returns : goal.returns
returns c = walk_end c.loop-i.invariant _ (omega arith) (run_past name_byte _ _ (omega arith))
