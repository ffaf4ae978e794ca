-- `spelling_end` meets its contract. The invariant: the spelling at `at` ends where that at `i` does. Assumes nothing.
use native.Mathlib.Omega.{arith}
use mathlib.Core.Path.{◌≡◌, refl, sym, ◌∙◌}
use mathlib.Core.Bool.{true}
use lib.ListN.{get_or}
use Rattle.read_bytes.specs.Bytes.{byte, name_byte}
use Rattle.read_names.specs.Spellings.{spelling_end}
use Rattle.read_bytes.proofs.Tests.{between_in, between_low, between_high}
use Rattle.read_bytes.proofs.Runs.{end_more, end_here, end_past}
use Rattle.read_names.proofs.Spelling.{name_letter, name_digit, name_neither}
use Rattle.read_names.proofs.spelling_end.Goals as goal
use Rattle.read_names.proofs.spelling_end.Goals.{then-b-lt97+else-b-lt48+else-b-gt57, else-b-lt97+else-b-gt122}

pub loop-i-init : goal.loop-i-init
loop-i-init c = refl

pub returns-then-b-lt48 : goal.returns-then-b-lt48
returns-then-b-lt48 c =
    let b = get_or c.args.s.now c.loop-i.i 0 in
    sym (c.loop-i.invariant ∙ end_here _ _ _ (omega arith) (name_neither b (between_low (byte "a") (byte "z") b (omega arith)) (between_low (byte "0") (byte "9") b (omega arith))))

pub returns-then-b-gt57 : goal.returns-then-b-gt57
returns-then-b-gt57 c =
    let b = get_or c.args.s.now c.loop-i.i 0 in
    sym (c.loop-i.invariant ∙ end_here _ _ _ (omega arith) (name_neither b (between_low (byte "a") (byte "z") b (omega arith)) (between_high (byte "0") (byte "9") b (omega arith))))

pub returns-then-b-gt122 : goal.returns-then-b-gt122
returns-then-b-gt122 c =
    let b = get_or c.args.s.now c.loop-i.i 0 in
    sym (c.loop-i.invariant ∙ end_here _ _ _ (omega arith) (name_neither b (between_high (byte "a") (byte "z") b (omega arith)) (between_high (byte "0") (byte "9") b (omega arith))))

pub loop-i-preserved : goal.loop-i-preserved
loop-i-preserved c =
    let b = get_or c.args.s.now c.loop-i.i 0 in
    let named : name_byte b ≡ true = elim c.if-b-lt97.branch [
      | then-b-lt97+else-b-lt48+else-b-gt57 w ↦ name_digit b (between_in (byte "0") (byte "9") b (omega arith) (omega arith))
      | else-b-lt97+else-b-gt122 w ↦ name_letter b (between_in (byte "a") (byte "z") b (omega arith) (omega arith))
    ] in
    c.loop-i.invariant ∙ end_more _ _ _ (omega arith) named

pub returns-then-at-s : goal.returns-then-at-s
returns-then-at-s c =
    let done : spelling_end c.args.s.now c.args.at ≡ c.loop-i.i = c.loop-i.invariant ∙ end_past _ _ _ (omega arith) in
    omega (arith, done, c.loop-i.auto.i-end)

pub returns-else-at-s : goal.returns-else-at-s
returns-else-at-s c = sym (end_past _ _ _ (omega arith))
