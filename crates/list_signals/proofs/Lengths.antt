-- How long signs and the lines of a signal are.
-- Assumes nothing.
use mathlib.Core.Path.{◌≡◌, refl, ap}
use mathlib.Core.List.{List}
use Prim.Native.Nat.{ℕ, zero, suc, ◌+◌}
use native.Mathlib.Omega.{arith}
use lib.ListN.{length, length-append}
use Rattle.read_bytes.specs.Bytes.{bytes}
use Rattle.spec_tilco.specs.Table.{Answer}
use Rattle.write_lines.specs.LineTexts.{line_text}
use Rattle.write_lines.proofs.Lengths.{line_length}
use Rattle.list_signals.specs.Signals.{signs, signal_text}

pub signs_length : (f : ℕ → Answer) (t n : ℕ) → length (signs f t n) ≡ n
unfolding signs
signs_length f t zero = refl
signs_length f t (suc n) = ap suc (signs_length f (suc t) n)

pub signal_length : (name marks : List ℕ) → length (signal_text name marks) ≡ length name + length marks + 15
unfolding signal_text
signal_length name marks =
    omega (arith, length-append (line_text (bytes "signal=") name) (line_text (bytes "marks=") marks), line_length (bytes "signal=") name, line_length (bytes "marks=") marks)
