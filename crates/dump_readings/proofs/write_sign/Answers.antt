-- `write_sign` meets its contract. Assumes nothing.
use native.Mathlib.Omega.{arith}
use Rattle.write_bytes.proofs.Writing.{nothing, like, counted_like}
use Rattle.dump_readings.proofs.SignTexts.{zero_text, one_text, no_text}
use Rattle.dump_readings.proofs.write_sign.Goals as goal

pub write_entry-requires : goal.write_entry-requires
write_entry-requires c =
    (c.requires.0, counted_like c.requires.1 (zero_text _ _ _ c.in-48.is))

pub returns-in-48 : goal.returns-in-48
returns-in-48 c = like (zero_text _ _ _ c.in-48.is) c.write_entry.ensures

pub write_entry-requires-in-49 : goal.write_entry-requires-in-49
write_entry-requires-in-49 c =
    (c.requires.0, counted_like c.requires.1 (one_text _ _ _ c.in-49.is))

pub returns-in-49 : goal.returns-in-49
returns-in-49 c = like (one_text _ _ _ c.in-49.is) c.write_entry-in-49.ensures

pub returns-in_default : goal.returns-in_default
returns-in_default c = like (no_text _ _ _ (λ e. omega arith) (λ e. omega arith)) nothing
