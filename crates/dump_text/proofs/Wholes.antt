-- The whole dump of a table: its head, the signs at tick 0 and the changes, whose places can be counted. Assumes nothing.
use mathlib.Core.Path.{◌≡◌, ap}
use mathlib.Core.List.{List, ◌++◌}
use Prim.Native.Nat.{ℕ}
use lib.ListN.{length}
use Rattle.read_names.specs.Spellings.{names_at}
use Rattle.read_names.proofs.Names.{names_many}
use Rattle.write_bytes.specs.Writes.{Counted}
use Rattle.write_bytes.proofs.Writing.{counted_like}
use Rattle.spec_dump.specs.DumpTexts.{head_text, dump_text}
use Rattle.spec_dump.specs.TableSigns.{sign_events}
use Rattle.dump_changes.specs.WordSigns.{row_sign}
use Rattle.dump_text.specs.TableTexts.{CanDump, ShortNames, first_text, later_text}
use Rattle.dump_text.proofs.Stretches.{all_lines}
use Rattle.dump_text.proofs.Lengths.{dump_counted}

-- The signals' names stand at the places ps of the text s.
module _ (s ps : List ℕ) {W n : ℕ} {T : List ℕ} (d : CanDump (length ps) W n T) where
  pub whole : dump_text (names_at s ps) (sign_events (row_sign n T) (length ps) W) ≡ head_text (names_at s ps) ++ (first_text (length ps) n T 0 ++ later_text (length ps) W n T 0)
  unfolding dump_text
  whole = ap (λ (l : List ℕ). head_text (names_at s ps) ++ l) (all_lines (row_sign n T) (length ps) W d.some)

  pub whole_counted : ShortNames (names_at s ps) → Counted 0 (head_text (names_at s ps) ++ (first_text (length ps) n T 0 ++ later_text (length ps) W n T 0))
  whole_counted h = counted_like (dump_counted (row_sign n T) (names_at s ps) (length ps) W h (names_many s ps) d.few d.most) whole
