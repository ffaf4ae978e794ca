-- An entry's text as what the calls write, one after the other.
-- Assumes nothing.
use mathlib.Core.Path.{◌≡◌, refl, ap, ◌∙◌}
use mathlib.Core.Bool.{Bool, true, false}
use mathlib.Core.List.{List, ◌++◌}
use Prim.Native.Nat.{ℕ, ◌<◌}
use lib.ListN.{length, get_or}
use Rattle.read_bytes.specs.Bytes.{bytes}
use Rattle.read_names.specs.Spellings.{spelling_at, names_at}
use Rattle.read_names.proofs.Names.{names_at_lem}
use Rattle.read_reading.specs.Spans.{span}
use Rattle.write_bytes.specs.Writes.{decimal_text, last_digits}
use Rattle.write_lines.specs.LineTexts.{line_text, number_text, one_if}
use Rattle.write_readings.specs.EntryTexts.{value_text, entry_text}

-- The last two lines: the name at the signal's place, and the value as 0 or 1.
pub value_parts : (s ps : List ℕ) (x : ℕ) (v : Bool) (bit : ℕ) → x < length ps → bit ≡ one_if v
    → value_text (names_at s ps) (span x v 0 0) ≡ line_text (bytes "signal=") (spelling_at s (get_or ps x 0)) ++ number_text (bytes "value=") bit
unfolding value_text
value_parts s ps x v bit h e = rw (names_at_lem s ps x h, e)

-- The line of a value, as it is written.
pub value_one : number_text (bytes "value=") 1 ≡ bytes "value=1\n"
unfolding line_text decimal_text last_digits
value_one = refl

pub value_nought : number_text (bytes "value=") 0 ≡ bytes "value=0\n"
unfolding line_text decimal_text last_digits
value_nought = refl

-- The last two lines, where the second is known.
pub value_with : (s ps : List ℕ) (x : ℕ) (v : Bool) (line : List ℕ) → x < length ps → number_text (bytes "value=") (one_if v) ≡ line
    → value_text (names_at s ps) (span x v 0 0) ≡ line_text (bytes "signal=") (spelling_at s (get_or ps x 0)) ++ line
value_with s ps x v line h e = value_parts s ps x v (one_if v) h refl ∙ ap (λ (l : List ℕ). line_text (bytes "signal=") (spelling_at s (get_or ps x 0)) ++ l) e

module _ (spans : Bool) (names : List (List ℕ)) (x : ℕ) (v : Bool) (first last : ℕ) where
  -- A span's lines.
  pub span_parts : spans ≡ true → entry_text spans names (span x v first last) ≡ number_text (bytes "from=") first ++ (number_text (bytes "to=") last ++ value_text names (span x v 0 0))
  unfolding entry_text value_text
  span_parts e = rw e

  -- A reading's.
  pub reading_parts : spans ≡ false → entry_text spans names (span x v first last) ≡ number_text (bytes "at=") first ++ value_text names (span x v 0 0)
  unfolding entry_text value_text
  reading_parts e = rw e
