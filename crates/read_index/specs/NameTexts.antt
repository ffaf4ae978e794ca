-- What a name's text is, wherever it stands (01, "The sheet"; E8).
-- Assumes nothing. w is the text of a spelling.
use Rattle.std.specs.Prelude.{◌≡◌, Bool, true, false, List, [], ◌∷◌, ℕ, ◌≤◌, length}
use Rattle.spec_limits.specs.Limits.{most_name_bytes}
use Rattle.read_bytes.specs.Bytes.{bytes, letter}
use Rattle.read_names.specs.EndNumbers.{well_ended}
use Rattle.read_names.specs.Spellings.{same_text_lem}

-- Does it start with a letter?
abbrev pub starts_with_letter : List ℕ → Bool
starts_with_letter [] = false
starts_with_letter (b ∷ w) = letter b

-- "A name is a lower-case letter and then lower-case letters or digits, 1 to 16 in all; since and until are reserved"; digits at its end are an end number.
pub record NameText (w : List ℕ) : Type 0 where
  pub first : starts_with_letter w ≡ true
  pub short : length w ≤ most_name_bytes
  pub not_since : same_text_lem w (bytes "since") ≡ false
  pub not_until : same_text_lem w (bytes "until") ≡ false
  pub ended : well_ended w ≡ true
