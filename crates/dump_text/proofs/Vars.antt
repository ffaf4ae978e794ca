-- The lines of the signals, one after the other. Assumes nothing.
use mathlib.Core.Path.{◌≡◌}
use mathlib.Core.List.{List, [], ◌++◌}
use Prim.Native.Nat.{ℕ, ◌+◌, ◌<◌, ◌≤◌}
use native.Mathlib.Numerals.{add-one}
use lib.ListN.{length, get_or, drop, drop_of_length-le}
use Rattle.read_bytes.proofs.Places.{drop_in}
use Rattle.read_names.specs.Spellings.{spelling_at, names_at}
use Rattle.spec_dump.specs.DumpTexts.{var_text, vars_text}

-- The signals from x on, whose names stand at the places ps of the text s.
module _ (s ps : List ℕ) (x : ℕ) where
  pub vars_next : x < length ps → vars_text x (names_at s (drop x ps)) ≡ var_text x (spelling_at s (get_or ps x 0)) ++ vars_text (x + 1) (names_at s (drop (x + 1) ps))
  unfolding vars_text names_at
  vars_next h = rw (drop_in ps x 0 h, add-one)

  pub vars_end : length ps ≤ x → vars_text x (names_at s (drop x ps)) ≡ []
  unfolding vars_text names_at
  vars_end h = rw (drop_of_length-le ps h)
