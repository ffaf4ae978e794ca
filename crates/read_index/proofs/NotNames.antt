-- What is no spelling is not among the names of an index.
-- Assumes nothing. w is any text.
use mathlib.Core.Path.{◌≡◌}
use mathlib.Core.Bool.{true}
use mathlib.Core.List.{List}
use Prim.Native.Nat.{ℕ, ◌+◌, ◌<◌}
use native.Mathlib.Omega.{arith}
use native.Mathlib.Decide.{dec_lt}
use lib.ListN.{length, get_or}
use Rattle.read_bytes.specs.Bytes.{name_byte, every}
use Rattle.read_names.specs.Spellings.{find_name}
use Rattle.read_bytes.proofs.Runs.{run_every}
use Rattle.read_names.proofs.Names.{find_is, find_most}
use Rattle.read_index.specs.Index.{links, name_count, names_in}
use Rattle.read_index.proofs.Places.{names_in_many, name_in}

module _ (s T w : List ℕ) where
  -- A text that is found among them is a spelling.
  pub found_bytes : find_name w (names_in s T) < length (names_in s T) → every name_byte w ≡ true
  found_bytes h =
      let i = find_name w (names_in s T) in
      let l : links + i < length T = omega (arith, names_in_many s T) in
      rw (← find_is w (names_in s T) h, name_in s T i l) (run_every name_byte s (get_or T (links + i) 0))

  pub not_found : (every name_byte w ≡ true → ⊥) → find_name w (names_in s T) ≡ name_count T
  not_found n = go (dec_lt (find_name w (names_in s T)) (length (names_in s T)))
    where
      go : Dec (find_name w (names_in s T) < length (names_in s T)) → find_name w (names_in s T) ≡ name_count T
      go (yes h) = absurd (n (found_bytes h))
      go (no h) = omega (arith, find_most w (names_in s T), names_in_many s T)
