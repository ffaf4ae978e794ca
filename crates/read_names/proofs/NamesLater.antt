-- What stands before a text changes only the places: spellings and names.
-- Assumes nothing.
use mathlib.Core.Path.{◌≡◌}
use mathlib.Core.Bool.{not, ◌&&◌}
use mathlib.Core.List.{List, ◌++◌}
use Prim.Native.Nat.{ℕ, ◌+◌}
use native.Mathlib.Omega.{arith}
use lib.Dec.{leb}
use lib.ListN.{length}
use Rattle.std.specs.Prelude.{Option, Some, None}
use Rattle.spec_limits.specs.Limits.{most_name_bytes}
use Rattle.read_bytes.specs.Bytes.{bytes, peek, letter, name_byte}
use Rattle.read_names.specs.EndNumbers.{end_number, well_ended}
use Rattle.read_names.specs.Spellings.{spelling_at, spelling_end, is_spelled, name_at}
use Rattle.read_bytes.proofs.Later.{pick_map, peek_later, starts_later, run_at_later, run_end_later}

-- A spelling that is read, its place d later.
abbrev pub later_word : ℕ → Option (ℕ × Option ℕ) → Option (ℕ × Option ℕ)
later_word d (Some (q, n)) = Some (d + q, n)
later_word d None = None

module _ (u t : List ℕ) where
  -- spellings
  pub is_word_later : (i : ℕ) (w : List ℕ) → is_spelled (u ++ t) (length u + i) w ≡ is_spelled t i w
  unfolding is_spelled
  is_word_later i w =
      let n : length u + i + length w ≡ length u + (i + length w) = omega arith in
      rw (n, starts_later u t i w, peek_later u t (i + length w))

  -- names
  pub name_at_later : (i : ℕ) → name_at (u ++ t) (length u + i) ≡ later_word (length u) (name_at t i)
  unfolding name_at
  name_at_later i =
      rw (peek_later u t i, run_at_later u t i name_byte, is_word_later i (bytes "since"), is_word_later i (bytes "until"), run_end_later u t i name_byte)
      (pick_map (later_word (length u)) (letter (peek t i) && leb (length (spelling_at t i)) most_name_bytes && not (is_spelled t i (bytes "since")) && not (is_spelled t i (bytes "until")) && well_ended (spelling_at t i)) (Some (spelling_end t i, end_number (spelling_at t i))) None)
