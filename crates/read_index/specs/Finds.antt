-- What looking a spelling up finds.
-- Assumes nothing.
use Rattle.std.specs.Prelude.{◌≡◌, List, ℕ}
use Rattle.read_names.specs.Spellings.{spelling_at, spelling_end, find_name}
use Rattle.read_index.specs.declared.Found.{Found}
use Rattle.read_index.specs.Index.{slot_of}

-- Where the spelling at p of r ends, and its slot.
pub record Slotted (r : List ℕ) (p : ℕ) (k : ℕ × ℕ) : Type 0 where
  pub ends : k.0 ≡ spelling_end r p
  pub slot : k.1 ≡ slot_of (spelling_at r p)

-- The number of the first of the names that is the spelling at p of r, or how many names there are; where the spelling ends; and its slot.
pub record Finds (names : List (List ℕ)) (r : List ℕ) (p : ℕ) (f : Found) : Type 0 where
  pub found : f.signal ≡ find_name (spelling_at r p) names
  pub ends : f.end ≡ spelling_end r p
  pub slot : f.slot ≡ slot_of (spelling_at r p)
