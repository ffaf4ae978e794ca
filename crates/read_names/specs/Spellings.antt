-- Spellings, and names among them (01, "The sheet"; E8).
-- Assumes nothing.
use Rattle.std.specs.Prelude.{◌≡◌, ℕ, suc, ◌+◌, ◌-◌, ◌≤◌, List, [], ◌∷◌, Bool, true, false, not, ◌&&◌, ◌||◌, length, take, drop, leb, eqb, Option, Some, None}
use Rattle.spec_limits.specs.Limits.{most_name_bytes}
use Rattle.read_names.specs.EndNumbers.{stem, end_number, well_ended}
use Rattle.read_bytes.specs.Bytes.{bytes, peek, pick, letter, digit, name_byte, starts, run, run_at, run_end, every}

-- The spelling that a text starts with: its letters and digits up to the first byte that is neither.
abbrev pub spelling : List ℕ → List ℕ
spelling = run name_byte

-- The spelling at p.
abbrev pub spelling_at : List ℕ → ℕ → List ℕ
spelling_at = run_at name_byte

-- The place after the spelling at p.
abbrev pub spelling_end : List ℕ → ℕ → ℕ
spelling_end = run_end name_byte

-- The place where the digits at the end of the spelling at p start.
abbrev pub stem_end : List ℕ → ℕ → ℕ
stem_end s p = p + length (stem (spelling_at s p))

-- The names at these places of a text.
unfoldable pub names_at : List ℕ → List ℕ → List (List ℕ)
names_at s [] = []
names_at s (p ∷ ps) = spelling_at s p ∷ names_at s ps

-- Are two texts the same?
unfoldable pub same_text_lem : List ℕ → List ℕ → Bool
same_text_lem [] [] = true
same_text_lem [] (y ∷ b) = false
same_text_lem (x ∷ a) [] = false
same_text_lem (x ∷ a) (y ∷ b) = eqb x y && same_text_lem a b

-- The number, from 0, of the first name that is w; or how many names there are.
unfoldable pub find_name : List ℕ → List (List ℕ) → ℕ
find_name w [] = 0
find_name w (n ∷ ns) = pick (not (same_text_lem n w)) (λ _. suc (find_name w ns)) 0

-- Is the spelling at p the spelling w?
unfoldable pub is_spelled : List ℕ → ℕ → List ℕ → Bool
is_spelled s p w = starts s p w && not (name_byte (peek s (p + length w)))

-- Is the spelling at p a reserved word: since or until?
unfoldable pub is_reserved : List ℕ → ℕ → Bool
is_reserved s p = is_spelled s p (bytes "since") || is_spelled s p (bytes "until")

-- A name from p on: a letter, then letters or digits, 1 to 16 in all, neither since nor until, and digits at its end are an end number. Or no name.
unfoldable pub name_at : List ℕ → ℕ → Option (ℕ × Option ℕ)
name_at s p =
    pick
    (letter (peek s p) && leb (length (spelling_at s p)) most_name_bytes && not (is_spelled s p (bytes "since")) && not (is_spelled s p (bytes "until"))
    && well_ended (spelling_at s p))
    (λ _. Some (spelling_end s p, end_number (spelling_at s p))) None

-- The spelling at p of s ends at e.
pub record Spelled (s : List ℕ) (p e : ℕ) : Type 0 where
  pub from : p ≤ e
  pub ends : e ≡ spelling_end s p
  pub inside : e ≤ length s

-- From i up to e of s there are digits alone, and none stands at e.
pub record DigitsTo (s : List ℕ) (i e : ℕ) : Type 0 where
  pub from : i ≤ e
  pub inside : e ≤ length s
  pub digits : every digit (take (e - i) (drop i s)) ≡ true
  pub stops : digit (peek s e) ≡ false
