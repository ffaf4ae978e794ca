-- The index of the declared names, by which one is found without a search through all of them.
-- Assumes nothing. An index T has three parts: for each slot the last name in it; for each name the last one before it in the same slot; the places of the
-- names in the sheet's text. A name in the first two parts is its number and one, and 0 is none.
use Rattle.std.specs.Prelude.{◌≡◌, List, [], ◌∷◌, ℕ, zero, suc, ◌+◌, ◌-◌, ◌*◌, ◌/◌, ◌%◌, ◌<◌, ◌≤◌, eqb, length, get_or, set, take, drop}
use Rattle.spec_limits.specs.Limits.{most_signals}
use Rattle.spec_tilco.specs.Lists.{All}
use Rattle.read_bytes.specs.Bytes.{pick}
use Rattle.read_names.specs.Spellings.{names_at}
use Rattle.read_index.specs.NameTexts.{NameText}

-- How many slots there are, what stands before the names' places, and the whole of an index.
abbrev pub slots : ℕ
slots = 64

abbrev pub links : ℕ
links = slots + most_signals

abbrev pub index_numbers : ℕ
index_numbers = links + most_signals

-- How many numbers a spelling's bytes are mixed to, 2 ^ 32; the golden ratio's part of them, which spreads what it multiplies; how many share a slot.
abbrev pub mixed_numbers : ℕ
mixed_numbers = 4294967296

abbrev pub golden : ℕ
golden = 2654435769

abbrev pub per_slot : ℕ
per_slot = mixed_numbers / slots

-- A number mixed from the bytes of a spelling, each with those before it.
unfoldable pub mixed : ℕ → List ℕ → ℕ
mixed h [] = h
mixed h (b ∷ w) = mixed ((h + b) * golden % mixed_numbers) w

-- The slot of a spelling.
unfoldable pub slot_of : List ℕ → ℕ
slot_of w = mixed 0 w / per_slot

-- The places of the names.
abbrev pub places_in : List ℕ → List ℕ
places_in T = drop links T

-- How many names there are.
abbrev pub name_count : List ℕ → ℕ
name_count T = length T - links

-- The index of the first n names.
abbrev pub first_names : ℕ → List ℕ → List ℕ
first_names n T = take (links + n) T

-- The names that the index of a text has.
abbrev pub names_in : List ℕ → List ℕ → List (List ℕ)
names_in s T = names_at s (places_in T)

-- The last of the first k names that is in the slot b.
unfoldable pub last_in : List (List ℕ) → ℕ → ℕ → ℕ
last_in names b zero = 0
last_in names b (suc k) = pick (eqb (slot_of (get_or names k [])) b) (λ _. suc k) (last_in names b k)

-- T is the index of these names.
pub record Indexed (names : List (List ℕ)) (T : List ℕ) : Type 0 where
  pub long : links ≤ length T
  pub few : length T ≤ index_numbers
  pub lasts : (b : ℕ) → b < slots → get_or T b 0 ≡ last_in names b (name_count T)
  pub befores : (i : ℕ) → links + i < length T → get_or T (slots + i) 0 ≡ last_in names (slot_of (get_or names i [])) i
  pub known : All NameText names

-- T is an index of the text s.
abbrev pub IndexOf : List ℕ → List ℕ → Type 0
IndexOf s T = Indexed (names_in s T) T

-- A name more, at place p and in slot b, after the first k.
unfoldable pub put_name : List ℕ → ℕ → ℕ → ℕ → List ℕ
put_name T k p b = set (set (set T (links + k) p) (slots + k) (get_or T b 0)) b (suc k)
