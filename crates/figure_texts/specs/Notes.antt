-- The entries of several texts noted as numbers in one array: which of them are kept for the runs.
-- Assumes nothing. `names` are the declared names in sheet order, W the window, ns the texts' lengths, j the joined texts, a the array of notes and cs how many
-- notes of each text are kept, one text's after the other's.
use Rattle.std.specs.Prelude.{◌≡◌, List, ℕ, ◌+◌, ◌<◌, ◌≤◌, length, get_or, take, drop, Result, Ok, Err}
use Rattle.spec_limits.specs.Limits.{most_readings}
use Rattle.spec_refusals.specs.Numbers.{fault_number, Refusal}
use Rattle.spec_tilco.specs.Inference.{Mark}
use Rattle.spec_tilco.specs.Lists.{total}
use Rattle.read_bytes.specs.Read.Read.{got, refused}
use Rattle.read_readings.specs.Readings.{entries}
use Rattle.read_readings.specs.SpanNumbers.{spans_in}
use Rattle.spec_figures.specs.Texts.{texts_in, marks_from}

-- The first i numbers, added up: where text i starts in the joined slice, and where its notes start in the array.
abbrev pub sum_to : List ℕ → ℕ → ℕ
sum_to ns i = total (λ n. n) (take i ns)

-- Text i.
abbrev pub text_at : List ℕ → List ℕ → ℕ → List ℕ
text_at ns j i = take (get_or ns i 0) (drop (sum_to ns i) j)

-- c notes of the text r are kept from place p of the array on: none, or all of them.
pub record NotesAt (names : List (List ℕ)) (W : ℕ) (r a : List ℕ) (p c : ℕ) : Type 0 where
  pub within : p + c ≤ length a
  pub all : 0 < c → (q : ℕ) × (entries names W r ≡ got (spans_in (drop p a) c) q)

-- The notes of each text are kept, or none of them.
abbrev pub Kept : List (List ℕ) → ℕ → List ℕ → List ℕ → List ℕ → List ℕ → Type 0
Kept names W ns j a cs = (i : ℕ) → i < length ns → NotesAt names W (text_at ns j i) a (sum_to cs i) (get_or cs i 0)

-- What each outcome of noting says of the texts and the array: every text is accepted, or the first refusal is given.
pub data TextsNoted (names : List (List ℕ)) (W : ℕ) (ns j a cs : List ℕ) : Result (Unit {0}) Refusal → Type 0 where
  all_noted : (mss : List (List Mark)) (q : ℕ) → marks_from names W 0 (texts_in ns j) ≡ got mss q → Kept names W ns j a cs → TextsNoted names W ns j a cs (Ok tt)
  refused_at : (r : Refusal) → marks_from names W 0 (texts_in ns j) ≡ refused (fault_number r.fault) r.place → TextsNoted names W ns j a cs (Err r)

-- Of so many notes, where the array has `room` places for them, all are kept if the entries of any text have places after them, or none.
pub record Keeps (count room kept : ℕ) : Type 0 where
  pub all : 0 < kept → kept ≡ count
  pub places : most_readings + kept ≤ room
