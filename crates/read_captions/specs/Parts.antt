-- What is shown of a signal (E7): "the caption shown is a part of the caption text where the name has a line, else the name itself as a part of the sheet".
-- Assumes nothing. `s` is the sheet's text and c the captions' text; a name stands at p in s, and v is the place of its caption in c, where it has one.
use Rattle.std.specs.Prelude.{◌≡◌, List, [], ◌∷◌, ℕ, ◌+◌, ◌≤◌, length, get_or, take, drop, Option, Some, None}
use Rattle.std.specs.Borrow.{Bor}
use Rattle.spec_tilco.specs.Lists.{All}
use Rattle.read_names.specs.Spellings.{spelling_at}
use Rattle.read_captions.specs.declared.Part.{Part}
use Rattle.read_captions.specs.declared.Part.TheVariants.{InSheet, InCaptions}
use Rattle.read_captions.specs.Captions.{caption_at}

-- The part that is shown: which text, where it starts, and its length.
unfoldable pub shown_part : List ℕ → List ℕ → ℕ → Option ℕ → Part
shown_part s c p (Some v) = InCaptions v (length (caption_at c v))
shown_part s c p None = InSheet p (length (spelling_at s p))

-- Its bytes.
abbrev pub part_text : List ℕ → List ℕ → Part → List ℕ
part_text s c (InSheet a n) = take n (drop a s)
part_text s c (InCaptions a n) = take n (drop a c)

-- What is shown of each signal.
unfoldable pub shown_texts : List ℕ → List ℕ → List ℕ → List (Option ℕ) → List (List ℕ)
shown_texts s c [] vs = []
shown_texts s c (p ∷ ps) [] = []
shown_texts s c (p ∷ ps) (v ∷ vs) = part_text s c (shown_part s c p v) ∷ shown_texts s c ps vs

-- A caption that there is stands in c.
abbrev pub CaptionWithin : List ℕ → Option ℕ → Type 0
CaptionWithin c (Some v) = v ≤ length c
CaptionWithin c None = Unit {0}

-- Names stand at these places of s, and each has a caption in c, or none.
pub record Showable (s c places : List ℕ) (captions : List (Option ℕ)) : Type 0 where
  pub many : length captions ≡ length places
  pub names : All (λ p. p ≤ length s) places
  pub within : (x : ℕ) → CaptionWithin c (get_or captions x None)

-- A part lies in its text.
abbrev pub Inside : List ℕ → List ℕ → Part → Type 0
Inside s c (InSheet a n) = a + n ≤ length s
Inside s c (InCaptions a n) = a + n ≤ length c

-- The slice r is the part of the slice `whole` from a on, n long: it points there, and holds what stands there.
pub record PartOf (whole : Bor (List ℕ)) (a n : ℕ) (r : Bor (List ℕ)) : Type 0 where
  pub points : r.ref_ptr ≡ (whole.ref_ptr.0, whole.ref_ptr.1 + a)
  pub holds : r.now ≡ take n (drop a whole.now)

-- The slice r is the part: of which of the two slices, and at which place.
pub data Shows (s c r : Bor (List ℕ)) : Part → Type 0 where
  of_sheet : {a n : ℕ} → PartOf s a n r → Shows s c r (InSheet a n)
  of_captions : {a n : ℕ} → PartOf c a n r → Shows s c r (InCaptions a n)
