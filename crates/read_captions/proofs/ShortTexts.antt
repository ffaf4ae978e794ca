-- What is shown of the signals, where the names are declared and the captions were read, is at most as long as a caption.
-- Assumes nothing.
use mathlib.Core.Path.{◌≡◌, refl, ◌∙◌}
use mathlib.Core.List.{List, [], ◌∷◌}
use Prim.Native.Nat.{ℕ, suc, ◌≤◌}
use native.Mathlib.Omega.{arith}
use Rattle.std.specs.Prelude.{Option, Some, None}
use lib.ListN.{length, length-drop}
use Rattle.spec_limits.specs.Limits.{most_name_bytes, most_caption_bytes}
use Rattle.spec_tilco.specs.Lists.{All}
use Rattle.read_bytes.specs.Read.Read.{got}
use Rattle.read_names.specs.Spellings.{names_at}
use Rattle.read_index.specs.Index.{links, places_in, names_in}
use Rattle.read_index.proofs.Places.{names_in_many}
use Rattle.read_captions.specs.Captions.{captions_in}
use Rattle.read_captions.specs.Parts.{shown_part, part_text, shown_texts, Showable}
use Rattle.read_captions.proofs.NotedCaptions.{CaptionIn, Each, noted_many, noted_each, caption_inside}
use Rattle.read_captions.proofs.ShownParts.{name_text, caption_text}

-- A text is short enough to be shown.
abbrev pub Short : List ℕ → Type 0
Short w = length w ≤ most_caption_bytes

pub shown_short : (s c ps : List ℕ) (vs : List (Option ℕ)) → All (λ w. length w ≤ most_name_bytes) (names_at s ps) → Each c vs → All Short (shown_texts s c ps vs)
unfolding shown_texts names_at
shown_short s c [] vs a e = tt
shown_short s c (p ∷ ps) [] a e = tt
shown_short s c (p ∷ ps) (v ∷ vs) a e = (go v (e 0), shown_short s c ps vs a.1 (λ x. e (suc x)))
  where
    go : (o : Option ℕ) → ((w : ℕ) → o ≡ Some w → CaptionIn c w) → Short (part_text s c (shown_part s c p o))
    go (Some w) h = rw (caption_text s c p w) (h w refl).short
    go None h = rw (name_text s c p) (omega (arith, a.0))

-- T is the index of the names, and `at` has the captions that were read.
module _ (s T c : List ℕ) {at : List (Option ℕ)} {q : ℕ} (e : captions_in (names_in s T) c ≡ got at q) where
  pub showable : All (λ p. p ≤ length s) (places_in T) → Showable s c (places_in T) at
  showable a = record { many = noted_many (names_in s T) c e ∙ omega (arith, names_in_many s T, length-drop links T); names = a; within = caption_inside (names_in s T) c e }

  pub texts_short : All (λ w. length w ≤ most_name_bytes) (names_in s T) → All Short (shown_texts s c (places_in T) at)
  texts_short a = shown_short s c (places_in T) at a (noted_each (names_in s T) c e)
