-- The part that is shown of a signal: where it lies, and the slice that is made of it.
-- Assumes nothing. `whole` is a lent slice.
use mathlib.Core.Path.{◌≡◌, refl, sym, ap, ap₂, subst, ◌∙◌}
use mathlib.Core.List.{List, [], ◌∷◌}
use Prim.Native.Nat.{ℕ, zero, suc, ◌+◌, ◌-◌, ◌<◌, ◌≤◌}
use native.Mathlib.Omega.{arith}
use denote.Ref.{Bor}
use lib.ListN.{length, get_or, take, drop}
use Rattle.std.specs.Prelude.{Option, Some, None}
use Rattle.spec_tilco.proofs.Lists.{all_nth}
use Rattle.read_bytes.specs.Bytes.{name_byte, run_end}
use Rattle.read_names.specs.Spellings.{spelling_at, spelling_end, names_at}
use Rattle.read_bytes.proofs.Runs.{end_reach, run_slice}
use Rattle.read_captions.specs.declared.Part.{Part}
use Rattle.read_captions.specs.declared.Part.TheVariants.{InSheet, InCaptions}
use Rattle.read_captions.specs.Parts.{shown_part, part_text, shown_texts, CaptionWithin, Showable, Inside, PartOf, Shows}
use Rattle.read_captions.specs.Captions.{printable, caption_at, caption_end, no_captions}
use Rattle.read_captions.specs.Parts.Shows.{of_sheet, of_captions}

module _ (s c : List ℕ) {part : Part} (h : Inside s c part) {a n : ℕ} where
  pub in_sheet : part ≡ InSheet a n → a + n ≤ length s
  in_sheet e = subst (Inside s c) e h

  pub in_captions_lem : part ≡ InCaptions a n → a + n ≤ length c
  in_captions_lem e = subst (Inside s c) e h

-- What is shown, by the place after it.
module _ (s c : List ℕ) (p : ℕ) where
  pub shows_name : {e : ℕ} → e ≡ spelling_end s p → InSheet p (e - p) ≡ shown_part s c p None
  unfolding shown_part run_end
  shows_name {e} i = let j : e - p ≡ length (spelling_at s p) = omega arith in rw j

  pub shows_caption : (v : ℕ) {e : ℕ} → e ≡ caption_end c v → InCaptions v (e - v) ≡ shown_part s c p (Some v)
  unfolding shown_part run_end
  shows_caption v {e} i = let j : e - v ≡ length (caption_at c v) = omega arith in rw j

  -- It lies in its text, and its bytes are the caption or the name.
  pub shown_inside : (v : Option ℕ) → p ≤ length s → CaptionWithin c v → Inside s c (shown_part s c p v)
  shown_inside None l k = subst (Inside s c) (shows_name {e = spelling_end s p} refl) (let w = end_reach name_byte s p l in omega (arith, w.ahead, w.inside))
  shown_inside (Some v) l k = subst (Inside s c) (shows_caption v {e = caption_end c v} refl) (let w = end_reach printable c v k in omega (arith, w.ahead, w.inside))

  pub name_text : part_text s c (shown_part s c p None) ≡ spelling_at s p
  name_text = ap (part_text s c) (sym (shows_name {e = spelling_end s p} refl)) ∙ run_slice name_byte s p (spelling_end s p) refl

  pub caption_text : (v : ℕ) → part_text s c (shown_part s c p (Some v)) ≡ caption_at c v
  caption_text v = ap (part_text s c) (sym (shows_caption v {e = caption_end c v} refl)) ∙ run_slice printable c v (caption_end c v) refl

-- What is shown of signal x.
pub shown_at : (s c ps : List ℕ) (vs : List (Option ℕ)) (x : ℕ) → length vs ≡ length ps → x < length ps → get_or (shown_texts s c ps vs) x [] ≡ part_text s c (shown_part s c (get_or ps x 0) (get_or vs x None))
unfolding shown_texts
shown_at s c [] vs x e h = absurd (omega arith)
shown_at s c (p ∷ ps) [] x e h = absurd (omega arith)
shown_at s c (p ∷ ps) (v ∷ vs) zero e h = refl
shown_at s c (p ∷ ps) (v ∷ vs) (suc x) e h = shown_at s c ps vs x (omega arith) (omega arith)

pub shown_many : (s c ps : List ℕ) (vs : List (Option ℕ)) → length vs ≡ length ps → length (shown_texts s c ps vs) ≡ length ps
unfolding shown_texts
shown_many s c [] vs e = refl
shown_many s c (p ∷ ps) [] e = absurd (omega arith)
shown_many s c (p ∷ ps) (v ∷ vs) e = ap suc (shown_many s c ps vs (omega arith))

-- Without captions the names are shown.
pub shown_names : (s c ps : List ℕ) → shown_texts s c ps (no_captions (length ps)) ≡ names_at s ps
unfolding shown_texts names_at no_captions
shown_names s c [] = refl
shown_names s c (p ∷ ps) = ap₂ ◌∷◌ (name_text s c p) (shown_names s c ps)

-- The bytes of the slice.
pub shows_text : {s c r : Bor (List ℕ)} {a : Part} → Shows s c r a → r.now ≡ part_text s.now c.now a
shows_text (of_sheet h) = h.holds
shows_text (of_captions h) = h.holds

-- Where the places of names and captions are known.
module _ {s c ps : List ℕ} {vs : List (Option ℕ)} (h : Showable s c ps vs) {x : ℕ} (l : x < length ps) where
  pub places_in_lem : (get_or ps x 0 ≤ length s) × CaptionWithin c (get_or vs x None)
  places_in_lem = (all_nth (λ p. p ≤ length s) 0 ps x h.names l, h.within x)

  pub part_in : {a : Part} → a ≡ shown_part s c (get_or ps x 0) (get_or vs x None) → Inside s c a
  part_in e = subst (Inside s c) (sym e) (shown_inside s c (get_or ps x 0) (get_or vs x None) places_in_lem.0 places_in_lem.1)

  pub text_is : {a : Part} {w : List ℕ} → a ≡ shown_part s c (get_or ps x 0) (get_or vs x None) → w ≡ part_text s c a → w ≡ get_or (shown_texts s c ps vs) x []
  text_is e i = i ∙ ap (part_text s c) e ∙ sym (shown_at s c ps vs x h.many l)

-- A slice of n bytes from a on.
module _ (whole : Bor (List ℕ)) {r : Bor (List ℕ)} (a n : ℕ) where
  pub part_made : r.ref_ptr ≡ (whole.ref_ptr.0, a + whole.ref_ptr.1) → r.now ≡ take (a + n - a) (drop a whole.now) → PartOf whole a n r
  part_made p t =
      let i : a + whole.ref_ptr.1 ≡ whole.ref_ptr.1 + a = omega arith in
      let j : a + n - a ≡ n = omega arith in
      record { points = p ∙ ap (λ (k : ℕ). (whole.ref_ptr.0, k)) i; holds = t ∙ ap (λ (k : ℕ). take k (drop a whole.now)) j }

module _ {s c r : Bor (List ℕ)} {part : Part} {a n : ℕ} where
  pub shows_sheet : part ≡ InSheet a n → PartOf s a n r → Shows s c r part
  shows_sheet e h = subst (Shows s c r) (sym e) (of_sheet h)

  pub shows_captions : part ≡ InCaptions a n → PartOf c a n r → Shows s c r part
  shows_captions e h = subst (Shows s c r) (sym e) (of_captions h)
