-- The two cases of a part that is shown: the caption of the name's line, or the name, which is not empty.
-- Assumes nothing. `s` is the sheet's text with the contents k, c the captions' text, x the signal's number.
use mathlib.Core.Path.{◌≡◌, refl, sym, ap, subst, ◌∙◌}
use mathlib.Core.List.{List, []}
use Prim.Native.Nat.{ℕ, ◌-◌, ◌<◌, ◌≤◌}
use native.Mathlib.Omega.{arith}
use Rattle.std.specs.Prelude.{Option, Some, None}
use Rattle.read_bytes.proofs.Values.{same_some}
use lib.ListN.{length, get_or, take, drop}
use Rattle.spec_tilco.proofs.Lists.{all_nth}
use Rattle.read_bytes.specs.Bytes.{name_byte, run_end}
use Rattle.read_bytes.proofs.Runs.{run_slice}
use Rattle.read_names.specs.Spellings.{find_name, spelling_at, spelling_end}
use Rattle.read_names.proofs.Names.{find_is, names_many, names_at_lem, name_reach}
use Rattle.read_captions.specs.declared.Part.{Part}
use Rattle.read_captions.specs.declared.Part.TheVariants.{InSheet, InCaptions}
use Rattle.read_captions.specs.Captions.{caption_at}
use Rattle.read_captions.specs.Parts.{shown_part}
use Rattle.read_sheet.specs.Sheet.{Contents}
use Rattle.open_sheet.specs.SheetIn.{names_in}
use Rattle.write_readings.proofs.ReadableNames.{WholeName, find_back}
use Rattle.spec_moves.proofs.ReadableNames.{names_readable}
use Rattle.proof_caption.specs.CaptionTexts.{HasLine}
use Rattle.proof_caption.specs.CaptionCases.{name_of, NoLine}
use Rattle.proof_caption.proofs.CaptionPlaces.{caption_there, captions_place, place_captions, captions_none}
use Rattle.spec_caption.proofs.PartPlaces.{PartRead}

-- The part by the caption's place.
module _ (s c : List ℕ) (p : ℕ) {o : Option ℕ} where
  with_caption : {v : ℕ} → o ≡ Some v → shown_part s c p o ≡ InCaptions v (length (caption_at c v))
  unfolding shown_part
  with_caption z = rw z

  with_none : o ≡ None → shown_part s c p o ≡ InSheet p (length (spelling_at s p))
  unfolding shown_part
  with_none z = rw z

-- The two cases of a part that is shown.
pub data ShownBy (s c : List ℕ) (k : Contents) (x : ℕ) (a : Part) : Type 0 where
  by_line : {w : List ℕ} {v : ℕ} → HasLine c (name_of s k x) w v → a ≡ InCaptions v (length w) → ShownBy s c k x a
  by_name : NoLine c (name_of s k x) → a ≡ InSheet (get_or k.places x 0) (length (name_of s k x)) → ShownBy s c k x a

module _ (s c : List ℕ) {x : ℕ} {k : Contents} {a : Part} (r : PartRead s c x k a) where
  name_number : x < length (names_in s k)
  name_number = omega (arith, r.number, names_many s k.places)

  found : find_name (name_of s k x) (names_in s k) ≡ x
  found = find_back (names_in s k) (names_readable s r.sheet).differ x name_number

  pub name_there : name_of s k x ≡ spelling_at s (get_or k.places x 0)
  name_there = names_at_lem s k.places x r.number

  pub name_cut : take (length (name_of s k x)) (drop (get_or k.places x 0) s) ≡ name_of s k x
  unfolding run_end
  name_cut =
      let p = get_or k.places x 0 in
      let n : spelling_end s p - p ≡ length (spelling_at s p) = omega arith in
      rw (name_there, ← n) (run_slice name_byte s p (spelling_end s p) refl)

  pub name_some : 1 ≤ length (name_of s k x)
  name_some =
      let h = name_reach (name_of s k x) 0 (all_nth WholeName [] (names_in s k) x (names_readable s r.sheet).whole name_number) in
      omega (arith, h.0.ahead)

  pub shown_by : ShownBy s c k x a
  shown_by = go (get_or r.at x None) refl
    where
      go : (o : Option ℕ) → get_or r.at x None ≡ o → ShownBy s c k x a
      go None z =
          by_name (λ l v h. (captions_none (names_in s k) c r.captions x).0 z (name_of s k x) l v h found)
          (r.part ∙ with_none s c (get_or k.places x 0) z ∙ ap (λ w. InSheet (get_or k.places x 0) (length w)) (sym name_there))
      go (Some v) z =
          let o = captions_place (names_in s k) c r.captions x v z in
          let i : o.0 ≡ name_of s k x = sym (find_is o.0 (names_in s k) (rw o.3 name_number)) ∙ ap (λ (y : ℕ). get_or (names_in s k) y []) o.3 in
          by_line (subst (λ u. HasLine c u o.1 v) i o.2)
          (r.part ∙ with_caption s c (get_or k.places x 0) z ∙ ap (λ w. InCaptions v (length w)) (caption_there o.2))

  -- The name has one line at most.
  pub line_one : {w l : List ℕ} {u v : ℕ} → HasLine c (name_of s k x) w u → HasLine c (name_of s k x) l v → (u ≡ v) × (w ≡ l)
  line_one {w} {l} {u} {v} h g =
      let i : u ≡ v = same_some (sym (place_captions (names_in s k) c r.captions h found) ∙ place_captions (names_in s k) c r.captions g found) in
      (i, sym (caption_there h) ∙ ap (caption_at c) i ∙ caption_there g)
