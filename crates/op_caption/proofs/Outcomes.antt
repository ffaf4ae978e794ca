-- What the outcomes of caption say, with the sheet and the captions at hand.
-- Assumes what each law states. T is the index of the names in the sheet's text s; c is the captions' text, x the signal's number.
use mathlib.Core.Path.{◌≡◌, sym, ap, subst, ◌∙◌}
use mathlib.Core.List.{List}
use Prim.Native.Nat.{ℕ, ◌+◌, ◌<◌, ◌≤◌}
use native.Mathlib.Nat.{add-zero}
use native.Mathlib.Omega.{arith}
use borrow.Author.Tests.{lt-ltb, le-ltb}
use denote.Ref.{Bor}
use lib.ListN.{length, get_or, take, length-drop}
use lib.Seq.{get_or-drop}
use Rattle.std.specs.Prelude.{Option, None, Ok, Err, Result as Answer}
use Rattle.spec_refusals.specs.Numbers.{Refusal}
use Rattle.read_bytes.specs.Read.Read.{got, refused as unread}
use Rattle.spec_tilco.specs.Lists.{All}
use Rattle.spec_tilco.proofs.Lists.{all_nth}
use Rattle.read_head.specs.SheetHead.{first_places, NamesPut}
use Rattle.read_names.specs.Spellings.{names_at}
use Rattle.read_index.specs.Index.{links, places_in, name_count, names_in}
use Rattle.read_index.proofs.Places.{names_in_many}
use Rattle.read_captions.specs.declared.Part.{Part}
use Rattle.read_captions.specs.Captions.{captions_in}
use Rattle.read_captions.specs.Parts.{shown_part, CaptionWithin, Inside, Shows}
use Rattle.read_captions.proofs.NotedCaptions.{noted_many, caption_inside}
use Rattle.open_sheet.specs.Results.{Result, accepted, refused}
use Rattle.open_sheet.specs.SheetIn.{sheet_in}
use Rattle.open_sheet.specs.OpenedSheet.{OpenedSheet}
use Rattle.open_table.proofs.Tables.{names_stand}
use Rattle.spec_caption.specs.Captioning.{part_by, caption_part, ShowsCaption}
use Rattle.spec_caption.specs.Captioning.ShowsCaption.{shown, nothing}
use Rattle.spec_caption.proofs.PartPlaces.{part_inside}
use Rattle.op_caption.specs.CaptioningSays.{captioning_says}

module _ (s T c : List ℕ) (x : ℕ) where
  -- The captions are refused,
  pub captions_off : {n p : ℕ} → captions_in (names_in s T) c ≡ unread n p → refused n p ≡ part_by s c (places_in T) x (captions_in (names_in s T) c)
  captions_off e = rw e

  -- or they are in `at`.
  module _ {at : List (Option ℕ)} {q : ℕ} (e : captions_in (names_in s T) c ≡ got at q) where
    pub many : length at ≡ name_count T
    many = noted_many (names_in s T) c e ∙ names_in_many s T

    pub part_past : length at ≤ x → refused 17 0 ≡ part_by s c (places_in T) x (captions_in (names_in s T) c)
    part_past h = rw (e, le-ltb x (length (places_in T)) (omega (arith, many, length-drop links T)))

    module _ (h : x < length at) where
      pub part_shown : {a : Part} → a ≡ shown_part s c (get_or T (links + x) 0) (get_or at x None) → accepted a ≡ part_by s c (places_in T) x (captions_in (names_in s T) c)
      part_shown i = rw (e, lt-ltb x (length (places_in T)) (omega (arith, many, length-drop links T)), i, get_or-drop links T x 0)

      pub both_inside : All (λ p. p ≤ length s) (places_in T) → (get_or T (links + x) 0 ≤ length s) × CaptionWithin c (get_or at x None)
      both_inside a =
          (rw get_or-drop at (all_nth (λ p. p ≤ length s) 0 (places_in T) x a (omega (arith, many, length-drop links T))), caption_inside (names_in s T) c e x)

-- The sheet is refused, or it stands ready.
pub sheet_off : (s c : List ℕ) (x : ℕ) {n p : ℕ} → sheet_in s ≡ refused n p → refused n p ≡ caption_part s c x
unfolding caption_part
sheet_off s c x e = rw e

module _ {s T B tops : List ℕ} {n w t count : ℕ} (k : NamesPut s T n) (y : OpenedSheet s (first_places n T) B tops w t count) where
  pub places_inside : All (λ p. p ≤ length s) (first_places n T)
  places_inside = subst (All (λ p. p ≤ length s)) (sym y.names_are) (names_stand s y.holds)

  pub as_opened : (c : List ℕ) (x : ℕ) {R : Result Part} → R ≡ part_by s c (first_places n T) x (captions_in (names_at s (first_places n T)) c) → R ≡ caption_part s c x
  unfolding caption_part
  as_opened c x i = i ∙ rw (y.holds, y.names_are)

-- The answer as a slice.
module _ (s c : Bor (List ℕ)) (x : ℕ) {o : Answer Part Refusal} (e : captioning_says o ≡ caption_part s.now c.now x) where
  answer : {o' : Answer Part Refusal} → o ≡ o' → caption_part s.now c.now x ≡ captioning_says o'
  answer i = sym e ∙ ap captioning_says i

  pub inside : {a : Part} → o ≡ Ok a → Inside s.now c.now a
  inside i = part_inside s.now c.now x (answer i)

  pub shows_part : {r : Bor (List ℕ)} {a : Part} → o ≡ Ok a → Shows s c r a → ShowsCaption s c r (caption_part s.now c.now x)
  shows_part {r} i h = subst (ShowsCaption s c r) (sym (answer i)) (shown h)

  pub shows_nothing : {r : Bor (List ℕ)} {w : Refusal} → o ≡ Err w → r.ref_ptr ≡ s.ref_ptr → r.now ≡ take 0 s.now → ShowsCaption s c r (caption_part s.now c.now x)
  shows_nothing {r} i j k =
      let z : s.ref_ptr.1 ≡ s.ref_ptr.1 + 0 = sym (add-zero s.ref_ptr.1) in
      subst (ShowsCaption s c r) (sym (answer i)) (nothing (record { points = j ∙ ap (λ (m : ℕ). (s.ref_ptr.0, m)) z; holds = k }))
