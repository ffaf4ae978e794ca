-- A part that is shown: the captions that were read, and that it lies in its text.
-- Assumes nothing. `s` is the sheet's text, c the captions' text, x the signal's number.
use mathlib.Core.Path.{◌≡◌, refl, sym, subst}
use mathlib.Core.Bool.{Bool, true, false}
use mathlib.Core.List.{List}
use Prim.Native.Nat.{ℕ, ◌<◌, ◌≤◌}
use native.Mathlib.Omega.{arith}
use borrow.Author.Tests.{ltb-true}
use lib.Dec.{ltb}
use lib.ListN.{length, get_or}
use Rattle.std.specs.Prelude.{Option, None}
use Rattle.read_bytes.specs.Read.{Read}
use Rattle.read_bytes.specs.Read.Read.{got, refused as unread}
use Rattle.read_bytes.specs.Bytes.{pick}
use Rattle.spec_tilco.proofs.Lists.{all_nth}
use Rattle.read_captions.specs.declared.Part.{Part}
use Rattle.read_captions.specs.Captions.{captions_in}
use Rattle.read_captions.specs.Parts.{shown_part, Inside}
use Rattle.read_captions.proofs.NotedCaptions.{caption_inside}
use Rattle.read_captions.proofs.ShownParts.{shown_inside}
use Rattle.read_sheet.specs.Sheet.{Contents}
use Rattle.open_sheet.specs.Results.{Result, accepted, refused}
use Rattle.open_sheet.specs.SheetIn.{sheet_in, names_in}
use Rattle.open_table.proofs.Tables.{accepted_one, names_stand}
use Rattle.spec_caption.specs.Captioning.{part_by, part_of, caption_part}

-- What is known of the part a that is shown: the sheet holds k, and `at` has the captions.
pub record PartRead (s c : List ℕ) (x : ℕ) (k : Contents) (a : Part) : Type 0 where
  pub sheet : sheet_in s ≡ accepted k
  pub at : List (Option ℕ)
  pub end : ℕ
  pub captions : captions_in (names_in s k) c ≡ got at end
  pub number : x < length k.places
  pub part : a ≡ shown_part s c (get_or k.places x 0) (get_or at x None)

none_accepted : {A : Type 0} {a : A} {n p : ℕ} → refused n p ≡ accepted a → ⊥
none_accepted e = let z : ◌≡◌ {A = ℕ} 0 1 = cc in omega arith

pub part_read : (s c : List ℕ) (x : ℕ) {a : Part} → caption_part s c x ≡ accepted a → (k : Contents) × PartRead s c x k a
unfolding caption_part
part_read s c x {a} e = by_sheet (sheet_in s) refl e
  where
    by_test : (k : Contents) (at : List (Option ℕ)) (q : ℕ) (b : Bool) → sheet_in s ≡ accepted k → captions_in (names_in s k) c ≡ got at q → ltb x (length k.places) ≡ b
        → pick b (λ _. accepted (shown_part s c (get_or k.places x 0) (get_or at x None))) (refused 17 0) ≡ accepted a → (k : Contents) × PartRead s c x k a
    by_test k at q true i j h z = (k, record { sheet = i; at = at; end = q; captions = j; number = ltb-true x (length k.places) h; part = sym (accepted_one z) })
    by_test k at q false i j h z = absurd (none_accepted z)

    by_captions : (k : Contents) (R : Read (List (Option ℕ))) → sheet_in s ≡ accepted k → captions_in (names_in s k) c ≡ R → part_by s c k.places x R ≡ accepted a → (k : Contents) × PartRead s c x k a
    by_captions k (got at q) i j z = by_test k at q (ltb x (length k.places)) i j refl z
    by_captions k (unread n p) i j z = absurd (none_accepted z)

    by_sheet : (S : Result Contents) → sheet_in s ≡ S → part_of s c x S ≡ accepted a → (k : Contents) × PartRead s c x k a
    by_sheet (accepted k) i z = by_captions k (captions_in (names_in s k) c) i refl z
    by_sheet (refused n p) i z = absurd (none_accepted z)

-- The part lies in its text.
pub part_inside : (s c : List ℕ) (x : ℕ) {a : Part} → caption_part s c x ≡ accepted a → Inside s c a
part_inside s c x {a} e =
    let r = part_read s c x e in
    let k = r.0 in
    let h = r.1 in
    subst (Inside s c) (sym h.part)
    (shown_inside s c (get_or k.places x 0) (get_or h.at x None) (all_nth (λ p. p ≤ length s) 0 k.places x (names_stand s h.sheet) h.number)
    (caption_inside (names_in s k) c h.captions x))
