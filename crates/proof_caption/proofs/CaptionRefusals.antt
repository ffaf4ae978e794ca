-- Each refusal of caption exactly in its case.
-- Assumes nothing. `s` is the sheet's text, c the captions' text, x the signal's number; n is the number of the refusal and p its place.
use mathlib.Core.Path.{◌≡◌, refl, sym, ap, subst, ◌∙◌}
use mathlib.Core.Bool.{Bool, true, false}
use mathlib.Core.List.{List}
use mathlib.Core.Logic.{◌↔◌}
use Prim.Native.Nat.{ℕ}
use native.Mathlib.Omega.{arith}
use borrow.Author.Tests.{ltb-false, le-ltb}
use lib.Dec.{ltb}
use lib.ListN.{length, get_or}
use Rattle.std.specs.Prelude.{Option, None}
use Rattle.read_bytes.specs.Read.{Read}
use Rattle.read_bytes.specs.Read.Read.{got, refused as unread}
use Rattle.read_bytes.specs.Bytes.{pick}
use Rattle.read_captions.specs.declared.Part.{Part}
use Rattle.read_captions.specs.Captions.{captions_in}
use Rattle.read_captions.specs.Parts.{shown_part}
use Rattle.read_sheet.specs.Sheet.{Contents}
use Rattle.open_sheet.specs.Results.{Result, accepted, refused}
use Rattle.open_sheet.specs.SheetIn.{sheet_in, names_in}
use Rattle.spec_caption.specs.Captioning.{part_by, part_of, caption_part}
use Rattle.proof_caption.specs.CaptionCases.{CaptionRefusal}
use Rattle.proof_caption.specs.CaptionCases.CaptionRefusal.{up_to_nine, line_by_line, seventeen}
use Rattle.proof_caption.proofs.CaptionAnswers.{captions_accepted, captions_refused}

-- Each answer, by its case.
data Answered (s c : List ℕ) (x : ℕ) : Result Part → Type 0 where
  off : {n p : ℕ} → CaptionRefusal s c x n p → Answered s c x (refused n p)
  on : {a : Part} → Answered s c x (accepted a)

module _ (s c : List ℕ) (x : ℕ) where
  of_captions : {k : Contents} → sheet_in s ≡ accepted k → (R : Read (List (Option ℕ))) → captions_in (names_in s k) c ≡ R → Answered s c x (part_by s c k.places x R)
  of_captions {k} e (got at q) f = go (ltb x (length k.places)) refl
    where
      go : (b : Bool) → ltb x (length k.places) ≡ b → Answered s c x (pick b (λ _. accepted (shown_part s c (get_or k.places x 0) (get_or at x None))) (refused 17 0))
      go true l = on
      go false l = let m = ltb-false x (length k.places) l in off (seventeen e ((captions_accepted (names_in s k) c).0 (at, q, f)) (λ i. omega arith))
  of_captions {k} e (unread n p) f = off (line_by_line e ((captions_refused (names_in s k) c n p).0 f))

  answered : Answered s c x (caption_part s c x)
  unfolding caption_part
  answered = go (sheet_in s) refl
    where
      go : (R : Result Contents) → sheet_in s ≡ R → Answered s c x (part_of s c x R)
      go (accepted k) e = of_captions e (captions_in (names_in s k) c) refl
      go (refused n p) e = off (up_to_nine e)

  refused_by : {n p : ℕ} → CaptionRefusal s c x n p → caption_part s c x ≡ refused n p
  unfolding caption_part
  refused_by (up_to_nine e) = ap (part_of s c x) e
  refused_by (line_by_line {k} {n} {p} e f) = ap (part_of s c x) e ∙ ap (part_by s c k.places x) ((captions_refused (names_in s k) c n p).1 f)
  refused_by (seventeen {k} e w l) =
      let i = (captions_accepted (names_in s k) c).1 w in
      ap (part_of s c x) e ∙ ap (part_by s c k.places x) i.2 ∙ rw (le-ltb x (length k.places) (omega arith))

  -- "Refusals: after 9, line by line, 24 for a caption line not of its form or a name repeated, 12 for a name that isn't declared; then 17."
  pub caption_refusals : {n p : ℕ} → (caption_part s c x ≡ refused n p) ↔ CaptionRefusal s c x n p
  caption_refusals = (λ e. case (subst (Answered s c x) e answered), refused_by)
    where
      case : {n p : ℕ} → Answered s c x (refused n p) → CaptionRefusal s c x n p
      case (off r) = r

  -- No input has two: "a second call on the same inputs gives number and place".
  pub refusal_one : {n p m q : ℕ} → CaptionRefusal s c x n p → CaptionRefusal s c x m q → (n ≡ m) × (p ≡ q)
  refusal_one f g = let e = sym (refused_by f) ∙ refused_by g in (cc, cc)
