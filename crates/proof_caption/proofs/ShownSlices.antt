-- The slice that is shown: its bytes, which of the two texts it points into, and when it is empty.
-- Assumes nothing. `s` is the sheet's slice, c the captions', r the one that is shown; x is the signal's number.
use mathlib.Core.Path.{◌≡◌, refl, ap, subst, ◌∙◌}
use mathlib.Core.List.{List}
use mathlib.Core.Logic.{◌↔◌}
use Prim.Native.Nat.{ℕ, ◌+◌, ◌≤◌}
use native.Mathlib.Omega.{arith}
use denote.Ref.{Bor}
use lib.ListN.{length, get_or}
use Rattle.read_captions.specs.declared.Part.{Part}
use Rattle.read_captions.specs.declared.Part.TheVariants.{InSheet, InCaptions}
use Rattle.read_captions.specs.Parts.{PartOf, Shows}
use Rattle.read_captions.specs.Parts.Shows.{of_sheet, of_captions}
use Rattle.read_sheet.specs.Sheet.{Contents}
use Rattle.open_sheet.specs.Results.{Result, accepted, refused}
use Rattle.open_sheet.specs.SheetIn.{sheet_in}
use Rattle.spec_caption.specs.Captioning.{caption_part, ShowsCaption}
use Rattle.spec_caption.specs.Captioning.ShowsCaption.{shown, nothing}
use Rattle.proof_caption.specs.CaptionTexts.{HasLine}
use Rattle.proof_caption.specs.CaptionCases.{name_of, NoLine}
use Rattle.proof_caption.proofs.CaptionPlaces.{caption_cut}
use Rattle.spec_caption.proofs.PartPlaces.{part_read}
use Rattle.proof_caption.proofs.ShownBy.{ShownBy, shown_by, name_cut, name_some}
use Rattle.proof_caption.proofs.ShownBy.ShownBy.{by_line, by_name}
use Rattle.proof_caption.proofs.CaptionShown.{shown_reads, caption_shown, name_shown}

-- Each case of a slice that is shown.
of_part : {s c r : Bor (List ℕ)} {a : Part} → ShowsCaption s c r (accepted a) → Shows s c r a
of_part (shown h) = h

in_captions_lem : {s c r : Bor (List ℕ)} {v n : ℕ} → Shows s c r (InCaptions v n) → PartOf c v n r
in_captions_lem (of_captions h) = h

in_sheet : {s c r : Bor (List ℕ)} {b n : ℕ} → Shows s c r (InSheet b n) → PartOf s b n r
in_sheet (of_sheet h) = h

no_part : {s c r : Bor (List ℕ)} {n p : ℕ} → ShowsCaption s c r (refused n p) → PartOf s 0 0 r
no_part (nothing h) = h

module _ (s c r : Bor (List ℕ)) (x : ℕ) (h : ShowsCaption s c r (caption_part s.now c.now x)) where
  module _ {k : Contents} (sheet : sheet_in s.now ≡ accepted k) {a : Part} (e : caption_part s.now c.now x ≡ accepted a) where
    shows : Shows s c r a
    shows = of_part (subst (ShowsCaption s c r) e h)

    line_part : {w : List ℕ} {v : ℕ} → HasLine c.now (name_of s.now k x) w v → PartOf c v (length w) r
    line_part {w} g = in_captions_lem (subst (Shows s c r) ((caption_shown s.now c.now sheet x e).1 (w, g, refl)) shows)

    name_part_lem : NoLine c.now (name_of s.now k x) → PartOf s (get_or k.places x 0) (length (name_of s.now k x)) r
    name_part_lem n = in_sheet (subst (Shows s c r) ((name_shown s.now c.now sheet x e).1 (n, refl, refl)) shows)

    -- "The caption shown is a part of the caption text where the name has a line, else the name itself as a part of the sheet": byte by byte.
    pub shown_bytes : ((w : List ℕ) (v : ℕ) → HasLine c.now (name_of s.now k x) w v → r.now ≡ w) × (NoLine c.now (name_of s.now k x) → r.now ≡ name_of s.now k x)
    shown_bytes = (λ w v g. (line_part g).holds ∙ caption_cut g, λ n. (name_part_lem n).holds ∙ name_cut s.now c.now (shown_reads s.now c.now sheet x e))

    -- "Prove which of the two texts it came from": where the name has a line, the slice points to its caption in the captions' slice,
    pub from_captions : {w : List ℕ} {v : ℕ} → HasLine c.now (name_of s.now k x) w v → r.ref_ptr ≡ (c.ref_ptr.0, c.ref_ptr.1 + v)
    from_captions g = (line_part g).points

    -- and else to the name in the sheet's.
    pub from_sheet : NoLine c.now (name_of s.now k x) → r.ref_ptr ≡ (s.ref_ptr.0, s.ref_ptr.1 + get_or k.places x 0)
    from_sheet n = (name_part_lem n).points

  -- A part that is shown has a byte.
  shown_some : {a : Part} → caption_part s.now c.now x ≡ accepted a → 1 ≤ length r.now
  shown_some {a} e =
      let d = part_read s.now c.now x e in
      go d.1.sheet (name_some s.now c.now d.1) (shown_by s.now c.now d.1)
    where
      go : {k : Contents} → sheet_in s.now ≡ accepted k → 1 ≤ length (name_of s.now k x) → ShownBy s.now c.now k x a → 1 ≤ length r.now
      go f l (by_line {w} {v} g i) = rw ((shown_bytes f e).0 w v g) g.line.caption.some
      go f l (by_name g i) = rw ((shown_bytes f e).1 g) l

  -- "On a refusal the part shown is empty", and only then: a caption and a name are never empty.
  pub empty_exactly : (length r.now ≡ 0) ↔ ((n : ℕ) × (p : ℕ) × (caption_part s.now c.now x ≡ refused n p))
  empty_exactly = (λ z. go z (caption_part s.now c.now x) refl, λ i. ap length (no_part (subst (ShowsCaption s c r) i.2 h)).holds)
    where
      go : length r.now ≡ 0 → (R : Result Part) → caption_part s.now c.now x ≡ R → (n : ℕ) × (p : ℕ) × (caption_part s.now c.now x ≡ refused n p)
      go z (accepted a) e = absurd (let l = shown_some e in omega arith)
      go z (refused n p) e = (n, p, e)
