-- What is shown of a signal: its caption where its name has a line, and else its name.
-- Assumes nothing. `s` is the sheet's text with the contents k, c the captions' text, x the signal's number, a the part that is shown.
use mathlib.Core.Path.{◌≡◌, ap, subst}
use mathlib.Core.List.{List}
use mathlib.Core.Logic.{◌↔◌}
use Prim.Native.Nat.{ℕ}
use native.Mathlib.Omega.{arith}
use lib.ListN.{length, get_or}
use Rattle.read_captions.specs.declared.Part.{Part}
use Rattle.read_captions.specs.declared.Part.TheVariants.{InSheet, InCaptions}
use Rattle.read_sheet.specs.Sheet.{Contents}
use Rattle.open_sheet.specs.Results.{accepted}
use Rattle.open_sheet.specs.SheetIn.{sheet_in}
use Rattle.spec_caption.specs.Captioning.{caption_part}
use Rattle.proof_caption.specs.CaptionTexts.{HasLine}
use Rattle.proof_caption.specs.CaptionCases.{name_of, NoLine}
use Rattle.spec_caption.proofs.PartPlaces.{PartRead, part_read}
use Rattle.proof_caption.proofs.ShownBy.{ShownBy, shown_by, line_one}
use Rattle.proof_caption.proofs.ShownBy.ShownBy.{by_line, by_name}

module _ (s c : List ℕ) {k : Contents} (sheet : sheet_in s ≡ accepted k) (x : ℕ) {a : Part} (e : caption_part s c x ≡ accepted a) where
  pub shown_reads : PartRead s c x k a
  shown_reads =
      let r = part_read s c x e in
      let f = r.1.sheet in
      let i : r.0 ≡ k = cc in
      subst (λ (j : Contents). PartRead s c x j a) i r.1

  -- "The caption shown is a part of the caption text where the name has a line,
  pub caption_shown : {v n : ℕ} → (a ≡ InCaptions v n) ↔ ((w : List ℕ) × HasLine c (name_of s k x) w v × (n ≡ length w))
  caption_shown {v} {n} = (λ i. to i (shown_by s c shown_reads), λ h. from h (shown_by s c shown_reads))
    where
      to : a ≡ InCaptions v n → ShownBy s c k x a → (w : List ℕ) × HasLine c (name_of s k x) w v × (n ≡ length w)
      to i (by_line {w} {v = u} h j) = let l : u ≡ v = cc in (w, subst (HasLine c (name_of s k x) w) l h, cc)
      to i (by_name g j) = let z : ◌≡◌ {A = ℕ} 0 1 = cc in absurd (omega arith)

      from : (w : List ℕ) × HasLine c (name_of s k x) w v × (n ≡ length w) → ShownBy s c k x a → a ≡ InCaptions v n
      from (w, h, m) (by_line g j) = let o = line_one s c shown_reads g h in let l = ap length o.1 in cc
      from (w, h, m) (by_name g j) = absurd (g w v h)

  -- else the name itself as a part of the sheet."
  pub name_shown : {b n : ℕ} → (a ≡ InSheet b n) ↔ (NoLine c (name_of s k x) × (b ≡ get_or k.places x 0) × (n ≡ length (name_of s k x)))
  name_shown {b} {n} = (λ i. to i (shown_by s c shown_reads), λ h. from h (shown_by s c shown_reads))
    where
      to : a ≡ InSheet b n → ShownBy s c k x a → NoLine c (name_of s k x) × (b ≡ get_or k.places x 0) × (n ≡ length (name_of s k x))
      to i (by_line h j) = let z : ◌≡◌ {A = ℕ} 0 1 = cc in absurd (omega arith)
      to i (by_name g j) = (g, cc, cc)

      from : NoLine c (name_of s k x) × (b ≡ get_or k.places x 0) × (n ≡ length (name_of s k x)) → ShownBy s c k x a → a ≡ InSheet b n
      from (n, l, m) (by_line {w} {v} h j) = absurd (n w v h)
      from (g, l, m) (by_name n j) = cc
