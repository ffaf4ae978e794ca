-- What caption shows is one: two slices that are the answer's part are alike, and for each answer there is such a slice.
-- Assumes nothing. `s` is the sheet's slice, c the captions', R the answer.
use mathlib.Core.Path.{◌≡◌, refl, sym, ◌∙◌}
use mathlib.Core.List.{List}
use Prim.Native.Nat.{ℕ, ◌+◌}
use denote.Ref.{Bor}
use lib.ListN.{take, drop}
use Rattle.read_captions.specs.declared.Part.{Part}
use Rattle.read_captions.specs.declared.Part.TheVariants.{InSheet, InCaptions}
use Rattle.read_captions.specs.Parts.{PartOf, Shows}
use Rattle.read_captions.specs.Parts.Shows.{of_sheet, of_captions}
use Rattle.open_sheet.specs.Results.{Result, accepted, refused}
use Rattle.spec_caption.specs.Captioning.{ShowsCaption}
use Rattle.spec_caption.specs.Captioning.ShowsCaption.{shown, nothing}

same_part : {u r r' : Bor (List ℕ)} {a n : ℕ} → PartOf u a n r → PartOf u a n r' → (r.ref_ptr ≡ r'.ref_ptr) × (r.now ≡ r'.now)
same_part h g = (h.points ∙ sym g.points, h.holds ∙ sym g.holds)

same_shown : {s c r r' : Bor (List ℕ)} {a : Part} → Shows s c r a → Shows s c r' a → (r.ref_ptr ≡ r'.ref_ptr) × (r.now ≡ r'.now)
same_shown (of_sheet h) (of_sheet g) = same_part h g
same_shown (of_captions h) (of_captions g) = same_part h g

-- Two that are shown on the same inputs point to one place, and hold the same bytes.
pub shows_one : {s c r r' : Bor (List ℕ)} {R : Result Part} → ShowsCaption s c r R → ShowsCaption s c r' R → (r.ref_ptr ≡ r'.ref_ptr) × (r.now ≡ r'.now)
shows_one (shown h) (shown g) = same_shown h g
shows_one (nothing h) (nothing g) = same_part h g

-- The part of a slice from a on, n long.
part : (u : Bor (List ℕ)) (a n : ℕ) → (r : Bor (List ℕ)) × PartOf u a n r
part u a n = (record { ref_ptr = (u.ref_ptr.0, u.ref_ptr.1 + a); now = take n (drop a u.now) }, record { points = refl; holds = refl })

-- One is shown, whatever is answered.
pub shows_some : (s c : Bor (List ℕ)) (R : Result Part) → (r : Bor (List ℕ)) × ShowsCaption s c r R
shows_some s c (accepted (InSheet a n)) = let p = part s a n in (p.0, shown (of_sheet p.1))
shows_some s c (accepted (InCaptions a n)) = let p = part c a n in (p.0, shown (of_captions p.1))
shows_some s c (refused n p) = let e = part s 0 0 in (e.0, nothing e.1)
