-- The listing with captions: it "lists as settle does", with what caption shows in each `signal=` line.
-- Assumes nothing. `s` is the sheet's text, r the readings' text, c the captions' text, x a signal's number.
use mathlib.Core.Path.{◌≡◌, refl, sym, ap, subst, ◌∙◌}
use mathlib.Core.List.{List, []}
use mathlib.Core.Logic.{◌↔◌}
use Prim.Native.Nat.{ℕ, ◌<◌}
use lib.ListN.{length, get_or, take-append-drop}
use Rattle.spec_tilco.specs.Table.{table_words}
use Rattle.std.specs.Prelude.{Option}
use Rattle.read_bytes.specs.Read.Read.{got}
use Rattle.read_bytes.proofs.Answers.{same_value}
use Rattle.read_names.proofs.Names.{names_many}
use Rattle.read_captions.specs.declared.Part.{Part}
use Rattle.read_captions.specs.Captions.{captions_in}
use Rattle.read_captions.specs.Parts.{part_text, shown_texts}
use Rattle.read_captions.proofs.NotedCaptions.{noted_many}
use Rattle.read_captions.proofs.ShownParts.{shown_at, shown_many}
use Rattle.read_sheet.specs.Sheet.{Contents, meant}
use Rattle.open_sheet.specs.Results.{accepted, refused}
use Rattle.open_sheet.specs.SheetIn.{sheet_in, names_in}
use Rattle.open_table.proofs.Tables.{accepted_one, accepted_refused}
use Rattle.spec_caption.specs.Captioning.{caption_part}
use Rattle.spec_caption.proofs.PartPlaces.{part_read}
use Rattle.list_settled.specs.Prints.{Prints, Settles}
use Rattle.list_settled.specs.Prints.Lists.{not_added as plain-not-added}
use Rattle.list_settled.specs.Prints.Prints.{no_sheet as plain-no-sheet, no_room as plain-no-room, on_table as plain-on-table}
use Rattle.list_captioned.specs.PrintsCaptioned.{PrintsCaptioned, SettlesCaptioned}
use Rattle.list_captioned.specs.PrintsCaptioned.ListsShown.{not_added}
use Rattle.list_captioned.specs.PrintsCaptioned.PrintsCaptioned.{no_sheet, no_captions_lem, no_room, on_table}
use Rattle.list_captioned.proofs.Captionless.{prints_plain, plain_prints}
use Rattle.proof_caption.specs.CaptionCases.{CaptionedRefusal}
use Rattle.proof_caption.specs.CaptionCases.CaptionedRefusal.{up_to_nine, line_by_line, as_settle}
use Rattle.proof_caption.proofs.CaptionAnswers.{captions_accepted, captions_refused}

-- Each signal is listed with what caption shows of it: the same bytes,
pub listing_shows : (s c : List ℕ) (x : ℕ) {k : Contents} {at : List (Option ℕ)} {q : ℕ} {a : Part} → sheet_in s ≡ accepted k → captions_in (names_in s k) c ≡ got at q → caption_part s c x ≡ accepted a
    → get_or (shown_texts s c k.places at) x [] ≡ part_text s c a
listing_shows s c x {k} {at} {a = a} e i h =
    let r = part_read s c x h in
    let w = r.1 in
    let j : r.0 ≡ k = accepted_one (sym w.sheet ∙ e) in
    let v : w.at ≡ at = same_value (sym w.captions ∙ ap (λ (y : Contents). captions_in (names_in s y) c) j ∙ i) in
    let long = noted_many (names_in s r.0) c w.captions ∙ names_many s r.0.places in
    ap (λ (y : Contents). get_or (shown_texts s c y.places at) x []) (sym j)
    ∙ ap (λ (l : List (Option ℕ)). get_or (shown_texts s c r.0.places l) x []) (sym v)
    ∙ shown_at s c r.0.places w.at x long w.number
    ∙ ap (part_text s c) (sym w.part)

-- and there is a text for every signal.
pub all_shown : (s c : List ℕ) (k : Contents) {at : List (Option ℕ)} {q : ℕ} → captions_in (names_in s k) c ≡ got at q → length (shown_texts s c k.places at) ≡ length k.places
all_shown s c k {at} i = shown_many s c k.places at (noted_many (names_in s k) c i ∙ names_many s k.places)

-- Without a caption the listing is settle's.
pub without_captions : (s r l : List ℕ) → SettlesCaptioned s r [] l ↔ Settles s r l
without_captions s r l = (
  λ x. record { after = x.after; told = x.told; prints = prints_plain x.prints; text_is = x.text_is },
  λ x. record { after = x.after; told = x.told; prints = plain_prints x.prints; text_is = x.text_is },
)

-- It is refused exactly in these cases, and then the table keeps every word.
module _ {s r c T : List ℕ} where
  refusal_of : {U : List ℕ} {n p : ℕ} → PrintsCaptioned s r c T U (refused n p) → CaptionedRefusal s r c T n p × (U ≡ T)
  refusal_of (no_sheet e) = (up_to_nine e, refl)
  refusal_of (no_captions_lem {k} {n} {p} e i) = (line_by_line e ((captions_refused (names_in s k) c n p).0 i), refl)
  refusal_of (no_room {k} {at} {q} e i l) = (as_settle e ((captions_accepted (names_in s k) c).0 (at, q, i)) (plain-no-room e l), refl)
  refusal_of {n = n} {p = p} (on_table {k = k} {at = at} {q = q} e i l (not_added x)) =
      let z = take-append-drop (table_words (meant k)) T in
      (as_settle e ((captions_accepted (names_in s k) c).0 (at, q, i)) (subst (λ (X : List ℕ). Prints s r T X (refused n p)) z (plain-on-table e l (plain-not-added x))), z)

  with_captions : {k : Contents} {at : List (Option ℕ)} {U : List ℕ} {q n p : ℕ} → sheet_in s ≡ accepted k → captions_in (names_in s k) c ≡ got at q → Prints s r T U (refused n p) → PrintsCaptioned s r c T U (refused n p)
  with_captions e i (plain-no-sheet f) = absurd (accepted_refused (sym e ∙ f))
  with_captions e i (plain-no-room f l) = no_room e i (subst (λ (y : Contents). length T < table_words (meant y)) (accepted_one (sym f ∙ e)) l)
  with_captions {k} {at = at} {q = q} e i (plain-on-table {k = y} f l (plain-not-added x)) =
      let j : k ≡ y = accepted_one (sym e ∙ f) in
      on_table f (subst (λ (z : Contents). captions_in (names_in s z) c ≡ got at q) j i) l (not_added x)

  pub listing_refusals : {U : List ℕ} {n p : ℕ} → PrintsCaptioned s r c T U (refused n p) ↔ (CaptionedRefusal s r c T n p × (U ≡ T))
  listing_refusals {U} {n} {p} = (refusal_of, λ h. subst (λ (X : List ℕ). PrintsCaptioned s r c T X (refused n p)) (sym h.1) (of h.0))
    where
      of : {n p : ℕ} → CaptionedRefusal s r c T n p → PrintsCaptioned s r c T T (refused n p)
      of (up_to_nine e) = no_sheet e
      of (line_by_line {k} {n} {p} e f) = no_captions_lem e ((captions_refused (names_in s k) c n p).1 f)
      of (as_settle {k} e w x) = with_captions e ((captions_accepted (names_in s k) c).1 w).2 x
