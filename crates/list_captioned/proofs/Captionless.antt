-- Without a caption the listing is settle's: what is told of an empty captions' text is what `Prints` says, both ways.
-- Assumes nothing. `s` is the sheet's text, r the readings' text, T the lent table before and U after.
use mathlib.Core.Path.{◌≡◌, refl, sym, ap, subst, ◌∙◌}
use mathlib.Core.Bool.{Bool}
use mathlib.Core.List.{List, []}
use Prim.Native.Nat.{ℕ}
use lib.ListN.{length, take}
use Rattle.spec_tilco.specs.Lowering.{row_count_lem}
use Rattle.spec_tilco.specs.Table.{table_words, facts_of, Answer}
use Rattle.read_bytes.specs.Read.Read.{got}
use Rattle.read_bytes.proofs.Answers.{not_both, same_value}
use Rattle.read_names.proofs.Names.{names_many}
use Rattle.read_captions.specs.Captions.{caption_lines, captions_in, no_captions}
use Rattle.read_captions.specs.Parts.{shown_texts}
use Rattle.read_captions.proofs.ShownParts.{shown_names}
use Rattle.read_sheet.specs.Sheet.{Contents, meant}
use Rattle.open_sheet.specs.Results.{Result, accepted}
use Rattle.open_sheet.specs.SheetIn.{sheet_in, names_in}
use Rattle.open_table.proofs.Tables.{accepted_one}
use Rattle.list_captioned.specs.ShownListing.{shown_listing}
use Rattle.list_table.specs.Listing.{listing_text}
use Rattle.list_settled.specs.Prints.{Lists, Prints}
use Rattle.list_settled.specs.Prints.Lists.{not_added, listed}
use Rattle.list_settled.specs.Prints.Prints.{no_sheet, no_room, on_table}
use Rattle.list_captioned.specs.PrintsCaptioned.{ListsShown, PrintsCaptioned}
use Rattle.list_captioned.specs.PrintsCaptioned.ListsShown.{not_added as not-added-shown, listed as listed-shown}
use Rattle.list_captioned.specs.PrintsCaptioned.PrintsCaptioned.{no_sheet as no-sheet-captioned, no_captions_lem, no_room as no-room-captioned, on_table as on-table-captioned}

-- The listing of a sheet's table that shows the names, where k and c are one sheet's contents.
listing_is : (s U : List ℕ) (c : Contents) (names : List (List ℕ)) (clash : Bool) (f : ℕ → ℕ → Answer) → names ≡ names_in s c
    → accepted (shown_listing (names_in s c) names c.window (row_count_lem (meant c)) (facts_of (meant c) U) clash f) ≡ accepted (listing_text (names_in s c) c.window (row_count_lem (meant c)) (facts_of (meant c) U) clash f)
unfolding shown_listing listing_text
listing_is s U c names clash f e = rw e

one_names : (s : List ℕ) {k c : Contents} → sheet_in s ≡ accepted k → sheet_in s ≡ accepted c → names_in s k ≡ names_in s c
one_names s e i = ap (names_in s) (accepted_one (sym e ∙ i))

module _ {s r T : List ℕ} {k : Contents} (e : sheet_in s ≡ accepted k) where
  lists_names : {U : List ℕ} {a : Result (List ℕ)} → ListsShown (names_in s k) s r T U a → Lists s r T U a
  lists_names (not-added-shown x) = not_added x
  lists_names (listed-shown {k = c} {U = U} {clash = clash} {f = f} i x q) = subst (Lists s r T U) (sym (listing_is s U c (names_in s k) clash f (one_names s e i))) (listed i x q)

  names_listed : {U : List ℕ} {a : Result (List ℕ)} → Lists s r T U a → ListsShown (names_in s k) s r T U a
  names_listed (not_added x) = not-added-shown x
  names_listed (listed {k = c} {U = U} {clash = clash} {f = f} i x q) =
      subst (ListsShown (names_in s k) s r T U) (listing_is s U c (names_in s k) clash f (one_names s e i)) (listed-shown i x q)

-- An empty text has no captions, and the names are shown.
none_read : (names : List (List ℕ)) → captions_in names [] ≡ got (no_captions (length names)) 0
unfolding captions_in caption_lines
none_read names = refl

names_shown : (s : List ℕ) (k : Contents) → shown_texts s [] k.places (no_captions (length (names_in s k))) ≡ names_in s k
names_shown s k = ap (λ n. shown_texts s [] k.places (no_captions n)) (names_many s k.places) ∙ shown_names s [] k.places

module _ {s r T : List ℕ} where
  pub prints_plain : {U : List ℕ} {a : Result (List ℕ)} → PrintsCaptioned s r [] T U a → Prints s r T U a
  prints_plain (no-sheet-captioned e) = no_sheet e
  prints_plain (no_captions_lem {k = k} e i) = absurd (not_both (sym (none_read (names_in s k)) ∙ i))
  prints_plain (no-room-captioned e i l) = no_room e l
  prints_plain (on-table-captioned {k = k} {at = at} {U = X} {a = a} e i l x) =
      let j : at ≡ no_captions (length (names_in s k)) = same_value (sym i ∙ none_read (names_in s k)) in
      on_table e l (lists_names e (subst (λ n. ListsShown n s r (take (table_words (meant k)) T) X a) (ap (shown_texts s [] k.places) j ∙ names_shown s k) x))

  pub plain_prints : {U : List ℕ} {a : Result (List ℕ)} → Prints s r T U a → PrintsCaptioned s r [] T U a
  plain_prints (no_sheet e) = no-sheet-captioned e
  plain_prints (no_room {k} e l) = no-room-captioned e (none_read (names_in s k)) l
  plain_prints (on_table {k = k} {U = X} {a = a} e l x) =
      on-table-captioned e (none_read (names_in s k)) l (subst (λ n. ListsShown n s r (take (table_words (meant k)) T) X a) (sym (names_shown s k)) (names_listed e x))
