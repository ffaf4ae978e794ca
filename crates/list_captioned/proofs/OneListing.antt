-- What is told of one sheet, readings, captions and lent table is one, and so are two outcomes of the listing with captions for one buffer.
-- Assumes nothing.
use mathlib.Core.Path.{◌≡◌, refl, sym, ap, ap₂, ◌∙◌, subst}
use mathlib.Core.Bool.{Bool}
use mathlib.Core.List.{List, ◌++◌}
use Prim.Native.Nat.{ℕ, ◌<◌}
use native.Mathlib.Omega.{arith}
use lib.ListN.{length, take, drop}
use lib.Seq.{sets}
use Rattle.std.specs.Prelude.{Option}
use Rattle.read_bytes.specs.Read.{Read}
use Rattle.read_bytes.proofs.Answers.{not_both, same_value}
use Rattle.read_captions.specs.Captions.{captions_in}
use Rattle.read_captions.specs.Parts.{shown_texts}
use Rattle.spec_tilco.specs.Lowering.{row_count_lem}
use Rattle.spec_tilco.specs.Table.{table_words, facts_of, Answer}
use Rattle.read_sheet.specs.Sheet.{Contents, meant}
use Rattle.open_sheet.specs.Results.{Result, accepted}
use Rattle.open_sheet.specs.SheetIn.{sheet_in, names_in}
use Rattle.open_table.proofs.Tables.{accepted_one, accepted_refused}
use Rattle.spec_operations.proofs.Determined.{adds_one, refused_alike}
use Rattle.list_captioned.specs.ShownListing.{shown_listing}
use Rattle.list_table.specs.Listing.{head_text}
use Rattle.list_settled.specs.Prints.{text_of}
use Rattle.list_captioned.specs.PrintsCaptioned.{ListsShown, PrintsCaptioned, WrittenCaptioned, SettlesCaptioned}
use Rattle.list_captioned.specs.PrintsCaptioned.ListsShown.{not_added, listed}
use Rattle.list_captioned.specs.PrintsCaptioned.PrintsCaptioned.{no_sheet, no_captions_lem, no_room, on_table}
use Rattle.list_settled.proofs.OneListing.{AnswersIn, one_signals, gain_clash, written_alike, written_some}
use Rattle.list_captioned.proofs.Printing.{captioned_most}

-- ---- the same table gives the same listing

-- The listing of a sheet's table.
abbrev listing_of : List (List ℕ) → List ℕ → Contents → List ℕ → Bool → (ℕ → ℕ → Answer) → List ℕ
listing_of shown s k U clash f = shown_listing (names_in s k) shown k.window (row_count_lem (meant k)) (facts_of (meant k) U) clash f

one_shown : (shown : List (List ℕ)) (s : List ℕ) (k : Contents) (U : List ℕ) (clash : Bool) (f g : ℕ → ℕ → Answer) → AnswersIn k U f → AnswersIn k U g
    → listing_of shown s k U clash f ≡ listing_of shown s k U clash g
unfolding shown_listing
one_shown shown s k U clash f g p q = ap (λ (l : List ℕ). head_text (row_count_lem (meant k)) (facts_of (meant k) U) clash ++ l) (one_signals shown s k U f g p q)

-- ---- the outcomes

module _ {shown : List (List ℕ)} {s r T : List ℕ} where
  lists_one : {U U' : List ℕ} {a b : Result (List ℕ)} → ListsShown shown s r T U a → ListsShown shown s r T U' b → (U ≡ U') × (a ≡ b)
  lists_one (not_added x) (not_added y) = (refl, refused_alike (adds_one x y).1)
  lists_one (not_added x) (listed f y q) = absurd (accepted_refused (sym (adds_one x y).1))
  lists_one (listed e x p) (not_added y) = absurd (accepted_refused (adds_one x y).1)
  lists_one (listed {k = k} {U = U} {clash = clash} {f = f} e x p) (listed {k = c} {U = U'} {clash = clash'} {f = g} h y q) =
      let i : k ≡ c = accepted_one (sym e ∙ h) in
      let o = adds_one x y in
      let w : AnswersIn k U g = subst (λ (X : List ℕ). AnswersIn k X g) (sym o.0) (subst (λ (z : Contents). AnswersIn z U' g) (sym i) q) in (
        o.0,
        ap accepted (
            one_shown shown s k U clash f g p w
            ∙ ap (λ (X : List ℕ). listing_of shown s k X clash g) o.0
            ∙ ap (λ (x : Bool). listing_of shown s k U' x g) (gain_clash o.1)
            ∙ ap (λ (z : Contents). listing_of shown s z U' clash' g) i
            ),
      )

-- Two readings of a sheet and its captions are one.
captions_one : (s c : List ℕ) {k k' : Contents} {R R' : Read (List (Option ℕ))} → sheet_in s ≡ accepted k → sheet_in s ≡ accepted k' → captions_in (names_in s k) c ≡ R → captions_in (names_in s k') c ≡ R' → R ≡ R'
captions_one s c e e' i j = sym i ∙ ap (λ (z : Contents). captions_in (names_in s z) c) (accepted_one (sym e ∙ e')) ∙ j

module _ {s r c T : List ℕ} where
  -- What is told and what is left in the lent table,
  pub captioned_one : {U U' : List ℕ} {a b : Result (List ℕ)} → PrintsCaptioned s r c T U a → PrintsCaptioned s r c T U' b → (U ≡ U') × (a ≡ b)
  captioned_one (no_sheet e) (no_sheet f) = (refl, refused_alike (sym e ∙ f))
  captioned_one (no_sheet e) (no_captions_lem f j) = absurd (accepted_refused (sym f ∙ e))
  captioned_one (no_sheet e) (no_room f j l) = absurd (accepted_refused (sym f ∙ e))
  captioned_one (no_sheet e) (on_table f j l y) = absurd (accepted_refused (sym f ∙ e))
  captioned_one (no_captions_lem e i) (no_sheet f) = absurd (accepted_refused (sym e ∙ f))
  captioned_one (no_captions_lem e i) (no_captions_lem f j) = let z = captions_one s c e f i j in (refl, cc)
  captioned_one (no_captions_lem e i) (no_room f j l) = absurd (not_both (captions_one s c f e j i))
  captioned_one (no_captions_lem e i) (on_table f j l y) = absurd (not_both (captions_one s c f e j i))
  captioned_one (no_room e i l) (no_sheet f) = absurd (accepted_refused (sym e ∙ f))
  captioned_one (no_room e i l) (no_captions_lem f j) = absurd (not_both (captions_one s c e f i j))
  captioned_one (no_room e i l) (no_room f j m) = (refl, refl)
  captioned_one (no_room {k} e i l) (on_table {k = k'} f j m y) = let z : k ≡ k' = accepted_one (sym e ∙ f) in absurd (omega (arith, subst (λ (x : Contents). length T < table_words (meant x)) z l))
  captioned_one (on_table e i l x) (no_sheet f) = absurd (accepted_refused (sym e ∙ f))
  captioned_one (on_table e i l x) (no_captions_lem f j) = absurd (not_both (captions_one s c e f i j))
  captioned_one (on_table {k = k'} e i l x) (no_room {k} f j m) = let z : k ≡ k' = accepted_one (sym f ∙ e) in absurd (omega (arith, subst (λ (x : Contents). length T < table_words (meant x)) z m))
  captioned_one (on_table {k = k} {at = at} {U = U} {a = a} e i l x) (on_table {k = k'} {at = at'} {U = U'} f j m y) =
      let z : k ≡ k' = accepted_one (sym e ∙ f) in
      let v : at ≡ at' = same_value (captions_one s c e f i j) in
      let w = subst (λ (k : Contents). ListsShown (shown_texts s c k.places at) s r (take (table_words (meant k)) T) U a) z x in
      let o = lists_one (subst (λ (p : List (Option ℕ)). ListsShown (shown_texts s c k'.places p) s r (take (table_words (meant k')) T) U a) v w) y in
      (ap₂ (λ (X : List ℕ) (k : Contents). X ++ drop (table_words (meant k)) T) o.0 z, o.1)

-- so two outcomes for one table and one buffer coincide, in the answer, in every word and in every byte,
pub captioned_printed_one : {s r c T U U' m m₁ m₂ : List ℕ} {n₁ n₂ : ℕ} → WrittenCaptioned (PrintsCaptioned s r c T U) m m₁ n₁ → WrittenCaptioned (PrintsCaptioned s r c T U') m m₂ n₂ → (n₁ ≡ n₂) × (U ≡ U') × (m₁ ≡ m₂)
captioned_printed_one x y = written_alike (λ a b p q. captioned_one p q) x y

-- there is one for each buffer where something is told,
pub captioned_some : {s r c T U : List ℕ} {a : Result (List ℕ)} → PrintsCaptioned s r c T U a → (m : List ℕ) → WrittenCaptioned (PrintsCaptioned s r c T U) m (sets m 0 (text_of a)) (length (text_of a))
captioned_some {s} {r} {c} {T} {U} p m = written_some (PrintsCaptioned s r c T U) p (captioned_most p) m

-- and the listing program with captions prints one text.
pub settles_captioned_one : {s r c l v : List ℕ} → SettlesCaptioned s r c l → SettlesCaptioned s r c v → l ≡ v
settles_captioned_one x y = x.text_is ∙ ap text_of (captioned_one x.prints y.prints).1 ∙ sym y.text_is
