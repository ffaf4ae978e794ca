-- The listing program's table is empty: what it prints is told of the sheet's own empty table.
-- Assumes nothing.
use mathlib.Core.Path.{◌≡◌, refl, sym, ap, ◌∙◌, subst}
use mathlib.Core.Bool.{Bool}
use mathlib.Core.List.{List, ◌∷◌}
use Prim.Native.Nat.{ℕ, zero, suc, ◌≤◌}
use native.Mathlib.Omega.{arith}
use lib.ListN.{length, take, replicate, length-replicate}
use Rattle.spec_limits.specs.Limits.{most_listed_words}
use Rattle.spec_ticks.specs.Ticks.{empty}
use Rattle.spec_tilco.specs.Lowering.{row_count_lem}
use Rattle.spec_tilco.specs.Table.{Standing, table_words, facts_of, Answer}
use Rattle.read_sheet.specs.Sheet.{Contents, meant}
use Rattle.open_sheet.specs.Results.{Result, accepted}
use Rattle.spec_operations.specs.Gain.{gain}
use Rattle.open_sheet.specs.SheetIn.{sheet_in, names_in, blank}
use Rattle.spec_operations.specs.Operations.{Adds}
use Rattle.open_table.proofs.Tables.{accepted_one}
use Rattle.list_signals.specs.Signals.{Answers}
use Rattle.list_table.specs.Listing.{listing_text, refusal_text}
use Rattle.list_settled.specs.Prints.{Lists, Prints, Settles, text_of}
use Rattle.list_settled.specs.Prints.Lists.{not_added, listed}
use Rattle.list_settled.specs.Prints.Prints.{no_sheet, no_room, on_table}

-- The first words of an empty table are an empty table.
take_empty : (n m : ℕ) → n ≤ m → take n (replicate {A = ℕ} m 0) ≡ empty n
take_empty zero m h = refl
take_empty (suc n) zero h = absurd (omega arith)
take_empty (suc n) (suc m) h = ap (λ (l : List ℕ). 0 ∷ l) (take_empty n m (omega arith))

-- What the program's text is: a refusal, or the listing of what one add makes of the sheet's empty table.
pub data Shown (s r : List ℕ) : List ℕ → Type 0 where
  refusal : (n p : ℕ) → Shown s r (refusal_text n p)
  listing : {k : Contents} {U : List ℕ} {new : ℕ} {clash : Bool} {f : ℕ → ℕ → Answer} → sheet_in s ≡ accepted k → Adds s r (blank k) U (accepted (gain new clash))
      → Answers (Standing (meant k) U) (length k.places) k.window f
      → Shown s r (listing_text (names_in s k) k.window (row_count_lem (meant k)) (facts_of (meant k) U) clash f)

module _ {s r : List ℕ} where
  of_lists : {k : Contents} {U : List ℕ} {a : Result (List ℕ)} → sheet_in s ≡ accepted k → Lists s r (blank k) U a → Shown s r (text_of a)
  of_lists e (not_added {n} {p} x) = refusal n p
  of_lists {k} e (listed {k = c} {U = U} {new = new} {clash = clash} h x q) =
      listing h (subst (λ (z : Contents). Adds s r (blank z) U (accepted (gain new clash))) (accepted_one (sym e ∙ h)) x) q

  of_prints : {U : List ℕ} {a : Result (List ℕ)} → Prints s r (empty most_listed_words) U a → Shown s r (text_of a)
  of_prints (no_sheet {n} {p} e) = refusal n p
  of_prints (no_room e l) = refusal 29 0
  of_prints (on_table {k = k} {U = U} {a = a} e l x) =
      of_lists e (subst (λ (X : List ℕ). Lists s r X U a) (take_empty (table_words (meant k)) most_listed_words (omega (arith, l, length-replicate {A = ℕ} most_listed_words 0))) x)

  pub shown : {l : List ℕ} → Settles s r l → Shown s r l
  shown x = subst (Shown s r) (sym x.text_is) (of_prints x.prints)

-- A sheet whose table is listed: what one add makes of its empty table is what the program lists.
pub settles_listing : {s r U : List ℕ} {k : Contents} {new : ℕ} {clash : Bool} {f : ℕ → ℕ → Answer} → sheet_in s ≡ accepted k → table_words (meant k) ≤ most_listed_words
    → Adds s r (blank k) U (accepted (gain new clash)) → Answers (Standing (meant k) U) (length k.places) k.window f
    → Settles s r (listing_text (names_in s k) k.window (row_count_lem (meant k)) (facts_of (meant k) U) clash f)
settles_listing {s} {r} {U} {k} {new} {clash} e l x q = record {
  after = _;
  told = _;
  prints = on_table e (omega (arith, length-replicate {A = ℕ} most_listed_words 0)) (listed e (subst (λ (X : List ℕ). Adds s r X U (accepted (gain new clash))) (sym (take_empty (table_words (meant k)) most_listed_words l)) x) q);
  text_is = refl;
}
