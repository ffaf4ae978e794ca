-- A step of the proof: texts that pass a computed test settle. The test reads them, closes a table and compares its listing with the one expected.
-- Assumes nothing. `s` is the sheet's text, r the readings' text, l the listing.
use mathlib.Core.Path.{◌≡◌, refl, sym, subst}
use mathlib.Core.Bool.{Bool, true, false, ◌&&◌}
use mathlib.Core.List.{List}
use mathlib.Core.Logic.{◌↔◌}
use Prim.Native.Nat.{ℕ, ◌-◌, ◌*◌, ◌≤◌}
use native.Mathlib.Omega.{arith}
use lib.Dec.{T}
use lib.ListN.{length, length-replicate}
use Rattle.spec_limits.specs.Limits.{most_listed_words}
use Rattle.spec_ticks.proofs.Tables.{empty_bare, empty_tally}
use Rattle.read_bytes.specs.Read.{Read}
use Rattle.read_bytes.specs.Read.Read.{got, refused as unread}
use Rattle.read_names.specs.Spellings.{same_text_lem}
use Rattle.read_names.proofs.Names.{same_text}
use Rattle.spec_tilco.specs.Formula.{Sheet}
use Rattle.spec_tilco.specs.Inference.{Mark}
use Rattle.spec_tilco.specs.Lowering.{row_count_lem}
use Rattle.spec_tilco.specs.Table.{words, table_words, facts_of}
use Rattle.read_sheet.specs.Sheet.{Contents, meant}
use Rattle.read_readings.specs.Readings.{readings}
use Rattle.list_table.specs.Listing.{listing_text}
use Rattle.open_sheet.specs.Results.{Result, accepted, refused}
use Rattle.spec_operations.specs.Gain.{gain}
use Rattle.open_sheet.specs.SheetIn.{sheet_in, names_in, blank}
use Rattle.open_table.specs.Opens.{Opens}
use Rattle.open_table.proofs.Tables.{in_sheet}
use Rattle.open_table.specs.Opens.Opens.{both}
use Rattle.spec_operations.specs.Operations.{Adds}
use Rattle.spec_operations.specs.Operations.Adds.{added}
use Rattle.list_settled.specs.Prints.{Settles}
use Rattle.list_settled.proofs.EmptyTable.{settles_listing}
use Rattle.proof_cases.proofs.ComputedClosing.{and_left, and_right}
use Rattle.proof_cases.proofs.Computed.{table_of, ready, clashing, answers_of, clash_is, asked, two_a_row}
use Rattle.proof_cases.proofs.Computed as computed

-- The listing of a table that clashes or does not.
abbrev listing_of : List (List ℕ) → Sheet → List ℕ → Bool → List ℕ
listing_of names v U clash = listing_text names v.window (row_count_lem v) (facts_of v U) clash (answers_of clash U)

-- The test of a sheet and readings as they are read: the computed table is closed, and its listing is l.
abbrev lists : List ℕ → List (List ℕ) → Sheet → List Mark → List ℕ → Bool
lists l names v R U = ready v R U && same_text_lem (listing_of names v U (clashing v.window (row_count_lem v) U)) l

-- The test where the readings were read, or refused.
abbrev readings_pass : List ℕ → List (List ℕ) → Sheet → Read (List Mark) → Bool
readings_pass l names v (got R q) = lists l names v R (table_of v R)
readings_pass l names v (unread n p) = false

-- The test where the sheet was accepted, or refused.
abbrev sheet_passes : List ℕ → List ℕ → List ℕ → Result Contents → Bool
sheet_passes s r l (accepted k) = readings_pass l (names_in s k) (meant k) (readings (names_in s k) k.window r)
sheet_passes s r l (refused n p) = false

-- The test of the texts.
abbrev pub texts_pass : List ℕ → List ℕ → List ℕ → Bool
texts_pass s r l = sheet_passes s r l (sheet_in s)

so_true : (b : Bool) → (b ≡ true) ↔ T b
so_true true = (λ e. tt, λ t. refl)
so_true false = (λ e. subst T (sym e) tt, λ t. absurd t)

module _ (s r l : List ℕ) where
  module _ (k : Contents) (R : List Mark) (q : ℕ) (sheet_read : sheet_in s ≡ accepted k) (readings-read : readings (names_in s k) k.window r ≡ got R q)
      (passed : T (lists l (names_in s k) (meant k) R (table_of (meant k) R))) where
    abbrev U : List ℕ
    U = table_of (meant k) R

    abbrev clash : Bool
    clash = clashing k.window (row_count_lem (meant k)) U

    abbrev listing : List ℕ
    listing = listing_of (names_in s k) (meant k) U clash

    closes : T (ready (meant k) R U)
    closes = and_left (ready (meant k) R U) (same_text_lem listing l) passed

    listing_is : listing ≡ l
    listing_is = (same_text listing l).0 ((so_true (same_text_lem listing l)).1 (and_right (ready (meant k) R U) (same_text_lem listing l) passed))

    opens : Opens s (blank k) (accepted k)
    opens = both sheet_read (length-replicate {A = ℕ} (table_words (meant k)) 0) (λ x t v i. absurd (empty_bare 64 (words k.window) (table_words (meant k)) x t v i))

    adds : Adds s r (blank k) U (accepted (gain (facts_of (meant k) U) clash))
    adds =
        let z = so_true clash in
        let c = clash_is (meant k) R closes in
        let none = empty_tally (table_words (meant k)) (2 * length k.places * words k.window) in
        let new : facts_of (meant k) U ≡ facts_of (meant k) U - facts_of (meant k) (blank k) = omega arith in
        added opens readings-read (computed.added (meant k) R closes) new (λ e. c.1 (z.0 e), λ i. z.1 (c.0 i))

    -- One word a row and value, and at most 1,024 rows: the table is listed.
    listed_words : table_words (meant k) ≤ most_listed_words
    listed_words = omega (arith, two_a_row (meant k) R closes, (in_sheet s sheet_read).rows)

    settles_read : Settles s r l
    settles_read = subst (Settles s r) listing_is (settles_listing sheet_read listed_words adds (λ x h t u. asked (meant k) R closes x t))

  of_readings : (k : Contents) → sheet_in s ≡ accepted k → (X : Read (List Mark)) → readings (names_in s k) k.window r ≡ X
      → T (readings_pass l (names_in s k) (meant k) X) → Settles s r l
  of_readings k i (got R q) j t = settles_read k R q i j t
  of_readings k i (unread n p) j t = absurd t

  of_sheet : (X : Result Contents) → sheet_in s ≡ X → T (sheet_passes s r l X) → Settles s r l
  of_sheet (accepted k) i t = of_readings k i (readings (names_in s k) k.window r) refl t
  of_sheet (refused n p) i t = absurd t

  -- For texts that pass the test, the listing is printed.
  pub passed_settles : T (texts_pass s r l) → Settles s r l
  passed_settles t = of_sheet (sheet_in s) refl t
