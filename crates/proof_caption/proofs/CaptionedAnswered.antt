-- Every input of the listing with captions gets an answer.
-- Assumes of the lent table that its words have 64 bits.
use mathlib.Core.Path.{◌≡◌, refl}
use mathlib.Core.List.{List}
use Prim.Native.Nat.{ℕ, ◌<◌, ◌≤◌}
use native.Mathlib.Decide.{dec_lt}
use native.Mathlib.Omega.{arith}
use lib.ListN.{length, take}
use Rattle.spec_limits.specs.Limits.{most_listed_words}
use Rattle.std.specs.Prelude.{Option}
use Rattle.read_bytes.specs.Read.{Read}
use Rattle.read_bytes.specs.Read.Read.{got, refused as unread}
use Rattle.spec_ticks.specs.Ticks.{Small, empty}
use Rattle.spec_ticks.proofs.Tables.{empty_small}
use Rattle.spec_tilco.specs.Table.{words, table_words}
use Rattle.read_sheet.specs.Sheet.{Contents, meant}
use Rattle.read_captions.specs.Captions.{captions_in}
use Rattle.read_captions.specs.Parts.{shown_texts}
use Rattle.open_sheet.specs.Results.{Result, accepted, refused}
use Rattle.spec_operations.specs.Gain.{Gain, gain}
use Rattle.open_sheet.specs.SheetIn.{sheet_in, names_in}
use Rattle.spec_operations.specs.Operations.{Adds}
use Rattle.list_settled.specs.Prints.{text_of}
use Rattle.list_captioned.specs.PrintsCaptioned.{PrintsCaptioned, SettlesCaptioned}
use Rattle.list_captioned.specs.PrintsCaptioned.ListsShown.{listed}
use Rattle.list_captioned.specs.PrintsCaptioned.PrintsCaptioned.{no_sheet, no_captions_lem, no_room, on_table}
use Rattle.list_captioned.proofs.Printing.{refused_lists}
use Rattle.proof_demands.proofs.Answered.{add_some, asked_some, small_take}

-- For every sheet, readings, captions and lent table there is what the listing with captions tells,
pub captioned_some : (s r c T : List ℕ) → Small 64 T → (U : List ℕ) × (a : Result (List ℕ)) × PrintsCaptioned s r c T U a
captioned_some s r c T small = go (sheet_in s) refl
  where
    of_answer : {k : Contents} {at : List (Option ℕ)} {U : List ℕ} {q : ℕ} → sheet_in s ≡ accepted k → captions_in (names_in s k) c ≡ got at q → table_words (meant k) ≤ length T → (a : Result Gain) → Adds s r (take (table_words (meant k)) T) U a
        → (U : List ℕ) × (a : Result (List ℕ)) × PrintsCaptioned s r c T U a
    of_answer {k} {U = U} e i l (accepted (gain new clash)) x =
        (_, _, on_table e i l (listed {f = λ y t. (asked_some s U y t (words k.window)).0} e x (λ y h t i. (asked_some s U y t (words k.window)).1)))
    of_answer {k} {at} e i l (refused n p) x = (_, _, on_table e i l (refused_lists (shown_texts s c k.places at) x))

    in_room : (k : Contents) {at : List (Option ℕ)} {q : ℕ} → sheet_in s ≡ accepted k → captions_in (names_in s k) c ≡ got at q → Dec (length T < table_words (meant k)) → (U : List ℕ) × (a : Result (List ℕ)) × PrintsCaptioned s r c T U a
    in_room k e i (yes l) = (T, refused 29 0, no_room e i l)
    in_room k e i (no l) = let x = add_some s r (take (table_words (meant k)) T) (small_take (table_words (meant k)) T small) in of_answer e i (omega arith) x.1 x.2

    of_captions : (k : Contents) → sheet_in s ≡ accepted k → (R : Read (List (Option ℕ))) → captions_in (names_in s k) c ≡ R → (U : List ℕ) × (a : Result (List ℕ)) × PrintsCaptioned s r c T U a
    of_captions k e (got at q) i = in_room k e i (dec_lt (length T) (table_words (meant k)))
    of_captions k e (unread n p) i = (T, refused n p, no_captions_lem e i)

    go : (R : Result Contents) → sheet_in s ≡ R → (U : List ℕ) × (a : Result (List ℕ)) × PrintsCaptioned s r c T U a
    go (accepted k) e = of_captions k e (captions_in (names_in s k) c) refl
    go (refused n p) e = (T, refused n p, no_sheet e)

-- and so a text that the listing program with captions prints.
pub settles_captioned_some : (s r c : List ℕ) → (l : List ℕ) × SettlesCaptioned s r c l
settles_captioned_some s r c =
    let x = captioned_some s r c (empty most_listed_words) (empty_small 64 most_listed_words) in
    (text_of x.1, record { after = x.0; told = x.1; prints = x.2; text_is = refl })
