-- A sheet's text with its rules' lines shuffled is alike: accepted, with the same window and names and the same rules in some order.
-- Assumes nothing.
use mathlib.Core.Path.{◌≡◌, refl, sym, ap, ◌∙◌}
use mathlib.Core.List.Permᴰ
use mathlib.Core.List.{List, Permᴰ}
use Prim.Native.Nat.{ℕ}
use native.Mathlib.Omega.{arith}
use Rattle.read_names.specs.Spellings.{names_at}
use Rattle.read_bytes.proofs.Answers.{same_value}
use lib.ListN.{length}
use Rattle.spec_tilco.specs.Formula.{hiddens, Sheet, with_rules}
use Rattle.spec_tilco.specs.Lowering.{row_count_lem}
use Rattle.spec_tilco.proofs.Lists.{total_stays}
use Rattle.spec_tilco.proofs.Demand3.{shuffle_keeps_rows}
use Rattle.read_bytes.specs.Read.Read.{got}
use Rattle.read_head.specs.SheetHead.{Head, head_of, head}
use Rattle.spec_grammar.proofs.HeadLines.{reached_head}
use Rattle.read_sheet.specs.Sheet.{Contents, meant, rule_lines, sheet_text}
use Rattle.read_sheet.proofs.Wholes.{sheet_head}
use Rattle.read_head.proofs.HeadPrefix.{head_kept, head_names_kept}
use Rattle.read_sheet.proofs.Shuffled.{ShuffledFrom, shuffled, shuffled_meant}
use Rattle.open_sheet.specs.Results.{accepted}
use Rattle.open_sheet.specs.SheetIn.{sheet_in, names_in}
use Rattle.spec_operations.specs.Operations.{counted, checked}
use Rattle.open_sheet.proofs.Sheets.{in_fits}
use Rattle.open_table.proofs.Tables.{InSheet, in_sheet}
use Rattle.proof_demands.specs.Shuffles.{Parted}

-- Two accepted texts with the same window and names, and the same rules in some order.
pub record Alike (s s' : List ℕ) (k k' : Contents) : Type 0 where
  pub first : sheet_in s ≡ accepted k
  pub second : sheet_in s' ≡ accepted k'
  pub names : names_in s k ≡ names_in s' k'
  pub rules : Permᴰ k.rules k'.rules
  pub means : meant k' ≡ with_rules (meant k) k'.rules

-- The other way round.
pub alike_back : {s s' : List ℕ} {k k' : Contents} → Alike s s' k k' → Alike s' s k' k
alike_back {k = k} x = record {
  first = x.second;
  second = x.first;
  names = sym x.names;
  rules = Permᴰ.symm x.rules;
  means = sym (ap (λ (z : Sheet). with_rules z k.rules) x.means);
}

-- ---- shuffled texts

module _ {h : List ℕ} {bodies bodies' : List (List ℕ)} (y : Parted h bodies) (p : Permᴰ bodies bodies') {k : Contents} (e : sheet_in (sheet_text h bodies) ≡ accepted k) where
  abbrev known : InSheet (sheet_text h bodies) k
  known = in_sheet (sheet_text h bodies) e

  abbrev headed : head h ≡ got (head_of y.window y.places (length bodies)) (length h)
  headed = reached_head h y.lines

  abbrev found : ShuffledFrom k known.place (sheet_text h bodies')
  found = shuffled h headed p y.in_lines refl known.reads

  -- As many rows.
  rows_stay : row_count_lem (meant k) ≡ row_count_lem (meant found.sheet)
  rows_stay = shuffle_keeps_rows (meant k) found.sheet.rules found.rules ∙ ap row_count_lem (sym (shuffled_meant found))

  -- The head's names stand where the sheet's do.
  places_are : y.places ≡ k.places
  places_are = let x = sheet_head (sheet_text h bodies) known.reads in ap (λ (d : Head). d.places) (same_value (sym (head_kept h (rule_lines bodies) headed) ∙ x.2))

  -- Shuffled texts are alike,
  pub shuffled_alike : Alike (sheet_text h bodies) (sheet_text h bodies') k found.sheet
  shuffled_alike = record {
    first = e;
    second = in_fits (sheet_text h bodies') found.reads (omega (arith, known.hidden, total_stays hiddens found.rules)) (omega (arith, known.rows, rows_stay));
    names =
        ap (names_at (sheet_text h bodies)) (sym places_are) ∙ head_names_kept h (rule_lines bodies) headed ∙ sym (head_names_kept h (rule_lines bodies') headed)
        ∙ ap (names_at (sheet_text h bodies')) (places_are ∙ sym found.places);
    rules = found.rules;
    means = shuffled_meant found;
  }

  -- and check answers alike.
  pub check_alike : checked (sheet_text h bodies) ≡ checked (sheet_text h bodies')
  check_alike = ap counted e ∙ ap (λ (n : ℕ). accepted n) rows_stay ∙ sym (ap counted shuffled_alike.second)
