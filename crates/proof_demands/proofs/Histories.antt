-- What ask and add tell, after calls of add from the table without a mark, of a history that obeys the sheet and agrees with the readings.
-- Assumes nothing. s is the sheet's text and k its contents.
use mathlib.Core.Path.{◌≡◌, subst}
use mathlib.Core.Bool.{Bool, true, false}
use mathlib.Core.List.{List, Memᴰ}
use Prim.Native.Nat.{ℕ}
use lib.IntN.{pos}
use Rattle.spec_tilco.specs.Lists.{All}
use Rattle.spec_tilco.specs.Inference.{mark, Clash}
use Rattle.spec_tilco.specs.Meaning.{History, Obeys}
use Rattle.spec_tilco.specs.Table.{Standing, table_words, InRange, Agrees, Answer, Contradiction, Asked, clashes, holds, fails}
use Rattle.spec_tilco.proofs.Lists.{all_of_lem}
use Rattle.spec_tilco.proofs.Demand3.{values_hold, clash_has_no_history}
use Rattle.read_sheet.specs.Sheet.{Contents, meant}
use Rattle.open_sheet.specs.Results.{Result, accepted}
use Rattle.open_sheet.specs.SheetIn.{sheet_in}
use Rattle.spec_operations.specs.Gain.{Gain, gain}
use Rattle.spec_operations.specs.Operations.{Asks}
use Rattle.spec_operations.specs.Operations.Asks.{asked}
use Rattle.proof_demands.specs.Runs.{FromBlank, AgreesWith, valued}
use Rattle.spec_operations.proofs.Determined.{opens_same}
use Rattle.proof_demands.proofs.Refusals.{in_sheet_text}
use Rattle.proof_demands.proofs.Texts.{marks_read}
use Rattle.proof_demands.proofs.Runs.{marks_in, all_declared, all_within, blank_opens, clash_stays}
use Rattle.proof_demands.proofs.LastTable.{as_run}

module _ {s : List ℕ} {k : Contents} {rs : List (List ℕ)} {U : List ℕ} {answers : List (Result Gain)} (x : FromBlank s k rs U answers) where
  sheet_is : sheet_in s ≡ accepted k
  sheet_is = in_sheet_text s x.sheet

  agrees_all : (h : History) → AgreesWith s k rs h → All (Agrees h) (marks_in s k rs)
  agrees_all h agrees = all_of_lem (Agrees h) (marks_in s k rs) (λ m i. agrees m (marks_read s k rs m i))

  -- What ask answers on the last table is what the table says.
  said : {y t : ℕ} {a : Answer} → Asks s U y t (accepted a) → InRange (meant k) (mark y t true) × Asked (Standing (meant k) U) y t a
  said {y} {t} {a} (asked o i u) =
      let z = opens_same o (as_run x).opened in
      (subst (λ (c : Contents). InRange (meant c) (mark y t true)) z i, subst (λ (c : Contents). Asked (Standing (meant c) U) y t a) z u)

  module _ (h : History) (obeys : Obeys (meant k) h) (agrees : AgreesWith s k rs h) where
    no_clash : Clash (Standing (meant k) U) → ⊥
    no_clash = clash_has_no_history (meant k) (all_declared s k sheet_is) (table_words (meant k)) (as_run x).run (all_within s k sheet_is rs) h obeys (agrees_all h agrees)

    of_cell : {y t : ℕ} {v : Bool} → InRange (meant k) (mark y t true) → Standing (meant k) U (mark y t v) → h y (pos t) ≡ v
    of_cell {y} {t} {v} i j = values_hold (meant k) (all_declared s k sheet_is) (table_words (meant k)) (as_run x).run (all_within s k sheet_is rs) h obeys (agrees_all h agrees) y t v i.0 j

    -- What the table says is the history's value.
    pub told_holds : {y t : ℕ} (v : Bool) → InRange (meant k) (mark y t true) → Asked (Standing (meant k) U) y t (valued v) → h y (pos t) ≡ v
    told_holds true i (holds f j) = of_cell i j
    told_holds false i (fails f j) = of_cell i j

    says_none : {y t : ℕ} → Asked (Standing (meant k) U) y t Contradiction → ⊥
    says_none (clashes c) = no_clash c

    -- A value that ask gives is the history's.
    pub value_holds : (y t : ℕ) (v : Bool) → Asks s U y t (accepted (valued v)) → h y (pos t) ≡ v
    value_holds y t v a = let z = said a in told_holds v z.0 z.1

    -- Neither ask nor add tells of a clash.
    pub no_contradiction : (y t : ℕ) → Asks s U y t (accepted Contradiction) → ⊥
    no_contradiction y t a = says_none (said a).1

    pub no_clash_told : (new : ℕ) → Memᴰ (accepted (gain new true)) answers → ⊥
    no_clash_told new i = no_clash (clash_stays s k sheet_is (blank_opens s k sheet_is) x.run i)
