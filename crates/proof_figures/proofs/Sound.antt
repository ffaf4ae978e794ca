-- What a run tells is so in every history that obeys the sheet and agrees with that run's readings (demand 3 for figures), and how a clashing run counts.
-- Assumes that the sheet is accepted. `s` is its text and k its contents, z a run, h a history.
use mathlib.Core.Path.{◌≡◌, refl, sym, ap, subst}
use mathlib.Core.Bool.{Bool, true, false, false≢true}
use mathlib.Core.List.Memᴰ
use mathlib.Core.List.{List, [], ◌∷◌}
use Prim.Native.Nat.{ℕ, ◌<◌}
use lib.IntN.{pos}
use lib.ListN.{length}
use Rattle.spec_tilco.specs.Inference.{Clash}
use Rattle.spec_tilco.specs.Meaning.{History, Obeys}
use Rattle.spec_tilco.specs.Table.{Standing, Answer, Unsettled, True, False, Contradiction}
use Rattle.read_sheet.specs.Sheet.{Contents, meant}
use Rattle.open_sheet.specs.Results.{accepted}
use Rattle.open_sheet.specs.SheetIn.{blank}
use Rattle.spec_operations.specs.Gain.{Gain, gain}
use Rattle.spec_operations.specs.Operations.{Adds, Asks}
use Rattle.proof_demands.specs.Refusals.{SheetAccepted}
use Rattle.proof_demands.specs.Runs.{FromBlank, AgreesWith, valued}
use Rattle.proof_demands.specs.Runs.RunTexts.{done, call}
use Rattle.proof_demands.proofs.Histories.{value_holds, no_contradiction, no_clash_told}
use Rattle.proof_demands.proofs.Refusals.{in_sheet_text}
use Rattle.proof_demands.proofs.Runs.{Step, changed, step_of, blank_opens}
use Rattle.spec_figures.specs.Records.{ticks_of, Settles}
use Rattle.spec_figures.proofs.Clashing.{ClashCounts, clash_counts, no_clash_counts}
use Rattle.proof_figures.specs.SingleRuns.{OneRun}
use Rattle.proof_figures.proofs.Runs.{run_said}

-- An answer that settles its cell gives a value.
value_of : (a : Answer) → Settles a → (v : Bool) × (a ≡ valued v)
value_of True s = (true, refl)
value_of False s = (false, refl)
value_of Unsettled s = absurd s
value_of Contradiction s = absurd s

-- What add tells of a clash.
clash_is : {s r T U : List ℕ} {k : Contents} {new : ℕ} → Step s k r T U (accepted (gain new true)) → Clash (Standing (meant k) U)
clash_is (changed f A g c) = c.0 refl

no_clash_is : {s r T U : List ℕ} {k : Contents} {new : ℕ} → Step s k r T U (accepted (gain new false)) → Clash (Standing (meant k) U) → ⊥
no_clash_is (changed f A g c) d = false≢true (c.1 d)

module _ {s : List ℕ} {k : Contents} (accepts : SheetAccepted s k) (z : OneRun s k) where
  -- ---- in the columns

  told : {g : Gain} → z.gained ≡ g → Step s k z.text (blank k) z.table (accepted g)
  told e = step_of (blank_opens s k (in_sheet_text s accepts)) (subst (λ (g : Gain). Adds s z.text (blank k) z.table (accepted g)) e z.adds)

  -- A run of which add tells a clash counts its whole window in the fourth column and nothing in the others,
  pub clash_columns : {new : ℕ} → z.gained ≡ gain new true → (x : ℕ) → x < length k.places → ClashCounts k.window (z.answer x)
  clash_columns e x h = clash_counts (Standing (meant k) z.table) x (z.answer x) k.window (clash_is (told e)) (run_said s k (in_sheet_text s accepts) z x h)

  -- and another run nothing in the fourth.
  pub no_clash_column : {new : ℕ} → z.gained ≡ gain new false → (x : ℕ) → x < length k.places → ticks_of Contradiction (z.answer x) k.window ≡ 0
  no_clash_column e x h = no_clash_counts (Standing (meant k) z.table) x (z.answer x) k.window (no_clash_is (told e)) (run_said s k (in_sheet_text s accepts) z x h)

  -- ---- in the histories

  abbrev from_blank : FromBlank s k (z.text ∷ []) z.table (accepted z.gained ∷ [])
  from_blank = record { sheet = accepts; run = call z.adds done }

  module _ (h : History) (obeys : Obeys (meant k) h) (agrees : AgreesWith s k (z.text ∷ []) h) where
    -- A tick that counts as true or false is so,
    pub counted_holds : (x t : ℕ) (v : Bool) → x < length k.places → t < k.window → z.answer x t ≡ valued v → h x (pos t) ≡ v
    counted_holds x t v i l e = value_holds from_blank h obeys agrees x t v (subst (λ (a : Answer). Asks s z.table x t (accepted a)) e (z.asks x t i l))

    -- no tick counts as a clash,
    pub counted_clash : (x t : ℕ) → x < length k.places → t < k.window → z.answer x t ≡ Contradiction → ⊥
    counted_clash x t i l e = no_contradiction from_blank h obeys agrees x t (subst (λ (a : Answer). Asks s z.table x t (accepted a)) e (z.asks x t i l))

    -- and add tells of none.
    pub run_no_clash : (new : ℕ) → z.gained ≡ gain new true → ⊥
    run_no_clash new e = no_clash_told from_blank h obeys agrees new (Memᴰ.head (sym (ap accepted e)))

  -- A settled tick has one value in all these histories.
  pub settled_holds : (x t : ℕ) → x < length k.places → t < k.window → Settles (z.answer x t)
      → (v : Bool) × ((h : History) → Obeys (meant k) h → AgreesWith s k (z.text ∷ []) h → h x (pos t) ≡ v)
  settled_holds x t i l e = let y = value_of (z.answer x t) e in (y.0, λ h obeys agrees. counted_holds h obeys agrees x t y.0 i l y.1)
