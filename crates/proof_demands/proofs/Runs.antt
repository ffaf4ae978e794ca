-- Calls of add with readings texts are calls of add with marks, as `spec_tilco` speaks of them. s is the sheet's text and k its contents.
-- Assumes that the sheet is accepted, and the table with it.
use mathlib.Core.Path.{◌≡◌, refl, sym, ◌∙◌, subst}
use mathlib.Core.Bool.{Bool, true, false}
use mathlib.Core.List.Memᴰ
use mathlib.Core.List.{List, [], ◌∷◌, map, Memᴰ}
use mathlib.Core.Logic.{◌⊎◌, inl, inr, ⊎_elim, ◌↔◌}
use Prim.Native.Nat.{ℕ, ◌-◌, ◌≤◌}
use native.Mathlib.Omega.{arith}
use lib.ListN.{length-replicate}
use Rattle.read_bytes.specs.Read.{Read}
use Rattle.read_bytes.specs.Read.Read.{got, refused as unread}
use Rattle.read_names.proofs.Names.{names_many}
use Rattle.spec_ticks.proofs.Tables.{empty_bare}
use Rattle.spec_tilco.specs.Lists.{All, total}
use Rattle.spec_tilco.specs.Formula.{Sheet, Declared}
use Rattle.spec_tilco.specs.Inference.{Mark, mark, Clash}
use Rattle.spec_tilco.specs.Table.{words, Standing, table_words, facts_of, InRange, Added}
use Rattle.spec_tilco.specs.Calls.{Call, Run, readings_of, Some, reported}
use Rattle.spec_tilco.specs.Calls as tilco
use Rattle.spec_tilco.proofs.Lists.{all_append}
use Rattle.spec_tilco.proofs.Demand2.{added_inside, added_keeps}
use Rattle.read_sheet.specs.Sheet.{Contents, meant}
use Rattle.read_sheet.proofs.Accepted.{sheet_declared}
use Rattle.read_readings.specs.Readings.{readings}
use Rattle.read_readings.proofs.Bounds.{readings_of_sheet}
use Rattle.open_sheet.specs.Results.{Result, accepted, refused}
use Rattle.spec_operations.specs.Gain.{Gain, gain}
use Rattle.open_sheet.specs.SheetIn.{sheet_in, names_in, blank}
use Rattle.open_table.specs.Opens.{Opens}
use Rattle.open_table.specs.Opens.Opens.{both}
use Rattle.spec_operations.specs.Operations.{Adds}
use Rattle.spec_operations.specs.Operations.Adds.{not_opened, not_read, added}
use Rattle.open_table.proofs.Tables.{in_sheet}
use Rattle.proof_demands.specs.Runs.{RunTexts, new_in}
use Rattle.proof_demands.specs.Runs.RunTexts.{done, call}
use Rattle.spec_operations.proofs.Determined.{opens_same, opens_or_not}

-- ---- calls as `spec_tilco` speaks of them

-- The call of a readings text: accepted, with its marks, or refused.
abbrev pub call_of : Read (List Mark) → Call
call_of (got ms q) = tilco.add ms
call_of (unread n p) = tilco.refused

-- The calls of readings texts.
abbrev pub calls : List ℕ → Contents → List (List ℕ) → List Call
calls s k rs = map (λ r. call_of (readings (names_in s k) k.window r)) rs

-- All the marks of the accepted texts.
abbrev pub marks_in : List ℕ → Contents → List (List ℕ) → List Mark
marks_in s k rs = readings_of (calls s k rs)

-- ---- one call

-- What add answers and makes of the table T where the sheet and the table are accepted.
pub data Step (s : List ℕ) (k : Contents) (r T U : List ℕ) : Result Gain → Type 0 where
  unchanged : {n p : ℕ} → readings (names_in s k) k.window r ≡ unread n p → U ≡ T → Step s k r T U (refused n p)
  changed : {ms : List Mark} {q new : ℕ} {clash : Bool} → readings (names_in s k) k.window r ≡ got ms q → Added (meant k) T ms U
      → new ≡ facts_of (meant k) U - facts_of (meant k) T → (clash ≡ true) ↔ Clash (Standing (meant k) U) → Step s k r T U (accepted (gain new clash))

-- By what add's contract allows.
pub step_of : {s r T U : List ℕ} {k : Contents} {a : Result Gain} → Opens s T (accepted k) → Adds s r T U a → Step s k r T U a
step_of o (not_opened x e) = opens_or_not o x
step_of {s} {r} {T} {U} {k} o (not_read {n = n} {p = p} x f e) = subst (λ (z : Contents). Step s z r T U (refused n p)) (opens_same x o) (unchanged f e)
step_of {s} {r} {T} {U} {k} o (added {new = new} {clash = clash} x f A g c) =
    subst (λ (z : Contents). Step s z r T U (accepted (gain new clash))) (opens_same x o) (changed f A g c)

module _ (s : List ℕ) (k : Contents) (e : sheet_in s ≡ accepted k) where
  -- The window has a tick, every name in a rule is declared, and readings are of declared signals at ticks of the window.
  pub window_some : 1 ≤ k.window
  window_some = (in_sheet s e).sizes.window_low

  pub all_declared : Declared (meant k)
  all_declared = sheet_declared s (in_sheet s e).reads

  pub marks_within : (r : List ℕ) {ms : List Mark} {q : ℕ} → readings (names_in s k) k.window r ≡ got ms q → All (InRange (meant k)) ms
  marks_within r f = readings_of_sheet (meant k) (names_in s k) r window_some (names_many s k.places) f

  pub all_within : (rs : List (List ℕ)) → All (InRange (meant k)) (marks_in s k rs)
  all_within [] = tt
  all_within (r ∷ rs) = go (readings (names_in s k) k.window r) refl (all_within rs)
    where
      go : (R : Read (List Mark)) → readings (names_in s k) k.window r ≡ R → All (InRange (meant k)) (marks_in s k rs) → All (InRange (meant k)) (readings_of (call_of R ∷ calls s k rs))
      go (got ms q) f a = all_append (InRange (meant k)) ms (marks_in s k rs) (marks_within r f) a
      go (unread n p) f a = a

  -- The table without a mark is accepted.
  pub blank_opens : Opens s (blank k) (accepted k)
  blank_opens = both e (length-replicate {A = ℕ} (table_words (meant k)) 0) (λ r t v i. absurd (empty_bare 64 (words k.window) (table_words (meant k)) r t v i))

  -- And so is the table after a call.
  pub step_opens : {r T U : List ℕ} {a : Result Gain} → Opens s T (accepted k) → Step s k r T U a → Opens s U (accepted k)
  step_opens {T = T} o (unchanged f z) = subst (λ (X : List ℕ). Opens s X (accepted k)) (sym z) o
  step_opens {r} (both z l i) (changed f A g c) = both z (A.size ∙ l) (added_inside (meant k) i (marks_within r f) A)

-- ---- calls one after the other

-- The calls as `spec_tilco` speaks of them, with the facts that they report.
pub record AsCalls (s : List ℕ) (k : Contents) (T : List ℕ) (rs : List (List ℕ)) (U : List ℕ) (answers : List (Result Gain)) : Type 0 where
  pub news : List ℕ
  pub run : Run (meant k) T (calls s k rs) U news
  pub sum : reported news ≡ total new_in answers
  pub opened : Opens s U (accepted k)

module _ (s : List ℕ) (k : Contents) (e : sheet_in s ≡ accepted k) where
  -- A call before others.
  one_more : {r T T' U : List ℕ} {rs : List (List ℕ)} {a : Result Gain} {answers : List (Result Gain)} → Step s k r T T' a → AsCalls s k T' rs U answers → AsCalls s k T (r ∷ rs) U (a ∷ answers)
  one_more {r} {T} {T'} {U} {rs} (unchanged f z) x = record {
    news = x.news;
    run = subst (λ (R : Read (List Mark)). Run (meant k) T (call_of R ∷ calls s k rs) U x.news) (sym f) (tilco.refuse (subst (λ (X : List ℕ). Run (meant k) X (calls s k rs) U x.news) z x.run));
    sum = omega (arith, x.sum);
    opened = x.opened;
  }
  one_more {r} {T} {T'} {U} {rs} (changed f A g c) x = record {
    news = (facts_of (meant k) T' - facts_of (meant k) T) ∷ x.news;
    run = subst (λ (R : Read (List Mark)). Run (meant k) T (call_of R ∷ calls s k rs) U ((facts_of (meant k) T' - facts_of (meant k) T) ∷ x.news)) (sym f) (tilco.call A x.run);
    sum = omega (arith, x.sum, g);
    opened = x.opened;
  }

  -- All calls.
  pub as_calls : {T U : List ℕ} {rs : List (List ℕ)} {answers : List (Result Gain)} → Opens s T (accepted k) → RunTexts s T rs U answers → AsCalls s k T rs U answers
  as_calls o done = record { news = []; run = tilco.done; sum = refl; opened = o }
  as_calls o (call a x) = let z = step_of o a in one_more z (as_calls (step_opens s k e o z) x)

-- ---- what holds of all calls

module _ (s : Sheet) where
  -- Marks stay.
  pub run_keeps : {T U : List ℕ} {cs : List Call} {ns : List ℕ} → Run s T cs U ns → (m : Mark) → Standing s T m → Standing s U m
  run_keeps tilco.done m i = i
  run_keeps (tilco.call A x) m i = run_keeps x m (added_keeps s A m (inl i))
  run_keeps (tilco.refuse x) m i = run_keeps x m i

  -- Where none is accepted, the table stays.
  pub run_none : {T U : List ℕ} {cs : List Call} {ns : List ℕ} → Run s T cs U ns → (Some cs → ⊥) → U ≡ T
  run_none tilco.done f = refl
  run_none (tilco.call A x) f = absurd (f tt)
  run_none (tilco.refuse x) f = run_none x f

-- One at least is accepted, or none is.
pub some_told : (cs : List Call) → Some cs ⊎ (Some cs → ⊥)
some_told [] = inr (λ x. x)
some_told (tilco.add R ∷ cs) = inl tt
some_told (tilco.refused ∷ cs) = some_told cs

-- An answer that tells of a clash: it is in the last table.
pub clash_stays : (s : List ℕ) (k : Contents) (e : sheet_in s ≡ accepted k) {T U : List ℕ} {rs : List (List ℕ)} {answers : List (Result Gain)} {new : ℕ} → Opens s T (accepted k) → RunTexts s T rs U answers
    → Memᴰ (accepted (gain new true)) answers → Clash (Standing (meant k) U)
clash_stays s k e o done i = absurd (Memᴰ.not-nil i)
clash_stays s k e {T} {U} {new = new} o (call {T' = T'} {a = a} x y) i = ⊎_elim here (λ j. clash_stays s k e (step_opens s k e o (step_of o x)) y j) (Memᴰ.cases_cons i)
  where
    stays : Clash (Standing (meant k) T') → Clash (Standing (meant k) U)
    stays c =
        let keeps = run_keeps (meant k) (as_calls s k e (step_opens s k e o (step_of o x)) y).run in
        record { row = c.row; tick = c.tick; holds = keeps (mark c.row c.tick true) c.holds; fails = keeps (mark c.row c.tick false) c.fails }

    told : {r : List ℕ} → Step s k r T T' (accepted (gain new true)) → Clash (Standing (meant k) T')
    told (changed f A g c) = c.0 refl

    here : accepted (gain new true) ≡ a → Clash (Standing (meant k) U)
    here z = stays (told (subst (Step s k _ T T') (sym z) (step_of o x)))
