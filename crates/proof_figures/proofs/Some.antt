-- Every input gets an answer: for every sheet text, joined readings texts, lengths, work table and count of records there is one that the promise of figures allows.
-- Assumes nothing, of the work table's words neither. `s` is the sheet's text, j the joined readings texts, ns their lengths, T the work table, m how many records are lent.
use mathlib.Core.Path.{◌≡◌, refl, subst}
use mathlib.Core.List.Memᴰ
use mathlib.Core.List.{List, [], ◌∷◌, map, Memᴰ}
use mathlib.Core.Logic.{◌⊎◌, inl, inr, ⊎_elim}
use Prim.Native.Nat.{ℕ, zero, suc, ◌<◌}
use native.Mathlib.Decide.{ℕ_discrete, dec_lt}
use native.Mathlib.Omega.{arith}
use lib.ListN.{length}
use Rattle.spec_limits.specs.Limits.{most_runs}
use Rattle.read_bytes.specs.Read.{Read}
use Rattle.read_bytes.specs.Read.Read.{got, refused as unread}
use Rattle.spec_tilco.specs.Lists.{All, total}
use Rattle.spec_tilco.specs.Inference.{Mark}
use Rattle.spec_tilco.specs.Table.{table_words, Answer, Unsettled, True, False, Contradiction}
use Rattle.read_sheet.specs.Sheet.{Contents, meant}
use Rattle.read_readings.proofs.Cuts.{AllAccepted}
use Rattle.read_readings.proofs.Cuts.AllAccepted.{none as no_text, one}
use Rattle.open_sheet.specs.Results.{Result, accepted, refused}
use Rattle.open_sheet.specs.SheetIn.{sheet_in, names_in}
use Rattle.list_order.specs.Order.{in_order_lem}
use Rattle.spec_tilco.proofs.Lists.{all_of_lem}
use Rattle.spec_figures.specs.declared.Record.{Record}
use Rattle.spec_figures.specs.Records.{column, Settles, SettledIn, Earliest, earliest, none, Tells}
use Rattle.spec_figures.specs.Texts.{LengthsFit, texts_in, marks_from}
use Rattle.spec_figures.specs.Figures.{Each, Closed, AnswersOf, Ran, Figures}
use Rattle.spec_figures.specs.Figures.Figures.{not_opened, not_the_table, not_the_records, not_the_lengths, not_read, figured}
use Rattle.spec_figures.proofs.EachLaws.{each_some}
use Rattle.proof_figures.proofs.TextsInTurn.{texts_accepted}
use Rattle.proof_figures.proofs.ClosedTables.{closed_some, closed_long, answers_some}

-- ---- the earliest tick

-- Of ticks that can be told, all below W, there is an earliest, or none.
earliest_some : (P : ℕ → Type 0) → ((t : ℕ) → Dec (P t)) → (W : ℕ) → ((t : ℕ) → P t → t < W) → (t : ℕ) × Earliest P t
earliest_some P told W within = ⊎_elim (λ x. x) (λ f. (_, none (λ t p. f t (within t p) p))) (below W)
  where
    below : (n : ℕ) → ((t : ℕ) × Earliest P t) ⊎ ((t : ℕ) → t < n → P t → ⊥)
    below zero = inr (λ t h p. absurd (omega arith))
    below (suc n) = ⊎_elim inl (λ f. here f (told n)) (below n)
      where
        here : ((t : ℕ) → t < n → P t → ⊥) → Dec (P n) → ((t : ℕ) × Earliest P t) ⊎ ((t : ℕ) → t < suc n → P t → ⊥)
        here f (yes p) = inl (n, earliest n p f)
        here f (no q) = inr (λ t h p. last t h p (dec_lt t n))
          where
            last : (t : ℕ) → t < suc n → P t → Dec (t < n) → ⊥
            last t h p (yes l) = f t l p
            last t h p (no l) = let z : t ≡ n = omega arith in q (subst P z p)

settles_told : (a : Answer) → Dec (Settles a)
settles_told True = yes tt
settles_told False = yes tt
settles_told Unsettled = no (λ x. x)
settles_told Contradiction = no (λ x. x)

-- Whether a run settles the tick.
settled_told : (t : ℕ) (runs : List (ℕ → Answer)) → Dec ((f : ℕ → Answer) × Memᴰ f runs × Settles (f t))
settled_told t [] = no (λ x. Memᴰ.not-nil x.1)
settled_told t (f ∷ runs) = go (settles_told (f t)) (settled_told t runs)
  where
    go : Dec (Settles (f t)) → Dec ((g : ℕ → Answer) × Memᴰ g runs × Settles (g t)) → Dec ((g : ℕ → Answer) × Memᴰ g (f ∷ runs) × Settles (g t))
    go (yes s) d = yes (f, Memᴰ.head refl, s)
    go (no s) (yes x) = yes (x.0, Memᴰ.tail x.1, x.2)
    go (no s) (no x) = no (λ y. ⊎_elim (λ e. s (subst (λ (g : ℕ → Answer). Settles (g t)) e y.2)) (λ i. x (y.0, i, y.2)) (Memᴰ.cases_cons y.1))

-- ---- a record

tells_some : (W x : ℕ) (runs : List (ℕ → Answer)) → (r : Record) × Tells W x runs r
tells_some W x runs =
    let z = earliest_some (SettledIn W runs) within_told W (λ t s. s.0) in (
      record { signal = x; held = column True W runs; failed = column False W runs; unsettled = column Unsettled W runs; clashed = column Contradiction W runs; first = z.0 },
      record { signal_is = refl; held_is = refl; failed_is = refl; unsettled_is = refl; clashed_is = refl; first_is = z.1 },
    )
  where
    both : {A B : Type 0} → Dec A → Dec B → Dec (A × B)
    both (yes a) (yes b) = yes (a, b)
    both (yes a) (no b) = no (λ x. b x.1)
    both (no a) d = no (λ x. a x.0)

    within_told : (t : ℕ) → Dec (SettledIn W runs t)
    within_told t = both (dec_lt t W) (settled_told t runs)

-- ---- the runs

module _ (s : List ℕ) (k : Contents) (e : sheet_in s ≡ accepted k) where
  tables_some : {rs : List (List ℕ)} {mss : List (List Mark)} → AllAccepted (names_in s k) k.window rs mss
      → (Us : List (List ℕ)) × Each (Closed k) mss Us × All (λ U. length U ≡ table_words (meant k)) Us
  tables_some no_text = ([], tt, tt)
  tables_some (one {r} f more) =
      let x = closed_some s k e r f in
      let y = tables_some more in
      (x.0 ∷ y.0, (x.1, y.1), (closed_long s k e x.1, y.2))

  ran_some : {rs : List (List ℕ)} {mss : List (List Mark)} → AllAccepted (names_in s k) k.window rs mss → (U : List ℕ) × (ds : List Record) × Ran k (names_in s k) mss U ds
  ran_some a =
      let x = tables_some a in
      let y = each_some (λ U. length U ≡ table_words (meant k)) (AnswersOf k) (answers_some s k e) x.0 x.2 in
      let xs = in_order_lem (names_in s k) in
      let z = each_some (λ i. Unit {0}) (λ i r. Tells k.window i (map (λ f. f i) y.0) r) (λ i u. tells_some k.window i (map (λ f. f i) y.0)) xs (all_of_lem (λ i. Unit {0}) xs (λ i j. tt)) in
      (_, z.0, record { tables = x.0; answers = y.0; closed = x.1; asked = y.1; last_is = refl; told = z.1 })

-- ---- every input

fits_told : (ns : List ℕ) (n : ℕ) → Dec (LengthsFit ns n)
fits_told ns n = go (dec_lt most_runs (length ns)) (ℕ_discrete (total (λ a. a) ns) n)
  where
    go : Dec (most_runs < length ns) → Dec (total (λ a. a) ns ≡ n) → Dec (LengthsFit ns n)
    go (yes l) d = no (λ f. absurd (omega (arith, f.few)))
    go (no l) (yes e) = yes (record { few = omega arith; whole = e })
    go (no l) (no e) = no (λ f. e f.whole)

module _ (s j ns T : List ℕ) (m : ℕ) where
  -- What figures may come to.
  abbrev Outcome : Type 0
  Outcome = (U : List ℕ) × (a : Result (List Record)) × Figures s j ns T U m a

  -- There is an outcome for every input.
  pub figures_some : (U : List ℕ) × (a : Result (List Record)) × Figures s j ns T U m a
  figures_some = go (sheet_in s) refl
    where
      by_texts : {k : Contents} → sheet_in s ≡ accepted k → length T ≡ table_words (meant k) → m ≡ length k.places → LengthsFit ns (length j)
          → (R : Read (List (List Mark))) → marks_from (names_in s k) k.window 0 (texts_in ns j) ≡ R → Outcome
      by_texts {k} e l h f (got mss q) r = let x = ran_some s k e (texts_accepted (names_in s k) k.window 0 (texts_in ns j) r) in (x.0, accepted x.1, figured e l h f r x.2)
      by_texts e l h f (unread n p) r = (T, refused n p, not_read e l h f r refl)

      by_lent : (k : Contents) → sheet_in s ≡ accepted k → Dec (length T ≡ table_words (meant k)) → Dec (m ≡ length k.places) → Dec (LengthsFit ns (length j)) → Outcome
      by_lent k e (no l) h f = (T, refused 15 0, not_the_table e l refl)
      by_lent k e (yes l) (no h) f = (T, refused 18 0, not_the_records e l h refl)
      by_lent k e (yes l) (yes h) (no f) = (T, refused 19 0, not_the_lengths e l h f refl)
      by_lent k e (yes l) (yes h) (yes f) = by_texts e l h f (marks_from (names_in s k) k.window 0 (texts_in ns j)) refl

      go : (R : Result Contents) → sheet_in s ≡ R → Outcome
      go (accepted k) e = by_lent k e (ℕ_discrete (length T) (table_words (meant k))) (ℕ_discrete m (length k.places)) (fits_told ns (length j))
      go (refused n p) e = (T, refused n p, not_opened e refl)
