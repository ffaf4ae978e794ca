-- Any two outcomes of figures allowed for one input coincide: the work table word by word, and the answer with every record.
-- Assumes nothing. `s` is the sheet's text, j the joined readings texts, ns their lengths, T the work table before and U after, m how many records are lent.
use mathlib.Core.Path.{◌≡◌, refl, sym, ap, subst, ◌∙◌}
use mathlib.Core.Bool.{Bool, true, false, ◌&&◌, and-eq-true_iff}
use mathlib.Core.List.{List, map}
use Prim.Native.Nat.{ℕ, ◌<◌}
use native.Mathlib.Omega.{arith}
use borrow.Author.Tests.{eq-eqb, ne_eqb, le-leb, leb-true, eqb-true}
use lib.Dec.{eqb, leb}
use lib.ListN.{length}
use Rattle.spec_limits.specs.Limits.{most_runs}
use Rattle.read_bytes.specs.Read.{Read}
use Rattle.read_bytes.specs.Read.Read.{got, refused as unread}
use Rattle.read_bytes.specs.Bytes.{pick}
use Rattle.read_names.proofs.Names.{names_many}
use Rattle.spec_tilco.specs.Lists.{total}
use Rattle.spec_tilco.specs.Inference.{Mark}
use Rattle.spec_tilco.specs.Table.{Standing, table_words, Answer}
use Rattle.spec_tilco.proofs.Lists.{all_of_lem}
use Rattle.spec_tilco.proofs.Demand1.{asked_one}
use Rattle.spec_tilco.proofs.Demand2.{added_one}
use Rattle.read_sheet.specs.Sheet.{Contents, meant}
use Rattle.open_sheet.specs.Results.{Result, accepted, refused}
use Rattle.open_sheet.specs.SheetIn.{sheet_in, names_in, blank}
use Rattle.open_table.proofs.Tables.{in_sheet}
use Rattle.list_order.specs.Order.{in_order_lem}
use Rattle.list_order.proofs.Sorting.{order_within}
use Rattle.spec_figures.specs.declared.Record.{Record}
use Rattle.spec_figures.specs.Records.{Tells}
use Rattle.spec_figures.specs.Texts.{LengthsFit, texts_in, marks_from}
use Rattle.spec_figures.specs.Figures.{Each, last_or, Closed, AnswersOf, Ran, Figures}
use Rattle.spec_figures.specs.Figures.Figures.{not_opened, not_the_table, not_the_records, not_the_lengths, not_read, figured}
use Rattle.spec_figures.proofs.EachLaws.{each_meet, each_made, each_equal}
use Rattle.spec_figures.proofs.SameFigures.{Agree, tells_one}

-- ---- the runs

-- The answers of two runs to all n signals are the same in the window W.
abbrev Alike : ℕ → ℕ → (ℕ → ℕ → Answer) → (ℕ → ℕ → Answer) → Type 0
Alike n W f g = (x : ℕ) → x < n → Agree W (f x) (g x)

module _ (s : List ℕ) (k : Contents) (e : sheet_in s ≡ accepted k) where
  -- The same marks have the same closed tables,
  tables_one : (mss : List (List Mark)) (Us Xs : List (List ℕ)) → Each (Closed k) mss Us → Each (Closed k) mss Xs → Us ≡ Xs
  tables_one mss Us Xs a b =
      each_equal Us Xs
      (each_meet (λ ms. Unit {0}) (Closed k) (Closed k) ◌≡◌ (λ ms U X u A B. added_one (meant k) (in_sheet s e).sizes.window_low A B) mss Us Xs (all_of_lem (λ ms. Unit {0}) mss (λ ms i. tt)) a b)

  -- these the same answers,
  answers_alike : (Us : List (List ℕ)) (fs gs : List (ℕ → ℕ → Answer)) → Each (AnswersOf k) Us fs → Each (AnswersOf k) Us gs → Each (Alike (length k.places) k.window) fs gs
  answers_alike Us fs gs a b =
      each_meet (λ U. Unit {0}) (AnswersOf k) (AnswersOf k) (Alike (length k.places) k.window) (λ U f g u F G x h t l. asked_one (Standing (meant k) U) x t (F x h t l) (G x h t l)) Us fs gs
      (all_of_lem (λ U. Unit {0}) Us (λ U i. tt)) a b

  -- and these the same records.
  abbrev Told : List (ℕ → ℕ → Answer) → ℕ → Record → Type 0
  Told fs x r = Tells k.window x (map (λ f. f x) fs) r

  records_one : (fs gs : List (ℕ → ℕ → Answer)) → Each (Alike (length k.places) k.window) fs gs → (rs ds : List Record)
      → Each (Told fs) (in_order_lem (names_in s k)) rs → Each (Told gs) (in_order_lem (names_in s k)) ds → rs ≡ ds
  records_one fs gs alike rs ds a b =
      each_equal rs ds
      (each_meet (λ x. x < length (names_in s k)) (Told fs) (Told gs) ◌≡◌
      (λ x r d h p q. tells_one k.window x (map (λ f. f x) fs) (map (λ f. f x) gs)
      (each_made (Alike (length k.places) k.window) (Agree k.window) (λ f. f x) (λ f. f x) (λ f g z. z x (omega (arith, names_many s k.places))) fs gs alike) p q)
      (in_order_lem (names_in s k)) rs ds (order_within (names_in s k)) a b)

  -- Two ways through the runs come to the same.
  pub ran_one : {mss : List (List Mark)} {U U' : List ℕ} {rs ds : List Record} → Ran k (names_in s k) mss U rs → Ran k (names_in s k) mss U' ds → (U ≡ U') × (rs ≡ ds)
  ran_one {mss} {rs = rs} {ds} x y =
      let z = tables_one mss x.tables y.tables x.closed y.closed in
      let a = answers_alike y.tables x.answers y.answers (subst (λ Us. Each (AnswersOf k) Us x.answers) z x.asked) y.asked in
      (x.last_is ∙ ap (last_or (blank k)) z ∙ sym y.last_is, records_one x.answers y.answers a rs ds x.told y.told)

-- ---- what comes before the runs

-- The sheet, and the marks of each text.
record Ready : Type 0 where
  sheet : Contents
  marks : List (List Mark)

-- The test of the lengths.
abbrev lengths_fit : List ℕ → ℕ → Bool
lengths_fit ns n = leb (length ns) most_runs && eqb (total (λ a. a) ns) n

-- All texts were read, or one was refused.
abbrev with_texts : Contents → Read (List (List Mark)) → Result Ready
with_texts k (got mss q) = accepted (record { sheet = k; marks = mss })
with_texts k (unread n p) = refused n p

-- The checks in their order: a refusal, or all is ready for the runs.
abbrev checks : List ℕ → List ℕ → List ℕ → List ℕ → ℕ → Result Contents → Result Ready
checks s j ns T m (refused n p) = refused n p
checks s j ns T m (accepted k) =
    pick (eqb (length T) (table_words (meant k)))
    (λ _. pick (eqb m (length k.places))
    (λ _. pick (lengths_fit ns (length j)) (λ _. with_texts k (marks_from (names_in s k) k.window 0 (texts_in ns j))) (refused 19 0)) (refused 18 0)) (refused 15 0)

-- What follows from them.
abbrev Follows : List ℕ → List ℕ → List ℕ → Result (List Record) → Result Ready → Type 0
Follows s T U a (refused n p) = (U ≡ T) × (a ≡ refused n p)
Follows s T U a (accepted z) = (rs : List Record) × (sheet_in s ≡ accepted z.sheet) × (a ≡ accepted rs) × Ran z.sheet (names_in s z.sheet) z.marks U rs

-- which is one.
one_follows : (s T U U' : List ℕ) (a b : Result (List Record)) (R : Result Ready) → Follows s T U a R → Follows s T U' b R → (U ≡ U') × (a ≡ b)
one_follows s T U U' a b (refused n p) x y = (x.0 ∙ sym y.0, x.1 ∙ sym y.1)
one_follows s T U U' a b (accepted z) x y = let o = ran_one s z.sheet x.1 x.3 y.3 in (o.0, x.2 ∙ ap accepted o.1 ∙ sym y.2)

fit : {ns : List ℕ} {n : ℕ} → LengthsFit ns n → lengths_fit ns n ≡ true
fit {ns} {n} l = rw (le-leb (length ns) most_runs l.few, eq-eqb (total (λ a. a) ns) n l.whole)

not_fit : {ns : List ℕ} {n : ℕ} → (LengthsFit ns n → ⊥) → lengths_fit ns n ≡ false
not_fit {ns} {n} l = go (lengths_fit ns n) refl
  where
    go : (b : Bool) → lengths_fit ns n ≡ b → b ≡ false
    go false e = refl
    go true e =
        let z = (and-eq-true_iff (leb (length ns) most_runs) (eqb (total (λ a. a) ns) n)).0 e in
        absurd (l (record { few = leb-true (length ns) most_runs z.0; whole = eqb-true (total (λ a. a) ns) n z.1 }))

module _ {s j ns T : List ℕ} {m : ℕ} where
  -- What figures answers follows from the checks,
  follows : {U : List ℕ} {a : Result (List Record)} → Figures s j ns T U m a → Follows s T U a (checks s j ns T m (sheet_in s))
  follows (not_opened e u) = rw e (u, refl)
  follows (not_the_table e l u) = rw (e, ne_eqb _ _ l) (u, refl)
  follows (not_the_records e l h u) = rw (e, eq-eqb _ _ l, ne_eqb _ _ h) (u, refl)
  follows (not_the_lengths e l h f u) = rw (e, eq-eqb _ _ l, eq-eqb _ _ h, not_fit f) (u, refl)
  follows (not_read e l h f r u) = rw (e, eq-eqb _ _ l, eq-eqb _ _ h, fit f, r) (u, refl)
  follows (figured e l h f r x) = rw (e, eq-eqb _ _ l, eq-eqb _ _ h, fit f, r) (_, e, refl, x)

  -- so two outcomes coincide.
  pub figures_one : {U U' : List ℕ} {a b : Result (List Record)} → Figures s j ns T U m a → Figures s j ns T U' m b → (U ≡ U') × (a ≡ b)
  figures_one {U} {U'} {a} {b} x y = one_follows s T U U' a b (checks s j ns T m (sheet_in s)) (follows x) (follows y)
