-- The records of figures: one for each signal in the listing's order, whose four columns come to the window once a text; and the work table at the end.
-- Assumes nothing. `s` is the sheet's text and k its contents, j the joined readings texts, ns their lengths, T the work table before and U after, m how many records are lent.
use mathlib.Core.Path.{◌≡◌, refl, sym, ap, subst, ◌∙◌}
use mathlib.Core.List.{List, [], ◌∷◌, map, map-id, Memᴰ}
use Prim.Native.Nat.{ℕ, zero, suc, ◌+◌, ◌*◌, ◌<◌}
use native.Mathlib.Omega.{arith}
use lib.ListN.{length, get_or, drop, length-map}
use Rattle.spec_tilco.proofs.Lists.{all_at}
use Rattle.read_names.proofs.Names.{names_many}
use Rattle.read_sheet.specs.Sheet.{Contents}
use Rattle.open_sheet.specs.Results.{accepted}
use Rattle.open_sheet.specs.SheetIn.{names_in, blank}
use Rattle.spec_operations.specs.Gain.{Gain}
use Rattle.spec_operations.specs.Operations.{Adds}
use Rattle.list_order.specs.Order.{in_order_lem, Ordered}
use Rattle.list_order.proofs.Sorting.{order_within, order_long}
use Rattle.list_settled.proofs.InOrder.{listing_order}
use Rattle.proof_demands.proofs.Refusals.{in_sheet_text}
use Rattle.spec_figures.specs.declared.Record.{Record}
use Rattle.spec_figures.specs.Records.{Tells}
use Rattle.spec_figures.specs.Texts.{texts_in}
use Rattle.spec_figures.specs.Figures.{last_or}
use Rattle.spec_figures.proofs.AddUp.{add_up}
use Rattle.spec_figures.proofs.EachLaws.{each_turned, each_made, each_equal, each_beside}
use Rattle.proof_figures.specs.FigureCases.{text_at}
use Rattle.proof_figures.specs.SingleRuns.{OneRun, RunByRun}
use Rattle.proof_figures.proofs.TextsInTurn.{text_first, text_later}

-- ---- the texts

texts_many : (ns j : List ℕ) → length (texts_in ns j) ≡ length ns
unfolding texts_in
texts_many [] j = refl
texts_many (n ∷ ns) j = ap suc (texts_many ns (drop n j))

text_there : (ns j : List ℕ) (i : ℕ) → i < length ns → get_or (texts_in ns j) i [] ≡ text_at ns j i
unfolding texts_in
text_there [] j i h = absurd (omega arith)
text_there (n ∷ ns) j zero h = sym (text_first n ns j)
text_there (n ∷ ns) j (suc i) h = text_there ns (drop n j) i (omega arith) ∙ sym (text_later n ns j i)

-- The last of some runs.
last_run : {s : List ℕ} {k : Contents} (U : List ℕ) (runs : List (OneRun s k)) (i : ℕ) → suc i ≡ length runs
    → (z : OneRun s k) × (z.text ≡ get_or (map (λ y. y.text) runs) i []) × (z.table ≡ last_or U (map (λ y. y.table) runs))
last_run U [] i e = absurd (omega arith)
last_run U (z ∷ []) zero e = (z, refl, refl)
last_run U (z ∷ []) (suc i) e = absurd (omega arith)
last_run U (z ∷ y ∷ runs) zero e = absurd (omega arith)
last_run U (z ∷ y ∷ runs) (suc i) e = last_run z.table (y ∷ runs) i (omega arith)

module _ {s j ns T U : List ℕ} {m : ℕ} {rs : List Record} (x : RunByRun s j ns T U m rs) where
  abbrev k : Contents
  k = x.contents

  runs_many : length x.runs ≡ length ns
  runs_many = sym (length-map x.runs (λ z. z.text)) ∙ ap length x.texts_are ∙ texts_many ns j

  -- ---- the work table at the end

  pub ends_cleared : length ns ≡ 0 → U ≡ blank x.contents
  ends_cleared e = x.ends ∙ go x.runs (runs_many ∙ e)
    where
      go : (runs : List (OneRun s k)) → length runs ≡ 0 → last_or (blank k) (map (λ z. z.table) runs) ≡ blank k
      go [] f = refl
      go (z ∷ runs) f = absurd (omega arith)

  pub ends_last : (i : ℕ) → suc i ≡ length ns → (g : Gain) × Adds s (text_at ns j i) (blank x.contents) U (accepted g)
  ends_last i e =
      let l = last_run (blank k) x.runs i (e ∙ sym runs_many) in
      let z = l.0 in
      let t : z.text ≡ text_at ns j i = l.1 ∙ ap (λ (rs : List (List ℕ)). get_or rs i []) x.texts_are ∙ text_there ns j i (omega arith) in (
        z.gained,
        subst (λ (u : List ℕ). Adds s (text_at ns j i) (blank k) u (accepted z.gained)) (l.2 ∙ sym x.ends)
            (subst (λ (r : List ℕ). Adds s r (blank k) z.table (accepted z.gained)) t z.adds),
      )

  -- ---- the records

  abbrev Told : ℕ → Record → Type 0
  Told y r = Tells x.contents.window y (map (λ z. z.answer y) x.runs) r

  -- They are the signals' in order,
  pub signals_are : map (λ r. r.signal) rs ≡ in_order_lem (names_in s x.contents)
  signals_are =
      let ys = in_order_lem (names_in s k) in
      sym (sym (map-id ys) ∙ each_equal (map (λ y. y) ys) (map (λ r. r.signal) rs) (each_made Told ◌≡◌ (λ y. y) (λ r. r.signal) (λ y r d. sym d.signal_is) ys rs x.told))

  pub records_ordered : Ordered (names_in s x.contents) (map (λ r. r.signal) rs)
  records_ordered = subst (Ordered (names_in s k)) (sym signals_are) (listing_order s (in_sheet_text s x.right.sheet))

  -- one for each.
  pub records_many : length rs ≡ m
  records_many =
      sym (length-map rs (λ r. r.signal)) ∙ ap length signals_are ∙ order_long (names_in s k) ∙ names_many s k.places ∙ sym x.right.many

  -- A record is told of a declared signal.
  pub record_tells : {r : Record} → Memᴰ r rs → (r.signal < length x.contents.places) × Tells x.contents.window r.signal (map (λ z. z.answer r.signal) x.runs) r
  record_tells {r} i =
      let ys = in_order_lem (names_in s k) in
      let y = each_beside (λ d a. Told a d) rs ys (each_turned Told (λ d a. Told a d) (λ a d p. p) ys rs x.told) i in
      let e = y.2.signal_is in
      let h : y.0 < length (names_in s k) = all_at (λ a. a < length (names_in s k)) ys (order_within (names_in s k)) y.0 y.1 in
      (omega (arith, names_many s k.places), subst (λ (a : ℕ). Told a r) (sym e) y.2)

  -- "The four add up to window times runs."
  pub columns_add_up : {r : Record} → Memᴰ r rs → r.held + r.failed + r.unsettled + r.clashed ≡ x.contents.window * length ns
  columns_add_up {r} i =
      add_up (record_tells i).1 ∙ ap (λ (n : ℕ). k.window * n) (length-map x.runs (λ z. z.answer r.signal) ∙ runs_many)
