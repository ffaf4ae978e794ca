-- Any two outcomes allowed for one input coincide: of opening, of add with its table, and of ask. (check's contract is an equation.)
-- Assumes nothing.
use mathlib.Core.Path.{◌≡◌, refl, sym, ap, ◌∙◌, subst}
use mathlib.Core.Bool.{Bool, true, false}
use mathlib.Core.List.{List}
use mathlib.Core.Logic.{◌↔◌}
use Prim.Native.Nat.{ℕ, ◌-◌, ◌≤◌}
use lib.ListN.{length}
use Rattle.read_bytes.specs.Read.{Read}
use Rattle.read_bytes.specs.Read.Read.{got, refused as unread}
use Rattle.read_bytes.proofs.Answers.{not_both, same_value}
use Rattle.spec_tilco.specs.Inference.{Mark, mark, Clash}
use Rattle.spec_tilco.specs.Table.{Standing, table_words, Inside, facts_of, InRange, Added, Answer, Asked}
use Rattle.spec_tilco.proofs.Demand1.{asked_one}
use Rattle.spec_tilco.proofs.Demand2.{added_one}
use Rattle.read_sheet.specs.Sheet.{Contents, meant}
use Rattle.read_readings.specs.Readings.{readings}
use Rattle.open_sheet.specs.Results.{Result, accepted, refused}
use Rattle.spec_operations.specs.Gain.{Gain, gain}
use Rattle.open_sheet.specs.SheetIn.{sheet_in, names_in}
use Rattle.open_table.specs.Opens.{Opens}
use Rattle.open_table.specs.Opens.Opens.{both, not_the_sheet, not_the_length, not_inside}
use Rattle.spec_operations.specs.Operations.{checked, Adds, Asks}
use Rattle.spec_operations.specs.Operations.Adds.{not_opened, not_read, added}
use Rattle.spec_operations.specs.Operations.Asks.{not_opened as not_asked, out_of_range, asked}
use Rattle.open_table.proofs.Tables.{accepted_one, accepted_refused, in_sheet}

-- A refusal's number and place do not depend on what was asked for.
abbrev handed_on : {A B : Type 0} → Result B → Result A → Result B
handed_on b (accepted x) = b
handed_on b (refused n p) = refused n p

pub refused_alike : {A B : Type 0} {n p m q : ℕ} → ◌≡◌ {A = Result A} (refused n p) (refused m q) → ◌≡◌ {A = Result B} (refused n p) (refused m q)
refused_alike {A} {B} {n} {p} e = ap (handed_on (refused n p)) e

pub unread_alike : {A B : Type 0} {n p m q : ℕ} → ◌≡◌ {A = Read A} (unread n p) (unread m q) → ◌≡◌ {A = Result B} (refused n p) (refused m q)
unread_alike {A} {B} {n} {p} e = ap go e
  where
    go : Read A → Result B
    go (got x i) = refused n p
    go (unread m q) = refused m q

-- Two answers of check coincide.
pub checked_one : (s : List ℕ) {a b : Result ℕ} → a ≡ checked s → b ≡ checked s → a ≡ b
checked_one s e f = e ∙ sym f

-- ---- the sheet and the table

abbrev Long : List ℕ → Contents → Type 0
Long T k = length T ≡ table_words (meant k)

abbrev Fits : List ℕ → Contents → Type 0
Fits T k = Inside k.window (Standing (meant k) T)

-- One sheet has one meaning.
pub one_sheet : {r : Result Contents} {k l : Contents} → r ≡ accepted k → r ≡ accepted l → k ≡ l
one_sheet e f = accepted_one (sym e ∙ f)

module _ {s T : List ℕ} where
  -- Two outcomes of the opening coincide.
  pub opens_one : {a b : Result Contents} → Opens s T a → Opens s T b → a ≡ b
  opens_one (both e l i) (both f m j) = ap accepted (one_sheet e f)
  opens_one (both e l i) (not_the_sheet f) = absurd (accepted_refused (sym e ∙ f))
  opens_one (both e l i) (not_the_length f m) = absurd (m (subst (Long T) (one_sheet e f) l))
  opens_one (both e l i) (not_inside f m j) = absurd (j (subst (Fits T) (one_sheet e f) i))
  opens_one (not_the_sheet e) (both f m j) = absurd (accepted_refused (sym f ∙ e))
  opens_one (not_the_sheet e) (not_the_sheet f) = sym e ∙ f
  opens_one (not_the_sheet e) (not_the_length f m) = absurd (accepted_refused (sym f ∙ e))
  opens_one (not_the_sheet e) (not_inside f m j) = absurd (accepted_refused (sym f ∙ e))
  opens_one (not_the_length e l) (both f m j) = absurd (l (subst (Long T) (one_sheet f e) m))
  opens_one (not_the_length e l) (not_the_sheet f) = absurd (accepted_refused (sym e ∙ f))
  opens_one (not_the_length e l) (not_the_length f m) = refl
  opens_one (not_the_length e l) (not_inside f m j) = absurd (l (subst (Long T) (one_sheet f e) m))
  opens_one (not_inside e l i) (both f m j) = absurd (i (subst (Fits T) (one_sheet f e) j))
  opens_one (not_inside e l i) (not_the_sheet f) = absurd (accepted_refused (sym e ∙ f))
  opens_one (not_inside e l i) (not_the_length f m) = absurd (m (subst (Long T) (one_sheet e f) l))
  opens_one (not_inside e l i) (not_inside f m j) = refl

  -- So there is one sheet behind it, or a refusal.
  pub opens_same : {k l : Contents} → Opens s T (accepted k) → Opens s T (accepted l) → k ≡ l
  opens_same o x = accepted_one (opens_one o x)

  pub opens_or_not : {B : Type 0} {k : Contents} {n p : ℕ} → Opens s T (accepted k) → Opens s T (refused n p) → B
  opens_or_not o x = absurd (accepted_refused (opens_one o x))

  -- The sheet that stands behind an accepted opening.
  pub opens_sheet : {k : Contents} → Opens s T (accepted k) → sheet_in s ≡ accepted k
  opens_sheet (both e l i) = e

  opens_window : {k : Contents} → Opens s T (accepted k) → 1 ≤ k.window
  opens_window o = (in_sheet s (opens_sheet o)).sizes.window_low

-- One Bool stands for a fact.
pub told_one : {P : Type 0} (a b : Bool) → (a ≡ true) ↔ P → (b ≡ true) ↔ P → a ≡ b
told_one true true f g = refl
told_one true false f g = sym (g.1 (f.0 refl))
told_one false true f g = f.1 (g.0 refl)
told_one false false f g = refl

-- ---- add

-- What is read of the text r for a sheet with these contents.
abbrev pub Reads : List ℕ → List ℕ → Read (List Mark) → Contents → Type 0
Reads s r R k = readings (names_in s k) k.window r ≡ R

-- Two accepted outcomes over one sheet and one list of readings.
gained_one : (k : Contents) {T U U' : List ℕ} {ms ms' : List Mark} {new new' : ℕ} {c c' : Bool} → 1 ≤ k.window → ms ≡ ms' → Added (meant k) T ms U → Added (meant k) T ms' U'
    → new ≡ facts_of (meant k) U - facts_of (meant k) T → new' ≡ facts_of (meant k) U' - facts_of (meant k) T
    → (c ≡ true) ↔ Clash (Standing (meant k) U) → (c' ≡ true) ↔ Clash (Standing (meant k) U') → (U ≡ U') × (accepted (gain new c) ≡ accepted (gain new' c'))
gained_one k {T} {U} {U'} {ms} {c = c} {c' = c'} some e A B f g t u =
    let z : U ≡ U' = added_one (meant k) some A (subst (λ (ns : List Mark). Added (meant k) T ns U') (sym e) B) in
    let n = f ∙ ap (λ (X : List ℕ). facts_of (meant k) X - facts_of (meant k) T) z ∙ sym g in
    let b : c ≡ c' = told_one c c' (subst (λ (X : List ℕ). (c ≡ true) ↔ Clash (Standing (meant k) X)) z t) u in
    (z, rw (n, b))

module _ {s r T : List ℕ} where
  -- Two outcomes of add coincide: the table word by word, and the answer.
  pub adds_one : {U U' : List ℕ} {a a' : Result Gain} → Adds s r T U a → Adds s r T U' a' → (U ≡ U') × (a ≡ a')
  adds_one (not_opened o e) (not_opened x f) = (e ∙ sym f, refused_alike (opens_one o x))
  adds_one (not_opened o e) (not_read x f g) = opens_or_not x o
  adds_one (not_opened o e) (added x f A g c) = opens_or_not x o
  adds_one (not_read o e g) (not_opened x f) = opens_or_not o x
  adds_one (not_read o e g) (not_read x f h) = (g ∙ sym h, unread_alike (sym (subst (Reads s r (unread _ _)) (opens_same o x) e) ∙ f))
  adds_one (not_read o e g) (added x f A h c) = absurd (not_both (sym f ∙ subst (Reads s r (unread _ _)) (opens_same o x) e))
  adds_one (added o e A g c) (not_opened x f) = opens_or_not o x
  adds_one (added o e A g c) (not_read x f h) = absurd (not_both (sym (subst (Reads s r (got _ _)) (opens_same o x) e) ∙ f))
  adds_one {U} {U'} (added {k} {ms} {q} {new} {clash} o e A g c) (added {k = k'} {ms = ms'} {q = q'} {new = new'} {clash = clash'} x f B h d) =
      let z : k' ≡ k = opens_same x o in
      let i = subst (Reads s r (got ms' q')) z f in
      gained_one k (opens_window o) (same_value (sym e ∙ i)) A (subst (λ (l : Contents). Added (meant l) T ms' U') z B) g
      (subst (λ (l : Contents). new' ≡ facts_of (meant l) U' - facts_of (meant l) T) z h) c (subst (λ (l : Contents). (clash' ≡ true) ↔ Clash (Standing (meant l) U')) z d)

-- ---- ask

module _ {s T : List ℕ} {x t : ℕ} where
  -- Two answers of ask coincide.
  pub asks_one : {a b : Result Answer} → Asks s T x t a → Asks s T x t b → a ≡ b
  asks_one (not_asked o) (not_asked y) = refused_alike (opens_one o y)
  asks_one (not_asked o) (out_of_range y i) = opens_or_not y o
  asks_one (not_asked o) (asked y i j) = opens_or_not y o
  asks_one (out_of_range o i) (not_asked y) = opens_or_not o y
  asks_one (out_of_range o i) (out_of_range y j) = refl
  asks_one (out_of_range o i) (asked y j v) = absurd (i (subst (λ (z : Contents). InRange (meant z) (mark x t true)) (opens_same y o) j))
  asks_one (asked o i u) (not_asked y) = opens_or_not o y
  asks_one (asked o i u) (out_of_range y j) = absurd (j (subst (λ (z : Contents). InRange (meant z) (mark x t true)) (opens_same o y) i))
  asks_one (asked {a = a} o i u) (asked {k = l} y j v) =
      ap accepted (asked_one (Standing (meant l) T) x t (subst (λ (z : Contents). Asked (Standing (meant z) T) x t a) (opens_same o y) u) v)
