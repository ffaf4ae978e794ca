-- A loop over the parts of a text up to its end: where it stands, and how it goes on and ends. And the entries of a readings text, and its marks.
-- Assumes nothing.
use mathlib.Core.Path.{◌≡◌, refl, sym, ap, subst, ◌∙◌}
use mathlib.Core.Bool.{Bool, true, false}
use mathlib.Core.List.{List, [], ◌∷◌, ◌++◌}
use Prim.Native.Nat.{ℕ, ◌+◌, ◌-◌, ◌<◌, ◌≤◌}
use native.Mathlib.Omega.{arith}
use borrow.Author.Tests.{le-leb, lt-leb}
use lib.Dec.{leb}
use lib.ListN.{length}
use Rattle.spec_limits.specs.Limits.{most_bytes}
use Rattle.read_bytes.specs.Read.{Read}
use Rattle.read_bytes.specs.Read.Read.{got, refused}
use Rattle.read_bytes.specs.Bytes.{bytes, pick, starts}
use Rattle.read_lines.specs.Lines.{up_to}
use Rattle.read_bytes.proofs.Answers.{not_both, same_value, same_place}
use Rattle.read_lines.proofs.Loops.{up_end, up_on, up_off}
use Rattle.read_bytes.proofs.Places.{Reach}
use Rattle.spec_tilco.specs.Inference.{Mark}
use Rattle.read_reading.specs.Spans.{Span, marks_of_all}
use Rattle.read_reading.specs.OneEntry.{entry}
use Rattle.read_readings.specs.Readings.{in_spans, entries, marked, readings}

-- All the parts that P reads in the text s.
abbrev pub every : {A : Type 0} → (ℕ → Read A) → List ℕ → Read (List A)
every P s = up_to P (length s) (length s) [] 0

-- The loop stands at p and has read t.
pub record Passed {A : Type 0} (P : ℕ → Read A) (s : List ℕ) (t : List A) (p : ℕ) : Type 0 where
  pub left : ℕ
  pub same : every P s ≡ up_to P (length s) left t p
  pub enough : length s ≤ p + left
  pub inside : p ≤ length s

module _ {A : Type 0} (P : ℕ → Read A) (s : List ℕ) where
  -- it starts with nothing read
  pub passed_none : Passed P s [] 0
  passed_none = record { left = length s; same = refl; enough = omega arith; inside = omega arith }

  module _ {t : List A} {p : ℕ} (z : Passed P s t p) where
    -- a part more is read
    pub passed_one : {a : A} {q : ℕ} → p < length s → P p ≡ got a q → Reach s (p + 1) q → Passed P s (t ++ (a ∷ [])) q
    passed_one l e w = record {
      left = z.left - 1;
      same = z.same ∙ up_on P (length s) z.left t p (omega (arith, z.enough)) l e;
      enough = omega (arith, z.enough, w.ahead);
      inside = w.inside;
    }

    -- a part is refused, and so is the whole
    pub passed_off : {n k : ℕ} → p < length s → P p ≡ refused n k → every P s ≡ refused n k
    passed_off l e = z.same ∙ up_off P (length s) z.left t p (omega (arith, z.enough)) l e

    -- the end is reached, and what was read is the whole
    pub passed_all : length s ≤ p → every P s ≡ got t p
    passed_all h = z.same ∙ up_end P (length s) z.left t p h

module _ (names : List (List ℕ)) (W : ℕ) (r : List ℕ) where
  -- A text over its length is refused.
  pub entries_long : most_bytes < length r → entries names W r ≡ refused 10 0
  unfolding entries
  entries_long h = rw (lt-leb (length r) most_bytes h)

  -- Any other is read entry by entry.
  pub entries_short : length r ≤ most_bytes → entries names W r ≡ every (entry (in_spans r) names W r) r
  unfolding entries
  entries_short h = rw (le-leb (length r) most_bytes h)

  -- Its form is told by its first bytes.
  pub of_form : (spans : Bool) {R : Read (List Span)} → spans ≡ starts r 0 (bytes "from=") → every (entry spans names W r) r ≡ R → every (entry (in_spans r) names W r) r ≡ R
  unfolding in_spans
  of_form spans {R} e h = subst (λ form. every (entry form names W r) r ≡ R) e h

  -- A text that is accepted is short enough.
  pub entries_every : {es : List Span} {q : ℕ} → entries names W r ≡ got es q → every (entry (in_spans r) names W r) r ≡ got es q
  unfolding entries
  entries_every {es} {q} e = go (leb (length r) most_bytes) e
    where
      go : (b : Bool) → pick b (λ _. every (entry (in_spans r) names W r) r) (refused 10 0) ≡ got es q → every (entry (in_spans r) names W r) r ≡ got es q
      go true x = x
      go false x = absurd (not_both (sym x))

  -- ---- the marks

  -- They are those of the entries,
  pub readings_are : {es : List Span} {q : ℕ} → entries names W r ≡ got es q → readings names W r ≡ got (marks_of_all es) q
  unfolding readings
  readings_are e = rw e

  -- of which an accepted text has some list,
  pub record Entered (ms : List Mark) (q : ℕ) : Type 0 where
    pub list : List Span
    pub reads : entries names W r ≡ got list q
    pub marks : marks_of_all list ≡ ms

  pub readings_entered : {ms : List Mark} {q : ℕ} → readings names W r ≡ got ms q → Entered ms q
  unfolding readings
  readings_entered {ms} {q} e = go (entries names W r) refl e
    where
      go : (R : Read (List Span)) → entries names W r ≡ R → marked R ≡ got ms q → Entered ms q
      go (got es u) f g = record { list = es; reads = f ∙ ap (got es) (same_place g); marks = same_value g }
      go (refused n k) f g = absurd (not_both (sym g))

  -- and the refusals are theirs.
  pub readings_off : {n k : ℕ} → entries names W r ≡ refused n k → readings names W r ≡ refused n k
  unfolding readings
  readings_off e = rw e

  pub readings_long : most_bytes < length r → readings names W r ≡ refused 10 0
  readings_long h = readings_off (entries_long h)
