-- One text of those that are joined, alone: what it holds where all are read, and its notes where they are kept.
-- Assumes nothing. `names` are the declared names in sheet order, W the window, ns the texts' lengths, j the joined texts, a the array of notes.
use mathlib.Core.Path.{◌≡◌, sym, ap, ◌∙◌}
use mathlib.Core.List.{List, [], ◌∷◌}
use Prim.Native.Nat.{ℕ, zero, suc, ◌+◌, ◌<◌}
use native.Mathlib.Omega.{arith}
use lib.ListN.{length, get_or, take, drop, length-take}
use lib.Seq.{drop-drop, take-length}
use Rattle.spec_tilco.specs.Inference.{Mark}
use Rattle.read_bytes.specs.Read.{Read, and_then}
use Rattle.read_bytes.specs.Read.Read.{got, refused}
use Rattle.read_bytes.proofs.Answers.{not_both, same_value, came}
use Rattle.read_readings.specs.Readings.{readings}
use Rattle.read_readings.specs.SpanNumbers.{spans_in}
use Rattle.spec_figures.specs.Texts.{texts_in, placed_from, marks_from}
use Rattle.figure_texts.specs.Notes.{text_at, NotesAt}

-- ---- what it holds

-- Where it was read at another place.
unplaced : {A : Type 0} (p : ℕ) (R : Read A) {x : A} {q : ℕ} → placed_from p R ≡ got x q → (e : ℕ) × (R ≡ got x e)
unplaced p (got y q) e = (q, ap (λ v. got v q) (same_value e))
unplaced p (refused n q) e = absurd (not_both (sym e))

module _ (names : List (List ℕ)) (W : ℕ) where
  -- The first text and the others, where all are read.
  record FirstRead (p n : ℕ) (ns j : List ℕ) (mss : List (List Mark)) : Type 0 where
    first : List Mark
    rest : List (List Mark)
    reads : (e : ℕ) × (readings names W (take n j) ≡ got first e)
    others : (u : ℕ) × (marks_from names W (p + length (take n j)) (texts_in ns (drop n j)) ≡ got rest u)
    both : mss ≡ first ∷ rest

  first_read : (p n : ℕ) (ns j : List ℕ) {mss : List (List Mark)} {q : ℕ} → marks_from names W p (texts_in (n ∷ ns) j) ≡ got mss q → FirstRead p n ns j mss
  unfolding texts_in marks_from
  first_read p n ns j e =
      let later = marks_from names W (p + length (take n j)) (texts_in ns (drop n j)) in
      let d = came (placed_from p (readings names W (take n j))) (λ ms u. and_then later (λ rest x. got (ms ∷ rest) x)) e in
      let f = came later (λ rest x. got (d.value ∷ rest) x) d.then in
      record { first = d.value; rest = f.value; reads = unplaced p (readings names W (take n j)) d.first; others = (f.place, f.first); both = sym (same_value f.then) }

  -- There are as many lists of marks as texts,
  pub as_many : (p : ℕ) (ns j : List ℕ) {mss : List (List Mark)} {q : ℕ} → marks_from names W p (texts_in ns j) ≡ got mss q → length mss ≡ length ns
  unfolding texts_in marks_from
  as_many p [] j e = ap length (sym (same_value e))
  as_many p (n ∷ ns) j e =
      let z = first_read p n ns j e in
      ap length z.both ∙ ap suc (as_many (p + length (take n j)) ns (drop n j) z.others.1)

  -- and each is a text's.
  pub one_text_holds : (p : ℕ) (ns j : List ℕ) {mss : List (List Mark)} {q : ℕ} → marks_from names W p (texts_in ns j) ≡ got mss q
      → (i : ℕ) → i < length ns → (e : ℕ) × (readings names W (text_at ns j i) ≡ got (get_or mss i []) e)
  one_text_holds p [] j e i h = absurd (omega arith)
  one_text_holds p (n ∷ ns) j e zero h = let z = first_read p n ns j e in rw z.both z.reads
  one_text_holds p (n ∷ ns) j e (suc i) h =
      let z = first_read p n ns j e in
      rw (z.both, ← drop-drop) (one_text_holds (p + length (take n j)) ns (drop n j) z.others.1 i (omega arith))

-- ---- its notes

-- The part of the array where they are has them alone.
pub one_text_notes : {names : List (List ℕ)} {W : ℕ} {r a : List ℕ} {p c : ℕ} → NotesAt names W r a p c → NotesAt names W r (take c (drop p a)) 0 (length (take c (drop p a)))
unfolding spans_in
one_text_notes {a = a} {p} {c} z = record {
  within = omega arith;
  all = λ some. let x = z.all (omega (arith, length-take c (drop p a))) in (x.0, rw take-length x.1);
}
