-- The texts of a joined slice in turn: where text i stands, and what is read once the marks of those before it are.
-- Assumes nothing. `names` are the declared names in sheet order, W the window, ns the texts' lengths, j the joined texts.
use mathlib.Core.Path.{◌≡◌, refl, sym, ap, subst, ◌∙◌}
use mathlib.Core.List.{List, [], ◌∷◌, ◌++◌, append_assoc}
use Prim.Native.Nat.{ℕ, ◌+◌, ◌-◌, ◌<◌, ◌≤◌}
use native.Mathlib.Omega.{arith}
use native.Mathlib.Numerals.{add-one}
use lib.ListN.{length, get_or, take, drop, length-take, length-drop, drop_of_length-le}
use lib.Seq.{drop-cons, drop-drop}
use Rattle.spec_tilco.specs.Inference.{Mark}
use Rattle.read_bytes.specs.Read.{Read, and_then}
use Rattle.read_bytes.specs.Read.Read.{got, refused}
use Rattle.std.specs.Prelude.{Result}
use Rattle.spec_refusals.specs.Numbers.{Refusal}
use Rattle.read_readings.specs.Readings.{entries, readings}
use Rattle.read_readings.specs.SpanNumbers.{EntriesNoted}
use Rattle.spec_figures.specs.Texts.{LengthsFit, texts_in, marks_from}
use Rattle.figure_texts.specs.Notes.{sum_to, text_at}
use Rattle.figure_texts.proofs.Sums.{sum_more, end_inside}

-- ---- where the texts stand

-- A part that is lent from p up to p + c.
pub part_lent : (a : List ℕ) (p c : ℕ) → take (p + c - p) (drop p a) ≡ take c (drop p a)
part_lent a p c = let z : p + c - p ≡ c = omega arith in rw z

-- A text is as long as its length says.
text_length : (ns j : List ℕ) (i : ℕ) → LengthsFit ns (length j) → i < length ns → length (text_at ns j i) ≡ get_or ns i 0
text_length ns j i f h = rw (length-take, length-drop) (omega (arith, end_inside f i h))

-- ---- what is read

-- What is read, with the marks of earlier texts before it.
abbrev pub after : List (List Mark) → Read (List (List Mark)) → Read (List (List Mark))
after mss R = and_then R (λ rest q. got (mss ++ rest) q)

after_none : (R : Read (List (List Mark))) → R ≡ after [] R
after_none (got x q) = refl
after_none (refused n p) = refl

after_one : (mss : List (List Mark)) (ms : List Mark) (R : Read (List (List Mark))) → after mss (and_then R (λ rest q. got (ms ∷ rest) q)) ≡ after (mss ++ (ms ∷ [])) R
after_one mss ms (got x q) = ap (λ (l : List (List Mark)). got l q) (sym (append_assoc mss (ms ∷ []) x))
after_one mss ms (refused n p) = refl

-- What the texts from i on hold.
abbrev pub marks_left : List (List ℕ) → ℕ → List ℕ → List ℕ → ℕ → Read (List (List Mark))
marks_left names W ns j i = marks_from names W (sum_to ns i) (texts_in (drop i ns) (drop (sum_to ns i) j))

-- The texts before i are read, and text i starts at the place `at`.
pub record TextsRead (names : List (List ℕ)) (W : ℕ) (ns j : List ℕ) (i at : ℕ) : Type 0 where
  pub start : at ≡ sum_to ns i
  pub marks : List (List Mark)
  pub same : marks_from names W 0 (texts_in ns j) ≡ after marks (marks_left names W ns j i)

pub read_none : (names : List (List ℕ)) (W : ℕ) (ns j : List ℕ) → TextsRead names W ns j 0 0
read_none names W ns j = record { start = refl; marks = []; same = after_none (marks_left names W ns j 0) }

module _ {names : List (List ℕ)} {W : ℕ} {ns j : List ℕ} {i at : ℕ} (z : TextsRead names W ns j i at) where
  -- All are read.
  pub read_all : length ns ≤ i → marks_from names W 0 (texts_in ns j) ≡ got (z.marks ++ []) (sum_to ns i)
  unfolding texts_in marks_from
  read_all h = z.same ∙ rw (drop_of_length-le ns h)

  -- What is noted of the part that is lent is noted of text i.
  pub text_noted : {a : List ℕ} {v : Result ℕ Refusal}
      → EntriesNoted (entries names W (take (at + get_or ns i 0 - at) (drop at j))) (length (take (at + get_or ns i 0 - at) (drop at j))) a v
      → EntriesNoted (entries names W (text_at ns j i)) (length (text_at ns j i)) a v
  text_noted {a} {v} = subst (λ r. EntriesNoted (entries names W r) (length r) a v) (part_lent j at (get_or ns i 0) ∙ rw z.start)

  module _ (h : i < length ns) where
    -- What is next is text i, and what comes after it.
    next_text : marks_left names W ns j i ≡ marks_from names W (sum_to ns i) (text_at ns j i ∷ texts_in (drop (i + 1) ns) (drop (sum_to ns (i + 1)) j))
    unfolding texts_in
    next_text = rw (drop-cons ns i 0 h, sum_more ns i h, add-one, drop-drop)

    -- Text i is refused, and so are all: the place is counted in the joined slice.
    pub read_off : {n p : ℕ} → readings names W (text_at ns j i) ≡ refused n p → marks_from names W 0 (texts_in ns j) ≡ refused n (at + p)
    unfolding marks_from
    read_off e = z.same ∙ rw (next_text, e, z.start)

    -- Text i is read too.
    pub read_one : LengthsFit ns (length j) → {ms : List Mark} {q : ℕ} → readings names W (text_at ns j i) ≡ got ms q → TextsRead names W ns j (i + 1) (at + get_or ns i 0)
    unfolding marks_from
    read_one f {ms} e = record {
      start = omega (arith, z.start, sum_more ns i h);
      marks = z.marks ++ (ms ∷ []);
      same = z.same ∙ rw (next_text, e, text_length ns j i f h, ← sum_more ns i h) (after_one z.marks ms (marks_left names W ns j (i + 1)));
    }
