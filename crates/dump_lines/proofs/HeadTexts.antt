-- Texts of which one is asked for, and readers one after the other: each answer.
-- Assumes nothing.
use mathlib.Core.Path.{◌≡◌, refl, sym, ◌∙◌}
use mathlib.Core.Bool.{Bool, true, false}
use mathlib.Core.List.{List, [], ◌∷◌, map}
use Prim.Native.Nat.{ℕ, ◌+◌, ◌<◌, ◌≤◌}
use native.Mathlib.Numerals.{add-one}
use lib.ListN.{length, drop, get_or}
use lib.Seq.{drop-cons}
use Rattle.std.proofs.Common.{drop_of_length-le}
use Rattle.read_bytes.specs.Read.{Read, and_then}
use Rattle.read_bytes.specs.Read.Read.{got, refused}
use Rattle.read_lines.specs.Lines.{keyed_at}
use Rattle.spec_dump.specs.DumpLines.{one_of_texts}

module _ (d : List ℕ) (p q : ℕ) where
  -- None is left.
  pub text_none : refused 22 p ≡ one_of_texts d p q []
  unfolding one_of_texts
  text_none = refl

  -- Whether the first stands there settles the search, or moves it on.
  module _ (w : List ℕ) (ws : List (List ℕ)) {b : Bool} (k : b ≡ keyed_at d q w) where
    pub text_here : b ≡ true → {r : ℕ} → r ≡ q + length w → got 0 r ≡ one_of_texts d p q (w ∷ ws)
    unfolding one_of_texts
    text_here e i = rw (sym k ∙ e, i)

    pub text_later : b ≡ false → {R : Read ℕ} → R ≡ one_of_texts d p q ws → R ≡ one_of_texts d p q (w ∷ ws)
    unfolding one_of_texts
    text_later e i = rw (sym k ∙ e) i

  -- The texts from one on are it and those after it; f is what a text of the list is.
  module _ {X : Type 0} (f : X → List ℕ) (ts : List X) (i : ℕ) where
    pub text_left : i < length ts → (x : X) {R : Read ℕ} → R ≡ one_of_texts d p q (f (get_or ts i x) ∷ map f (drop (i + 1) ts)) → R ≡ one_of_texts d p q (map f (drop i ts))
    text_left l x e = rw (drop-cons ts i x) (rw add-one at e)

    pub texts_done : length ts ≤ i → refused 22 p ≡ one_of_texts d p q (map f (drop i ts))
    texts_done l = rw (drop_of_length-le ts l) text_none

-- What was read goes on.
pub go_on : {A B : Type 0} (K : A → ℕ → Read B) {R : Read A} {a : A} {q : ℕ} {S : Read B} → R ≡ got a q → S ≡ K a q → S ≡ and_then R K
go_on K e i = rw e i
