-- The texts of a joined slice, read one after the other: all are accepted, or the first that is refused says so, its place counted in the slice.
-- Assumes nothing. j is the slice, ns the lengths, p the place of the first text; `names` are the declared names and W the window.
use mathlib.Core.Path.{◌≡◌, refl, sym, ap, subst, ◌∙◌}
use mathlib.Core.List.{List, [], ◌∷◌}
use Prim.Native.Nat.{ℕ, zero, suc, ◌+◌, ◌<◌}
use native.Mathlib.Omega.{arith}
use lib.ListN.{length, get_or, take, drop, length-take, length-drop}
use lib.Seq.{drop-drop}
use Rattle.read_bytes.specs.Read.{Read, and_then}
use Rattle.read_bytes.specs.Read.Read.{got, refused}
use Rattle.read_bytes.proofs.Answers.{came, not_both, same_value}
use Rattle.spec_tilco.specs.Lists.{total}
use Rattle.spec_tilco.specs.Inference.{Mark}
use Rattle.read_readings.specs.Readings.{readings}
use Rattle.read_readings.proofs.Cuts.{readings_end, AllAccepted}
use Rattle.read_readings.proofs.Cuts.AllAccepted.{none, one}
use Rattle.spec_figures.specs.Texts.{texts_in, placed_from, marks_from}
use Rattle.proof_figures.specs.FigureCases.{start_of, text_at}

-- ---- the texts

pub text_first : (n : ℕ) (ns j : List ℕ) → text_at (n ∷ ns) j 0 ≡ take n j
unfolding text_at start_of
text_first n ns j = refl

pub text_later : (n : ℕ) (ns j : List ℕ) (i : ℕ) → text_at (n ∷ ns) j (suc i) ≡ text_at ns (drop n j) i
unfolding text_at start_of
text_later n ns j i = ap (take (get_or ns i 0)) (sym (drop-drop (total (λ n. n) (take i ns)) n j))

start_first : (ns : List ℕ) → start_of ns 0 ≡ 0
unfolding start_of
start_first ns = refl

start_later : (n : ℕ) (ns : List ℕ) (i : ℕ) → start_of (n ∷ ns) (suc i) ≡ n + start_of ns i
unfolding start_of
start_later n ns i = refl

-- A text is as long as its length says, and so is what follows it.
record Cut (n : ℕ) (ns j : List ℕ) : Type 0 where
  first : length (take n j) ≡ n
  rest : total (λ a. a) ns ≡ length (drop n j)

cut : (n : ℕ) (ns j : List ℕ) → total (λ a. a) (n ∷ ns) ≡ length j → Cut n ns j
cut n ns j e = record { first = omega (arith, length-take n j); rest = omega (arith, length-drop n j) }

-- ---- what is read of them

-- A text that is accepted where it stands is accepted by itself.
placed_got : (p : ℕ) (R : Read (List Mark)) {ms : List Mark} {e : ℕ} → placed_from p R ≡ got ms e → (q : ℕ) × (R ≡ got ms q)
placed_got p (got ns q) f = (q, ap (λ (l : List Mark). got l q) (same_value f))
placed_got p (refused n q) f = absurd (not_both (sym f))

-- The texts after an accepted one are refused where all are.
abbrev with_first : List Mark → Read (List (List Mark)) → Read (List (List Mark))
with_first ms R = and_then R (λ mss e. got (ms ∷ mss) e)

rest_off : (ms : List Mark) (R : Read (List (List Mark))) {n q : ℕ} → with_first ms R ≡ refused n q → R ≡ refused n q
rest_off ms (got mss e) f = absurd (not_both f)
rest_off ms (refused m v) f = f

module _ (names : List (List ℕ)) (W : ℕ) where
  -- All are read exactly if each is accepted.
  pub texts_accepted : (p : ℕ) (rs : List (List ℕ)) {mss : List (List Mark)} {q : ℕ} → marks_from names W p rs ≡ got mss q → AllAccepted names W rs mss
  unfolding marks_from
  texts_accepted p [] e = subst (AllAccepted names W []) (same_value e) none
  texts_accepted p (r ∷ rs) e =
      let x = came (placed_from p (readings names W r)) (λ ms q. with_first ms (marks_from names W (p + length r) rs)) e in
      let y = came (marks_from names W (p + length r) rs) (λ mss q. got (x.value ∷ mss) q) x.then in
      let z = placed_got p (readings names W r) x.first in
      subst (AllAccepted names W (r ∷ rs)) (same_value y.then)
      (one (z.1 ∙ ap (got x.value) (readings_end names W r x.value z.0 z.1)) (texts_accepted (p + length r) rs y.first))

  pub accepted_texts : (p : ℕ) {rs : List (List ℕ)} {mss : List (List Mark)} → AllAccepted names W rs mss → (q : ℕ) × (marks_from names W p rs ≡ got mss q)
  unfolding marks_from
  accepted_texts p none = (p, refl)
  accepted_texts p (one {r} e more) = let x = accepted_texts (p + length r) more in (x.0, rw (e, x.1))

  -- Text i is refused, by n at its place, and every text before it is accepted.
  pub record FirstOff (ns j : List ℕ) (i n p : ℕ) : Type 0 where
    pub among : i < length ns
    pub off : readings names W (text_at ns j i) ≡ refused n p
    pub before : (h : ℕ) → h < i → (ms : List Mark) × (q : ℕ) × (readings names W (text_at ns j h) ≡ got ms q)

  -- That text, where all texts are refused by n at q.
  pub record OffAt (ns j : List ℕ) (p n q : ℕ) : Type 0 where
    pub index : ℕ
    pub place : ℕ
    pub first : FirstOff ns j index n place
    pub at : q ≡ p + (start_of ns index + place)

  module _ (a : ℕ) (ns j : List ℕ) where
    -- The first of all texts is refused,
    first_here : {n v : ℕ} → readings names W (take a j) ≡ refused n v → FirstOff (a ∷ ns) j 0 n v
    first_here f = record { among = omega arith; off = ap (readings names W) (text_first a ns j) ∙ f; before = λ h l. absurd (omega arith) }

    -- or it is accepted, and a later one is refused.
    first_there : {i n v : ℕ} {ms : List Mark} {q : ℕ} → readings names W (take a j) ≡ got ms q → FirstOff ns (drop a j) i n v → FirstOff (a ∷ ns) j (suc i) n v
    first_there {i} {n} {v} {ms} {q} f x = record { among = omega (arith, x.among); off = ap (readings names W) (text_later a ns j i) ∙ x.off; before = earlier }
      where
        earlier : (h : ℕ) → h < suc i → (ms : List Mark) × (q : ℕ) × (readings names W (text_at (a ∷ ns) j h) ≡ got ms q)
        earlier zero l = (ms, q, ap (readings names W) (text_first a ns j) ∙ f)
        earlier (suc h) l = let y = x.before h (omega arith) in (y.0, y.1, ap (readings names W) (text_later a ns j h) ∙ y.2)

    by_first : (p : ℕ) {n q : ℕ} → Cut a ns j → (R : Read (List Mark)) → readings names W (take a j) ≡ R
        → and_then (placed_from p R) (λ ms e. with_first ms (marks_from names W (p + length (take a j)) (texts_in ns (drop a j)))) ≡ refused n q
        → (marks_from names W (p + length (take a j)) (texts_in ns (drop a j)) ≡ refused n q → OffAt ns (drop a j) (p + length (take a j)) n q) → OffAt (a ∷ ns) j p n q
    by_first p {n} {q} c (refused m v) f e rest =
        let i : m ≡ n = cc in
        let g : p + v ≡ q = cc in
        record { index = 0; place = v; first = first_here (f ∙ ap (λ (b : ℕ). refused b v) i); at = omega (arith, start_first (a ∷ ns)) }
    by_first p c (got ms u) f e rest =
        let x = rest (rest_off ms (marks_from names W (p + length (take a j)) (texts_in ns (drop a j))) e) in
        record { index = suc x.index; place = x.place; first = first_there f x.first; at = omega (arith, x.at, start_later a ns x.index, c.first) }

  -- The first text that is refused is told where all are.
  pub first_off : (ns j : List ℕ) (p : ℕ) {n q : ℕ} → total (λ a. a) ns ≡ length j → marks_from names W p (texts_in ns j) ≡ refused n q → OffAt ns j p n q
  unfolding marks_from texts_in
  first_off [] j p l e = absurd (not_both e)
  first_off (a ∷ ns) j p l e =
      let c = cut a ns j l in
      by_first a ns j p c (readings names W (take a j)) refl e (λ f. first_off ns (drop a j) (p + length (take a j)) c.rest f)

  -- And all are refused as it is.
  pub off_first : (ns j : List ℕ) (p i : ℕ) {n v : ℕ} → total (λ a. a) ns ≡ length j → FirstOff ns j i n v → marks_from names W p (texts_in ns j) ≡ refused n (p + (start_of ns i + v))
  unfolding marks_from texts_in
  off_first [] j p i l x = absurd (omega (arith, x.among))
  off_first (a ∷ ns) j p zero {n} {v} l x =
      let f : readings names W (take a j) ≡ refused n v = sym (ap (readings names W) (text_first a ns j)) ∙ x.off in
      rw f (let z : p + v ≡ p + (start_of (a ∷ ns) 0 + v) = omega (arith, start_first (a ∷ ns)) in ap (refused n) z)
  off_first (a ∷ ns) j p (suc i) {n} {v} l x =
      let c = cut a ns j l in
      let y = x.before 0 (omega arith) in
      let f : readings names W (take a j) ≡ got y.0 y.1 = sym (ap (readings names W) (text_first a ns j)) ∙ y.2 in
      let rest : FirstOff ns (drop a j) i n v = record {
        among = omega (arith, x.among);
        off = sym (ap (readings names W) (text_later a ns j i)) ∙ x.off;
        before = λ h m. let w = x.before (suc h) (omega arith) in (w.0, w.1, sym (ap (readings names W) (text_later a ns j h)) ∙ w.2);
      } in
      let g = off_first ns (drop a j) (p + length (take a j)) i c.rest rest in
      rw (f, g) (let z : p + length (take a j) + (start_of ns i + v) ≡ p + (start_of (a ∷ ns) (suc i) + v) = omega (arith, start_later a ns i, c.first) in ap (refused n) z)
