-- Readers that stay in their text: the place after what is read, and the place of a refusal, are at most the text's length L; and what is read
-- is as Q asks.
-- Assumes that of the place where reading starts.
use mathlib.Core.Path.{◌≡◌, refl, subst}
use mathlib.Core.Bool.{Bool, true, false, ◌&&◌, and-eq-true_iff}
use mathlib.Core.List.{List, [], ◌∷◌, ◌++◌}
use Prim.Native.Nat.{ℕ, zero, suc, ◌+◌, ◌≤◌, ◌<◌}
use native.Mathlib.Omega.{arith}
use borrow.Author.Tests.{ltb-true}
use lib.Dec.{ltb, eqb}
use lib.ListN.{length}
use Rattle.std.specs.Prelude.{Option, Some, None}
use Rattle.read_bytes.specs.Read.{Read, and_then}
use Rattle.read_bytes.specs.Read.Read.{got, refused}
use Rattle.read_bytes.specs.Bytes.{pick, between, starts, run_end}
use Rattle.read_names.specs.Spellings.{name_at}
use Rattle.read_bytes.specs.Numbers.{number}
use Rattle.read_lines.specs.Lines.{line_end, line, whole_number, whole_name, number_line, ranged_line, name_line, up_to}
use Rattle.read_bytes.proofs.Answers.{came}
use Rattle.read_lines.proofs.KeyedLines.{placed}

-- What is read is as Q asks, and the place that is given is at most L.
abbrev pub Stays : {A : Type 0} → (A → Type 0) → ℕ → Read A → Type 0
Stays Q L (got a q) = Q a × (q ≤ L)
Stays Q L (refused n p) = p ≤ L

-- Nothing is asked.
abbrev pub Any : {A : Type 0} → A → Type 0
Any a = Unit {0}

module _ {A : Type 0} (Q : A → Type 0) (L : ℕ) where
  -- what goes on from an accepted part
  pub then_stays : {B : Type 0} (P : B → Type 0) (R : Read B) (K : B → ℕ → Read A) → Stays P L R → ((b : B) (q : ℕ) → R ≡ got b q → P b → q ≤ L → Stays Q L (K b q)) → Stays Q L (and_then R K)
  then_stays P (got b q) K h f = f b q refl h.0 h.1
  then_stays P (refused n p) K h f = h

  -- one of two
  pub pick_stays : (b : Bool) (X Y : Read A) → (b ≡ true → Stays Q L X) → Stays Q L Y → Stays Q L (pick b (λ _. X) Y)
  pick_stays true X Y f h = f refl
  pick_stays false X Y f h = h

  -- a longer text
  pub stays_longer : (M : ℕ) (R : Read A) → L ≤ M → Stays Q L R → Stays Q M R
  stays_longer M (got a q) l h = (h.0, omega (arith, h.1))
  stays_longer M (refused n p) l h = omega arith

  -- what is read
  pub stays_got : {R : Read A} {a : A} {q : ℕ} → Stays Q L R → R ≡ got a q → Q a × (q ≤ L)
  stays_got h e = subst (Stays Q L) e h

  -- a refusal
  pub stays_refused : {R : Read A} {n p : ℕ} → Stays Q L R → R ≡ refused n p → p ≤ L
  stays_refused h e = subst (Stays Q L) e h

-- parts one after another
pub up_stays : {A : Type 0} (L : ℕ) (P : ℕ → Read A) (end : ℕ) → ((p : ℕ) → p ≤ L → Stays Any L (P p)) → (m : ℕ) (t : List A) (p : ℕ) → p ≤ L → Stays Any L (up_to P end m t p)
unfolding up_to
up_stays L P end part zero t p h = (tt, h)
up_stays L P end part (suc m) t p h =
    pick_stays Any L (ltb p end) (and_then (P p) (λ a q. up_to P end m (t ++ (a ∷ [])) q)) (got t p)
    (λ _. then_stays Any L Any (P p) (λ a q. up_to P end m (t ++ (a ∷ [])) q) (part p h) (λ a q e x l. up_stays L P end part m (t ++ (a ∷ [])) q l)) (tt, h)

module _ (s : List ℕ) (p : ℕ) (h : p ≤ length s) (key : List ℕ) (form : ℕ) where
  -- each kind of line
  pub line_stays : Stays (λ v. v ≤ length s) (length s) (line s p key form)
  unfolding line run_end
  line_stays =
      let e : ℕ = line_end s (p + length key) in
      pick_stays (λ v. v ≤ length s) (length s) (starts s p key && ltb e (length s)) (got (p + length key) e) (refused form p)
      (λ x. let l = ltb-true e (length s) ((and-eq-true_iff (starts s p key) (ltb e (length s))).0 x).1 in (omega arith, omega arith)) h

  -- a number
  number_stays : Stays Any (length s) (number_line s p key form)
  unfolding number_line
  number_stays =
      then_stays Any (length s) (λ v. v ≤ length s) (line s p key form) (λ v e. whole_number p form e (number s v)) line_stays
      (λ v e f i l. go e (number s v) (placed s p key form f).inside)
    where
      go : (e : ℕ) (x : Option (ℕ × ℕ)) → e < length s → Stays Any (length s) (whole_number p form e x)
      go e (Some (x, q)) l = pick_stays Any (length s) (eqb q e) (got x (e + 1)) (refused form p) (λ _. (tt, omega arith)) h
      go e None l = h

  -- the value of a number's line stands in the text
  value_stays : {x q : ℕ} → number_line s p key form ≡ got x q → p + length key ≤ length s
  unfolding number_line
  value_stays f =
      let d = came (line s p key form) _ f in
      let w = placed s p key form d.first in
      omega (arith, w.value, w.order, w.inside)

  -- a number in its range
  pub ranged_stays : (content lo hi : ℕ) → Stays Any (length s) (ranged_line s p key form content lo hi)
  unfolding ranged_line
  ranged_stays content lo hi =
      then_stays Any (length s) Any (number_line s p key form) (λ x q. pick (between lo hi x) (λ _. got x q) (refused content (p + length key))) number_stays
      (λ x q f i l. pick_stays Any (length s) (between lo hi x) (got x q) (refused content (p + length key)) (λ _. (tt, l)) (value_stays f))

  -- a name
  pub name_stays : (content : ℕ) → Stays (λ v. v ≤ length s) (length s) (name_line s p key form content)
  unfolding name_line
  name_stays content =
      then_stays (λ v. v ≤ length s) (length s) (λ v. v ≤ length s) (line s p key form) (λ v e. whole_name v content e (name_at s v)) line_stays
      (λ v e f i l. go v e (name_at s v) i (placed s p key form f).inside)
    where
      go : (v e : ℕ) (x : Option (ℕ × Option ℕ)) → v ≤ length s → e < length s → Stays (λ v. v ≤ length s) (length s) (whole_name v content e x)
      go v e (Some (q, n)) k l = pick_stays (λ v. v ≤ length s) (length s) (eqb q e) (got v (e + 1)) (refused content v) (λ _. (k, omega arith)) k
      go v e None k l = k
