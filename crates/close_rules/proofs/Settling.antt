-- The marks of a word after a row's rules ran once in it: they add nothing more. Over any sets of marks.
-- Assumes that a row's children are other rows.
use mathlib.Core.Path.{◌≡◌, refl, sym, subst}
use mathlib.Core.Bool.{Bool, true, false, not}
use mathlib.Core.List.{List}
use mathlib.Core.Logic.{◌⊎◌, inl, inr, ⊎_elim}
use Prim.Native.Nat.{ℕ, ◌/◌, ◌<◌}
use Rattle.spec_tilco.specs.Inference.{Mark, mark, Marks, Shifted, GateSettled}
use Rattle.spec_tilco.specs.Table.{Stands}
use Rattle.table_words.specs.WordTicks.{Sides, Joins}
use Rattle.table_words.proofs.Gaining.{not_apart}
use Rattle.close_rules.specs.Settled.{FromChild}

-- The marks S' are those of S, and row r's in word q: of value u at the ticks U, of the other value at the ticks N.
pub record Ran (q r : ℕ) (u : Bool) (U N : ℕ → Type 0) (S S' : Marks) : Type 0 where
  pub grown : (m : Mark) → S m → S' m
  pub given : (t : ℕ) → t / 64 ≡ q → U t → S' (mark r t u)
  pub given_other : (t : ℕ) → t / 64 ≡ q → N t → S' (mark r t (not u))
  pub back : (z t : ℕ) → S' (mark z t u) → S (mark z t u) ⊎ ((z ≡ r) × U t)
  pub back_other : (z t : ℕ) → S' (mark z t (not u)) → S (mark z t (not u)) ⊎ ((z ≡ r) × N t)

pub ran : (n : ℕ) (T T' : List ℕ) (q r : ℕ) (u : Bool) (U N : ℕ → Type 0) (x : ℕ) → Joins n (Sides r u q U N) T T' x → Ran q r u U N (Stands n T) (Stands n T')
ran n T T' q r u U N x j = record {
  grown = λ m i. (j.gains.exactly m).1 (inl i);
  given = λ t e h. (j.gains.exactly (mark r t u)).1 (inr (inl (refl, refl, e, h)));
  given_other = λ t e h. (j.gains.exactly (mark r t (not u))).1 (inr (inr (refl, refl, e, h)));
  back = λ z t i. ⊎_elim inl (⊎_elim (λ h. inr (h.0, h.3)) (λ h. absurd (not_apart u h.1))) ((j.gains.exactly (mark z t u)).0 i);
  back_other = λ z t i. ⊎_elim inl (⊎_elim (λ h. absurd (not_apart u (sym h.1))) (λ h. inr (h.0, h.3))) ((j.gains.exactly (mark z t (not u))).0 i);
}

-- The same, told of the value false first.
pub turned : {q r : ℕ} {U N : ℕ → Type 0} {S S' : Marks} → Ran q r true U N S S' → Ran q r false N U S S'
turned f = record { grown = f.grown; given = f.given_other; given_other = f.given; back = f.back_other; back_other = f.back }

-- Another row's marks are as they were.
module _ {q r : ℕ} {u : Bool} {U N : ℕ → Type 0} {S S' : Marks} (f : Ran q r u U N S S') (z t : ℕ) (d : z ≡ r → ⊥) where
  kept : S' (mark z t u) → S (mark z t u)
  kept i = ⊎_elim (λ h. h) (λ h. absurd (d h.0)) (f.back z t i)

  kept_other : S' (mark z t (not u)) → S (mark z t (not u))
  kept_other i = ⊎_elim (λ h. h) (λ h. absurd (d h.0)) (f.back_other z t i)

-- Ticks at which a gate r or its child c has the value u: the child gets it there.
abbrev pub Whole : Marks → Bool → ℕ → ℕ → ℕ → Type 0
Whole S u r c t = S (mark c t u) ⊎ S (mark r t u)

-- Ticks at which a gate or one of its children has the other value: the gate gets it there.
abbrev pub Part : Marks → Bool → ℕ → ℕ → ℕ → ℕ → Type 0
Part S u r a b t = (S (mark r t (not u)) ⊎ S (mark a t (not u))) ⊎ S (mark b t (not u))

-- A gate's rules; its two children may be one row.
module _ {q r a b : ℕ} {u : Bool} {S₀ S₁ S₂ S₃ : Marks} (da : r ≡ a → ⊥) (db : r ≡ b → ⊥)
    (i : Ran q r u (λ t. Whole S₀ u r a t × Whole S₀ u r b t) (Part S₀ u r a b) S₀ S₁)
    (j : Ran q a u (Whole S₀ u r a) (λ t. Part S₀ u r a b t × Whole S₀ u r b t) S₁ S₂)
    (k : Ran q b u (Whole S₀ u r b) (λ t. Part S₀ u r a b t × Whole S₀ u r a t) S₂ S₃) where
  -- what the marks of the gate and of a child say of the marks before
  gate_has : (t : ℕ) → S₃ (mark r t u) → S₀ (mark r t u) ⊎ ((r ≡ r) × (Whole S₀ u r a t × Whole S₀ u r b t))
  gate_has t h = i.back r t (kept j r t da (kept k r t db h))

  gate_has_other : (t : ℕ) → S₃ (mark r t (not u)) → Part S₀ u r a b t
  gate_has_other t h = ⊎_elim (λ g. inl (inl g)) (λ g. g.1) (i.back_other r t (kept_other j r t da (kept_other k r t db h)))

  child_has : (c t : ℕ) → (r ≡ c → ⊥) → S₃ (mark c t u) → Whole S₀ u r c t
  child_has c t d h =
      ⊎_elim (λ g. ⊎_elim (λ f. inl (kept i c t (λ z. d (sym z)) f)) (λ f. as_of f.0 f.1) (j.back c t g)) (λ g. as_of g.0 g.1) (k.back c t h)
    where
      as_of : {x : ℕ} → c ≡ x → Whole S₀ u r x t → Whole S₀ u r c t
      as_of e w = subst (λ (x : ℕ). Whole S₀ u r x t) (sym e) w

  child_has_other : (c t : ℕ) → (r ≡ c → ⊥) → S₃ (mark c t (not u)) → S₀ (mark c t (not u)) ⊎ Part S₀ u r a b t
  child_has_other c t d h =
      ⊎_elim (λ g. ⊎_elim (λ f. inl (kept_other i c t (λ z. d (sym z)) f)) (λ f. inr f.1.0) (j.back_other c t g)) (λ g. inr g.1.0) (k.back_other c t h)

  pub gate_in : (t : ℕ) → t / 64 ≡ q → GateSettled S₃ u r a b t
  gate_in t e = record {
    down_left = λ h. k.grown (mark a t u) (j.given t e (⊎_elim inr (λ g. g.1.0) (gate_has t h)));
    down_right = λ h. k.given t e (⊎_elim inr (λ g. g.1.1) (gate_has t h));
    up_both = λ h g. later (mark r t u) (i.given t e (child_has a t da h, child_has b t db g));
    up_left = λ h. later (mark r t (not u)) (i.given_other t e (⊎_elim (λ g. inl (inr g)) (λ g. g) (child_has_other a t da h)));
    up_right = λ h. later (mark r t (not u)) (i.given_other t e (⊎_elim inr (λ g. g) (child_has_other b t db h)));
    rest_left = λ h g. k.grown (mark a t (not u)) (j.given_other t e (gate_has_other t h, child_has b t db g));
    rest_right = λ h g. k.given_other t e (gate_has_other t h, child_has a t da g);
  }
    where
      later : (m : Mark) → S₁ m → S₃ m
      later m h = k.grown m (j.grown m h)

-- What holds for both values holds for each.
pub by_value : (Q : Bool → Type 0) → Q true → Q false → (v : Bool) → Q v
by_value Q f g true = f
by_value Q f g false = g

-- A not-row's rules, for one value: the row and its child give each other the opposite.
pub not_in : {q r c : ℕ} {v : Bool} {S₀ S₁ S₂ : Marks} → (r ≡ c → ⊥) → Ran q r v (λ t. S₀ (mark c t (not v))) (λ t. S₀ (mark c t v)) S₀ S₁
    → Ran q c v (λ t. S₀ (mark r t (not v))) (λ t. S₀ (mark r t v)) S₁ S₂
    → (t : ℕ) → t / 64 ≡ q → (S₂ (mark r t v) → S₂ (mark c t (not v))) × (S₂ (mark c t v) → S₂ (mark r t (not v)))
not_in {q} {r} {c} {v} {S₀} {S₁} {S₂} d i j t e = (
  λ h. ⊎_elim (λ g. j.given_other t e g) (λ g. later (mark c t (not v)) g.1) (i.back r t (kept j r t d h)),
  λ h. ⊎_elim (λ g. j.grown (mark r t (not v)) (i.given_other t e (kept i c t (λ z. d (sym z)) g))) (λ g. later (mark r t (not v)) g.1) (j.back c t h),
)
  where
    later : (m : Mark) → S₀ m → S₂ m
    later m h = j.grown m (i.grown m h)

-- A look's row, which gained what its child has, for one value.
pub look_in : (k W : ℕ) {p q r c : ℕ} {v : Bool} {M : ℕ → Type 0} {S S' : Marks} → (r ≡ c → ⊥) → Ran p r v (FromChild W S k c q v) M S S'
    → (t s : ℕ) → Shifted t k s → t < W → t / 64 ≡ p → s / 64 ≡ q → S' (mark c s v) → S' (mark r t v)
look_in k W {c = c} d i t s e l f g h = i.given t f (l, (s, g, e, kept i c s (λ z. d (sym z)) h))
