-- A table of derived marks has all that the rules lead to, or a mark is found missing.
-- Assumes that no mark stands outside the window W.
use mathlib.Core.Path.{◌≡◌, refl, sym, subst}
use mathlib.Core.Bool.{Bool, true, false, not}
use mathlib.Core.List.Memᴰ
use mathlib.Core.List.{List, [], ◌∷◌, Memᴰ}
use mathlib.Core.Logic.{◌⊎◌, inl, inr, ⊎_elim, ◌↔◌}
use Prim.Native.Nat.{ℕ, zero, suc, ◌+◌, ◌<◌, ◌≤◌}
use native.Mathlib.Decide.{ℕ_discrete, dec_lt}
use native.Mathlib.Omega.{arith}
use lib.ListN.{length}
use Rattle.spec_tilco.specs.Inference.{Node, signal, not_of, gate, look, Program, node, Mark, mark, Marks, Shifted, down_left, down_right, up_left, up_right, look_down, look_up, not_down, not_up, up_both, rest_right, rest_left, Derives, start, top, one, two, GateSettled, ◌or◌}
use Rattle.spec_tilco.specs.Table.{Stands, Inside, ReadMarks}
use Rattle.spec_tilco.proofs.Closing.{SettledAt, finished}
use Rattle.proof_demands.proofs.Deciding.{stands_told}

-- ---- all of finitely many hold, or M does

join : {A B M : Type 0} → A ⊎ M → B ⊎ M → (A × B) ⊎ M
join (inl a) (inl b) = inl (a, b)
join (inl a) (inr m) = inr m
join (inr m) x = inr m

both_values : {M : Type 0} (Q : Bool → Type 0) → Q true ⊎ M → Q false ⊎ M → ((v : Bool) → Q v) ⊎ M
both_values {M} Q (inl a) (inl b) = inl go
  where
    go : (v : Bool) → Q v
    go true = a
    go false = b
both_values Q (inl a) (inr m) = inr m
both_values Q (inr m) x = inr m

all_below : {M : Type 0} (Q : ℕ → Type 0) (n : ℕ) → ((i : ℕ) → i < n → Q i ⊎ M) → ((i : ℕ) → i < n → Q i) ⊎ M
all_below Q zero f = inl (λ i h. absurd (omega arith))
all_below {M} Q (suc n) f = go (f n (omega arith)) (all_below Q n (λ i h. f i (omega arith)))
  where
    pick_one : Q n → ((i : ℕ) → i < n → Q i) → (i : ℕ) → i < suc n → Dec (i ≡ n) → Q i
    pick_one q g i h (yes e) = subst (λ (j : ℕ). Q j) (sym e) q
    pick_one q g i h (no e) = g i (omega arith)

    go : Q n ⊎ M → ((i : ℕ) → i < n → Q i) ⊎ M → ((i : ℕ) → i < suc n → Q i) ⊎ M
    go (inl q) (inl g) = inl (λ i h. pick_one q g i h (ℕ_discrete i n))
    go (inl q) (inr m) = inr m
    go (inr m) x = inr m

-- The same where all from n on hold anyway.
all_ticks : {M : Type 0} (Q : ℕ → Type 0) (n : ℕ) → ((i : ℕ) → Q i ⊎ M) → ((i : ℕ) → n ≤ i → Q i) → ((i : ℕ) → Q i) ⊎ M
all_ticks Q n f past = ⊎_elim (λ g. inl (λ i. go g i (dec_lt i n))) inr (all_below Q n (λ i h. f i))
  where
    go : ((i : ℕ) → i < n → Q i) → (i : ℕ) → Dec (i < n) → Q i
    go g i (yes h) = g i h
    go g i (no h) = past i (omega arith)

all_listed : {A M : Type 0} (Q : A → Type 0) (xs : List A) → ((x : A) → Memᴰ x xs → Q x ⊎ M) → ((x : A) → Memᴰ x xs → Q x) ⊎ M
all_listed Q [] f = inl (λ x i. absurd (Memᴰ.not-nil i))
all_listed {A} {M} Q (y ∷ ys) f = go (f y (Memᴰ.head refl)) (all_listed Q ys (λ x i. f x (Memᴰ.tail i)))
  where
    go : Q y ⊎ M → ((x : A) → Memᴰ x ys → Q x) ⊎ M → ((x : A) → Memᴰ x (y ∷ ys) → Q x) ⊎ M
    go (inl q) (inl g) = inl (λ x i. ⊎_elim (λ e. subst Q (sym e) q) (g x) (Memᴰ.cases_cons i))
    go (inl q) (inr m) = inr m
    go (inr m) x = inr m

-- ---- a table's marks

-- A mark that the rules lead to and that does not stand in the table U.
pub record Missing (P : Program) (W n : ℕ) (S : Marks) (U : List ℕ) : Type 0 where
  pub at : Mark
  pub led : Derives P W S at
  pub absent : Stands n U at → ⊥

module _ (P : Program) (W n : ℕ) (S : Marks) (U : List ℕ) (only : (m : Mark) → Stands n U m → Derives P W S m) (inside : Inside W (Stands n U)) where
  abbrev D : Marks
  D = Derives P W S

  abbrev In : Marks
  In = Stands n U

  abbrev M : Type 0
  M = Missing P W n S U

  told : (m : Mark) → Dec (In m)
  told (mark r t v) = stands_told n U r t v

  stood : (m : Mark) → D m → In m ⊎ M
  stood m d = go (told m)
    where
      go : Dec (In m) → In m ⊎ M
      go (yes i) = inl i
      go (no f) = inr (record { at = m; led = d; absent = f })

  -- A rule with two premises adds nothing; one with one premise names it twice.
  gives : (p q m : Mark) → (D p → D q → D m) → (In p → In q → In m) ⊎ M
  gives p q m f = go (told p) (told q)
    where
      go : Dec (In p) → Dec (In q) → (In p → In q → In m) ⊎ M
      go (yes i) (yes j) = ⊎_elim (λ k. inl (λ x y. k)) inr (stood m (f (only p i) (only q j)))
      go (yes i) (no j) = inl (λ x y. absurd (j y))
      go (no i) d = inl (λ x y. absurd (i x))

  gives_one : (p m : Mark) → (D p → D m) → (In p → In m) ⊎ M
  gives_one p m f = ⊎_elim (λ g. inl (λ i. g i i)) inr (gives p p m (λ d e. f d))

  -- ---- each kind of row

  late : {A : Type 0} (r t : ℕ) (v : Bool) → W ≤ t → In (mark r t v) → A
  late r t v h i = absurd (omega (arith, inside r t v i))

  not_settled : (r x : ℕ) → node P r ≡ not_of x → SettledAt W In r (not_of x) ⊎ M
  not_settled r x e =
      all_ticks (λ t. (v : Bool) → (In (mark r t v) → In (mark x t (not v))) × (In (mark x t v) → In (mark r t (not v)))) W
      (λ t. both_values (λ v. (In (mark r t v) → In (mark x t (not v))) × (In (mark x t v) → In (mark r t (not v)))) (of_value t true) (of_value t false))
      (λ t h v. (late r t v h, late x t v h))
    where
      of_value : (t : ℕ) (v : Bool) → ((In (mark r t v) → In (mark x t (not v))) × (In (mark x t v) → In (mark r t (not v)))) ⊎ M
      of_value t v = join (gives_one (mark r t v) (mark x t (not v)) (one (not_down e))) (gives_one (mark x t v) (mark r t (not v)) (one (not_up e)))

  gate_settled : (r a b : ℕ) (u : Bool) → node P r ≡ gate u a b → SettledAt W In r (gate u a b) ⊎ M
  gate_settled r a b u e = all_ticks (GateSettled In u r a b) W at past
    where
      at : (t : ℕ) → GateSettled In u r a b t ⊎ M
      at t =
          ⊎_elim (λ g. inl (record {
            down_left = g.0.0;
            down_right = g.0.1.0;
            up_both = g.0.1.1;
            up_left = g.1.0.0;
            up_right = g.1.0.1;
            rest_right = g.1.1.0;
            rest_left = g.1.1.1;
          })) inr
          (join
          (join (gives_one (mark r t u) (mark a t u) (one (down_left e)))
          (join (gives_one (mark r t u) (mark b t u) (one (down_right e))) (gives (mark a t u) (mark b t u) (mark r t u) (two (up_both e)))))
          (join
          (join (gives_one (mark a t (not u)) (mark r t (not u)) (one (up_left e))) (gives_one (mark b t (not u)) (mark r t (not u)) (one (up_right e))))
          (join (gives (mark r t (not u)) (mark a t u) (mark b t (not u)) (two (rest_right e))) (gives (mark r t (not u)) (mark b t u) (mark a t (not u)) (two (rest_left e))))))

      past : (t : ℕ) → W ≤ t → GateSettled In u r a b t
      past t h = record {
        down_left = late r t u h;
        down_right = late r t u h;
        up_both = late a t u h;
        up_left = late a t (not u) h;
        up_right = late b t (not u) h;
        rest_right = late r t (not u) h;
        rest_left = late r t (not u) h;
      }

  abbrev Linked : ℕ → ℕ → ℕ → ℕ → ℕ → Bool → Type 0
  Linked r k c t s v = Shifted t k s → t < W → s < W → (In (mark r t v) → In (mark c s v)) × (In (mark c s v) → In (mark r t v))

  look_settled : (r k c : ℕ) → node P r ≡ look k c → SettledAt W In r (look k c) ⊎ M
  look_settled r k c e =
      all_ticks (λ t. (s : ℕ) (v : Bool) → Linked r k c t s v) W
      (λ t. all_ticks (λ s. (v : Bool) → Linked r k c t s v) W (λ s. both_values (Linked r k c t s) (of_value t s true) (of_value t s false)) (λ s h v z i j. absurd (omega arith)))
      (λ t h s v z i j. absurd (omega arith))
    where
      of_value : (t s : ℕ) (v : Bool) → Linked r k c t s v ⊎ M
      of_value t s v = go (ℕ_discrete (t + k) (s + 64)) (dec_lt t W) (dec_lt s W)
        where
          go : Dec (Shifted t k s) → Dec (t < W) → Dec (s < W) → Linked r k c t s v ⊎ M
          go (yes z) (yes h) (yes l) =
              ⊎_elim (λ g. inl (λ y i j. g)) inr
              (join (gives_one (mark r t v) (mark c s v) (one (look_down e z h l))) (gives_one (mark c s v) (mark r t v) (one (look_up e z h l))))
          go (yes z) (yes h) (no l) = inl (λ y i j. absurd (l j))
          go (yes z) (no h) d = inl (λ y i j. absurd (h i))
          go (no z) d d' = inl (λ y i j. absurd (z y))

  settled : (r : ℕ) → SettledAt W In r (node P r) ⊎ M
  settled r = go (node P r) refl
    where
      go : (d : Node) → node P r ≡ d → SettledAt W In r d ⊎ M
      go signal e = inl tt
      go (not_of x) e = not_settled r x e
      go (gate u a b) e = gate_settled r a b u e
      go (look k c) e = look_settled r k c e

  tops_stand : ((r : ℕ) → Memᴰ r P.tops → (t : ℕ) → t < W → In (mark r t true)) ⊎ M
  tops_stand = all_listed (λ r. (t : ℕ) → t < W → In (mark r t true)) P.tops (λ r i. all_below (λ t. In (mark r t true)) W (λ t h. stood (mark r t true) (top i h)))

-- The table has T's marks, and all that the rules lead to from T and the readings R; or a mark is missing.
pub closed_or_missing : (P : Program) (W n : ℕ) (T : List ℕ) (R : List Mark) (U : List ℕ) → ((m : Mark) → Stands n U m → Derives P W (◌or◌ (Stands n T) (ReadMarks R)) m) → Inside W (Stands n U)
    → ((m : Mark) → Stands n T m → Stands n U m) → ((m : Mark) → Stands n U m ↔ Derives P W (◌or◌ (Stands n T) (ReadMarks R)) m) ⊎ Missing P W n (◌or◌ (Stands n T) (ReadMarks R)) U
closed_or_missing P W n T R U only inside kept =
    ⊎_elim (λ g. inl (finished P W (Stands n U) S only (begun g.0) g.1.0 g.1.1)) inr
    (join (all_listed (Stands n U) R (λ m i. stood P W n S U only inside m (start (inr i))))
    (join (tops_stand P W n S U only inside) (all_below (λ r. SettledAt W (Stands n U) r (node P r)) (length P.rows) (λ r h. settled P W n S U only inside r))))
  where
    S : Marks
    S = ◌or◌ (Stands n T) (ReadMarks R)

    begun : ((m : Mark) → Memᴰ m R → Stands n U m) → (m : Mark) → ◌or◌ (Stands n T) (ReadMarks R) m → Stands n U m
    begun g m (inl i) = kept m i
    begun g m (inr i) = g m i
