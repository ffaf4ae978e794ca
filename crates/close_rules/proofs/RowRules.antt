-- The rules of a row at the ticks of one word: what the words that the code makes of those that it read do to the table.
-- Assumes that a row's children are other rows; for a look, that no mark is outside the window.
use mathlib.Core.Path.{◌≡◌, refl, sym, subst₂}
use mathlib.Core.Bool.{Bool, true, false, not}
use mathlib.Core.List.{List}
use mathlib.Core.Logic.{◌⊎◌, inl, inr, ⊎_elim}
use Prim.Native.Nat.{ℕ, ◌+◌, ◌/◌, ◌%◌, ◌<◌}
use native.Mathlib.Omega.{arith}
use lib.Bits.{bit_and, bit_or}
use Rattle.spec_ticks.proofs.Bits.{lt_or_ge, or_left, or_right, or_out}
use Rattle.spec_tilco.specs.Inference.{not_of, gate, look, Program, Mark, mark, Marks, Shifted, down_left, down_right, up_left, up_right, look_down, look_up, not_down, not_up, up_both, rest_right, rest_left, Derives, start, one, two, ◌or◌}
use Rattle.spec_tilco.specs.Table.{Stands}
use Rattle.spec_tilco.proofs.Derives.{cut}
use Rattle.table_words.specs.WordTicks.{Ticks, Sides, Reads, Bits, Joins}
use Rattle.close_rules.specs.Settled.{SettledTo, SettledIn, LookTo, FromChild, FromLook}
use Rattle.close_rules.specs.Effects.{InfersOnly, ChangedWord, ChangedWordBefore, ChangedByGate, ChangedByLook, HoldTicks, Gathered, NodeInfers, LookInfers}
use Rattle.table_words.proofs.OneWord.{both_ticks, either_ticks}
use Rattle.table_words.proofs.Gaining.{here_as, sides_as}
use Rattle.close_rules.proofs.Inferring.{infers_inside, idle, weaker, then, joins_infer}
use Rattle.close_rules.proofs.Settling.{ran, turned, Whole, Part, gate_in, by_value, not_in, look_in}

-- A row's children are other rows.
above : {r a : ℕ} → a < r → r ≡ a → ⊥
above l e = omega arith

module _ (n : ℕ) (P : Program) (W q : ℕ) where
  -- Ticks joined to both words of a row, where each of them follows from what stood in an earlier table.
  sides_infer : (T₀ : List ℕ) {T T' : List ℕ} (r : ℕ) (u : Bool) (U N : ℕ → Type 0) {x : ℕ} → ((m : Mark) → Stands n T₀ m → Stands n T m) → Joins n (Sides r u q U N) T T' x
      → ((t : ℕ) → U t → Derives P W (Stands n T₀) (mark r t u)) → ((t : ℕ) → N t → Derives P W (Stands n T₀) (mark r t (not u)))
      → InfersOnly n P W (λ m. Sides r u q U N m × (0 < x)) T T' x
  sides_infer T₀ r u U N older j f g = joins_infer n P W T₀ (Sides r u q U N) older j follows
    where
      follows : (m : Mark) → Sides r u q U N m → Derives P W (Stands n T₀) m
      follows (mark y t z) = ⊎_elim (λ h. as_mark h.0 h.1 (f t h.3)) (λ h. as_mark h.0 h.1 (g t h.3))
        where
          as_mark : {w : Bool} → y ≡ r → z ≡ w → Derives P W (Stands n T₀) (mark r t w) → Derives P W (Stands n T₀) (mark y t z)
          as_mark d e h = subst₂ (λ (a : ℕ) (b : Bool). Derives P W (Stands n T₀) (mark a t b)) (sym d) (sym e) h

  -- The same, of which only the word is told.
  word_infers : (T₀ : List ℕ) {T T' : List ℕ} (r : ℕ) (u : Bool) (U N : ℕ → Type 0) {x : ℕ} → ((m : Mark) → Stands n T₀ m → Stands n T m) → Joins n (Sides r u q U N) T T' x
      → ((t : ℕ) → U t → Derives P W (Stands n T₀) (mark r t u)) → ((t : ℕ) → N t → Derives P W (Stands n T₀) (mark r t (not u)))
      → InfersOnly n P W (ChangedWord r q x) T T' x
  word_infers T₀ r u U N {x} older j f g = weaker n P W x refl wrote (sides_infer T₀ r u U N older j f g)
    where
      wrote : (m : Mark) → Sides r u q U N m × (0 < x) → ChangedWord r q x m
      wrote (mark y t z) h = ⊎_elim (λ k. (k.0, k.2, h.1)) (λ k. (k.0, k.2, h.1)) h.0

-- The ticks of the words that a gate's rules make of the words of the row, r₁ and r₀, and of its children, a₁ and a₀, b₁ and b₀.
pub gate_ticks : {n : ℕ} {T : List ℕ} {q r a b : ℕ} {u : Bool} {r₁ r₀ a₁ a₀ b₁ b₀ : ℕ} → Reads n T q r u r₁ r₀ → Reads n T q a u a₁ a₀ → Reads n T q b u b₁ b₀
    → Ticks q (bit_or a₁ r₁) (Whole (Stands n T) u r a) × Ticks q (bit_or b₁ r₁) (Whole (Stands n T) u r b) × Ticks q (bit_or (bit_or r₀ a₀) b₀) (Part (Stands n T) u r a b)
gate_ticks {n} {T} {q} {r} {a} {b} {u} {r₁} {r₀} {a₁} {a₀} {b₁} {b₀} own left right = (
  either_ticks q a₁ r₁ (Is a u) (Is r u) left.this own.this,
  either_ticks q b₁ r₁ (Is b u) (Is r u) right.this own.this,
  either_ticks q (bit_or r₀ a₀) b₀ (λ t. Is r (not u) t ⊎ Is a (not u) t) (Is b (not u)) (either_ticks q r₀ a₀ (Is r (not u)) (Is a (not u)) own.other left.other) right.other,
)
  where
    Is : ℕ → Bool → ℕ → Type 0
    Is z v t = Stands n T (mark z t v)

-- A gate's rules: left and right are the words of what its children have of value u, part of what it has of the other.
module _ (n q : ℕ) (T₀ T₁ T₂ T₃ : List ℕ) (r a b : ℕ) (u : Bool) (x y z : ℕ) (la : a < r) (lb : b < r) (left right part : ℕ)
    (lefts : Ticks q left (Whole (Stands n T₀) u r a)) (rights : Ticks q right (Whole (Stands n T₀) u r b)) (parts : Ticks q part (Part (Stands n T₀) u r a b))
    (i : Joins n (Sides r u q (Bits (bit_and left right)) (Bits part)) T₀ T₁ x) (j : Joins n (Sides a u q (Bits left) (Bits (bit_and part right))) T₁ T₂ y)
    (k : Joins n (Sides b u q (Bits right) (Bits (bit_and part left))) T₂ T₃ z) where
  abbrev S : Marks
  S = Stands n T₀

  abbrev Left : ℕ → Type 0
  Left = Whole S u r a

  abbrev Right : ℕ → Type 0
  Right = Whole S u r b

  abbrev Any : ℕ → Type 0
  Any = Part S u r a b

  row_joins : Joins n (Sides r u q (λ t. Left t × Right t) Any) T₀ T₁ x
  row_joins = sides_as r u q (bit_and left right) part (λ t. Left t × Right t) Any (both_ticks q left right Left Right lefts rights) parts i

  left_joins : Joins n (Sides a u q Left (λ t. Any t × Right t)) T₁ T₂ y
  left_joins = sides_as a u q left (bit_and part right) Left (λ t. Any t × Right t) lefts (both_ticks q part right Any Right parts rights) j

  right_joins : Joins n (Sides b u q Right (λ t. Any t × Left t)) T₂ T₃ z
  right_joins = sides_as b u q right (bit_and part left) Right (λ t. Any t × Left t) rights (both_ticks q part left Any Left parts lefts) k

  pub gate_steps : (W : ℕ) → NodeInfers (gate u a b) r (ChangedByGate r a b q x y z) (λ S. SettledIn q W S r (gate u a b)) W n T₀ T₃ (x + (y + z))
  gate_steps W P e =
      let m₁ = word_infers n P W q T₀ r u (λ t. Left t × Right t) Any (λ m h. h) row_joins (λ t h. two (up_both e) (of_left t h.0) (of_right t h.1)) of_any in
      let m₂ = word_infers n P W q T₀ a u Left (λ t. Any t × Right t) m₁.infers.grows left_joins of_left (λ t h. two (rest_left e) (of_any t h.0) (of_right t h.1)) in
      let m₃ = word_infers n P W q T₀ b u Right (λ t. Any t × Left t) (λ m h. m₂.infers.grows m (m₁.infers.grows m h)) right_joins of_right (λ t h. two (rest_right e) (of_any t h.0) (of_left t h.1)) in (
        then n P W m₁ (then n P W m₂ m₃),
        gate_in (above la) (above lb) (ran n T₀ T₁ q r u (λ t. Left t × Right t) Any x row_joins) (ran n T₁ T₂ q a u Left (λ t. Any t × Right t) y left_joins)
            (ran n T₂ T₃ q b u Right (λ t. Any t × Left t) z right_joins),
      )
    where
      of_left : (t : ℕ) → Left t → Derives P W S (mark a t u)
      of_left t = ⊎_elim start (λ h. one (down_left e) (start h))

      of_right : (t : ℕ) → Right t → Derives P W S (mark b t u)
      of_right t = ⊎_elim start (λ h. one (down_right e) (start h))

      of_any : (t : ℕ) → Any t → Derives P W S (mark r t (not u))
      of_any t = ⊎_elim (⊎_elim start (λ h. one (up_left e) (start h))) (λ h. one (up_right e) (start h))

-- A not-row's rules, with its words r₁ and r₀ and its child's c₁ and c₀: of true and of false.
module _ (n q : ℕ) (T₀ T₁ T₂ : List ℕ) (r c x y : ℕ) (l : c < r) {r₁ r₀ c₁ c₀ : ℕ} (own : Reads n T₀ q r true r₁ r₀) (child : Reads n T₀ q c true c₁ c₀)
    (i : Joins n (Sides r true q (Bits c₀) (Bits c₁)) T₀ T₁ x) (j : Joins n (Sides c true q (Bits r₀) (Bits r₁)) T₁ T₂ y) where
  abbrev Is : ℕ → Bool → ℕ → Type 0
  Is z v t = Stands n T₀ (mark z t v)

  abbrev Opposite : ℕ → Bool → Type 0
  Opposite t v = (Stands n T₂ (mark r t v) → Stands n T₂ (mark c t (not v))) × (Stands n T₂ (mark c t v) → Stands n T₂ (mark r t (not v)))

  own_joins : Joins n (Sides r true q (Is c false) (Is c true)) T₀ T₁ x
  own_joins = sides_as r true q c₀ c₁ (Is c false) (Is c true) child.other child.this i

  child_joins : Joins n (Sides c true q (Is r false) (Is r true)) T₁ T₂ y
  child_joins = sides_as c true q r₀ r₁ (Is r false) (Is r true) own.other own.this j

  pub not_steps : (W : ℕ) → NodeInfers (not_of c) r (◌or◌ (ChangedWord r q x) (ChangedWord c q y)) (λ S. SettledIn q W S r (not_of c)) W n T₀ T₂ (x + y)
  not_steps W P e =
      let m = word_infers n P W q T₀ r true (Is c false) (Is c true) (λ m h. h) own_joins (λ t h. one (not_up {v = false} e) (start h)) (λ t h. one (not_up {v = true} e) (start h)) in
      let k = word_infers n P W q T₀ c true (Is r false) (Is r true) m.infers.grows child_joins (λ t h. one (not_down {v = false} e) (start h)) (λ t h. one (not_down {v = true} e) (start h)) in
      let f = ran n T₀ T₁ q r true (Is c false) (Is c true) x own_joins in
      let g = ran n T₁ T₂ q c true (Is r false) (Is r true) y child_joins in
      (then n P W m k, λ t v o. by_value (Opposite t) (not_in (above l) f g t o) (not_in (above l) (turned f) (turned g) t o) v)

-- ---- a look: row r has at a tick what row c has at the offset o from it, written with 64 added

-- What was gathered for word q of row c, in the words g and g₀, with the words b and b₀ joined to them, whose ticks are U.
module _ (c q g g₀ b b₀ : ℕ) (U : Bool → ℕ → Type 0) (f : HoldTicks q U b b₀) where
  abbrev More : Marks
  More = Gathered c q (bit_or g b) (bit_or g₀ b₀)

  kept_there : (m : Mark) → Gathered c q g g₀ m → More m
  kept_there (mark z t v) = ⊎_elim (λ h. inl (h.0, h.1, h.2, or_left g b (t % 64) h.3)) (λ h. inr (h.0, h.1, h.2, or_left g₀ b₀ (t % 64) h.3))

  joined_there : (t : ℕ) (v : Bool) → t / 64 ≡ q → U v t → More (mark c t v)
  joined_there t true e h = inl (refl, refl, e, or_right g b (t % 64) ((here_as c true q b (U true) f.this (mark c t true)).1 (refl, refl, e, h)).3)
  joined_there t false e h = inr (refl, refl, e, or_right g₀ b₀ (t % 64) ((here_as c false q b₀ (U false) f.other (mark c t false)).1 (refl, refl, e, h)).3)

  old_or_joined : (m : Mark) → More m → Gathered c q g g₀ m ⊎ Sides c true q (U true) (U false) m
  old_or_joined (mark z t v) =
      ⊎_elim (λ h. ⊎_elim (λ k. inl (inl (h.0, h.1, h.2, k))) (λ k. inr (inl ((here_as c true q b (U true) f.this (mark z t v)).0 (h.0, h.1, h.2, k)))) (or_out g b (t % 64) h.3))
      (λ h. ⊎_elim (λ k. inl (inr (h.0, h.1, h.2, k))) (λ k. inr (inr ((here_as c false q b₀ (U false) f.other (mark z t v)).0 (h.0, h.1, h.2, k)))) (or_out g₀ b₀ (t % 64) h.3))

-- Its rules between its word p and its child's word q, which the row's ticks of word p look at: the row has its child's ticks, in the words a and a₀,
-- and what it has then is gathered for the child, in the words b and b₀.
module _ (n q e p r c o W : ℕ) (T T' : List ℕ) (x : ℕ) (l : c < r) (at : e ≡ p + o / 64) where
  abbrev Up : Bool → ℕ → Type 0
  Up = FromChild W (Stands n T) o c q

  abbrev Down : Bool → ℕ → Type 0
  Down = FromLook W (Stands n T') o r p

  pub part_steps : (g g₀ : ℕ) {a a₀ b b₀ : ℕ} → HoldTicks p Up a a₀ → Joins n (Sides r true p (Bits a) (Bits a₀)) T T' x → HoldTicks q Down b b₀
      → LookInfers o c r (ChangedWordBefore r (o / 64) e x) (λ S. LookTo (Gathered c q (bit_or g b) (bit_or g₀ b₀)) q e W S r o c) (Gathered c q g g₀) (Gathered c q (bit_or g b) (bit_or g₀ b₀)) W n T T' x
  part_steps g g₀ {a} {a₀} {b} {b₀} f j h P d inside =
      let i = sides_as r true p a a₀ (Up true) (Up false) f.this f.other j in
      let m = sides_infer n P W p T r true (Up true) (Up false) (λ m k. k) i (rises true) (rises false) in
      let ran-up = ran n T T' p r true (Up true) (Up false) x i in (
        weaker n P W x refl wrote m,
        λ t s v y z w k u. let word : t / 64 ≡ p = omega arith in (
          λ have. joined_there c q g g₀ b b₀ Down h s v k (w, (t, word, y, have)),
          by_value (λ v. Stands n T' (mark c s v) → Stands n T' (mark r t v)) (look_in o W (above l) ran-up t s y z word k) (look_in o W (above l) (turned ran-up) t s y z word k) v,
        ),
        record {
          grows = kept_there c q g g₀ b b₀ Down h;
          sound = λ k i. ⊎_elim inl (λ y. inr (falls m k y)) (old_or_joined c q g g₀ b b₀ Down h k i);
        },
      )
    where
      rises : (v : Bool) (t : ℕ) → Up v t → Derives P W (Stands n T) (mark r t v)
      rises v t h = one (look_up {t = t} {s = h.1.0} d h.1.2 h.0 (inside c h.1.0 v h.1.3)) (start h.1.3)

      wrote : (m : Mark) → Sides r true p (Up true) (Up false) m × (0 < x) → ChangedWordBefore r (o / 64) e x m
      wrote (mark z t v) h = ⊎_elim (λ k. (k.0, omega (arith, k.2), h.1)) (λ k. (k.0, omega (arith, k.2), h.1)) h.0

      falls : {A : Marks} → InfersOnly n P W A T T' x → (m : Mark) → Sides c true q (Down true) (Down false) m → Derives P W (Stands n T) m
      falls m (mark z s v) = ⊎_elim (λ h. as_mark h.0 h.1 (down true h.3)) (λ h. as_mark h.0 h.1 (down false h.3))
        where
          as_mark : {w : Bool} → z ≡ c → v ≡ w → Derives P W (Stands n T) (mark c s w) → Derives P W (Stands n T) (mark z s v)
          as_mark y k i = subst₂ (λ (a : ℕ) (b : Bool). Derives P W (Stands n T) (mark a s b)) (sym y) (sym k) i

          down : (w : Bool) → Down w s → Derives P W (Stands n T) (mark c s w)
          down w h = one (look_down {t = h.1.0} {s = s} d h.1.2 (infers_inside m.infers inside r h.1.0 w h.1.3) h.0) (m.infers.sound (mark r h.1.0 w) h.1.3)

-- No tick of the child's word q is looked at from the word e - o / 64.
pub no_steps : (n q : ℕ) (T : List ℕ) (r c o W e : ℕ) (G : Marks) → ((t s : ℕ) → Shifted t o s → t < W → s / 64 ≡ q → e ≡ t / 64 + o / 64 → ⊥)
    → LookInfers o c r (ChangedWordBefore r (o / 64) e 0) (λ S. LookTo G q e W S r o c) G G W n T T 0
no_steps n q T r c o W e G f P g inside =
    (idle n P W (ChangedWordBefore r (o / 64) e 0) T, λ t s v d a b h k. absurd (f t s d a h k), record { grows = λ m h. h; sound = λ m h. inl h })

-- A look's rules: what the row's later word looks at is apart from what the earlier one looks at.
pub look_steps : (n q : ℕ) (T₀ T₁ T₂ : List ℕ) (r c o W x y : ℕ) (G G' G'' : Marks) → c < r
    → LookInfers o c r (ChangedWordBefore r (o / 64) q x) (λ S. LookTo G' q q W S r o c) G G' W n T₀ T₁ x
    → LookInfers o c r (ChangedWordBefore r (o / 64) (q + 1) y) (λ S. LookTo G'' q (q + 1) W S r o c) G' G'' W n T₁ T₂ y
    → LookInfers o c r (ChangedByLook r (o / 64) q x y) (λ S. SettledTo G'' q W S r (look o c)) G G'' W n T₀ T₂ (x + y)
look_steps n q T₀ T₁ T₂ r c o W x y G G' G'' l f g P e inside =
    let m = f P e inside in
    let k = g P e (infers_inside m.0.infers inside) in (
      then n P W m.0 k.0,
      λ t s v d a b h. ⊎_elim (λ i. let z = m.1 t s v d a b h i in (
        λ j. k.2.grows (mark c s v) (z.0 (⊎_elim (λ u. u) (λ u. absurd (omega (arith, u.1))) (k.0.only (mark r t v) j))),
        λ j. k.0.infers.grows (mark r t v) (z.1 (⊎_elim (λ u. u) (λ u. absurd (above l (sym u.0))) (k.0.only (mark c s v) j))),
      )) (λ i. k.1 t s v d a b h i) (word t s d h),
      record {
        grows = λ i j. k.2.grows i (m.2.grows i j);
        sound = λ i j. ⊎_elim (m.2.sound i) (λ u. inr (cut m.0.infers.sound u)) (k.2.sound i j);
      },
    )
  where
    -- the word of a tick that looks at one of word q
    word : (t s : ℕ) → Shifted t o s → s / 64 ≡ q → (q ≡ t / 64 + o / 64) ⊎ (q + 1 ≡ t / 64 + o / 64)
    word t s d h = ⊎_elim (λ z. inl (omega arith)) (λ z. inr (omega arith)) (lt_or_ge (t / 64 + o / 64) (q + 1))
