-- A walk that asks: the names that it goes over pass its test, and so do the intervals.
-- Assumes nothing.
use mathlib.Core.Path.{◌≡◌, refl, sym, ap, subst, ◌∙◌}
use mathlib.Core.Bool.{Bool, true, false, true≢false}
use mathlib.Core.Logic.{inl, inr, ⊎_elim}
use mathlib.Core.List.{List, [], ◌∷◌}
use mathlib.Core.Option.{Option, none, some}
use Prim.Native.Nat.{ℕ, zero, suc}
use borrow.Author.Tests.{eqb-true}
use lib.Dec.{eqb}
use Rattle.read_bytes.specs.Bytes.{byte, bytes, pick, one_of, letter, digit}
use Rattle.read_names.specs.Spellings.{same_text_lem}
use Rattle.spec_tilco.specs.Lists.{All}
use Rattle.spec_grammar.specs.Tokens.{End}
use Rattle.spec_grammar.specs.Grammar.{Name, Interval}
use Rattle.spec_grammar.proofs.Signs.{letter_no_end}
use Rattle.spec_grammar.proofs.Walk.{Tests, Upto, Joins, Frame, Place, Walks, first_of, other_text, word_letter, end_byte, end_byte_lem, opened, step, walks_first, walks_cut, walks_one, step_first, step_comma, step_last}
use Rattle.spec_grammar.proofs.TimedFaults.{none_not, or_in}
use Rattle.spec_grammar.proofs.PlainFaults.{stuck_want}

-- A test was passed.
passed : {A : Type 0} {z : A} (b : Bool) (o : Option A) → pick b (λ _. o) none ≡ some z → (b ≡ true) × (o ≡ some z)
passed true o e = (refl, e)
passed false o e = absurd (none_not e)

-- One of bytes of which none passes a test.
pub none_of : (P : ℕ → Bool) (b : ℕ) (l : List ℕ) → All (λ x. P x ≡ false) l → P b ≡ true → one_of b l ≡ true → ⊥
none_of P b [] h k e = true≢false (sym e)
none_of P b (x ∷ l) h k e = ⊎_elim (λ i. true≢false (sym k ∙ ap P (eqb-true b x i) ∙ h.0)) (λ i. none_of P b l h.1 k i) (or_in (eqb b x) (one_of b l) e)

-- Two texts whose first bytes a test tells apart.
differ : (P : ℕ → Bool) (w x : List ℕ) → P (first_of w) ≡ true → P (first_of x) ≡ false → same_text_lem w x ≡ false
differ P w x h k = other_text w x (λ e. true≢false (sym h ∙ ap (λ y. P (first_of y)) e ∙ k))

-- ---- names

pub name_letter : {w : List ℕ} → Name w → letter (first_of w) ≡ true
name_letter n = word_letter n.word

-- No end starts with a letter.
pub end_no_letter : (b : ℕ) → letter b ≡ true → end_byte b ≡ true → ⊥
end_no_letter b l e = letter_no_end b l (⊎_elim (λ d. inl d) (λ m. inr (eqb-true b (byte "-") m)) (or_in (digit b) (eqb b (byte "-")) e))

pub name_known : (τ : Tests) (y z : Place) {w : List ℕ} → Name w → step τ y w ≡ some z → τ.named w ≡ true
unfolding step
name_known τ (Place.want b r j st) z {w} n k =
    (passed (τ.named w) _ (rw (name_letter n, other_text w (bytes "since") n.not_since, other_text w (bytes "until") n.not_until) at k)).0
name_known τ (Place.call b r j st) z {w} n k = absurd (none_not (rw (differ letter w (bytes "(") (name_letter n) refl) at k))
name_known τ (Place.after b j st) z {w} n k =
    let d : (x : List ℕ) → letter (first_of x) ≡ false → same_text_lem w x ≡ false = λ x h. differ letter w x (name_letter n) h in
    absurd
    (none_not
    (rw (d (bytes "@") refl, d (bytes "?") refl, d (bytes "&") refl, d (bytes "|") refl, d (bytes "=>") refl, d (bytes "<=>") refl, d (bytes ")") refl, d (bytes ",") refl) at k))
name_known τ (Place.offsets Upto.start b j st) z {w} n k = absurd (none_of letter (first_of w) (bytes "[(") (refl, (refl, tt)) (name_letter n) (passed _ _ k).0)
name_known τ (Place.offsets (Upto.bracket o) b j st) z {w} n k = absurd (end_no_letter (first_of w) (name_letter n) (passed _ _ k).0)
name_known τ (Place.offsets (Upto.low o v) b j st) z {w} n k = absurd (true≢false (sym (name_letter n) ∙ ap letter (eqb-true (first_of w) (byte ",") (passed _ _ k).0)))
name_known τ (Place.offsets (Upto.comma o v) b j st) z {w} n k = absurd (end_no_letter (first_of w) (name_letter n) (passed _ _ k).0)
name_known τ (Place.offsets (Upto.high o v x) b j st) z {w} n k = absurd (none_of letter (first_of w) (bytes "])") (refl, (refl, tt)) (name_letter n) (passed _ _ k).0)

-- ---- intervals

-- After an opening bracket an end comes next, or a plain part is wanted.
data Opened (o : ℕ) : Place → Type 0 where
  offsets : {b : ℕ} {j : Joins} {st : List Frame} → Opened o (Place.offsets (Upto.bracket o) b j st)
  want : {b r : ℕ} {j : Joins} {st : List Frame} → Opened o (Place.want b r j st)

-- By the two brackets.
by_bracket : (P : ℕ → Type 0) → P (byte "[") → P (byte "(") → (o : ℕ) → one_of o (bytes "[(") ≡ true → P o
by_bracket P x y o e = go (eqb o (byte "[")) refl (eqb o (byte "(")) refl
  where
    go : (b : Bool) → eqb o (byte "[") ≡ b → (c : Bool) → eqb o (byte "(") ≡ c → P o
    go true i c j = subst P (sym (eqb-true o (byte "[") i)) x
    go false i true j = subst P (sym (eqb-true o (byte "(") j)) y
    go false i false j = absurd (true≢false (sym (rw (i, j) at e)))

opened_is : (τ : Tests) (y z : Place) (o : ℕ) → one_of o (bytes "[(") ≡ true → step τ y (o ∷ []) ≡ some z → Opened o z
unfolding step same_text_lem
opened_is τ y z o h = by_bracket (λ o. step τ y (o ∷ []) ≡ some z → Opened o z) (square y) (round y) o h
  where
    is : {o : ℕ} {x : Place} → Opened o x → ◌≡◌ {A = Option Place} (some x) (some z) → Opened o z
    is {o} {x} h e = subst (Opened o) (let i : x ≡ z = cc in i) h

    more : {o : ℕ} (r : ℕ) (k : ℕ → Place) → ((q : ℕ) → Opened o (k q)) → opened r k ≡ some z → Opened o z
    more zero k h e = absurd (none_not e)
    more (suc r) k h e = is (h r) e

    square : (y : Place) → step τ y (bytes "[") ≡ some z → Opened (byte "[") z
    square (Place.want b r j st) e = absurd (none_not e)
    square (Place.call b r j st) e = absurd (none_not e)
    square (Place.after b j st) e = absurd (none_not e)
    square (Place.offsets Upto.start b j st) e = is offsets e
    square (Place.offsets (Upto.bracket o) b j st) e = absurd (none_not e)
    square (Place.offsets (Upto.low o v) b j st) e = absurd (none_not e)
    square (Place.offsets (Upto.comma o v) b j st) e = absurd (none_not e)
    square (Place.offsets (Upto.high o v x) b j st) e = absurd (none_not e)

    round : (y : Place) → step τ y (bytes "(") ≡ some z → Opened (byte "(") z
    round (Place.want b r j st) e = more r _ (λ q. want) e
    round (Place.call b r j st) e = more r _ (λ q. want) e
    round (Place.after b j st) e = absurd (none_not e)
    round (Place.offsets Upto.start b j st) e = is offsets e
    round (Place.offsets (Upto.bracket o) b j st) e = absurd (none_not e)
    round (Place.offsets (Upto.low o v) b j st) e = absurd (none_not e)
    round (Place.offsets (Upto.comma o v) b j st) e = absurd (none_not e)
    round (Place.offsets (Upto.high o v x) b j st) e = absurd (none_not e)

-- An end is no plain part's first token.
end_unwanted : (τ : Tests) (b r : ℕ) (j : Joins) (st : List Frame) {x : List ℕ} {v : ℕ} (z : Place) → End x v → step τ (Place.want b r j st) x ≡ some z → ⊥
end_unwanted τ b r j st {x} z k = stuck_want τ b r j st x z (go (letter (first_of x)) refl) (λ e. true≢false (sym (end_byte_lem k) ∙ ap (λ y. end_byte (first_of y)) e)) (λ e. true≢false (sym (end_byte_lem k) ∙ ap (λ y. end_byte (first_of y)) e))
  where
    go : (c : Bool) → letter (first_of x) ≡ c → letter (first_of x) ≡ false
    go true i = absurd (end_no_letter (first_of x) i (end_byte_lem k))
    go false i = i

closes_known : (τ : Tests) (o v w c b : ℕ) (j : Joins) (st : List Frame) (z : Place) → step τ (Place.offsets (Upto.high o v w) b j st) (c ∷ []) ≡ some z → τ.offsets o v w c ≡ true
unfolding step
closes_known τ o v w c b j st z e = (passed (τ.offsets o v w c) _ (passed (one_of c (bytes "])")) _ e).1).0

pub offsets_known : (τ : Tests) {y z : Place} {ws : List (List ℕ)} {o v w c : ℕ} → Interval ws o v w c → Walks τ y ws z → τ.offsets o v w c ≡ true
offsets_known τ {y} {z} (Interval.interval {o} {c} {v} {w} {x} {y = t} ho kx ky hc) h =
    let a = walks_first h in
    go (opened_is τ y a.0 o ho a.1) a.2
  where
    go : {y : Place} → Opened o y → Walks τ y (x ∷ bytes "," ∷ t ∷ (c ∷ []) ∷ []) z → τ.offsets o v w c ≡ true
    go (Opened.offsets {b} {j} {st}) k =
        let n = walks_cut (x ∷ bytes "," ∷ t ∷ []) (Walks.next (step_first τ b j st o kx) (Walks.next (step_comma τ b j st o v) (walks_one (step_last τ b j st o v ky)))) k in
        let a = walks_first n in
        closes_known τ o v w c b j st a.0 a.1
    go (Opened.want {b} {r} {j} {st}) k = let a = walks_first k in absurd (end_unwanted τ b r j st a.0 kx a.1)
