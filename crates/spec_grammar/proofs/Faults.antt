-- Each refusal of a formula: what stands before it could still become a rule, and the fault is at its place.
-- Assumes nothing.
use mathlib.Core.Path.{◌≡◌, refl, sym, ap, subst, ◌∙◌}
use mathlib.Core.Bool.{Bool, true, false, true≢false}
use mathlib.Core.List.{List, [], ◌∷◌, ◌++◌, append_assoc}
use mathlib.Core.Option as option
use Prim.Native.Nat.{ℕ, zero, suc, ◌+◌, ◌≤◌}
use native.Mathlib.Omega.{arith}
use lib.ListN.{length}
use Rattle.read_bytes.specs.Read.{Read, and_then}
use Rattle.read_bytes.specs.Read.Read.{got, refused}
use Rattle.read_bytes.specs.Bytes.{bytes, peek, pick, one_of, starts}
use Rattle.spec_tilco.specs.Formula.{Op, And, Or, Implies, Iff, Written}
use Rattle.read_parts.specs.FormulaText as reading
use Rattle.read_parts.specs.FormulaText.{Reader, sign_text, repeats, more}
use Rattle.read_parts.proofs.Steps.{sign_some}
use Rattle.spec_grammar.specs.Tokens.{TokenAt, Tokens}
use Rattle.spec_grammar.specs.Grammar.{Part, below, before, keep_word_lem, time_sign, Name, Interval, Is, Declared, Legal}
use Rattle.spec_grammar.specs.RuleFaults.{AnyName, AnyOffsets, OffsetsBegin}
use Rattle.spec_grammar.proofs.Standing.{one_at, tokens_then}
use Rattle.spec_grammar.proofs.Signs.{sign_token, op_sign}
use Rattle.spec_grammar.proofs.Complete.{sign_in, tokens_ahead}
use Rattle.spec_grammar.proofs.Walk.{deep as deeper, loosen, Tests, Joins, Frame, Place, Walks, step, may, walks_then, walks_one, step_op}

-- ---- what may join

unfoldable pub implies : Joins → Bool
implies (Joins.joins a c) = a

unfoldable pub iff : Joins → Bool
iff (Joins.joins a c) = c

-- What may join where a part begins,
abbrev pub Start : Part → Joins → Type 0
Start Part.plain j = Unit {0}
Start Part.timed j = Unit {0}
Start (Part.level And) j = Unit {0}
Start (Part.level Or) j = Unit {0}
Start (Part.level Implies) j = implies j ≡ true
Start (Part.level Iff) j = (implies j ≡ true) × (iff j ≡ true)

-- and what of it may still join where the part has ended.
abbrev pub Kept : Part → Joins → Joins → Type 0
Kept Part.plain j i = i ≡ j
Kept Part.timed j i = i ≡ j
Kept (Part.level And) j i = i ≡ j
Kept (Part.level Or) j i = i ≡ j
Kept (Part.level Implies) j i = iff i ≡ iff j
Kept (Part.level Iff) j i = Unit {0}

start_below : (o : Op) (j : Joins) → Start (Part.level o) j → Start (below o) j
start_below And j h = tt
start_below Or j h = tt
start_below Implies j h = tt
start_below Iff j h = h.0

kept_one : (o : Op) (j i : Joins) → Kept (below o) j i → Kept (Part.level o) j i
kept_one And j i h = h
kept_one Or j i h = h
kept_one Implies j i h = ap iff h
kept_one Iff j i h = tt

-- The sign may come after a first part.
may_first : (o : Op) (j i : Joins) → Start (Part.level o) j → Kept (below o) j i → (k : Joins) × (may o i ≡ option.some k) × Start (below o) k
unfolding implies iff
may_first And j (Joins.joins a c) h e = (Joins.joins a c, refl, tt)
may_first Or j (Joins.joins a c) h e = (Joins.joins a c, refl, tt)
may_first Implies j (Joins.joins a c) h e = (Joins.joins false c, rw (ap implies e ∙ h), tt)
may_first Iff j (Joins.joins a c) h e = (Joins.joins true false, rw (e ∙ h.1), refl)

may_again : (o : Op) → repeats o ≡ true → (i : Joins) → (k : Joins) × (may o i ≡ option.some k) × Start (below o) k
may_again And r (Joins.joins a c) = (Joins.joins a c, refl, tt)
may_again Or r (Joins.joins a c) = (Joins.joins a c, refl, tt)
may_again Implies r i = absurd (true≢false (sym r))
may_again Iff r i = absurd (true≢false (sym r))

kept_sign : (o : Op) (j i k l : Joins) → Kept (Part.level o) j i → may o i ≡ option.some k → Kept (below o) k l → Kept (Part.level o) j l
unfolding iff
kept_sign And j (Joins.joins a c) k l h e m = m ∙ (let z : k ≡ Joins.joins a c = cc in z) ∙ h
kept_sign Or j (Joins.joins a c) k l h e m = m ∙ (let z : k ≡ Joins.joins a c = cc in z) ∙ h
kept_sign Implies j (Joins.joins true c) k l h e m = ap iff m ∙ ap iff (let z : k ≡ Joins.joins false c = cc in z) ∙ h
kept_sign Implies j (Joins.joins false c) k l h e m = let z : ◌≡◌ {A = ℕ} 0 1 = cc in let f : ⊥ = omega arith in absurd f
kept_sign Iff j i k l h e m = tt

-- => and <=> do not come again.
may_not : (o : Op) → repeats o ≡ false → (i k l : Joins) → may o i ≡ option.some k → Kept (below o) k l → may o l ≡ option.none
unfolding iff
may_not And r i k l e m = absurd (true≢false r)
may_not Or r i k l e m = absurd (true≢false r)
may_not Implies r (Joins.joins true c) k (Joins.joins x y) e m =
    let z : Joins.joins x y ≡ Joins.joins false c = m ∙ (let w : k ≡ Joins.joins false c = cc in w) in
    let u : x ≡ false = cc in
    rw u
may_not Implies r (Joins.joins false c) k l e m = let z : ◌≡◌ {A = ℕ} 0 1 = cc in let f : ⊥ = omega arith in absurd f
may_not Iff r (Joins.joins a true) k (Joins.joins x y) e m =
    let w : k ≡ Joins.joins true false = cc in
    let u : y ≡ false = m ∙ ap iff w in
    rw u
may_not Iff r (Joins.joins a false) k l e m = let z : ◌≡◌ {A = ℕ} 0 1 = cc in let f : ⊥ = omega arith in absurd f

-- ---- what could still become a part

-- A part of the kind k begins with the tokens us.
pub record Begin (N : List ℕ → ℕ → Type 0) (I : ℕ → ℕ → ℕ → ℕ → ℕ → ℕ → Type 0) (k : Part) (d : ℕ) (us : List (List ℕ)) : Type 0 where
  pub rest : List (List ℕ)
  pub says : Written
  pub is : Is N I k d (us ++ rest) says

-- The same whatever its names and intervals.
abbrev pub Loose : Part → ℕ → List (List ℕ) → Type 0
Loose = Begin AnyName AnyOffsets

-- What stands before a refusal: a part begins so, but for a word since or until, or an interval, that has just begun.
pub data Before (N : List ℕ → ℕ → Type 0) (I : ℕ → ℕ → ℕ → ℕ → ℕ → ℕ → Type 0) (k : Part) (d : ℕ) : List (List ℕ) → Type 0 where
  whole : {us : List (List ℕ)} → Begin N I k d us → Before N I k d us
  word : {us : List (List ℕ)} (b : Bool) → Begin N I k d us → Before N I k d (us ++ (keep_word_lem b ∷ []))
  offsets : {us ts : List (List ℕ)} (b : Bool) → Begin N I k d us → OffsetsBegin ts → Loose k d (us ++ (time_sign b ∷ ts)) → Before N I k d (us ++ (time_sign b ∷ ts))

map_before : {N : List ℕ → ℕ → Type 0} {I : ℕ → ℕ → ℕ → ℕ → ℕ → ℕ → Type 0} {k l : Part} {d c : ℕ} {ts : List (List ℕ)} (us : List (List ℕ)) → ((ts : List (List ℕ)) → Begin N I k d ts → Begin N I l c (us ++ ts))
    → ((ts : List (List ℕ)) → Loose k d ts → Loose l c (us ++ ts)) → Before N I k d ts → Before N I l c (us ++ ts)
map_before us f g (Before.whole h) = Before.whole (f _ h)
map_before {N} {I} {l = l} {c = c} us f g (Before.word {us = a} b h) = subst (Before N I l c) (append_assoc us a (keep_word_lem b ∷ [])) (Before.word b (f a h))
map_before {N} {I} {l = l} {c = c} us f g (Before.offsets {us = a} {ts = ts} b h i k) =
    let e = append_assoc us a (time_sign b ∷ ts) in
    subst (Before N I l c) e (Before.offsets b (f a h) i (subst (Loose l c) (sym e) (g _ k)))

-- What is asked of names and intervals, and a walk's tests for them. Declared names and legal intervals pass both; some name nm is asked for as ni.
pub record View (names : List (List ℕ)) : Type 1 where
  pub N : List ℕ → ℕ → Type 0
  pub I : ℕ → ℕ → ℕ → ℕ → ℕ → ℕ → Type 0
  pub tests : Tests
  pub named : (w : List ℕ) (i : ℕ) → Declared names w i → N w i × (tests.named w ≡ true)
  pub offsets : (o v w c first more : ℕ) → Legal o v w c first more → I o v w c first more × (tests.offsets o v w c ≡ true)
  pub nm : List ℕ
  pub ni : ℕ
  pub name : Name nm
  pub some : N nm ni

-- The fault n at the place κ, which the walk reaches at y, and what could go on from there: B c us says that tokens us could, with c to be opened.
pub data Hopes (names : List (List ℕ)) (s : List ℕ) (τ : Tests) (e : ℕ) (y : Place) (d : ℕ) (B : ℕ → List (List ℕ) → Type 0) : ℕ → ℕ → Type 0 where
  token : {κ : ℕ} → B (suc d) [] → ((w : List ℕ) (z : Place) → TokenAt s κ w → step τ y w ≡ option.some z → ⊥) → (κ ≡ length s → (b : ℕ) (j : Joins) → y ≡ Place.after b j [] → ⊥) → Hopes names s τ e y d B 5 κ
  name : {κ : ℕ} {w : List ℕ} → TokenAt s κ w → Name w → ((i : ℕ) → Declared names w i → ⊥) → B d (w ∷ []) → Hopes names s τ e y d B 6 κ
  offsets : {κ q o v w c : ℕ} {ws : List (List ℕ)} → Tokens s q κ ws → Interval ws o v w c → ((first more : ℕ) → Legal o v w c first more → ⊥) → B d ws → Hopes names s τ e y d B 7 κ
  deep : {κ o : ℕ} → one_of o (bytes "(!") ≡ true → TokenAt s κ (o ∷ []) → B (suc d) ((o ∷ []) ∷ []) → (e ≡ 0 → (z : Place) → step τ y (o ∷ []) ≡ option.some z → ⊥) → Hopes names s τ e y d B 8 κ

pub map_hopes : {names : List (List ℕ)} {s : List ℕ} {τ : Tests} {e : ℕ} {y : Place} {d c n κ : ℕ} (B C : ℕ → List (List ℕ) → Type 0) → ((ts : List (List ℕ)) → B d ts → C c ts) → ((ts : List (List ℕ)) → B (suc d) ts → C (suc c) ts)
    → Hopes names s τ e y d B n κ → Hopes names s τ e y c C n κ
map_hopes B C f g (Hopes.token h k l) = Hopes.token (g [] h) k l
map_hopes B C f g (Hopes.name {w = w} t n u h) = Hopes.name t n u (f (w ∷ []) h)
map_hopes B C f g (Hopes.offsets {ws = ws} t i l h) = Hopes.offsets t i l (f ws h)
map_hopes B C f g (Hopes.deep {o = o} m t k l) = Hopes.deep m t (g ((o ∷ []) ∷ []) k) l

-- Nothing at q goes on with the part.
abbrev pub Shut : Op → List ℕ → Joins → ℕ → Type 0
Shut o s i q = starts s q (sign_text o) ≡ true → may o i ≡ option.none

abbrev pub Quiet : Part → List ℕ → Joins → ℕ → Type 0
Quiet Part.plain s i q = Unit {0}
Quiet Part.timed s i q = one_of (peek s q) (bytes "@?") ≡ false
Quiet (Part.level And) s i q = (one_of (peek s q) (bytes "@?") ≡ false) × Shut And s i q
Quiet (Part.level Or) s i q = ((one_of (peek s q) (bytes "@?") ≡ false) × Shut And s i q) × Shut Or s i q
Quiet (Part.level Implies) s i q = (((one_of (peek s q) (bytes "@?") ≡ false) × Shut And s i q) × Shut Or s i q) × Shut Implies s i q
Quiet (Part.level Iff) s i q = ((((one_of (peek s q) (bytes "@?") ≡ false) × Shut And s i q) × Shut Or s i q) × Shut Implies s i q) × Shut Iff s i q

quiet_level : (o : Op) (s : List ℕ) (i : Joins) (q : ℕ) → Quiet (below o) s i q → Shut o s i q → Quiet (Part.level o) s i q
quiet_level And s i q h k = (h, k)
quiet_level Or s i q h k = (h, k)
quiet_level Implies s i q h k = (h, k)
quiet_level Iff s i q h k = (h, k)

-- ---- answers

-- A refusal inside a part of the kind k from p on, walked from x.
pub record Bad {names : List (List ℕ)} (s : List ℕ) (ν : View names) (e : ℕ) (x : Place) (k : Part) (d p n κ : ℕ) : Type 0 where
  pub tokens : List (List ℕ)
  pub stand : Tokens s κ p tokens
  pub at : Place
  pub walks : Walks ν.tests x tokens at
  pub before : Before ν.N ν.I k d tokens
  pub hopes : Hopes names s ν.tests e at d (λ c ts. Loose k c (tokens ++ ts)) n κ

-- The part f from p to q, walked to its end.
pub record Good {names : List (List ℕ)} (s : List ℕ) (ν : View names) (b r : ℕ) (j : Joins) (st : List Frame) (k : Part) (d p q : ℕ) (f : Written) : Type 0 where
  pub tokens : List (List ℕ)
  pub stand : Tokens s q p tokens
  pub is : Is ν.N ν.I k d tokens f
  pub left : Joins
  pub walks : Walks ν.tests (Place.want b r j st) tokens (Place.after b left st)
  pub kept : Kept k j left
  pub quiet : Quiet k s left q

pub data Out {names : List (List ℕ)} (s : List ℕ) (ν : View names) (e b r : ℕ) (j : Joins) (st : List Frame) (k : Part) (d p : ℕ) : Read Written → Type 0 where
  good : {f : Written} {q : ℕ} → Good s ν b r j st k d p q f → Out s ν e b r j st k d p (got f q)
  bad : {n κ : ℕ} → Bad s ν e (Place.want b r j st) k d p n κ → Out s ν e b r j st k d p (refused n κ)

module _ {names : List (List ℕ)} (s : List ℕ) (ν : View names) (e : ℕ) where
  -- What begins after the tokens us begins with them.
  pub lift : {x y : Place} {k l : Part} {d c p q n κ : ℕ} (us : List (List ℕ)) → Tokens s q p us → Walks ν.tests x us y
      → ((ts : List (List ℕ)) → Begin ν.N ν.I k d ts → Begin ν.N ν.I l c (us ++ ts)) → ((ts : List (List ℕ)) → Loose k d ts → Loose l c (us ++ ts))
      → ((ts : List (List ℕ)) → Loose k (suc d) ts → Loose l (suc c) (us ++ ts)) → Bad s ν e y k d q n κ → Bad s ν e x l c p n κ
  lift {k = k} {l} {d} {c} us t w m f g b =
      record {
        tokens = us ++ b.tokens;
        stand = tokens_then us t b.stand;
        at = b.at;
        walks = walks_then w b.walks;
        before = map_before us m f b.before;
        hopes = map_hopes _ _ (λ ts h. again c ts (f (b.tokens ++ ts) h)) (λ ts h. again (suc c) ts (g (b.tokens ++ ts) h)) b.hopes;
      }
    where
      again : (c : ℕ) (ts : List (List ℕ)) → Loose l c (us ++ (b.tokens ++ ts)) → Loose l c ((us ++ b.tokens) ++ ts)
      again c ts h = subst (Loose l c) (sym (append_assoc us b.tokens ts)) h

  -- The same, where only the kind of the part changes.
  pub as_kind : {x : Place} {k l : Part} {d p n κ : ℕ} → ((N : List ℕ → ℕ → Type 0) (I : ℕ → ℕ → ℕ → ℕ → ℕ → ℕ → Type 0) (c : ℕ) (ws : List (List ℕ)) (f : Written) → Is N I k c ws f → Is N I l c ws f)
      → Bad s ν e x k d p n κ → Bad s ν e x l d p n κ
  as_kind {k = k} {l} {d} f b = lift [] Tokens.none Walks.stop (λ ts h. to ν.N ν.I h) (λ ts h. to AnyName AnyOffsets h) (λ ts h. to AnyName AnyOffsets h) b
    where
      to : (N : List ℕ → ℕ → Type 0) (I : ℕ → ℕ → ℕ → ℕ → ℕ → ℕ → Type 0) {c : ℕ} {ts : List (List ℕ)} → Begin N I k c ts → Begin N I l c ts
      to N I {c} h = record { rest = h.rest; says = h.says; is = f N I c _ h.says h.is }

  -- ---- the levels

  module _ (o : Op) (d : ℕ) (P : Reader) (sub : (p : ℕ) (j : Joins) (st : List Frame) → Start (below o) j → Out s ν e (e + d) (e + d) j st (below o) d p (P p)) where
    -- What stands before a sign.
    record Led (j : Joins) (st : List Frame) (p q : ℕ) (f : Written) : Type 0 where
      tokens : List (List ℕ)
      stand : Tokens s q p tokens
      is : Is ν.N ν.I (before o) d tokens f
      left : Joins
      walks : Walks ν.tests (Place.want (e + d) (e + d) j st) tokens (Place.after (e + d) left st)
      kept : Kept (Part.level o) j left
      quiet : Quiet (below o) s left q
      next : (k : Joins) × (may o left ≡ option.some k) × Start (below o) k

    ends : {c : ℕ} {ws : List (List ℕ)} {f : Written} → Is ν.N ν.I (before o) c ws f → Is ν.N ν.I (Part.level o) c ws f
    ends {c} {ws} {f} = go (repeats o)
      where
        go : (b : Bool) → Is ν.N ν.I (pick b (λ _. Part.level o) (below o)) c ws f → Is ν.N ν.I (Part.level o) c ws f
        go true h = h
        go false h = Is.one o h

    begins : {c : ℕ} {ws : List (List ℕ)} {f : Written} → Is ν.N ν.I (below o) c ws f → Is ν.N ν.I (before o) c ws f
    begins {c} {ws} {f} h = go (repeats o)
      where
        go : (b : Bool) → Is ν.N ν.I (pick b (λ _. Part.level o) (below o)) c ws f
        go true = Is.one o h
        go false = h

    ended : {j : Joins} {st : List Frame} {p q : ℕ} {f : Written} → Led j st p q f → starts s q (sign_text o) ≡ false → Out s ν e (e + d) (e + d) j st (Part.level o) d p (got f q)
    ended {q = q} a t =
        good (record { tokens = a.tokens; stand = a.stand; is = ends a.is; left = a.left; walks = a.walks; kept = a.kept; quiet = quiet_level o s a.left q a.quiet (λ h. absurd (true≢false (sym h ∙ t))) })

    -- The step over the sign.
    signed : {j : Joins} {st : List Frame} {p q : ℕ} {f : Written} (a : Led j st p q f) → step ν.tests (Place.after (e + d) a.left st) (sign_text o) ≡ option.some (Place.want (e + d) (e + d) a.next.0 st)
    signed {st = st} a = step_op ν.tests (e + d) a.left st o ∙ rw a.next.1

    -- A refusal after the sign.
    sign_bad : {j : Joins} {st : List Frame} {p q n κ : ℕ} {f : Written} (a : Led j st p q f) → starts s q (sign_text o) ≡ true → Bad s ν e (Place.want (e + d) (e + d) a.next.0 st) (below o) d (q + length (sign_text o)) n κ
        → Bad s ν e (Place.want (e + d) (e + d) j st) (Part.level o) d p n κ
    sign_bad {q = q} {f = f} a t b =
        lift (a.tokens ++ (sign_text o ∷ [])) (tokens_then a.tokens a.stand (one_at (sign_token s q (op_sign o) t) refl)) (walks_then a.walks (walks_one (signed a)))
        (λ ts h. to ν.N ν.I a.is h) (λ ts h. to AnyName AnyOffsets loose h) (λ ts h. to AnyName AnyOffsets (deeper AnyName AnyOffsets loose) h) b
      where
        loose : Is AnyName AnyOffsets (before o) d a.tokens f
        loose = loosen ν.N ν.I a.is

        to : (N : List ℕ → ℕ → Type 0) (I : ℕ → ℕ → ℕ → ℕ → ℕ → ℕ → Type 0) {c : ℕ} {ts : List (List ℕ)} → Is N I (before o) c a.tokens f → Begin N I (below o) c ts
            → Begin N I (Part.level o) c ((a.tokens ++ (sign_text o ∷ [])) ++ ts)
        to N I {c} {ts} i h =
            record {
              rest = h.rest;
              says = Written.pair o f h.says;
              is =
                  subst (λ z. Is N I (Part.level o) c z (Written.pair o f h.says))
                  (sym (ap (λ z. z ++ h.rest) (append_assoc a.tokens (sign_text o ∷ []) ts) ∙ append_assoc a.tokens (sign_text o ∷ ts) h.rest))
                  (Is.join o i h.is);
            }

    -- The sign and its part: more may follow, or not.
    module _ {j : Joins} {st : List Frame} {p q r : ℕ} {f g : Written} (a : Led j st p q f) (t : starts s q (sign_text o) ≡ true) (b : Good s ν (e + d) (e + d) a.next.0 st (below o) d (q + length (sign_text o)) r g) where
      sign_stand : Tokens s r p (a.tokens ++ (sign_text o ∷ b.tokens))
      sign_stand = tokens_then a.tokens a.stand (Tokens.next (sign_token s q (op_sign o) t) b.stand)

      sign_walks : Walks ν.tests (Place.want (e + d) (e + d) j st) (a.tokens ++ (sign_text o ∷ b.tokens)) (Place.after (e + d) b.left st)
      sign_walks = walks_then a.walks (Walks.next (signed a) b.walks)

      sign_kept : Kept (Part.level o) j b.left
      sign_kept = kept_sign o j a.left a.next.0 b.left a.kept a.next.1 b.kept

      sign_led : repeats o ≡ true → Led j st p r (Written.pair o f g)
      sign_led i =
          record {
            tokens = a.tokens ++ (sign_text o ∷ b.tokens);
            stand = sign_stand;
            is = subst (λ c. Is ν.N ν.I (pick c (λ _. Part.level o) (below o)) d (a.tokens ++ (sign_text o ∷ b.tokens)) (Written.pair o f g)) (sym i) (Is.join o a.is b.is);
            left = b.left;
            walks = sign_walks;
            kept = sign_kept;
            quiet = b.quiet;
            next = may_again o i b.left;
          }

      sign_ended : repeats o ≡ false → Good s ν (e + d) (e + d) j st (Part.level o) d p r (Written.pair o f g)
      sign_ended i =
          record {
            tokens = a.tokens ++ (sign_text o ∷ b.tokens);
            stand = sign_stand;
            is = Is.join o a.is b.is;
            left = b.left;
            walks = sign_walks;
            kept = sign_kept;
            quiet = quiet_level o s b.left r b.quiet (λ h. may_not o i a.left a.next.0 b.left a.next.1 b.kept);
          }

    no_sign : (q : ℕ) → length s ≤ q → starts s q (sign_text o) ≡ false
    no_sign q l = go (starts s q (sign_text o)) refl
      where
        go : (b : Bool) → starts s q (sign_text o) ≡ b → starts s q (sign_text o) ≡ false
        go true i = let k = sign_in o s q i in let z : ⊥ = omega arith in absurd z
        go false i = i

    more_out : (n p q : ℕ) (f : Written) (j : Joins) (st : List Frame) → length s ≤ q + n → Led j st p q f → Out s ν e (e + d) (e + d) j st (Part.level o) d p (more o P s n f q)
    unfolding more
    more_out zero p q f j st l a = ended a (no_sign q (omega arith))
    more_out (suc n) p q f j st l a = go (starts s q (sign_text o)) refl (λ r x k b. more_out n p r x j st k b)
      where
        go : (b : Bool) → starts s q (sign_text o) ≡ b → ((r : ℕ) (x : Written) → length s ≤ r + n → Led j st p r x → Out s ν e (e + d) (e + d) j st (Part.level o) d p (more o P s n x r))
            → Out s ν e (e + d) (e + d) j st (Part.level o) d p (pick (starts s q (sign_text o)) (λ _. and_then (P (q + length (sign_text o))) (λ g r. pick (repeats o) (λ _. more o P s n (Written.pair o f g) r) (got (Written.pair o f g) r))) (got f q))
        go true t k = rw t (on (P (q + length (sign_text o))) (sub (q + length (sign_text o)) a.next.0 st a.next.2))
          where
            on : (R : Read Written) → Out s ν e (e + d) (e + d) a.next.0 st (below o) d (q + length (sign_text o)) R
                → Out s ν e (e + d) (e + d) j st (Part.level o) d p (and_then R (λ g r. pick (repeats o) (λ _. more o P s n (Written.pair o f g) r) (got (Written.pair o f g) r)))
            on _ (Out.bad b) = Out.bad (sign_bad a t b)
            on _ (Out.good {f = g} {q = r} b) = by (repeats o) refl
              where
                by : (c : Bool) → repeats o ≡ c → Out s ν e (e + d) (e + d) j st (Part.level o) d p (pick (repeats o) (λ _. more o P s n (Written.pair o f g) r) (got (Written.pair o f g) r))
                by true i = rw i (k r (Written.pair o f g) (let m = tokens_ahead b.tokens b.stand in let x = sign_some o in omega arith) (sign_led a t b i))
                by false i = rw i (Out.good (sign_ended a t b i))
        go false t k = rw t (ended a t)

    pub level_out : (p : ℕ) (j : Joins) (st : List Frame) → Start (Part.level o) j → Out s ν e (e + d) (e + d) j st (Part.level o) d p (reading.level o P s p)
    unfolding reading.level
    level_out p j st h = go (P p) (sub p j st (start_below o j h))
      where
        go : (R : Read Written) → Out s ν e (e + d) (e + d) j st (below o) d p R → Out s ν e (e + d) (e + d) j st (Part.level o) d p (and_then R (λ f q. more o P s (length s) f q))
        go _ (Out.bad b) = Out.bad (as_kind (λ N I c ws f i. Is.one o i) b)
        go _ (Out.good {f = f} {q = q} a) =
            more_out (length s) p q f j st (omega arith)
            (record {
              tokens = a.tokens;
              stand = a.stand;
              is = begins a.is;
              left = a.left;
              walks = a.walks;
              kept = kept_one o j a.left a.kept;
              quiet = a.quiet;
              next = may_first o j a.left h a.kept;
            })
