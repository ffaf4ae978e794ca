-- At one place one thing is wrong at most, and nothing is wrong before a place up to which a rule is clean.
-- Assumes nothing.
use mathlib.Core.Path.{◌≡◌, refl, sym, ap, subst, ◌∙◌}
use mathlib.Core.Bool.{Bool, true, false, true≢false, ◌||◌}
use mathlib.Core.Logic.{◌⊎◌, inl, inr, ⊎_elim}
use mathlib.Core.List.{List, [], ◌∷◌, ◌++◌, append_assoc}
use mathlib.Core.Option.{some}
use Prim.Native.Nat.{ℕ, suc, ◌≤◌, ◌<◌}
use native.Mathlib.Omega.{arith}
use native.Mathlib.Decide.{dec_lt}
use borrow.Author.Tests.{eqb-true, ltb-true, lt-ltb}
use lib.Dec.{eqb, ltb}
use lib.ListN.{length}
use Rattle.spec_limits.specs.Limits.{most_open}
use Rattle.read_bytes.specs.Bytes.{bytes, one_of, letter}
use Rattle.read_names.specs.Spellings.{find_name}
use Rattle.spec_tilco.specs.Lists.{All}
use Rattle.std.specs.Prelude.{Ok, Err}
use Rattle.read_interval.specs.Interval.{Offsets}
use Rattle.read_interval.specs.Interval.{offsets_of}
use Rattle.spec_grammar.specs.Tokens.{End, TokenAt, Tokens}
use Rattle.spec_grammar.specs.Grammar.{formula, keep_word_lem, Name, Interval, Is, Declared, Legal}
use Rattle.spec_grammar.specs.RuleFaults.{AnyName, AnyOffsets, Begins, Wrong}
use Rattle.spec_grammar.proofs.Standing.{token_one, next_is, tokens_then}
use Rattle.spec_grammar.proofs.Offsets.{OffsetsAre, offsets_are, legal_offsets}
use Rattle.spec_grammar.proofs.Walk.{Tests, fresh, Place, Walks, first_of, end_byte, end_byte_lem, step, walks_first, walks_part, deep}
use Rattle.spec_grammar.proofs.Faults.{Begin, Before}
use Rattle.spec_grammar.proofs.TimedFaults.{or_in}
use Rattle.spec_grammar.proofs.TokenPlaces.{tokens_upto, tokens_one, tokens_past}
use Rattle.spec_grammar.proofs.Known.{none_of, name_letter, end_no_letter, name_known, offsets_known}

-- ---- the tests for declared names and legal intervals

is_over : Offsets → Bool
is_over (Ok x) = true
is_over (Err r) = false

pub strict : List (List ℕ) → Tests
strict names = record { named = λ w. ltb (find_name w names) (length names); offsets = λ o v w c. is_over (offsets_of 0 o v w c 0) }

module _ (names : List (List ℕ)) where
  pub declared_passes : (w : List ℕ) (i : ℕ) → Declared names w i → (strict names).named w ≡ true
  unfolding strict
  declared_passes w i d = lt-ltb (find_name w names) (length names) (let e = d.found in let l = d.declared in omega arith)

  passes_declared : (w : List ℕ) → (strict names).named w ≡ true → Declared names w (find_name w names)
  unfolding strict
  passes_declared w e = record { found = refl; declared = ltb-true (find_name w names) (length names) e }

  pub legal_passes : (o v w c first more : ℕ) → Legal o v w c first more → (strict names).offsets o v w c ≡ true
  unfolding strict is_over
  legal_passes o v w c first more l = rw (legal_offsets 0 o v w c 0 l)

  passes_legal : (o v w c : ℕ) → (strict names).offsets o v w c ≡ true → ((first more : ℕ) → Legal o v w c first more → ⊥) → ⊥
  unfolding strict is_over
  passes_legal o v w c e n = go (offsets_are 0 o v w c 0) e
    where
      go : {S : Offsets} → OffsetsAre 0 o v w c 0 S → is_over S ≡ true → ⊥
      go (OffsetsAre.legal {first = x} {more = y} l) f = n x y l
      go (OffsetsAre.illegal k) f = true≢false (sym f)

-- ---- lists

-- What begins a formula with more tokens begins one.
pub begins_front : {d : ℕ} (a b : List (List ℕ)) → Begins d (a ++ b) → Begins d a
begins_front {d} a b h = record { rest = b ++ h.rest; says = h.says; is = subst (λ z. Is AnyName AnyOffsets formula d z h.says) (append_assoc a b h.rest) h.is }

begins_one : {d : ℕ} (us : List (List ℕ)) (w : List ℕ) (ws : List (List ℕ)) → Begins d (us ++ (w ∷ ws)) → Begins d (us ++ (w ∷ []))
begins_one {d} us w ws h = begins_front (us ++ (w ∷ [])) ws (subst (Begins d) (sym (append_assoc us (w ∷ []) ws)) h)

begins_deep : {us : List (List ℕ)} → Begins most_open us → Begins (suc most_open) us
begins_deep h = record { rest = h.rest; says = h.says; is = deep AnyName AnyOffsets h.is }

-- The last token of a list is the one before the rest, or stands in the rest.
last_split : (a us : List (List ℕ)) (x w : List ℕ) (ws : List (List ℕ)) → a ++ (x ∷ []) ≡ us ++ (w ∷ ws) → (x ≡ w) ⊎ ((r : List (List ℕ)) × (a ≡ us ++ (w ∷ r)))
last_split [] [] x w ws e = inl (let i : x ≡ w = cc in i)
last_split [] (u ∷ us) x w ws e = let i : [] ≡ us ++ (w ∷ ws) = cc in absurd (none us i)
  where
    none : (us : List (List ℕ)) → [] ≡ us ++ (w ∷ ws) → ⊥
    none [] i = let z : ◌≡◌ {A = ℕ} 0 1 = cc in omega arith
    none (u ∷ us) i = let z : ◌≡◌ {A = ℕ} 0 1 = cc in omega arith
last_split (y ∷ a) [] x w ws e = inr (a, (let i : y ≡ w = cc in ap (λ z. z ∷ a) i))
last_split (y ∷ a) (u ∷ us) x w ws e =
    let i : y ≡ u = cc in
    let j : a ++ (x ∷ []) ≡ us ++ (w ∷ ws) = cc in
    ⊎_elim (λ k. inl k) (λ k. inr (k.0, (let l = k.1 in let m : y ∷ a ≡ u ∷ (us ++ (w ∷ k.0)) = cc in m))) (last_split a us x w ws j)

front_same : (us : List (List ℕ)) {a b : List (List ℕ)} → us ++ a ≡ us ++ b → a ≡ b
front_same [] e = e
front_same (u ∷ us) {a} {b} e = front_same us (let z : us ++ a ≡ us ++ b = cc in z)

all_at : (P : List ℕ → Type 0) (r : List (List ℕ)) (t : List ℕ) (ts : List (List ℕ)) → All P (r ++ (t ∷ ts)) → P t
all_at P [] t ts h = h.0
all_at P (x ∷ r) t ts h = all_at P r t ts h.1

-- ---- what may stand where a fault is

-- Does a plain part or an interval start with this byte?
abbrev pub starter : ℕ → Bool
starter b = letter b || one_of b (bytes "([!")

end_starts : {x : List ℕ} {v : ℕ} → End x v → starter (first_of x) ≡ true → ⊥
end_starts {x} k h =
    ⊎_elim (λ l. end_no_letter (first_of x) l (end_byte_lem k)) (λ m. none_of end_byte (first_of x) (bytes "([!") (refl, (refl, (refl, tt))) (end_byte_lem k) m)
    (or_in (letter (first_of x)) (one_of (first_of x) (bytes "([!")) h)

close_starts : (c : ℕ) → one_of c (bytes "])") ≡ true → starter c ≡ true → ⊥
close_starts c k h =
    ⊎_elim (λ l. none_of letter c (bytes "])") (refl, (refl, tt)) l k) (λ m. none_of (λ b. one_of b (bytes "([!")) c (bytes "])") (refl, (refl, tt)) m k)
    (or_in (letter c) (one_of c (bytes "([!")) h)

letter_starts : (b : ℕ) → letter b ≡ true → starter b ≡ true
letter_starts b e = rw e

sign_starts : {o : ℕ} {w : List ℕ} (l : List ℕ) → All (λ x. starter x ≡ true) l → one_of o l ≡ true → o ∷ [] ≡ w → starter (first_of w) ≡ true
sign_starts {o} l h m e = subst (λ z. starter (first_of z) ≡ true) e (go l h m)
  where
    go : (l : List ℕ) → All (λ x. starter x ≡ true) l → one_of o l ≡ true → starter o ≡ true
    go [] h m = absurd (true≢false (sym m))
    go (x ∷ l) h m = ⊎_elim (λ i. ap starter (eqb-true o x i) ∙ h.0) (λ i. go l h.1 i) (or_in (eqb o x) (one_of o l) m)

-- None of an interval's tokens but the first does.
inner_starts : {ws : List (List ℕ)} {o v w c : ℕ} → Interval ws o v w c → (u : List ℕ) (r : List (List ℕ)) (t : List ℕ) (ts : List (List ℕ)) → ws ≡ u ∷ (r ++ (t ∷ ts)) → starter (first_of t) ≡ true → ⊥
inner_starts (Interval.interval {o} {c} {v} {w} {x} {y} ho kx ky hc) u r t ts e =
    let j : x ∷ bytes "," ∷ y ∷ (c ∷ []) ∷ [] ≡ r ++ (t ∷ ts) = cc in
    all_at (λ a. starter (first_of a) ≡ true → ⊥) r t ts
    (subst (All (λ a. starter (first_of a) ≡ true → ⊥)) j (end_starts kx, ((λ z. true≢false (sym z)), (end_starts ky, (close_starts c hc, tt)))))

-- ---- nothing is wrong before a clean place

-- Up to κ the rule is clean: its names are declared, its intervals legal, at most 32 are open; and a token that fits at κ starts something.
pub record Clean (names : List (List ℕ)) (s : List ℕ) (p κ : ℕ) : Type 0 where
  pub tokens : List (List ℕ)
  pub stand : Tokens s κ p tokens
  pub begins : Begins (suc most_open) tokens
  pub at : Place
  pub walks : Walks (strict names) (Place.want most_open most_open fresh []) tokens at
  pub before : Before AnyName AnyOffsets formula most_open tokens
  pub next : (w : List ℕ) (d : ℕ) → TokenAt s κ w → Begins d (tokens ++ (w ∷ [])) → starter (first_of w) ≡ true

module _ {names : List (List ℕ)} {s : List ℕ} {p κ : ℕ} (c : Clean names s p κ) where
  -- The walk up to a token before κ, and over it.
  over : (us ws : List (List ℕ)) → c.tokens ≡ us ++ ws → (y : Place) × Walks (strict names) (Place.want most_open most_open fresh []) us y × Walks (strict names) y ws c.at
  over us ws e = walks_part us (subst (λ z. Walks (strict names) (Place.want most_open most_open fresh []) z c.at) e c.walks)

  module _ {i : ℕ} {us : List (List ℕ)} (t : Tokens s i p us) where
    no_token : i < κ → ((w : List ℕ) (d : ℕ) → TokenAt s i w → Begins d (us ++ (w ∷ [])) → ⊥) → ⊥
    no_token l k =
        let a = tokens_past us c.tokens t c.stand l in
        k a.0 (suc most_open) a.3 (begins_one us a.0 a.1 (subst (Begins (suc most_open)) a.2 c.begins))

    no_name : {w : List ℕ} → i < κ → TokenAt s i w → Name w → ((x : ℕ) → Declared names w x → ⊥) → ⊥
    no_name {w} l a n u =
        let b = tokens_past us c.tokens t c.stand l in
        let h = over us (b.0 ∷ b.1) b.2 in
        let f = walks_first h.2 in
        let k = subst (λ z. step (strict names) h.0 z ≡ some f.0) (token_one b.3 a) f.1 in
        u _ (passes_declared names w (name_known (strict names) h.0 f.0 n k))

    no_offsets : {q o v w x : ℕ} {ws : List (List ℕ)} → i < κ → Tokens s q i ws → Interval ws o v w x → ((first more : ℕ) → Legal o v w x first more → ⊥) → Begins most_open (us ++ ws) → ⊥
    no_offsets {q} {o} {v} {w} {x} {ws} l a j n b = go (dec_lt κ q)
      where
        go : Dec (κ < q) → ⊥
        go (no m) =
            let r = tokens_upto (us ++ ws) c.tokens (tokens_then us t a) c.stand (omega arith) in
            let h = over (us ++ ws) r.0 r.1 in
            let k = walks_part us h.1 in
            passes_legal names o v w x (offsets_known (strict names) j k.2) n
        go (yes m) =
            let r = tokens_past c.tokens (us ++ ws) c.stand (tokens_then us t a) m in
            let f = tokens_past us c.tokens t c.stand l in
            let e = r.2 ∙ ap (λ z. z ++ (r.0 ∷ r.1)) f.2 ∙ append_assoc us (f.0 ∷ f.1) (r.0 ∷ r.1) in
            let k = c.next r.0 most_open r.3 (begins_one c.tokens r.0 r.1 (subst (Begins most_open) r.2 b)) in
            inner_starts j f.0 f.1 r.0 r.1 (front_same us e) k

    no_deep : {o : ℕ} → i < κ → one_of o (bytes "(!") ≡ true → TokenAt s i (o ∷ []) → (Begins most_open (us ++ ((o ∷ []) ∷ [])) → ⊥) → ⊥
    no_deep {o} l m a n =
        let b = tokens_past us c.tokens t c.stand l in
        go b.1 c.before (b.2 ∙ ap (λ z. us ++ (z ∷ b.1)) (token_one b.3 a))
      where
        from : (ts ws : List (List ℕ)) → Begin AnyName AnyOffsets formula most_open ts → ts ≡ us ++ ((o ∷ []) ∷ ws) → Begins most_open (us ++ ((o ∷ []) ∷ []))
        from ts ws h e = begins_one us (o ∷ []) ws (subst (Begins most_open) e (record { rest = h.rest; says = h.says; is = h.is }))

        keep_other : (b : Bool) → keep_word_lem b ≡ o ∷ [] → ⊥
        keep_other true e = true≢false (sym m ∙ ap (λ z. one_of (first_of z) (bytes "(!")) (sym e))
        keep_other false e = true≢false (sym m ∙ ap (λ z. one_of (first_of z) (bytes "(!")) (sym e))

        go : (r : List (List ℕ)) {ts : List (List ℕ)} → Before AnyName AnyOffsets formula most_open ts → ts ≡ us ++ ((o ∷ []) ∷ r) → ⊥
        go r (Before.whole {us = ts} h) e = n (from ts r h e)
        go r (Before.word {us = ts} b h) e = ⊎_elim (λ k. keep_other b k) (λ k. n (from ts k.0 h k.1)) (last_split ts us (keep_word_lem b) (o ∷ []) r e)
        go r (Before.offsets b h j k) e = n (from _ r k e)

  pub none_before : {m i : ℕ} → Wrong names s p m i → κ ≤ i
  none_before {i = i} h = go (dec_lt i κ)
    where
      not_yet : {m : ℕ} → Wrong names s p m i → i < κ → ⊥
      not_yet (Wrong.token t b k e) l = no_token t l k
      not_yet (Wrong.name t a n u b) l = no_name t l a n u
      not_yet (Wrong.offsets t a j n b) l = no_offsets t l a j n b
      not_yet (Wrong.deep t o a b n) l = no_deep t l o a n

      go : Dec (i < κ) → κ ≤ i
      go (yes l) = absurd (not_yet h l)
      go (no l) = omega arith

-- ---- at one place

module _ {s : List ℕ} {p κ : ℕ} {us ts : List (List ℕ)} (t : Tokens s κ p us) (u : Tokens s κ p ts) where
  -- A token that no formula goes on with, and one that a formula does.
  unfit : {d : ℕ} {w : List ℕ} → ((w : List ℕ) (d : ℕ) → TokenAt s κ w → Begins d (us ++ (w ∷ [])) → ⊥) → TokenAt s κ w → Begins d (ts ++ (w ∷ [])) → ⊥
  unfit {d} {w} k a b = k w d a (subst (λ z. Begins d (z ++ (w ∷ []))) (tokens_one ts us u t) b)

  -- A bracket with which 32 may be open, and one with which they may not.
  one_bracket : {o x : ℕ} → TokenAt s κ (o ∷ []) → Begins most_open (us ++ ((o ∷ []) ∷ [])) → TokenAt s κ (x ∷ []) → (Begins most_open (ts ++ ((x ∷ []) ∷ [])) → ⊥) → ⊥
  one_bracket {o} {x} a h b n = n (subst (λ z. Begins most_open (ts ++ (z ∷ []))) (token_one a b) (subst (λ z. Begins most_open (z ++ ((o ∷ []) ∷ []))) (tokens_one us ts t u) h))

module _ {s : List ℕ} {κ : ℕ} where
  -- A name is no sign.
  no_sign : {w : List ℕ} {o : ℕ} (l : List ℕ) → All (λ x. letter x ≡ false) l → Name w → TokenAt s κ w → TokenAt s κ (o ∷ []) → one_of o l ≡ true → ⊥
  no_sign {o = o} l h n a b m = none_of letter o l h (subst (λ z. letter (first_of z) ≡ true) (token_one a b) (name_letter n)) m

  -- An interval's bracket.
  pub offsets_open : {q o v w c : ℕ} {ws : List (List ℕ)} (us : List (List ℕ)) → Interval ws o v w c → Tokens s q κ ws → Begins most_open (us ++ ws) → TokenAt s κ (o ∷ []) × (one_of o (bytes "[(") ≡ true) × Begins most_open (us ++ ((o ∷ []) ∷ []))
  offsets_open us (Interval.interval {o} ho kx ky hc) a b = ((next_is a).0, ho, begins_one us (o ∷ []) _ b)

pub one_wrong : {names : List (List ℕ)} {s : List ℕ} {p κ n m : ℕ} → Wrong names s p n κ → Wrong names s p m κ → n ≡ m
one_wrong (Wrong.token t b k e) (Wrong.token u c l f) = refl
one_wrong (Wrong.token t b k e) (Wrong.name u a n f g) = absurd (unfit t u k a g)
one_wrong (Wrong.token t b k e) (Wrong.offsets {us = us} u a j f g) = let x = offsets_open us j a g in absurd (unfit t u k x.0 x.2)
one_wrong (Wrong.token t b k e) (Wrong.deep u o a g n) = absurd (unfit t u k a g)
one_wrong (Wrong.name u a n f g) (Wrong.token t b k e) = absurd (unfit t u k a g)
one_wrong (Wrong.name t a n f g) (Wrong.name u c m h i) = refl
one_wrong (Wrong.name t a n f g) (Wrong.offsets {us = us} u c j h i) = let x = offsets_open us j c i in absurd (no_sign (bytes "[(") (refl, (refl, tt)) n a x.0 x.1)
one_wrong (Wrong.name t a n f g) (Wrong.deep u o c h m) = absurd (no_sign (bytes "(!") (refl, (refl, tt)) n a c o)
one_wrong (Wrong.offsets {us = us} u a j f g) (Wrong.token t b k e) = let x = offsets_open us j a g in absurd (unfit t u k x.0 x.2)
one_wrong (Wrong.offsets {us = us} u c j h i) (Wrong.name t a n f g) = let x = offsets_open us j c i in absurd (no_sign (bytes "[(") (refl, (refl, tt)) n a x.0 x.1)
one_wrong (Wrong.offsets t a j n b) (Wrong.offsets u c i m d) = refl
one_wrong (Wrong.offsets {us = us} t a j n b) (Wrong.deep u o c h m) = let x = offsets_open us j a b in absurd (one_bracket t u x.0 x.2 c m)
one_wrong (Wrong.deep u o a g n) (Wrong.token t b k e) = absurd (unfit t u k a g)
one_wrong (Wrong.deep u o c h m) (Wrong.name t a n f g) = absurd (no_sign (bytes "(!") (refl, (refl, tt)) n a c o)
one_wrong (Wrong.deep u o c h m) (Wrong.offsets {us = us} t a j n b) = let x = offsets_open us j a b in absurd (one_bracket t u x.0 x.2 c m)
one_wrong (Wrong.deep t o a b n) (Wrong.deep u x c d m) = refl

-- ---- before a fault, and at it

module _ {s : List ℕ} {p κ : ℕ} {us : List (List ℕ)} (t : Tokens s κ p us) where
  here : {ts : List (List ℕ)} (d : ℕ) (ws : List (List ℕ)) → Tokens s κ p ts → Begins d (ts ++ ws) → Begins d (us ++ ws)
  here {ts} d ws u h = subst (λ z. Begins d (z ++ ws)) (tokens_one ts us u t) h

  -- What stands before begins a formula,
  pub wrong_begins : {names : List (List ℕ)} {n : ℕ} → Wrong names s p n κ → Begins (suc most_open) us
  wrong_begins (Wrong.token {us = ts} u b k e) = subst (Begins (suc most_open)) (tokens_one ts us u t) b
  wrong_begins (Wrong.name {w = w} u a n f b) = begins_deep (begins_front us (w ∷ []) (here most_open (w ∷ []) u b))
  wrong_begins (Wrong.offsets {ws = ws} u a j n b) = begins_deep (begins_front us ws (here most_open ws u b))
  wrong_begins (Wrong.deep {o = o} u m a b n) = begins_front us ((o ∷ []) ∷ []) (here (suc most_open) ((o ∷ []) ∷ []) u b)

  -- and a token that fits at the fault starts something.
  pub wrong_starts : {names : List (List ℕ)} {n : ℕ} → Wrong names s p n κ → (w : List ℕ) (d : ℕ) → TokenAt s κ w → Begins d (us ++ (w ∷ [])) → starter (first_of w) ≡ true
  wrong_starts (Wrong.token u b k e) w d a h = absurd (unfit u t k a h)
  wrong_starts (Wrong.name u c n f b) w d a h = letter_starts (first_of w) (subst (λ z. letter (first_of z) ≡ true) (token_one c a) (name_letter n))
  wrong_starts (Wrong.offsets {us = ts} u c j n b) w d a h = let x = offsets_open ts j c b in sign_starts (bytes "[(") (refl, (refl, tt)) x.1 (token_one x.0 a)
  wrong_starts (Wrong.deep u m c b n) w d a h = sign_starts (bytes "(!") (refl, (refl, tt)) m (token_one c a)
