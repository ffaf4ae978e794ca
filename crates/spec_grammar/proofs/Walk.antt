-- A walk along tokens that tells at each of them whether it can follow. Every formula is walked to its end, if its names and intervals pass the
-- walk's tests.
-- Assumes nothing.
use mathlib.Core.Path.{◌≡◌, refl, sym, subst}
use mathlib.Core.Bool.{Bool, true, false, true≢false, ◌||◌}
use mathlib.Core.List.{List, [], ◌∷◌, ◌++◌}
use mathlib.Core.Option.{Option, none, some}
use Prim.Native.Nat.{ℕ, zero, suc, ◌+◌}
use native.Mathlib.Omega.{arith}
use lib.Dec.{eqb}
use Rattle.read_bytes.specs.Bytes.{byte, bytes, pick, one_of, letter, digit}
use Rattle.read_names.specs.Spellings.{same_text_lem}
use Rattle.read_names.proofs.Names.{same_text}
use Rattle.spec_tilco.specs.Formula.{Op, And, Or, Implies, Iff, Written}
use Rattle.read_parts.specs.FormulaText.{sign_text, repeats}
use Rattle.spec_grammar.specs.Tokens.{Spelling, Numeral, End}
use Rattle.spec_grammar.specs.Grammar.{Part, keep_word_lem, time_sign, Name, Interval, Is}
use Rattle.spec_grammar.specs.RuleFaults.{AnyName, AnyOffsets}
use Rattle.spec_grammar.proofs.Signs.{leading_digit}
use Rattle.spec_grammar.proofs.Ends.{value_of, end_value}

-- ---- where a walk stands

-- What a walk asks of a name, and of a whole interval by its brackets and the numbers of its ends.
pub record Tests : Type 0 where
  pub named : List ℕ → Bool
  pub offsets : ℕ → ℕ → ℕ → ℕ → Bool

-- Which of => and <=> may still join: each once, and => once more after <=>.
pub data Joins : Type 0 where
  joins : (implies iff : Bool) → Joins

-- What is open: a parenthesis, or the first or the second formula of since or until.
pub data Kind : Type 0 where
  paren first second : Kind

-- What comes back where it is closed: how many more may be opened there, and which signs may join.
pub data Frame : Type 0 where
  frame : Kind → ℕ → Joins → Frame

-- What of an interval was read last: nothing, its bracket, its first end, the comma, or its second end.
pub data Upto : Type 0 where
  start : Upto
  bracket : (o : ℕ) → Upto
  low comma : (o v : ℕ) → Upto
  high : (o v w : ℕ) → Upto

-- B of `(` and `!` may still be opened in the formula, and r here. A plain part is wanted; the `(` of since or until; a part has ended; or the
-- rest of an interval comes next.
pub data Place : Type 0 where
  want : (b r : ℕ) → Joins → List Frame → Place
  call : (b r : ℕ) → Joins → List Frame → Place
  after : (b : ℕ) → Joins → List Frame → Place
  offsets : Upto → (b : ℕ) → Joins → List Frame → Place

abbrev pub fresh : Joins
fresh = joins true true

-- What may join after the sign o.
abbrev pub may : Op → Joins → Option Joins
may And (joins a b) = some (joins a b)
may Or (joins a b) = some (joins a b)
may Implies (joins a b) = pick a (λ _. some (joins false b)) none
may Iff (joins a b) = pick b (λ _. some (joins true false)) none

-- ---- one token

abbrev pub first_of : List ℕ → ℕ
first_of [] = 0
first_of (b ∷ w) = b

-- Texts that differ.
pub other_text : (w x : List ℕ) → (w ≡ x → ⊥) → same_text_lem w x ≡ false
other_text w x n = go (same_text_lem w x) refl
  where
    go : (c : Bool) → same_text_lem w x ≡ c → same_text_lem w x ≡ false
    go true i = absurd (n ((same_text w x).0 i))
    go false i = i

pub word_letter : {w : List ℕ} → Spelling w → letter (first_of w) ≡ true
word_letter (Spelling.word h k) = h

-- One more is opened.
abbrev pub opened : ℕ → (ℕ → Place) → Option Place
opened zero k = none
opened (suc r) k = some (k r)

abbrev pub joined : Option Joins → ℕ → List Frame → Option Place
joined none b st = none
joined (some j) b st = some (want b b j st)

abbrev pub shut : List Frame → Option Place
shut [] = none
shut (frame paren b j ∷ st) = some (after b j st)
shut (frame first b j ∷ st) = none
shut (frame second b j ∷ st) = some (after b j st)

abbrev pub turned : ℕ → List Frame → Option Place
turned c [] = none
turned c (frame paren b j ∷ st) = none
turned c (frame first b j ∷ st) = some (want c c fresh (frame second b j ∷ st))
turned c (frame second b j ∷ st) = none

-- Does an end start with this byte?
abbrev pub end_byte : ℕ → Bool
end_byte x = digit x || eqb x (byte "-")

unfoldable pub step : Tests → Place → List ℕ → Option Place
step τ (want b r j st) w =
    pick (letter (first_of w))
    (λ _.
    pick (same_text_lem w (bytes "since")) (λ _. some (call b r j st))
    (pick (same_text_lem w (bytes "until")) (λ _. some (call b r j st)) (pick (τ.named w) (λ _. some (after b j st)) none)))
    (pick (same_text_lem w (bytes "!")) (λ _. opened r (λ q. want b q j st)) (pick (same_text_lem w (bytes "(")) (λ _. opened r (λ q. want q q fresh (frame paren b j ∷ st))) none))
step τ (call b r j st) w = pick (same_text_lem w (bytes "(")) (λ _. opened r (λ q. want q q fresh (frame first b j ∷ st))) none
step τ (after b j st) w =
    pick (same_text_lem w (bytes "@")) (λ _. some (offsets Upto.start b j st))
    (pick (same_text_lem w (bytes "?")) (λ _. some (offsets Upto.start b j st))
    (pick (same_text_lem w (bytes "&")) (λ _. joined (may And j) b st)
    (pick (same_text_lem w (bytes "|")) (λ _. joined (may Or j) b st)
    (pick (same_text_lem w (bytes "=>")) (λ _. joined (may Implies j) b st)
    (pick (same_text_lem w (bytes "<=>")) (λ _. joined (may Iff j) b st)
    (pick (same_text_lem w (bytes ")")) (λ _. shut st) (pick (same_text_lem w (bytes ",")) (λ _. turned b st) none)))))))
step τ (offsets Upto.start b j st) w = pick (one_of (first_of w) (bytes "[(")) (λ _. some (offsets (bracket (first_of w)) b j st)) none
step τ (offsets (bracket o) b j st) w = pick (end_byte (first_of w)) (λ _. some (offsets (low o (value_of w)) b j st)) none
step τ (offsets (low o v) b j st) w = pick (eqb (first_of w) (byte ",")) (λ _. some (offsets (comma o v) b j st)) none
step τ (offsets (comma o v) b j st) w = pick (end_byte (first_of w)) (λ _. some (offsets (high o v (value_of w)) b j st)) none
step τ (offsets (high o v x) b j st) w = pick (one_of (first_of w) (bytes "])")) (λ _. pick (τ.offsets o v x (first_of w)) (λ _. some (after b j st)) none) none

-- ---- a walk

-- Along the tokens from one place to another.
pub data Walks (τ : Tests) : Place → List (List ℕ) → Place → Type 0 where
  stop : {x : Place} → Walks τ x [] x
  next : {x y z : Place} {w : List ℕ} {ws : List (List ℕ)} → step τ x w ≡ some y → Walks τ y ws z → Walks τ x (w ∷ ws) z

pub walks_then : {τ : Tests} {x y z : Place} {us ws : List (List ℕ)} → Walks τ x us y → Walks τ y ws z → Walks τ x (us ++ ws) z
walks_then Walks.stop k = k
walks_then (Walks.next e h) k = Walks.next e (walks_then h k)

pub walks_one : {τ : Tests} {x y : Place} {w : List ℕ} → step τ x w ≡ some y → Walks τ x (w ∷ []) y
walks_one e = Walks.next e Walks.stop

-- The first token of a walk.
pub walks_first : {τ : Tests} {x z : Place} {w : List ℕ} {ws : List (List ℕ)} → Walks τ x (w ∷ ws) z → (y : Place) × (step τ x w ≡ some y) × Walks τ y ws z
walks_first (Walks.next {y = y} e h) = (y, e, h)

-- A walk goes one way: what follows the tokens us goes on from where they lead.
pub walks_cut : {τ : Tests} {x y z : Place} (us : List (List ℕ)) {ws : List (List ℕ)} → Walks τ x us y → Walks τ x (us ++ ws) z → Walks τ y ws z
walks_cut {τ} {z = z} [] {ws} h k = subst (λ a. Walks τ a ws z) (same h) k
  where
    same : {a b : Place} → Walks τ a [] b → a ≡ b
    same Walks.stop = refl
walks_cut {τ} {x} {z = z} (u ∷ us) {ws} h k =
    let a = walks_first h in
    let b = walks_first k in
    let i : a.0 ≡ b.0 = one a.1 b.1 in
    walks_cut {x = (walks_first h).0} us a.2 (subst (λ q. Walks τ q (us ++ ws) z) (sym i) b.2)
  where
    one : {o : Option Place} {a b : Place} → o ≡ some a → o ≡ some b → a ≡ b
    one e f = cc

-- The two parts of a walk.
pub walks_part : {τ : Tests} {x z : Place} (us : List (List ℕ)) {ws : List (List ℕ)} → Walks τ x (us ++ ws) z → (y : Place) × Walks τ x us y × Walks τ y ws z
walks_part {x = x} [] h = (x, Walks.stop, h)
walks_part {x = x} (u ∷ us) h =
    let a = walks_first h in
    let b = walks_part {x = (walks_first h).0} us a.2 in
    (b.0, Walks.next a.1 b.1, b.2)

-- ---- steps

module _ (τ : Tests) (b r : ℕ) (j : Joins) (st : List Frame) where
  pub step_not : step τ (want b (suc r) j st) (bytes "!") ≡ some (want b r j st)
  unfolding step same_text_lem
  step_not = refl

  pub step_paren : step τ (want b (suc r) j st) (bytes "(") ≡ some (want r r fresh (frame paren b j ∷ st))
  unfolding step same_text_lem
  step_paren = refl

  pub step_keep : (t : Bool) → step τ (want b r j st) (keep_word_lem t) ≡ some (call b r j st)
  unfolding step same_text_lem
  step_keep true = refl
  step_keep false = refl

  pub step_call : step τ (call b (suc r) j st) (bytes "(") ≡ some (want r r fresh (frame first b j ∷ st))
  unfolding step same_text_lem
  step_call = refl

  pub step_name : {w : List ℕ} → Name w → τ.named w ≡ true → step τ (want b r j st) w ≡ some (after b j st)
  unfolding step
  step_name {w} n h = rw (word_letter n.word, other_text w (bytes "since") n.not_since, other_text w (bytes "until") n.not_until, h)

module _ (τ : Tests) (b : ℕ) (j : Joins) (st : List Frame) where
  pub step_time : (t : Bool) → step τ (after b j st) (time_sign t) ≡ some (offsets Upto.start b j st)
  unfolding step same_text_lem
  step_time true = refl
  step_time false = refl

  pub step_op : (o : Op) → step τ (after b j st) (sign_text o) ≡ joined (may o j) b st
  unfolding step same_text_lem
  step_op And = refl
  step_op Or = refl
  step_op Implies = refl
  step_op Iff = refl

  pub step_shut : step τ (after b j st) (bytes ")") ≡ shut st
  unfolding step same_text_lem
  step_shut = refl

  pub step_turn : step τ (after b j st) (bytes ",") ≡ turned b st
  unfolding step same_text_lem
  step_turn = refl

-- ---- intervals

pub end_byte_lem : {w : List ℕ} {v : ℕ} → End w v → end_byte (first_of w) ≡ true
end_byte_lem End.nought = refl
end_byte_lem (End.plus (Numeral.numeral {b} h k l)) = rw (leading_digit b h)
end_byte_lem (End.minus n) = refl

module _ (τ : Tests) (b : ℕ) (j : Joins) (st : List Frame) where
  pub step_opens : (o : ℕ) → one_of o (bytes "[(") ≡ true → step τ (offsets Upto.start b j st) (o ∷ []) ≡ some (offsets (bracket o) b j st)
  unfolding step
  step_opens o h = rw h

  pub step_first : (o : ℕ) {w : List ℕ} {v : ℕ} → End w v → step τ (offsets (bracket o) b j st) w ≡ some (offsets (low o v) b j st)
  unfolding step
  step_first o k = rw (end_byte_lem k, end_value k)

  pub step_comma : (o v : ℕ) → step τ (offsets (low o v) b j st) (bytes ",") ≡ some (offsets (comma o v) b j st)
  unfolding step
  step_comma o v = refl

  pub step_last : (o v : ℕ) {w : List ℕ} {x : ℕ} → End w x → step τ (offsets (comma o v) b j st) w ≡ some (offsets (high o v x) b j st)
  unfolding step
  step_last o v k = rw (end_byte_lem k, end_value k)

  step_closes : (o v w c : ℕ) → one_of c (bytes "])") ≡ true → τ.offsets o v w c ≡ true → step τ (offsets (high o v w) b j st) (c ∷ []) ≡ some (after b j st)
  unfolding step
  step_closes o v w c h k = rw (h, k)

  pub walk_interval : {ws : List (List ℕ)} {o v w c : ℕ} → Interval ws o v w c → τ.offsets o v w c ≡ true → Walks τ (offsets Upto.start b j st) ws (after b j st)
  walk_interval (Interval.interval {o} {c} {v} {w} {x} {y} ho kx ky hc) h =
      Walks.next (step_opens o ho)
      (Walks.next (step_first o kx) (Walks.next (step_comma o v) (Walks.next (step_last o v ky) (walks_one (step_closes o v w c hc h)))))

-- ---- every part of a formula

-- How a part of each kind is walked over: what may join stays, but for the signs that the part joins itself.
abbrev pub Walked : Tests → Part → ℕ → List (List ℕ) → Type 0
Walked τ Part.plain d ws = (b : ℕ) (j : Joins) (st : List Frame) → Walks τ (want b d j st) ws (after b j st)
Walked τ Part.timed d ws = (j : Joins) (st : List Frame) → Walks τ (want d d j st) ws (after d j st)
Walked τ (Part.level And) d ws = (j : Joins) (st : List Frame) → Walks τ (want d d j st) ws (after d j st)
Walked τ (Part.level Or) d ws = (j : Joins) (st : List Frame) → Walks τ (want d d j st) ws (after d j st)
Walked τ (Part.level Implies) d ws = (iff : Bool) (st : List Frame) → (a : Bool) × Walks τ (want d d (joins true iff) st) ws (after d (joins a iff) st)
Walked τ (Part.level Iff) d ws = (st : List Frame) → (a : Bool) × (c : Bool) × Walks τ (want d d fresh st) ws (after d (joins a c) st)

may_always : (τ : Tests) (o : Op) → repeats o ≡ true → (b : ℕ) (j : Joins) (st : List Frame) → step τ (after b j st) (sign_text o) ≡ some (want b b j st)
may_always τ And e b (joins x y) st = step_op τ b (joins x y) st And
may_always τ Or e b (joins x y) st = step_op τ b (joins x y) st Or
may_always τ Implies e b j st = absurd (true≢false (sym e))
may_always τ Iff e b j st = absurd (true≢false (sym e))

module _ (τ : Tests) (N : List ℕ → ℕ → Type 0) (I : ℕ → ℕ → ℕ → ℕ → ℕ → ℕ → Type 0) (hn : (w : List ℕ) (i : ℕ) → N w i → τ.named w ≡ true)
    (hi : (o v w c first more : ℕ) → I o v w c first more → τ.offsets o v w c ≡ true) where
  pub walked : {k : Part} {d : ℕ} {ws : List (List ℕ)} {f : Written} → Is N I k d ws f → Walked τ k d ws
  walked (Is.name {d} n h) = λ b j st. walks_one (step_name τ b d j st n (hn _ _ h))
  walked (Is.not {d} h) = let r = walked h in λ b j st. Walks.next (step_not τ b d j st) (r b j st)
  walked (Is.parens {d} h) = let r = walked h in λ b j st. paren b j st (r (frame Kind.paren b j ∷ st))
    where
      paren : (b : ℕ) (j : Joins) (st : List Frame) {ws : List (List ℕ)} → (a : Bool) × (c : Bool) × Walks τ (want d d fresh (frame Kind.paren b j ∷ st)) ws (after d (joins a c) (frame Kind.paren b j ∷ st))
          → Walks τ (want b (suc d) j st) (bytes "(" ∷ (ws ++ (bytes ")" ∷ []))) (after b j st)
      paren b j st r = Walks.next (step_paren τ b d j st) (walks_then r.2 (walks_one (step_shut τ d (joins r.0 r.1) (frame Kind.paren b j ∷ st))))
  walked (Is.keep {d} t h k) =
      let r = walked h in
      let q = walked k in
      λ b j st. two b j st (r (frame Kind.first b j ∷ st)) (q (frame Kind.second b j ∷ st))
    where
      two : (b : ℕ) (j : Joins) (st : List Frame) {us ws : List (List ℕ)} → (a : Bool) × (c : Bool) × Walks τ (want d d fresh (frame Kind.first b j ∷ st)) us (after d (joins a c) (frame Kind.first b j ∷ st))
          → (a : Bool) × (c : Bool) × Walks τ (want d d fresh (frame Kind.second b j ∷ st)) ws (after d (joins a c) (frame Kind.second b j ∷ st))
          → Walks τ (want b (suc d) j st) (keep_word_lem t ∷ bytes "(" ∷ (us ++ (bytes "," ∷ (ws ++ (bytes ")" ∷ []))))) (after b j st)
      two b j st r q =
          Walks.next (step_keep τ b (suc d) j st t) (Walks.next (step_call τ b d j st) (walks_then r.2
          (Walks.next (step_turn τ d (joins r.0 r.1) (frame Kind.first b j ∷ st)) (walks_then q.2
          (walks_one (step_shut τ d (joins q.0 q.1) (frame Kind.second b j ∷ st)))))))
  walked (Is.untimed {d} h) = let r = walked h in λ j st. r d j st
  walked (Is.time {d} t h i l) = let r = walked h in λ j st. walks_then (r j st) (Walks.next (step_time τ d j st t) (walk_interval τ d j st i (hi _ _ _ _ _ _ l)))
  walked (Is.one And h) = walked h
  walked (Is.one Or h) = walked h
  walked (Is.one Implies h) = let r = walked h in λ iff st. (true, r (joins true iff) st)
  walked (Is.one Iff h) = let r = walked h in λ st. let q = r true st in (q.0, true, q.1)
  walked (Is.join {d} And h k) = let r = walked h in let q = walked k in λ j st. walks_then (r j st) (Walks.next (may_always τ And refl d j st) (q j st))
  walked (Is.join {d} Or h k) = let r = walked h in let q = walked k in λ j st. walks_then (r j st) (Walks.next (may_always τ Or refl d j st) (q j st))
  walked (Is.join {d} Implies h k) =
      let r = walked h in
      let q = walked k in
      λ iff st. (false, walks_then (r (joins true iff) st) (Walks.next (step_op τ d (joins true iff) st Implies) (q (joins false iff) st)))
  walked (Is.join {d} Iff h k) =
      let r = walked h in
      let q = walked k in
      λ st.
      let x = r true st in
      let y = q false st in
      (y.0, false, walks_then x.1 (Walks.next (step_op τ d (joins x.0 true) st Iff) y.1))

module _ (N : List ℕ → ℕ → Type 0) (I : ℕ → ℕ → ℕ → ℕ → ℕ → ℕ → Type 0) where
  -- More may be open than need be.
  pub deep : {k : Part} {d : ℕ} {ws : List (List ℕ)} {f : Written} → Is N I k d ws f → Is N I k (suc d) ws f
  deep (Is.name n h) = Is.name n h
  deep (Is.not h) = Is.not (deep h)
  deep (Is.parens h) = Is.parens (deep h)
  deep (Is.keep t h k) = Is.keep t (deep h) (deep k)
  deep (Is.untimed h) = Is.untimed (deep h)
  deep (Is.time t h i l) = Is.time t (deep h) i l
  deep (Is.one o h) = Is.one o (deep h)
  deep (Is.join o h k) = Is.join o (deep h) (deep k)

  pub deeper : {k : Part} {d : ℕ} {ws : List (List ℕ)} {f : Written} (n : ℕ) → Is N I k d ws f → Is N I k (n + d) ws f
  deeper {k} {d} {ws} {f} zero h = let e : zero + d ≡ d = omega arith in rw e h
  deeper {k} {d} {ws} {f} (suc n) h = let e : suc n + d ≡ suc (n + d) = omega arith in rw e (deep (deeper n h))

  -- Whatever its names and intervals.
  pub loosen : {k : Part} {d : ℕ} {ws : List (List ℕ)} {f : Written} → Is N I k d ws f → Is AnyName AnyOffsets k d ws f
  loosen (Is.name n h) = Is.name n tt
  loosen (Is.not h) = Is.not (loosen h)
  loosen (Is.parens h) = Is.parens (loosen h)
  loosen (Is.keep t h k) = Is.keep t (loosen h) (loosen k)
  loosen (Is.untimed h) = Is.untimed (loosen h)
  loosen (Is.time t h i l) = Is.time t (loosen h) i tt
  loosen (Is.one o h) = Is.one o (loosen h)
  loosen (Is.join o h k) = Is.join o (loosen h) (loosen k)
