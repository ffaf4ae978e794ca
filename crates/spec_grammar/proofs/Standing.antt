-- Texts that stand at a place: byte by byte, one of each length, and spellings.
-- Assumes nothing.
use mathlib.Core.Path.{◌≡◌, refl, sym, subst}
use mathlib.Core.Bool.{Bool, true, false, and-eq-true_iff}
use mathlib.Core.List.{List, [], ◌∷◌, ◌++◌}
use Prim.Native.Nat.{ℕ, zero, suc, ◌+◌, ◌≤◌}
use native.Mathlib.Omega.{arith}
use borrow.Author.Tests.{eqb-true, eq-eqb}
use lib.Dec.{eqb}
use lib.ListN.{length}
use Rattle.read_bytes.specs.Bytes.{peek, letter, name_byte, starts}
use Rattle.read_names.specs.Spellings.{spelling_at}
use Rattle.read_bytes.proofs.Runs.{run_past}
use Rattle.read_names.proofs.Spelling.{word_more, word_none}
use Rattle.spec_grammar.specs.Tokens.{Each, Spelling, TokenAt, Tokens}

module _ (s : List ℕ) (p : ℕ) where
  pub starts_head : (x : ℕ) (w : List ℕ) → starts s p (x ∷ w) ≡ true → peek s p ≡ x
  unfolding starts
  starts_head x w e = sym (eqb-true x (peek s p) ((and-eq-true_iff (eqb x (peek s p)) (starts s (p + 1) w)).0 e).0)

  pub starts_tail : (x : ℕ) (w : List ℕ) → starts s p (x ∷ w) ≡ true → starts s (p + 1) w ≡ true
  unfolding starts
  starts_tail x w e = ((and-eq-true_iff (eqb x (peek s p)) (starts s (p + 1) w)).0 e).1

  pub starts_none : starts s p [] ≡ true
  unfolding starts
  starts_none = refl

  pub starts_cons : (x : ℕ) (w : List ℕ) → peek s p ≡ x → starts s (p + 1) w ≡ true → starts s p (x ∷ w) ≡ true
  unfolding starts
  starts_cons x w e h = rw (eq-eqb x (peek s p) (sym e), h)

  pub starts_one : (x : ℕ) → peek s p ≡ x → starts s p (x ∷ []) ≡ true
  unfolding starts
  starts_one x e = rw (eq-eqb x (peek s p) (sym e))

-- Two texts of one length that stand at a place are the same.
pub stand_same : (s : List ℕ) (p : ℕ) (v w : List ℕ) → starts s p v ≡ true → starts s p w ≡ true → length v ≡ length w → v ≡ w
stand_same s p [] [] h k e = refl
stand_same s p [] (y ∷ w) h k e = let z : ⊥ = omega arith in absurd z
stand_same s p (x ∷ v) [] h k e = let z : ⊥ = omega arith in absurd z
stand_same s p (x ∷ v) (y ∷ w) h k e =
    let l : length v ≡ length w = omega arith in
    let i = starts_head s p x v h in
    let j = starts_head s p y w k in
    let r = stand_same s (p + 1) v w (starts_tail s p x v h) (starts_tail s p y w k) l in
    cc

-- The token at a place is one.
pub token_one : {s : List ℕ} {p : ℕ} {v w : List ℕ} → TokenAt s p v → TokenAt s p w → v ≡ w
token_one {s} {p} {v} {w} a b =
    let i = a.longest w b.token b.stands in
    let j = b.longest v a.token a.stands in
    stand_same s p v w a.stands b.stands (omega arith)

-- ---- tokens one after another

module _ {s : List ℕ} where
  pub next_is : {p q : ℕ} {w : List ℕ} {ws : List (List ℕ)} → Tokens s q p (w ∷ ws) → TokenAt s p w × Tokens s q (p + length w) ws
  next_is (Tokens.next a t) = (a, t)

  pub none_is : {p q : ℕ} → Tokens s q p [] → p ≡ q
  none_is Tokens.none = refl

  pub none_at : {p q : ℕ} → p ≡ q → Tokens s q p []
  none_at {p} e = subst (λ x. Tokens s x p []) e Tokens.none

  pub one_at : {p q : ℕ} {w : List ℕ} → TokenAt s p w → p + length w ≡ q → Tokens s q p (w ∷ [])
  one_at a e = Tokens.next a (none_at e)

  pub tokens_then : {p q r : ℕ} (us : List (List ℕ)) {ws : List (List ℕ)} → Tokens s q p us → Tokens s r q ws → Tokens s r p (us ++ ws)
  tokens_then {p} {q} {r} [] {ws} a b = subst (λ x. Tokens s r x ws) (sym (none_is a)) b
  tokens_then {p = p} (u ∷ us) a b = let n = next_is a in Tokens.next n.0 (tokens_then {p = p + length u} us n.1 b)

  pub tokens_part : {p r : ℕ} (us : List (List ℕ)) {ws : List (List ℕ)} → Tokens s r p (us ++ ws) → (q : ℕ) × Tokens s q p us × Tokens s r q ws
  tokens_part {p} [] a = (p, Tokens.none, a)
  tokens_part {p = p} (u ∷ us) a =
      let n = next_is a in
      let r = tokens_part {p = p + length u} us n.1 in
      (r.0, Tokens.next n.0 r.1, r.2)

-- ---- spellings

-- The spelling at p stands there, of letters and digits.
word_runs : (s : List ℕ) (n p : ℕ) → length s ≤ p + n → (starts s p (spelling_at s p) ≡ true) × Each name_byte (spelling_at s p)
word_runs s zero p h = rw (run_past name_byte s p (omega arith)) (starts_none s p, tt)
word_runs s (suc n) p h = go (name_byte (peek s p)) refl (word_runs s n (p + 1) (omega arith))
  where
    go : (b : Bool) → name_byte (peek s p) ≡ b → (starts s (p + 1) (spelling_at s (p + 1)) ≡ true) × Each name_byte (spelling_at s (p + 1)) → (starts s p (spelling_at s p) ≡ true) × Each name_byte (spelling_at s p)
    go true e r = rw (word_more s p e) (starts_cons s p (peek s p) (spelling_at s (p + 1)) refl r.0, (e, r.1))
    go false e r = rw (word_none s p e) (starts_none s p, tt)

pub word_stands : (s : List ℕ) (p : ℕ) → starts s p (spelling_at s p) ≡ true
word_stands s p = (word_runs s (length s) p (omega arith)).0

pub word_run : (s : List ℕ) (p : ℕ) → Each name_byte (spelling_at s p)
word_run s p = (word_runs s (length s) p (omega arith)).1

-- And no longer text of letters and digits does.
pub word_longest : (s : List ℕ) (p : ℕ) (v : List ℕ) → Each name_byte v → starts s p v ≡ true → length v ≤ length (spelling_at s p)
word_longest s p [] h e = omega arith
word_longest s p (x ∷ v) h e =
    let k : name_byte (peek s p) ≡ true = rw (starts_head s p x v e) h.0 in
    let r = word_longest s (p + 1) v h.1 (starts_tail s p x v e) in
    rw (word_more s p k) (omega arith)

pub letter_named : (b : ℕ) → letter b ≡ true → name_byte b ≡ true
unfolding name_byte
letter_named b e = rw e

pub word_each : {w : List ℕ} → Spelling w → Each name_byte w
word_each (Spelling.word {b} h k) = (letter_named b h, k)

-- A letter starts a spelling.
pub letter_word : (s : List ℕ) (p : ℕ) → letter (peek s p) ≡ true → Spelling (spelling_at s p)
letter_word s p e =
    let h = letter_named (peek s p) e in
    rw (word_more s p h) (Spelling.word e (word_runs s (length s) (p + 1) (omega arith)).1)

pub word_first : {v : List ℕ} (s : List ℕ) (p : ℕ) → Spelling v → starts s p v ≡ true → letter (peek s p) ≡ true
word_first s p (Spelling.word {b} {w} h k) e = rw (starts_head s p b w e) h
