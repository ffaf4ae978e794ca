-- What stands in the grammar is read as what it says.
-- Assumes nothing.
use mathlib.Core.Path.{◌≡◌, refl, sym, subst, ◌∙◌}
use mathlib.Core.Bool.{Bool, true, false, true≢false, ◌||◌}
use mathlib.Core.List.{List, [], ◌∷◌, ◌++◌}
use Prim.Native.Nat.{ℕ, suc, ◌+◌, ◌-◌, ◌≤◌, ◌<◌}
use native.Mathlib.Omega.{arith}
use borrow.Author.Tests.{eq-eqb, lt-ltb}
use lib.Dec.{eqb}
use lib.ListN.{length}
use Rattle.read_bytes.specs.declared.bytes.Class.TheVariants.{Letter}
use Rattle.read_bytes.specs.Read.{Read, and_then}
use Rattle.read_bytes.specs.Read.Read.{got}
use Rattle.read_bytes.specs.Bytes.{byte, bytes, peek, pick, one_of, letter, class_of, starts, run_end}
use Rattle.read_names.specs.Spellings.{spelling_at, is_spelled}
use Rattle.read_bytes.proofs.Places.{peek_out, inside_test}
use Rattle.read_bytes.proofs.Classes.{class_letter}
use Rattle.read_names.proofs.Names.{same_text}
use Rattle.spec_tilco.specs.Formula.{Op, And, Or, Implies, Iff, Written}
use Rattle.std.specs.Prelude.{Ok}
use Rattle.read_interval.specs.Interval.{interval}
use Rattle.read_parts.specs.FormulaText as reading
use Rattle.read_parts.specs.FormulaText.{Reader, times, timed_part, sign_text, repeats, more, then_paren, second, since_until, name_or_keep, declared, inside, rule}
use Rattle.read_interval.proofs.Intervals.{interval_reach}
use Rattle.read_parts.proofs.Steps.{sign_some, more_none, onward, more_one, times_none, times_one, plain_letter, plain_deny, plain_paren, word_since, word_until, word_name}
use Rattle.spec_grammar.specs.Tokens.{TokenAt, Tokens}
use Rattle.spec_grammar.specs.Grammar.{Part, below, before, formula, keep_word_lem, time_sign, Name, Is, Declared, Legal, Rule}
use Rattle.spec_grammar.proofs.Standing.{starts_head, token_one, next_is, none_is, tokens_part, word_first}
use Rattle.spec_grammar.proofs.Signs.{word_token}
use Rattle.spec_grammar.proofs.Offsets.{legal_offsets, interval_reads}
use Rattle.spec_grammar.proofs.Sound.{time_length, keep_length, keep_is}

-- ---- what may follow a part

-- The first bytes of the signs that would go on with a part.
abbrev goes_on_lem : Part → List ℕ
goes_on_lem Part.plain = []
goes_on_lem Part.timed = bytes "@?"
goes_on_lem (Part.level And) = bytes "&@?"
goes_on_lem (Part.level Or) = bytes "|&@?"
goes_on_lem (Part.level Implies) = bytes "=|&@?"
goes_on_lem (Part.level Iff) = bytes "<=|&@?"

-- None of them stands at q.
abbrev Quiet : Part → List ℕ → ℕ → Type 0
Quiet k s q = one_of (peek s q) (goes_on_lem k) ≡ false

or_none : (a b : Bool) → a || b ≡ false → b ≡ false
or_none true b e = absurd (true≢false e)
or_none false b e = e

quiet_below : (o : Op) (s : List ℕ) (q : ℕ) → Quiet (Part.level o) s q → Quiet (below o) s q
quiet_below And s q e = or_none (eqb (peek s q) (byte "&")) _ e
quiet_below Or s q e = or_none (eqb (peek s q) (byte "|")) _ e
quiet_below Implies s q e = or_none (eqb (peek s q) (byte "=")) _ e
quiet_below Iff s q e = or_none (eqb (peek s q) (byte "<")) _ e

-- A sign goes on with its own level, and with none below it.
sign_goes_on : (o : Op) (s : List ℕ) (q : ℕ) → starts s q (sign_text o) ≡ true → one_of (peek s q) (goes_on_lem (Part.level o)) ≡ true
sign_goes_on And s q e = rw (starts_head s q (byte "&") [] e)
sign_goes_on Or s q e = rw (starts_head s q (byte "|") [] e)
sign_goes_on Implies s q e = rw (starts_head s q (byte "=") (bytes ">") e)
sign_goes_on Iff s q e = rw (starts_head s q (byte "<") (bytes "=>") e)

sign_quiet : (o : Op) (s : List ℕ) (q : ℕ) → starts s q (sign_text o) ≡ true → Quiet (below o) s q
sign_quiet And s q e = rw (starts_head s q (byte "&") [] e)
sign_quiet Or s q e = rw (starts_head s q (byte "|") [] e)
sign_quiet Implies s q e = rw (starts_head s q (byte "=") (bytes ">") e)
sign_quiet Iff s q e = rw (starts_head s q (byte "<") (bytes "=>") e)

-- A sign stands inside the text.
pub sign_in : (o : Op) (s : List ℕ) (q : ℕ) → starts s q (sign_text o) ≡ true → q < length s
sign_in o s q t = inside_test s q (λ x. one_of x (goes_on_lem (Part.level o))) (no_line o) (sign_goes_on o s q t)
  where
    no_line : (o : Op) → one_of (byte "\n") (goes_on_lem (Part.level o)) ≡ false
    no_line And = refl
    no_line Or = refl
    no_line Implies = refl
    no_line Iff = refl

quiet_sign : (o : Op) (s : List ℕ) (q : ℕ) → Quiet (Part.level o) s q → starts s q (sign_text o) ≡ false
quiet_sign o s q e = go (starts s q (sign_text o)) refl
  where
    go : (b : Bool) → starts s q (sign_text o) ≡ b → starts s q (sign_text o) ≡ false
    go true i = absurd (true≢false (sym (sign_goes_on o s q i) ∙ e))
    go false i = i

-- Tokens end where they begin or later.
pub tokens_ahead : {s : List ℕ} {p q : ℕ} (ws : List (List ℕ)) → Tokens s q p ws → p ≤ q
tokens_ahead [] h = let e = none_is h in omega arith
tokens_ahead {p = p} (w ∷ ws) h = let n = tokens_ahead {p = p + length w} ws (next_is h).1 in omega arith

-- ---- readers and their answers

-- What reads a part where P reads a plain part.
abbrev reader : Part → Reader → List ℕ → Reader
reader Part.plain P s = P
reader Part.timed P s = timed_part P s
reader (Part.level o) P s = reading.level o (reading.below o P s) s

reader_below : (o : Op) (P : Reader) (s : List ℕ) → reader (below o) P s ≡ reading.below o P s
reader_below And P s = refl
reader_below Or P s = refl
reader_below Implies P s = refl
reader_below Iff P s = refl

-- A level's reader at p has come to the part f, which ends at q, and goes on from there.
pub record More (P : Reader) (s : List ℕ) (o : Op) (p q : ℕ) (f : Written) : Type 0 where
  fuel : ℕ
  enough : length s ≤ q + fuel
  comes : reading.level o (reading.below o P s) s p ≡ more o (reading.below o P s) s fuel f q

-- The same after a sign and its part.
record Joined (P : Reader) (s : List ℕ) (o : Op) (p q : ℕ) (f : Written) : Type 0 where
  fuel : ℕ
  enough : length s ≤ q + fuel
  comes : reading.level o (reading.below o P s) s p ≡ onward o (reading.below o P s) s fuel f q

-- And of timed parts.
pub record Timed (P : Reader) (s : List ℕ) (p q : ℕ) (f : Written) : Type 0 where
  fuel : ℕ
  enough : length s ≤ q + fuel
  comes : timed_part P s p ≡ times s fuel f q

-- Where more may follow.
abbrev GoesOn : Part → Reader → List ℕ → ℕ → ℕ → Written → Type 0
GoesOn Part.plain P s p q f = Unit {0}
GoesOn Part.timed P s p q f = Timed P s p q f
GoesOn (Part.level o) P s p q f = repeats o ≡ true → Quiet (below o) s q → More P s o p q f

-- The part from p to q is read as f, if nothing follows that goes on with it.
record Answer (P : Reader) (s : List ℕ) (k : Part) (p q : ℕ) (f : Written) : Type 0 where
  reads : Quiet k s q → reader k P s p ≡ got f q
  on : GoesOn k P s p q f

module _ (P : Reader) (s : List ℕ) where
  -- ---- timed parts

  timed_settles : {p q : ℕ} {f : Written} → Timed P s p q f → Quiet Part.timed s q → timed_part P s p ≡ got f q
  timed_settles {p} {q} {f} t h = t.comes ∙ times_none s t.fuel f q h

  timed_answer : {p q : ℕ} {f : Written} → Timed P s p q f → Answer P s Part.timed p q f
  timed_answer t = record { reads = timed_settles t; on = t }

  untimed : {p q : ℕ} {f : Written} → P p ≡ got f q → Timed P s p q f
  unfolding timed_part
  untimed {p} {q} {f} e = record { fuel = length s; enough = omega arith; comes = rw e }

  time_on : {p q r first more : ℕ} {f : Written} (b : Bool) → Timed P s p q f → TokenAt s q (time_sign b) → interval s (q + 1) ≡ Ok (first, more, r) → Timed P s p r (Written.time b first more f)
  time_on {p} {q} {r} {first} {more} {f} b t a e =
      let k = sign b a in
      let l = inside_test s q (λ x. one_of x (bytes "@?")) refl k.0 in
      let i = interval_reach s (q + 1) e in
      record {
        fuel = t.fuel - 1;
        enough = let n = t.enough in omega (arith, i.0.ahead);
        comes = t.comes ∙ times_one s t.fuel f q k.0 l t.enough ∙ rw (e, k.1);
      }
    where
      sign : (b : Bool) → TokenAt s q (time_sign b) → (one_of (peek s q) (bytes "@?") ≡ true) × (eqb (peek s q) (byte "@") ≡ b)
      sign true a = let z = starts_head s q (byte "@") [] a.stands in (rw z, rw z)
      sign false a = let z = starts_head s q (byte "?") [] a.stands in (rw z, rw z)

  -- ---- the levels

  module _ (o : Op) where
    -- One part of the level below.
    level_one : {p q : ℕ} {f : Written} → reading.below o P s p ≡ got f q → More P s o p q f
    unfolding reading.level
    level_one {p} {q} {f} e = record { fuel = length s; enough = omega arith; comes = rw e }

    more_settles : {p q : ℕ} {f : Written} → More P s o p q f → Quiet (Part.level o) s q → reading.level o (reading.below o P s) s p ≡ got f q
    more_settles {p} {q} {f} m h = m.comes ∙ more_none o (reading.below o P s) s m.fuel f q (quiet_sign o s q h)

    below_reads : {p q : ℕ} {f : Written} → Answer P s (below o) p q f → Quiet (below o) s q → reading.below o P s p ≡ got f q
    below_reads {p} {q} {f} a h = subst (λ (R : Reader). R p ≡ got f q) (reader_below o P s) (a.reads h)

    one_answer : {p q : ℕ} {f : Written} → Answer P s (below o) p q f → Answer P s (Part.level o) p q f
    one_answer {p} {q} {f} a =
        record {
          reads = λ h. let b = quiet_below o s q h in more_settles (level_one (below_reads a b)) h;
          on = λ t h. level_one (below_reads a h);
        }

    -- What stands before a sign.
    led : {p q : ℕ} {f : Written} → Answer P s (before o) p q f → Quiet (below o) s q → More P s o p q f
    led {p} {q} {f} a h = go (repeats o) refl a
      where
        go : (b : Bool) → repeats o ≡ b → Answer P s (pick b (λ _. Part.level o) (below o)) p q f → More P s o p q f
        go true i a = a.on i h
        go false i a = level_one (below_reads a h)

    -- A sign and its part.
    join_on : {p q r : ℕ} {f g : Written} → More P s o p q f → starts s q (sign_text o) ≡ true → q + length (sign_text o) ≤ r → reading.below o P s (q + length (sign_text o)) ≡ got g r
        → Joined P s o p r (Written.pair o f g)
    join_on {p} {q} {r} {f} {g} m t h e =
        let l = sign_some o in
        let n = m.enough in
        let i = sign_in o s q t in
        record { fuel = m.fuel - 1; enough = omega arith; comes = m.comes ∙ more_one o (reading.below o P s) s m.fuel f q t i n ∙ rw e }

    join_answer : {p q r : ℕ} {f g : Written} → Answer P s (before o) p q f → starts s q (sign_text o) ≡ true → q + length (sign_text o) ≤ r → Answer P s (below o) (q + length (sign_text o)) r g
        → Answer P s (Part.level o) p r (Written.pair o f g)
    join_answer {p} {q} {r} {f} {g} a t l b =
        record {
          reads = λ h. settle (repeats o) refl h (to (quiet_below o s r h));
          on = λ i h. onwards i (to h);
        }
      where
        to : Quiet (below o) s r → Joined P s o p r (Written.pair o f g)
        to h = join_on (led a (sign_quiet o s q t)) t l (below_reads b h)

        onwards : repeats o ≡ true → Joined P s o p r (Written.pair o f g) → More P s o p r (Written.pair o f g)
        onwards i j = record { fuel = j.fuel; enough = j.enough; comes = j.comes ∙ rw i }

        settle : (b : Bool) → repeats o ≡ b → Quiet (Part.level o) s r → Joined P s o p r (Written.pair o f g) → reading.level o (reading.below o P s) s p ≡ got (Written.pair o f g) r
        settle true i h j = more_settles (onwards i j) h
        settle false i h j = j.comes ∙ rw i

-- ---- plain parts

-- The spelling of a token.
token_word : {s : List ℕ} {p : ℕ} {w : List ℕ} → letter (peek s p) ≡ true → TokenAt s p w → spelling_at s p ≡ w
token_word {s} {p} l a = token_one (word_token s p l) a

keep_letter : {s : List ℕ} {p : ℕ} (b : Bool) → TokenAt s p (keep_word_lem b) → letter (peek s p) ≡ true
keep_letter {s} {p} true a = rw (starts_head s p (byte "s") (bytes "ince") a.stands)
keep_letter {s} {p} false a = rw (starts_head s p (byte "u") (bytes "ntil") a.stands)

pub word_is : (s : List ℕ) (p : ℕ) (b : Bool) → spelling_at s p ≡ keep_word_lem b → is_spelled s p (keep_word_lem b) ≡ true
word_is s p b e = keep_is s p b ∙ (same_text (keep_word_lem b) (spelling_at s p)).1 (sym e)

pub word_not : (s : List ℕ) (p : ℕ) (b : Bool) → (spelling_at s p ≡ keep_word_lem b → ⊥) → is_spelled s p (keep_word_lem b) ≡ false
word_not s p b n = go (is_spelled s p (keep_word_lem b)) refl
  where
    go : (t : Bool) → is_spelled s p (keep_word_lem b) ≡ t → is_spelled s p (keep_word_lem b) ≡ false
    go true i = absurd (n (sym ((same_text (keep_word_lem b) (spelling_at s p)).0 (sym (keep_is s p b) ∙ i))))
    go false i = i

until_not_since : bytes "until" ≡ bytes "since" → ⊥
until_not_since e = let z : byte "u" ≡ byte "s" = cc in omega arith

module _ (names : List (List ℕ)) (s : List ℕ) where
  abbrev plain : ℕ → Reader
  plain d = reading.plain_part d names s

  letter_class : (p : ℕ) → letter (peek s p) ≡ true → class_of (peek s p) ≡ Letter
  letter_class p l = (class_letter (peek s p)).1 l

  name_reads : (d : ℕ) {p q i : ℕ} {w : List ℕ} → Name w → Declared names w i → TokenAt s p w → p + length w ≡ q → plain d p ≡ got (Written.name i) q
  unfolding declared run_end
  name_reads d {p} {q} {i} {w} n k a e =
      let l = word_first s p n.word a.stands in
      let z = token_word l a in
      let since = word_not s p true (λ x. n.not_since (sym z ∙ x)) in
      let until = word_not s p false (λ x. n.not_until (sym z ∙ x)) in
      plain_letter d names s p (letter_class p l) ∙ word_name d names s p since until ∙ rw (z, k.found, lt-ltb i (length names) k.declared, e)

  not_reads : (d : ℕ) {p q : ℕ} {f : Written} → TokenAt s p (bytes "!") → plain d (p + 1) ≡ got f q → plain (suc d) p ≡ got (Written.neg f) q
  unfolding reading.plain_part inside class_of
  not_reads d {p} {q} {f} a e =
      let z = starts_head s p (byte "!") [] a.stands in
      plain_deny (suc d) names s p (rw z) z ∙ rw e

  closed_reads : {q r : ℕ} {f : Written} (R : Read Written) → R ≡ got f q → TokenAt s q (bytes ")") → q + 1 ≡ r → then_paren s R ≡ got f r
  closed_reads {q} R e a h = rw (e, starts_head s q (byte ")") [] a.stands, h)

  parens_read : (d : ℕ) {p q r : ℕ} {f : Written} → TokenAt s p (bytes "(") → reading.formula (plain d) s (p + 1) ≡ got f q → TokenAt s q (bytes ")") → q + 1 ≡ r → plain (suc d) p ≡ got f r
  unfolding reading.plain_part inside class_of
  parens_read d {p} {q} {r} {f} a e c h =
      let z = starts_head s p (byte "(") [] a.stands in
      plain_paren (suc d) names s p (rw z) z ∙ closed_reads (reading.formula (plain d) s (p + 1)) e c h

  kept_reads : (d : ℕ) {p q r t : ℕ} {f g : Written} (b : Bool) → TokenAt s p (bytes "(") → reading.formula (plain d) s (p + 1) ≡ got f q → TokenAt s q (bytes ",") → reading.formula (plain d) s (q + 1) ≡ got g r
      → TokenAt s r (bytes ")") → r + 1 ≡ t → since_until (inside (suc d) names s) b s p ≡ got (Written.keep b f g) t
  unfolding since_until inside reading.plain_part second
  kept_reads d {p} {q} {r} {t} {f} {g} b a e c k x h =
      rw (starts_head s p (byte "(") [] a.stands, e, starts_head s q (byte ",") [] c.stands)
      (closed_reads (and_then (reading.formula (plain d) s (q + 1)) (λ y u. got (Written.keep b f y) u)) (rw k) x h)

  keep_reads : (d : ℕ) {p q : ℕ} {f : Written} (b : Bool) → TokenAt s p (keep_word_lem b) → since_until (inside d names s) b s (p + 5) ≡ got f q → plain d p ≡ got f q
  keep_reads d {p} {q} {f} b a e =
      let l = keep_letter b a in
      plain_letter d names s p (letter_class p l) ∙ go b (token_word l a) ∙ e
    where
      go : (b : Bool) → spelling_at s p ≡ keep_word_lem b → name_or_keep (inside d names s) names s p ≡ since_until (inside d names s) b s (p + 5)
      go true z = word_since d names s p (word_is s p true z)
      go false z = word_until d names s p (word_not s p true (λ x. until_not_since (sym z ∙ x))) (word_is s p false z)

  -- ---- every part

  plain_answer : (d : ℕ) {p q : ℕ} {f : Written} → plain d p ≡ got f q → Answer (plain d) s Part.plain p q f
  plain_answer d e = record { reads = λ h. e; on = tt }

  -- A parenthesis or a comma goes on with nothing.
  shut_quiet : (q : ℕ) (b : ℕ) → one_of b (goes_on_lem formula) ≡ false → TokenAt s q (b ∷ []) → Quiet formula s q
  shut_quiet q b h a = rw (starts_head s q b [] a.stands) h

  complete : {k : Part} {d : ℕ} {ws : List (List ℕ)} {f : Written} → Is (Declared names) Legal k d ws f → (p q : ℕ) → Tokens s q p ws → Answer (plain d) s k p q f
  complete (Is.name {d} n k) p q t = let a = next_is t in plain_answer d (name_reads d n k a.0 (none_is a.1))
  complete (Is.not {d} h) p q t =
      let a = next_is t in
      plain_answer (suc d) (not_reads d a.0 ((complete h (p + 1) q a.1).reads refl))
  complete (Is.parens {d} {ws = ws} h) p q t =
      let a = next_is t in
      let b = tokens_part ws a.1 in
      let c = next_is b.2 in
      plain_answer (suc d) (parens_read d a.0 ((complete h (p + 1) b.0 b.1).reads (shut_quiet b.0 (byte ")") refl c.0)) c.0 (none_is c.1))
  complete (Is.keep {d} {us = us} {ws = ws} e h k) p q t =
      let a = next_is t in
      let l : p + length (keep_word_lem e) ≡ p + 5 = rw (keep_length e) in
      let b = next_is (subst (λ x. Tokens s q x (bytes "(" ∷ (us ++ (bytes "," ∷ (ws ++ (bytes ")" ∷ [])))))) l a.1) in
      let c = tokens_part us b.1 in
      let v = next_is c.2 in
      let m = tokens_part ws v.1 in
      let n = next_is m.2 in
      plain_answer (suc d)
      (keep_reads (suc d) e a.0
      (kept_reads d e b.0 ((complete h (p + 5 + 1) c.0 c.1).reads (shut_quiet c.0 (byte ",") refl v.0)) v.0
      ((complete k (c.0 + 1) m.0 m.1).reads (shut_quiet m.0 (byte ")") refl n.0)) n.0 (none_is n.1)))
  complete (Is.untimed {d} h) p q t = timed_answer (plain d) s (untimed (plain d) s ((complete h p q t).reads refl))
  complete (Is.time {d} {us = us} {ws = ws} b h i l) p q t =
      let a = tokens_part us t in
      let c = next_is a.2 in
      let e : a.0 + length (time_sign b) ≡ a.0 + 1 = rw (time_length b) in
      let z = subst (λ x. Tokens s q x ws) e c.1 in
      timed_answer (plain d) s (time_on (plain d) s b (complete h p a.0 a.1).on c.0 (interval_reads i z ∙ legal_offsets _ _ _ _ _ _ l))
  complete (Is.one {d} o h) p q t = one_answer (plain d) s o (complete h p q t)
  complete (Is.join {d} {us = us} {ws = ws} o h k) p q t =
      let a = tokens_part us t in
      let c = next_is a.2 in
      join_answer (plain d) s o (complete h p a.0 a.1) c.0.stands (tokens_ahead ws c.1) (complete k (a.0 + length (sign_text o)) q c.1)

  -- A rule is read as what it says.
  pub rule_complete : (p : ℕ) {f : Written} → Rule names s p f → rule names s p ≡ got f (length s)
  unfolding rule
  rule_complete p h =
      let z : Quiet formula s (length s) = rw (peek_out s (length s) (omega arith)) in
      let e = (complete h.is p (length s) h.stand).reads z in
      rw (e, eq-eqb (length s) (length s) refl)
