-- What the reader takes for a formula stands in the grammar for it.
-- Assumes nothing.
use mathlib.Core.Path.{◌≡◌, refl, sym, ap, subst, ◌∙◌}
use mathlib.Core.Bool.{Bool, true, false, true≢false}
use mathlib.Core.List.{List, [], ◌∷◌, ◌++◌}
use mathlib.Core.Option as option
use mathlib.Core.Option.{Option}
use Prim.Native.Nat.{ℕ, zero, suc, ◌+◌}
use borrow.Author.Tests.{eqb-true, ltb-true}
use lib.Dec.{eqb, ltb}
use lib.ListN.{length}
use Rattle.spec_limits.specs.Limits.{most_open}
use Rattle.read_bytes.specs.declared.bytes.Class.{Class}
use Rattle.read_bytes.specs.declared.bytes.Class.TheVariants.{Letter, Digit, Sign, Bracket, Other}
use Rattle.read_bytes.specs.Read.{Read, and_then}
use Rattle.read_bytes.specs.Read.Read.{got, refused}
use Rattle.read_bytes.specs.Bytes.{byte, bytes, peek, pick, one_of, letter, class_of, name_byte, starts, run_end, every}
use Rattle.read_names.specs.Spellings.{spelling_at, spelling_end, find_name, same_text_lem, is_spelled}
use Rattle.read_bytes.proofs.Answers.{not_both, same_value, same_place, through, came}
use Rattle.read_bytes.proofs.Classes.{class_letter}
use Rattle.read_names.proofs.Names.{same_text}
use Rattle.read_names.proofs.Spelling.{is_word}
use Rattle.spec_tilco.specs.Formula.{Op, And, Or, Implies, Iff, Written}
use Rattle.std.specs.Prelude.{Ok, Err}
use Rattle.read_interval.specs.Interval.{Offsets, interval}
use Rattle.read_parts.specs.FormulaText as reading
use Rattle.read_parts.specs.FormulaText.{Reader, times, timed_part, sign_text, repeats, more, in_parens, negated, then_paren, second, arguments, since_until, name_or_keep, declared, plain_part_by, plain_part_in, inside, rule}
use Rattle.spec_grammar.specs.Tokens.{TokenAt, Tokens}
use Rattle.spec_grammar.specs.Grammar.{Part, below, before, formula, keep_word_lem, time_sign, Is, Stands, Rule}
use Rattle.spec_grammar.proofs.Standing.{one_at, tokens_then, letter_word}
use Rattle.spec_grammar.proofs.Signs.{sign_token, op_sign, lone_token, word_token}
use Rattle.spec_grammar.proofs.Offsets.{interval_stands}

-- The token of @ or ?.
pub time_token : (s : List ℕ) (p : ℕ) → one_of (peek s p) (bytes "@?") ≡ true → TokenAt s p (time_sign (eqb (peek s p) (byte "@")))
time_token s p e = go (eqb (peek s p) (byte "@")) refl (eqb (peek s p) (byte "?")) refl e
  where
    go : (b : Bool) → eqb (peek s p) (byte "@") ≡ b → (c : Bool) → eqb (peek s p) (byte "?") ≡ c → one_of (peek s p) (bytes "@?") ≡ true → TokenAt s p (time_sign (eqb (peek s p) (byte "@")))
    go true i c j f = rw i (lone_token s p refl (eqb-true (peek s p) (byte "@") i))
    go false i true j f = rw i (lone_token s p refl (eqb-true (peek s p) (byte "?") j))
    go false i false j f = absurd (true≢false (sym (rw (i, j) at f)))

pub time_length : (b : Bool) → length (time_sign b) ≡ 1
time_length true = refl
time_length false = refl

pub keep_length : (b : Bool) → length (keep_word_lem b) ≡ 5
keep_length true = refl
keep_length false = refl

-- Is the word at p since (with true) or until?
pub keep_is : (s : List ℕ) (p : ℕ) (b : Bool) → is_spelled s p (keep_word_lem b) ≡ same_text_lem (keep_word_lem b) (spelling_at s p)
unfolding every name_byte
keep_is s p true = is_word s p (bytes "since") refl
keep_is s p false = is_word s p (bytes "until") refl

pub this_word : (s : List ℕ) (p : ℕ) (b : Bool) → is_spelled s p (keep_word_lem b) ≡ true → spelling_at s p ≡ keep_word_lem b
this_word s p b e = sym ((same_text (keep_word_lem b) (spelling_at s p)).0 (sym (keep_is s p b) ∙ e))

pub other_word : (s : List ℕ) (p : ℕ) (b : Bool) → is_spelled s p (keep_word_lem b) ≡ false → spelling_at s p ≡ keep_word_lem b → ⊥
other_word s p b e i = true≢false (sym ((same_text (keep_word_lem b) (spelling_at s p)).1 (sym i)) ∙ sym (keep_is s p b) ∙ e)

-- A test let the reading go on.
passed : (b : Bool) (R : Read Written) (n p : ℕ) {f : Written} {q : ℕ} → pick b (λ _. R) (refused n p) ≡ got f q → (b ≡ true) × (R ≡ got f q)
passed true R n p e = (refl, e)
passed false R n p e = absurd (not_both (sym e))

-- The second formula of since or until, after a comma at u.
record Second (s : List ℕ) (b : Bool) (F : Reader) (f : Written) (u : ℕ) (g : Written) (r : ℕ) : Type 0 where
  comma : TokenAt s u (bytes ",")
  value : Written
  place : ℕ
  second : F (u + 1) ≡ got value place
  closes : TokenAt s place (bytes ")")
  same : got (Written.keep b f value) (place + 1) ≡ got g r

module _ (names : List (List ℕ)) (s : List ℕ) where
  -- What P reads is a part of the kind k, with d to be opened.
  abbrev Sound : Part → ℕ → Reader → Type 0
  Sound k d P = (p : ℕ) (f : Written) (q : ℕ) → P p ≡ got f q → Stands names s k d p q f

  moved : {k : Part} {d p q r : ℕ} {f g : Written} → Stands names s k d p q f → got f q ≡ got g r → Stands names s k d p r g
  moved {k} {d} {p} {q} {r} {f} {g} h e = subst (λ x. Stands names s k d p x g) (same_place e) (subst (Stands names s k d p q) (same_value e) h)

  -- ---- timed parts

  timed_on : {d p q r first more : ℕ} {f : Written} → Stands names s Part.timed d p q f → one_of (peek s q) (bytes "@?") ≡ true → interval s (q + 1) ≡ Ok (first, more, r)
      → Stands names s Part.timed d p r (Written.time (eqb (peek s q) (byte "@")) first more f)
  timed_on {q = q} h t e =
      let a = time_token s q t in
      let i = interval_stands s (q + 1) e in
      let l = time_length (eqb (peek s q) (byte "@")) in
      record {
        tokens = h.tokens ++ (time_sign (eqb (peek s q) (byte "@")) ∷ i.tokens);
        stand = tokens_then h.tokens h.stand (Tokens.next a (rw l i.stand));
        is = Is.time (eqb (peek s q) (byte "@")) h.is i.interval i.legal;
      }

  times_sound : (n d p q : ℕ) (f : Written) {g : Written} {r : ℕ} → Stands names s Part.timed d p q f → times s n f q ≡ got g r → Stands names s Part.timed d p r g
  unfolding times
  times_sound zero d p q f h e = moved h e
  times_sound (suc n) d p q f {g} {r} h e = go (one_of (peek s q) (bytes "@?")) refl (interval s (q + 1)) refl (λ first more u k. times_sound n d p u (Written.time (eqb (peek s q) (byte "@")) first more f) k)
    where
      go : (b : Bool) → one_of (peek s q) (bytes "@?") ≡ b → (S : Offsets) → interval s (q + 1) ≡ S
          → ((first more u : ℕ) → Stands names s Part.timed d p u (Written.time (eqb (peek s q) (byte "@")) first more f) → times s n (Written.time (eqb (peek s q) (byte "@")) first more f) u ≡ got g r → Stands names s Part.timed d p r g)
          → Stands names s Part.timed d p r g
      go true t (Ok (first, more, u)) i k = k first more u (timed_on h t i) (rw (t, i) at e)
      go true t (Err r) i k = absurd (not_both (sym (rw (t, i) at e)))
      go false t S i k = moved h (rw t at e)

  timed_sound : (d : ℕ) (P : Reader) → Sound Part.plain d P → Sound Part.timed d (timed_part P s)
  unfolding timed_part
  timed_sound d P h p g r e =
      let c = came (P p) (λ f q. times s (length s) f q) e in
      let a = h p _ _ c.first in
      times_sound (length s) d p c.place c.value (record { tokens = a.tokens; stand = a.stand; is = Is.untimed a.is }) c.then

  -- ---- the levels

  module _ (o : Op) where
    one : {d p q : ℕ} {f : Written} → Stands names s (below o) d p q f → Stands names s (Part.level o) d p q f
    one a = record { tokens = a.tokens; stand = a.stand; is = Is.one o a.is }

    begins : {d p q : ℕ} {f : Written} → Stands names s (below o) d p q f → Stands names s (before o) d p q f
    begins {d} {p} {q} {f} a = go (repeats o)
      where
        go : (b : Bool) → Stands names s (pick b (λ _. Part.level o) (below o)) d p q f
        go true = one a
        go false = a

    ends : {d p q : ℕ} {f : Written} → Stands names s (before o) d p q f → Stands names s (Part.level o) d p q f
    ends {d} {p} {q} {f} = go (repeats o)
      where
        go : (b : Bool) → Stands names s (pick b (λ _. Part.level o) (below o)) d p q f → Stands names s (Part.level o) d p q f
        go true a = a
        go false a = one a

    joined : {d p q r : ℕ} {f g : Written} → Stands names s (before o) d p q f → starts s q (sign_text o) ≡ true → Stands names s (below o) d (q + length (sign_text o)) r g
        → Stands names s (Part.level o) d p r (Written.pair o f g)
    joined {q = q} a t b =
        record {
          tokens = a.tokens ++ (sign_text o ∷ b.tokens);
          stand = tokens_then a.tokens a.stand (Tokens.next (sign_token s q (op_sign o) t) b.stand);
          is = Is.join o a.is b.is;
        }

    more_sound : (d : ℕ) (P : Reader) → Sound (below o) d P → (n p q : ℕ) (f : Written) {g : Written} {r : ℕ} → Stands names s (before o) d p q f → more o P s n f q ≡ got g r → Stands names s (Part.level o) d p r g
    unfolding more
    more_sound d P h zero p q f a e = moved (ends a) e
    more_sound d P h (suc n) p q f {g} {r} a e = go (starts s q (sign_text o)) refl (λ u x k. more_sound d P h n p u x k)
      where
        go : (b : Bool) → starts s q (sign_text o) ≡ b → ((u : ℕ) (x : Written) → Stands names s (before o) d p u x → more o P s n x u ≡ got g r → Stands names s (Part.level o) d p r g)
            → Stands names s (Part.level o) d p r g
        go true t k =
            let c = came (P (q + length (sign_text o))) _ (rw t at e) in
            let j = joined a t (h (q + length (sign_text o)) _ _ c.first) in
            on (repeats o) refl c.place (Written.pair o f c.value) j c.then
          where
            on : (b : Bool) → repeats o ≡ b → (u : ℕ) (x : Written) → Stands names s (Part.level o) d p u x → pick (repeats o) (λ _. more o P s n x u) (got x u) ≡ got g r → Stands names s (Part.level o) d p r g
            on true i u x j m = k u x (subst (λ b. Stands names s (pick b (λ _. Part.level o) (below o)) d p u x) (sym i) j) (rw i at m)
            on false i u x j m = moved j (rw i at m)
        go false t k = moved (ends a) (rw t at e)

    level_sound : (d : ℕ) (P : Reader) → Sound (below o) d P → Sound (Part.level o) d (reading.level o P s)
    unfolding reading.level
    level_sound d P h p g r e =
        let c = came (P p) (λ f q. more o P s (length s) f q) e in
        more_sound d P h (length s) p c.place c.value (begins (h p _ _ c.first)) c.then

  formula_sound : (d : ℕ) (P : Reader) → Sound Part.plain d P → Sound formula d (reading.formula P s)
  formula_sound d P h = level_sound Iff d _ (level_sound Implies d _ (level_sound Or d _ (level_sound And d _ (timed_sound d P h))))

  -- ---- plain parts

  -- What reads inside, with d to be opened there and here.
  data Inner : Option Reader → ℕ → Type 0 where
    shut : {d : ℕ} → Inner option.none d
    opens : {d : ℕ} {P : Reader} → Sound Part.plain d P → Inner (option.some P) (suc d)

  negated_sound : {I : Option Reader} {d : ℕ} → Inner I d → (p : ℕ) (f : Written) (q : ℕ) → peek s p ≡ byte "!" → negated I p ≡ got f q → Stands names s Part.plain d p q f
  negated_sound shut p f q t e = absurd (not_both (sym e))
  negated_sound (opens {P = P} h) p f q t e =
      let c = came (P (p + 1)) (λ g r. got (Written.neg g) r) e in
      let a = h (p + 1) _ _ c.first in
      moved (record { tokens = bytes "!" ∷ a.tokens; stand = Tokens.next (lone_token s p refl t) a.stand; is = Is.not a.is }) c.then

  -- What a closing parenthesis follows.
  closed_is : (R : Read Written) {f : Written} {q : ℕ} → then_paren s R ≡ got f q → (u : ℕ) × (R ≡ got f u) × TokenAt s u (bytes ")") × (u + 1 ≡ q)
  closed_is R e =
      let c = came R (λ g u. pick (eqb (peek s u) (byte ")")) (λ _. got g (u + 1)) (refused 5 u)) e in
      let t = through (eqb (peek s c.place) (byte ")")) c.value (c.place + 1) 5 c.place c.then in
      (c.place, c.first ∙ ap (λ x. got x c.place) t.1, lone_token s c.place refl (eqb-true (peek s c.place) (byte ")") t.0), t.2)

  second_is : (b : Bool) (F : Reader) (f : Written) (u : ℕ) {g : Written} {r : ℕ} → second b F s f u ≡ got g r → Second s b F f u g r
  unfolding second
  second_is b F f u e =
      let k = passed (eqb (peek s u) (byte ",")) _ 5 u e in
      let c = closed_is (and_then (F (u + 1)) (λ x q. got (Written.keep b f x) q)) k.1 in
      let d = came (F (u + 1)) (λ x q. got (Written.keep b f x) q) c.1 in
      record {
        comma = lone_token s u refl (eqb-true (peek s u) (byte ",") k.0);
        value = d.value;
        place = d.place;
        second = d.first;
        closes = subst (λ x. TokenAt s x (bytes ")")) (sym (same_place d.then)) c.2;
        same = let i = same_place d.then in let j = same_value d.then in let m = c.3 in cc;
      }

  parens_sound : {I : Option Reader} {d : ℕ} → Inner I d → (p : ℕ) (f : Written) (q : ℕ) → peek s p ≡ byte "(" → in_parens I s p ≡ got f q → Stands names s Part.plain d p q f
  parens_sound shut p f q t e = absurd (not_both (sym e))
  parens_sound (opens {d} {P} h) p f q t e =
      let c = closed_is (reading.formula P s (p + 1)) e in
      let a = formula_sound d P h (p + 1) f c.0 c.1 in
      record {
        tokens = bytes "(" ∷ (a.tokens ++ (bytes ")" ∷ []));
        stand = Tokens.next (lone_token s p refl t) (tokens_then a.tokens a.stand (one_at c.2 c.3));
        is = Is.parens a.is;
      }

  -- since or until, from its word on.
  kept_sound : {I : Option Reader} {d : ℕ} → Inner I d → (b : Bool) (p : ℕ) (f : Written) (q : ℕ) → TokenAt s p (keep_word_lem b) → since_until I b s (p + 5) ≡ got f q → Stands names s Part.plain d p q f
  unfolding since_until
  kept_sound shut b p f q t e = let k = passed (eqb (peek s (p + 5)) (byte "(")) (refused 8 (p + 5)) 5 (p + 5) e in absurd (not_both (sym k.1))
  kept_sound (opens {d} {P} h) b p f q t e =
      let k = passed (eqb (peek s (p + 5)) (byte "(")) (arguments (option.some P) b s (p + 5)) 5 (p + 5) e in
      let c = came (reading.formula P s (p + 5 + 1)) (λ g u. second b (reading.formula P s) s g u) k.1 in
      two b (lone_token s (p + 5) refl (eqb-true (peek s (p + 5)) (byte "(") k.0)) (formula_sound d P h (p + 5 + 1) c.value c.place c.first) c.then t
    where
      two : (b : Bool) {f₁ : Written} {u : ℕ} → TokenAt s (p + 5) (bytes "(") → Stands names s formula d (p + 5 + 1) u f₁ → second b (reading.formula P s) s f₁ u ≡ got f q → TokenAt s p (keep_word_lem b) → Stands names s Part.plain (suc d) p q f
      two b {f₁} {u} l a m w =
          let v = second_is b (reading.formula P s) f₁ u m in
          let g = formula_sound d P h (u + 1) v.value v.place v.second in
          moved
          (record {
            tokens = keep_word_lem b ∷ bytes "(" ∷ (a.tokens ++ (bytes "," ∷ (g.tokens ++ (bytes ")" ∷ []))));
            stand = Tokens.next w (rw (keep_length b) (Tokens.next l (tokens_then a.tokens a.stand (Tokens.next v.comma (tokens_then g.tokens g.stand (one_at v.closes refl))))));
            is = Is.keep b a.is g.is;
          })
          v.same

  -- ---- words

  -- Names.
  declared_sound : (d p : ℕ) (f : Written) (q : ℕ) → letter (peek s p) ≡ true → is_spelled s p (bytes "since") ≡ false → is_spelled s p (bytes "until") ≡ false → declared names s p ≡ got f q → Stands names s Part.plain d p q f
  unfolding declared run_end
  declared_sound d p f q l a b e =
      let t = through (ltb (find_name (spelling_at s p) names) (length names)) (Written.name (find_name (spelling_at s p) names)) (spelling_end s p) 6 p e in
      moved
      (record {
        tokens = spelling_at s p ∷ [];
        stand = one_at (word_token s p l) refl;
        is =
            Is.name (record { word = letter_word s p l; not_since = other_word s p true a; not_until = other_word s p false b })
            (record { found = refl; declared = ltb-true (find_name (spelling_at s p) names) (length names) t.0 });
      })
      (let i = t.1 in let j = t.2 in cc)

  worded_sound : {I : Option Reader} {d : ℕ} → Inner I d → (p : ℕ) (f : Written) (q : ℕ) → letter (peek s p) ≡ true → name_or_keep I names s p ≡ got f q → Stands names s Part.plain d p q f
  unfolding name_or_keep
  worded_sound {I} {d} h p f q l e = go (is_spelled s p (bytes "since")) refl (is_spelled s p (bytes "until")) refl
    where
      go : (a : Bool) → is_spelled s p (bytes "since") ≡ a → (b : Bool) → is_spelled s p (bytes "until") ≡ b → Stands names s Part.plain d p q f
      go true i b j = kept_sound h true p f q (rw (this_word s p true i) at (word_token s p l)) (rw i at e)
      go false i true j = kept_sound h false p f q (rw (this_word s p false j) at (word_token s p l)) (rw (i, j) at e)
      go false i false j = declared_sound d p f q l i j (rw (i, j) at e)

  plain_by : {I : Option Reader} {d : ℕ} → Inner I d → (k : Class) (p : ℕ) (f : Written) (q : ℕ) → class_of (peek s p) ≡ k → plain_part_by k I names s p ≡ got f q → Stands names s Part.plain d p q f
  plain_by h Letter p f q c e = worded_sound h p f q ((class_letter (peek s p)).0 c) e
  plain_by h Digit p f q c e = absurd (not_both (sym e))
  plain_by {I} h Sign p f q c e =
      let k = passed (eqb (peek s p) (byte "!")) (negated I p) 5 p e in
      negated_sound h p f q (eqb-true (peek s p) (byte "!") k.0) k.1
  plain_by {I} h Bracket p f q c e =
      let k = passed (eqb (peek s p) (byte "(")) (in_parens I s p) 5 p e in
      parens_sound h p f q (eqb-true (peek s p) (byte "(") k.0) k.1
  plain_by h Other p f q c e = absurd (not_both (sym e))

  plain_sound : {I : Option Reader} {d : ℕ} → Inner I d → Sound Part.plain d (plain_part_in I names s)
  unfolding plain_part_in
  plain_sound h p f q e = plain_by h (class_of (peek s p)) p f q refl e

  inner_inside : (d : ℕ) → Inner (inside d names s) d
  unfolding inside
  inner_inside zero = shut
  inner_inside (suc d) = opens (plain_sound (inner_inside d))

  -- What is read as a rule is one.
  pub rule_sound : (p : ℕ) {f : Written} {q : ℕ} → rule names s p ≡ got f q → Rule names s p f × (q ≡ length s)
  unfolding rule reading.plain_part
  rule_sound p {f} {q} e =
      let c = came (reading.formula (reading.plain_part most_open names s) s p) (λ g r. pick (eqb r (length s)) (λ _. got g r) (refused 5 r)) e in
      let t = through (eqb c.place (length s)) c.value c.place 5 c.place c.then in
      let i = eqb-true c.place (length s) t.0 in
      let a = formula_sound most_open (plain_part_in (inside most_open names s) names s) (plain_sound (inner_inside most_open)) p _ _ c.first in
      (moved a (let j = t.1 in cc), sym t.2 ∙ i)
