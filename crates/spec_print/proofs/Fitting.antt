-- Whatever tokens a formula was read from, those that are printed of it stand in the grammar too, at the same place and with no more open at once; and they
-- have no more `(`, and at most twice as many bytes.
-- Assumes nothing.
use mathlib.Core.Path.{◌≡◌, refl, sym, ap, subst, ◌∙◌}
use mathlib.Core.Bool.{Bool, true, false}
use mathlib.Core.List.{List, [], ◌∷◌, ◌++◌, flatten}
use Prim.Native.Nat.{ℕ, zero, suc, ◌+◌, ◌-◌, ◌*◌, ◌<◌, ◌≤◌}
use native.Mathlib.Decide.{dec_lt, dec_le}
use native.Mathlib.Omega.{arith}
use borrow.Author.Tests.{ltb-true, ltb-false}
use lib.ListN.{length, get_or}
use Rattle.read_bytes.specs.Bytes.{bytes}
use Rattle.read_names.proofs.Names.{find_is}
use Rattle.spec_tilco.specs.Formula.{Op, And, Or, Implies, Iff, Written}
use Rattle.read_parts.specs.FormulaText.{sign_text}
use Rattle.spec_grammar.specs.Grammar.{Part, formula, before, below, keep_word_lem, time_sign, Name, Interval, Is, Declared, Legal}
use Rattle.spec_grammar.specs.Grammar.Part.{plain, timed, level}
use Rattle.spec_grammar.proofs.Walk.{deeper}
use Rattle.spec_print.specs.RuleTexts.{rank, part_of, needed, interval_tokens, tokens, tokens_in}
use Rattle.spec_print.specs.Parentheses.{opened}
use Rattle.spec_print.proofs.Counts.{one, long, opens, long_next, opens_next, long_append, opens_append, enclosed_long, enclosed_opens}
use Rattle.spec_print.proofs.IntervalTexts.{interval_printed, legal_near, interval_some}

-- ---- what may stand where a higher part may

-- A part is known by its rank.
part_at : ℕ → Part
part_at zero = plain
part_at (suc zero) = timed
part_at (suc (suc zero)) = level And
part_at (suc (suc (suc zero))) = level Or
part_at (suc (suc (suc (suc zero)))) = level Implies
part_at (suc (suc (suc (suc (suc n))))) = level Iff

part_ranked : (j : Part) → part_at (rank j) ≡ j
unfolding part_at
part_ranked plain = refl
part_ranked timed = refl
part_ranked (level And) = refl
part_ranked (level Or) = refl
part_ranked (level Implies) = refl
part_ranked (level Iff) = refl

same_part : {j k : Part} → rank j ≡ rank k → j ≡ k
same_part {j} {k} e = sym (part_ranked j) ∙ ap part_at e ∙ part_ranked k

rank_below : (o : Op) → rank (level o) ≡ suc (rank (below o))
rank_below And = refl
rank_below Or = refl
rank_below Implies = refl
rank_below Iff = refl

pub rank_most : (j : Part) → rank j ≤ rank formula
rank_most plain = omega arith
rank_most timed = omega arith
rank_most (level And) = omega arith
rank_most (level Or) = omega arith
rank_most (level Implies) = omega arith
rank_most (level Iff) = omega arith

-- What holds of a part holds of each higher one, if it goes up from plain to timed parts and from each level's parts to the level.
module _ (T : Part → Type 0) (untimed : T plain → T timed) (one_of_lem : (o : Op) → T (below o) → T (level o)) where
  abbrev Climbs : Part → Type 0
  Climbs k = (j : Part) → rank j ≤ rank k → T j → T k

  same_rank : {j k : Part} → rank j ≡ rank k → T j → T k
  same_rank e x = subst T (same_part e) x

  climb_timed : Climbs timed
  climb_timed j h x = go (dec_le (rank j) 0)
    where
      go : Dec (rank j ≤ 0) → T timed
      go (yes l) = untimed (same_rank {k = plain} (omega arith) x)
      go (no l) = same_rank (omega arith) x

  climb_level : (o : Op) → Climbs (below o) → Climbs (level o)
  climb_level o lower j h x = go (dec_le (rank j) (rank (below o)))
    where
      go : Dec (rank j ≤ rank (below o)) → T (level o)
      go (yes l) = one_of_lem o (lower j l x)
      go (no l) = same_rank (omega (arith, rank_below o)) x

  climb_any : (k : Part) → Climbs k
  climb_any plain = λ j h x. same_rank (omega arith) x
  climb_any timed = climb_timed
  climb_any (level And) = climb_level And climb_timed
  climb_any (level Or) = climb_level Or (climb_level And climb_timed)
  climb_any (level Implies) = climb_level Implies (climb_level Or (climb_level And climb_timed))
  climb_any (level Iff) = climb_level Iff (climb_level Implies (climb_level Or (climb_level And climb_timed)))

module _ {N : List ℕ → ℕ → Type 0} {I : ℕ → ℕ → ℕ → ℕ → ℕ → ℕ → Type 0} {ws : List (List ℕ)} {f : Written} where
  climb : {d : ℕ} {j k : Part} → rank j ≤ rank k → Is N I j d ws f → Is N I k d ws f
  climb {d} {j} {k} h x = climb_any (λ i. Is N I i d ws f) (λ y. Is.untimed y) (λ o y. Is.one o y) k j h x

  -- With more open than need be.
  more_open : {d e : ℕ} {k : Part} → d ≤ e → Is N I k d ws f → Is N I k e ws f
  more_open {d} {e} {k} h x = let z : e - d + d ≡ e = omega arith in subst (λ n. Is N I k n ws f) z (deeper N I (e - d) x)

-- ---- parentheses where they are needed

-- They are needed around a part of a higher rank, and around no other.
above_needed : (k : Part) (f : Written) → needed k f ≡ true → rank k < rank (part_of f)
above_needed k f e = omega (arith, ltb-true)

needed_above : (k : Part) (f : Written) → rank k < rank (part_of f) → needed k f ≡ true
needed_above k f h = go (needed k f) refl
  where
    go : (b : Bool) → needed k f ≡ b → needed k f ≡ true
    go true e = e
    go false e = absurd (omega (arith, ltb-false))

not_needed : (k : Part) (f : Written) → rank (part_of f) ≤ rank k → needed k f ≡ false
not_needed k f h = go (needed k f) refl
  where
    go : (b : Bool) → needed k f ≡ b → needed k f ≡ false
    go true e = let l = above_needed k f e in absurd (omega arith)
    go false e = e

module _ (names : List (List ℕ)) where
  -- What is printed of f, where its tokens were ws and a part k stood, with at most d open.
  pub record Fits (k : Part) (d : ℕ) (ws : List (List ℕ)) (f : Written) : Type 0 where
    pub depth : ℕ
    pub is : Is (Declared names) Legal (part_of f) depth (tokens names f) f
    pub shallow : depth + one (needed k f) ≤ d
    pub few : opens (tokens names f) + one (needed k f) ≤ opens ws
    pub short : long (tokens names f) + 2 * one (needed k f) ≤ 2 * long ws

  -- It is a part k.
  pub fitted : {k : Part} {d : ℕ} {ws : List (List ℕ)} {f : Written} → Fits k d ws f → Is (Declared names) Legal k d (tokens_in names k f) f
  fitted {k} {d} {ws} {f} x = go (dec_lt (rank k) (rank (part_of f)))
    where
      go : Dec (rank k < rank (part_of f)) → Is (Declared names) Legal k d (tokens_in names k f) f
      go (yes l) =
          let e = needed_above k f l in
          let h : x.depth + 1 ≤ d = rw e at x.shallow in
          rw e (more_open (omega arith) (climb (omega arith) (Is.parens (climb (rank_most (part_of f)) x.is))))
      go (no l) =
          let e = not_needed k f (omega arith) in
          let h : x.depth + 0 ≤ d = rw e at x.shallow in
          rw e (more_open (omega arith) (climb (omega arith) x.is))

  -- A part may stand where a higher one may.
  one_less : (b c : Bool) → (b ≡ true → c ≡ true) → one b ≤ one c
  one_less true c h = rw (h refl) (omega arith)
  one_less false c h = omega arith

  higher : {j k : Part} {d : ℕ} {ws : List (List ℕ)} {f : Written} → rank j ≤ rank k → Fits j d ws f → Fits k d ws f
  higher {j} {k} {d} {ws} {f} h x =
      let l = one_less (needed k f) (needed j f) (λ e. let l = above_needed k f e in needed_above j f (omega arith)) in
      record { depth = x.depth; is = x.is; shallow = omega (arith, x.shallow); few = omega (arith, x.few); short = omega (arith, x.short) }

  -- What is its own part needs no parentheses.
  own : {k : Part} {d : ℕ} {ws : List (List ℕ)} {f : Written} → part_of f ≡ k → Is (Declared names) Legal (part_of f) d (tokens names f) f → opens (tokens names f) ≤ opens ws → long (tokens names f) ≤ 2 * long ws → Fits k d ws f
  own {k} {d} {ws} {f} p x o l =
      let r = ap rank p in
      let e = not_needed k f (omega arith) in
      record { depth = d; is = x; shallow = rw e (omega arith); few = rw e (omega arith); short = rw e (omega arith) }

  -- Where parentheses stood, there are none or the same.
  in_parens_lem : {d : ℕ} {ws : List (List ℕ)} {f : Written} → Fits formula d ws f → Fits plain (suc d) (bytes "(" ∷ (ws ++ (bytes ")" ∷ []))) f
  in_parens_lem {d} {ws} {f} x =
      let e = not_needed formula f (rank_most (part_of f)) in
      let l = one_less (needed plain f) true (λ _. refl) in
      record {
        depth = x.depth;
        is = x.is;
        shallow = omega (arith, rw e at x.shallow);
        few = omega (arith, rw e at x.few, enclosed_opens true ws);
        short = omega (arith, rw e at x.short, enclosed_long true ws);
      }

  -- The bytes and the `(` of a part in its place are at most those that were read.
  pub few_in : {k : Part} {d : ℕ} {ws : List (List ℕ)} {f : Written} → Fits k d ws f → opens (tokens_in names k f) ≤ opens ws
  few_in {k} {d} {ws} {f} x = omega (arith, x.few, enclosed_opens (needed k f) (tokens names f))

  pub short_in : {k : Part} {d : ℕ} {ws : List (List ℕ)} {f : Written} → Fits k d ws f → long (tokens_in names k f) ≤ 2 * long ws
  short_in {k} {d} {ws} {f} x = omega (arith, x.short, enclosed_long (needed k f) (tokens names f))

  named : {d i : ℕ} {w : List ℕ} → Name w → Declared names w i → Fits plain d (w ∷ []) (Written.name i)
  unfolding tokens
  named {d} {i} {w} n h =
      let e : get_or names i [] ≡ w = rw h.found at (find_is w names (rw h.found h.declared)) in
      own refl (Is.name (subst Name (sym e) n) (subst (λ v. Declared names v i) (sym e) h)) (rw e (omega arith)) (rw e (omega arith))

  not : {d : ℕ} {ws : List (List ℕ)} {f : Written} → Fits plain d ws f → Fits plain (suc d) (bytes "!" ∷ ws) (Written.neg f)
  unfolding tokens opened
  not {d} {ws} {f} x =
      own refl (Is.not (fitted x))
      (omega (arith, few_in x, opens_next (bytes "!") ws, opens_next (bytes "!") (tokens_in names plain f)))
      (omega (arith, short_in x, long_next (bytes "!") ws, long_next (bytes "!") (tokens_in names plain f)))

  timed_part_lem : {d o v w c first more : ℕ} {us ws : List (List ℕ)} {f : Written} (b : Bool) → Fits timed d us f → Interval ws o v w c → Legal o v w c first more
      → Fits timed d (us ++ (time_sign b ∷ ws)) (Written.time b first more f)
  unfolding tokens
  timed_part_lem {first = first} {more} {us} {ws} {f} b x i l =
      let n = legal_near l in
      let p = interval_printed first more n.0 n.1 in
      let t = tokens_in names timed f in
      own refl (Is.time b (fitted x) p.is p.legal)
      (omega (arith, few_in x, p.none_opened, opens_append us (time_sign b ∷ ws), opens_next (time_sign b) ws, opens_append t (time_sign b ∷ interval_tokens first more), opens_next (time_sign b) (interval_tokens first more)))
      (omega (arith, short_in x, p.short, interval_some i, long_append us (time_sign b ∷ ws), long_next (time_sign b) ws, long_append t (time_sign b ∷ interval_tokens first more), long_next (time_sign b) (interval_tokens first more)))

  joined : {d : ℕ} {us ws : List (List ℕ)} {f g : Written} (o : Op) → Fits (before o) d us f → Fits (below o) d ws g → Fits (level o) d (us ++ (sign_text o ∷ ws)) (Written.pair o f g)
  unfolding tokens
  joined {d} {us} {ws} {f} {g} o x y =
      let s = tokens_in names (before o) f in
      let t = tokens_in names (below o) g in
      own refl (Is.join o (fitted x) (fitted y))
      (omega (arith, few_in x, few_in y, opens_append us (sign_text o ∷ ws), opens_next (sign_text o) ws, opens_append s (sign_text o ∷ t), opens_next (sign_text o) t))
      (omega (arith, short_in x, short_in y, long_append us (sign_text o ∷ ws), long_next (sign_text o) ws, long_append s (sign_text o ∷ t), long_next (sign_text o) t))

  -- The texts of since and until with two arguments.
  keep_opens : (b : Bool) (us ws : List (List ℕ)) → opens (keep_word_lem b ∷ bytes "(" ∷ (us ++ (bytes "," ∷ (ws ++ (bytes ")" ∷ []))))) ≡ opened (keep_word_lem b) + (opens us + opens ws + 1)
  unfolding opened flatten
  keep_opens b us ws =
      omega
      (arith, opens_next (keep_word_lem b) (bytes "(" ∷ (us ++ (bytes "," ∷ (ws ++ (bytes ")" ∷ []))))), opens_next (bytes "(") (us ++ (bytes "," ∷ (ws ++ (bytes ")" ∷ [])))), opens_append us (bytes "," ∷ (ws ++ (bytes ")" ∷ []))), opens_next (bytes ",") (ws ++ (bytes ")" ∷ [])), opens_append ws (bytes ")" ∷ []))

  keep_long : (b : Bool) (us ws : List (List ℕ)) → long (keep_word_lem b ∷ bytes "(" ∷ (us ++ (bytes "," ∷ (ws ++ (bytes ")" ∷ []))))) ≡ length (keep_word_lem b) + (long us + long ws + 3)
  unfolding flatten
  keep_long b us ws =
      omega
      (arith, long_next (keep_word_lem b) (bytes "(" ∷ (us ++ (bytes "," ∷ (ws ++ (bytes ")" ∷ []))))), long_next (bytes "(") (us ++ (bytes "," ∷ (ws ++ (bytes ")" ∷ [])))), long_append us (bytes "," ∷ (ws ++ (bytes ")" ∷ []))), long_next (bytes ",") (ws ++ (bytes ")" ∷ [])), long_append ws (bytes ")" ∷ []))

  kept : {d : ℕ} {us ws : List (List ℕ)} {f g : Written} (b : Bool) → Fits formula d us f → Fits formula d ws g
      → Fits plain (suc d) (keep_word_lem b ∷ bytes "(" ∷ (us ++ (bytes "," ∷ (ws ++ (bytes ")" ∷ []))))) (Written.keep b f g)
  unfolding tokens
  kept {d} {us} {ws} {f} {g} b x y =
      let s = tokens_in names formula f in
      let t = tokens_in names formula g in
      own refl (Is.keep b (fitted x) (fitted y)) (omega (arith, few_in x, few_in y, keep_opens b us ws, keep_opens b s t)) (omega (arith, short_in x, short_in y, keep_long b us ws, keep_long b s t))

  -- Whatever was read.
  pub fits : {k : Part} {d : ℕ} {ws : List (List ℕ)} {f : Written} → Is (Declared names) Legal k d ws f → Fits k d ws f
  fits (Is.name n h) = named n h
  fits (Is.not h) = not (fits h)
  fits (Is.parens h) = in_parens_lem (fits h)
  fits (Is.keep b h k) = kept b (fits h) (fits k)
  fits (Is.untimed h) = higher (omega arith) (fits h)
  fits (Is.time b h i l) = timed_part_lem b (fits h) i l
  fits (Is.one o h) = higher (omega (arith, rank_below o)) (fits h)
  fits (Is.join o h k) = joined o (fits h) (fits k)
