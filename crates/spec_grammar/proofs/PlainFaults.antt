-- Refusals inside a plain part, and inside a rule.
-- Assumes nothing.
use mathlib.Core.Path.{◌≡◌, refl, sym, ap, subst, ◌∙◌}
use mathlib.Core.Bool.{Bool, true, false, true≢false}
use mathlib.Core.List.{List, [], ◌∷◌, ◌++◌, append_assoc, append-nil}
use mathlib.Core.Option as option
use mathlib.Core.Option.{Option}
use Prim.Native.Nat.{ℕ, zero, suc, ◌+◌}
use native.Mathlib.Omega.{arith}
use borrow.Author.Tests.{eqb-true, eqb-false, ltb-true, ltb-false}
use lib.Dec.{eqb, ltb}
use lib.ListN.{length}
use Rattle.spec_limits.specs.Limits.{most_open}
use Rattle.read_bytes.specs.declared.bytes.Class.{Class}
use Rattle.read_bytes.specs.declared.bytes.Class.TheVariants.{Letter, Digit, Sign, Bracket, Other}
use Rattle.read_bytes.specs.Read.{Read, and_then}
use Rattle.read_bytes.specs.Read.Read.{got, refused}
use Rattle.read_bytes.specs.Bytes.{byte, bytes, peek, pick, one_of, letter, class_of, starts, run_end}
use Rattle.read_names.specs.Spellings.{spelling_at, find_name, same_text_lem, is_spelled}
use Rattle.read_bytes.proofs.Classes.{tag, class_letter}
use Rattle.read_names.proofs.Names.{same_text}
use Rattle.spec_tilco.specs.Formula.{Op, And, Or, Implies, Iff, Written}
use Rattle.read_parts.specs.FormulaText as reading
use Rattle.read_parts.specs.FormulaText.{Reader, negated, then_paren, in_parens, second, arguments, since_until, name_or_keep, declared, plain_part_by, plain_part_in, inside, rule}
use Rattle.spec_grammar.specs.Tokens.{TokenAt, Tokens}
use Rattle.spec_grammar.specs.Grammar.{Part, formula, keep_word_lem, Name, Is}
use Rattle.spec_grammar.specs.RuleFaults.{AnyName, AnyOffsets}
use Rattle.spec_grammar.proofs.Standing.{starts_head, one_at, tokens_then, letter_word}
use Rattle.spec_grammar.proofs.Signs.{lone_token, word_token}
use Rattle.spec_grammar.proofs.Sound.{this_word, other_word, keep_length}
use Rattle.spec_grammar.proofs.Walk.{deep as deeper, loosen, Tests, Joins, fresh, Kind, Frame, Place, Walks, step, may, shut, turned, first_of, walks_then, walks_one, step_not, step_paren, step_keep, step_call, step_name, step_shut, step_turn}
use Rattle.spec_grammar.proofs.Faults.{implies, iff, Begin, Before, View, Hopes, Bad, Good, Out, Quiet, lift, level_out}
use Rattle.spec_grammar.proofs.TimedFaults.{token_first, none_not, timed_out}

-- ---- tokens that lead nowhere

pub stuck_want : (τ : Tests) (b r : ℕ) (j : Joins) (st : List Frame) (w : List ℕ) (z : Place) → letter (first_of w) ≡ false → (w ≡ bytes "!" → ⊥) → (w ≡ bytes "(" → ⊥) → step τ (Place.want b r j st) w ≡ option.some z → ⊥
unfolding step
stuck_want τ b r j st w z l n m k = go (same_text_lem w (bytes "!")) refl (same_text_lem w (bytes "(")) refl
  where
    go : (x : Bool) → same_text_lem w (bytes "!") ≡ x → (y : Bool) → same_text_lem w (bytes "(") ≡ y → ⊥
    go true e y f = n ((same_text w (bytes "!")).0 e)
    go false e true f = m ((same_text w (bytes "(")).0 f)
    go false e false f = none_not (rw (l, e, f) at k)

stuck_call : (τ : Tests) (b r : ℕ) (j : Joins) (st : List Frame) (w : List ℕ) (z : Place) → (w ≡ bytes "(" → ⊥) → step τ (Place.call b r j st) w ≡ option.some z → ⊥
unfolding step
stuck_call τ b r j st w z m k = go (same_text_lem w (bytes "(")) refl
  where
    go : (y : Bool) → same_text_lem w (bytes "(") ≡ y → ⊥
    go true f = m ((same_text w (bytes "(")).0 f)
    go false f = none_not (rw f at k)

-- After a formula with which nothing goes on only what closes it, or its comma, may follow.
module _ {s : List ℕ} {q : ℕ} {w : List ℕ} (a : TokenAt s q w) (i : Joins) where
  this : (x : List ℕ) → same_text_lem w x ≡ true → starts s q x ≡ true
  this x e = subst (λ y. starts s q y ≡ true) ((same_text w x).0 e) a.stands

  no_join : (o : Op) → may o i ≡ option.none → (o ≡ And → ⊥) × (o ≡ Or → ⊥)
  no_join o e = ((λ f. go f i e), (λ f. og f i e))
    where
      go : o ≡ And → (i : Joins) → may o i ≡ option.none → ⊥
      go f (Joins.joins x y) k = none_not (sym (subst (λ p. may p (Joins.joins x y) ≡ option.none) f k))

      og : o ≡ Or → (i : Joins) → may o i ≡ option.none → ⊥
      og f (Joins.joins x y) k = none_not (sym (subst (λ p. may p (Joins.joins x y) ≡ option.none) f k))

  stuck_after : (τ : Tests) (b : ℕ) (st : List Frame) (z : Place) → Quiet formula s i q → (w ≡ bytes ")" → shut st ≡ option.some z → ⊥) → (w ≡ bytes "," → turned b st ≡ option.some z → ⊥) → step τ (Place.after b i st) w ≡ option.some z → ⊥
  unfolding step
  stuck_after τ b st z h n m k =
      go (same_text_lem w (bytes "@")) refl (same_text_lem w (bytes "?")) refl (same_text_lem w (bytes "&")) refl (same_text_lem w (bytes "|")) refl (same_text_lem w (bytes "=>")) refl
      (same_text_lem w (bytes "<=>")) refl (same_text_lem w (bytes ")")) refl (same_text_lem w (bytes ",")) refl
    where
      timed : (x : ℕ) → starts s q (x ∷ []) ≡ true → one_of x (bytes "@?") ≡ true → ⊥
      timed x t e = true≢false (sym e ∙ ap (λ y. one_of y (bytes "@?")) (sym (starts_head s q x [] t)) ∙ h.0.0.0.0)

      go : (x₁ : Bool) → same_text_lem w (bytes "@") ≡ x₁ → (x₂ : Bool) → same_text_lem w (bytes "?") ≡ x₂ → (x₃ : Bool) → same_text_lem w (bytes "&") ≡ x₃ → (x₄ : Bool) → same_text_lem w (bytes "|") ≡ x₄
          → (x₅ : Bool) → same_text_lem w (bytes "=>") ≡ x₅ → (x₆ : Bool) → same_text_lem w (bytes "<=>") ≡ x₆ → (x₇ : Bool) → same_text_lem w (bytes ")") ≡ x₇ → (x₈ : Bool) → same_text_lem w (bytes ",") ≡ x₈ → ⊥
      go true e₁ x₂ e₂ x₃ e₃ x₄ e₄ x₅ e₅ x₆ e₆ x₇ e₇ x₈ e₈ = timed (byte "@") (this (bytes "@") e₁) refl
      go false e₁ true e₂ x₃ e₃ x₄ e₄ x₅ e₅ x₆ e₆ x₇ e₇ x₈ e₈ = timed (byte "?") (this (bytes "?") e₂) refl
      go false e₁ false e₂ true e₃ x₄ e₄ x₅ e₅ x₆ e₆ x₇ e₇ x₈ e₈ = (no_join And (h.0.0.0.1 (this (bytes "&") e₃))).0 refl
      go false e₁ false e₂ false e₃ true e₄ x₅ e₅ x₆ e₆ x₇ e₇ x₈ e₈ = (no_join Or (h.0.0.1 (this (bytes "|") e₄))).1 refl
      go false e₁ false e₂ false e₃ false e₄ true e₅ x₆ e₆ x₇ e₇ x₈ e₈ = none_not (rw (e₁, e₂, e₃, e₄, e₅, h.0.1 (this (bytes "=>") e₅)) at k)
      go false e₁ false e₂ false e₃ false e₄ false e₅ true e₆ x₇ e₇ x₈ e₈ = none_not (rw (e₁, e₂, e₃, e₄, e₅, e₆, h.1 (this (bytes "<=>") e₆)) at k)
      go false e₁ false e₂ false e₃ false e₄ false e₅ false e₆ true e₇ x₈ e₈ = n ((same_text w (bytes ")")).0 e₇) (rw (e₁, e₂, e₃, e₄, e₅, e₆, e₇) at k)
      go false e₁ false e₂ false e₃ false e₄ false e₅ false e₆ false e₇ true e₈ = m ((same_text w (bytes ",")).0 e₈) (rw (e₁, e₂, e₃, e₄, e₅, e₆, e₇, e₈) at k)
      go false e₁ false e₂ false e₃ false e₄ false e₅ false e₆ false e₇ false e₈ = none_not (rw (e₁, e₂, e₃, e₄, e₅, e₆, e₇, e₈) at k)

-- Where a plain part is wanted, or the `(` of since or until, no rule ends.
want_not : {b r c : ℕ} {j k : Joins} {st : List Frame} → Place.want b r j st ≡ Place.after c k [] → ⊥
want_not e = let x : ◌≡◌ {A = ℕ} 0 1 = cc in omega arith

call_not : {b r c : ℕ} {j k : Joins} {st : List Frame} → Place.call b r j st ≡ Place.after c k [] → ⊥
call_not e = let x : ◌≡◌ {A = ℕ} 0 1 = cc in omega arith

open_not : {b c : ℕ} {i k : Joins} {x : Frame} {st : List Frame} → Place.after b i (x ∷ st) ≡ Place.after c k [] → ⊥
open_not {x = x} {st} e = let y : x ∷ st ≡ [] = cc in let z : ◌≡◌ {A = ℕ} 0 1 = cc in omega arith

-- Nothing more may be opened.
module _ (τ : Tests) (b r : ℕ) (j : Joins) (st : List Frame) (z : Place) (full : r ≡ 0) where
  full_not : step τ (Place.want b r j st) (bytes "!") ≡ option.some z → ⊥
  unfolding step same_text_lem
  full_not k = none_not (rw full at k)

  full_paren : step τ (Place.want b r j st) (bytes "(") ≡ option.some z → ⊥
  unfolding step same_text_lem
  full_paren k = none_not (rw full at k)

  full_call : step τ (Place.call b r j st) (bytes "(") ≡ option.some z → ⊥
  unfolding step same_text_lem
  full_call k = none_not (rw full at k)

-- Classes told apart.
no_letter : (b : ℕ) {k : Class} → class_of b ≡ k → (k ≡ Letter → ⊥) → letter b ≡ false
no_letter b c n = go (letter b) refl
  where
    go : (x : Bool) → letter b ≡ x → letter b ≡ false
    go true i = absurd (n (sym c ∙ (class_letter b).1 i))
    go false i = i

-- A name is a formula.
name_formula : (N : List ℕ → ℕ → Type 0) (I : ℕ → ℕ → ℕ → ℕ → ℕ → ℕ → Type 0) {w : List ℕ} {i : ℕ} (c : ℕ) → Name w → N w i → Is N I formula c (w ∷ []) (Written.name i)
name_formula N I c n h = Is.one Iff (Is.one Implies (Is.one Or (Is.one And (Is.untimed (Is.name n h)))))

module _ {names : List (List ℕ)} (s : List ℕ) (ν : View names) (e : ℕ) where
  abbrev nm : List ℕ
  nm = ν.nm

  abbrev ni : ℕ
  ni = ν.ni

  abbrev Asked : Part → ℕ → List (List ℕ) → Written → Type 0
  Asked = Is ν.N ν.I

  abbrev Wide : Part → ℕ → List (List ℕ) → Written → Type 0
  Wide = Is AnyName AnyOffsets

  -- Where a plain part may come next, a name may.
  some_part : (c : ℕ) → Wide Part.plain c (nm ∷ []) (Written.name ni)
  some_part c = Is.name ν.name tt

  some_formula : (c : ℕ) → Wide formula c (nm ∷ []) (Written.name ni)
  some_formula c = name_formula AnyName AnyOffsets c ν.name tt

  nothing_yet : (d : ℕ) → Begin ν.N ν.I Part.plain d []
  nothing_yet d = record { rest = nm ∷ []; says = Written.name ni; is = Is.name ν.name ν.some }

  formula_out : (d : ℕ) (P : Reader) → ((p b : ℕ) (j : Joins) (st : List Frame) → Out s ν e b (e + d) j st Part.plain d p (P p)) → (p : ℕ) (st : List Frame)
      → Out s ν e (e + d) (e + d) fresh st formula d p (reading.formula P s p)
  unfolding implies iff
  formula_out d P sub p st =
      level_out s ν e Iff d _ (level_out s ν e Implies d _ (level_out s ν e Or d _ (level_out s ν e And d _ (λ q j f h. timed_out s ν e d P sub q j f)))) p fresh st (refl, refl)

  -- What a `)` closes, after the tokens us and a formula.
  closed_by : (Written → Written) → Read Written → Read Written
  closed_by K R = and_then R (λ f q. pick (eqb (peek s q) (byte ")")) (λ _. got (K f) (q + 1)) (refused 5 q))

  module _ (k : Kind) (b r d p o : ℕ) (j : Joins) (st : List Frame) (K : Written → Written) (us : List (List ℕ)) (stand : Tokens s o p us)
      (walks : Walks ν.tests (Place.want b r j st) us (Place.want (e + d) (e + d) fresh (Frame.frame k b j ∷ st)))
      (closes : shut (Frame.frame k b j ∷ st) ≡ option.some (Place.after b j st)) (stays : (z : Place) → turned (e + d) (Frame.frame k b j ∷ st) ≡ option.some z → ⊥)
      (mk : (ts : List (List ℕ)) (f : Written) → Asked formula d ts f → Asked Part.plain (suc d) (us ++ (ts ++ (bytes ")" ∷ []))) (K f))
      (wide : (ts : List (List ℕ)) (f : Written) → Wide formula d ts f → Wide Part.plain (suc d) (us ++ (ts ++ (bytes ")" ∷ []))) (K f))
      (wider : (ts : List (List ℕ)) (f : Written) → Wide formula (suc d) ts f → Wide Part.plain (suc (suc d)) (us ++ (ts ++ (bytes ")" ∷ []))) (K f)) where
    closing : {R : Read Written} → Out s ν e (e + d) (e + d) fresh (Frame.frame k b j ∷ st) formula d o R → Out s ν e b r j st Part.plain (suc d) p (closed_by K R)
    unfolding closed_by
    closing (Out.bad x) = Out.bad (lift s ν e us stand walks (λ ts h. to ν.N ν.I mk ts h) (λ ts h. to AnyName AnyOffsets wide ts h) (λ ts h. to AnyName AnyOffsets wider ts h) x)
      where
        to : (N : List ℕ → ℕ → Type 0) (I : ℕ → ℕ → ℕ → ℕ → ℕ → ℕ → Type 0) {c : ℕ} → ((ts : List (List ℕ)) (f : Written) → Is N I formula c ts f → Is N I Part.plain (suc c) (us ++ (ts ++ (bytes ")" ∷ []))) (K f)) → (ts : List (List ℕ)) → Begin N I formula c ts
            → Begin N I Part.plain (suc c) (us ++ ts)
        to N I {c} m ts h =
            record {
              rest = h.rest ++ (bytes ")" ∷ []);
              says = K h.says;
              is =
                  subst (λ z. Is N I Part.plain (suc c) z (K h.says)) (ap (λ z. us ++ z) (append_assoc ts h.rest (bytes ")" ∷ [])) ∙ sym (append_assoc us ts (h.rest ++ (bytes ")" ∷ []))))
                  (m (ts ++ h.rest) h.says h.is);
            }
    closing (Out.good {f = f} {q = q} g) = go (eqb (peek s q) (byte ")")) refl
      where
        go : (c : Bool) → eqb (peek s q) (byte ")") ≡ c → Out s ν e b r j st Part.plain (suc d) p (pick (eqb (peek s q) (byte ")")) (λ _. got (K f) (q + 1)) (refused 5 q))
        go true i =
            rw i
            (Out.good
            (record {
              tokens = us ++ (g.tokens ++ (bytes ")" ∷ []));
              stand = tokens_then us stand (tokens_then g.tokens g.stand (one_at (lone_token s q refl (eqb-true (peek s q) (byte ")") i)) refl));
              is = mk g.tokens f g.is;
              left = j;
              walks = walks_then walks (walks_then g.walks (walks_one (step_shut ν.tests (e + d) g.left (Frame.frame k b j ∷ st) ∙ closes)));
              kept = refl;
              quiet = tt;
            }))
        go false i =
            rw i
            (Out.bad
            (record {
              tokens = us ++ g.tokens;
              stand = tokens_then us stand g.stand;
              at = Place.after (e + d) g.left (Frame.frame k b j ∷ st);
              walks = walks_then walks g.walks;
              before =
                  Before.whole
                  (record { rest = bytes ")" ∷ []; says = K f; is = subst (λ z. Asked Part.plain (suc d) z (K f)) (sym (append_assoc us g.tokens (bytes ")" ∷ []))) (mk g.tokens f g.is) });
              hopes =
                  Hopes.token
                  (record {
                    rest = bytes ")" ∷ [];
                    says = K f;
                    is =
                        subst (λ z. Wide Part.plain (suc (suc d)) z (K f)) (sym (ap (λ z. z ++ (bytes ")" ∷ [])) (append-nil (us ++ g.tokens)) ∙ append_assoc us g.tokens (bytes ")" ∷ [])))
                        (wider g.tokens f (deeper AnyName AnyOffsets (loosen ν.N ν.I g.is)));
                  })
                  (λ w z a h.
                  stuck_after a g.left ν.tests (e + d) (Frame.frame k b j ∷ st) z g.quiet
                  (λ x y. eqb-false (peek s q) (byte ")") i (sym (token_first a) ∙ ap first_of x)) (λ x y. stays z y) h)
                  (λ l c m x. open_not x);
            }))

  -- ---- what opens something

  -- What reads inside, with d to be opened here.
  data Inner : Option Reader → ℕ → Type 0 where
    full : Inner option.none 0
    opens : {d : ℕ} {P : Reader} → ((p b : ℕ) (j : Joins) (st : List Frame) → Out s ν e b (e + d) j st Part.plain d p (P p)) → Inner (option.some P) (suc d)

  room : (d : ℕ) → e + suc d ≡ suc (e + d)
  room d = omega arith

  -- No plain part starts here.
  want_bad : (b r d p : ℕ) (j : Joins) (st : List Frame) → letter (peek s p) ≡ false → (peek s p ≡ byte "!" → ⊥) → (peek s p ≡ byte "(" → ⊥) → Bad s ν e (Place.want b r j st) Part.plain d p 5 p
  want_bad b r d p j st l n m =
      record {
        tokens = [];
        stand = Tokens.none;
        at = Place.want b r j st;
        walks = Walks.stop;
        before = Before.whole (nothing_yet d);
        hopes =
            Hopes.token (record { rest = nm ∷ []; says = Written.name ni; is = some_part (suc d) })
            (λ w z a k. stuck_want ν.tests b r j st w z (ap letter (token_first a) ∙ l) (λ x. n (sym (token_first a) ∙ ap first_of x)) (λ x. m (sym (token_first a) ∙ ap first_of x)) k) (λ c x y z. want_not z);
      }

  module _ (b p : ℕ) (j : Joins) (st : List Frame) where
    negated_out : {I : Option Reader} {d : ℕ} → Inner I d → peek s p ≡ byte "!" → Out s ν e b (e + d) j st Part.plain d p (negated I p)
    negated_out full t =
        Out.bad
        (record {
          tokens = [];
          stand = Tokens.none;
          at = Place.want b (e + 0) j st;
          walks = Walks.stop;
          before = Before.whole (nothing_yet 0);
          hopes = Hopes.deep refl (lone_token s p refl t) (record { rest = nm ∷ []; says = Written.neg (Written.name ni); is = Is.not (some_part 0) }) (λ x z k. full_not ν.tests b (e + 0) j st z (omega arith) k);
        })
    negated_out (opens {d} {P} h) t = go (h (p + 1) b j st)
      where
        first : step ν.tests (Place.want b (e + suc d) j st) (bytes "!") ≡ option.some (Place.want b (e + d) j st)
        first = rw (room d) (step_not ν.tests b (e + d) j st)

        go : {R : Read Written} → Out s ν e b (e + d) j st Part.plain d (p + 1) R → Out s ν e b (e + suc d) j st Part.plain (suc d) p (and_then R (λ f q. got (Written.neg f) q))
        go (Out.good g) =
            Out.good
            (record {
              tokens = bytes "!" ∷ g.tokens;
              stand = Tokens.next (lone_token s p refl t) g.stand;
              is = Is.not g.is;
              left = g.left;
              walks = Walks.next first g.walks;
              kept = g.kept;
              quiet = tt;
            })
        go (Out.bad x) =
            Out.bad
            (lift s ν e (bytes "!" ∷ []) (one_at (lone_token s p refl t) refl) (walks_one first)
            (λ ts y. record { rest = y.rest; says = Written.neg y.says; is = Is.not y.is }) (λ ts y. record { rest = y.rest; says = Written.neg y.says; is = Is.not y.is })
            (λ ts y. record { rest = y.rest; says = Written.neg y.says; is = Is.not y.is }) x)

    parens_out : {I : Option Reader} {d : ℕ} → Inner I d → peek s p ≡ byte "(" → Out s ν e b (e + d) j st Part.plain d p (in_parens I s p)
    unfolding closed_by
    parens_out full t =
        Out.bad
        (record {
          tokens = [];
          stand = Tokens.none;
          at = Place.want b (e + 0) j st;
          walks = Walks.stop;
          before = Before.whole (nothing_yet 0);
          hopes = Hopes.deep refl (lone_token s p refl t) (record { rest = nm ∷ bytes ")" ∷ []; says = Written.name ni; is = Is.parens (some_formula 0) }) (λ x z k. full_paren ν.tests b (e + 0) j st z (omega arith) k);
        })
    parens_out (opens {d} {P} h) t =
        closing Kind.paren b (e + suc d) d p (p + 1) j st (λ f. f) (bytes "(" ∷ []) (one_at (lone_token s p refl t) refl) (walks_one (rw (room d) (step_paren ν.tests b (e + d) j st))) refl
        (λ z k. none_not k) (λ ts f i. Is.parens i) (λ ts f i. Is.parens i) (λ ts f i. Is.parens i) (formula_out d P h (p + 1) (Frame.frame Kind.paren b j ∷ st))

    -- ---- since and until

    module _ (t : Bool) (a : TokenAt s p (keep_word_lem t)) where
      word_stand : Tokens s (p + 5) p (keep_word_lem t ∷ [])
      word_stand = one_at a (rw (keep_length t))

      word_walk : (r : ℕ) → Walks ν.tests (Place.want b r j st) (keep_word_lem t ∷ []) (Place.call b r j st)
      word_walk r = walks_one (step_keep ν.tests b r j st t)

      keep_some : (c : ℕ) → Wide Part.plain (suc c) (keep_word_lem t ∷ bytes "(" ∷ nm ∷ bytes "," ∷ nm ∷ bytes ")" ∷ []) (Written.keep t (Written.name ni) (Written.name ni))
      keep_some c = Is.keep t (some_formula c) (some_formula c)

      -- No `(` follows the word.
      call_bad : (d : ℕ) → (peek s (p + 5) ≡ byte "(" → ⊥) → Bad s ν e (Place.want b (e + d) j st) Part.plain d p 5 (p + 5)
      call_bad d n =
          record {
            tokens = keep_word_lem t ∷ [];
            stand = word_stand;
            at = Place.call b (e + d) j st;
            walks = word_walk (e + d);
            before = Before.word {us = []} t (nothing_yet d);
            hopes =
                Hopes.token
                (record { rest = bytes "(" ∷ nm ∷ bytes "," ∷ nm ∷ bytes ")" ∷ []; says = Written.keep t (Written.name ni) (Written.name ni); is = keep_some d })
                (λ w z x k. stuck_call ν.tests b (e + d) j st w z (λ y. n (sym (token_first x) ∙ ap first_of y)) k) (λ c x y z. call_not z);
          }

      -- It may not be opened.
      call_full : peek s (p + 5) ≡ byte "(" → Bad s ν e (Place.want b (e + 0) j st) Part.plain 0 p 8 (p + 5)
      call_full h =
          record {
            tokens = keep_word_lem t ∷ [];
            stand = word_stand;
            at = Place.call b (e + 0) j st;
            walks = word_walk (e + 0);
            before = Before.word {us = []} t (nothing_yet 0);
            hopes =
                Hopes.deep refl (lone_token s (p + 5) refl h) (record { rest = nm ∷ bytes "," ∷ nm ∷ bytes ")" ∷ []; says = Written.keep t (Written.name ni) (Written.name ni); is = keep_some 0 })
                (λ x z k. full_call ν.tests b (e + 0) j st z (omega arith) k);
          }

      module _ (d : ℕ) (P : Reader) (sub : (q c : ℕ) (i : Joins) (fs : List Frame) → Out s ν e c (e + d) i fs Part.plain d q (P q)) (hp : peek s (p + 5) ≡ byte "(") where
        args_stand : Tokens s (p + 5 + 1) p (keep_word_lem t ∷ bytes "(" ∷ [])
        args_stand = tokens_then (keep_word_lem t ∷ []) word_stand (one_at (lone_token s (p + 5) refl hp) refl)

        args_walk : Walks ν.tests (Place.want b (e + suc d) j st) (keep_word_lem t ∷ bytes "(" ∷ []) (Place.want (e + d) (e + d) fresh (Frame.frame Kind.first b j ∷ st))
        args_walk = walks_then (word_walk (e + suc d)) (walks_one (rw (room d) (step_call ν.tests b (e + d) j st)))

        -- From the comma on, after the first formula.
        second_out : {f : Written} {q : ℕ} → Good s ν (e + d) (e + d) fresh (Frame.frame Kind.first b j ∷ st) formula d (p + 5 + 1) q f
            → Out s ν e b (e + suc d) j st Part.plain (suc d) p (second t (reading.formula P s) s f q)
        unfolding second closed_by
        second_out {f} {q} g = go (eqb (peek s q) (byte ",")) refl
          where
            us : List (List ℕ)
            us = keep_word_lem t ∷ bytes "(" ∷ g.tokens

            stand : Tokens s q p us
            stand = tokens_then (keep_word_lem t ∷ bytes "(" ∷ []) args_stand g.stand

            walks : Walks ν.tests (Place.want b (e + suc d) j st) us (Place.after (e + d) g.left (Frame.frame Kind.first b j ∷ st))
            walks = walks_then args_walk g.walks

            loose : Wide formula d g.tokens f
            loose = loosen ν.N ν.I g.is

            mk : (N : List ℕ → ℕ → Type 0) (I : ℕ → ℕ → ℕ → ℕ → ℕ → ℕ → Type 0) {c : ℕ} → Is N I formula c g.tokens f → (ts : List (List ℕ)) (x : Written) → Is N I formula c ts x
                → Is N I Part.plain (suc c) ((us ++ (bytes "," ∷ [])) ++ (ts ++ (bytes ")" ∷ []))) (Written.keep t f x)
            mk N I {c} h ts x i =
                subst (λ z. Is N I Part.plain (suc c) z (Written.keep t f x)) (sym (append_assoc us (bytes "," ∷ []) (ts ++ (bytes ")" ∷ []))))
                (Is.keep t h i)

            same : (R : Read Written) → then_paren s (and_then R (λ x u. got (Written.keep t f x) u)) ≡ closed_by (Written.keep t f) R
            same (got x u) = refl
            same (refused n u) = refl

            go : (c : Bool) → eqb (peek s q) (byte ",") ≡ c
                → Out s ν e b (e + suc d) j st Part.plain (suc d) p (pick (eqb (peek s q) (byte ",")) (λ _. then_paren s (and_then (reading.formula P s (q + 1)) (λ x u. got (Written.keep t f x) u))) (refused 5 q))
            go true i =
                rw (i, same (reading.formula P s (q + 1)))
                (closing Kind.second b (e + suc d) d p (q + 1) j st (Written.keep t f) (us ++ (bytes "," ∷ [])) (tokens_then us stand (one_at (lone_token s q refl (eqb-true (peek s q) (byte ",") i)) refl))
                (walks_then walks (walks_one (step_turn ν.tests (e + d) g.left (Frame.frame Kind.first b j ∷ st)))) refl (λ z k. none_not k) (mk ν.N ν.I g.is) (mk AnyName AnyOffsets loose) (mk AnyName AnyOffsets (deeper AnyName AnyOffsets loose))
                (formula_out d P sub (q + 1) (Frame.frame Kind.second b j ∷ st)))
            go false i =
                rw i
                (Out.bad
                (record {
                  tokens = us;
                  stand = stand;
                  at = Place.after (e + d) g.left (Frame.frame Kind.first b j ∷ st);
                  walks = walks;
                  before =
                      Before.whole
                      (record { rest = bytes "," ∷ nm ∷ bytes ")" ∷ []; says = Written.keep t f (Written.name ni); is = Is.keep t g.is (name_formula ν.N ν.I d ν.name ν.some) });
                  hopes =
                      Hopes.token
                      (record {
                        rest = bytes "," ∷ nm ∷ bytes ")" ∷ [];
                        says = Written.keep t f (Written.name ni);
                        is =
                            subst (λ z. Wide Part.plain (suc (suc d)) (z ++ (bytes "," ∷ nm ∷ bytes ")" ∷ [])) (Written.keep t f (Written.name ni))) (sym (append-nil us))
                            (Is.keep t (deeper AnyName AnyOffsets loose) (some_formula (suc d)));
                      })
                      (λ w z x h.
                      stuck_after x g.left ν.tests (e + d) (Frame.frame Kind.first b j ∷ st) z g.quiet (λ y k. none_not k)
                      (λ y k. eqb-false (peek s q) (byte ",") i (sym (token_first x) ∙ ap first_of y)) h)
                      (λ l c m x. open_not x);
                }))

        arguments_out : {R : Read Written} → Out s ν e (e + d) (e + d) fresh (Frame.frame Kind.first b j ∷ st) formula d (p + 5 + 1) R
            → Out s ν e b (e + suc d) j st Part.plain (suc d) p (and_then R (λ f q. second t (reading.formula P s) s f q))
        arguments_out (Out.good g) = second_out g
        arguments_out (Out.bad x) = Out.bad (lift s ν e (keep_word_lem t ∷ bytes "(" ∷ []) args_stand args_walk (λ ts h. to ν.N ν.I ν.some ts h) (λ ts h. to AnyName AnyOffsets tt ts h) (λ ts h. to AnyName AnyOffsets tt ts h) x)
          where
            to : (N : List ℕ → ℕ → Type 0) (I : ℕ → ℕ → ℕ → ℕ → ℕ → ℕ → Type 0) → N nm ni → {c : ℕ} (ts : List (List ℕ)) → Begin N I formula c ts → Begin N I Part.plain (suc c) (keep_word_lem t ∷ bytes "(" ∷ ts)
            to N I n {c} ts h =
                record {
                  rest = h.rest ++ (bytes "," ∷ nm ∷ bytes ")" ∷ []);
                  says = Written.keep t h.says (Written.name ni);
                  is =
                      subst (λ z. Is N I Part.plain (suc c) (keep_word_lem t ∷ bytes "(" ∷ z) (Written.keep t h.says (Written.name ni))) (append_assoc ts h.rest (bytes "," ∷ nm ∷ bytes ")" ∷ []))
                      (Is.keep t h.is (name_formula N I c ν.name n));
                }

      kept_out : {I : Option Reader} {d : ℕ} → Inner I d → Out s ν e b (e + d) j st Part.plain d p (since_until I t s (p + 5))
      unfolding since_until
      kept_out {I} {d} h = go (eqb (peek s (p + 5)) (byte "(")) refl h
        where
          go : {I : Option Reader} {d : ℕ} (c : Bool) → eqb (peek s (p + 5)) (byte "(") ≡ c → Inner I d → Out s ν e b (e + d) j st Part.plain d p (pick (eqb (peek s (p + 5)) (byte "(")) (λ _. arguments I t s (p + 5)) (refused 5 (p + 5)))
          go true i full = rw i (Out.bad (call_full (eqb-true (peek s (p + 5)) (byte "(") i)))
          go true i (opens {d} {P} sub) = rw i (arguments_out d P sub (eqb-true (peek s (p + 5)) (byte "(") i) (formula_out d P sub (p + 5 + 1) (Frame.frame Kind.first b j ∷ st)))
          go {d = d} false i h = rw i (Out.bad (call_bad d (eqb-false (peek s (p + 5)) (byte "(") i)))

    -- ---- words

    declared_out : (d r : ℕ) → letter (peek s p) ≡ true → is_spelled s p (bytes "since") ≡ false → is_spelled s p (bytes "until") ≡ false → Out s ν e b r j st Part.plain d p (declared names s p)
    unfolding declared run_end
    declared_out d r l x y = go (ltb (find_name (spelling_at s p) names) (length names)) refl
      where
        name : Name (spelling_at s p)
        name = record { word = letter_word s p l; not_since = other_word s p true x; not_until = other_word s p false y }

        go : (c : Bool) → ltb (find_name (spelling_at s p) names) (length names) ≡ c
            → Out s ν e b r j st Part.plain d p (pick (ltb (find_name (spelling_at s p) names) (length names)) (λ _. got (Written.name (find_name (spelling_at s p) names)) (p + length (spelling_at s p))) (refused 6 p))
        go true i =
            let ok = ν.named (spelling_at s p) (find_name (spelling_at s p) names) (record { found = refl; declared = ltb-true (find_name (spelling_at s p) names) (length names) i }) in
            rw i
            (Out.good
            (record {
              tokens = spelling_at s p ∷ [];
              stand = one_at (word_token s p l) refl;
              is = Is.name name ok.0;
              left = j;
              walks = walks_one (step_name ν.tests b r j st name ok.1);
              kept = refl;
              quiet = tt;
            }))
        go false i =
            rw i
            (Out.bad
            (record {
              tokens = [];
              stand = Tokens.none;
              at = Place.want b r j st;
              walks = Walks.stop;
              before = Before.whole (nothing_yet d);
              hopes =
                  Hopes.name (word_token s p l) name
                  (λ k h. let u = h.found in let v = h.declared in let w = ltb-false (find_name (spelling_at s p) names) (length names) i in omega arith)
                  (record { rest = []; says = Written.name 0; is = Is.name name tt });
            }))

    worded_out : {I : Option Reader} {d : ℕ} → Inner I d → letter (peek s p) ≡ true → Out s ν e b (e + d) j st Part.plain d p (name_or_keep I names s p)
    unfolding name_or_keep
    worded_out {I} {d} h l = go (is_spelled s p (bytes "since")) refl (is_spelled s p (bytes "until")) refl
      where
        go : (x : Bool) → is_spelled s p (bytes "since") ≡ x → (y : Bool) → is_spelled s p (bytes "until") ≡ y
            → Out s ν e b (e + d) j st Part.plain d p (pick (is_spelled s p (bytes "since")) (λ _. since_until I true s (p + 5)) (pick (is_spelled s p (bytes "until")) (λ _. since_until I false s (p + 5)) (declared names s p)))
        go true x y z = rw x (kept_out true (rw (this_word s p true x) at (word_token s p l)) h)
        go false x true z = rw (x, z) (kept_out false (rw (this_word s p false z) at (word_token s p l)) h)
        go false x false z = rw (x, z) (declared_out d (e + d) l x z)

    -- ---- every plain part

    plain_by : {I : Option Reader} {d : ℕ} → Inner I d → (k : Class) → class_of (peek s p) ≡ k → Out s ν e b (e + d) j st Part.plain d p (plain_part_by k I names s p)
    unfolding class_of tag
    plain_by h Letter c = worded_out h ((class_letter (peek s p)).0 c)
    plain_by {d = d} h Digit c = Out.bad (want_bad b (e + d) d p j st (no_letter (peek s p) c (λ x. (let y = ap tag x in omega arith))) (λ x. (let y = ap tag (sym c ∙ ap class_of x) in omega arith)) (λ x. (let y = ap tag (sym c ∙ ap class_of x) in omega arith)))
    plain_by {I} {d} h Sign c = go (eqb (peek s p) (byte "!")) refl
      where
        go : (x : Bool) → eqb (peek s p) (byte "!") ≡ x → Out s ν e b (e + d) j st Part.plain d p (pick (eqb (peek s p) (byte "!")) (λ _. negated I p) (refused 5 p))
        go true i = rw i (negated_out h (eqb-true (peek s p) (byte "!") i))
        go false i = rw i (Out.bad (want_bad b (e + d) d p j st (no_letter (peek s p) c (λ x. (let y = ap tag x in omega arith))) (eqb-false (peek s p) (byte "!") i) (λ x. (let y = ap tag (sym c ∙ ap class_of x) in omega arith))))
    plain_by {I} {d} h Bracket c = go (eqb (peek s p) (byte "(")) refl
      where
        go : (x : Bool) → eqb (peek s p) (byte "(") ≡ x → Out s ν e b (e + d) j st Part.plain d p (pick (eqb (peek s p) (byte "(")) (λ _. in_parens I s p) (refused 5 p))
        go true i = rw i (parens_out h (eqb-true (peek s p) (byte "(") i))
        go false i = rw i (Out.bad (want_bad b (e + d) d p j st (no_letter (peek s p) c (λ x. (let y = ap tag x in omega arith))) (λ x. (let y = ap tag (sym c ∙ ap class_of x) in omega arith)) (eqb-false (peek s p) (byte "(") i)))
    plain_by {d = d} h Other c = Out.bad (want_bad b (e + d) d p j st (no_letter (peek s p) c (λ x. (let y = ap tag x in omega arith))) (λ x. (let y = ap tag (sym c ∙ ap class_of x) in omega arith)) (λ x. (let y = ap tag (sym c ∙ ap class_of x) in omega arith)))

  plain_out : {I : Option Reader} {d : ℕ} → Inner I d → (p b : ℕ) (j : Joins) (st : List Frame) → Out s ν e b (e + d) j st Part.plain d p (plain_part_in I names s p)
  unfolding plain_part_in
  plain_out h p b j st = plain_by b p j st h (class_of (peek s p)) refl

  inner : (d : ℕ) → Inner (inside d names s) d
  unfolding inside
  inner zero = full
  inner (suc d) = opens (plain_out (inner d))

  -- ---- a rule

  pub rule_out : (p : ℕ) → Out s ν e (e + most_open) (e + most_open) fresh [] formula most_open p (rule names s p)
  unfolding rule reading.plain_part
  rule_out p = go (formula_out most_open (plain_part_in (inside most_open names s) names s) (plain_out (inner most_open)) p [])
    where
      go : {R : Read Written} → Out s ν e (e + most_open) (e + most_open) fresh [] formula most_open p R → Out s ν e (e + most_open) (e + most_open) fresh [] formula most_open p (and_then R (λ f q. pick (eqb q (length s)) (λ _. got f q) (refused 5 q)))
      go (Out.bad x) = Out.bad x
      go (Out.good {f = f} {q = q} g) = on (eqb q (length s)) refl
        where
          on : (c : Bool) → eqb q (length s) ≡ c → Out s ν e (e + most_open) (e + most_open) fresh [] formula most_open p (pick (eqb q (length s)) (λ _. got f q) (refused 5 q))
          on true i = rw i (Out.good g)
          on false i =
              rw i
              (Out.bad
              (record {
                tokens = g.tokens;
                stand = g.stand;
                at = Place.after (e + most_open) g.left [];
                walks = g.walks;
                before = Before.whole (record { rest = []; says = f; is = subst (λ z. Asked formula most_open z f) (sym (append-nil g.tokens)) g.is });
                hopes =
                    Hopes.token
                    (record {
                      rest = [];
                      says = f;
                      is = subst (λ z. Wide formula (suc most_open) z f) (sym (append-nil (g.tokens ++ []) ∙ append-nil g.tokens)) (deeper AnyName AnyOffsets (loosen ν.N ν.I g.is));
                    })
                    (λ w z a k. stuck_after a g.left ν.tests (e + most_open) [] z g.quiet (λ x y. none_not y) (λ x y. none_not y) k) (λ l c m x. eqb-false q (length s) i l);
              }))
