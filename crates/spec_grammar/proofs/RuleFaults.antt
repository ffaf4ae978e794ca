-- A rule's formula is refused exactly for the first place where something is wrong, and what stands before could still become a rule.
-- Assumes nothing.
use mathlib.Core.Path.{◌≡◌, refl, sym, subst, ◌∙◌}
use mathlib.Core.Bool.{Bool, true}
use mathlib.Core.Logic.{◌↔◌}
use mathlib.Core.List.{List, [], ◌∷◌, ◌++◌, append-nil, append_assoc}
use mathlib.Core.Option as option
use Prim.Native.Nat.{ℕ, suc, ◌+◌, ◌≤◌}
use native.Mathlib.Omega.{arith}
use lib.ListN.{length}
use Rattle.spec_limits.specs.Limits.{most_open}
use Rattle.read_bytes.specs.Read.{Read}
use Rattle.read_bytes.specs.Read.Read.{got, refused}
use Rattle.read_bytes.specs.Bytes.{byte, bytes}
use Rattle.read_bytes.proofs.Answers.{not_both}
use Rattle.spec_tilco.specs.Formula.{Written}
use Rattle.read_parts.specs.FormulaText.{rule}
use Rattle.spec_grammar.specs.Tokens.{Spelling, TokenAt, Tokens}
use Rattle.spec_grammar.specs.Grammar.{formula, Name, Is, Declared, Legal, Rule}
use Rattle.spec_grammar.specs.RuleFaults.{AnyOffsets, AnyName, Begins, Wrong, RuleFault, Becomes, Open}
use Rattle.spec_grammar.proofs.Standing.{next_is, none_is}
use Rattle.spec_grammar.proofs.Sound.{rule_sound}
use Rattle.spec_grammar.proofs.Walk.{Tests, Joins, fresh, Place, Walks, step, walked, deep, deeper, loosen, walks_first, walks_cut}
use Rattle.spec_grammar.proofs.Faults.{Begin, Loose, Before, View, Hopes, Bad, Out}
use Rattle.spec_grammar.proofs.PlainFaults.{rule_out}
use Rattle.spec_grammar.proofs.TokenPlaces.{tokens_upto, tokens_one, token_inside}
use Rattle.spec_grammar.proofs.OneFault.{strict, declared_passes, legal_passes, Clean, none_before, offsets_open, one_wrong, wrong_begins, wrong_starts}

-- ---- the views

-- No test.
abbrev lax : Tests
lax = record { named = λ w. true; offsets = λ o v w c. true }

some_name : Name (bytes "a")
some_name =
    record {
      word = Spelling.word refl tt;
      not_since = λ e. (let z : byte "a" ≡ byte "s" = cc in omega arith);
      not_until = λ e. (let z : byte "a" ≡ byte "u" = cc in omega arith);
    }

-- Any names and intervals, with a walk's tests that declared names and legal intervals pass.
module _ (names : List (List ℕ)) (τ : Tests) (hn : (w : List ℕ) (i : ℕ) → Declared names w i → τ.named w ≡ true) (hi : (o v w c first more : ℕ) → Legal o v w c first more → τ.offsets o v w c ≡ true) where
  abbrev any : View names
  any =
      record {
        N = AnyName;
        I = AnyOffsets;
        tests = τ;
        named = λ w i d. (tt, hn w i d);
        offsets = λ o v w c first more l. (tt, hi o v w c first more l);
        nm = bytes "a";
        ni = 0;
        name = some_name;
        some = tt;
      }

abbrev loosely : (names : List (List ℕ)) → View names
loosely names = any names lax (λ w i d. refl) (λ o v w c first more l. refl)

abbrev strictly : (names : List (List ℕ)) → View names
strictly names = any names (strict names) (declared_passes names) (legal_passes names)

-- Declared names and legal intervals.
module _ (names : List (List ℕ)) {w : List ℕ} {i : ℕ} (n : Name w) (d : Declared names w i) where
  abbrev accepting : View names
  accepting =
      record { N = Declared names; I = Legal; tests = lax; named = λ w i d. (d, refl); offsets = λ o v w c first more l. (l, refl); nm = w; ni = i; name = n; some = d }

-- ---- what is wrong where a rule is refused

walks_same : {τ : Tests} {x y z : Place} (us : List (List ℕ)) → Walks τ x us y → Walks τ x us z → y ≡ z
walks_same {τ} {x} {y} {z} us h k = same (walks_cut us h (subst (λ ws. Walks τ x ws z) (sym (append-nil us)) k))
  where
    same : {a b : Place} → Walks τ a [] b → a ≡ b
    same Walks.stop = refl

-- Every formula is walked to its end.
formula_walk : {d : ℕ} {ws : List (List ℕ)} {f : Written} → Is AnyName AnyOffsets formula d ws f → (j : Joins) × Walks lax (Place.want d d fresh []) ws (Place.after d j [])
formula_walk h = let w = walked lax AnyName AnyOffsets (λ w i n. refl) (λ o v w c first more l. refl) h [] in (Joins.joins w.0 w.1, w.2)

-- So a token with which a formula begins is walked over.
begins_walk : {d : ℕ} (us : List (List ℕ)) (w : List ℕ) → Begins d (us ++ (w ∷ [])) → {y : Place} → Walks lax (Place.want d d fresh []) us y → (z : Place) × (step lax y w ≡ option.some z)
begins_walk {d} us w b h =
    let x = formula_walk (subst (λ z. Is AnyName AnyOffsets formula d z b.says) (append_assoc us (w ∷ []) b.rest) b.is) in
    let y = walks_first (walks_cut us h x.1) in
    (y.0, y.1)

-- A formula with more room.
roomy : {d : ℕ} {ws : List (List ℕ)} {f : Written} → Is AnyName AnyOffsets formula d ws f → Is AnyName AnyOffsets formula (d + most_open) ws f
roomy {d} {ws} {f} h = let e : most_open + d ≡ d + most_open = omega arith in subst (λ x. Is AnyName AnyOffsets formula x ws f) e (deeper AnyName AnyOffsets most_open h)

module _ (names : List (List ℕ)) (s : List ℕ) (p : ℕ) where
  -- The refusal, with e more to be opened.
  refusal : (ν : View names) {n κ : ℕ} → rule names s p ≡ refused n κ → (e : ℕ) → Bad s ν e (Place.want (e + most_open) (e + most_open) fresh []) formula most_open p n κ
  refusal ν {n} {κ} h e = go (rule_out s ν e p) h
    where
      go : {R : Read Written} → Out s ν e (e + most_open) (e + most_open) fresh [] formula most_open p R → R ≡ refused n κ → Bad s ν e (Place.want (e + most_open) (e + most_open) fresh []) formula most_open p n κ
      go (Out.good g) k = absurd (not_both k)
      go (Out.bad {n = m} {κ = i} b) k =
          let a : m ≡ n = cc in
          let c : i ≡ κ = cc in
          subst (Bad s ν e (Place.want (e + most_open) (e + most_open) fresh []) formula most_open p n) c (subst (λ x. Bad s ν e (Place.want (e + most_open) (e + most_open) fresh []) formula most_open p x i) a b)

  -- A token that leads nowhere begins no formula.
  no_formula : {κ : ℕ} {us : List (List ℕ)} → rule names s p ≡ refused 5 κ → Tokens s κ p us → (w : List ℕ) (d : ℕ) → TokenAt s κ w → Begins d (us ++ (w ∷ [])) → ⊥
  no_formula {κ} {us} h t w d a i =
      let b = refusal (loosely names) h d in
      let e = tokens_one b.tokens us b.stand t in
      let m : Begins (d + most_open) (us ++ (w ∷ [])) = record { rest = i.rest; says = i.says; is = roomy i.is } in
      let y = begins_walk us w m (subst (λ z. Walks lax (Place.want (d + most_open) (d + most_open) fresh []) z b.at) e b.walks) in
      stuck b.hopes y.0 y.1
    where
      stuck : {y : Place} {B : ℕ → List (List ℕ) → Type 0} → Hopes names s lax d y most_open B 5 κ → (z : Place) → step lax y w ≡ option.some z → ⊥
      stuck (Hopes.token c k l) z g = k w z a g

  no_end : {κ : ℕ} {us : List (List ℕ)} → rule names s p ≡ refused 5 κ → Tokens s κ p us → κ ≡ length s → (d : ℕ) (f : Written) → Is AnyName AnyOffsets formula d us f → ⊥
  no_end {κ} {us} h t l d f i =
      let b = refusal (loosely names) h d in
      let e = tokens_one b.tokens us b.stand t in
      let x = formula_walk (roomy i) in
      short b.hopes (d + most_open) x.0 (walks_same us (subst (λ z. Walks lax (Place.want (d + most_open) (d + most_open) fresh []) z b.at) e b.walks) x.1)
    where
      short : {y : Place} {B : ℕ → List (List ℕ) → Type 0} → Hopes names s lax d y most_open B 5 κ → (c : ℕ) (j : Joins) → y ≡ Place.after c j [] → ⊥
      short (Hopes.token c k m) b j g = m l b j g

  begins : {d : ℕ} {us : List (List ℕ)} → Loose formula d us → Begins d us
  begins h = record { rest = h.rest; says = h.says; is = h.is }

  wrong : {n κ : ℕ} → rule names s p ≡ refused n κ → Wrong names s p n κ
  wrong {n} {κ} h = go b.hopes h
    where
      b : Bad s (loosely names) 0 (Place.want most_open most_open fresh []) formula most_open p n κ
      b = refusal (loosely names) h 0

      go : {n : ℕ} → Hopes names s lax 0 b.at most_open (λ c ts. Loose formula c (b.tokens ++ ts)) n κ → rule names s p ≡ refused n κ → Wrong names s p n κ
      go (Hopes.token c k l) h = Wrong.token b.stand (subst (Begins (suc most_open)) (append-nil b.tokens) (begins c)) (no_formula h b.stand) (no_end h b.stand)
      go (Hopes.name a m u c) h = Wrong.name b.stand a m u (begins c)
      go (Hopes.offsets t i l c) h = Wrong.offsets b.stand t i l (begins c)
      go (Hopes.deep {o = o} m a c k) h = Wrong.deep b.stand m a (begins c) (λ i. let y = begins_walk b.tokens (o ∷ []) i b.walks in k refl y.0 y.1)

  -- ---- nothing is wrong before

  clean : {n κ : ℕ} → rule names s p ≡ refused n κ → Clean names s p κ
  clean {n} {κ} h =
      record {
        tokens = b.tokens;
        stand = b.stand;
        begins = wrong_begins b.stand (wrong h);
        at = b.at;
        walks = b.walks;
        before = b.before;
        next = wrong_starts b.stand (wrong h);
      }
    where
      b : Bad s (strictly names) 0 (Place.want most_open most_open fresh []) formula most_open p n κ
      b = refusal (strictly names) h 0

  -- An accepted rule is clean, and nothing is wrong in it.
  rule_clean : {f : Written} → Rule names s p f → Clean names s p (length s)
  rule_clean {f} h =
      record {
        tokens = h.tokens;
        stand = h.stand;
        begins = whole (deep AnyName AnyOffsets loose);
        at = Place.after most_open (Joins.joins w.0 w.1) [];
        walks = w.2;
        before = Before.whole (record { rest = []; says = f; is = subst (λ z. Is AnyName AnyOffsets formula most_open z f) (sym (append-nil h.tokens)) loose });
        next = λ w d a b. (let l = token_inside a in let z : ⊥ = omega arith in absurd z);
      }
    where
      loose : Is AnyName AnyOffsets formula most_open h.tokens f
      loose = loosen (Declared names) Legal h.is

      whole : {d : ℕ} → Is AnyName AnyOffsets formula d h.tokens f → Begins d h.tokens
      whole {d} i = record { rest = []; says = f; is = subst (λ z. Is AnyName AnyOffsets formula d z f) (sym (append-nil h.tokens)) i }

      w : (a : Bool) × (c : Bool) × Walks (strict names) (Place.want most_open most_open fresh []) h.tokens (Place.after most_open (Joins.joins a c) [])
      w = walked (strict names) (Declared names) Legal (declared_passes names) (legal_passes names) h.is []

  nothing_wrong : {f : Written} {m i : ℕ} → Rule names s p f → Wrong names s p m i → ⊥
  nothing_wrong {f} {m} {i} h w = go w (none_before (rule_clean h) w)
    where
      no_token : {w : List ℕ} → length s ≤ i → TokenAt s i w → ⊥
      no_token l a = let k = token_inside a in omega arith

      at_end_lem : (us rest : List (List ℕ)) → us ≡ h.tokens ++ rest → Tokens s i (length s) rest → (i ≡ length s → (d : ℕ) (f : Written) → Is AnyName AnyOffsets formula d us f → ⊥) → ⊥
      at_end_lem us [] e t k = k (sym (none_is t)) most_open f (subst (λ z. Is AnyName AnyOffsets formula most_open z f) (sym (e ∙ append-nil h.tokens)) (loosen (Declared names) Legal h.is))
      at_end_lem us (x ∷ rest) e t k = let l = token_inside (next_is t).0 in omega arith

      go : {m : ℕ} → Wrong names s p m i → length s ≤ i → ⊥
      go (Wrong.token {us = us} t b k e) l = let r = tokens_upto h.tokens us h.stand t l in at_end_lem us r.0 r.1 r.2 e
      go (Wrong.name t a n u b) l = no_token l a
      go (Wrong.offsets {us = us} t a j n b) l = no_token l (offsets_open us j a b).0
      go (Wrong.deep t o a b n) l = no_token l a

  -- ---- exactly

  -- A rule's formula is refused with a number and a place exactly if that is the first thing wrong.
  pub rule_refused : (n κ : ℕ) → (rule names s p ≡ refused n κ) ↔ RuleFault names s p n κ
  rule_refused n κ = (λ h. record { wrong = wrong h; first = λ m i w. none_before (clean h) w }, λ f. go f (rule names s p) refl)
    where
      go : RuleFault names s p n κ → (R : Read Written) → rule names s p ≡ R → rule names s p ≡ refused n κ
      go f (got g q) e = absurd (nothing_wrong (rule_sound names s p e).0 f.wrong)
      go f (refused m i) e =
          let x = f.first m i (wrong e) in
          let y = none_before (clean e) f.wrong in
          let j : i ≡ κ = omega arith in
          let k : m ≡ n = one_wrong (subst (Wrong names s p m) j (wrong e)) f.wrong in
          rw (j, k) at e

  -- And what stands before could still become a rule, where some name is declared.
  pub rule_open : {w : List ℕ} {i n κ : ℕ} {us : List (List ℕ)} → Name w → Declared names w i → rule names s p ≡ refused n κ → Tokens s κ p us → Open names us
  rule_open {n = n} {κ} {us} hn hd h t = subst (Open names) (tokens_one b.tokens us b.stand t) (opens b.before)
    where
      b : Bad s (accepting names hn hd) 0 (Place.want most_open most_open fresh []) formula most_open p n κ
      b = refusal (accepting names hn hd) h 0

      becomes : {us : List (List ℕ)} → Begin (Declared names) Legal formula most_open us → Becomes names us
      becomes h = record { rest = h.rest; says = h.says; is = h.is }

      opens : {us : List (List ℕ)} → Before (Declared names) Legal formula most_open us → Open names us
      opens (Before.whole h) = Open.whole (becomes h)
      opens (Before.word b h) = Open.word b (becomes h)
      opens (Before.offsets b h j k) = Open.offsets b (becomes h) j
