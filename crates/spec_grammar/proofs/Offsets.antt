-- An interval is read exactly where its tokens stand.
-- Assumes nothing.
use mathlib.Core.Path.{◌≡◌, refl, sym, ap, subst}
use mathlib.Core.Bool.{Bool, true, false, true≢false, ◌&&◌, and-eq-true_iff}
use mathlib.Core.List.{List, [], ◌∷◌}
use Prim.Native.Nat.{ℕ, ◌+◌, ◌-◌, ◌≤◌}
use native.Mathlib.Omega.{arith}
use borrow.Author.Tests.{eqb-true, leb-true, le-leb}
use lib.Dec.{eqb, leb}
use lib.ListN.{length}
use Rattle.std.specs.Prelude.{Option, Some, Ok, Err}
use Rattle.spec_refusals.specs.Numbers.{Refusal}
use Rattle.spec_refusals.specs.declared.Fault.TheVariants as fault
use Rattle.read_bytes.specs.Bytes.{byte, bytes, peek, pick, one_of}
use Rattle.read_bytes.proofs.Tests.{between_is}
use Rattle.read_interval.specs.Interval.{Offsets, refusing, left_out, near, end_at, offsets_of, end_then, end_after_lem, close_at, comma_at, interval, least_end, greatest_end, over_offset}
use Rattle.spec_grammar.specs.Tokens.{End, TokenAt, Tokens}
use Rattle.spec_grammar.specs.Grammar.{Interval, Legal}
use Rattle.spec_grammar.proofs.Standing.{starts_head, token_one, next_is, none_is, one_at}
use Rattle.spec_grammar.proofs.Signs.{lone, lone_token}
use Rattle.spec_grammar.proofs.Ends.{EndAt, end_at_lem, end_one}

-- ---- the offsets of an interval

over_not : {r : Refusal} {x : ℕ × ℕ × ℕ} → ◌≡◌ {A = Offsets} (Err r) (Ok x) → ⊥
over_not e = let z : ◌≡◌ {A = ℕ} 0 1 = cc in omega arith

same_offsets : {x y : ℕ × ℕ × ℕ} → ◌≡◌ {A = Offsets} (Ok x) (Ok y) → x ≡ y
same_offsets e = cc

module _ (p o v w c q : ℕ) where
  pub legal_offsets : {first more : ℕ} → Legal o v w c first more → offsets_of p o v w c q ≡ Ok (first, more, q)
  unfolding offsets_of
  legal_offsets {first} {more} l =
      let i = between_is least_end greatest_end w l.near_last in
      let a = l.first_is in
      let b = l.last_is in
      let t : v + left_out o (byte "(") ≤ w - left_out c (byte ")") = omega arith in
      let x : v + left_out o (byte "(") - over_offset ≡ first = omega arith in
      let y : w - left_out c (byte ")") - (v + left_out o (byte "(")) ≡ more = omega arith in
      rw (l.near_first, l.near_last, le-leb (v + left_out o (byte "(")) (w - left_out c (byte ")")) t, x, y)

  -- The offsets are legal, or none are.
  pub data OffsetsAre : Offsets → Type 0 where
    legal : {first more : ℕ} → Legal o v w c first more → OffsetsAre (Ok (first, more, q))
    illegal : ((first more : ℕ) → Legal o v w c first more → ⊥) → OffsetsAre (refusing fault.Interval p)

  pub offsets_are : OffsetsAre (offsets_of p o v w c q)
  unfolding offsets_of
  offsets_are = go (near v && near w && leb (v + left_out o (byte "(")) (w - left_out c (byte ")"))) refl
    where
      go : (b : Bool) → near v && near w && leb (v + left_out o (byte "(")) (w - left_out c (byte ")")) ≡ b → OffsetsAre (offsets_of p o v w c q)
      go true e =
          let a = (and-eq-true_iff (near v && near w) (leb (v + left_out o (byte "(")) (w - left_out c (byte ")")))).0 e in
          let b = (and-eq-true_iff (near v) (near w)).0 a.0 in
          let i = between_is least_end greatest_end v b.0 in
          let j = between_is least_end greatest_end w b.1 in
          let k = leb-true (v + left_out o (byte "(")) (w - left_out c (byte ")")) a.1 in
          rw e
          (legal {first = v + left_out o (byte "(") - over_offset} {more = w - left_out c (byte ")") - (v + left_out o (byte "("))}
          (record {
            near_first = b.0;
            near_last = b.1;
            first_is = omega (arith, i.0);
            last_is = omega (arith, i.0, j.0);
          }))
      go false e = rw e (illegal (λ first more l. over_not (rw e at (legal_offsets l))))

-- ---- its tokens

-- One of two bytes that are signs is a sign.
pub two_lone : (b x y : ℕ) → one_of x lone ≡ true → one_of y lone ≡ true → one_of b (x ∷ y ∷ []) ≡ true → one_of b lone ≡ true
two_lone b x y h k e = go (eqb b x) refl (eqb b y) refl e
  where
    go : (t : Bool) → eqb b x ≡ t → (u : Bool) → eqb b y ≡ u → one_of b (x ∷ y ∷ []) ≡ true → one_of b lone ≡ true
    go true i u j f = rw (eqb-true b x i) h
    go false i true j f = rw (eqb-true b y j) k
    go false i false j f = absurd (true≢false (sym (rw (i, j) at f)))

-- Where the token is an end, its number is read.
end_reads : {s : List ℕ} {p : ℕ} {w : List ℕ} {v : ℕ} → TokenAt s p w → End w v → end_at s p ≡ Some (v, p + length w)
end_reads {s} {p} {w} {v} t k = go (end_at_lem s p) refl
  where
    go : {d : Option (ℕ × ℕ)} → EndAt s p d → end_at s p ≡ d → end_at s p ≡ Some (v, p + length w)
    go (EndAt.some {w = x} {v = y} a m) e =
        let i = token_one t a in
        let j = end_one k (subst (λ u. End u y) (sym i) m) in
        rw (i, j) e
    go (EndAt.missing n) e = absurd (n w v k t.stands)

-- What an interval's tokens are, one by one.
record Five (s : List ℕ) (p q : ℕ) (u x y z t : List ℕ) : Type 0 where
  opens : TokenAt s p u
  first : TokenAt s (p + length u) x
  comma : TokenAt s (p + length u + length x) y
  last : TokenAt s (p + length u + length x + length y) z
  closes : TokenAt s (p + length u + length x + length y + length z) t
  ends : p + length u + length x + length y + length z + length t ≡ q

five : {s : List ℕ} {p q : ℕ} {u x y z t : List ℕ} → Tokens s q p (u ∷ x ∷ y ∷ z ∷ t ∷ []) → Five s p q u x y z t
five h =
    let a = next_is h in
    let b = next_is a.1 in
    let c = next_is b.1 in
    let d = next_is c.1 in
    let e = next_is d.1 in
    record { opens = a.0; first = b.0; comma = c.0; last = d.0; closes = e.0; ends = none_is e.1 }

module _ {s : List ℕ} where
  -- The tokens of an interval are read up to its offsets.
  pub interval_reads : {p q o v w c : ℕ} {ws : List (List ℕ)} → Interval ws o v w c → Tokens s q p ws → interval s p ≡ offsets_of p o v w c q
  unfolding interval end_after_lem comma_at close_at
  interval_reads {p} {q} (Interval.interval {o} {c} {v} {w} {x} {y} ho kx ky hc) h =
      let t = five h in
      let i = starts_head s p o [] t.opens.stands in
      let j = starts_head s (p + 1 + length x) (byte ",") [] t.comma.stands in
      let k = starts_head s (p + 1 + length x + 1 + length y) c [] t.closes.stands in
      rw (i, ho, end_reads t.first kx, j, end_reads t.last ky, k, hc, t.ends)

-- ---- what was read

-- The tokens of an interval from p to q with these offsets.
pub record OffsetsAt (s : List ℕ) (p first more q : ℕ) : Type 0 where
  pub tokens : List (List ℕ)
  pub stand : Tokens s q p tokens
  pub opens : ℕ
  pub low : ℕ
  pub high : ℕ
  pub closes : ℕ
  pub interval : Interval tokens opens low high closes
  pub legal : Legal opens low high closes first more

offsets_of_lem : {p o v w c x : ℕ} {S : Offsets} {first more q : ℕ} → OffsetsAre p o v w c x S → S ≡ Ok (first, more, q) → Legal o v w c first more × (x ≡ q)
offsets_of_lem {o = o} {v} {w} {c} {first = first} {more} (OffsetsAre.legal {first = a} {more = b} l) e =
    let t = same_offsets e in
    let i : a ≡ first = ap (λ (z : ℕ × ℕ × ℕ). z.0) t in
    let j : b ≡ more = ap (λ (z : ℕ × ℕ × ℕ). z.1) t in
    (subst (λ z. Legal o v w c z more) i (subst (Legal o v w c a) j l), ap (λ (z : ℕ × ℕ × ℕ). z.2) t)
offsets_of_lem (OffsetsAre.illegal n) e = absurd (over_not e)

-- A test let the interval through.
let_through : (b : Bool) (S : Offsets) (r : Refusal) {first more q : ℕ} → pick b (λ _. S) (Err r) ≡ Ok (first, more, q) → (b ≡ true) × (S ≡ Ok (first, more, q))
let_through true S r e = (refl, e)
let_through false S r e = absurd (over_not e)

-- An end, and what went on.
record Ended (s : List ℕ) (p : ℕ) (K : ℕ → ℕ → Offsets) (S : Offsets) : Type 0 where
  text : List ℕ
  value : ℕ
  token : TokenAt s p text
  end : End text value
  on : K value (p + length text) ≡ S

ended : (s : List ℕ) (p k : ℕ) (K : ℕ → ℕ → Offsets) {first more q : ℕ} → end_then (end_at s p) k K ≡ Ok (first, more, q) → Ended s p K (Ok (first, more, q))
ended s p k K {first} {more} {q} = go (end_at_lem s p)
  where
    go : {d : Option (ℕ × ℕ)} → EndAt s p d → end_then d k K ≡ Ok (first, more, q) → Ended s p K (Ok (first, more, q))
    go (EndAt.some {w = w} {v = v} a m) e = record { text = w; value = v; token = a; end = m; on = e }
    go (EndAt.missing n) e = absurd (over_not e)

module _ (s : List ℕ) (p : ℕ) where
  pub interval_stands : {first more q : ℕ} → interval s p ≡ Ok (first, more, q) → OffsetsAt s p first more q
  unfolding interval end_after_lem comma_at close_at
  interval_stands e =
      let a = let_through (one_of (peek s p) (bytes "[(")) _ _ e in
      let x = ended s (p + 1) (p + 1) (comma_at s p (peek s p)) a.1 in
      let u = p + 1 + length x.text in
      let b = let_through (eqb (peek s u) (byte ",")) _ _ x.on in
      let y = ended s (u + 1) (u + 1) (close_at s p (peek s p) x.value) b.1 in
      let t = u + 1 + length y.text in
      let d = let_through (one_of (peek s t) (bytes "])")) _ _ y.on in
      let l = offsets_of_lem (offsets_are p (peek s p) x.value y.value (peek s t) (t + 1)) d.1 in
      record {
        tokens = (peek s p ∷ []) ∷ x.text ∷ bytes "," ∷ y.text ∷ (peek s t ∷ []) ∷ [];
        stand =
            Tokens.next (lone_token s p (two_lone (peek s p) (byte "[") (byte "(") refl refl a.0) refl)
            (Tokens.next x.token
            (Tokens.next (lone_token s u refl (eqb-true (peek s u) (byte ",") b.0))
            (Tokens.next y.token
            (one_at (lone_token s t (two_lone (peek s t) (byte "]") (byte ")") refl refl d.0) refl) l.1))));
        opens = peek s p;
        low = x.value;
        high = y.value;
        closes = peek s t;
        interval = Interval.interval a.0 x.end y.end d.0;
        legal = l.0;
      }
