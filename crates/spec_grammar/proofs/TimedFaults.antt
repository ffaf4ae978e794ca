-- Refusals inside an interval and inside a timed part.
-- Assumes nothing.
use mathlib.Core.Path.{◌≡◌, refl, sym, ap, subst, ◌∙◌}
use mathlib.Core.Bool.{Bool, true, false, ◌||◌}
use mathlib.Core.Logic.{◌⊎◌, inl, inr, ⊎_elim}
use mathlib.Core.List.{List, [], ◌∷◌, ◌++◌, append_assoc, append-nil}
use mathlib.Core.Option as option
use Prim.Native.Nat.{ℕ, zero, suc, ◌+◌, ◌≤◌}
use native.Mathlib.Omega.{arith}
use borrow.Author.Tests.{eqb-true}
use lib.Dec.{eqb}
use lib.ListN.{length}
use Rattle.std.specs.Prelude.{Option}
use Rattle.read_bytes.specs.Read.{Read, and_then}
use Rattle.read_bytes.specs.Read.Read.{got}
use Rattle.read_bytes.specs.Bytes.{byte, bytes, peek, pick, one_of, digit, starts}
use Rattle.read_bytes.proofs.Places.{peek_out}
use Rattle.spec_tilco.specs.Formula.{Written}
use Rattle.std.specs.Prelude.{Ok, Err}
use Rattle.spec_refusals.specs.declared.Fault.TheVariants as fault
use Rattle.spec_refusals.specs.Numbers.{fault_number, Refusal}
use Rattle.read_interval.specs.Interval.{Offsets, refusing}
use Rattle.read_interval.specs.Interval as reading
use Rattle.read_interval.specs.Interval.{end_at, end_then, end_after_lem, close_at, comma_at, offsets_of, end_zero}
use Rattle.read_parts.specs.FormulaText.{Reader, offsets_then, times, timed_part}
use Rattle.spec_grammar.specs.Tokens.{End, Token, TokenAt, Tokens}
use Rattle.spec_grammar.specs.Grammar.{Part, time_sign, Interval, Is}
use Rattle.spec_grammar.specs.RuleFaults.{AnyName, AnyOffsets, OffsetsBegin}
use Rattle.spec_grammar.proofs.Standing.{starts_head, one_at, tokens_then}
use Rattle.spec_grammar.proofs.Signs.{lone_token, token_some, sign_end, word_no_end}
use Rattle.spec_grammar.proofs.Ends.{EndAt, end_at_lem}
use Rattle.spec_grammar.proofs.Offsets.{OffsetsAre, offsets_are, OffsetsAt, two_lone}
use Rattle.spec_grammar.proofs.Sound.{time_token, time_length}
use Rattle.spec_grammar.proofs.Complete.{tokens_ahead}
use Rattle.spec_grammar.proofs.Walk.{deep as deeper, loosen, Tests, Upto, Joins, Frame, Place, Walks, step, first_of, end_byte, walks_then, walks_one, step_time, step_opens, step_first, step_comma, step_last, walk_interval}
use Rattle.spec_grammar.proofs.Faults.{Begin, Loose, Before, View, Hopes, map_hopes, Bad, Out, as_kind}

-- A token's first byte is the byte at its place.
pub token_first : {s : List ℕ} {p : ℕ} {w : List ℕ} → TokenAt s p w → first_of w ≡ peek s p
token_first {s} {p} {w} a =
    let t = token_some a.token in
    ap first_of t.2 ∙ sym (starts_head s p t.0 t.1 (subst (λ z. starts s p z ≡ true) t.2 a.stands))

pub none_not : {A : Type 0} {z : A} → ◌≡◌ {A = option.Option A} option.none (option.some z) → ⊥
none_not e = let x : ◌≡◌ {A = ℕ} 0 1 = cc in omega arith

pub or_in : (a b : Bool) → a || b ≡ true → (a ≡ true) ⊎ (b ≡ true)
or_in true b e = inl refl
or_in false b e = inr e

-- Where no end stands, no token begins as an end does.
no_end : {s : List ℕ} {p : ℕ} {w : List ℕ} → ((x : List ℕ) (v : ℕ) → End x v → starts s p x ≡ true → ⊥) → TokenAt s p w → end_byte (first_of w) ≡ true → ⊥
no_end {s} {p} {w} n a h = go a.token a.stands
  where
    at : (digit (peek s p) ≡ true) ⊎ (peek s p ≡ byte "-")
    at = ⊎_elim (λ d. inl d) (λ m. inr (eqb-true (peek s p) (byte "-") m)) (or_in (digit (peek s p)) (eqb (peek s p) (byte "-")) (ap end_byte (sym (token_first a)) ∙ h))

    go : {x : List ℕ} → Token x → starts s p x ≡ true → ⊥
    go (Token.word k) t = word_no_end s p k t at
    go (Token.end {w = x} {v = v} k) t = n x v k t
    go (Token.sign m) t = sign_end s p m t at

-- ---- intervals

record OffsetsBad (names : List (List ℕ)) (s : List ℕ) (τ : Tests) (e : ℕ) (x : Place) (d p n κ : ℕ) : Type 0 where
  tokens : List (List ℕ)
  stand : Tokens s κ p tokens
  at : Place
  walks : Walks τ x tokens at
  begins : OffsetsBegin tokens
  hopes : Hopes names s τ e at d (λ c ts. OffsetsBegin (tokens ++ ts)) n κ

data OffsetsOut (names : List (List ℕ)) (s : List ℕ) (τ : Tests) (e : ℕ) (x : Place) (d p : ℕ) : Offsets → Type 0 where
  over : {first more q : ℕ} → OffsetsAt s p first more q → OffsetsOut names s τ e x d p (Ok (first, more, q))
  bad : {r : Refusal} → OffsetsBad names s τ e x d p (fault_number r.fault) r.place → OffsetsOut names s τ e x d p (Err r)

-- Inside an interval no rule ends.
within : {i : Upto} {b c : ℕ} {j k : Joins} {st : List Frame} → Place.offsets i b j st ≡ Place.after c k [] → ⊥
within e = let x : ◌≡◌ {A = ℕ} 0 1 = cc in omega arith

-- A token that is not the one of the interval that comes next leads nowhere.
module _ (τ : Tests) (b : ℕ) (j : Joins) (st : List Frame) (w : List ℕ) (z : Place) where
  stuck_open : one_of (first_of w) (bytes "[(") ≡ false → step τ (Place.offsets Upto.start b j st) w ≡ option.some z → ⊥
  unfolding step
  stuck_open h k = none_not (rw h at k)

  stuck_first : (o : ℕ) → (end_byte (first_of w) ≡ true → ⊥) → step τ (Place.offsets (Upto.bracket o) b j st) w ≡ option.some z → ⊥
  unfolding step
  stuck_first o h k = go (end_byte (first_of w)) refl
    where
      go : (c : Bool) → end_byte (first_of w) ≡ c → ⊥
      go true i = h i
      go false i = none_not (rw i at k)

  stuck_comma : (o v : ℕ) → eqb (first_of w) (byte ",") ≡ false → step τ (Place.offsets (Upto.low o v) b j st) w ≡ option.some z → ⊥
  unfolding step
  stuck_comma o v h k = none_not (rw h at k)

  stuck_last : (o v : ℕ) → (end_byte (first_of w) ≡ true → ⊥) → step τ (Place.offsets (Upto.comma o v) b j st) w ≡ option.some z → ⊥
  unfolding step
  stuck_last o v h k = go (end_byte (first_of w)) refl
    where
      go : (c : Bool) → end_byte (first_of w) ≡ c → ⊥
      go true i = h i
      go false i = none_not (rw i at k)

  stuck_close : (o v x : ℕ) → one_of (first_of w) (bytes "])") ≡ false → step τ (Place.offsets (Upto.high o v x) b j st) w ≡ option.some z → ⊥
  unfolding step
  stuck_close o v x h k = none_not (rw h at k)

module _ (names : List (List ℕ)) (s : List ℕ) (τ : Tests) (e d p b : ℕ) (j : Joins) (st : List Frame) where
  abbrev Here : Offsets → Type 0
  Here = OffsetsOut names s τ e (Place.offsets Upto.start b j st) d p

  -- The token at κ does not fit.
  cut : (i : Upto) (κ : ℕ) (us : List (List ℕ)) → Tokens s κ p us → Walks τ (Place.offsets Upto.start b j st) us (Place.offsets i b j st) → OffsetsBegin us → ((w : List ℕ) (z : Place) → TokenAt s κ w → step τ (Place.offsets i b j st) w ≡ option.some z → ⊥)
      → Here (refusing fault.Formula κ)
  cut i κ us t w h k = bad (record { tokens = us; stand = t; at = Place.offsets i b j st; walks = w; begins = h; hopes = Hopes.token (subst OffsetsBegin (sym (append-nil us)) h) k (λ l c m x. within x) })

  module _ (ho : one_of (peek s p) (bytes "[(") ≡ true) where
    open_token : TokenAt s p (peek s p ∷ [])
    open_token = lone_token s p (two_lone (peek s p) (byte "[") (byte "(") refl refl ho) refl

    module _ {x : List ℕ} {v : ℕ} (ax : TokenAt s (p + 1) x) (kx : End x v) where
      module _ (hm : peek s (p + 1 + length x) ≡ byte ",") {y : List ℕ} {w : ℕ} (ay : TokenAt s (p + 1 + length x + 1) y) (ky : End y w) where
        close_out : Here (close_at s p (peek s p) v w (p + 1 + length x + 1 + length y))
        unfolding close_at
        close_out = go (one_of (peek s t) (bytes "])")) refl
          where
            t : ℕ
            t = p + 1 + length x + 1 + length y

            four : List (List ℕ)
            four = (peek s p ∷ []) ∷ x ∷ bytes "," ∷ y ∷ []

            walks : Walks τ (Place.offsets Upto.start b j st) four (Place.offsets (Upto.high (peek s p) v w) b j st)
            walks =
                Walks.next (step_opens τ b j st (peek s p) ho)
                (Walks.next (step_first τ b j st (peek s p) kx) (Walks.next (step_comma τ b j st (peek s p) v) (walks_one (step_last τ b j st (peek s p) v ky))))

            stand : Tokens s t p four
            stand = Tokens.next open_token (Tokens.next ax (Tokens.next (lone_token s (p + 1 + length x) refl hm) (one_at ay refl)))

            whole : one_of (peek s t) (bytes "])") ≡ true → {S : Offsets} → OffsetsAre p (peek s p) v w (peek s t) (t + 1) S → Here S
            whole hc (OffsetsAre.legal l) =
                over
                (record {
                  tokens = four ++ ((peek s t ∷ []) ∷ []);
                  stand = tokens_then four stand (one_at (lone_token s t (two_lone (peek s t) (byte "]") (byte ")") refl refl hc) refl) refl);
                  opens = peek s p;
                  low = v;
                  high = w;
                  closes = peek s t;
                  interval = Interval.interval ho kx ky hc;
                  legal = l;
                })
            whole hc (OffsetsAre.illegal n) =
                bad
                (record {
                  tokens = [];
                  stand = Tokens.none;
                  at = Place.offsets Upto.start b j st;
                  walks = Walks.stop;
                  begins = record { rest = four ++ ((peek s t ∷ []) ∷ []); opens = peek s p; low = v; high = w; closes = peek s t; is = Interval.interval ho kx ky hc };
                  hopes =
                      Hopes.offsets (tokens_then four stand (one_at (lone_token s t (two_lone (peek s t) (byte "]") (byte ")") refl refl hc) refl) refl)) (Interval.interval ho kx ky hc) n
                      (record { rest = []; opens = peek s p; low = v; high = w; closes = peek s t; is = Interval.interval ho kx ky hc });
                })

            go : (c : Bool) → one_of (peek s t) (bytes "])") ≡ c → Here (pick (one_of (peek s t) (bytes "])")) (λ _. offsets_of p (peek s p) v w (peek s t) (t + 1)) (refusing fault.Formula t))
            go true hc = rw hc (whole hc (offsets_are p (peek s p) v w (peek s t) (t + 1)))
            go false hc =
                rw hc
                (cut (Upto.high (peek s p) v w) t four stand walks
                (record { rest = bytes "]" ∷ []; opens = peek s p; low = v; high = w; closes = byte "]"; is = Interval.interval ho kx ky refl })
                (λ u z a k. stuck_close τ b j st u z (peek s p) v w (ap (λ q. one_of q (bytes "])")) (token_first a) ∙ hc) k))

      comma_out : Here (comma_at s p (peek s p) v (p + 1 + length x))
      unfolding comma_at end_after_lem
      comma_out = go (eqb (peek s (p + 1 + length x)) (byte ",")) refl
        where
          u : ℕ
          u = p + 1 + length x

          two : List (List ℕ)
          two = (peek s p ∷ []) ∷ x ∷ []

          stand : Tokens s u p two
          stand = Tokens.next open_token (one_at ax refl)

          walks : Walks τ (Place.offsets Upto.start b j st) two (Place.offsets (Upto.low (peek s p) v) b j st)
          walks = Walks.next (step_opens τ b j st (peek s p) ho) (walks_one (step_first τ b j st (peek s p) kx))

          next : peek s u ≡ byte "," → {D : Option (ℕ × ℕ)} → EndAt s (u + 1) D → Here (end_then D (u + 1) (close_at s p (peek s p) v))
          next hm (EndAt.some ay ky) = close_out hm ay ky
          next hm (EndAt.missing n) =
              cut (Upto.comma (peek s p) v) (u + 1) (two ++ (bytes "," ∷ [])) (tokens_then two stand (one_at (lone_token s u refl hm) refl)) (walks_then walks (walks_one (step_comma τ b j st (peek s p) v)))
              (record { rest = bytes "0" ∷ bytes "]" ∷ []; opens = peek s p; low = v; high = end_zero; closes = byte "]"; is = Interval.interval ho kx End.nought refl })
              (λ w z a k. stuck_last τ b j st w z (peek s p) v (no_end n a) k)

          go : (c : Bool) → eqb (peek s u) (byte ",") ≡ c → Here (pick (eqb (peek s u) (byte ",")) (λ _. end_then (end_at s (u + 1)) (u + 1) (close_at s p (peek s p) v)) (refusing fault.Formula u))
          go true hm = rw hm (next (eqb-true (peek s u) (byte ",") hm) (end_at_lem s (u + 1)))
          go false hm =
              rw hm
              (cut (Upto.low (peek s p) v) u two stand walks
              (record { rest = bytes "," ∷ bytes "0" ∷ bytes "]" ∷ []; opens = peek s p; low = v; high = end_zero; closes = byte "]"; is = Interval.interval ho kx End.nought refl })
              (λ w z a k. stuck_comma τ b j st w z (peek s p) v (ap (λ q. eqb q (byte ",")) (token_first a) ∙ hm) k))

  interval_out : Here (reading.interval s p)
  unfolding reading.interval end_after_lem
  interval_out = go (one_of (peek s p) (bytes "[(")) refl
    where
      next : (ho : one_of (peek s p) (bytes "[(") ≡ true) → {D : Option (ℕ × ℕ)} → EndAt s (p + 1) D → Here (end_then D (p + 1) (comma_at s p (peek s p)))
      next ho (EndAt.some ax kx) = comma_out ho ax kx
      next ho (EndAt.missing n) =
          cut (Upto.bracket (peek s p)) (p + 1) ((peek s p ∷ []) ∷ []) (one_at (open_token ho) refl) (walks_one (step_opens τ b j st (peek s p) ho))
          (record { rest = bytes "0" ∷ bytes "," ∷ bytes "0" ∷ bytes "]" ∷ []; opens = peek s p; low = end_zero; high = end_zero; closes = byte "]"; is = Interval.interval ho End.nought End.nought refl })
          (λ w z a k. stuck_first τ b j st w z (peek s p) (no_end n a) k)

      go : (c : Bool) → one_of (peek s p) (bytes "[(") ≡ c → Here (pick (one_of (peek s p) (bytes "[(")) (λ _. end_then (end_at s (p + 1)) (p + 1) (comma_at s p (peek s p))) (refusing fault.Formula p))
      go true ho = rw ho (next ho (end_at_lem s (p + 1)))
      go false ho =
          rw ho
          (cut Upto.start p [] Tokens.none Walks.stop
          (record { rest = bytes "[" ∷ bytes "0" ∷ bytes "," ∷ bytes "0" ∷ bytes "]" ∷ []; opens = byte "["; low = end_zero; high = end_zero; closes = byte "]"; is = Interval.interval refl End.nought End.nought refl })
          (λ w z a k. stuck_open τ b j st w z (ap (λ q. one_of q (bytes "[(")) (token_first a) ∙ ho) k))

-- ---- timed parts

regroup : (a : List (List ℕ)) (x : List ℕ) (u ts r : List (List ℕ)) → (((a ++ (x ∷ [])) ++ u) ++ ts) ++ r ≡ a ++ (x ∷ ((u ++ ts) ++ r))
regroup a x u ts r = simp append_assoc

no_time : (s : List ℕ) (q : ℕ) → length s ≤ q → one_of (peek s q) (bytes "@?") ≡ false
no_time s q h = rw (peek_out s q h)

module _ {names : List (List ℕ)} (s : List ℕ) (ν : View names) (e d : ℕ) (P : Reader) (sub : (p b : ℕ) (j : Joins) (st : List Frame) → Out s ν e b (e + d) j st Part.plain d p (P p)) where
  record Timed (j : Joins) (st : List Frame) (p q : ℕ) (f : Written) : Type 0 where
    tokens : List (List ℕ)
    stand : Tokens s q p tokens
    is : Is ν.N ν.I Part.timed d tokens f
    walks : Walks ν.tests (Place.want (e + d) (e + d) j st) tokens (Place.after (e + d) j st)

  time_good : {j : Joins} {st : List Frame} {p q r first more : ℕ} {f : Written} → Timed j st p q f → one_of (peek s q) (bytes "@?") ≡ true → OffsetsAt s (q + 1) first more r
      → Timed j st p r (Written.time (eqb (peek s q) (byte "@")) first more f)
  time_good {j} {st} {q = q} a t i =
      let ok = ν.offsets _ _ _ _ _ _ i.legal in
      let l = time_length (eqb (peek s q) (byte "@")) in
      record {
        tokens = a.tokens ++ (time_sign (eqb (peek s q) (byte "@")) ∷ i.tokens);
        stand = tokens_then a.tokens a.stand (Tokens.next (time_token s q t) (rw l i.stand));
        is = Is.time (eqb (peek s q) (byte "@")) a.is i.interval ok.0;
        walks = walks_then a.walks (Walks.next (step_time ν.tests (e + d) j st (eqb (peek s q) (byte "@"))) (walk_interval ν.tests (e + d) j st i.interval ok.1));
      }

  time_bad : {j : Joins} {st : List Frame} {p q n κ : ℕ} {f : Written} → Timed j st p q f → one_of (peek s q) (bytes "@?") ≡ true → OffsetsBad names s ν.tests e (Place.offsets Upto.start (e + d) j st) d (q + 1) n κ
      → Bad s ν e (Place.want (e + d) (e + d) j st) Part.timed d p n κ
  time_bad {j} {st} {q = q} {f = f} a t b =
      let l = time_length (eqb (peek s q) (byte "@")) in
      record {
        tokens = (a.tokens ++ (time_sign (eqb (peek s q) (byte "@")) ∷ [])) ++ b.tokens;
        stand = tokens_then (a.tokens ++ (time_sign (eqb (peek s q) (byte "@")) ∷ [])) (tokens_then a.tokens a.stand (one_at (time_token s q t) (rw l))) b.stand;
        at = b.at;
        walks = walks_then (walks_then a.walks (walks_one (step_time ν.tests (e + d) j st (eqb (peek s q) (byte "@"))))) b.walks;
        before =
            subst (Before ν.N ν.I Part.timed d) (sym (append_assoc a.tokens (time_sign (eqb (peek s q) (byte "@")) ∷ []) b.tokens))
            (Before.offsets (eqb (peek s q) (byte "@")) (begun a.is) b.begins (begun_offsets b.begins));
        hopes = map_hopes _ _ (λ ts h. to ts loose h) (λ ts h. to ts (deeper AnyName AnyOffsets loose) h) b.hopes;
      }
    where
      loose : Is AnyName AnyOffsets Part.timed d a.tokens f
      loose = loosen ν.N ν.I a.is

      begun : {ts : List (List ℕ)} {g : Written} → Is ν.N ν.I Part.timed d ts g → Begin ν.N ν.I Part.timed d ts
      begun {ts} {g} i = record { rest = []; says = g; is = subst (λ z. Is ν.N ν.I Part.timed d z g) (sym (append-nil ts)) i }

      begun_offsets : OffsetsBegin b.tokens → Loose Part.timed d (a.tokens ++ (time_sign (eqb (peek s q) (byte "@")) ∷ b.tokens))
      begun_offsets h =
          record {
            rest = h.rest;
            says = Written.time (eqb (peek s q) (byte "@")) 0 0 f;
            is =
                subst (λ z. Is AnyName AnyOffsets Part.timed d z (Written.time (eqb (peek s q) (byte "@")) 0 0 f)) (sym (append_assoc a.tokens (time_sign (eqb (peek s q) (byte "@")) ∷ b.tokens) h.rest))
                (Is.time (eqb (peek s q) (byte "@")) loose h.is tt);
          }

      to : {c : ℕ} (ts : List (List ℕ)) → Is AnyName AnyOffsets Part.timed c a.tokens f → OffsetsBegin (b.tokens ++ ts) → Loose Part.timed c (((a.tokens ++ (time_sign (eqb (peek s q) (byte "@")) ∷ [])) ++ b.tokens) ++ ts)
      to {c} ts i h =
          record {
            rest = h.rest;
            says = Written.time (eqb (peek s q) (byte "@")) 0 0 f;
            is =
                subst (λ z. Is AnyName AnyOffsets Part.timed c z (Written.time (eqb (peek s q) (byte "@")) 0 0 f)) (sym (regroup a.tokens (time_sign (eqb (peek s q) (byte "@"))) b.tokens ts h.rest))
                (Is.time (eqb (peek s q) (byte "@")) i h.is tt);
          }

  time_ended : {j : Joins} {st : List Frame} {p q : ℕ} {f : Written} → Timed j st p q f → one_of (peek s q) (bytes "@?") ≡ false → Out s ν e (e + d) (e + d) j st Part.timed d p (got f q)
  time_ended {j} a h = Out.good (record { tokens = a.tokens; stand = a.stand; is = a.is; left = j; walks = a.walks; kept = refl; quiet = h })

  times_out : (n p q : ℕ) (f : Written) (j : Joins) (st : List Frame) → length s ≤ q + n → Timed j st p q f → Out s ν e (e + d) (e + d) j st Part.timed d p (times s n f q)
  unfolding times
  times_out zero p q f j st l a = time_ended a (no_time s q (omega arith))
  times_out (suc n) p q f j st l a = go (one_of (peek s q) (bytes "@?")) refl (λ first more r k b. times_out n p r (Written.time (eqb (peek s q) (byte "@")) first more f) j st k b)
    where
      go : (b : Bool) → one_of (peek s q) (bytes "@?") ≡ b
          → ((first more r : ℕ) → length s ≤ r + n → Timed j st p r (Written.time (eqb (peek s q) (byte "@")) first more f) → Out s ν e (e + d) (e + d) j st Part.timed d p (times s n (Written.time (eqb (peek s q) (byte "@")) first more f) r))
          → Out s ν e (e + d) (e + d) j st Part.timed d p (pick (one_of (peek s q) (bytes "@?")) (λ _. offsets_then (reading.interval s (q + 1)) (λ first more r. times s n (Written.time (eqb (peek s q) (byte "@")) first more f) r)) (got f q))
      go true t k = rw t (on (interval_out names s ν.tests e d (q + 1) (e + d) j st))
        where
          on : {S : Offsets} → OffsetsOut names s ν.tests e (Place.offsets Upto.start (e + d) j st) d (q + 1) S → Out s ν e (e + d) (e + d) j st Part.timed d p (offsets_then S (λ first more r. times s n (Written.time (eqb (peek s q) (byte "@")) first more f) r))
          on (OffsetsOut.over {first = first} {more = more} {q = r} i) = k first more r (let m = tokens_ahead i.tokens i.stand in omega arith) (time_good a t i)
          on (OffsetsOut.bad b) = Out.bad (time_bad a t b)
      go false t k = rw t (time_ended a t)

  pub timed_out : (p : ℕ) (j : Joins) (st : List Frame) → Out s ν e (e + d) (e + d) j st Part.timed d p (timed_part P s p)
  unfolding timed_part
  timed_out p j st = go (sub p (e + d) j st)
    where
      go : {R : Read Written} → Out s ν e (e + d) (e + d) j st Part.plain d p R → Out s ν e (e + d) (e + d) j st Part.timed d p (and_then R (λ f q. times s (length s) f q))
      go (Out.bad b) = Out.bad (as_kind s ν e (λ N I c ws f i. Is.untimed i) b)
      go (Out.good {f = f} {q = q} a) =
          times_out (length s) p q f j st (omega arith)
          (record {
            tokens = a.tokens;
            stand = a.stand;
            is = Is.untimed a.is;
            walks = subst (λ i. Walks ν.tests (Place.want (e + d) (e + d) j st) a.tokens (Place.after (e + d) i st)) a.kept a.walks;
          })
