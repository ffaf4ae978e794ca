-- The line of an event in a dump: it is read, or refused with 13 or 22, exactly in its case.
-- Assumes that the window has a tick. `names` are the declared names, W is the window, d the dump, u the time so far, k the first signal that may follow at
-- it, es are the events so far, p is the line's place.
use mathlib.Core.Path.{◌≡◌, refl, sym, ◌∙◌}
use mathlib.Core.Bool.{Bool, true, false, true≢false, ◌&&◌, and-eq-true_iff}
use mathlib.Core.List.{List, [], ◌∷◌, ◌++◌}
use Prim.Native.Nat.{ℕ, suc, ◌+◌, ◌-◌, ◌<◌, ◌≤◌}
use native.Mathlib.Decide.{dec_lt}
use native.Mathlib.Omega.{arith}
use borrow.Author.Tests.{eqb-true, eq-eqb, ltb-true, lt-ltb, leb-true, le-leb}
use lib.Dec.{eqb, ltb, leb}
use lib.ListN.{length}
use Rattle.read_bytes.specs.Read.{Read, and_then}
use Rattle.read_bytes.specs.Read.Read.{got, refused}
use Rattle.read_bytes.specs.Bytes.{bytes, byte, peek, pick, between, one_of, starts, InLine}
use Rattle.read_bytes.proofs.Tests.{between_in, between_is, between_high}
use Rattle.read_lines.specs.Lines.{ranged_line}
use Rattle.spec_grammar.specs.Lines.{LineAt, after, Number}
use Rattle.spec_grammar.proofs.Standing.{starts_head, starts_tail, starts_one, starts_cons}
use Rattle.spec_grammar.proofs.Lines.{in_line_by, starts_parts}
use Rattle.spec_grammar.proofs.LineKinds.{RangedIs, ranged_is, ranged_reads}
use Rattle.spec_dump.specs.DumpTexts.{Event, time, sign, id_byte}
use Rattle.spec_dump.specs.DumpLines.{sign_said, is_sign_line, sign_line, time_line, asked, event_at, time_after, signal_after}
use Rattle.spec_dump.proofs.Signs.{of_one}
use Rattle.proof_dump.specs.DumpCases.{Next, event, Owed, Right, Outside}

-- ---- a sign that is asked for

module _ (names : List (List ℕ)) (u k : ℕ) where
  pub asked_owed : asked (length names) u k ≡ true → Owed names u k
  unfolding asked
  asked_owed e =
      let w = (and-eq-true_iff (eqb u 0) (ltb k (length names))).0 e in
      (eqb-true u 0 w.0, ltb-true k (length names) w.1)

  pub owed_asked : Owed names u k → asked (length names) u k ≡ true
  unfolding asked
  owed_asked o = rw (eq-eqb u 0 o.0, lt-ltb k (length names) o.1)

  pub not_owed : (Owed names u k → ⊥) → asked (length names) u k ≡ false
  not_owed n = go (asked (length names) u k) refl
    where
      go : (b : Bool) → asked (length names) u k ≡ b → b ≡ false
      go true e = absurd (n (asked_owed e))
      go false e = refl

-- ---- signs

-- A sign's byte is no LF, and starts no time's line.
sign_in_line : (b : ℕ) → one_of b (bytes "01xz") ≡ true → b ≡ byte "\n" → ⊥
sign_in_line b h = of_one (λ c. c ≡ byte "\n" → ⊥) b (bytes "01xz") (λ e. omega arith, (λ e. omega arith, (λ e. omega arith, (λ e. omega arith, tt)))) h

sign_no_time : (b : ℕ) → one_of b (bytes "01xz") ≡ true → eqb (byte "#") b ≡ false
sign_no_time b h = of_one (λ c. eqb (byte "#") c ≡ false) b (bytes "01xz") (refl, (refl, (refl, (refl, tt)))) h

-- The line at p is the sign b of the signal x, which is from lo on and before hi.
record SignAt (d : List ℕ) (lo hi p x b : ℕ) : Type 0 where
  line : LineAt d p (b ∷ id_byte x ∷ [])
  from : lo ≤ x
  to : x < hi
  said : one_of b (bytes "01xz") ≡ true

-- What is answered of a sign's line.
data SignIs (d : List ℕ) (lo hi p : ℕ) : Read Event → Type 0 where
  signed : {x b : ℕ} → SignAt d lo hi p x b → SignIs d lo hi p (got (sign x (sign_said b)) (after p (b ∷ id_byte x ∷ [])))
  other : SignIs d lo hi p (refused 22 p)

module _ (d : List ℕ) (lo hi p : ℕ) where
  sign_there : is_sign_line d lo hi p ≡ true → SignAt d lo hi p (peek d (p + 1) - 33) (peek d p)
  unfolding is_sign_line
  sign_there t =
      let long = leb (p + 3) (length d) in
      let said = one_of (peek d p) (bytes "01xz") in
      let from = leb (id_byte lo) (peek d (p + 1)) in
      let to = ltb (peek d (p + 1)) (id_byte hi) in
      let a = (and-eq-true_iff (long && said && from && to) (eqb (peek d (p + 2)) (byte "\n"))).0 t in
      let b = (and-eq-true_iff (long && said && from) to).0 a.0 in
      let c = (and-eq-true_iff (long && said) from).0 b.0 in
      let f = (and-eq-true_iff long said).0 c.0 in
      let l = leb-true (p + 3) (length d) f.0 in
      let i = leb-true (id_byte lo) (peek d (p + 1)) c.1 in
      let j = ltb-true (peek d (p + 1)) (id_byte hi) b.1 in
      let x : peek d (p + 1) ≡ 33 + (peek d (p + 1) - 33) = omega arith in
      record {
        line = record {
          stands = starts_cons d p (peek d p) (id_byte (peek d (p + 1) - 33) ∷ []) refl (starts_one d (p + 1) (id_byte (peek d (p + 1) - 33)) x);
          in_line_lem = (sign_in_line (peek d p) f.1, (λ e. omega arith, tt));
          inside = omega arith;
          ends = eqb-true (peek d (p + 2)) (byte "\n") a.1;
        };
        from = omega arith;
        to = omega arith;
        said = f.1;
      }

  sign_is : SignIs d lo hi p (sign_line d lo hi p)
  unfolding sign_line
  sign_is = go (is_sign_line d lo hi p) refl
    where
      go : (b : Bool) → is_sign_line d lo hi p ≡ b → SignIs d lo hi p (pick b (λ _. got (sign (peek d (p + 1) - 33) (sign_said (peek d p))) (p + 3)) (refused 22 p))
      go true e = let n : p + 3 ≡ p + 2 + 1 = omega arith in rw n (signed (sign_there e))
      go false e = other

  sign_reads : {x b : ℕ} → SignAt d lo hi p x b → sign_line d lo hi p ≡ got (sign x (sign_said b)) (after p (b ∷ id_byte x ∷ []))
  unfolding sign_line is_sign_line
  sign_reads {x} {b} h =
      let a = h.line in
      let s = a.stands in
      let i = starts_head d p b (id_byte x ∷ []) s in
      let j = starts_head d (p + 1) (id_byte x) [] (starts_tail d p b (id_byte x ∷ []) s) in
      let z : 33 + x - 33 ≡ x = omega arith in
      let n : p + 3 ≡ p + 2 + 1 = omega arith in
      rw (i, j, a.ends, le-leb (p + 3) (length d) (omega (arith, a.inside)), h.said, le-leb (33 + lo) (33 + x) (omega (arith, h.from)), lt-ltb (33 + x) (33 + hi) (omega (arith, h.to)), z, n)

-- A sign's line is no time's.
no_time : (d : List ℕ) (p x b : ℕ) → LineAt d p (b ∷ id_byte x ∷ []) → one_of b (bytes "01xz") ≡ true → starts d p (bytes "#") ≡ false
unfolding starts
no_time d p x b a s = rw (starts_head d p b (id_byte x ∷ []) a.stands, sign_no_time b s)

-- ---- events

in_hash : InLine (bytes "#")
in_hash = in_line_by (bytes "#") refl

-- What comes next after one more event.
abbrev pub next_of : ℕ → List Event → Event → Next
next_of u es e = event (time_after u e) (signal_after e) (es ++ (e ∷ []))

pub data EventIs (names : List (List ℕ)) (W : ℕ) (d : List ℕ) (u k : ℕ) (es : List Event) (p : ℕ) : Read Event → Type 0 where
  right : {e : Event} {l : List ℕ} → LineAt d p l → Right names W (event u k es) l (next_of u es e) → EventIs names W d u k es p (got e (after p l))
  outside : {n i : ℕ} → Outside names W d p (event u k es) n i → EventIs names W d u k es p (refused n i)
  other : EventIs names W d u k es p (refused 22 p)

module _ (names : List (List ℕ)) (W : ℕ) (some : 1 ≤ W) (d : List ℕ) (u k : ℕ) (es : List Event) (p : ℕ) where
  time_is : (Owed names u k → ⊥) → EventIs names W d u k es p (time_line W d u p)
  unfolding time_line
  time_is free = go (ranged_is d p (bytes "#") 22 in_hash 13 0 (W - 1))
    where
      rising : ℕ → ℕ → Read Event
      rising t q = pick (ltb u t) (λ _. got (time t) q) (refused 22 p)

      on : {v : List ℕ} {t : ℕ} → LineAt d p (bytes "#" ++ v) → Number v t → t < W → (b : Bool) → ltb u t ≡ b → EventIs names W d u k es p (pick b (λ _. got (time t) (after p (bytes "#" ++ v))) (refused 22 p))
      on {t = t} a n l true e = right {e = time t} a (Right.timed free n (ltb-true u t e) l)
      on a n l false e = other

      out : {v : List ℕ} {t : ℕ} → LineAt d p (bytes "#" ++ v) → Number v t → between 0 (W - 1) t ≡ false → Dec (t < W) → EventIs names W d u k es p (refused 13 (p + length (bytes "#")))
      out {t = t} a n b (yes l) = absurd (true≢false (sym (between_in 0 (W - 1) t (omega arith) (omega arith)) ∙ b))
      out a n b (no l) = outside (Outside.tick free a n (omega arith))

      go : {R : Read ℕ} → RangedIs d p (bytes "#") 22 13 0 (W - 1) R → EventIs names W d u k es p (and_then R rising)
      go (RangedIs.inside {x = t} a n b) = let i = between_is 0 (W - 1) t b in on a n (omega (arith, i.1)) (ltb u t) refl
      go (RangedIs.outside {x = t} a n b) = out a n b (dec_lt t W)
      go (RangedIs.unformed n) = other

  said_is : (hi : ℕ) → hi ≤ length names → (Owed names u k → hi ≡ suc k) → EventIs names W d u k es p (sign_line d k hi p)
  said_is hi l one = go (sign_is d k hi p)
    where
      go : {R : Read Event} → SignIs d k hi p R → EventIs names W d u k es p R
      go (signed {x} {b} h) = right {e = sign x (sign_said b)} h.line (Right.said h.from (omega (arith, h.to)) (λ o. (let e = one o in omega (arith, h.from, h.to))) h.said)
      go other = other

  pub event_is : EventIs names W d u k es p (event_at W (length names) d u k p)
  unfolding event_at
  event_is = go (asked (length names) u k) refl (starts d p (bytes "#")) refl
    where
      go : (b : Bool) → asked (length names) u k ≡ b → (c : Bool) → starts d p (bytes "#") ≡ c → EventIs names W d u k es p (event_at W (length names) d u k p)
      go true e c f = let o = asked_owed names u k e in rw e (said_is (suc k) (omega (arith, o.1)) (λ z. refl))
      go false e true f = rw (e, f) (time_is (λ o. true≢false (sym (owed_asked names u k o) ∙ e)))
      go false e false f = rw (e, f) (said_is (length names) (omega arith) (λ o. absurd (true≢false (sym (owed_asked names u k o) ∙ e))))

  -- A right line is read,
  pub right_event : {l : List ℕ} {c : Next} → LineAt d p l → Right names W (event u k es) l c → (e : Event) × (event_at W (length names) d u k p ≡ got e (after p l)) × (c ≡ next_of u es e)
  unfolding event_at time_line
  right_event a (Right.said {x = x} {b} f t o s) = (sign x (sign_said b), go (asked (length names) u k) refl, refl)
    where
      go : (c : Bool) → asked (length names) u k ≡ c → event_at W (length names) d u k p ≡ got (sign x (sign_said b)) (after p (b ∷ id_byte x ∷ []))
      go true e = let i = o (asked_owed names u k e) in rw e (sign_reads d k (suc k) p (record { line = a; from = f; to = omega arith; said = s }))
      go false e = rw (e, no_time d p x b a s) (sign_reads d k (length names) p (record { line = a; from = f; to = t; said = s }))
  right_event a (Right.timed {t = t} {v} free n l i) =
      let r : ranged_line d p (bytes "#") 22 13 0 (W - 1) ≡ got t (after p (bytes "#" ++ v)) = ranged_reads in_hash (RangedIs.inside a n (between_in 0 (W - 1) t (omega arith) (omega arith))) in
      (time t, rw (not_owed names u k free, (starts_parts d p (bytes "#") v a.stands).0, r, lt-ltb u t l), refl)

  -- and one with a tick outside the window is refused.
  pub outside_event : {n i : ℕ} → Outside names W d p (event u k es) n i → event_at W (length names) d u k p ≡ refused n i
  unfolding event_at time_line
  outside_event (Outside.tick {t = t} {v} free a n l) =
      let r : ranged_line d p (bytes "#") 22 13 0 (W - 1) ≡ refused 13 (p + length (bytes "#")) = ranged_reads in_hash (RangedIs.outside a n (between_high 0 (W - 1) t (omega arith))) in
      rw (not_owed names u k free, (starts_parts d p (bytes "#") v a.stands).0, r)
