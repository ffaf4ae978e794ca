-- A readings text's refusals 11 to 14 and 21 are given exactly for its first line at fault, and it is accepted exactly if all its lines are right.
-- Assumes that the text has at most 32,768 bytes. `spans` tells its form.
use mathlib.Core.Path.{◌≡◌, refl, sym, ap, subst, ◌∙◌}
use mathlib.Core.Bool.{Bool, true, false, true≢false}
use mathlib.Core.Logic.{◌⊎◌, inl, inr, ⊎_elim, ◌↔◌}
use mathlib.Core.List.{List, [], ◌∷◌, ◌++◌}
use Prim.Native.Nat.{ℕ, zero, suc, ◌+◌, ◌≤◌, ◌<◌}
use native.Mathlib.Omega.{arith}
use native.Mathlib.Decide.{dec_lt}
use borrow.Author.Tests.{ltb-true, ltb-false, lt-ltb, le-ltb, le-leb, lt-leb}
use lib.Dec.{eqb, ltb, leb}
use lib.ListN.{length}
use Rattle.spec_limits.specs.Limits.{most_bytes}
use Rattle.read_bytes.specs.Read.{Read, and_then}
use Rattle.read_bytes.specs.Read.Read.{got, refused}
use Rattle.read_bytes.specs.Bytes.{bytes, pick, peek, between, starts, InLine}
use Rattle.read_names.specs.Spellings.{spelling_at, find_name}
use Rattle.read_lines.specs.Lines.{ranged_line, up_to}
use Rattle.read_bytes.proofs.Answers.{not_both, same_value, then_same}
use Rattle.read_bytes.proofs.Later.{starts_later}
use Rattle.spec_tilco.specs.Inference.{Mark}
use Rattle.read_reading.specs.Spans.{Span, span}
use Rattle.read_reading.specs.OneEntry.{known_line, tick_line, first_key, to_line, last_tick, entry}
use Rattle.read_readings.specs.Readings.{in_spans, entries, readings}
use Rattle.read_readings.proofs.Turns.{every, entries_short, readings_are, readings_off}
use Rattle.spec_grammar.specs.Grammar.{Declared}
use Rattle.spec_grammar.specs.Lines.{LineAt, after, Number, SignalName}
use Rattle.spec_grammar.specs.ReadingLines.{HasForm, Next, key, after_first, Ranged, NotBelow, Formed, More, Right, Reached, ReadingsRead, Unknown, OutOfRange, Below, Fault, First, ReadingsFault}
use Rattle.spec_grammar.proofs.Standing.{starts_head, starts_tail}
use Rattle.spec_grammar.proofs.Lines.{in_line_by, value_one, value_at_lem, same_word}
use Rattle.spec_grammar.proofs.LineKinds.{RangedIs, ranged_is, ranged_reads, in_signal, NamedIs, named_is}
use Rattle.spec_grammar.proofs.HeadLines.{then_then}

-- ---- the form

-- A text that begins with these bytes is made of them and of what follows.
split_after : (r w : List ℕ) → InLine w → starts r 0 w ≡ true → (t : List ℕ) × (r ≡ w ++ t)
unfolding peek
split_after r [] i h = (r, refl)
split_after [] (x ∷ w) i h = absurd (i.0 (sym (starts_head [] 0 x w h)))
split_after (b ∷ r) (x ∷ w) i h =
    let e : b ≡ x = starts_head (b ∷ r) 0 x w h in
    let z = split_after r w i.1 (sym (starts_later (b ∷ []) r 0 w) ∙ starts_tail (b ∷ r) 0 x w h) in
    let f = z.1 in
    (z.0, cc)

from_begins : (t : List ℕ) → starts (bytes "from=" ++ t) 0 (bytes "from=") ≡ true
unfolding starts peek
from_begins t = refl

-- The form that a text has is the one that its first bytes tell,
pub form_told : {r : List ℕ} {spans : Bool} → HasForm r spans → in_spans r ≡ spans
unfolding in_spans
form_told (HasForm.spans t e) = ap (λ (x : List ℕ). starts x 0 (bytes "from=")) e ∙ from_begins t
form_told {r} (HasForm.singles n) = go (starts r 0 (bytes "from=")) refl
  where
    go : (b : Bool) → starts r 0 (bytes "from=") ≡ b → b ≡ false
    go true e = let z = split_after r (bytes "from=") (in_line_by (bytes "from=") refl) e in absurd (n z.0 z.1)
    go false e = refl

-- and the one that they tell is the form that it has.
pub told_form : {r : List ℕ} (spans : Bool) → in_spans r ≡ spans → HasForm r spans
unfolding in_spans
told_form {r} true e = let z = split_after r (bytes "from=") (in_line_by (bytes "from=") refl) e in HasForm.spans z.0 z.1
told_form {r} false e = HasForm.singles (λ t f. true≢false (sym (ap (λ (x : List ℕ). starts x 0 (bytes "from=")) f ∙ from_begins t) ∙ e))

-- ---- the line of a signal

-- Right, wrong, or none.
data KnownIs (names : List (List ℕ)) (r : List ℕ) (p : ℕ) : Read ℕ → Type 0 where
  right : (v : List ℕ) {x : ℕ} → LineAt r p (bytes "signal=" ++ v) → SignalName v → Declared names v x → KnownIs names r p (got x (after p (bytes "signal=" ++ v)))
  wrong : (v : List ℕ) → LineAt r p (bytes "signal=" ++ v) → ((x : ℕ) → SignalName v → Declared names v x → ⊥) → KnownIs names r p (refused 12 (p + length (bytes "signal=")))
  unformed : ((v : List ℕ) → LineAt r p (bytes "signal=" ++ v) → ⊥) → KnownIs names r p (refused 11 p)

module _ (names : List (List ℕ)) (r : List ℕ) (p : ℕ) where
  abbrev known : ℕ → ℕ → Read ℕ
  known v q = pick (ltb (find_name (spelling_at r v) names) (length names)) (λ _. got (find_name (spelling_at r v) names) q) (refused 12 v)

  known_is : KnownIs names r p (known_line names r p)
  unfolding known_line
  known_is = go (named_is r p (bytes "signal=") 11 in_signal 12)
    where
      on : (v : List ℕ) → LineAt r p (bytes "signal=" ++ v) → SignalName v → (b : Bool) → ltb (find_name v names) (length names) ≡ b
          → KnownIs names r p (pick b (λ _. got (find_name v names) (after p (bytes "signal=" ++ v))) (refused 12 (p + length (bytes "signal="))))
      on v a n true e = right v a n (record { found = refl; declared = ltb-true (find_name v names) (length names) e })
      on v a n false e =
          wrong v a
          (λ x m d.
          let i = d.found in
          let j = d.declared in
          let k = ltb-false (find_name v names) (length names) e in
          omega arith)

      go : {R : Read ℕ} → NamedIs r p (bytes "signal=") 11 in_signal 12 R → KnownIs names r p (and_then R known)
      go (NamedIs.name v a n) =
          rw (same_word r (p + length (bytes "signal=")) 12 v (value_at_lem (bytes "signal=") v a) n)
          (on v a n (ltb (find_name v names) (length names)) refl)
      go (NamedIs.other v a n) = wrong v a (λ x m d. n m)
      go (NamedIs.unformed n) = unformed n

  known_one : {R Q : Read ℕ} → KnownIs names r p R → KnownIs names r p Q → R ≡ Q
  known_one (KnownIs.right v {x} a n d) (KnownIs.right w {x = y} b m e) =
      let i = value_one (bytes "signal=") a b in
      let j : x ≡ y = sym d.found ∙ ap (λ z. find_name z names) i ∙ e.found in
      rw (i, j)
  known_one (KnownIs.right v {x} a n d) (KnownIs.wrong w b m) =
      let i = value_one (bytes "signal=") a b in
      absurd (m x (subst SignalName i n) (subst (λ z. Declared names z x) i d))
  known_one (KnownIs.right v a n d) (KnownIs.unformed k) = absurd (k v a)
  known_one (KnownIs.wrong v a n) (KnownIs.right w {x} b m d) =
      let i = value_one (bytes "signal=") b a in
      absurd (n x (subst SignalName i m) (subst (λ z. Declared names z x) i d))
  known_one (KnownIs.wrong v a n) (KnownIs.wrong w b m) = refl
  known_one (KnownIs.wrong v a n) (KnownIs.unformed k) = absurd (k v a)
  known_one (KnownIs.unformed k) (KnownIs.right w b m d) = absurd (k w b)
  known_one (KnownIs.unformed k) (KnownIs.wrong w b m) = absurd (k w b)
  known_one (KnownIs.unformed k) (KnownIs.unformed h) = refl

  known_reads : {R : Read ℕ} → KnownIs names r p R → known_line names r p ≡ R
  known_reads h = known_one known_is h

-- ---- reading on

-- Is the number of the next line in order?
abbrev passes : Next → ℕ → Bool
passes (Next.ticks es) n = true
passes (Next.to f es) n = leb f n
passes (Next.signal f l es) n = true
passes (Next.value f l x es) n = true

in_order : (c : Next) (n : ℕ) → NotBelow c n → passes c n ≡ true
in_order (Next.ticks es) n h = refl
in_order (Next.to f es) n h = le-leb f n h
in_order (Next.signal f l es) n h = refl
in_order (Next.value f l x es) n h = refl

then_pick : {A B : Type 0} (b : Bool) (a : A) (q n p : ℕ) (K : A → ℕ → Read B) → and_then (pick b (λ _. got a q) (refused n p)) K ≡ pick b (λ _. K a q) (refused n p)
then_pick true a q n p K = refl
then_pick false a q n p K = refl

-- No key has an LF.
in_first : (spans : Bool) → InLine (first_key spans)
in_first false = in_line_by (bytes "at=") refl
in_first true = in_line_by (bytes "from=") refl

module _ (names : List (List ℕ)) (W : ℕ) (r : List ℕ) where
  -- What the text says from p on, where this comes next and at most n entries more are read.
  value_from : Bool → ℕ → ℕ → ℕ → ℕ → List Span → ℕ → Read (List Span)
  value_from spans n f l x es p = and_then (ranged_line r p (bytes "value=") 11 14 0 1) (λ v e. up_to (entry spans names W r) (length r) n (es ++ (span x (eqb v 1) f l ∷ [])) e)

  signal_from : Bool → ℕ → ℕ → ℕ → List Span → ℕ → Read (List Span)
  signal_from spans n f l es p = and_then (known_line names r p) (λ x u. value_from spans n f l x es u)

  from : Bool → ℕ → Next → ℕ → Read (List Span)
  from spans n (Next.ticks es) p = up_to (entry spans names W r) (length r) n es p
  from spans n (Next.to f es) p = and_then (to_line W r f p) (λ l q. signal_from spans n f l es q)
  from spans n (Next.signal f l es) p = signal_from spans n f l es p
  from spans n (Next.value f l x es) p = value_from spans n f l x es p

  from_first : (spans : Bool) (n f : ℕ) (es : List Span) (p : ℕ) → from spans n (after_first spans f es) p ≡ and_then (last_tick spans W r f p) (λ l q. signal_from spans n f l es q)
  unfolding from
  from_first false n f es p = refl
  from_first true n f es p = refl

  module _ (spans : Bool) where
    from_ticks : (n : ℕ) (es : List Span) (p : ℕ) → p < length r
        → from spans (suc n) (Next.ticks es) p ≡ and_then (tick_line W r p (first_key spans)) (λ f q. from spans n (after_first spans f es) q)
    unfolding from up_to entry signal_from value_from
    from_ticks n es p h =
        rw (lt-ltb p (length r) h)
        (then_then (tick_line W r p (first_key spans)) _ _
        ∙ then_same (tick_line W r p (first_key spans)) _ _
        (λ f q i. then_then (last_tick spans W r f q) _ _
        ∙ then_same (last_tick spans W r f q) _ _
        (λ l u j. then_then (known_line names r u) _ _ ∙ then_same (known_line names r u) _ _ (λ x k d. then_then (ranged_line r k (bytes "value=") 11 14 0 1) _ _))
        ∙ sym (from_first spans n f es q)))

    from_to : (n f : ℕ) (es : List Span) (p : ℕ)
        → from spans n (Next.to f es) p ≡ and_then (tick_line W r p (bytes "to=")) (λ l q. pick (leb f l) (λ _. from spans n (Next.signal f l es) q) (refused 21 (p + length (bytes "to="))))
    unfolding from to_line
    from_to n f es p =
        then_then (tick_line W r p (bytes "to=")) _ _ ∙ then_same (tick_line W r p (bytes "to=")) _ _ (λ l q i. then_pick (leb f l) l q 21 (p + length (bytes "to=")) _)

    from_signal : (n f l : ℕ) (es : List Span) (p : ℕ) → from spans n (Next.signal f l es) p ≡ and_then (known_line names r p) (λ x u. from spans n (Next.value f l x es) u)
    unfolding from signal_from
    from_signal n f l es p = refl

    from_value : (n f l x : ℕ) (es : List Span) (p : ℕ)
        → from spans n (Next.value f l x es) p ≡ and_then (ranged_line r p (bytes "value=") 11 14 0 1) (λ v e. from spans n (Next.ticks (es ++ (span x (eqb v 1) f l ∷ []))) e)
    unfolding from value_from
    from_value n f l x es p = refl

    from_end : (n : ℕ) (es : List Span) (p : ℕ) → length r ≤ p → from spans n (Next.ticks es) p ≡ got es p
    unfolding from up_to
    from_end zero es p l = refl
    from_end (suc n) es p l = rw (le-ltb p (length r) l)

    from_start : every (entry spans names W r) r ≡ from spans (length r) (Next.ticks []) 0
    unfolding from
    from_start = refl

    in_key : {c : Next} {lo hi content : ℕ} {k : ℕ → Next} → Ranged spans W c lo hi content k → InLine (key spans c)
    in_key Ranged.first = in_first spans
    in_key Ranged.last = in_line_by (bytes "to=") refl
    in_key Ranged.bit = in_line_by (bytes "value=") refl

    -- ---- each line's answer

    line_more : (c : Next) {p : ℕ} {l : List ℕ} → LineAt r p l → More p (length r) c
    line_more (Next.ticks es) a = let k = a.inside in omega arith
    line_more (Next.to f es) a = tt
    line_more (Next.signal f l es) a = tt
    line_more (Next.value f l x es) a = tt

    -- A number's line, and what is left to read after it.
    from_number : {c : Next} {lo hi content : ℕ} {k : ℕ → Next} (n p : ℕ) → Ranged spans W c lo hi content k → More p (length r) c → length r ≤ p + n
        → (m : ℕ) × (length r ≤ p + 1 + m)
        × (from spans n c p ≡ and_then (ranged_line r p (key spans c) 11 content lo hi) (λ x q. pick (passes c x) (λ _. from spans m (k x) q) (refused 21 (p + length (key spans c)))))
    from_number zero p (Ranged.first {es}) l h = let z : ⊥ = omega arith in absurd z
    from_number (suc n) p (Ranged.first {es}) l h = (n, omega arith, from_ticks n es p l)
    from_number n p (Ranged.last {f} {es}) l h = (n, omega arith, from_to n f es p)
    from_number n p (Ranged.bit {f} {l} {x} {es}) m h = (n, omega arith, from_value n f l x es p)

    -- A right line is read over.
    right_reads : {p : ℕ} {c e : Next} {v : List ℕ} (n : ℕ) → length r ≤ p + n → LineAt r p (key spans c ++ v) → Right spans names W c v e
        → (m : ℕ) × (length r ≤ after p (key spans c ++ v) + m) × (from spans n c p ≡ from spans m e (after p (key spans c ++ v)))
    right_reads {p} {c} n h a (Right.number {x = x} g k b o) =
        let f = from_number n p g (line_more c a) h in
        (f.0, omega (arith, f.1), f.2 ∙ rw (ranged_reads (in_key g) (RangedIs.inside a k b), in_order c x o))
    right_reads {p} {v = v} n h a (Right.name {f} {l} {x} {es} m d) = (n, omega arith, from_signal n f l es p ∙ rw (known_reads names r p (KnownIs.right v a m d)))

    no_number : {c : Next} {lo hi content : ℕ} {k : ℕ → Next} (n p : ℕ) → length r ≤ p + n → Ranged spans W c lo hi content k → More p (length r) c
        → ((v : List ℕ) → LineAt r p (key spans c ++ v) → Formed spans W c v → ⊥) → from spans n c p ≡ refused 11 p
    no_number n p h g m k = (from_number n p g m h).2 ∙ rw (ranged_reads (in_key g) (RangedIs.unformed (λ v x a j. k v a (Formed.number g j))))

    unformed_reads : (c : Next) (n p : ℕ) → length r ≤ p + n → More p (length r) c → ((v : List ℕ) → LineAt r p (key spans c ++ v) → Formed spans W c v → ⊥) → from spans n c p ≡ refused 11 p
    unformed_reads (Next.ticks es) n p h m k = no_number n p h Ranged.first m k
    unformed_reads (Next.to f es) n p h m k = no_number n p h Ranged.last m k
    unformed_reads (Next.signal f l es) n p h m k = from_signal n f l es p ∙ rw (known_reads names r p (KnownIs.unformed (λ v a. k v a Formed.name)))
    unformed_reads (Next.value f l x es) n p h m k = no_number n p h Ranged.bit m k

    -- A line at fault is refused.
    fault_reads : {p : ℕ} {c : Next} {k i : ℕ} (n : ℕ) → length r ≤ p + n → Fault spans names W r p c k i → from spans n c p ≡ refused k i
    fault_reads {p} {c} n h (Fault.unformed u) = unformed_reads c n p h u.more u.none
    fault_reads {p} {c} n h (Fault.range (OutOfRange.number g a k b)) = (from_number n p g (line_more c a) h).2 ∙ rw (ranged_reads (in_key g) (RangedIs.outside a k b))
    fault_reads {p} n h (Fault.name (Unknown.name {f} {l} {es} {v} a k)) = from_signal n f l es p ∙ rw (known_reads names r p (KnownIs.wrong v a k))
    fault_reads {p} n h (Fault.to_below (Below.number {f} {l} {es} a k b o)) =
        from_to n f es p ∙ rw (ranged_reads (in_key {k = λ (t : ℕ). Next.signal f t es} Ranged.last) (RangedIs.inside a k b), lt-leb f l o)

    reached_from : {c : Next} {p : ℕ} → Reached spans names W r c p → (m : ℕ) × (length r ≤ p + m) × (from spans (length r) (Next.ticks []) 0 ≡ from spans m c p)
    reached_from Reached.start = (length r, omega arith, refl)
    reached_from (Reached.line h a g) =
        let b = reached_from h in
        let d = right_reads b.0 b.1 a g in
        (d.0, d.1, b.2 ∙ d.2)

    reached_inside : {c : Next} {p : ℕ} → Reached spans names W r c p → p ≤ length r
    reached_inside Reached.start = omega arith
    reached_inside (Reached.line h a g) = let l = a.inside in omega arith

    -- Where all lines are right the entries are read.
    pub reached_reads : {es : List Span} → Reached spans names W r (Next.ticks es) (length r) → every (entry spans names W r) r ≡ got es (length r)
    reached_reads {es} h = let b = reached_from h in from_start ∙ b.2 ∙ from_end b.0 es (length r) (omega arith)

    -- ---- every line is right, or at fault, or the end

    data NextIs (p : ℕ) : Next → Type 0 where
      on : {c e : Next} {v : List ℕ} → LineAt r p (key spans c ++ v) → Right spans names W c v e → NextIs p c
      fault : {c : Next} {n i : ℕ} → Fault spans names W r p c n i → NextIs p c
      end : {es : List Span} → p ≡ length r → NextIs p (Next.ticks es)

    -- A number of its range is in order, or below the first tick.
    order_is : {c : Next} {lo hi content : ℕ} {k : ℕ → Next} (p : ℕ) {v : List ℕ} {x : ℕ} → Ranged spans W c lo hi content k → LineAt r p (key spans c ++ v) → Number v x → between lo hi x ≡ true
        → NotBelow c x ⊎ Below W r p c
    order_is p Ranged.first a n b = inl tt
    order_is p {v} {x} (Ranged.last {f} {es}) a n b = go (dec_lt x f)
      where
        go : Dec (x < f) → (f ≤ x) ⊎ Below W r p (Next.to f es)
        go (yes l) = inr (Below.number a n b l)
        go (no l) = inl (omega arith)
    order_is p Ranged.bit a n b = inl tt

    number_next : {c : Next} {lo hi content : ℕ} {k : ℕ → Next} (p : ℕ) → More p (length r) c → ((v : List ℕ) → Formed spans W c v → (x : ℕ) × Number v x) → Ranged spans W c lo hi content k → NextIs p c
    number_next {c} {lo} {hi} {content} p m f g = go (ranged_is r p (key spans c) 11 (in_key g) content lo hi)
      where
        go : {R : Read ℕ} → RangedIs r p (key spans c) 11 content lo hi R → NextIs p c
        go (RangedIs.inside a n b) = ⊎_elim (λ o. on a (Right.number g n b o)) (λ o. fault (Fault.to_below o)) (order_is p g a n b)
        go (RangedIs.outside a n b) = fault (Fault.range (OutOfRange.number g a n b))
        go (RangedIs.unformed n) = fault (Fault.unformed (record { more = m; none = λ v a k. (let x = f v k in n v x.0 a x.1) }))

    ticks_formed : (es : List Span) (v : List ℕ) → Formed spans W (Next.ticks es) v → (x : ℕ) × Number v x
    ticks_formed es v (Formed.number {x = x} g n) = (x, n)

    to_formed : (f : ℕ) (es : List Span) (v : List ℕ) → Formed spans W (Next.to f es) v → (x : ℕ) × Number v x
    to_formed f es v (Formed.number {x = x} g n) = (x, n)

    value_formed : (f l y : ℕ) (es : List Span) (v : List ℕ) → Formed spans W (Next.value f l y es) v → (x : ℕ) × Number v x
    value_formed f l y es v (Formed.number {x = x} g n) = (x, n)

    next_is : (c : Next) (p : ℕ) → p ≤ length r → NextIs p c
    next_is (Next.ticks es) p l = go (dec_lt p (length r))
      where
        go : Dec (p < length r) → NextIs p (Next.ticks es)
        go (yes h) = number_next p h (ticks_formed es) Ranged.first
        go (no h) = end (omega arith)
    next_is (Next.to f es) p l = number_next p tt (to_formed f es) Ranged.last
    next_is (Next.signal f t es) p l = go (known_is names r p)
      where
        go : {R : Read ℕ} → KnownIs names r p R → NextIs p (Next.signal f t es)
        go (KnownIs.right v a m d) = on a (Right.name m d)
        go (KnownIs.wrong v a k) = fault (Fault.name (Unknown.name a k))
        go (KnownIs.unformed k) = fault (Fault.unformed (record { more = tt; none = λ v a m. k v a }))
    next_is (Next.value f t x es) p l = number_next p tt (value_formed f t x es) Ranged.bit

    -- The first line at fault has the refusal n at the place i.
    abbrev FirstFault : ℕ → ℕ → Type 0
    FirstFault n i = First spans names W r (λ c p. Fault spans names W r p c n i)

    -- All lines are right, or one is the first at fault.
    data Outcome : Type 0 where
      accepted : {es : List Span} → Reached spans names W r (Next.ticks es) (length r) → Outcome
      faulty : {n i : ℕ} → FirstFault n i → Outcome

    walk : (fuel : ℕ) (c : Next) (p : ℕ) → length r < p + fuel → Reached spans names W r c p → Outcome
    walk zero c p l h = let k = reached_inside h in let z : ⊥ = omega arith in absurd z
    walk (suc fuel) c p l h = go (next_is c p (reached_inside h)) h (λ e q k d. walk fuel e q k d)
      where
        go : {c : Next} → NextIs p c → Reached spans names W r c p → ((e : Next) (q : ℕ) → length r < q + fuel → Reached spans names W r e q → Outcome) → Outcome
        go (on {e = e} {v = v} a d) h k = k e _ (omega arith) (Reached.line h a d)
        go (fault {c = c} f) h k = faulty (record { next = c; place = p; reached = h; holds = f })
        go (end {es} e) h k = accepted (subst (Reached spans names W r (Next.ticks es)) e h)

    outcome : Outcome
    outcome = walk (length r + 1) (Next.ticks []) 0 (omega arith) Reached.start

    fault_every : {n i : ℕ} → FirstFault n i → every (entry spans names W r) r ≡ refused n i
    fault_every f = let b = reached_from f.reached in from_start ∙ b.2 ∙ fault_reads b.0 b.1 f.holds

  -- ---- exactly

  module _ (fits : length r ≤ most_bytes) where
    -- What is read in the text's form is the text's.
    in_form : {spans : Bool} {R : Read (List Span)} → in_spans r ≡ spans → every (entry spans names W r) r ≡ R → entries names W r ≡ R
    in_form {spans} {R} e h = entries_short names W r fits ∙ subst (λ (form : Bool). every (entry form names W r) r ≡ R) (sym e) h

    fault_refused : {n i : ℕ} → ReadingsFault names W r n i → readings names W r ≡ refused n i
    fault_refused f = readings_off names W r (in_form (form_told f.form) (fault_every f.spans f.first))

    all_accepted : {ms : List Mark} → ReadingsRead names W r ms → readings names W r ≡ got ms (length r)
    all_accepted h = readings_are names W r (in_form (form_told h.form) (reached_reads h.spans h.lines)) ∙ ap (λ (ms : List Mark). got ms (length r)) h.marks

    -- A text is read, or has a first line at fault, in its form.
    data ReadOrFault : Type 0 where
      read : {ms : List Mark} → ReadingsRead names W r ms → ReadOrFault
      at_fault : {n i : ℕ} → ReadingsFault names W r n i → ReadOrFault

    read_or_fault : ReadOrFault
    read_or_fault = go (outcome (in_spans r))
      where
        form : HasForm r (in_spans r)
        form = told_form (in_spans r) refl

        go : Outcome (in_spans r) → ReadOrFault
        go (accepted {es} h) = read (record { spans = in_spans r; form = form; entries = es; lines = h; marks = refl })
        go (faulty f) = at_fault (record { spans = in_spans r; form = form; first = f })

    -- A readings text is refused with a number and a place exactly if its first line at fault has that fault.
    pub readings_refused : (n i : ℕ) → (readings names W r ≡ refused n i) ↔ ReadingsFault names W r n i
    readings_refused n i = (λ e. go read_or_fault e, fault_refused)
      where
        go : ReadOrFault → readings names W r ≡ refused n i → ReadingsFault names W r n i
        go (read h) e = absurd (not_both (sym (all_accepted h) ∙ e))
        go (at_fault {n = m} {i = j} f) e =
            let z = sym (fault_refused f) ∙ e in
            let a : m ≡ n = cc in
            let b : j ≡ i = cc in
            subst (ReadingsFault names W r n) b (subst (λ x. ReadingsFault names W r x j) a f)

    -- And it is accepted, with its marks, exactly if all its lines are right.
    pub readings_accepted : (ms : List Mark) → (readings names W r ≡ got ms (length r)) ↔ ReadingsRead names W r ms
    readings_accepted ms = (λ e. go read_or_fault e, all_accepted)
      where
        go : ReadOrFault → readings names W r ≡ got ms (length r) → ReadingsRead names W r ms
        go (at_fault f) e = absurd (not_both (sym e ∙ fault_refused f))
        go (read h) e = subst (ReadingsRead names W r) (same_value (sym (all_accepted h) ∙ e)) h
