-- The lines before a sheet's rules: each is right or at fault, and a head is read exactly if all its lines are right.
-- Assumes nothing. `s` is the sheet's text; K is what is made of the rules that come after the head.
use mathlib.Core.Path.{◌≡◌, refl, sym, ap, subst, ◌∙◌}
use mathlib.Core.Bool.{true}
use mathlib.Core.List.{List, [], ◌∷◌, ◌++◌, Memᴰ}
use Prim.Native.Nat.{ℕ, zero, suc, ◌+◌, ◌≤◌, ◌<◌}
use native.Mathlib.Omega.{arith}
use lib.ListN.{length, length-append}
use Rattle.spec_limits.specs.Limits.{most_rules, most_signals, most_ticks}
use Rattle.read_bytes.specs.Read.{Read, and_then}
use Rattle.read_bytes.specs.Read.Read.{got, refused}
use Rattle.read_bytes.specs.Bytes.{bytes, between, InLine}
use Rattle.read_names.specs.Spellings.{names_at}
use Rattle.read_lines.specs.Lines.{ranged_line, in_turn}
use Rattle.read_bytes.proofs.Answers.{not_both, same_value, same_place, then_same}
use Rattle.spec_tilco.specs.Formula.{Written}
use Rattle.read_head.specs.SheetHead.{signal_line, Head, head_of, head}
use Rattle.spec_grammar.specs.Lines.{LineAt, after, Number, SignalName}
use Rattle.spec_grammar.specs.SheetLines.{Next, key, Ranged, Formed, More, Right, Reached, value_at, Followed, OutOfRange, BadName, BadLength, BadFormula, Fault}
use Rattle.spec_grammar.proofs.Lines.{in_line_by}
use Rattle.spec_grammar.proofs.LineKinds.{RangedIs, ranged_is, ranged_reads, SignalIs, signal_is, signal_reads}

pub then_then : {A B C : Type 0} (R : Read A) (K : A → ℕ → Read B) (J : B → ℕ → Read C) → and_then (and_then R K) J ≡ and_then R (λ a q. and_then (K a q) J)
then_then (got a q) K J = refl
then_then (refused n p) K J = refl

-- ---- reading on

-- What is made of the signals' lines and the number of rules from p on.
signals_from : {A : Type 0} → (ℕ → List ℕ → ℕ → List Written → ℕ → Read A) → List ℕ → ℕ → ℕ → List ℕ → ℕ → Read A
signals_from K s w n places p = and_then (in_turn (signal_line s) n places p) (λ ps u. and_then (ranged_line s u (bytes "rules=") 2 3 0 most_rules) (λ m e. K w ps m [] e))

-- What is made of the text from p on, where this comes next.
pub from : {A : Type 0} → (ℕ → List ℕ → ℕ → List Written → ℕ → Read A) → List ℕ → Next → ℕ → Read A
from K s Next.window p = and_then (ranged_line s p (bytes "window=") 2 3 1 most_ticks) (λ w q. and_then (ranged_line s q (bytes "signals=") 2 3 1 most_signals) (λ n u. signals_from K s w n [] u))
from K s (Next.signals w) p = and_then (ranged_line s p (bytes "signals=") 2 3 1 most_signals) (λ n u. signals_from K s w n [] u)
from K s (Next.signal w n places) p = signals_from K s w n places p
from K s (Next.rule w places m ws) p = K w places m ws p

-- A line of the head comes next, or the first rule.
abbrev pub InHead : Next → Type 0
InHead Next.window = Unit {0}
InHead (Next.signals w) = Unit {0}
InHead (Next.signal w n places) = Unit {0}
InHead (Next.rule w places m ws) = ws ≡ []

-- A line of the head comes next.
abbrev pub HeadLine : Next → Type 0
HeadLine Next.window = Unit {0}
HeadLine (Next.signals w) = Unit {0}
HeadLine (Next.signal w n places) = Unit {0}
HeadLine (Next.rule w places m ws) = ⊥

-- After a line of the head another one comes, or the first rule.
next_head : {s : List ℕ} {p : ℕ} {c e : Next} {v : List ℕ} → HeadLine c → Right s p c v e → InHead e
next_head h (Right.number Ranged.ticks n b) = tt
next_head h (Right.number Ranged.signal_count n b) = tt
next_head h (Right.number Ranged.rule_count n b) = refl
next_head h (Right.name m k) = tt
next_head h (Right.formula b r) = absurd h

module _ (s : List ℕ) where
  pub in_key : {c : Next} {lo hi : ℕ} {k : ℕ → Next} → Ranged c lo hi k → InLine (key c)
  in_key Ranged.ticks = in_line_by (bytes "window=") refl
  in_key Ranged.signal_count = in_line_by (bytes "signals=") refl
  in_key Ranged.rule_count = in_line_by (bytes "rules=") refl

  module _ {A : Type 0} (K : ℕ → List ℕ → ℕ → List Written → ℕ → Read A) where
    from_number : {c : Next} {lo hi : ℕ} {k : ℕ → Next} → Ranged c lo hi k → (p : ℕ) → from K s c p ≡ and_then (ranged_line s p (key c) 2 3 lo hi) (λ x q. from K s (k x) q)
    unfolding from signals_from in_turn
    from_number Ranged.ticks p = refl
    from_number Ranged.signal_count p = refl
    from_number Ranged.rule_count p = refl

    from_name : (w n : ℕ) (places : List ℕ) (p : ℕ) → from K s (Next.signal w (suc n) places) p ≡ and_then (signal_line s places p) (λ a q. from K s (Next.signal w n (places ++ (a ∷ []))) q)
    unfolding from signals_from in_turn
    from_name w n places p = then_then (signal_line s places p) _ _

    pub from_rules : (w : ℕ) (places : List ℕ) (m : ℕ) (ws : List Written) (p : ℕ) → from K s (Next.rule w places m ws) p ≡ K w places m ws p
    unfolding from
    from_rules w places m ws p = refl

    -- The head, and then what comes after it.
    pub head_then : and_then (head s) (λ d q. K d.window d.places d.count [] q) ≡ from K s Next.window 0
    unfolding head from signals_from
    head_then =
        then_then (ranged_line s 0 (bytes "window=") 2 3 1 most_ticks) _ _
        ∙ then_same (ranged_line s 0 (bytes "window=") 2 3 1 most_ticks) _ _
        (λ w p i.
        then_then (ranged_line s p (bytes "signals=") 2 3 1 most_signals) _ _
        ∙ then_same (ranged_line s p (bytes "signals=") 2 3 1 most_signals) _ _
        (λ n q j.
        then_then (in_turn (signal_line s) n [] q) _ _
        ∙ then_same (in_turn (signal_line s) n [] q) _ _ (λ ps u h. then_then (ranged_line s u (bytes "rules=") 2 3 0 most_rules) _ _)))

    -- ---- each line's answer

    -- A right number or name is read over.
    pub right_number : {c : Next} {lo hi x p : ℕ} {k : ℕ → Next} {v : List ℕ} → Ranged c lo hi k → LineAt s p (key c ++ v) → Number v x → between lo hi x ≡ true → from K s c p ≡ from K s (k x) (after p (key c ++ v))
    right_number {p = p} r a n b = from_number r p ∙ rw (ranged_reads (in_key r) (RangedIs.inside a n b))

    pub right_name : (w n : ℕ) (places : List ℕ) {p : ℕ} {v : List ℕ} → LineAt s p (bytes "signal=" ++ v) → SignalName v → (Memᴰ v (names_at s places) → ⊥)
        → from K s (Next.signal w (suc n) places) p ≡ from K s (Next.signal w n (places ++ ((p + length (bytes "signal=")) ∷ []))) (after p (bytes "signal=" ++ v))
    right_name w n places {p} {v} a m k = from_name w n places p ∙ rw (signal_reads s places p (SignalIs.right v a m k))

    no_number : {c : Next} {lo hi p : ℕ} {k : ℕ → Next} → Ranged c lo hi k → ((v : List ℕ) → LineAt s p (key c ++ v) → Formed c v → ⊥) → from K s c p ≡ refused 2 p
    no_number {p = p} r n = from_number r p ∙ rw (ranged_reads (in_key r) (RangedIs.unformed (λ v x a k. n v a (Formed.number r k))))

    -- A line of the head that is not of its form, a number outside its range, and a bad name are refused.
    pub head_unformed : (c : Next) (p : ℕ) → HeadLine c → ((v : List ℕ) → LineAt s p (key c ++ v) → Formed c v → ⊥) → from K s c p ≡ refused 2 p
    head_unformed Next.window p h n = no_number Ranged.ticks n
    head_unformed (Next.signals w) p h n = no_number Ranged.signal_count n
    head_unformed (Next.signal w zero places) p h n = no_number Ranged.rule_count n
    head_unformed (Next.signal w (suc k) places) p h n = from_name w k places p ∙ rw (signal_reads s places p (SignalIs.unformed (λ v a. n v a Formed.name)))
    head_unformed (Next.rule w places m ws) p h n = absurd h

    pub out_of_range : {p : ℕ} {c : Next} → OutOfRange s p c → from K s c p ≡ refused 3 (value_at c p)
    out_of_range {p} (OutOfRange.number r a n b) = from_number r p ∙ rw (ranged_reads (in_key r) (RangedIs.outside a n b))

    pub bad_name : {p : ℕ} {c : Next} → BadName s p c → from K s c p ≡ refused 4 (value_at c p)
    bad_name {p} (BadName.name {w} {n} {places} {v} a k) = from_name w n places p ∙ rw (signal_reads s places p (SignalIs.wrong v a k))

    head_fault : {p : ℕ} {c : Next} {n i : ℕ} → HeadLine c → Fault s p c n i → from K s c p ≡ refused n i
    head_fault {p} {c} h (Fault.unformed u) = head_unformed c p h u.none
    head_fault h (Fault.followed (Followed.followed l)) = absurd h
    head_fault h (Fault.range o) = out_of_range o
    head_fault h (Fault.name o) = bad_name o
    head_fault h (Fault.size (BadLength.outside a b)) = absurd h
    head_fault h (Fault.formula (BadFormula.formula a b f)) = absurd h

    -- The lines before a place of the head, or before the first rule, are read over.
    reached_on : {c : Next} {p : ℕ} → InHead c → Reached s c p → from K s Next.window 0 ≡ from K s c p
    reached_on h Reached.start = refl
    reached_on h (Reached.line b a r) = go h a r (λ i. reached_on i b)
      where
        go : {p : ℕ} {c e : Next} {v : List ℕ} → InHead e → LineAt s p (key c ++ v) → Right s p c v e → (InHead c → from K s Next.window 0 ≡ from K s c p)
            → from K s Next.window 0 ≡ from K s e (after p (key c ++ v))
        go h a (Right.number Ranged.ticks n i) k = k tt ∙ right_number Ranged.ticks a n i
        go h a (Right.number Ranged.signal_count n i) k = k tt ∙ right_number Ranged.signal_count a n i
        go h a (Right.number Ranged.rule_count n i) k = k tt ∙ right_number Ranged.rule_count a n i
        go h a (Right.name {w} {n} {places} m i) k = k tt ∙ right_name w n places a m i
        go h a (Right.formula {ws = ws} {f = f} i r) k = absurd (omega (arith, ap length h, length-append ws (f ∷ [])))

  -- ---- each line of the head is right, or at fault

  -- What comes next at p is right, or at fault, or the end.
  pub data NextIs (p : ℕ) : Next → Type 0 where
    on : {c e : Next} {v : List ℕ} → LineAt s p (key c ++ v) → Right s p c v e → NextIs p c
    fault : {c : Next} {n i : ℕ} → Fault s p c n i → NextIs p c
    end : {w : ℕ} {places : List ℕ} {ws : List Written} → p ≡ length s → NextIs p (Next.rule w places zero ws)

  number_next : {c : Next} {lo hi : ℕ} {k : ℕ → Next} (p : ℕ) → More c → ((v : List ℕ) → Formed c v → (x : ℕ) × Number v x) → Ranged c lo hi k → NextIs p c
  number_next {c} {lo} {hi} p m f r = go (ranged_is s p (key c) 2 (in_key r) 3 lo hi)
    where
      go : {R : Read ℕ} → RangedIs s p (key c) 2 3 lo hi R → NextIs p c
      go (RangedIs.inside a n b) = on a (Right.number r n b)
      go (RangedIs.outside a n b) = fault (Fault.range (OutOfRange.number r a n b))
      go (RangedIs.unformed n) = fault (Fault.unformed (record { more = m; none = λ v a k. (let x = f v k in n v x.0 a x.1) }))

  window_formed : (v : List ℕ) → Formed Next.window v → (x : ℕ) × Number v x
  window_formed v (Formed.number {x = x} r n) = (x, n)

  count_formed : (w : ℕ) (v : List ℕ) → Formed (Next.signals w) v → (x : ℕ) × Number v x
  count_formed w v (Formed.number {x = x} r n) = (x, n)

  rules_formed : (w : ℕ) (places v : List ℕ) → Formed (Next.signal w zero places) v → (x : ℕ) × Number v x
  rules_formed w places v (Formed.number {x = x} r n) = (x, n)

  pub head_next : (c : Next) (p : ℕ) → HeadLine c → NextIs p c
  head_next Next.window p h = number_next p tt window_formed Ranged.ticks
  head_next (Next.signals w) p h = number_next p tt (count_formed w) Ranged.signal_count
  head_next (Next.signal w zero places) p h = number_next p tt (rules_formed w places) Ranged.rule_count
  head_next (Next.signal w (suc n) places) p h = go (signal_is s places p)
    where
      go : {R : Read ℕ} → SignalIs s places p R → NextIs p (Next.signal w (suc n) places)
      go (SignalIs.right v a m k) = on a (Right.name m k)
      go (SignalIs.wrong v a k) = fault (Fault.name (BadName.name a k))
      go (SignalIs.unformed k) = fault (Fault.unformed (record { more = tt; none = λ v a m. k v a }))
  head_next (Next.rule w places m ws) p h = absurd h

  pub reached_inside : {c : Next} {p : ℕ} → Reached s c p → p ≤ length s
  reached_inside Reached.start = omega arith
  reached_inside (Reached.line h a r) = let l = a.inside in omega arith

  -- ---- the head

  -- A head is made of what stands before the rules.
  abbrev Made : ℕ → List ℕ → ℕ → List Written → ℕ → Read Head
  Made w places m ws p = got (head_of w places m) p

  head_from : head s ≡ from Made s Next.window 0
  unfolding head from signals_from
  head_from = refl

  -- Where all lines of a head are right it is read,
  pub reached_head : {w m p : ℕ} {places : List ℕ} → Reached s (Next.rule w places m []) p → head s ≡ got (head_of w places m) p
  reached_head {w} {m} {p} {places} h = head_from ∙ reached_on Made refl h ∙ from_rules Made w places m [] p

  -- and where it is read they are.
  pub head_reached : {d : Head} {p : ℕ} → head s ≡ got d p → Reached s (Next.rule d.window d.places d.count []) p
  head_reached {d} {p} e = walk (length s + 1) Next.window 0 (omega arith) tt Reached.start
    where
      last : {w q m : ℕ} {places : List ℕ} {ws : List Written} → ws ≡ [] → Reached s (Next.rule w places m ws) q → Reached s (Next.rule d.window d.places d.count []) p
      last {w} {q} {m} {places} {ws} z h =
          let r : Reached s (Next.rule w places m []) q = subst (λ (l : List Written). Reached s (Next.rule w places m l) q) z h in
          let f = sym (reached_head r) ∙ e in
          subst (Reached s (Next.rule d.window d.places d.count [])) (same_place f)
          (subst (λ (x : Head). Reached s (Next.rule x.window x.places x.count []) q) (same_value f) r)

      walk : (fuel : ℕ) (c : Next) (q : ℕ) → length s < q + fuel → InHead c → Reached s c q → Reached s (Next.rule d.window d.places d.count []) p
      walk zero c q l i h = absurd (omega (arith, reached_inside h))
      walk (suc fuel) c q l i h = go c i h (λ b j k g. walk fuel b j k g)
        where
          step : {c : Next} → NextIs q c → HeadLine c → InHead c → Reached s c q → ((e : Next) (j : ℕ) → length s < j + fuel → InHead e → Reached s e j → Reached s (Next.rule d.window d.places d.count []) p)
              → Reached s (Next.rule d.window d.places d.count []) p
          step (on {e = b} {v = v} a r) x i h k = k b _ (omega arith) (next_head x r) (Reached.line h a r)
          step (fault f) x i h k = absurd (not_both (sym e ∙ head_from ∙ reached_on Made i h ∙ head_fault Made x f))
          step (end z) x i h k = absurd x

          go : (c : Next) → InHead c → Reached s c q → ((e : Next) (j : ℕ) → length s < j + fuel → InHead e → Reached s e j → Reached s (Next.rule d.window d.places d.count []) p)
              → Reached s (Next.rule d.window d.places d.count []) p
          go Next.window i h k = step (head_next Next.window q tt) tt i h k
          go (Next.signals w) i h k = step (head_next (Next.signals w) q tt) tt i h k
          go (Next.signal w n places) i h k = step (head_next (Next.signal w n places) q tt) tt i h k
          go (Next.rule w places m ws) i h k = last i h
