-- Intervals: each answer of the reader of one, and what holds of every interval that is read.
-- Assumes nothing.
use mathlib.Core.Path.{◌≡◌, refl, subst}
use mathlib.Core.Bool.{Bool, true, false, ◌&&◌, or-true, and-eq-true_iff}
use mathlib.Core.List.{List, [], ◌∷◌}
use mathlib.Core.Logic.{◌⊎◌, inl, inr, ⊎_elim}
use Prim.Native.Nat.{ℕ, ◌+◌, ◌-◌, ◌<◌, ◌≤◌}
use native.Mathlib.Omega.{arith}
use borrow.Author.Tests.{eq-eqb, ne_eqb, le-leb, lt-leb, leb-true}
use lib.Dec.{eqb, leb}
use lib.ListN.{length}
use Rattle.spec_limits.specs.Limits.{most_offset}
use Rattle.std.specs.Prelude.{Option, Some, None, Ok, Err}
use Rattle.spec_refusals.specs.declared.Fault.{Fault}
use Rattle.spec_refusals.specs.declared.Fault.TheVariants.{Formula, Interval}
use Rattle.read_bytes.specs.Bytes.{byte, bytes, peek, pick, one_of}
use Rattle.read_bytes.proofs.Tests.{between_is}
use Rattle.read_bytes.proofs.Places.{Reach, inside_test}
use Rattle.read_interval.specs.Interval.{Offsets, refusing, end_at, left_out, near, offsets_of, end_then, end_after_lem, close_at, comma_at, interval, least_end, greatest_end, over_offset}
use Rattle.read_interval.proofs.Ends.{end_reach}

-- A byte that equals one of two, or neither.
module _ (b x y : ℕ) where
  pub one_of_lem_lem : (b ≡ y) ⊎ (b ≡ x) → one_of b (x ∷ y ∷ []) ≡ true
  one_of_lem_lem h = ⊎_elim (λ e. rw (eq-eqb b y e) (or-true (eqb b x))) (λ e. rw (eq-eqb b x e)) h

  pub none_of : ((b ≡ y) ⊎ (b ≡ x) → ⊥) → one_of b (x ∷ y ∷ []) ≡ false
  none_of n = rw (ne_eqb b x (λ e. n (inr e)), ne_eqb b y (λ e. n (inl e)))

-- A bracket leaves out one whole number at most.
pub left_out_most : (b round : ℕ) → left_out b round ≤ 1
left_out_most b round = go (eqb b round)
  where
    go : (t : Bool) → pick t (λ _. 1) 0 ≤ 1
    go true = omega arith
    go false = omega arith

-- The answers to a whole interval.
module _ (p o v w c x : ℕ) where
  module _ {l r : ℕ} (el : l ≡ left_out o (byte "(")) (er : r ≡ left_out c (byte ")")) (hv : near v ≡ true) (hw : near w ≡ true) where
    pub offsets_in : v + l ≤ w - r → Ok (v + l - over_offset, w - r - (v + l), x) ≡ offsets_of p o v w c x
    unfolding offsets_of
    offsets_in h = rw (← el, ← er, hv, hw, le-leb (v + l) (w - r) h)

    pub offsets_empty : w - r < v + l → refusing Interval p ≡ offsets_of p o v w c x
    unfolding offsets_of
    offsets_empty h = rw (← el, ← er, hv, hw, lt-leb (v + l) (w - r) h)

  pub offsets_far : near v && near w ≡ false → refusing Interval p ≡ offsets_of p o v w c x
  unfolding offsets_of
  offsets_far h = rw h

-- The answers at a closing bracket.
module _ (s : List ℕ) (p o v w x b : ℕ) (eb : b ≡ peek s x) where
  pub close_is : one_of b (bytes "])") ≡ true → offsets_of p o v w b (x + 1) ≡ close_at s p o v w x
  unfolding close_at
  close_is h = rw (← eb, h)

  pub close_not : one_of b (bytes "])") ≡ false → refusing Formula x ≡ close_at s p o v w x
  unfolding close_at
  close_not h = rw (← eb, h)

-- The answers to a sign and an end.
module _ (s : List ℕ) (p : ℕ) (K : ℕ → ℕ → Offsets) (t : Bool) where
  pub after_not : t ≡ false → refusing Formula p ≡ end_after_lem t s p K
  unfolding end_after_lem
  after_not h = rw h

  module _ {d : Option (ℕ × ℕ)} (h : t ≡ true) (e : d ≡ end_at s (p + 1)) where
    pub after_end : {v q : ℕ} → d ≡ Some (v, q) → K v q ≡ end_after_lem t s p K
    unfolding end_after_lem
    after_end f = rw (h, ← e, f)

    pub after_cut : d ≡ None → refusing Formula (p + 1) ≡ end_after_lem t s p K
    unfolding end_after_lem
    after_cut f = rw (h, ← e, f)

-- The comma, and the interval, by the byte that was read there.
pub comma_by : (s : List ℕ) (p o v q b : ℕ) → b ≡ peek s q → end_after_lem (eqb b (byte ",")) s q (close_at s p o v) ≡ comma_at s p o v q
unfolding comma_at
comma_by s p o v q b eb = rw eb

pub interval_by : (s : List ℕ) (p b : ℕ) → b ≡ peek s p → end_after_lem (one_of b (bytes "[(")) s p (comma_at s p b) ≡ interval s p
unfolding interval
interval_by s p b eb = rw eb

-- What holds of what is read at p: an interval ends after p and lies in -63 to 63, and a refusal is 5 or 7 and its place is in the text.
abbrev pub Sound : List ℕ → ℕ → Offsets → Type 0
Sound s p (Ok (first, more, q)) = Reach s (p + 1) q × (1 ≤ first) × (first + more ≤ most_offset)
Sound s p (Err r) = ((r.fault ≡ Formula) ⊎ (r.fault ≡ Interval)) × (p ≤ length s → r.place ≤ length s)

module _ (s : List ℕ) (p : ℕ) where
  -- Each step of the reading keeps what holds.
  sound_pick : (t : Bool) (a b : Offsets) → (t ≡ true → Sound s p a) → Sound s p b → Sound s p (pick t (λ _. a) b)
  sound_pick true a b f g = f refl
  sound_pick false a b f g = g

  sound_end : (d : Option (ℕ × ℕ)) (k : ℕ) (K : ℕ → ℕ → Offsets) → ((v q : ℕ) → d ≡ Some (v, q) → Sound s p (K v q)) → Sound s p (refusing Formula k) → Sound s p (end_then d k K)
  sound_end (Some (v, q)) k K f g = f v q refl
  sound_end None k K f g = g

  sound_offsets : (o v w c x : ℕ) → Reach s (p + 1) x → Sound s p (offsets_of p o v w c x)
  unfolding offsets_of
  sound_offsets o v w c x r =
      let l = left_out o (byte "(") in
      let m = left_out c (byte ")") in
      sound_pick (near v && near w && leb (v + l) (w - m)) (Ok (v + l - over_offset, w - m - (v + l), x)) (refusing Interval p)
      (λ h.
      let a = (and-eq-true_iff (near v && near w) (leb (v + l) (w - m))).0 h in
      let b = (and-eq-true_iff (near v) (near w)).0 a.0 in
      let i = between_is least_end greatest_end v b.0 in
      let j = between_is least_end greatest_end w b.1 in
      let k = leb-true (v + l) (w - m) a.1 in
      (r, omega (arith, i.0), omega (arith, j.1)))
      (inr refl, λ h. h)

  sound_close : (o v w x : ℕ) → Reach s (p + 1) x → Sound s p (close_at s p o v w x)
  unfolding close_at
  sound_close o v w x r =
      sound_pick (one_of (peek s x) (bytes "])")) (offsets_of p o v w (peek s x) (x + 1)) (refusing Formula x)
      (λ h.
      let i = inside_test s x (λ b. one_of b (bytes "])")) refl h in
      sound_offsets o v w (peek s x) (x + 1) (record { ahead = omega (arith, r.ahead); inside = omega arith }))
      (inl refl, λ h. r.inside)

  sound_after : (t : Bool) (q : ℕ) (K : ℕ → ℕ → Offsets) → p ≤ q → (p ≤ length s → q ≤ length s) → (t ≡ true → q < length s) → ((v x : ℕ) → Reach s (p + 1) x → Sound s p (K v x)) → Sound s p (end_after_lem t s q K)
  unfolding end_after_lem
  sound_after t q K a i n f =
      sound_pick t (end_then (end_at s (q + 1)) (q + 1) K) (refusing Formula q)
      (λ h.
      let m = n h in
      sound_end (end_at s (q + 1)) (q + 1) K
      (λ v x e. let r = end_reach s (q + 1) e in f v x (record { ahead = omega (arith, r.ahead); inside = r.inside }))
      (inl refl, λ g. omega arith))
      (inl refl, i)

  sound_comma : (o v q : ℕ) → Reach s (p + 1) q → Sound s p (comma_at s p o v q)
  unfolding comma_at
  sound_comma o v q r =
      sound_after (eqb (peek s q) (byte ",")) q (close_at s p o v) (omega (arith, r.ahead)) (λ h. r.inside)
      (λ h. inside_test s q (λ b. eqb b (byte ",")) refl h)
      (λ w x. sound_close o v w x)

  -- It holds of every interval.
  pub interval_sound : Sound s p (interval s p)
  unfolding interval
  interval_sound =
      sound_after (one_of (peek s p) (bytes "[(")) p (comma_at s p (peek s p)) (omega arith) (λ h. h)
      (λ h. inside_test s p (λ b. one_of b (bytes "[(")) refl h)
      (λ v q. sound_comma (peek s p) v q)

  -- Where an interval ends, and how far its offsets lie.
  pub interval_reach : {first more q : ℕ} → interval s p ≡ Ok (first, more, q) → Reach s (p + 1) q × (1 ≤ first) × (first + more ≤ most_offset)
  interval_reach e = subst (Sound s p) e interval_sound

  -- A refusal's fault and place.
  pub interval_refused : {f : Fault} {k : ℕ} → interval s p ≡ refusing f k → ((f ≡ Formula) ⊎ (f ≡ Interval)) × (p ≤ length s → k ≤ length s)
  interval_refused e = subst (Sound s p) e interval_sound
