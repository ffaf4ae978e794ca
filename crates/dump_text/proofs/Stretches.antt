-- The lines of the changes at ticks one after the other: what is written of the next ticks, and ticks without a change, of which nothing is written.
-- Assumes nothing. f x t is the sign of signal x at tick t, k is how many signals there are.
use mathlib.Core.Path.{◌≡◌, refl, sym, ap, ◌∙◌}
use mathlib.Core.Bool.{Bool, true, false}
use mathlib.Core.List.{[], ◌++◌, append_assoc, append-nil, flatten}
use Prim.Native.Nat.{ℕ, zero, suc, ◌+◌, ◌-◌, ◌*◌, ◌<◌, ◌≤◌}
use native.Mathlib.Numerals.{add-one}
use native.Mathlib.Omega.{arith}
use borrow.Author.Tests.{leb-true, leb-false}
use lib.Dec.{leb}
use Rattle.spec_tilco.specs.Table.{words}
use Rattle.spec_dump.specs.DumpTexts.{events_text}
use Rattle.spec_dump.specs.TableSigns.{signs_at, changes_at, timed, changes_from, sign_events}
use Rattle.dump_text.specs.TableTexts.{word_ticks}
use Rattle.dump_text.proofs.Events.{Moves, events_append, tick_rests}

module _ (f : ℕ → ℕ → ℕ) (k : ℕ) where
  -- Two stretches of ticks, one after the other.
  stretch_append : (t a b : ℕ) → changes_from f k t (a + b) ≡ changes_from f k t a ++ changes_from f k (t + a) b
  unfolding changes_from
  stretch_append t zero b = let e : 0 + b ≡ b = omega arith in let i : t + 0 ≡ t = omega arith in rw (e, i)
  stretch_append t (suc a) b =
      let e : suc a + b ≡ suc (a + b) = omega arith in
      let i : t + suc a ≡ suc t + a = omega arith in
      rw (e, i, stretch_append (suc t) a b, append_assoc)

  -- A stretch without a change.
  stretch_rests : (t n : ℕ) → ((u : ℕ) → t ≤ u → u < t + n → Moves f k u → ⊥) → changes_from f k t n ≡ []
  unfolding changes_from
  stretch_rests t zero q = refl
  stretch_rests t (suc n) q = rw (tick_rests f k t (q t (omega arith) (omega arith))) (stretch_rests (suc t) n (λ u l h. q u (omega arith) (omega arith)))

  module _ (t : ℕ) where
    -- A tick u after ticks without a change, and the rest up to the tick e.
    pub lines_tick : (u e : ℕ) → t ≤ u → u < e → ((v : ℕ) → t ≤ v → v < u → Moves f k v → ⊥)
        → events_text (changes_from f k t (e - t)) ≡ events_text (timed u (changes_at f u 0 k)) ++ events_text (changes_from f k (u + 1) (e - (u + 1)))
    unfolding changes_from
    lines_tick u e l h q =
        let a : e - t ≡ (u - t) + suc (e - (u + 1)) = omega arith in
        let i : t + (u - t) ≡ u = omega arith in
        rw (a, stretch_append t (u - t) (suc (e - (u + 1))), stretch_rests t (u - t) (λ v g j. q v g (omega arith)), i, add-one)
        (events_append (timed u (changes_at f u 0 k)) (changes_from f k (suc u) (e - suc u)))

    -- Only ticks without a change up to e.
    pub lines_none : (e : ℕ) → ((u : ℕ) → t ≤ u → u < e → Moves f k u → ⊥) → events_text (changes_from f k t (e - t)) ≡ []
    unfolding events_text flatten
    lines_none e q = ap events_text (stretch_rests t (e - t) (λ u l h. q u l (omega arith)))

  -- The lines of word q, and those of the words after it.
  module _ (W q : ℕ) where
    pub word_next : events_text (changes_from f k (64 * q) (W - 64 * q)) ≡ events_text (changes_from f k (64 * q) (word_ticks W q)) ++ events_text (changes_from f k (64 * (q + 1)) (W - 64 * (q + 1)))
    unfolding word_ticks changes_from events_text flatten
    word_next = go (leb 64 (W - 64 * q)) refl
      where
        go : (b : Bool) → leb 64 (W - 64 * q) ≡ b
            → events_text (changes_from f k (64 * q) (W - 64 * q)) ≡ events_text (changes_from f k (64 * q) (word_ticks W q)) ++ events_text (changes_from f k (64 * (q + 1)) (W - 64 * (q + 1)))
        go true e =
            let l = leb-true 64 (W - 64 * q) e in
            let a : W - 64 * q ≡ 64 + (W - 64 * (q + 1)) = omega arith in
            let i : 64 * (q + 1) ≡ 64 * q + 64 = omega arith in
            rw e (ap (λ (n : ℕ). events_text (changes_from f k (64 * q) n)) a ∙ ap events_text (stretch_append (64 * q) 64 (W - 64 * (q + 1))) ∙ rw i (events_append (changes_from f k (64 * q) 64) (changes_from f k (64 * q + 64) (W - (64 * q + 64)))))
        go false e =
            let l = leb-false 64 (W - 64 * q) e in
            let z : W - 64 * (q + 1) ≡ 0 = omega arith in
            rw (e, z) (sym (append-nil (events_text (changes_from f k (64 * q) (W - 64 * q)))))

    pub words_end : words W ≤ q → events_text (changes_from f k (64 * q) (W - 64 * q)) ≡ []
    unfolding words changes_from events_text flatten
    words_end h = let z : W - 64 * q ≡ 0 = omega arith in rw z

  -- At tick 0 nothing changes, so all events are the signs there and the changes at every tick.
  pub all_lines : (W : ℕ) → 1 ≤ W → events_text (sign_events f k W) ≡ events_text (signs_at f 0 0 (k - 0)) ++ events_text (changes_from f k (64 * 0) (W - 64 * 0))
  unfolding sign_events changes_from
  all_lines W h =
      let a : W - 64 * 0 ≡ suc (W - 1) = omega arith in
      let z : k - 0 ≡ k = omega arith in
      rw (a, z, tick_rests f k 0 (λ m. m.2 refl)) (events_append (signs_at f 0 0 k) (changes_from f k 1 (W - 1)))
