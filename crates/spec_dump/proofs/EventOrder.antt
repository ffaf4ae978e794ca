-- The events that are written of a table keep the order.
-- Assumes nothing. f x t is the sign of signal x at tick t, N is how many signals there are, W the window.
use mathlib.Core.Path.{◌≡◌, refl, sym, ◌∙◌}
use mathlib.Core.Bool.{Bool, true, false, true≢false}
use mathlib.Core.List.{List, [], ◌∷◌, ◌++◌}
use Prim.Native.Nat.{ℕ, zero, suc, ◌+◌, ◌-◌, ◌<◌, ◌≤◌}
use native.Mathlib.Omega.{arith}
use borrow.Author.Tests.{ne_eqb, le-ltb}
use lib.Dec.{eqb}
use Rattle.spec_dump.specs.DumpTexts.{Event}
use Rattle.spec_dump.specs.DumpLines.{asked}
use Rattle.spec_dump.specs.EventOrder.{Sign, Follow}
use Rattle.spec_dump.specs.TableSigns.{signs_at, changes_at, timed, changes_from, sign_events}

-- No sign is asked for at a later time, and none at `#0` once all are given.
pub asked_later : (N u k : ℕ) → 0 < u → asked N u k ≡ false
unfolding asked
asked_later N u k h = rw (ne_eqb u 0 (λ e. omega arith))

pub asked_done : (N : ℕ) → asked N 0 N ≡ false
unfolding asked
asked_done N = rw (le-ltb N N (omega arith))

module _ (f : ℕ → ℕ → ℕ) (signs : (x t : ℕ) → Sign (f x t)) (W N : ℕ) where
  -- The signs at `#0`, before what may follow them.
  signs_follow : (n x : ℕ) (es : List Event) → x + n ≡ N → Follow W N 0 N es → Follow W N 0 x (signs_at f 0 x n ++ es)
  unfolding signs_at Follow
  signs_follow zero x es e h = let i : x ≡ N = omega arith in rw i h
  signs_follow (suc n) x es e h = (record { order = omega arith; declared = omega arith; next = λ a. refl; known = signs x 0 }, signs_follow n (suc x) es (omega arith) h)

  -- Those that change at a later tick t.
  changes_follow : (t : ℕ) → 0 < t → (es : List Event) → ((k : ℕ) → Follow W N t k es) → (n x k : ℕ) → x + n ≡ N → k ≤ x → Follow W N t k (changes_at f t x n ++ es)
  unfolding changes_at Follow
  changes_follow t z es h zero x k e l = h k
  changes_follow t z es h (suc n) x k e l = go (eqb (f x t) (f x (t - 1))) refl (λ j m. changes_follow t z es h n (suc x) j (omega arith) m)
    where
      go : (b : Bool) → eqb (f x t) (f x (t - 1)) ≡ b → ((j : ℕ) → j ≤ suc x → Follow W N t j (changes_at f t (suc x) n ++ es)) → Follow W N t k (changes_at f t x (suc n) ++ es)
      go true i r = rw i (r k (omega arith))
      go false i r =
          rw i (record { order = l; declared = omega arith; next = λ a. absurd (true≢false (sym a ∙ asked_later N t k z)); known = signs x t }, r (suc x) (omega arith))

  -- With their time, if there are any.
  timed_follow : (t u k : ℕ) → asked N u k ≡ false → u < t → t < W → (cs es : List Event) → Follow W N u k es → Follow W N t 0 (cs ++ es) → Follow W N u k (timed t cs ++ es)
  unfolding Follow
  timed_follow t u k a l i [] es none some = none
  timed_follow t u k a l i (c ∷ cs) es none some = (record { given = a; later = l; inside = i }, some)

  -- All later ticks.
  later_follow : (n t u k : ℕ) → asked N u k ≡ false → u < t → t + n ≤ W → Follow W N u k (changes_from f N t n)
  unfolding Follow changes_from
  later_follow zero t u k a l i = a
  later_follow (suc n) t u k a l i =
      timed_follow t u k a l (omega arith) (changes_at f t 0 N) (changes_from f N (suc t) n) (later_follow n (suc t) u k a (omega arith) (omega arith))
      (changes_follow t (omega arith) (changes_from f N (suc t) n) (λ j. later_follow n (suc t) t j (asked_later N t j (omega arith)) (omega arith) (omega arith)) N 0 0 (omega arith) (omega arith))

  -- A dump's events.
  pub table_follow : 1 ≤ W → Follow W N 0 0 (sign_events f N W)
  unfolding sign_events
  table_follow h = signs_follow N 0 (changes_from f N 1 (W - 1)) (omega arith) (later_follow (W - 1) 1 0 N (asked_done N) (omega arith) (omega arith))
