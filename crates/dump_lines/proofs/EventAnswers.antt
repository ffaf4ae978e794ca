-- The line of a time, and the event at a place: each answer of their readers.
-- Assumes nothing.
use mathlib.Core.Path.{◌≡◌}
use mathlib.Core.Bool.{true, false, and-eq-true_iff}
use mathlib.Core.List.{List}
use Prim.Native.Nat.{ℕ, ◌+◌, ◌-◌, ◌<◌, ◌≤◌}
use native.Mathlib.Numerals.{add-one}
use borrow.Author.Tests.{lt-ltb, le-ltb, ltb-true}
use lib.Dec.{ltb, eqb}
use Rattle.read_bytes.specs.Read.Read.{got, refused}
use Rattle.read_bytes.specs.Bytes.{bytes, starts}
use Rattle.read_lines.specs.Lines.{ranged_line}
use Rattle.spec_dump.specs.DumpTexts.{time}
use Rattle.spec_dump.specs.DumpLines.{sign_line, time_line, asked, event_at}

-- The line of a time that was read: whether it is after u.
module _ (W : ℕ) (d : List ℕ) (u p : ℕ) {t q : ℕ} (a : ranged_line d p (bytes "#") 22 13 0 (W - 1) ≡ got t q) where
  pub time_is : u < t → got (time t) q ≡ time_line W d u p
  unfolding time_line
  time_is h = rw (a, lt-ltb u t h)

  pub time_past : t ≤ u → refused 22 p ≡ time_line W d u p
  unfolding time_line
  time_past h = rw (a, le-ltb u t h)

-- Where a sign is asked for, there is a signal that has none yet.
pub asked_more : (N u k : ℕ) → asked N u k ≡ true → k < N
unfolding asked
asked_more N u k a = ltb-true k N ((and-eq-true_iff (eqb u 0) (ltb k N)).0 a).1

-- The event at p: the next signal's sign where it is asked for, else a time or a sign.
module _ (W N : ℕ) (d : List ℕ) (u k p : ℕ) where
  pub event_asked : asked N u k ≡ true → sign_line d k (k + 1) p ≡ event_at W N d u k p
  unfolding event_at
  event_asked a = rw (a, add-one)

  module _ (a : asked N u k ≡ false) where
    pub event_time : starts d p (bytes "#") ≡ true → time_line W d u p ≡ event_at W N d u k p
    unfolding event_at
    event_time b = rw (a, b)

    pub event_sign : starts d p (bytes "#") ≡ false → sign_line d k N p ≡ event_at W N d u k p
    unfolding event_at
    event_sign b = rw (a, b)
