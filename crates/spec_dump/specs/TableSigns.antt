-- The events that are written of a table (E6).
-- Assumes nothing. f x t is the sign of signal x at tick t, N is how many signals there are, W the window.
use Rattle.std.specs.Prelude.{List, [], ◌∷◌, ◌++◌, ℕ, zero, suc, ◌-◌, eqb}
use Rattle.read_bytes.specs.Bytes.{byte, pick}
use Rattle.spec_tilco.specs.Table.{Answer, Unsettled, True, False, Contradiction}
use Rattle.spec_dump.specs.DumpTexts.{Event, time, sign}

-- "`0`, `1`, `x` unsettled": the sign of what ask answers. A table that clashes has no dump.
abbrev pub answer_sign : Answer → ℕ
answer_sign Unsettled = byte "x"
answer_sign True = byte "1"
answer_sign False = byte "0"
answer_sign Contradiction = byte "x"

-- "Each signal's sign": those of n signals from x on at tick t.
unfoldable pub signs_at : (ℕ → ℕ → ℕ) → ℕ → ℕ → ℕ → List Event
signs_at f t x zero = []
signs_at f t x (suc n) = sign x (f x t) ∷ signs_at f t (suc x) n

-- Those of them that differ from the signs at the tick before.
unfoldable pub changes_at : (ℕ → ℕ → ℕ) → ℕ → ℕ → ℕ → List Event
changes_at f t x zero = []
changes_at f t x (suc n) = pick (eqb (f x t) (f x (t - 1))) (λ _. changes_at f t (suc x) n) (sign x (f x t) ∷ changes_at f t (suc x) n)

-- A time before signs, if there are any.
abbrev pub timed : ℕ → List Event → List Event
timed t [] = []
timed t (e ∷ es) = time t ∷ e ∷ es

-- "Then for each later tick where signs change `#` and the tick, and those signals' lines in that order": n ticks from t on.
unfoldable pub changes_from : (ℕ → ℕ → ℕ) → ℕ → ℕ → ℕ → List Event
changes_from f N t zero = []
changes_from f N t (suc n) = timed t (changes_at f t 0 N) ++ changes_from f N (suc t) n

-- The events of a dump.
unfoldable pub sign_events : (ℕ → ℕ → ℕ) → ℕ → ℕ → List Event
sign_events f N W = signs_at f 0 0 N ++ changes_from f N 1 (W - 1)
