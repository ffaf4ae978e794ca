-- What a dump says: the sign of a signal at a tick, and the readings that are written of it (E6).
-- Assumes nothing. A sign is one of the bytes `0`, `1` and `x`; f x t is the sign of signal x at tick t.
use Rattle.std.specs.Prelude.{◌≡◌, Bool, true, false, List, [], ◌∷◌, ◌++◌, ◌⊎◌, ℕ, zero, suc, ◌<◌, ltb, eqb}
use Rattle.read_bytes.specs.Bytes.{byte, pick}
use Rattle.spec_tilco.specs.Lists.{All}
use Rattle.read_reading.specs.Spans.{Span, span}
use Rattle.spec_dump.specs.DumpTexts.{Event, time, sign}

-- "A sign holds until the signal's next or the window's end": the sign of signal x at tick t, where b is its sign before the events.
unfoldable pub sign_at_lem : ℕ → ℕ → ℕ → List Event → ℕ
sign_at_lem x t b [] = b
sign_at_lem x t b (sign y c ∷ es) = sign_at_lem x t (pick (eqb y x) (λ _. c) b) es
sign_at_lem x t b (time u ∷ es) = pick (ltb t u) (λ _. b) (sign_at_lem x t b es)

-- The sign of signal x at tick t in a dump.
abbrev pub dump_sign : List Event → ℕ → ℕ → ℕ
dump_sign es x t = sign_at_lem x t (byte "x") es

-- "Each 0 or 1 at a tick is written as an old-form reading": the reading of a sign, if it is one of these.
unfoldable pub reading_of : ℕ → ℕ → ℕ → List Span
reading_of x t b = pick (eqb b (byte "0")) (λ _. span x false t t ∷ []) (pick (eqb b (byte "1")) (λ _. span x true t t ∷ []) [])

-- The readings at tick t of n signals from x on.
unfoldable pub readings_at : (ℕ → ℕ → ℕ) → ℕ → ℕ → ℕ → List Span
readings_at f t x zero = []
readings_at f t x (suc n) = reading_of x t (f x t) ++ readings_at f t (suc x) n

-- "By tick, then signal": the readings of N signals at n ticks from t on.
unfoldable pub sign_readings : (ℕ → ℕ → ℕ) → ℕ → ℕ → ℕ → List Span
sign_readings f N t zero = []
sign_readings f N t (suc n) = readings_at f t 0 N ++ sign_readings f N (suc t) n

-- The sign of a value.
abbrev pub value_sign : Bool → ℕ
value_sign true = byte "1"
value_sign false = byte "0"

-- "By tick, then signal": a comes before b.
abbrev pub Earlier : Span → Span → Type 0
Earlier a b = (a.first < b.first) ⊎ ((a.first ≡ b.first) × (a.signal < b.signal))

-- Each reading comes before every later one.
unfoldable pub ByTick : List Span → Type 0
ByTick [] = Unit {0}
ByTick (e ∷ es) = All (Earlier e) es × ByTick es
