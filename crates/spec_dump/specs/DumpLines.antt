-- A dump read line by line (E6). "22 for any other or missing line, 12 for a name not declared, 13 for a tick outside the window."
-- Assumes nothing. `names` are the declared names in sheet order, N is how many they are, W the window, d the dump, p a place in it. 22 is at a line's first byte.
use Rattle.std.specs.Prelude.{Bool, ◌&&◌, ◌||◌, List, [], ◌∷◌, ℕ, zero, suc, ◌+◌, ◌-◌, leb, ltb, eqb, length, take, drop}
use Rattle.read_bytes.specs.Read.{Read, and_then}
use Rattle.read_bytes.specs.Read.Read.{got, refused}
use Rattle.read_bytes.specs.Bytes.{bytes, byte, peek, pick, one_of, starts}
use Rattle.read_names.specs.Spellings.{find_name}
use Rattle.read_lines.specs.Lines.{line_end, keyed_at, ranged_line}
use Rattle.spec_dump.specs.DumpTexts.{Event, time, sign, id_byte, var_key}

-- ---- the lines up to `#0`

-- The first of the texts that stands at q, in the line at p: the place after it.
unfoldable pub one_of_texts : List ℕ → ℕ → ℕ → List (List ℕ) → Read ℕ
one_of_texts d p q [] = refused 22 p
one_of_texts d p q (w ∷ ws) = pick (keyed_at d q w) (λ _. got 0 (q + length w)) (one_of_texts d p q ws)

-- The line w itself, with its LF.
abbrev pub this_line : List ℕ → ℕ → List ℕ → Read ℕ
this_line d p w = one_of_texts d p p (w ∷ [])

-- "Any timescale of 1, 10 or 100 and s, ms, us, ns, ps or fs."
abbrev pub scales : List (List ℕ)
scales = bytes "1 " ∷ bytes "10 " ∷ bytes "100 " ∷ []

abbrev pub units : List (List ℕ)
units = bytes "s $end\n" ∷ bytes "ms $end\n" ∷ bytes "us $end\n" ∷ bytes "ns $end\n" ∷ bytes "ps $end\n" ∷ bytes "fs $end\n" ∷ []

unfoldable pub timescale_line : List ℕ → ℕ → Read ℕ
timescale_line d p = and_then (one_of_texts d p p (bytes "$timescale " ∷ [])) (λ _ q. and_then (one_of_texts d p q scales) (λ _ r. one_of_texts d p r units))

-- The line of signal x in its form, whatever stands in the name's place: that place, and the place of the LF. The name is what stands between var_key, of 14 bytes, and
-- ` $end`, of 5.
unfoldable pub var_form : List ℕ → ℕ → ℕ → Read ℕ
var_form d x p =
    pick
    (keyed_at d p (var_key x) && ltb (line_end d (p + 14)) (length d) && leb (p + 19) (line_end d (p + 14)) && starts d (line_end d (p + 14) - 5) (bytes " $end"))
    (λ _. got (p + 14) (line_end d (p + 14))) (refused 22 p)

-- What stands from v on in the name's place, of a line whose LF stands at e.
unfoldable pub var_name : List ℕ → ℕ → ℕ → List ℕ
var_name d v e = take (e - 5 - v) (drop v d)

-- The line at p has the name with the number f, which has to be x. "12 for a name not declared", at the name; a declared name in another's place is 22.
unfoldable pub named_var : ℕ → ℕ → ℕ → ℕ → ℕ → ℕ → Read ℕ
named_var N x p v e f = pick (eqb f x) (λ _. got x (e + 1)) (pick (ltb f N) (λ _. refused 22 p) (refused 12 v))

-- The line of signal x.
unfoldable pub var_line : List (List ℕ) → List ℕ → ℕ → ℕ → Read ℕ
var_line names d x p = and_then (var_form d x p) (λ v e. named_var (length names) x p v e (find_name (var_name d v e) names))

-- The lines of n signals from x on.
unfoldable pub var_lines : List (List ℕ) → List ℕ → ℕ → ℕ → ℕ → Read ℕ
var_lines names d zero x p = got x p
var_lines names d (suc n) x p = and_then (var_line names d x p) (λ _ q. var_lines names d n (suc x) q)

-- The lines after those of the signals.
unfoldable pub head_end : List ℕ → ℕ → Read ℕ
head_end d p = and_then (this_line d p (bytes "$upscope $end\n")) (λ _ q. and_then (this_line d q (bytes "$enddefinitions $end\n")) (λ _ r. this_line d r (bytes "#0\n")))

-- All of them: the place after `#0`.
unfoldable pub head_lines : List (List ℕ) → List ℕ → Read ℕ
head_lines names d =
    and_then (timescale_line d 0) (λ _ p. and_then (this_line d p (bytes "$scope module sheet $end\n")) (λ _ q. and_then (var_lines names d (length names) 0 q) (λ _ r. head_end d r)))

-- ---- the events

-- "`z` as `x`": the sign that a byte says.
unfoldable pub sign_said : ℕ → ℕ
sign_said b = pick (eqb b (byte "z")) (λ _. byte "x") b

-- Is the line at p a sign of a signal from `lo` on and before `hi`?
unfoldable pub is_sign_line : List ℕ → ℕ → ℕ → ℕ → Bool
is_sign_line d lo hi p =
    leb (p + 3) (length d) && one_of (peek d p) (bytes "01xz") && leb (id_byte lo) (peek d (p + 1)) && ltb (peek d (p + 1)) (id_byte hi)
    && eqb (peek d (p + 2)) (byte "\n")

-- That line.
unfoldable pub sign_line : List ℕ → ℕ → ℕ → ℕ → Read Event
sign_line d lo hi p = pick (is_sign_line d lo hi p) (λ _. got (sign (peek d (p + 1) - 33) (sign_said (peek d p))) (p + 3)) (refused 22 p)

-- The line of a time after u: "times rise strictly".
unfoldable pub time_line : ℕ → List ℕ → ℕ → ℕ → Read Event
time_line W d u p = and_then (ranged_line d p (bytes "#") 22 13 0 (W - 1)) (λ t q. pick (ltb u t) (λ _. got (time t) q) (refused 22 p))

-- Is a sign still asked for, "all at `#0`"? u is the time so far, and k the first signal that may follow at it: "signs at one time keep sheet order, none twice".
unfoldable pub asked : ℕ → ℕ → ℕ → Bool
asked N u k = eqb u 0 && ltb k N

-- The event at p.
unfoldable pub event_at : ℕ → ℕ → List ℕ → ℕ → ℕ → ℕ → Read Event
event_at W N d u k p =
    pick (asked N u k) (λ _. sign_line d k (suc k) p) (pick (starts d p (bytes "#")) (λ _. time_line W d u p) (sign_line d k N p))

-- The time after an event, and the first signal that may follow.
abbrev pub time_after : ℕ → Event → ℕ
time_after u (time t) = t
time_after u (sign x b) = u

abbrev pub signal_after : Event → ℕ
signal_after (time t) = 0
signal_after (sign x b) = suc x

-- The events up to the dump's end, at most n.
unfoldable pub events_from : ℕ → ℕ → List ℕ → ℕ → ℕ → ℕ → ℕ → Read (List Event)
events_from W N d zero u k p = got [] p
events_from W N d (suc n) u k p =
    pick (ltb p (length d) || asked N u k)
    (λ _. and_then (event_at W N d u k p) (λ e q. and_then (events_from W N d n (time_after u e) (signal_after e) q) (λ es r. got (e ∷ es) r)))
    (got [] p)

-- A dump's events.
unfoldable pub events : List (List ℕ) → ℕ → List ℕ → Read (List Event)
events names W d = and_then (head_lines names d) (λ _ p. events_from W (length names) d (suc (length d)) 0 0 p)
