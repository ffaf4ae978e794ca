-- How long a dump is at the most, so that its places can be counted. Assumes nothing.
use mathlib.Core.Path.{◌≡◌, refl, ap}
use mathlib.Core.Bool.{Bool, true, false}
use mathlib.Core.List.{List, [], ◌∷◌, ◌++◌, flatten}
use Prim.Native.Nat.{ℕ, zero, suc, ◌+◌, ◌-◌, ◌*◌, ◌≤◌}
use native.Mathlib.Omega.{arith}
use lib.Dec.{eqb}
use lib.ListN.{length, length-append}
use Rattle.spec_limits.specs.Limits.{most_ticks, most_signals}
use Rattle.read_bytes.specs.Bytes.{bytes}
use Rattle.write_lines.proofs.Lengths.{number_most}
use Rattle.write_bytes.specs.Writes.{Counted}
use Rattle.spec_dump.specs.DumpTexts.{Event, time, sign, event_text, events_text, var_key, var_text, vars_text, head_text, dump_text}
use Rattle.spec_dump.specs.TableSigns.{signs_at, changes_at, timed, changes_from, sign_events}
use Rattle.dump_text.specs.TableTexts.{ShortNames}

-- ---- the lines of the signals, and those around them

var_most : (x : ℕ) (name : List ℕ) → length (var_text x name) ≡ 20 + length name
unfolding var_text var_key
var_most x name = omega (arith, length-append name (bytes " $end\n"))

vars_most : (x : ℕ) (names : List (List ℕ)) → ShortNames names → length (vars_text x names) ≤ 36 * length names
unfolding vars_text
vars_most x [] h = omega arith
vars_most x (name ∷ names) h =
    let i = vars_most (suc x) names h.1 in
    let l = h.0 in
    omega (arith, var_most x name, length-append (var_text x name) (vars_text (suc x) names))

head_most : (names : List (List ℕ)) → ShortNames names → length (head_text names) ≤ 36 * length names + 83
unfolding head_text
head_most names h =
    let i = vars_most 0 names h in
    omega (arith, length-append (vars_text 0 names) (bytes "$upscope $end\n" ++ (bytes "$enddefinitions $end\n" ++ bytes "#0\n")))

-- ---- the events

event_most : (e : Event) → length (event_text e) ≤ 22
unfolding event_text
event_most (time t) = number_most (bytes "#") t
event_most (sign x b) = omega arith

events_most : (es : List Event) → length (events_text es) ≤ 22 * length es
unfolding events_text flatten
events_most [] = omega arith
events_most (e ∷ es) =
    let i = events_most es in
    omega (arith, event_most e, length-append (event_text e) (events_text es))

module _ (f : ℕ → ℕ → ℕ) where
  signs_many : (t x n : ℕ) → length (signs_at f t x n) ≡ n
  unfolding signs_at
  signs_many t x zero = refl
  signs_many t x (suc n) = ap suc (signs_many t (suc x) n)

  changes_most : (t x n : ℕ) → length (changes_at f t x n) ≤ n
  unfolding changes_at
  changes_most t x zero = omega arith
  changes_most t x (suc n) = go (eqb (f x t) (f x (t - 1))) refl (changes_most t (suc x) n)
    where
      go : (b : Bool) → eqb (f x t) (f x (t - 1)) ≡ b → length (changes_at f t (suc x) n) ≤ n → length (changes_at f t x (suc n)) ≤ suc n
      go true e i = rw e (omega arith)
      go false e i = rw e (omega arith)

  timed_most : (t : ℕ) (es : List Event) → length (timed t es) ≤ 1 + length es
  timed_most t [] = omega arith
  timed_most t (e ∷ es) = omega arith

  stretch_most : (k t n : ℕ) → k ≤ most_signals → length (changes_from f k t n) ≤ 65 * n
  unfolding changes_from
  stretch_most k t zero h = omega arith
  stretch_most k t (suc n) h =
      let i = stretch_most k (suc t) n h in
      let es = changes_at f t 0 k in
      omega (arith, changes_most t 0 k, timed_most t es, length-append (timed t es) (changes_from f k (suc t) n))

  -- The places of a dump can be counted.
  pub dump_counted : (names : List (List ℕ)) (k W : ℕ) → ShortNames names → length names ≡ k → k ≤ most_signals → W ≤ most_ticks → Counted 0 (dump_text names (sign_events f k W))
  unfolding dump_text sign_events
  dump_counted names k W h e l m =
      let a = signs_at f 0 0 k in
      let b = changes_from f k 1 (W - 1) in
      record {
        below = omega (arith, head_most names h, events_most (a ++ b), length-append a b, signs_many 0 0 k, stretch_most k 1 (W - 1) l, length-append (head_text names) (events_text (a ++ b)));
      }
