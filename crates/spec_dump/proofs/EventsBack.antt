-- The events that are written are read back, if they keep the order.
-- Assumes nothing. N is how many signals there are, W the window, d the dump.
use mathlib.Core.Path.{◌≡◌, refl}
use mathlib.Core.Bool.{Bool, true, false}
use mathlib.Core.List.{List, [], ◌∷◌, ◌++◌, flatten}
use Prim.Native.Nat.{ℕ, zero, suc, ◌+◌, ◌-◌, ◌<◌, ◌≤◌}
use native.Mathlib.Omega.{arith}
use borrow.Author.Tests.{lt-ltb, le-ltb, le-leb}
use lib.ListN.{length, length-append}
use Rattle.read_bytes.specs.Read.Read.{got}
use Rattle.read_bytes.specs.Bytes.{bytes, byte, peek, starts}
use Rattle.write_bytes.specs.Writes.{decimal_text}
use Rattle.write_bytes.proofs.Standing.{Standing, starts_one, stands_first, stands_rest}
use Rattle.write_lines.specs.LineTexts.{line_text}
use Rattle.write_readings.proofs.LinesBack.{ranged_line_back}
use Rattle.spec_dump.specs.DumpTexts.{Event, time, sign, id_byte, event_text, events_text}
use Rattle.spec_dump.specs.DumpLines.{is_sign_line, sign_line, time_line, asked, event_at, time_after, signal_after, events_from}
use Rattle.spec_dump.specs.EventOrder.{Sign, TimeNext, SignNext, Next, Follow}
use Rattle.spec_dump.proofs.Signs.{sign_taken, sign_itself, sign_no_time}

module _ {d : List ℕ} {p : ℕ} where
  -- The three bytes of a sign's line.
  module _ (x b : ℕ) (h : Standing d p (event_text (sign x b))) where
    first : b ≡ peek d p
    unfolding event_text
    first = starts_one d p b (stands_first (b ∷ []) (id_byte x ∷ bytes "\n") h).bytes

    rest : Standing d (p + 1) (id_byte x ∷ bytes "\n")
    unfolding event_text
    rest = stands_rest (b ∷ []) (id_byte x ∷ bytes "\n") h

    second : id_byte x ≡ peek d (p + 1)
    second = starts_one d (p + 1) (id_byte x) (stands_first (id_byte x ∷ []) (bytes "\n") rest).bytes

    third : byte "\n" ≡ peek d (p + 2)
    third =
        let n : p + 1 + 1 ≡ p + 2 = omega arith in
        rw n at (starts_one d (p + 1 + 1) (byte "\n") (stands_rest (id_byte x ∷ []) (bytes "\n") rest).bytes)

    -- A sign of one of the signals from lo on and before hi is read.
    sign_back : (lo hi : ℕ) → lo ≤ x → x < hi → Sign b → sign_line d lo hi p ≡ got (sign x b) (p + 3)
    unfolding sign_line is_sign_line
    sign_back lo hi l u s =
        let n : 33 + x - 33 ≡ x = omega arith in
        rw (← first, ← second, ← third, le-leb (p + 3) (length d) (omega (arith, rest.inside)), sign_taken b s, le-leb (33 + lo) (33 + x) (omega arith), lt-ltb (33 + x) (33 + hi) (omega arith), sign_itself b s, n)

    -- It is no time's line.
    no_time : Sign b → starts d p (bytes "#") ≡ false
    unfolding starts
    no_time s = rw (← first, sign_no_time b s)

  module _ (W N u k : ℕ) (few : W ≤ 100000) where
    -- A time's line.
    time_back : (t : ℕ) → TimeNext W N u k t → Standing d p (event_text (time t)) → event_at W N d u k p ≡ got (time t) (p + length (event_text (time t)))
    unfolding event_at time_line event_text line_text
    time_back t n h =
        let s = stands_first (bytes "#") (decimal_text t ++ bytes "\n") h in
        let a = ranged_line_back (bytes "#") 22 13 0 (W - 1) t (omega (arith, n.inside)) (omega arith) (omega (arith, n.inside)) h in
        rw (n.given, s.bytes, a, lt-ltb u t n.later)

    -- A sign's.
    said_back : (x b : ℕ) → SignNext N u k x b → Standing d p (event_text (sign x b)) → event_at W N d u k p ≡ got (sign x b) (p + 3)
    unfolding event_at
    said_back x b n h = go (asked N u k) refl
      where
        go : (a : Bool) → asked N u k ≡ a → event_at W N d u k p ≡ got (sign x b) (p + 3)
        go true e = let i = n.next e in rw e (sign_back x b h k (suc k) n.order (omega arith) n.known)
        go false e = rw (e, no_time x b h n.known) (sign_back x b h k N n.order n.declared n.known)

    -- An event that may follow is read where it stands.
    event_back : (e : Event) → Next W N u k e → Standing d p (event_text e) → event_at W N d u k p ≡ got e (p + length (event_text e))
    unfolding event_text
    event_back (time t) n h = time_back t n h
    event_back (sign x b) n h = said_back x b n h

-- An event's line is not empty.
event_some : (e : Event) → 0 < length (event_text e)
unfolding event_text line_text
event_some (time t) = omega arith
event_some (sign x b) = omega arith

-- Events that keep the order are read where they stand, up to the dump's end.
pub events_from_back : {d : List ℕ} (W N : ℕ) → W ≤ 100000 → (es : List Event) (n u k p : ℕ) → Follow W N u k es → Standing d p (events_text es) → p + length (events_text es) ≡ length d → length (events_text es) < n
    → events_from W N d n u k p ≡ got es (length d)
unfolding Follow events_from events_text flatten
events_from_back W N few es zero u k p f h e l = absurd (omega arith)
events_from_back {d} W N few [] (suc n) u k p f h e l =
    let z : length (events_text []) ≡ 0 = refl in
    let i : p ≡ length d = omega arith in
    rw (le-ltb p (length d) (omega arith), f, i)
events_from_back {d} W N few (e ∷ es) (suc n) u k p f h i l =
    let z = event_some e in
    let w : length (events_text (e ∷ es)) ≡ length (event_text e) + length (events_text es) = length-append (event_text e) (events_text es) in
    let a = event_back W N u k few e f.0 (stands_first (event_text e) (events_text es) h) in
    let b = events_from_back W N few es n (time_after u e) (signal_after e) (p + length (event_text e)) f.1 (stands_rest (event_text e) (events_text es) h) (omega arith) (omega arith) in
    rw (lt-ltb p (length d) (omega arith), a, b)
