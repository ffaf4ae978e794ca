-- A dump that is written is read back: its events are those that were written, of events that keep the order and so of a table.
-- Assumes nothing.
use mathlib.Core.Path.{◌≡◌}
use mathlib.Core.List.{List, [], append-nil}
use Prim.Native.Nat.{ℕ, suc, ◌+◌, ◌≤◌}
use native.Mathlib.Omega.{arith}
use lib.ListN.{length, length-append}
use Rattle.read_bytes.specs.Read.Read.{got}
use Rattle.write_bytes.proofs.Standing.{Standing, stands_first, stands_rest, stands_self}
use Rattle.write_readings.proofs.ReadableNames.{Readable}
use Rattle.spec_dump.specs.DumpTexts.{Event, head_text, events_text, dump_text}
use Rattle.spec_dump.specs.DumpLines.{events}
use Rattle.spec_dump.specs.EventOrder.{Sign, Follow}
use Rattle.spec_dump.specs.TableSigns.{sign_events}
use Rattle.spec_dump.proofs.HeadBack.{head_back}
use Rattle.spec_dump.proofs.EventsBack.{events_from_back}
use Rattle.spec_dump.proofs.EventOrder.{table_follow}

-- Events that keep the order.
pub events_back : (names : List (List ℕ)) (W : ℕ) (es : List Event) → Readable names → W ≤ 100000 → Follow W (length names) 0 0 es → events names W (dump_text names es) ≡ got es (length (dump_text names es))
unfolding events dump_text
events_back names W es r few f =
    let d = dump_text names es in
    let h : Standing d 0 (dump_text names es) = rw append-nil at (stands_self d []) in
    let w = length-append (head_text names) (events_text es) in
    let a = head_back names r (stands_first (head_text names) (events_text es) h) in
    let z : 0 + length (head_text names) ≡ length (head_text names) = omega arith in
    let b = events_from_back W (length names) few es (suc (length d)) 0 0 (length (head_text names)) f (rw z at (stands_rest (head_text names) (events_text es) h)) (omega arith) (omega arith) in
    rw (a, b)

-- Those of a table.
pub table_back : (names : List (List ℕ)) (W : ℕ) (f : ℕ → ℕ → ℕ) → Readable names → 1 ≤ W → W ≤ 100000 → ((x t : ℕ) → Sign (f x t))
    → events names W (dump_text names (sign_events f (length names) W)) ≡ got (sign_events f (length names) W) (length (dump_text names (sign_events f (length names) W)))
table_back names W f r some few signs = events_back names W (sign_events f (length names) W) r few (table_follow f signs W (length names) some)
