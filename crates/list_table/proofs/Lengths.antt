-- How long a listing is at the most, so that its places can be counted and a buffer with room for it can be lent.
-- Assumes nothing.
use mathlib.Core.Bool.{Bool}
use mathlib.Core.List.{List, [], ◌∷◌, ◌++◌}
use Prim.Native.Nat.{ℕ, ◌+◌, ◌*◌, ◌<◌, ◌≤◌}
use native.Mathlib.Omega.{arith}
use lib.ListN.{length, get_or, length-append}
use Rattle.spec_limits.specs.Limits.{most_ticks, most_signals, most_name_bytes, most_listed}
use Rattle.read_bytes.specs.Bytes.{bytes}
use Rattle.spec_tilco.specs.Lists.{All}
use Rattle.spec_tilco.specs.Table.{Answer}
use Rattle.write_bytes.specs.Writes.{Counted}
use Rattle.write_bytes.specs.declared.Writer.{Writer}
use Rattle.write_bytes.specs.Writers.{Writes}
use Rattle.write_lines.specs.LineTexts.{one_if, number_text}
use Rattle.write_lines.proofs.Lengths.{number_most}
use Rattle.spec_tilco.proofs.Lists.{all_nth}
use Rattle.list_order.specs.Order.{in_order_lem}
use Rattle.list_order.proofs.Sorting.{order_long, order_within}
use Rattle.list_signals.specs.Signals.{signs, signal_text, signals_text}
use Rattle.list_signals.proofs.Lengths.{signs_length, signal_length}
use Rattle.list_table.specs.Listing.{head_text, listing_text, refusal_text}

-- A line with a number can be counted near the start of the buffer, and ends near it.
pub number_counted : (key : List ℕ) (n : ℕ) {b : ℕ} → b + length key ≤ most_listed → Counted b (number_text key n)
number_counted key n h = record { below = omega (arith, number_most key n) }

pub number_ends : (key : List ℕ) (n : ℕ) {t u : Writer} → Writes (number_text key n) t u → u.used ≤ t.used + length key + 21
number_ends key n w = omega (arith, number_most key n, w.wrote.next)

-- A signal's lines have its name, of at most so many bytes, a sign a tick, and 15 bytes more.
pub signals_most : (limit W : ℕ) (f : ℕ → ℕ → Answer) (names : List (List ℕ)) (xs : List ℕ) → W ≤ most_ticks → All (λ w. length w ≤ limit) names → All (λ x. x < length names) xs
    → length (signals_text W f names xs) ≤ (limit + most_ticks + 15) * length xs
unfolding signals_text
signals_most limit W f names [] h a b = omega arith
signals_most limit W f names (x ∷ xs) h a b =
    let name = get_or names x [] in
    let l = signal_length name (signs (f x) 0 W) in
    let k = signs_length (f x) 0 W in
    let i = signals_most limit W f names xs h a b.1 in
    let s = all_nth (λ w. length w ≤ limit) [] names x a b.0 in
    omega (arith, length-append (signal_text name (signs (f x) 0 W)) (signals_text W f names xs))

pub head_most : (rows facts : ℕ) (clash : Bool) → length (head_text rows facts clash) ≤ 108
unfolding head_text
head_most rows facts clash =
    let a = number_most (bytes "answer=") 0 in
    let b = number_most (bytes "rows=") rows in
    let c = number_most (bytes "facts=") facts in
    let d = number_most (bytes "clash=") (one_if clash) in
    omega (
      arith,
      length-append (number_text (bytes "answer=") 0) (number_text (bytes "rows=") rows ++ (number_text (bytes "facts=") facts ++ number_text (bytes "clash=") (one_if clash))),
      length-append (number_text (bytes "rows=") rows) (number_text (bytes "facts=") facts ++ number_text (bytes "clash=") (one_if clash)),
      length-append (number_text (bytes "facts=") facts) (number_text (bytes "clash=") (one_if clash)),
    )

-- A listing fits the listing's buffer,
pub listing_most : (names : List (List ℕ)) (W rows facts : ℕ) (clash : Bool) (f : ℕ → ℕ → Answer)
    → All (λ w. length w ≤ most_name_bytes) names → length names ≤ most_signals → W ≤ most_ticks → length (listing_text names W rows facts clash f) ≤ most_listed
unfolding listing_text
listing_most names W rows facts clash f a n w =
    let h = head_most rows facts clash in
    let l = signals_most most_name_bytes W f names (in_order_lem names) w a (order_within names) in
    omega (arith, length-append (head_text rows facts clash) (signals_text W f names (in_order_lem names)), order_long names)

-- and so does a refusal's.
pub refusal_most : (number place : ℕ) → length (refusal_text number place) ≤ most_listed
unfolding refusal_text
refusal_most number place =
    let a = number_most (bytes "answer=") number in
    let b = number_most (bytes "place=") place in
    omega (arith, length-append (number_text (bytes "answer=") number) (number_text (bytes "place=") place))
