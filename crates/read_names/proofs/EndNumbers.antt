-- The number at a name's end: the digits there and what stands before them, how they are read, and that a name is what stands before them and their number.
-- Assumes nothing. w is a name's text, d the digits at its end, t what follows it.
use mathlib.Core.Path.{◌≡◌, refl, sym, ap, ap₂, ◌∙◌}
use mathlib.Core.Bool.{Bool, true, false, true≢false, false≢true, not, ◌||◌, and-eq-true_iff, and-true, and-false, or-true}
use mathlib.Core.List.{List, [], ◌∷◌, ◌++◌}
use Prim.Native.Nat.{ℕ, zero, suc, ◌+◌, ◌-◌, ◌*◌, ◌<◌, ◌≤◌}
use native.Mathlib.Omega.{arith}
use native.Mathlib.Decide.{dec_lt}
use borrow.Author.Tests.{eq-eqb, ne_eqb, eqb-false, le-leb, lt-leb, not-true}
use lib.Dec.{leb, eqb}
use lib.ListN.{length, get_or, take, drop, take-append-drop}
use lib.Seq.{length-take-le}
use Rattle.std.specs.Prelude.{Option, Some, None}
use Rattle.spec_limits.specs.Limits.{most_end_number}
use Rattle.read_bytes.specs.Bytes.{bytes, byte, peek, pick, between, digit, every}
use Rattle.read_bytes.specs.Numbers.{decimal, digits, number}
use Rattle.read_names.specs.EndNumbers.{end_digits, stem, none, is_end_number, number_of, end_number, well_ended}
use Rattle.read_bytes.proofs.Places.{drop_in}
use Rattle.read_bytes.proofs.Tests.{between_is, between_in}
use Rattle.read_bytes.proofs.Values.{number_zero, number_some, number_none}
use Rattle.read_bytes.proofs.Later.{later_some, number_later}
use Rattle.read_names.proofs.Digits.{digits_parts, digit_low, decimal_more, digits_one, digits_all, digits_first}

-- ---- the two parts of a name

pub parts : (w : List ℕ) → stem w ++ end_digits w ≡ w
unfolding stem end_digits
parts [] = refl
parts (b ∷ w) = go (every digit (b ∷ w)) refl (parts w)
  where
    go : (c : Bool) → every digit (b ∷ w) ≡ c → stem w ++ end_digits w ≡ w → stem (b ∷ w) ++ end_digits (b ∷ w) ≡ b ∷ w
    go true e i = rw e
    go false e i = rw (e, i)

pub end_every : (w : List ℕ) → every digit (end_digits w) ≡ true
unfolding end_digits every
end_every [] = refl
end_every (b ∷ w) = go (every digit (b ∷ w)) refl (end_every w)
  where
    go : (c : Bool) → every digit (b ∷ w) ≡ c → every digit (end_digits w) ≡ true → every digit (end_digits (b ∷ w)) ≡ true
    go true e i = rw e e
    go false e i = rw e i

-- A byte that is no digit, and digits alone after it: it is the last of the first part.
pub stem_all : (w : List ℕ) → every digit w ≡ true → stem w ≡ []
unfolding stem
stem_all [] h = refl
stem_all (b ∷ w) h = rw h

no_digit : (w : List ℕ) (k : ℕ) → k < length w → digit (get_or w k 0) ≡ false → every digit w ≡ false
unfolding every
no_digit [] k l e = absurd (omega arith)
no_digit (b ∷ w) zero l e = rw e
no_digit (b ∷ w) (suc k) l e = rw (no_digit w k (omega arith) e) (and-false (digit b))

pub stem_to : (w : List ℕ) (k : ℕ) → k < length w → digit (get_or w k 0) ≡ false → every digit (drop (suc k) w) ≡ true → length (stem w) ≡ suc k
unfolding stem
stem_to [] k l e h = absurd (omega arith)
stem_to (b ∷ w) zero l e h = rw (no_digit (b ∷ w) zero l e, stem_all w h)
stem_to (b ∷ w) (suc k) l e h = rw (no_digit (b ∷ w) (suc k) l e) (ap suc (stem_to w k (omega arith) e h))

pub digit_before : (w : List ℕ) (k : ℕ) → k < length w → digit (get_or w k 0) ≡ true → every digit (drop (k + 1) w) ≡ true → every digit (drop k w) ≡ true
unfolding every
digit_before w k l e h = rw (drop_in w k 0 l, e, h)

-- ---- how the digits are read

-- What the reader of numbers makes of the digits d at i: there are none; it takes them whole; or it takes fewer, and they are no end number.
pub data EndRead (i : ℕ) : List ℕ → Option (ℕ × ℕ) → Type 0 where
  missing : EndRead i [] None
  whole : {b : ℕ} {d : List ℕ} → none d || not (eqb b (byte "0")) ≡ true → EndRead i (b ∷ d) (Some (decimal 0 (b ∷ d), i + length (b ∷ d)))
  part : {d : List ℕ} {x q : ℕ} → is_end_number d ≡ false → q < i + length d → EndRead i d (Some (x, q))

-- More than four digits are over 9,999.
large : (b : ℕ) (d : List ℕ) → byte "1" ≤ b → 4 ≤ length d → is_end_number (b ∷ d) ≡ false
unfolding is_end_number decimal every
large b d l n =
    let m = decimal_more 0 (10 * 0 + (b - byte "0")) (bytes "9999") d (omega arith) refl (omega arith) in
    rw (lt-leb (decimal 0 (b ∷ d)) most_end_number m) (and-false (none d || not (eqb b (byte "0"))))

zero_first : (d : List ℕ) → EndRead 0 (byte "0" ∷ d) (Some (0, 1))
unfolding decimal is_end_number
zero_first [] = whole {d = []} refl
zero_first (c ∷ d) = part {d = byte "0" ∷ c ∷ d} {q = 1} refl (omega arith)

module _ (t : List ℕ) (stops : digit (peek t 0) ≡ false) where
  no_number : number t 0 ≡ None
  no_number = sym (number_none t 0 (peek t 0) refl (λ e. true≢false (sym (ap digit e) ∙ stops)) (low (between (byte "1") (byte "9") (peek t 0)) refl))
    where
      low : (c : Bool) → between (byte "1") (byte "9") (peek t 0) ≡ c → c ≡ false
      low false e = refl
      low true e =
          let w = between_is (byte "1") (byte "9") (peek t 0) e in
          absurd (true≢false (sym (between_in (byte "0") (byte "9") (peek t 0) (omega (arith, w.0)) w.1) ∙ stops))

  some_first : (b : ℕ) (d : List ℕ) → byte "1" ≤ b → every digit (b ∷ d) ≡ true → EndRead 0 (b ∷ d) (Some (digits ((b ∷ d) ++ t) 5 0 0))
  some_first b d l h = go (dec_lt (length d) 5)
    where
      go : Dec (length d < 5) → EndRead 0 (b ∷ d) (Some (digits ((b ∷ d) ++ t) 5 0 0))
      go (yes n) =
          let z : length (b ∷ d) ≡ 0 + length (b ∷ d) = omega arith in
          rw (digits_all 5 0 (b ∷ d) t h stops (omega arith), z) (whole {b = b} {d = d} (rw (ne_eqb b (byte "0") (omega arith)) (or-true (none d))))
      go (no n) =
          let r = digits_first 5 0 (b ∷ d) t h (omega arith) in
          rw r.1 (part {d = b ∷ d} {q = 5} (large b d l (omega arith)) (omega arith))

  first_read : (d : List ℕ) → every digit d ≡ true → EndRead 0 d (number (d ++ t) 0)
  unfolding peek
  first_read [] h = rw no_number missing
  first_read (b ∷ d) h = go (dec_lt b (byte "1"))
    where
      low : (byte "0" ≤ b) × (b ≤ byte "9")
      low = between_is (byte "0") (byte "9") b (digits_parts b d h).0

      go : Dec (b < byte "1") → EndRead 0 (b ∷ d) (number ((b ∷ d) ++ t) 0)
      go (yes l) =
          let z : b ≡ byte "0" = omega (arith, low.0) in
          rw (← number_zero ((b ∷ d) ++ t) 0 b refl z, z) (zero_first d)
      go (no l) =
          let n : byte "1" ≤ b = omega arith in
          rw (← number_some ((b ∷ d) ++ t) 0 b refl n low.1) (some_first b d n h)

read_later : (i : ℕ) {d : List ℕ} {n : Option (ℕ × ℕ)} → EndRead 0 d n → EndRead i d (later_some i n)
read_later i missing = missing
read_later i (whole {b} {d} h) =
    let z : i + (0 + length (b ∷ d)) ≡ i + length (b ∷ d) = omega arith in
    rw z (whole {b = b} {d = d} h)
read_later i (part {d} {x} {q} e l) = part {d = d} {x = x} {q = i + q} e (omega arith)

-- Digits that stand at i of s, and nothing of theirs after them.
pub end_read : (s : List ℕ) (i : ℕ) (d t : List ℕ) → i ≤ length s → drop i s ≡ d ++ t → every digit d ≡ true → digit (peek t 0) ≡ false → EndRead i d (number s i)
end_read s i d t l e h z =
    let n = length-take-le i s l in
    let m : i + 0 ≡ i = omega arith in
    let o : number s i ≡ later_some i (number (d ++ t) 0) = rw (take-append-drop i s, n, e, m) at (number_later (take i s) (drop i s) 0) in
    rw o (read_later i (first_read t z d h))

-- So each answer says what the digits say.
module _ {i : ℕ} where
  pub read_missing : {d : List ℕ} → EndRead i d None → None ≡ number_of d
  unfolding number_of is_end_number
  read_missing missing = refl

  pub read_part : {d : List ℕ} {x q : ℕ} → EndRead i d (Some (x, q)) → (q ≡ i + length d → ⊥) → None ≡ number_of d
  unfolding number_of
  read_part (whole h) n = absurd (n refl)
  read_part (part e l) n = rw e

  pub read_number : {d : List ℕ} {x q : ℕ} → EndRead i d (Some (x, q)) → q ≡ i + length d → x ≤ most_end_number → Some x ≡ number_of d
  unfolding number_of is_end_number
  read_number (whole {b} {d} h) e l = rw (h, le-leb (decimal 0 (b ∷ d)) most_end_number l)
  read_number (part f n) e l = absurd (omega arith)

  pub read_large : {d : List ℕ} {x q : ℕ} → EndRead i d (Some (x, q)) → q ≡ i + length d → most_end_number < x → None ≡ number_of d
  unfolding number_of is_end_number
  read_large (whole {b} {d} h) e l = rw (h, lt-leb (decimal 0 (b ∷ d)) most_end_number l)
  read_large (part f n) e l = absurd (omega arith)

-- Where the digits say that there is no number, they are no end number.
number_not : (d : List ℕ) → number_of d ≡ None → is_end_number d ≡ false
unfolding number_of
number_not d e = go (is_end_number d) refl e
  where
    go : (b : Bool) → is_end_number d ≡ b → pick b (λ _. Some (decimal 0 d)) None ≡ None → b ≡ false
    go true i f = let z : ◌≡◌ {A = ℕ} 0 1 = cc in absurd (omega arith)
    go false i f = refl

-- ---- whether they end a name well: how many they are and the first of them tell

-- Up to four digits are not over 9,999.
small : (d : List ℕ) → every digit d ≡ true → length d ≤ 4 → leb (decimal 0 d) most_end_number ≡ true
unfolding decimal
small d h l =
    let m = decimal_more 0 1 d (bytes "0000") (omega arith) h l in
    le-leb (decimal 0 d) most_end_number (omega arith)

-- Of digits alone all are at the end.
all_end : (d : List ℕ) → every digit d ≡ true → end_digits d ≡ d
unfolding end_digits
all_end [] h = refl
all_end (b ∷ d) h = rw h

pub ends_few : (d : List ℕ) → every digit d ≡ true → length d < 2 → true ≡ well_ended d
unfolding well_ended is_end_number
ends_few [] h l = rw (all_end [] h)
ends_few (b ∷ []) h l = rw (all_end (b ∷ []) h, small (b ∷ []) h (omega arith))
ends_few (b ∷ c ∷ d) h l = absurd (omega arith)

pub ends_many : (d : List ℕ) → every digit d ≡ true → 4 < length d → false ≡ well_ended d
unfolding well_ended is_end_number
ends_many [] h l = absurd (omega arith)
ends_many (b ∷ []) h l = absurd (omega arith)
ends_many (b ∷ c ∷ d) h l = rw (all_end (b ∷ c ∷ d) h) (go (dec_lt b (byte "1")))
  where
    go : Dec (b < byte "1") → false ≡ is_end_number (b ∷ c ∷ d)
    go (yes n) = rw (eq-eqb b (byte "0") (omega (arith, (digit_low b (digits_parts b (c ∷ d) h).0).0)))
    go (no n) = sym (large b (c ∷ d) (omega arith) (omega arith))

pub ends_first : (d : List ℕ) → every digit d ≡ true → 2 ≤ length d → length d ≤ 4 → not (eqb (get_or d 0 0) (byte "0")) ≡ well_ended d
unfolding well_ended is_end_number
ends_first [] h l k = absurd (omega arith)
ends_first (b ∷ []) h l k = absurd (omega arith)
ends_first (b ∷ c ∷ d) h l k = rw (all_end (b ∷ c ∷ d) h, small (b ∷ c ∷ d) h k) (sym (and-true (not (eqb b (byte "0")))))

-- A name ends as well as the digits at its end.
pub ends_alike : (w : List ℕ) → well_ended (end_digits w) ≡ well_ended w
unfolding well_ended
ends_alike w = rw (all_end (end_digits w) (end_every w))

-- ---- a name is its first part and its number

-- An end number of more than one digit does not start with 0.
no_zero : (b : ℕ) (d : List ℕ) → every digit (b ∷ d) ≡ true → is_end_number (b ∷ d) ≡ true → 0 < length d → byte "0" < b
unfolding is_end_number
no_zero b [] h e l = absurd (omega arith)
no_zero b (c ∷ d) h e l =
    let n = eqb-false b (byte "0") (not-true (eqb b (byte "0")) ((and-eq-true_iff (not (eqb b (byte "0"))) (leb (decimal 0 (b ∷ c ∷ d)) most_end_number)).0 e).0) in
    let m = digit_low b (digits_parts b (c ∷ d) h).0 in
    omega (arith, m.0)

-- The number of an end number.
number_value_lem : (d : List ℕ) → is_end_number d ≡ true → number_of d ≡ Some (decimal 0 d)
unfolding number_of
number_value_lem d e = rw e

same_digits : (d f : List ℕ) → every digit d ≡ true → every digit f ≡ true → is_end_number d ≡ true → is_end_number f ≡ true → number_of d ≡ number_of f → d ≡ f
unfolding is_end_number
same_digits [] f h k x y e = absurd (false≢true x)
same_digits (b ∷ d) [] h k x y e = absurd (false≢true y)
same_digits (b ∷ d) (c ∷ f) h k x y e =
    let i = sym (number_value_lem (b ∷ d) x) ∙ e ∙ number_value_lem (c ∷ f) y in
    let j : decimal 0 (b ∷ d) ≡ decimal 0 (c ∷ f) = cc in
    digits_one b c d f h k (no_zero b d h x) (no_zero c f k y) j

same_ends : (d f : List ℕ) → every digit d ≡ true → every digit f ≡ true → none d || is_end_number d ≡ true → none f || is_end_number f ≡ true → number_of d ≡ number_of f → d ≡ f
unfolding number_of is_end_number
same_ends [] [] h k x y e = refl
same_ends [] (c ∷ f) h k x y e = absurd (true≢false (sym y ∙ number_not (c ∷ f) (sym e)))
same_ends (b ∷ d) [] h k x y e = absurd (true≢false (sym x ∙ number_not (b ∷ d) e))
same_ends (b ∷ d) (c ∷ f) h k x y e = same_digits (b ∷ d) (c ∷ f) h k x y e

pub same_name : (v w : List ℕ) → stem v ≡ stem w → end_number v ≡ end_number w → well_ended v ≡ true → well_ended w ≡ true → v ≡ w
unfolding well_ended
same_name v w i e h k =
    let d = same_ends (end_digits v) (end_digits w) (end_every v) (end_every w) h k e in
    sym (parts v) ∙ ap₂ (λ (x y : List ℕ). x ++ y) i d ∙ parts w
