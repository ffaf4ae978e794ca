-- An interval as it is printed: it is one of the grammar, with the offsets that it is printed from, and has at most nine bytes and no `(`.
-- Assumes nothing.
use mathlib.Core.Path.{◌≡◌, refl, ap, subst, ◌∙◌}
use mathlib.Core.List.{List, [], ◌∷◌, ◌++◌, flatten}
use Prim.Native.Nat.{ℕ, ◌+◌, ◌-◌, ◌/◌, ◌%◌, ◌<◌, ◌≤◌}
use native.Mathlib.Decide.{dec_lt, ℕ_discrete}
use native.Mathlib.Omega.{arith}
use borrow.Author.Tests.{lt-ltb, le-ltb, ne_eqb}
use lib.ListN.{length}
use Rattle.spec_limits.specs.Limits.{offset_zero, most_offset}
use Rattle.read_bytes.specs.Bytes.{byte, bytes}
use Rattle.read_bytes.specs.Numbers.{decimal}
use Rattle.read_bytes.proofs.Tests.{between_in, between_is}
use Rattle.read_interval.specs.Interval.{end_zero, over_offset, least_end, greatest_end}
use Rattle.write_bytes.specs.Writes.{decimal_text}
use Rattle.write_bytes.proofs.Decimals.{decimal_one, decimal_more}
use Rattle.spec_grammar.specs.Tokens.{Numeral, End}
use Rattle.spec_grammar.specs.Grammar.{Interval, Legal}
use Rattle.spec_print.specs.RuleTexts.{end_text, last_of, interval_tokens}
use Rattle.spec_print.specs.Parentheses.{opened}
use Rattle.spec_print.proofs.Counts.{long, opens, long_next, opens_next}

-- A number of one or two digits that is not 0.
record Printed (n : ℕ) (w : List ℕ) : Type 0 where
  numeral : Numeral w n
  short : length w ≤ 2
  none_opened : opened w ≡ 0

one_digit : (n : ℕ) → 0 < n → n < 10 → Printed n (decimal_text n)
unfolding decimal opened
one_digit n z h =
    let e : decimal_text n ≡ (byte "0" + n % 10) ∷ [] = decimal_one n h in
    let v : decimal 0 ((byte "0" + n % 10) ∷ []) ≡ n = omega arith in
    rw e
    (record {
      numeral = subst (Numeral ((byte "0" + n % 10) ∷ [])) v (Numeral.numeral (between_in (byte "1") (byte "9") (byte "0" + n % 10) (omega arith) (omega arith)) tt (omega arith));
      short = omega arith;
      none_opened = rw (ne_eqb (byte "0" + n % 10) (byte "(") (λ x. omega arith));
    })

two_digits : (n : ℕ) → 10 ≤ n → n < 100 → Printed n (decimal_text n)
unfolding decimal opened
two_digits n z h =
    let a = byte "0" + n / 10 % 10 in
    let b = byte "0" + n % 10 in
    let e : decimal_text n ≡ a ∷ b ∷ [] = decimal_more n z (omega arith) ∙ ap (λ (d : List ℕ). d ++ (b ∷ [])) (decimal_one (n / 10) (omega arith)) in
    let v : decimal 0 (a ∷ b ∷ []) ≡ n = omega arith in
    rw e
    (record {
      numeral =
          subst (Numeral (a ∷ b ∷ [])) v
          (Numeral.numeral (between_in (byte "1") (byte "9") a (omega arith) (omega arith)) (between_in (byte "0") (byte "9") b (omega arith) (omega arith), tt) (omega arith));
      short = omega arith;
      none_opened = rw (ne_eqb a (byte "(") (λ x. omega arith), ne_eqb b (byte "(") (λ x. omega arith));
    })

number : (n : ℕ) → 0 < n → n < 100 → Printed n (decimal_text n)
number n z h = go (dec_lt n 10)
  where
    go : Dec (n < 10) → Printed n (decimal_text n)
    go (yes l) = one_digit n z l
    go (no l) = two_digits n (omega arith) h

-- An end is the offset's, and has at most three bytes.
record PrintedEnd (x : ℕ) : Type 0 where
  is : End (end_text x) (x + over_offset)
  short : length (end_text x) ≤ 3
  none_opened : opened (end_text x) ≡ 0

end_printed : (x : ℕ) → 1 ≤ x → x ≤ most_offset → PrintedEnd x
unfolding end_text opened
end_printed x l h = go (dec_lt x offset_zero) (ℕ_discrete x offset_zero)
  where
    go : Dec (x < offset_zero) → Dec (x ≡ offset_zero) → PrintedEnd x
    go (yes b) z =
        let n = number (offset_zero - x) (omega arith) (omega arith) in
        let v : end_zero - (offset_zero - x) ≡ x + over_offset = omega arith in
        let t = lt-ltb x offset_zero b in
        record {
          is = rw t (subst (End (byte "-" ∷ decimal_text (offset_zero - x))) v (End.minus n.numeral));
          short = rw t (omega (arith, n.short));
          none_opened = rw t n.none_opened;
        }
    go (no b) (yes z) =
        let t = le-ltb x offset_zero (omega arith) in
        let d : x - offset_zero ≡ 0 = omega arith in
        let e : decimal_text 0 ≡ bytes "0" = decimal_one 0 (omega arith) in
        let v : end_zero ≡ x + over_offset = omega arith in
        record { is = rw (t, d, e) (subst (End (bytes "0")) v End.nought); short = rw (t, d, e) (omega arith); none_opened = rw (t, d, e) }
    go (no b) (no z) =
        let n = number (x - offset_zero) (omega arith) (omega arith) in
        let v : end_zero + (x - offset_zero) ≡ x + over_offset = omega arith in
        let t = le-ltb x offset_zero (omega arith) in
        record {
          is = rw t (subst (End (decimal_text (x - offset_zero))) v (End.plus n.numeral));
          short = rw t (omega (arith, n.short));
          none_opened = rw t n.none_opened;
        }

-- Whatever its number is.
end_is : {x : ℕ} (v : ℕ) → PrintedEnd x → x + over_offset ≡ v → End (end_text x) v
end_is v a e = subst (End (end_text _)) e a.is

-- The interval, and its offsets.
pub record PrintedInterval (first more : ℕ) : Type 0 where
  pub is : Interval (interval_tokens first more) (byte "[") (first + over_offset) (first + more + over_offset) (byte "]")
  pub legal : Legal (byte "[") (first + over_offset) (first + more + over_offset) (byte "]") first more
  pub short : long (interval_tokens first more) ≤ 9
  pub none_opened : opens (interval_tokens first more) ≡ 0

pub interval_printed : (first more : ℕ) → 1 ≤ first → first + more ≤ most_offset → PrintedInterval first more
unfolding interval_tokens opened flatten
interval_printed first more l h =
    let a = end_printed first l (omega arith) in
    let b = end_printed (last_of first more) (omega arith) (omega arith) in
    let x = end_text first in
    let y = end_text (last_of first more) in
    record {
      is = Interval.interval refl (end_is (first + over_offset) a (omega arith)) (end_is (first + more + over_offset) b (omega arith)) refl;
      legal = record {
        near_first = between_in least_end greatest_end (first + over_offset) (omega arith) (omega arith);
        near_last = between_in least_end greatest_end (first + more + over_offset) (omega arith) (omega arith);
        first_is = omega arith;
        last_is = omega arith;
      };
      short = omega (arith, a.short, b.short, long_rest x y);
      none_opened = omega (arith, a.none_opened, b.none_opened, opens_rest x y);
    }
  where
    long_rest : (x y : List ℕ) → long (bytes "[" ∷ x ∷ bytes "," ∷ y ∷ bytes "]" ∷ []) ≡ length x + length y + 3
    long_rest x y =
        omega
        (arith, long_next (bytes "[") (x ∷ bytes "," ∷ y ∷ bytes "]" ∷ []), long_next x (bytes "," ∷ y ∷ bytes "]" ∷ []), long_next (bytes ",") (y ∷ bytes "]" ∷ []), long_next y (bytes "]" ∷ []), long_next (bytes "]") [])

    opens_rest : (x y : List ℕ) → opens (bytes "[" ∷ x ∷ bytes "," ∷ y ∷ bytes "]" ∷ []) ≡ opened x + opened y
    opens_rest x y =
        omega
        (arith, opens_next (bytes "[") (x ∷ bytes "," ∷ y ∷ bytes "]" ∷ []), opens_next x (bytes "," ∷ y ∷ bytes "]" ∷ []), opens_next (bytes ",") (y ∷ bytes "]" ∷ []), opens_next y (bytes "]" ∷ []), opens_next (bytes "]") [])

-- What is known of an interval with legal ends: its offsets, and that it has five bytes at least.
pub legal_near : {o v w c first more : ℕ} → Legal o v w c first more → (1 ≤ first) × (first + more ≤ most_offset)
legal_near {v = v} {w = w} l =
    let a = between_is least_end greatest_end v l.near_first in
    let b = between_is least_end greatest_end w l.near_last in
    (omega (arith, a.0, l.first_is), omega (arith, b.1, l.last_is))

numeral_some : {w : List ℕ} {v : ℕ} → Numeral w v → 1 ≤ length w
numeral_some (Numeral.numeral h d l) = omega arith

end_some : {w : List ℕ} {v : ℕ} → End w v → 1 ≤ length w
end_some End.nought = omega arith
end_some (End.plus n) = numeral_some n
end_some (End.minus n) = omega arith

pub interval_some : {ws : List (List ℕ)} {o v w c : ℕ} → Interval ws o v w c → 5 ≤ long ws
unfolding flatten
interval_some (Interval.interval {o} {c} {x = x} {y = y} ho hx hy hc) =
    omega
    (arith, end_some hx, end_some hy, long_next (o ∷ []) (x ∷ bytes "," ∷ y ∷ (c ∷ []) ∷ []), long_next x (bytes "," ∷ y ∷ (c ∷ []) ∷ []), long_next (bytes ",") (y ∷ (c ∷ []) ∷ []), long_next y ((c ∷ []) ∷ []), long_next (c ∷ []) [])
