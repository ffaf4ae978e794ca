-- The interval of a timed part (01, "The sheet": `[` or `(`, end, `,`, end, `]` or `)`; a round bracket leaves its end out).
-- Assumes nothing. An end is kept with 10,000 added (`end_zero`), so that it is never negative.
use Rattle.std.specs.Prelude.{Bool, true, false, ◌&&◌, List, ℕ, ◌+◌, ◌-◌, leb, eqb, Option, Some, None, Result, Ok, Err}
use Rattle.spec_limits.specs.Limits.{most_end, offset_zero}
use Rattle.spec_refusals.specs.Numbers.{Refusal}
use Rattle.spec_refusals.specs.declared.Fault.{Fault}
use Rattle.spec_refusals.specs.declared.Fault.TheVariants.{Formula, Interval}
use Rattle.read_bytes.specs.Bytes.{byte, bytes, peek, pick, between, one_of}
use Rattle.read_bytes.specs.Numbers.{digits}

-- The end 0 as it is kept: an end has at most four digits.
abbrev pub end_zero : ℕ
end_zero = 10000

-- The least and the greatest end as they are kept: -63 and 63.
abbrev pub least_end : ℕ
least_end = end_zero - most_end

abbrev pub greatest_end : ℕ
greatest_end = end_zero + most_end

-- What an end has added, more than an offset.
abbrev pub over_offset : ℕ
over_offset = end_zero - offset_zero

-- The offsets of an interval, its first whole number with 64 added and how many more follow, and the place after it; or a refusal.
abbrev pub Offsets : Type 0
Offsets = Result (ℕ × ℕ × ℕ) Refusal

-- A refusal at p.
abbrev pub refusing : Fault → ℕ → Offsets
refusing f p = Err (record { fault = f; place = p })

-- The end of the digits, or its opposite.
unfoldable pub signed : Bool → ℕ × ℕ → ℕ × ℕ
signed plus (v, q) = (pick plus (λ _. end_zero + v) (end_zero - v), q)

-- Is b a digit other than 0?
abbrev pub leading : ℕ → Bool
leading b = between (byte "1") (byte "9") b

-- An end at p: `0`, or an optional `-` and one to four digits, the first not 0; and the place after it.
unfoldable pub end_at : List ℕ → ℕ → Option (ℕ × ℕ)
end_at s p =
    pick (eqb (peek s p) (byte "0")) (λ _. Some (end_zero, p + 1))
    (pick (leading (peek s p)) (λ _. Some (signed true (digits s 4 p 0)))
    (pick (eqb (peek s p) (byte "-") && leading (peek s (p + 1))) (λ _. Some (signed false (digits s 4 (p + 1) 0))) None))

-- 1 where the bracket b is the round one, which leaves its end out.
abbrev pub left_out : ℕ → ℕ → ℕ
left_out b round = pick (eqb b round) (λ _. 1) 0

-- Is an end from -63 to 63?
abbrev pub near : ℕ → Bool
near v = between least_end greatest_end v

-- The offsets of the whole interval from the bracket o at p to the bracket c, with the ends v and w; x is the place after it.
-- 7 at the opening bracket for an end outside -63 to 63 or no whole number inside.
unfoldable pub offsets_of : ℕ → ℕ → ℕ → ℕ → ℕ → ℕ → Offsets
offsets_of p o v w c x =
    let lo = v + left_out o (byte "(") in
    let hi = w - left_out c (byte ")") in
    pick (near v && near w && leb lo hi) (λ _. Ok (lo - over_offset, hi - lo, x)) (refusing Interval p)

-- Go on after an end, or 5 at p where there is none.
abbrev pub end_then : Option (ℕ × ℕ) → ℕ → (ℕ → ℕ → Offsets) → Offsets
end_then (Some (v, q)) p k = k v q
end_then None p k = refusing Formula p

-- A sign at p, an end after it, and k on what follows; 5 at p where the sign does not fit.
unfoldable pub end_after_lem : Bool → List ℕ → ℕ → (ℕ → ℕ → Offsets) → Offsets
end_after_lem fits s p k = pick fits (λ _. end_then (end_at s (p + 1)) (p + 1) k) (refusing Formula p)

-- The closing bracket at x, after the second end w.
unfoldable pub close_at : List ℕ → ℕ → ℕ → ℕ → ℕ → ℕ → Offsets
close_at s p o v w x = pick (one_of (peek s x) (bytes "])")) (λ _. offsets_of p o v w (peek s x) (x + 1)) (refusing Formula x)

-- The comma at q, after the first end v, and what follows it.
unfoldable pub comma_at : List ℕ → ℕ → ℕ → ℕ → ℕ → Offsets
comma_at s p o v q = end_after_lem (eqb (peek s q) (byte ",")) s q (close_at s p o v)

-- The interval at p.
unfoldable pub interval : List ℕ → ℕ → Offsets
interval s p = end_after_lem (one_of (peek s p) (bytes "[(")) s p (comma_at s p (peek s p))
