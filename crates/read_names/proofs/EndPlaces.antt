-- The number at the end of a spelling, in the text: where its digits start, and how they are read.
-- Assumes that the spelling starts in the text.
use mathlib.Core.Path.{◌≡◌, refl, sym, ap, ap₂, subst, ◌∙◌}
use mathlib.Core.Bool.{Bool, true, false, true≢false, not}
use mathlib.Core.List.{List, ◌++◌, append_assoc}
use Prim.Native.Nat.{ℕ, suc, ◌+◌, ◌-◌, ◌<◌, ◌≤◌}
use native.Mathlib.Omega.{arith}
use native.Mathlib.Decide.{dec_lt}
use lib.Dec.{eqb}
use lib.ListN.{length, get_or, take, drop, drop_of_length-le, length-append, length-drop, take-append-drop}
use lib.Seq.{length-take-le, take-append_seam, drop-append_seam, drop-drop, get_or-drop, get_or-take}
use Rattle.std.specs.Prelude.{Option, Some, None}
use Rattle.spec_limits.specs.Limits.{most_end_number}
use Rattle.read_bytes.specs.Bytes.{byte, peek, pick, digit, name_byte, every, run_end}
use Rattle.read_bytes.specs.Numbers.{number}
use Rattle.read_names.specs.EndNumbers.{end_digits, stem, number_of, end_number, well_ended}
use Rattle.read_names.specs.Spellings.{spelling_at, spelling_end, stem_end, Spelled, DigitsTo}
use Rattle.read_bytes.proofs.Places.{peek_out}
use Rattle.read_bytes.proofs.Tests.{between_low, between_high}
use Rattle.read_bytes.proofs.Runs.{run_every, every_at, run_slice, end_stops, end_reach, run_byte}
use Rattle.read_names.proofs.Spelling.{name_digit}
use Rattle.read_names.proofs.EndNumbers.{parts, end_every, stem_all, stem_to, digit_before, EndRead, end_read, read_missing, read_part, read_number, read_large, ends_few, ends_many, ends_first, ends_alike}

-- A byte that ends a spelling is no digit.
after_spelling : (s : List ℕ) (p : ℕ) → digit (peek s (spelling_end s p)) ≡ false
after_spelling s p = go (dec_lt (spelling_end s p) (length s)) (digit (peek s (spelling_end s p))) refl
  where
    go : Dec (spelling_end s p < length s) → (b : Bool) → digit (peek s (spelling_end s p)) ≡ b → b ≡ false
    go d false e = refl
    go (yes l) true e = absurd (true≢false (sym (name_digit (peek s (spelling_end s p)) e) ∙ end_stops name_byte s p l))
    go (no l) true e = absurd (true≢false (sym e ∙ ap digit (peek_out s (spelling_end s p) (omega arith))))

-- A byte of a spelling that is no larger than `9` is a digit.
digit_by : (b : ℕ) → name_byte b ≡ true → b ≤ byte "9" → digit b ≡ true
unfolding name_byte
digit_by b e l = rw (between_low (byte "a") (byte "z") b (omega arith)) at e

-- A spelling that starts in the text ends in it.
pub spelled : (s : List ℕ) (p : ℕ) {e : ℕ} → p ≤ length s → e ≡ spelling_end s p → Spelled s p e
spelled s p l h =
    let w = end_reach name_byte s p l in
    record { from = omega (arith, w.ahead); ends = h; inside = omega (arith, w.inside) }

-- The spelling at p ends at e, and the digits at its end start at i.
pub record StemInside (s : List ℕ) (p i e : ℕ) : Type 0 where
  pub from : p ≤ i
  pub to : i ≤ e
  pub inside : e ≤ length s

-- From i up to the end e of the spelling at p there are digits alone.
pub record Back (s : List ℕ) (p e i : ℕ) : Type 0 where
  pub from : p ≤ i
  pub to : i ≤ e
  pub digits : every digit (drop (i - p) (spelling_at s p)) ≡ true

module _ {s : List ℕ} {p e : ℕ} (h : Spelled s p e) where
  long : e ≡ p + length (spelling_at s p)
  unfolding run_end
  long = h.ends

  -- ---- from the last byte back

  pub back_start : Back s p e e
  unfolding every
  back_start =
      let n : length (spelling_at s p) ≤ e - p = omega (arith, long) in
      record { from = h.from; to = omega arith; digits = rw (drop_of_length-le (spelling_at s p) n) }

  module _ {i : ℕ} (b : Back s p e i) where
    pub back_end : i ≤ p → i ≡ stem_end s p
    back_end l =
        let z : i - p ≡ 0 = omega arith in
        let a : every digit (spelling_at s p) ≡ true = rw z at b.digits in
        rw (stem_all (spelling_at s p) a) (omega (arith, b.from))

    module _ (l : p < i) where
      -- the byte before i
      place : (get_or (spelling_at s p) (i - 1 - p) 0 ≡ get_or s (i - 1) 0) × (name_byte (get_or s (i - 1) 0) ≡ true)
      place =
          let n : i - 1 - p < length (spelling_at s p) = omega (arith, long, b.to) in
          let r = run_byte name_byte s p (i - 1 - p) n in
          let m : i - 1 - p + p ≡ i - 1 = omega arith in
          let o : get_or (spelling_at s p) (i - 1 - p) 0 ≡ get_or s (i - 1) 0 = rw m at r.1 in
          (o, rw o at (every_at name_byte (spelling_at s p) (run_every name_byte s p) (i - 1 - p) n))

      pub back_letter : byte "9" < get_or s (i - 1) 0 → i ≡ stem_end s p
      back_letter k =
          let n : i - 1 - p < length (spelling_at s p) = omega (arith, long, b.to) in
          let m : suc (i - 1 - p) ≡ i - p = omega arith in
          let d : digit (get_or (spelling_at s p) (i - 1 - p) 0) ≡ false = rw place.0 (between_high (byte "0") (byte "9") (get_or s (i - 1) 0) k) in
          let a = stem_to (spelling_at s p) (i - 1 - p) n d (rw m b.digits) in
          omega (arith, a)

      pub back_on : get_or s (i - 1) 0 ≤ byte "9" → Back s p e (i - 1)
      back_on k =
          let n : i - 1 - p < length (spelling_at s p) = omega (arith, long, b.to) in
          let m : i - 1 - p + 1 ≡ i - p = omega arith in
          let d : digit (get_or (spelling_at s p) (i - 1 - p) 0) ≡ true = rw place.0 (digit_by (get_or s (i - 1) 0) place.1 k) in
          record { from = omega arith; to = omega (arith, b.to); digits = digit_before (spelling_at s p) (i - 1 - p) n d (rw m b.digits) }

  -- ---- the digits

  two_parts : length (stem (spelling_at s p)) + length (end_digits (spelling_at s p)) ≡ length (spelling_at s p)
  two_parts = sym (length-append (stem (spelling_at s p)) (end_digits (spelling_at s p))) ∙ ap length (parts (spelling_at s p))

  -- The text from the spelling on.
  from_spelling : drop p s ≡ stem (spelling_at s p) ++ (end_digits (spelling_at s p) ++ drop e s)
  from_spelling =
      let w = spelling_at s p in
      let n : p + (e - p) ≡ e = omega (arith, h.from) in
      let a : drop p s ≡ w ++ drop e s = sym (take-append-drop (e - p) (drop p s)) ∙ rw (run_slice name_byte s p e h.ends, drop-drop (e - p) p s, n) in
      a ∙ ap (λ (l : List ℕ). l ++ drop e s) (sym (parts w)) ∙ append_assoc (stem w) (end_digits w) (drop e s)

  -- What stands before the digits, cut out of the text.
  pub stem_slice : {i : ℕ} → i ≡ stem_end s p → take (i - p) (drop p s) ≡ stem (spelling_at s p)
  stem_slice {i} z =
      let w = spelling_at s p in
      let n : i - p ≡ length (stem w) = omega (arith, z) in
      ap₂ (λ (k : ℕ) (l : List ℕ). take k l) n from_spelling ∙ take-append_seam (stem w) (end_digits w ++ drop e s)

  pub stem_inside : {i : ℕ} → i ≡ stem_end s p → StemInside s p i e
  stem_inside z = record { from = omega (arith, z); to = omega (arith, z, long, two_parts); inside = h.inside }

  -- The text from the digits on, and these cut out of it.
  from_digits : {i : ℕ} → i ≡ stem_end s p → drop i s ≡ end_digits (spelling_at s p) ++ drop e s
  from_digits z =
      let w = spelling_at s p in
      ap (λ (k : ℕ). drop k s) z ∙ sym (drop-drop (length (stem w)) p s) ∙ ap (drop (length (stem w))) from_spelling ∙ drop-append_seam (stem w) (end_digits w ++ drop e s)

  pub digits_slice : {i : ℕ} → i ≡ stem_end s p → take (e - i) (drop i s) ≡ end_digits (spelling_at s p)
  digits_slice {i} z =
      let n : e - i ≡ length (end_digits (spelling_at s p)) = omega (arith, z, long, two_parts) in
      ap₂ (λ (k : ℕ) (l : List ℕ). take k l) n (from_digits z) ∙ take-append_seam (end_digits (spelling_at s p)) (drop e s)

  pub digits_to : {i : ℕ} → i ≡ stem_end s p → DigitsTo s i e
  digits_to z = record {
    from = (stem_inside z).to;
    inside = h.inside;
    digits = rw (digits_slice z) (end_every (spelling_at s p));
    stops = ap (λ (q : ℕ). digit (peek s q)) h.ends ∙ after_spelling s p;
  }

  -- A name up to e, if it ends well.
  abbrev Ended : Option (ℕ × Option ℕ) → Type 0
  Ended r = r ≡ pick (well_ended (spelling_at s p)) (λ _. Some (e, end_number (spelling_at s p))) None

  module _ {i : ℕ} (z : i ≡ stem_end s p) where
    ends_here : well_ended (take (e - i) (drop i s)) ≡ well_ended (spelling_at s p)
    ends_here = ap well_ended (digits_slice z) ∙ ends_alike (spelling_at s p)

    pub name_well : {n : Option ℕ} → n ≡ number_of (take (e - i) (drop i s)) → well_ended (take (e - i) (drop i s)) ≡ true → Ended (Some (e, n))
    name_well read_is a = rw (sym ends_here ∙ a) (ap (λ (n : Option ℕ). Some (e, n)) (read_is ∙ ap number_of (digits_slice z)))

    pub name_wrong : well_ended (take (e - i) (drop i s)) ≡ false → Ended None
    name_wrong a = rw (sym ends_here ∙ a)

-- ---- what they say

module _ {s : List ℕ} {i e : ℕ} (h : DigitsTo s i e) where
  pub digits_inside : i ≤ length s
  digits_inside = omega (arith, h.from, h.inside)

  many : i + length (take (e - i) (drop i s)) ≡ e
  many = omega (arith, length-take-le (e - i) (drop i s) (omega (arith, length-drop i s, h.inside)), h.from)

  read_here : EndRead i (take (e - i) (drop i s)) (number s i)
  unfolding peek
  read_here =
      let n : i + (e - i) ≡ e = omega (arith, h.from) in
      let o : e + 0 ≡ e = omega arith in
      let parts_are : drop i s ≡ take (e - i) (drop i s) ++ drop e s = sym (take-append-drop (e - i) (drop i s)) ∙ ap (λ (l : List ℕ). take (e - i) (drop i s) ++ l) (drop-drop (e - i) i s ∙ ap (λ (k : ℕ). drop k s) n) in
      end_read s i (take (e - i) (drop i s)) (drop e s) digits_inside parts_are h.digits (rw (get_or-drop e s 0 (byte "\n"), o) h.stops)

  pub end_missing : number s i ≡ None → None ≡ number_of (take (e - i) (drop i s))
  end_missing a = read_missing (subst (EndRead i (take (e - i) (drop i s))) a read_here)

  module _ {x q : ℕ} (a : number s i ≡ Some (x, q)) where
    read_value : EndRead i (take (e - i) (drop i s)) (Some (x, q))
    read_value = subst (EndRead i (take (e - i) (drop i s))) a read_here

    pub end_part : (q ≡ e → ⊥) → None ≡ number_of (take (e - i) (drop i s))
    end_part n = read_part read_value (λ z. n (z ∙ many))

    pub end_is : q ≡ e → x ≤ most_end_number → Some x ≡ number_of (take (e - i) (drop i s))
    end_is z = read_number read_value (z ∙ sym many)

    pub end_large : q ≡ e → most_end_number < x → None ≡ number_of (take (e - i) (drop i s))
    end_large z = read_large read_value (z ∙ sym many)

  -- ---- whether they end a name well

  pub well_few : e - i < 2 → true ≡ well_ended (take (e - i) (drop i s))
  well_few l = ends_few (take (e - i) (drop i s)) h.digits (omega (arith, many))

  pub well_many : 4 < e - i → false ≡ well_ended (take (e - i) (drop i s))
  well_many l = ends_many (take (e - i) (drop i s)) h.digits (omega (arith, many))

  pub well_first : 2 ≤ e - i → e - i ≤ 4 → not (eqb (get_or s i 0) (byte "0")) ≡ well_ended (take (e - i) (drop i s))
  well_first l k =
      let n : i + 0 ≡ i = omega arith in
      let first : get_or (take (e - i) (drop i s)) 0 0 ≡ get_or s i 0 = get_or-take (e - i) (drop i s) 0 0 (omega arith) ∙ get_or-drop i s 0 0 ∙ ap (λ (q : ℕ). get_or s q 0) n in
      ap (λ (b : ℕ). not (eqb b (byte "0"))) (sym first) ∙ ends_first (take (e - i) (drop i s)) h.digits (omega (arith, many)) (omega (arith, many))
