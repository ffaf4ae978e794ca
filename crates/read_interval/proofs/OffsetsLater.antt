-- What stands before a text changes only the places of its intervals: in u ++ t, from the place length u + i on, stands the interval that t has from
-- i on, and the place after it, or of its refusal, is length u later.
-- Assumes nothing.
use mathlib.Core.Path.{◌≡◌, refl}
use mathlib.Core.Bool.{Bool, true, false, ◌&&◌}
use mathlib.Core.List.{List, ◌++◌}
use Prim.Native.Nat.{ℕ, ◌+◌, ◌-◌}
use native.Mathlib.Nat.{add_assoc}
use lib.Dec.{eqb, leb}
use lib.ListN.{length}
use Rattle.std.specs.Prelude.{Option, Some, None, Ok, Err}
use Rattle.spec_refusals.specs.declared.Fault.TheVariants.{Formula, Interval}
use Rattle.read_bytes.specs.Bytes.{byte, bytes, peek, pick, one_of}
use Rattle.read_bytes.specs.Numbers.{digits}
use Rattle.read_bytes.proofs.Later.{later_pair, later_some, pick_map, peek_later, digits_later}
use Rattle.read_interval.specs.Interval.{Offsets, refusing, signed, leading, end_at, left_out, near, offsets_of, end_then, end_after_lem, close_at, comma_at, interval, end_zero, over_offset}

-- An interval's offsets, or its refusal, with a place that is d later.
abbrev pub later_offsets : ℕ → Offsets → Offsets
later_offsets d (Ok (first, more, q)) = Ok (first, more, d + q)
later_offsets d (Err r) = refusing r.fault (d + r.place)

signed_later : (d : ℕ) (plus : Bool) (n : ℕ × ℕ) → signed plus (later_pair d n) ≡ later_pair d (signed plus n)
unfolding signed
signed_later d plus (v, q) = refl

offsets_later : (d p o v w c x : ℕ) → offsets_of (d + p) o v w c (d + x) ≡ later_offsets d (offsets_of p o v w c x)
unfolding offsets_of
offsets_later d p o v w c x =
    let lo = v + left_out o (byte "(") in
    let hi = w - left_out c (byte ")") in
    pick_map (later_offsets d) (near v && near w && leb lo hi) (Ok (lo - over_offset, hi - lo, x)) (refusing Interval p)

module _ (u t : List ℕ) where
  -- an end
  end_later : (i : ℕ) → end_at (u ++ t) (length u + i) ≡ later_some (length u) (end_at t i)
  unfolding end_at
  end_later i =
      rw (add_assoc (length u) i 1, peek_later u t i, peek_later u t (i + 1), digits_later u t i 4 0, digits_later u t (i + 1) 4 0, signed_later (length u) true (digits t 4 i 0), signed_later (length u) false (digits t 4 (i + 1) 0))
      (go (eqb (peek t i) (byte "0")) (leading (peek t i)) (eqb (peek t i) (byte "-") && leading (peek t (i + 1))))
    where
      go : (a b c : Bool)
          → pick a (λ _. Some (end_zero, length u + (i + 1))) (pick b (λ _. Some (later_pair (length u) (signed true (digits t 4 i 0)))) (pick c (λ _. Some (later_pair (length u) (signed false (digits t 4 (i + 1) 0)))) None))
          ≡ later_some (length u) (pick a (λ _. Some (end_zero, i + 1)) (pick b (λ _. Some (signed true (digits t 4 i 0))) (pick c (λ _. Some (signed false (digits t 4 (i + 1) 0))) None)))
      go true b c = refl
      go false true c = refl
      go false false true = refl
      go false false false = refl

  -- a sign and an end, and what follows
  after_later : (fits : Bool) (i : ℕ) (K K' : ℕ → ℕ → Offsets) → ((v q : ℕ) → K v (length u + q) ≡ later_offsets (length u) (K' v q))
      → end_after_lem fits (u ++ t) (length u + i) K ≡ later_offsets (length u) (end_after_lem fits t i K')
  unfolding end_after_lem
  after_later true i K K' h = rw (add_assoc (length u) i 1, end_later (i + 1)) (go (end_at t (i + 1)))
    where
      go : (n : Option (ℕ × ℕ)) → end_then (later_some (length u) n) (length u + (i + 1)) K ≡ later_offsets (length u) (end_then n (i + 1) K')
      go (Some (v, q)) = h v q
      go None = refl
  after_later false i K K' h = refl

  -- the closing bracket
  close_later : (p o v w x : ℕ) → close_at (u ++ t) (length u + p) o v w (length u + x) ≡ later_offsets (length u) (close_at t p o v w x)
  unfolding close_at
  close_later p o v w x =
      rw (add_assoc (length u) x 1, peek_later u t x, offsets_later (length u) p o v w (peek t x) (x + 1))
      (pick_map (later_offsets (length u)) (one_of (peek t x) (bytes "])")) (offsets_of p o v w (peek t x) (x + 1)) (refusing Formula x))

  -- the comma
  comma_later : (p o v q : ℕ) → comma_at (u ++ t) (length u + p) o v (length u + q) ≡ later_offsets (length u) (comma_at t p o v q)
  unfolding comma_at
  comma_later p o v q =
      rw (peek_later u t q)
      (after_later (eqb (peek t q) (byte ",")) q (close_at (u ++ t) (length u + p) o v) (close_at t p o v) (λ w x. close_later p o v w x))

  -- the whole interval
  pub interval_later : (i : ℕ) → interval (u ++ t) (length u + i) ≡ later_offsets (length u) (interval t i)
  unfolding interval
  interval_later i =
      rw (peek_later u t i)
      (after_later (one_of (peek t i) (bytes "[(")) i (comma_at (u ++ t) (length u + i) (peek t i)) (comma_at t i (peek t i)) (λ v q. comma_later i (peek t i) v q))
