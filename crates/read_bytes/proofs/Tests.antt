-- Tests on numbers: a range, and a test over a run of numbers, computed once and used at each of them.
-- Assumes nothing.
use mathlib.Core.Path.{◌≡◌, subst}
use mathlib.Core.Bool.{Bool, true, false, ◌&&◌, and-eq-true_iff, and-false}
use Prim.Native.Nat.{ℕ, zero, suc, ◌+◌, ◌<◌, ◌≤◌}
use native.Mathlib.Omega.{arith}
use native.Mathlib.Decide.{dec_lt}
use borrow.Author.Tests.{le-leb, lt-leb, leb-true}
use lib.Dec.{leb}
use Rattle.read_bytes.specs.Bytes.{between}

pub between_in : (lo hi b : ℕ) → lo ≤ b → b ≤ hi → between lo hi b ≡ true
between_in lo hi b h k = rw (le-leb lo b h, le-leb b hi k)

pub between_low : (lo hi b : ℕ) → b < lo → between lo hi b ≡ false
between_low lo hi b h = rw (lt-leb lo b h)

pub between_high : (lo hi b : ℕ) → hi < b → between lo hi b ≡ false
between_high lo hi b h = rw (lt-leb b hi h) (and-false (leb lo b))

pub between_is : (lo hi b : ℕ) → between lo hi b ≡ true → (lo ≤ b) × (b ≤ hi)
between_is lo hi b e =
    let w = (and-eq-true_iff (leb lo b) (leb b hi)).0 e in
    (leb-true lo b w.0, leb-true b hi w.1)

-- The test holds of n numbers from a on.
unfoldable pub all_from : (ℕ → Bool) → ℕ → ℕ → Bool
all_from P zero a = true
all_from P (suc n) a = P a && all_from P n (suc a)

pub all_at : (P : ℕ → Bool) (n a : ℕ) → all_from P n a ≡ true → (b : ℕ) → a ≤ b → b < a + n → P b ≡ true
unfolding all_from
all_at P zero a h b l u = let w : ⊥ = omega arith in absurd w
all_at P (suc n) a h b l u =
    let w = (and-eq-true_iff (P a) (all_from P n (suc a))).0 h in
    go (dec_lt a b) w.0 (λ m v. all_at P n (suc a) w.1 b m v)
  where
    go : Dec (a < b) → P a ≡ true → (suc a ≤ b → b < suc a + n → P b ≡ true) → P b ≡ true
    go (yes m) e k = k m (omega arith)
    go (no m) e k = let i : a ≡ b = omega arith in subst (λ (x : ℕ). P x ≡ true) i e
