-- Digits of a text: the number that they write, and what the reader of numbers makes of them.
-- Assumes nothing. d are digits, and t is what follows them.
use mathlib.Core.Path.{◌≡◌, refl, ap}
use mathlib.Core.Bool.{true, false, and-eq-true_iff}
use mathlib.Core.List.{List, [], ◌∷◌, ◌++◌}
use Prim.Native.Nat.{ℕ, zero, suc, ◌+◌, ◌-◌, ◌*◌, ◌<◌, ◌≤◌}
use native.Mathlib.Omega.{arith}
use native.Mathlib.Decide.{dec_lt}
use lib.ListN.{length}
use Rattle.read_bytes.specs.Bytes.{byte, peek, digit, every}
use Rattle.read_bytes.specs.Numbers.{decimal, digits}
use Rattle.read_bytes.proofs.Tests.{between_is}
use Rattle.read_bytes.proofs.Later.{digits_later}

-- The first of digits, and the others.
pub digits_parts : (b : ℕ) (d : List ℕ) → every digit (b ∷ d) ≡ true → (digit b ≡ true) × (every digit d ≡ true)
unfolding every
digits_parts b d h = (and-eq-true_iff (digit b) (every digit d)).0 h

-- A digit is from 0 to 9.
pub digit_low : (b : ℕ) → digit b ≡ true → (byte "0" ≤ b) × (b - byte "0" ≤ 9)
digit_low b e = let w = between_is (byte "0") (byte "9") b e in (w.0, omega (arith, w.1))

-- As many digits after a larger number write a larger one, and so do more.
pub decimal_more : (v u : ℕ) (d f : List ℕ) → v < u → every digit d ≡ true → length d ≤ length f → decimal v d < decimal u f
unfolding decimal
decimal_more v u [] [] l h n = l
decimal_more v u [] (c ∷ f) l h n = decimal_more v (10 * u + (c - byte "0")) [] f (omega arith) h (omega arith)
decimal_more v u (b ∷ d) [] l h n = absurd (omega arith)
decimal_more v u (b ∷ d) (c ∷ f) l h n =
    let p = digits_parts b d h in
    let m = (digit_low b p.0).1 in
    decimal_more (10 * v + (b - byte "0")) (10 * u + (c - byte "0")) d f (omega arith) p.1 (omega arith)

-- As many digits write one number only if they are the same.
decimal_same : (v u : ℕ) (d f : List ℕ) → every digit d ≡ true → every digit f ≡ true → length d ≡ length f → decimal v d ≡ decimal u f → (v ≡ u) × (d ≡ f)
unfolding decimal
decimal_same v u [] [] h k n e = (e, refl)
decimal_same v u [] (c ∷ f) h k n e = absurd (omega arith)
decimal_same v u (b ∷ d) [] h k n e = absurd (omega arith)
decimal_same v u (b ∷ d) (c ∷ f) h k n e =
    let p = digits_parts b d h in
    let q = digits_parts c f k in
    let r = decimal_same (10 * v + (b - byte "0")) (10 * u + (c - byte "0")) d f p.1 q.1 (omega arith) e in
    let i = digit_low b p.0 in
    let j = digit_low c q.0 in
    let x : v ≡ u = omega (arith, r.0, i.1, j.1) in
    let y : b ≡ c = omega (arith, r.0, i.0, i.1, j.0, j.1) in
    let z = r.1 in
    (x, cc)

-- Fewer digits write less, where the others do not start with 0.
fewer : (b c : ℕ) (d f : List ℕ) → every digit (b ∷ d) ≡ true → length d < length f → byte "0" < c → decimal 0 (b ∷ d) < decimal 0 (c ∷ f)
unfolding decimal
fewer b c d f h l m = decimal_more 0 (10 * 0 + (c - byte "0")) (b ∷ d) f (omega arith) h (omega arith)

-- So do digits that have no leading zero, or are one digit, whatever their lengths.
pub digits_one : (b c : ℕ) (d f : List ℕ) → every digit (b ∷ d) ≡ true → every digit (c ∷ f) ≡ true → (0 < length d → byte "0" < b) → (0 < length f → byte "0" < c)
    → decimal 0 (b ∷ d) ≡ decimal 0 (c ∷ f) → b ∷ d ≡ c ∷ f
digits_one b c d f h k lead lead' e = go (dec_lt (length d) (length f)) (dec_lt (length f) (length d))
  where
    go : Dec (length d < length f) → Dec (length f < length d) → b ∷ d ≡ c ∷ f
    go (yes l) x = absurd (omega (arith, e, fewer b c d f h l (lead' (omega arith))))
    go (no l) (yes m) = absurd (omega (arith, e, fewer c b f d k m (lead (omega arith))))
    go (no l) (no m) = (decimal_same 0 0 (b ∷ d) (c ∷ f) h k (omega arith) e).1

-- All digits are read where there are at most k, and k of them where there are as many.
pub digits_all : (k v : ℕ) (d t : List ℕ) → every digit d ≡ true → digit (peek t 0) ≡ false → length d ≤ k → digits (d ++ t) k 0 v ≡ (decimal v d, length d)
unfolding digits decimal peek
digits_all zero v [] t h z n = refl
digits_all (suc k) v [] t h z n = rw z
digits_all zero v (b ∷ d) t h z n = absurd (omega arith)
digits_all (suc k) v (b ∷ d) t h z n =
    let p = digits_parts b d h in
    let e : 1 + length d ≡ suc (length d) = omega arith in
    rw (p.0, digits_later (b ∷ []) (d ++ t) 0 k (10 * v + (b - byte "0")), digits_all k (10 * v + (b - byte "0")) d t p.1 z (omega arith)) (ap (λ (n : ℕ). (decimal (10 * v + (b - byte "0")) d, n)) e)

pub digits_first : (k v : ℕ) (d t : List ℕ) → every digit d ≡ true → k ≤ length d → (y : ℕ) × (digits (d ++ t) k 0 v ≡ (y, k))
unfolding digits peek
digits_first zero v d t h n = (v, refl)
digits_first (suc k) v [] t h n = absurd (omega arith)
digits_first (suc k) v (b ∷ d) t h n =
    let p = digits_parts b d h in
    let r = digits_first k (10 * v + (b - byte "0")) d t p.1 (omega arith) in
    let e : 1 + k ≡ suc k = omega arith in
    (r.0, rw (p.0, digits_later (b ∷ []) (d ++ t) 0 k (10 * v + (b - byte "0")), r.1) (ap (λ (n : ℕ). (r.0, n)) e))
