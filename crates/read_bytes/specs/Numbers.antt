-- Numbers (01, "The sheet").
-- Assumes nothing.
use Rattle.std.specs.Prelude.{ℕ, zero, suc, ◌+◌, ◌-◌, ◌*◌, List, [], ◌∷◌, eqb, Option, Some, None}
use Rattle.read_bytes.specs.Bytes.{byte, peek, pick, between, digit}

-- The number that digits write after digits of the value v.
unfoldable pub decimal : ℕ → List ℕ → ℕ
decimal v [] = v
decimal v (b ∷ w) = decimal (10 * v + (b - byte "0")) w

-- At most k digits from p on, after digits of the value v: the value of all, and the place after them.
unfoldable pub digits : List ℕ → ℕ → ℕ → ℕ → ℕ × ℕ
digits s zero p v = (v, p)
digits s (suc k) p v = pick (digit (peek s p)) (λ _. digits s k (p + 1) (10 * v + (peek s p - byte "0"))) (v, p)

-- A number from p on, one to five digits and no leading zero (0 itself is `0`): its value, and the place after it. Or no number.
unfoldable pub number : List ℕ → ℕ → Option (ℕ × ℕ)
number s p =
    pick (eqb (peek s p) (byte "0")) (λ _. Some (0, p + 1))
    (pick (between (byte "1") (byte "9") (peek s p)) (λ _. Some (digits s 5 p 0)) None)
