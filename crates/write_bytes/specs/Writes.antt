-- What a writer answers, and what it leaves in a lent buffer; the digits of a number.
-- Assumes nothing. m is the buffer before, m' after, b the first place to be written.
-- The answer is the same whatever the room is, so a writer that is lent a buffer of no room measures its text.
use Rattle.std.specs.Prelude.{◌≡◌, List, [], ◌∷◌, ◌++◌, ℕ, zero, suc, ◌+◌, ◌/◌, ◌%◌, ◌^◌, ◌<◌, ltb, length}
use Rattle.std.proofs.lemmas.List.Edits.{sets}
use Rattle.read_bytes.specs.Bytes.{byte, pick}

-- The place after ws is answered, and the entries of ws for which there is room stand from b on: `sets` changes nothing past the buffer's end.
pub record Wrote (ws : List ℕ) (b : ℕ) (m m' : List ℕ) (u : ℕ) : Type 0 where
  pub next : u ≡ b + length ws
  pub holds : m' ≡ sets m b ws

-- The places of ws from b on, and the place after it, can be counted in 64 bits.
pub record Counted (b : ℕ) (ws : List ℕ) : Type 0 where
  pub below : b + length ws < 2 ^ 64

-- The last k decimal digits of n: where it has fewer, just those, so no leading zero (0 itself is `0`).
unfoldable pub last_digits : ℕ → ℕ → List ℕ
last_digits zero n = []
last_digits (suc k) n = pick (ltb n 10) (λ _. (byte "0" + n) ∷ []) (last_digits k (n / 10) ++ ((byte "0" + n % 10) ∷ []))

-- A number in decimal digits; one below 2 ^ 64 has at most twenty.
unfoldable pub decimal_text : ℕ → List ℕ
decimal_text n = last_digits 20 n
