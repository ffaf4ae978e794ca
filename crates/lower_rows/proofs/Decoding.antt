-- Decoding the row codes that were written gives the rows.
-- Assumes nothing.
use mathlib.Core.Path.{◌≡◌, refl, ap, ◌∙◌}
use mathlib.Core.Bool.{true, false}
use mathlib.Core.List.{List, [], ◌∷◌, ◌++◌, map}
use Prim.Native.Nat.{ℕ, zero, suc, ◌+◌, ◌*◌, ◌/◌, ◌%◌, ◌≤◌, ◌<◌}
use native.Mathlib.Omega.{arith}
use lib.ListN.{length, get_or, take, drop, replicate, length-map, get_or-map}
use lib.Seq.{sets, sets-eq, get_or-drop}
use Rattle.spec_limits.specs.Limits.{code_kinds, code_numbers}
use Rattle.spec_tilco.specs.Inference.{Node, signal, not_of, gate, look}
use Rattle.lower_rows.specs.RowCodes.{packed, row_code, unpacked, row_of, row_at, Blank}

-- A row that its code tells: its first number has at most two bytes.
abbrev pub Decodable : Node → Type 0
Decodable signal = Unit {0}
Decodable (not_of x) = x < code_numbers
Decodable (gate u a b) = a < code_numbers
Decodable (look k c) = c < code_numbers

module _ (kind a b : ℕ) (few : kind < code_kinds) (low : a < code_numbers) where
  first : packed kind a b % code_kinds ≡ kind
  unfolding packed
  first = omega arith

  left : packed kind a b / code_kinds % code_numbers ≡ a
  unfolding packed
  left =
      let x : (kind + code_kinds * (a + code_numbers * b)) / code_kinds ≡ a + code_numbers * b = omega arith in
      rw x (omega arith)

  right : packed kind a b / (code_kinds * code_numbers) ≡ b
  unfolding packed
  right = omega arith

  unpack : row_of (packed kind a b) ≡ unpacked kind a b
  unpack = rw (first, left, right)

-- Decoding a row's code gives the row.
pub decoded : (n : Node) → Decodable n → row_of (row_code n) ≡ n
unfolding row_code packed
decoded signal h = refl
decoded (not_of x) h = unpack 4 x 0 (omega arith) h
decoded (gate true a b) h = unpack 1 a b (omega arith) h
decoded (gate false a b) h = unpack 2 a b (omega arith) h
decoded (look k c) h = unpack 3 c k (omega arith) h

-- The blank part before the rows is their signals' row codes.
before : (b : ℕ) (m : List ℕ) (rows : List Node) → Blank m → b ≤ length m → (r : ℕ)
    → get_or (take b m ++ map row_code rows) r (row_code signal) ≡ get_or (map row_code (replicate b signal ++ rows)) r (row_code signal)
before zero m rows z h r = refl
before (suc b) [] rows z h r = absurd (omega arith)
before (suc b) (x ∷ m) rows z h zero = z 0
before (suc b) (x ∷ m) rows z h (suc r) = before b m rows (λ i. z (suc i)) (omega arith) r

-- The blank part after them says nothing more.
after : (ws m : List ℕ) → Blank m → (r : ℕ) → get_or (ws ++ m) r (row_code signal) ≡ get_or ws r (row_code signal)
after [] m z r = z r
after (w ∷ ws) m z zero = refl
after (w ∷ ws) m z (suc r) = after ws m z r

-- Past the end a buffer says a signal, as a signal's row code does.
past_end : (m : List ℕ) (r : ℕ) → row_of (get_or m r 0) ≡ row_of (get_or m r (row_code signal))
unfolding row_code packed
past_end [] r = refl
past_end (w ∷ m) zero = refl
past_end (w ∷ m) (suc r) = past_end m r

-- Rows written from b on into a blank buffer: it says every row, the b signals' before them too.
pub row_at_lem : (rows : List Node) (m : List ℕ) (b : ℕ) → Blank m → b + length rows ≤ length m → (r : ℕ) → Decodable (get_or (replicate b signal ++ rows) r signal)
    → row_at (sets m b (map row_code rows)) r ≡ get_or (replicate b signal ++ rows) r signal
row_at_lem rows m b z fits r k =
    let e = length-map rows row_code in
    past_end (sets m b (map row_code rows)) r
    ∙ ap row_of
    (ap (λ (l : List ℕ). get_or l r (row_code signal)) (sets-eq (map row_code rows) m b (omega arith))
    ∙ after (take b m ++ map row_code rows) (drop (b + length (map row_code rows)) m) (λ i. get_or-drop (b + length (map row_code rows)) m i (row_code signal) ∙ z (b + length (map row_code rows) + i)) r
    ∙ before b m rows z (omega arith) r
    ∙ get_or-map row_code (replicate b signal ++ rows) r signal)
    ∙ decoded (get_or (replicate b signal ++ rows) r signal) k
