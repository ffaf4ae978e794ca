-- What stands before a text changes only the places: in u ++ t, from the place length u + i on, is read what t has from i on, and every place that
-- is given is length u later. Here bytes and numbers.
-- Assumes nothing.
use mathlib.Core.Path.{◌≡◌, refl, ap}
use mathlib.Core.Bool.{Bool, true, false}
use mathlib.Core.List.{List, [], ◌∷◌, ◌++◌}
use Prim.Native.Nat.{ℕ, zero, suc, ◌+◌, ◌-◌, ◌*◌}
use native.Mathlib.Omega.{arith}
use borrow.Author.Tests.{eqb-true, eqb-false, eq-eqb, ne_eqb}
use lib.Dec.{eqb}
use lib.ListN.{length}
use lib.Seq.{drop-append-add, get_or-append-add}
use Rattle.std.specs.Prelude.{Option, Some, None}
use Rattle.read_bytes.specs.Read.{Read}
use Rattle.read_bytes.specs.Read.Read.{got, refused}
use Rattle.read_bytes.specs.Bytes.{byte, peek, pick, between, digit, starts, run, run_at, run_end}
use Rattle.read_bytes.specs.Numbers.{digits, number}

-- An answer whose place is d later, and whose value is f of what it was.
abbrev pub moved : {A B : Type 0} → (A → B) → ℕ → Read A → Read B
moved f d (got a q) = got (f a) (d + q)
moved f d (refused n p) = refused n (d + p)

-- An answer whose place is d later.
abbrev pub later : {A : Type 0} → ℕ → Read A → Read A
later d = moved (λ a. a) d

-- A value and the place after it, which is d later.
abbrev pub later_pair : {A : Type 0} → ℕ → A × ℕ → A × ℕ
later_pair d (v, q) = (v, d + q)

-- The same where there may be none.
abbrev pub later_some : {A : Type 0} → ℕ → Option (A × ℕ) → Option (A × ℕ)
later_some d (Some x) = Some (later_pair d x)
later_some d None = None

-- What is made of one of two is one of what is made of them.
pub pick_map : {A B : Type 0} (f : A → B) (b : Bool) (x y : A) → pick b (λ _. f x) (f y) ≡ f (pick b (λ _. x) y)
pick_map f true x y = refl
pick_map f false x y = refl

-- Two places are one, later by as much.
pub eqb_later : (d a b : ℕ) → eqb (d + a) (d + b) ≡ eqb a b
eqb_later d a b = go (eqb a b) refl
  where
    go : (c : Bool) → eqb a b ≡ c → eqb (d + a) (d + b) ≡ c
    go true e = eq-eqb (d + a) (d + b) (omega (arith, eqb-true a b e))
    go false e = ne_eqb (d + a) (d + b) (λ i. eqb-false a b e (omega arith))

module _ (u t : List ℕ) where
  -- bytes
  pub peek_later : (i : ℕ) → peek (u ++ t) (length u + i) ≡ peek t i
  unfolding peek
  peek_later i = get_or-append-add u t i (byte "\n")

  -- the bytes of a key
  pub starts_later : (i : ℕ) (w : List ℕ) → starts (u ++ t) (length u + i) w ≡ starts t i w
  unfolding starts
  starts_later i [] = refl
  starts_later i (x ∷ w) =
      let n : length u + i + 1 ≡ length u + (i + 1) = omega arith in
      rw (n, peek_later i, starts_later (i + 1) w)

  -- runs
  pub run_at_later : (i : ℕ) (P : ℕ → Bool) → run_at P (u ++ t) (length u + i) ≡ run_at P t i
  unfolding run_at
  run_at_later i P = ap (run P) (drop-append-add u t i)

  pub run_end_later : (i : ℕ) (P : ℕ → Bool) → run_end P (u ++ t) (length u + i) ≡ length u + run_end P t i
  unfolding run_end
  run_end_later i P = rw (run_at_later i P) (omega arith)

  -- numbers
  pub digits_later : (i k v : ℕ) → digits (u ++ t) k (length u + i) v ≡ later_pair (length u) (digits t k i v)
  unfolding digits
  digits_later i zero v = refl
  digits_later i (suc k) v =
      let n : length u + i + 1 ≡ length u + (i + 1) = omega arith in
      rw (n, peek_later i, digits_later (i + 1) k (10 * v + (peek t i - byte "0")))
      (pick_map (later_pair (length u)) (digit (peek t i)) (digits t k (i + 1) (10 * v + (peek t i - byte "0"))) (v, i))

  pub number_later : (i : ℕ) → number (u ++ t) (length u + i) ≡ later_some (length u) (number t i)
  unfolding number
  number_later i =
      let n : length u + i + 1 ≡ length u + (i + 1) = omega arith in
      rw (n, peek_later i, digits_later i 5 0)
      (go (eqb (peek t i) (byte "0")) (between (byte "1") (byte "9") (peek t i)))
    where
      go : (b c : Bool) → pick b (λ _. Some (0, length u + (i + 1))) (pick c (λ _. Some (later_pair (length u) (digits t 5 i 0))) None) ≡ later_some (length u) (pick b (λ _. Some (0, i + 1)) (pick c (λ _. Some (digits t 5 i 0)) None))
      go true c = refl
      go false true = refl
      go false false = refl
