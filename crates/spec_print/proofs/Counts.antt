-- How many bytes and how many `(` the text of tokens has.
-- Assumes nothing.
use mathlib.Core.Path.{◌≡◌, ap, ◌∙◌}
use mathlib.Core.Bool.{Bool, true, false}
use mathlib.Core.List.{List, [], ◌∷◌, ◌++◌, flatten}
use Prim.Native.Nat.{ℕ, suc, ◌+◌, ◌*◌, ◌<◌}
use native.Mathlib.Omega.{arith}
use lib.Dec.{eqb}
use lib.ListN.{length, length-append}
use Rattle.read_bytes.specs.Bytes.{byte, bytes, pick}
use Rattle.spec_print.specs.RuleTexts.{enclosed}
use Rattle.spec_print.specs.Parentheses.{opened, LeavesPairOut}
use Rattle.spec_print.specs.Parentheses.LeavesPairOut.{without}
use Rattle.spec_print.proofs.TokenTexts.{text_append}

pub opened_append : (v w : List ℕ) → opened (v ++ w) ≡ opened v + opened w
unfolding opened
opened_append [] w = omega arith
opened_append (b ∷ v) w = go (eqb b (byte "(")) (opened_append v w)
  where
    go : (t : Bool) → opened (v ++ w) ≡ opened v + opened w → pick t (λ _. suc (opened (v ++ w))) (opened (v ++ w)) ≡ pick t (λ _. suc (opened v)) (opened v) + opened w
    go true e = omega arith
    go false e = e

-- A text with a pair left out has one `(` less.
pub opened_less : {w v : List ℕ} → LeavesPairOut w v → opened v < opened w
unfolding opened
opened_less (without a b c) =
    omega
    (arith, opened_append a (byte "(" ∷ (b ++ (byte ")" ∷ c))), opened_append b (byte ")" ∷ c), opened_append a (b ++ c), opened_append b c)

-- How many bytes and how many `(` the text of tokens has.
abbrev pub long : List (List ℕ) → ℕ
long ws = length (flatten ws)

abbrev pub opens : List (List ℕ) → ℕ
opens ws = opened (flatten ws)

pub long_next : (w : List ℕ) (ws : List (List ℕ)) → long (w ∷ ws) ≡ length w + long ws
unfolding flatten
long_next w ws = length-append w (flatten ws)

pub opens_next : (w : List ℕ) (ws : List (List ℕ)) → opens (w ∷ ws) ≡ opened w + opens ws
unfolding flatten
opens_next w ws = opened_append w (flatten ws)

pub long_append : (us ws : List (List ℕ)) → long (us ++ ws) ≡ long us + long ws
long_append us ws = ap length (text_append us ws) ∙ length-append (flatten us) (flatten ws)

pub opens_append : (us ws : List (List ℕ)) → opens (us ++ ws) ≡ opens us + opens ws
opens_append us ws = ap opened (text_append us ws) ∙ opened_append (flatten us) (flatten ws)

-- 1 for yes and 0 for no.
abbrev pub one : Bool → ℕ
one b = pick b (λ _. 1) 0

-- Parentheses are a `(` more, and two bytes.
pub enclosed_opens : (b : Bool) (ws : List (List ℕ)) → opens (enclosed b ws) ≡ opens ws + one b
unfolding opened flatten
enclosed_opens true ws = omega (arith, opens_append ws (bytes ")" ∷ []))
enclosed_opens false ws = omega arith

pub enclosed_long : (b : Bool) (ws : List (List ℕ)) → long (enclosed b ws) ≡ long ws + 2 * one b
unfolding flatten
enclosed_long true ws = omega (arith, long_append ws (bytes ")" ∷ []))
enclosed_long false ws = omega arith
