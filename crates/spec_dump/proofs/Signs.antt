-- The bytes of signs: what holds of each byte of a list holds of one that is in it.
-- Assumes nothing.
use mathlib.Core.Path.{◌≡◌, refl, sym}
use mathlib.Core.Bool.{Bool, true, false, true≢false}
use mathlib.Core.List.{List, [], ◌∷◌}
use Prim.Native.Nat.{ℕ}
use borrow.Author.Tests.{eqb-true}
use lib.Dec.{eqb}
use Rattle.spec_tilco.specs.Lists.{All}
use Rattle.spec_tilco.specs.Table.{Answer, Unsettled, True, False, Contradiction}
use Rattle.read_bytes.specs.Bytes.{bytes, byte, one_of}
use Rattle.spec_dump.specs.DumpLines.{sign_said}
use Rattle.spec_dump.specs.EventOrder.{Sign}
use Rattle.spec_dump.specs.TableSigns.{answer_sign}

pub of_one : (P : ℕ → Type 0) (b : ℕ) (ws : List ℕ) → All P ws → one_of b ws ≡ true → P b
of_one P b [] all h = absurd (true≢false (sym h))
of_one P b (w ∷ ws) all h = go (eqb b w) refl (of_one P b ws all.1)
  where
    go : (c : Bool) → eqb b w ≡ c → (one_of b ws ≡ true → P b) → P b
    go true e r = rw (eqb-true b w e) all.0
    go false e r = r (rw e at h)

module _ (b : ℕ) (s : Sign b) where
  -- A sign is taken for one, says itself, and starts no time's line.
  pub sign_taken : one_of b (bytes "01xz") ≡ true
  sign_taken = of_one (λ c. one_of c (bytes "01xz") ≡ true) b (bytes "01x") (refl, (refl, (refl, tt))) s

  pub sign_itself : sign_said b ≡ b
  unfolding sign_said
  sign_itself = of_one (λ c. sign_said c ≡ c) b (bytes "01x") (refl, (refl, (refl, tt))) s

  pub sign_no_time : eqb (byte "#") b ≡ false
  sign_no_time = of_one (λ c. eqb (byte "#") c ≡ false) b (bytes "01x") (refl, (refl, (refl, tt))) s

-- What a byte says is a sign.
pub said_sign : (b : ℕ) → one_of b (bytes "01xz") ≡ true → Sign (sign_said b)
unfolding sign_said
said_sign b h = of_one (λ c. Sign (sign_said c)) b (bytes "01xz") (refl, (refl, (refl, (refl, tt)))) h

-- What ask answers is written as one.
pub answer_sign_lem : (a : Answer) → Sign (answer_sign a)
answer_sign_lem Unsettled = refl
answer_sign_lem True = refl
answer_sign_lem False = refl
answer_sign_lem Contradiction = refl
