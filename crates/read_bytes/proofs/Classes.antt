-- Classes of bytes: a test over a run of bytes, but for some keys, fixes the class there.
-- Assumes nothing.
use mathlib.Core.Path.{◌≡◌, refl, sym, ap, ◌∙◌}
use mathlib.Core.Bool.{Bool, true, false, true≢false, ◌||◌}
use mathlib.Core.Logic.{◌↔◌}
use mathlib.Core.List.{List}
use Prim.Native.Nat.{ℕ, zero, suc, ◌+◌, ◌<◌, ◌≤◌}
use borrow.Author.Tests.{eqb-true}
use native.Mathlib.Omega.{arith}
use lib.Dec.{eqb}
use Rattle.read_bytes.specs.declared.bytes.Class.{Class}
use Rattle.read_bytes.specs.declared.bytes.Class.TheVariants.{Letter, Digit, Sign, Bracket, Other}
use Rattle.read_bytes.specs.Bytes.{bytes, pick, one_of, letter, digit, class_of}
use Rattle.read_bytes.proofs.Tests.{all_from, all_at}

unfoldable pub tag : Class → ℕ
tag Letter = 0
tag Digit = 1
tag Sign = 2
tag Bracket = 3
tag Other = 4

-- `tag` is one to one, since `untag` undoes it.
untag : ℕ → Class
untag zero = Letter
untag (suc zero) = Digit
untag (suc (suc zero)) = Sign
untag (suc (suc (suc zero))) = Bracket
untag (suc (suc (suc (suc n)))) = Other

untag_tag : (k : Class) → untag (tag k) ≡ k
unfolding tag untag
untag_tag Letter = refl
untag_tag Digit = refl
untag_tag Sign = refl
untag_tag Bracket = refl
untag_tag Other = refl

-- B is a key, or of the class k.
abbrev pub classed : Class → List ℕ → ℕ → Bool
classed k keys b = one_of b keys || eqb (tag (class_of b)) (tag k)

or_right : (x y : Bool) → x || y ≡ true → x ≡ false → y ≡ true
or_right true y e f = absurd (true≢false f)
or_right false y e f = e

pub class_run : (k : Class) (keys : List ℕ) (n a : ℕ) → all_from (classed k keys) n a ≡ true → (b : ℕ) → a ≤ b → b < a + n → one_of b keys ≡ false → k ≡ class_of b
class_run k keys n a h b l u e =
    let t = or_right (one_of b keys) (eqb (tag (class_of b)) (tag k)) (all_at (classed k keys) n a h b l u) e in
    sym (untag_tag k) ∙ sym (ap untag (eqb-true (tag (class_of b)) (tag k) t)) ∙ untag_tag (class_of b)

other_tag : (k : Class) → 0 < tag k → k ≡ Letter → ⊥
unfolding tag
other_tag k h e = omega (arith, ap tag e)

pub class_letter : (b : ℕ) → (class_of b ≡ Letter) ↔ (letter b ≡ true)
unfolding class_of tag
class_letter b = (to (letter b) (digit b) (one_of b (bytes "()[]")) (one_of b (bytes "!&|=<>@?,-")), λ e. rw e)
  where
    to : (l d r g : Bool) → pick l (λ _. Letter) (pick d (λ _. Digit) (pick r (λ _. Bracket) (pick g (λ _. Sign) Other))) ≡ Letter → l ≡ true
    to true d r g h = refl
    to false true r g h = absurd (other_tag Digit (omega arith) h)
    to false false true g h = absurd (other_tag Bracket (omega arith) h)
    to false false false true h = absurd (other_tag Sign (omega arith) h)
    to false false false false h = absurd (other_tag Other (omega arith) h)
