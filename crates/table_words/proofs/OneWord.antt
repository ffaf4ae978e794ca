-- The ticks of words: of two together, of one moved up or down, of one as it stands, and those of the window.
-- Assumes nothing; a word is one below 2 ^ 64.
use mathlib.Core.Path.{◌≡◌, refl, sym, ap, ◌∙◌, subst}
use mathlib.Core.Bool.{Bool}
use mathlib.Core.List.{List}
use mathlib.Core.Logic.{◌⊎◌, inl, inr, ⊎_elim, ◌↔◌}
use Prim.Native.Nat.{ℕ, ◌+◌, ◌-◌, ◌*◌, ◌/◌, ◌%◌, ◌^◌, ◌≤◌, ◌<◌}
use native.Mathlib.Omega.{arith}
use lib.Bits.{bit_and, bit_or}
use lib.ListN.{get_or}
use lib.Pow.{ones_lt, ones_split, high}
use Rattle.spec_ticks.specs.Ticks.{bit, Has, block}
use Rattle.spec_ticks.proofs.Bits.{lt_or_ge, bit_shr, bit_low, bit_mask, has_below, and_in, and_out, or_left, or_right, or_out}
use Rattle.spec_ticks.proofs.Shifts.{bit_up, bit_under}
use Rattle.spec_ticks.proofs.Tables.{in_to, in_from}
use Rattle.spec_tilco.specs.Inference.{mark}
use Rattle.spec_tilco.specs.Table.{Stands}
use Rattle.table_words.specs.WordTicks.{Ticks, Both, Apart}

-- A word moved up by k, as the code does it: the bits that leave it are dropped.
abbrev up : ℕ → ℕ → ℕ
up w k = (w * 2 ^ k) % 2 ^ 64

up_out : (w k b : ℕ) → b < 64 → Has (up w k) b → (k ≤ b) × Has w (b - k)
up_out w k b h e =
    let f : Has (w * 2 ^ k) b = sym (bit_low (w * 2 ^ k) 64 b h) ∙ e in
    let l : k ≤ b = ⊎_elim (λ q. absurd (omega (arith, bit_under w k b q))) (λ q. q) (lt_or_ge b k) in
    let v : b ≡ k + (b - k) = omega arith in
    (l, sym (bit_up w k (b - k)) ∙ ap (bit (w * 2 ^ k)) (sym v) ∙ f)

up_in : (w k b : ℕ) → b < 64 → k ≤ b → Has w (b - k) → Has (up w k) b
up_in w k b h l e =
    let v : b ≡ k + (b - k) = omega arith in
    bit_low (w * 2 ^ k) 64 b h ∙ ap (bit (w * 2 ^ k)) v ∙ bit_up w k (b - k) ∙ e

-- Ticks of one word that are in two words are those of both.
pub both_ticks : (q v w : ℕ) (U R : ℕ → Type 0) → Ticks q v U → Ticks q w R → Ticks q (bit_and v w) (λ t. U t × R t)
both_ticks q v w U R f g b h = (
  λ e. let x = and_out v w b e in ((f b h).0 x.0, (g b h).0 x.1),
  λ e. and_in v w b ((f b h).1 e.0) ((g b h).1 e.1),
)

-- Ticks that are in one of two words.
pub either_ticks : (q v w : ℕ) (U R : ℕ → Type 0) → Ticks q v U → Ticks q w R → Ticks q (bit_or v w) (λ t. U t ⊎ R t)
either_ticks q v w U R f g b h = (
  λ e. ⊎_elim (λ x. inl ((f b h).0 x)) (λ x. inr ((g b h).0 x)) (or_out v w b e),
  ⊎_elim (λ x. or_left v w b ((f b h).1 x)) (λ x. or_right v w b ((g b h).1 x)),
)

-- The ticks of a word, said otherwise.
pub ticks_as : (q v : ℕ) (U R : ℕ → Type 0) → ((t : ℕ) → t / 64 ≡ q → U t ↔ R t) → Ticks q v U → Ticks q v R
ticks_as q v U R f g b h =
    let e : (q * 64 + b) / 64 ≡ q = omega arith in
    (λ i. (f (q * 64 + b) e).0 ((g b h).0 i), λ i. (g b h).1 ((f (q * 64 + b) e).1 i))

-- Ticks s for which one of the ticks U of word p is in the relation R to s.
abbrev pub Seen : ℕ → (ℕ → ℕ → Type 0) → (ℕ → Type 0) → ℕ → Type 0
Seen p R U s = (t : ℕ) × (t / 64 ≡ p) × R t s × U t

-- Those of the ticks U that are in the window.
abbrev pub InWindow : ℕ → (ℕ → Type 0) → ℕ → Type 0
InWindow W U t = (t < W) × U t

-- A word of the ticks U of word p, moved up by k: ticks of word q.
pub raised : (p q k w : ℕ) (U : ℕ → Type 0) → Ticks p w U → Ticks q (up w k) (Seen p (Apart p q k) U)
raised p q k w U f b h = (
  λ e. let x = up_out w k b h e in (p * 64 + (b - k), omega (arith, x.0), omega (arith, x.0), (f (b - k) (omega arith)).0 x.1),
  λ e. let g : k ≤ b = omega (arith, e.1, e.2) in
      let d : e.0 ≡ p * 64 + (b - k) = omega (arith, e.1, e.2) in up_in w k b h g ((f (b - k) (omega arith)).1 (subst U d e.3)),
)

-- A word of the ticks U of word q, moved down by k: ticks of word p.
pub lowered : (p q k w : ℕ) (U : ℕ → Type 0) → w < 2 ^ 64 → Ticks q w U → Ticks p (w / 2 ^ k) (Seen q (λ s t. Apart p q k t s) U)
lowered p q k w U fits f b h = (
  λ e. let x : Has w (k + b) = sym (bit_shr w k b) ∙ e in
      let g : k + b < 64 = has_below w 64 (k + b) fits x in (q * 64 + (k + b), omega arith, omega arith, (f (k + b) g).0 x),
  λ e. let g : k + b < 64 = omega (arith, e.1, e.2) in
      let d : e.0 ≡ q * 64 + (k + b) = omega (arith, e.1, e.2) in bit_shr w k b ∙ (f (k + b) g).1 (subst U d e.3),
)

module _ (n : ℕ) (T : List ℕ) (r : ℕ) (v : Bool) (q : ℕ) (l : q < n) where
  -- A word as it stands.
  word_ticks_lem : Ticks q (get_or T (block r v * n + q) 0) (λ t. Stands n T (mark r t v))
  word_ticks_lem b h = (in_to 64 n T (block r v * n) q b (q * 64 + b) h refl l, in_from 64 n T (block r v * n) q b (q * 64 + b) h refl)

  -- As the code read it.
  pub read_ticks : {w : ℕ} → w ≡ get_or T (block r v * n + q) 0 → Ticks q w (λ t. Stands n T (mark r t v))
  read_ticks e = subst (λ (w : ℕ). Ticks q w (λ t. Stands n T (mark r t v))) (sym e) word_ticks_lem

-- Ticks at which two marks stand, as the code makes them of the words that it read.
pub flow_ticks : (n : ℕ) (T : List ℕ) (a : ℕ) (x : Bool) (b : ℕ) (y : Bool) (q : ℕ) → q < n → {v w : ℕ}
    → v ≡ get_or T (block a x * n + q) 0 → w ≡ get_or T (block b y * n + q) 0 → Ticks q (bit_and v w) (Both n T a x b y)
flow_ticks n T a x b y q l {v} {w} e f =
    both_ticks q v w (λ t. Stands n T (mark a t x)) (λ t. Stands n T (mark b t y)) (read_ticks n T a x q l e) (read_ticks n T b y q l f)

-- The window's ticks in a word that lies in the window, and in its last word.
pub window_all : (W q : ℕ) → 64 ≤ W - q * 64 → Ticks q (2 ^ 64 - 1) (λ t. t < W)
window_all W q l b h = (λ e. omega arith, λ e. bit_mask 64 b h)

pub window_last : (W q k : ℕ) → k ≡ W - q * 64 → k < 64 → 0 < k → Ticks q ((2 ^ 64 - 1) / 2 ^ (64 - k)) (λ t. t < W)
window_last W q k e l some b h = (
  λ f. let z : b < k = has_below (2 ^ k - 1) k b (ones_lt k) (subst (λ (x : ℕ). Has x b) cut f) in omega arith,
  λ f. subst (λ (x : ℕ). Has x b) (sym cut) (bit_mask k b (omega arith)),
)
  where
    cut : (2 ^ 64 - 1) / 2 ^ (64 - k) ≡ 2 ^ k - 1
    cut =
        let s : 64 ≡ k + (64 - k) = omega arith in
        ap (λ (x : ℕ). (2 ^ x - 1) / 2 ^ (64 - k)) s ∙ ap (λ (x : ℕ). x / 2 ^ (64 - k)) (ones_split k (64 - k)) ∙ high (2 ^ k - 1) (64 - k) (ones_lt (64 - k))
