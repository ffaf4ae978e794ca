-- The ticks of a word at which a sign changes, the lowest taken first.
-- Assumes that a word is below 2 ^ 64. f x t is the sign of signal x at tick t, k is how many signals there are.
use mathlib.Core.Path.{◌≡◌, refl, sym, ap, ◌∙◌, subst}
use mathlib.Core.Bool.{Bool, true, false}
use mathlib.Core.List.{[], ◌++◌}
use Prim.Native.Nat.{ℕ, suc, ◌+◌, ◌-◌, ◌*◌, ◌/◌, ◌^◌, ◌<◌, ◌≤◌}
use native.Mathlib.Nat.{div-le_self}
use native.Mathlib.Omega.{arith}
use borrow.Author.Tests.{leb-true, leb-false}
use lib.Bits.{bit_and, and_le_r}
use lib.Count.{count_trailing_zeros}
use lib.Dec.{leb}
use Rattle.spec_ticks.specs.Ticks.{bit, Has}
use Rattle.spec_ticks.proofs.Bits.{bit_suc, bit_shr, has_below, no_ticks}
use Rattle.spec_ticks.proofs.Counts.{first_has, below_first}
use Rattle.spec_tilco.specs.Table.{words}
use Rattle.table_words.specs.WordTicks.{Ticks}
use Rattle.table_words.proofs.OneWord.{both_ticks}
use Rattle.spec_dump.specs.DumpTexts.{events_text}
use Rattle.spec_dump.specs.TableSigns.{timed, changes_at, changes_from}
use Rattle.dump_text.specs.TableTexts.{word_ticks}
use Rattle.dump_text.proofs.Events.{Moves}
use Rattle.dump_text.proofs.Stretches.{lines_tick, lines_none}

-- The ticks of word q in the window, where there are some.
pub record WordEnd (W q end : ℕ) : Type 0 where
  pub within : end ≤ W
  pub wide : end ≤ 64 * q + 64
  pub all : (t : ℕ) → t < W → t < 64 * q + 64 → t < end
  pub some : 64 * q < end

pub word_end : (W q : ℕ) → q < words W → WordEnd W q (64 * q + word_ticks W q)
unfolding word_ticks words
word_end W q h = go (leb 64 (W - 64 * q)) refl
  where
    go : (b : Bool) → leb 64 (W - 64 * q) ≡ b → WordEnd W q (64 * q + word_ticks W q)
    go true e = let l = leb-true 64 (W - 64 * q) e in rw e (record { within = omega arith; wide = omega arith; all = λ t a b. omega arith; some = omega arith })
    go false e = let l = leb-false 64 (W - 64 * q) e in rw e (record { within = omega arith; wide = omega arith; all = λ t a b. omega arith; some = omega arith })

-- The bits of `left`, counted from the tick `next` on, are the ticks before `end` at which a sign changes.
pub record WordLeft (f : ℕ → ℕ → ℕ) (k next end left : ℕ) : Type 0 where
  pub small : left < 2 ^ 64
  pub until : next ≤ end
  pub taken : (b : ℕ) → Has left b → (next + b < end) × Moves f k (next + b)
  pub others : (t : ℕ) → next ≤ t → t < end → Moves f k t → Has left (t - next)

module _ (f : ℕ → ℕ → ℕ) (k : ℕ) where
  -- At first they are all that change.
  pub left_first : (W q v w : ℕ) {end : ℕ} → WordEnd W q end → Ticks q v (Moves f k) → Ticks q w (λ t. t < W) → w < 2 ^ 64 → WordLeft f k (64 * q) end (bit_and v w)
  left_first W q v w e x y s =
      let b = both_ticks q v w (Moves f k) (λ t. t < W) x y in
      let c : q * 64 ≡ 64 * q = omega arith in
      let l : bit_and v w < 2 ^ 64 = omega (arith, and_le_r v w) in
      record {
        small = l;
        until = omega (arith, e.some);
        taken = λ i h. let d = has_below (bit_and v w) 64 i l h in
            let g = (b i d).0 h in
            (e.all (64 * q + i) (rw c at g.1) (omega arith), rw c at g.0);
        others = λ t n m g. let i : q * 64 + (t - 64 * q) ≡ t = omega arith in
            (b (t - 64 * q) (omega (arith, e.wide))).1 (subst (Moves f k) (sym i) g, omega (arith, e.within));
      }

  module _ {next end left : ℕ} (a : WordLeft f k next end left) where
    -- Where none is left, nothing changes, and there are no lines.
    pub left_end : left ≡ 0 → events_text (changes_from f k next (end - next)) ≡ []
    left_end z = lines_none f k next end (λ t l h m. omega (arith, a.others t l h m, ap (λ (x : ℕ). bit x (t - next)) z, no_ticks (t - next)))

    module _ (some : left ≡ 0 → ⊥) where
      lowest : Has left (count_trailing_zeros 64 left)
      lowest = first_has 64 left (omega (arith, some)) a.small

      pub left_low : count_trailing_zeros 64 left < 64
      left_low = has_below left 64 (count_trailing_zeros 64 left) a.small lowest

      -- The lowest tick is one,
      pub left_moves : (next + count_trailing_zeros 64 left < end) × Moves f k (next + count_trailing_zeros 64 left)
      left_moves = a.taken (count_trailing_zeros 64 left) lowest

      -- before it nothing changes,
      left_before : (t : ℕ) → next ≤ t → t < next + count_trailing_zeros 64 left → Moves f k t → ⊥
      left_before t l h m =
          let b = a.others t l (omega (arith, left_moves.0)) m in
          omega (arith, below_first 64 left (t - next) (omega arith))

      -- so its lines come first,
      pub left_lines : events_text (changes_from f k next (end - next)) ≡ events_text (timed (next + count_trailing_zeros 64 left) (changes_at f (next + count_trailing_zeros 64 left) 0 k))
          ++ events_text (changes_from f k (next + count_trailing_zeros 64 left + 1) (end - (next + count_trailing_zeros 64 left + 1)))
      left_lines = lines_tick f k next (next + count_trailing_zeros 64 left) end (omega arith) left_moves.0 left_before

      -- and the others are left.
      pub left_after : WordLeft f k (next + count_trailing_zeros 64 left + 1) end (left / 2 ^ count_trailing_zeros 64 left / 2)
      left_after =
          let z = count_trailing_zeros 64 left in
          let shift : (b : ℕ) → bit (left / 2 ^ z / 2) b ≡ bit left (z + suc b) = λ b. sym (bit_suc (left / 2 ^ z) b) ∙ bit_shr left z (suc b) in
          record {
            small = omega (arith, div-le_self left (2 ^ z), a.small);
            until = omega (arith, left_moves.0);
            taken = λ b h. let e : next + z + 1 + b ≡ next + (z + suc b) = omega arith in
                rw e (a.taken (z + suc b) (sym (shift b) ∙ h));
            others = λ t l h m. let e : z + suc (t - (next + z + 1)) ≡ t - next = omega arith in
                shift (t - (next + z + 1)) ∙ ap (bit left) e ∙ a.others t (omega arith) h m;
          }
