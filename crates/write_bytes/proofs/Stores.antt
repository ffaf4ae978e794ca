-- A text half stored, as the loop of `store_text` says it.
-- Assumes nothing.
use mathlib.Core.Path.{◌≡◌, sym, ap, ◌∙◌}
use mathlib.Core.List.{List, [], ◌++◌}
use Prim.Native.Nat.{ℕ, ◌+◌}
use native.Mathlib.Omega.{arith}
use lib.ListN.{length, length-append}
use lib.Seq.{sets}
use Rattle.write_bytes.specs.Writes.{Wrote}
use Rattle.write_bytes.proofs.Writing.{sets_append}

-- ws is to go from b on, and once vs is written from u on, it is done.
pub record Left (ws : List ℕ) (b : ℕ) (m vs : List ℕ) (u : ℕ) (m₁ : List ℕ) : Type 0 where
  pub next : u + length vs ≡ b + length ws
  pub holds : sets m₁ u vs ≡ sets m b ws

-- All is left at first.
pub left_first : {ws vs : List ℕ} {b : ℕ} {m : List ℕ} → vs ≡ ws → Left ws b m vs b m
left_first {b = b} {m} e = record { next = ap (λ (l : List ℕ). b + length l) e; holds = ap (sets m b) e }

-- One part more, and the rest is left.
pub left_after : {ws vs xs : List ℕ} (rest : List ℕ) {b u : ℕ} {m m₁ m₂ : List ℕ} {v : ℕ} → Left ws b m vs u m₁ → Wrote xs u m₁ m₂ v → vs ≡ xs ++ rest → Left ws b m rest v m₂
left_after {vs = vs} {xs} rest {u = u} {m₁ = m₁} l h e = record {
  next = omega (arith, ap length e, length-append xs rest, l.next);
  holds = rw (h.holds, h.next) (sets_append m₁ u xs rest ∙ ap (sets m₁ u) (sym e) ∙ l.holds);
}

-- Nothing is left.
pub left_over : {ws vs : List ℕ} {b u : ℕ} {m m₁ : List ℕ} → Left ws b m vs u m₁ → vs ≡ [] → Wrote ws b m m₁ u
left_over {u = u} {m₁ = m₁} l e = record { next = omega (arith, ap length e, l.next); holds = ap (sets m₁ u) (sym e) ∙ l.holds }
