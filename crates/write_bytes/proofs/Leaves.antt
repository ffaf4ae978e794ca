-- A writing half done, as a loop's invariant says it.
-- Assumes nothing.
use mathlib.Core.Path.{◌≡◌, refl, sym, ap, ◌∙◌}
use mathlib.Core.List.{List, [], ◌++◌}
use Prim.Native.Nat.{ℕ, ◌+◌}
use native.Mathlib.Omega.{arith}
use lib.ListN.{length, length-append}
use lib.Seq.{sets}
use Rattle.write_bytes.specs.declared.Writer.{Writer}
use Rattle.write_bytes.specs.Writes.{Counted}
use Rattle.write_bytes.specs.Writers.{Writes}
use Rattle.write_bytes.proofs.Writing.{sets_append}

-- ws is to be written through t, and once vs is written through u, it is done.
pub record Leaves (ws : List ℕ) (t : Writer) (vs : List ℕ) (u : Writer) : Type 0 where
  pub same : u.out.ghost_name ≡ t.out.ghost_name
  pub next : u.used + length vs ≡ t.used + length ws
  pub holds : sets u.out.now u.used vs ≡ sets t.out.now t.used ws

-- All is left at first.
pub left_all : {ws vs : List ℕ} {t : Writer} → vs ≡ ws → Leaves ws t vs t
left_all {t = t} e = record { same = refl; next = ap (λ (l : List ℕ). t.used + length l) e; holds = ap (sets t.out.now t.used) e }

-- One part more, and the rest is left.
pub left_rest : {ws vs xs : List ℕ} (rest : List ℕ) {t u v : Writer} → Leaves ws t vs u → Writes xs u v → vs ≡ xs ++ rest → Leaves ws t rest v
left_rest {vs = vs} {xs} rest {u = u} l h e = record {
  same = h.same ∙ l.same;
  next = omega (arith, ap length e, length-append xs rest, l.next, h.wrote.next);
  holds = rw (h.wrote.holds, h.wrote.next) (sets_append u.out.now u.used xs rest ∙ ap (sets u.out.now u.used) (sym e) ∙ l.holds);
}

-- Nothing is left.
pub left_none : {ws vs : List ℕ} {t u : Writer} → Leaves ws t vs u → vs ≡ [] → Writes ws t u
left_none {u = u} l e = record { same = l.same; wrote = record { next = omega (arith, ap length e, l.next); holds = ap (sets u.out.now u.used) (sym e) ∙ l.holds } }

-- What is left can be counted.
pub counted_left : {ws vs : List ℕ} {t u : Writer} → Counted t.used ws → Leaves ws t vs u → Counted u.used vs
counted_left h l = record { below = omega (arith, l.next) }
