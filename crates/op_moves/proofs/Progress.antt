-- A text written piece by piece: how writing starts, goes on and ends.
-- Assumes nothing.
use mathlib.Core.Path.{◌≡◌, sym, ap, subst, ◌∙◌}
use mathlib.Core.List.{List, [], ◌++◌, append-nil, append_assoc}
use Prim.Native.Nat.{ℕ}
use Rattle.write_bytes.specs.Writes.{Counted}
use Rattle.write_bytes.specs.declared.Writer.{Writer}
use Rattle.write_bytes.specs.Writers.{Writes}
use Rattle.write_bytes.proofs.Writing.{nothing, and_then_lem, counted_like, counted_first, counted_rest}

-- Of a text, all but the rest is written.
pub record Progress (text rest : List ℕ) (t u : Writer) : Type 0 where
  pub done : List ℕ
  pub same : text ≡ done ++ rest
  pub wrote : Writes done t u

-- At the start nothing is written.
pub starts : {text rest : List ℕ} {t : Writer} → text ≡ rest → Progress text rest t t
starts e = record { done = []; same = e; wrote = nothing }

module _ {text rest : List ℕ} {t u : Writer} (z : Progress text rest t u) where
  -- The places of the next piece can be counted, where those of the text can.
  pub counts : Counted t.used text → {piece : List ℕ} (after : List ℕ) → rest ≡ piece ++ after → Counted u.used piece
  counts c after e = counted_first after (counted_like (counted_rest (counted_like c z.same) z.wrote) e)

  -- A piece more.
  pub goes_on : {piece after : List ℕ} {v : Writer} → rest ≡ piece ++ after → Writes piece u v → Progress text after t v
  goes_on {piece} {after} e w = record {
    done = z.done ++ piece;
    same = z.same ∙ ap (λ (x : List ℕ). z.done ++ x) e ∙ sym (append_assoc z.done piece after);
    wrote = and_then_lem z.wrote w;
  }

  -- With no rest, the text is written.
  pub ends : rest ≡ [] → Writes text t u
  ends e = subst (λ (x : List ℕ). Writes x t u) (sym (z.same ∙ ap (λ (x : List ℕ). z.done ++ x) e ∙ append-nil z.done)) z.wrote
