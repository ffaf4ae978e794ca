-- Spans put in ascending order: there is such an order, and spans in another order have the same marks.
-- Assumes nothing.
use mathlib.Core.Path.{refl}
use mathlib.Core.List.Permᴰ
use mathlib.Core.List.{List, [], ◌∷◌, Permᴰ}
use mathlib.Core.Logic.{◌⊎◌, inl, inr}
use Prim.Native.Nat.{◌<◌}
use native.Mathlib.Omega.{arith}
use native.Mathlib.Decide.{dec_lt}
use Rattle.spec_tilco.specs.Inference.{Mark}
use Rattle.spec_tilco.specs.Table.{ReadMarks}
use Rattle.spec_tilco.proofs.Lists.{all_weaker, all_stays, found_again}
use Rattle.read_reading.specs.Spans.{Span, marks_of_all}
use Rattle.read_reading.proofs.SpanMarks.{in_one, one_in}
use Rattle.spec_moves.specs.InOrder.{rank, SameMarks}
use Rattle.join_spans.specs.Joining.{Ascends, Ascending}

-- ---- the same spans in another order

marks_again : {es ds : List Span} {m : Mark} → Permᴰ es ds → ReadMarks (marks_of_all es) m → ReadMarks (marks_of_all ds) m
marks_again {es} {ds} p i = let x = in_one es i in one_in ds (found_again p x.among) x.marked

pub reordered_marks : {es ds : List Span} → Permᴰ es ds → SameMarks (marks_of_all es) (marks_of_all ds)
reordered_marks p m = (marks_again p, marks_again (Permᴰ.symm p))

-- ---- an ascending order

-- Of two spans one is not after the other,
either : (a b : Span) → Ascends a b ⊎ Ascends b a
either a b = go (dec_lt (rank a) (rank b)) (dec_lt (rank b) (rank a)) (dec_lt a.first b.first)
  where
    go : Dec (rank a < rank b) → Dec (rank b < rank a) → Dec (a.first < b.first) → Ascends a b ⊎ Ascends b a
    go (yes l) d f = inl (inl l)
    go (no k) (yes l) f = inr (inl l)
    go (no k) (no l) (yes f) = inl (inr (omega arith, omega arith))
    go (no k) (no l) (no f) = inr (inr (omega arith, omega arith))

-- and the order goes on from the one to the next.
pub ascends_on : (a b c : Span) → Ascends a b → Ascends b c → Ascends a c
ascends_on a b c (inl k) (inl l) = inl (omega arith)
ascends_on a b c (inl k) (inr l) = inl (omega arith)
ascends_on a b c (inr k) (inl l) = inl (omega arith)
ascends_on a b c (inr k) (inr l) = inr (omega arith, omega arith)

same_order : (es : List Span) → Permᴰ es es
same_order [] = Permᴰ.nil
same_order (e ∷ es) = Permᴰ.cons refl (same_order es)

-- The same spans, ascending.
pub record Ascent (es : List Span) : Type 0 where
  pub spans : List Span
  pub ascending : Ascending spans
  pub each_once : Permᴰ es spans

-- A span put among ascending ones,
put : (e : Span) (es : List Span) → Ascending es → Ascent (e ∷ es)
unfolding Ascending
put e [] a = record { spans = e ∷ []; ascending = (tt, tt); each_once = same_order (e ∷ []) }
put e (d ∷ es) a = go (either e d) (put e es a.1)
  where
    go : Ascends e d ⊎ Ascends d e → Ascent (e ∷ es) → Ascent (e ∷ d ∷ es)
    go (inl k) p = record {
      spans = e ∷ d ∷ es;
      ascending = ((k, all_weaker (Ascends d) (Ascends e) (λ c l. ascends_on e d c k l) es a.0), a);
      each_once = same_order (e ∷ d ∷ es);
    }
    go (inr k) p = record {
      spans = d ∷ p.spans;
      ascending = (all_stays (Ascends d) (Permᴰ.symm p.each_once) (k, a.0), p.ascending);
      each_once = Permᴰ.trans (Permᴰ.swap refl refl) (Permᴰ.cons refl p.each_once);
    }

-- and so one after the other.
pub ascent : (es : List Span) → Ascent es
unfolding Ascending
ascent [] = record { spans = []; ascending = tt; each_once = Permᴰ.nil }
ascent (e ∷ es) =
    let x = ascent es in
    let y = put e x.spans x.ascending in
    record { spans = y.spans; ascending = y.ascending; each_once = Permᴰ.trans (Permᴰ.cons refl x.each_once) y.each_once }
