-- The line that comes next in a dump, of whatever kind: it is read, or refused, exactly in its case.
-- Assumes that the window has a tick, and that no two of the names are the same. `names` are the declared names, W is the window, d the dump, p a place in it.
use mathlib.Core.Path.{◌≡◌, refl}
use mathlib.Core.Bool.{Bool, true, false}
use mathlib.Core.List.{List, [], ◌++◌}
use Prim.Native.Nat.{ℕ, suc, ◌<◌, ◌≤◌}
use borrow.Author.Tests.{ltb-true, ltb-false, lt-ltb, le-ltb}
use lib.Dec.{ltb}
use lib.ListN.{length}
use Rattle.read_bytes.specs.Read.{Read, and_then}
use Rattle.read_bytes.specs.Read.Read.{got, refused}
use Rattle.read_bytes.specs.Bytes.{bytes, pick, InLine}
use Rattle.read_names.proofs.Names.{Differ}
use Rattle.spec_grammar.specs.Lines.{LineAt, after}
use Rattle.spec_grammar.proofs.Lines.{in_line_by}
use Rattle.spec_dump.specs.DumpTexts.{Event}
use Rattle.spec_dump.specs.DumpLines.{this_line, timescale_line, var_line, event_at}
use Rattle.proof_dump.specs.DumpCases.{Next, timescale, scope, signal, definitions, nought, event, Right, Outside}
use Rattle.proof_dump.proofs.FixedLines.{FixedIs, fixed_is, fixed_reads, ScaleIs, scale_is, scale_reads}
use Rattle.proof_dump.proofs.VarLines.{VarIs, var_is, unknown_reads, declared_reads}
use Rattle.proof_dump.proofs.EventLines.{next_of, EventIs, event_is, right_event, outside_event}

-- What is read of the line that comes next: what comes after it, and the place after it.
unfoldable pub line_at : List (List ℕ) → ℕ → List ℕ → Next → ℕ → Read Next
line_at names W d timescale p = and_then (timescale_line d p) (λ _ q. got scope q)
line_at names W d scope p = and_then (this_line d p (bytes "$scope module sheet $end\n")) (λ _ q. got (signal 0) q)
line_at names W d (signal x) p =
    pick (ltb x (length names)) (λ _. and_then (var_line names d x p) (λ _ q. got (signal (suc x)) q)) (and_then (this_line d p (bytes "$upscope $end\n")) (λ _ q. got definitions q))
line_at names W d definitions p = and_then (this_line d p (bytes "$enddefinitions $end\n")) (λ _ q. got nought q)
line_at names W d nought p = and_then (this_line d p (bytes "#0\n")) (λ _ q. got (event 0 0 []) q)
line_at names W d (event u k es) p = and_then (event_at W (length names) d u k p) (λ e q. got (next_of u es e) q)

-- Each answer by its case.
pub data LineIs (names : List (List ℕ)) (W : ℕ) (d : List ℕ) (p : ℕ) (c : Next) : Read Next → Type 0 where
  right : {l : List ℕ} {e : Next} → LineAt d p l → Right names W c l e → LineIs names W d p c (got e (after p l))
  outside : {n i : ℕ} → Outside names W d p c n i → LineIs names W d p c (refused n i)
  other : LineIs names W d p c (refused 22 p)

module _ (names : List (List ℕ)) (W : ℕ) (some : 1 ≤ W) (d : List ℕ) where
  -- A line that is one text.
  fixed_line : (p : ℕ) {c e : Next} (l : List ℕ) → InLine l → Right names W c l e → LineIs names W d p c (and_then (this_line d p (l ++ bytes "\n")) (λ _ q. got e q))
  fixed_line p {c} {e} l i r = go (fixed_is d p l i)
    where
      go : {R : Read ℕ} → FixedIs d p l R → LineIs names W d p c (and_then R (λ _ q. got e q))
      go (FixedIs.stands a) = right a r
      go FixedIs.other = other

  pub line_is : (c : Next) (p : ℕ) → LineIs names W d p c (line_at names W d c p)
  unfolding line_at
  line_is timescale p = go (scale_is d p)
    where
      go : {R : Read ℕ} → ScaleIs d p R → LineIs names W d p timescale (and_then R (λ _ q. got scope q))
      go (ScaleIs.stands m n a) = right a (Right.scaled m n)
      go ScaleIs.other = other
  line_is scope p = fixed_line p (bytes "$scope module sheet $end") (in_line_by (bytes "$scope module sheet $end") refl) Right.scoped
  line_is (signal x) p = on (ltb x (length names)) refl
    where
      go : x < length names → {R : Read ℕ} → VarIs names d x p R → LineIs names W d p (signal x) (and_then R (λ _ q. got (signal (suc x)) q))
      go l (VarIs.declared a) = right a (Right.declared l)
      go l (VarIs.unknown a n) = outside (Outside.name l a n)
      go l VarIs.other = other

      on : (b : Bool) → ltb x (length names) ≡ b → LineIs names W d p (signal x) (line_at names W d (signal x) p)
      on true e = let l = ltb-true x (length names) e in rw e (go l (var_is names d x p l))
      on false e = rw e (fixed_line p (bytes "$upscope $end") (in_line_by (bytes "$upscope $end") refl) (Right.upscoped (ltb-false x (length names) e)))
  line_is definitions p = fixed_line p (bytes "$enddefinitions $end") (in_line_by (bytes "$enddefinitions $end") refl) Right.defined
  line_is nought p = fixed_line p (bytes "#0") (in_line_by (bytes "#0") refl) Right.started
  line_is (event u k es) p = go (event_is names W some d u k es p)
    where
      go : {R : Read Event} → EventIs names W d u k es p R → LineIs names W d p (event u k es) (and_then R (λ e q. got (next_of u es e) q))
      go (EventIs.right a r) = right a r
      go (EventIs.outside o) = outside o
      go EventIs.other = other

  -- A line whose name or tick is outside is refused.
  pub outside_reads : {c : Next} {p n i : ℕ} → Outside names W d p c n i → line_at names W d c p ≡ refused n i
  unfolding line_at
  outside_reads {p = p} (Outside.name {x} {w} l a m) = rw (lt-ltb x (length names) l, unknown_reads names d x p l w a m)
  outside_reads {p = p} (Outside.tick {u} {k} {es = es} free a m l) = rw (outside_event names W some d u k es p (Outside.tick free a m l))

  -- A right line is read.
  pub right_reads : Differ names → {c e : Next} {p : ℕ} {l : List ℕ} → LineAt d p l → Right names W c l e → line_at names W d c p ≡ got e (after p l)
  unfolding line_at
  right_reads differ {p = p} a (Right.scaled m n) = rw (scale_reads d p m n a)
  right_reads differ {p = p} a Right.scoped = rw (fixed_reads d p (bytes "$scope module sheet $end") a)
  right_reads differ {p = p} a (Right.declared {x} l) = rw (lt-ltb x (length names) l, declared_reads names d x p l differ a)
  right_reads differ {p = p} a (Right.upscoped {x} l) = rw (le-ltb x (length names) l, fixed_reads d p (bytes "$upscope $end") a)
  right_reads differ {p = p} a Right.defined = rw (fixed_reads d p (bytes "$enddefinitions $end") a)
  right_reads differ {p = p} a Right.started = rw (fixed_reads d p (bytes "#0") a)
  right_reads differ {p = p} a (Right.said {u} {k} {es = es} f t o s) = let w = right_event names W some d u k es p a (Right.said f t o s) in rw (w.1, ← w.2)
  right_reads differ {p = p} a (Right.timed {u} {k} {es = es} free n l i) = let w = right_event names W some d u k es p a (Right.timed free n l i) in rw (w.1, ← w.2)
