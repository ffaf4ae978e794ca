-- Each answer of reading a dump's lines exactly in its case: "22 for any other or missing line, 12 for a name not declared, 13 for a tick outside the window".
-- Assumes that the window has a tick, and that no two of the names are the same. `names` are the declared names, W is the window, d the dump.
use mathlib.Core.Path.{◌≡◌, subst}
use mathlib.Core.List.{List, []}
use mathlib.Core.Logic.{◌↔◌}
use Prim.Native.Nat.{ℕ, ◌≤◌}
use lib.ListN.{length}
use Rattle.read_bytes.specs.Read.{Read}
use Rattle.read_bytes.specs.Read.Read.{got, refused}
use Rattle.read_names.proofs.Names.{Differ}
use Rattle.spec_dump.specs.DumpTexts.{Event}
use Rattle.spec_dump.specs.DumpLines.{events}
use Rattle.proof_dump.specs.DumpCases.{DumpFault, DumpWhole}
use Rattle.proof_dump.proofs.DumpWalk.{Ended, dump_ended}
use Rattle.proof_dump.proofs.OneOutcome.{fault_one, fault_whole, whole_one}

module _ (names : List (List ℕ)) (W : ℕ) (some : 1 ≤ W) (differ : Differ names) (d : List ℕ) where
  -- A dump is refused with a number and a place exactly if its first line at fault has that fault.
  pub dump_refused : (n i : ℕ) → (events names W d ≡ refused n i) ↔ DumpFault names W d n i
  dump_refused n i = (λ e. subst (Ended names W d []) e ended, λ f. go f (events names W d) ended)
    where
      ended : Ended names W d [] (events names W d)
      ended = dump_ended names W some differ d

      go : DumpFault names W d n i → (R : Read (List Event)) → Ended names W d [] R → R ≡ refused n i
      go f (got es q) h = absurd (fault_whole names W some differ d f h.0)
      go f (refused m j) h = let e = fault_one names W some differ d h f in rw (e.0, e.1)

  -- And it is accepted, with its events, exactly if all its lines are right up to its end.
  pub dump_accepted : (es : List Event) → (events names W d ≡ got es (length d)) ↔ DumpWhole names W d es
  dump_accepted es = (λ e. (subst (Ended names W d []) e ended).0, λ w. go w (events names W d) ended)
    where
      ended : Ended names W d [] (events names W d)
      ended = dump_ended names W some differ d

      go : DumpWhole names W d es → (R : Read (List Event)) → Ended names W d [] R → R ≡ got es (length d)
      go w (got fs q) h = let e = whole_one names W some differ d h.0 w in let i = h.1 in rw (e, i)
      go w (refused m j) h = absurd (fault_whole names W some differ d h w)
