-- `note_captions` meets its contract. The invariant: what is left to be taken from `p` on is all that there is. Assumes nothing.
use mathlib.Core.Path.{◌≡◌}
use Prim.Native.Nat.{◌-◌, ◌≤◌}
use lib.ListN.{length}
use Rattle.read_index.specs.Index.{names_in}
use Rattle.read_captions.proofs.CaptionTurns.{Left}
use Rattle.read_captions.proofs.note_captions.Given as goal

abbrev pub invariant-loop-p : goal.invariant-loop-p
invariant-loop-p l = Left (names_in l.s l.names) l.c l.captions l.p × (l.p ≤ length l.c) × (length l.captions ≡ length l.initial.captions)

abbrev pub decreases-loop-p : goal.decreases-loop-p
decreases-loop-p l = length l.c - l.p
