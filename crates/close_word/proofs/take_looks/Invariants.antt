-- `take_looks` meets its contract. The invariant: looks were visited, what they give is gathered, and their child's word is as it was; bit k stands for
-- the next of them. The measure: the table's room, and then the word. Assumes nothing.
use mathlib.Core.Path.{◌≡◌}
use Prim.Native.Nat.{◌+◌, ◌*◌, ◌^◌, ◌<◌}
use lib.ListN.{get_or}
use Rattle.table_words.specs.WordTicks.{room}
use Rattle.close_rules.specs.Codes.{LooksAt}
use Rattle.close_looks.specs.Parts.{Sees, GatheredFor}
use Rattle.close_word.specs.VisitSeries.{ItemAt}
use Rattle.close_word.proofs.Gathering.{LooksSoFar}
use Rattle.close_word.proofs.take_looks.Given as goal

abbrev pub invariant-loop-k : goal.invariant-loop-k
invariant-loop-k l =
    LooksSoFar l.on.count l.on.rows.now l.on.window l.n l.j (l.k ≡ l.first) (GatheredFor l.child l.given) l.initial.marks l.marks l.initial.todo l.todo
    × Sees l.n l.on.window l.marks l.child
    × (l.k < 64 → ItemAt l.on.count l.n l.child.q l.i l.j l.k l.todo × LooksAt l.on.rows.now (64 * l.i + l.k) l.child.row)

abbrev pub decreases-loop-k : goal.decreases-loop-k
decreases-loop-k l =
    room l.marks * 2 ^ 64 + get_or l.todo l.j 0
