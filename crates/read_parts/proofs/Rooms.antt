-- Where the parser may go on: the arena has room for what is left of the text.
-- Assumes nothing.
use mathlib.Core.Path.{◌≡◌, refl}
use mathlib.Core.List.{List}
use Prim.Native.Nat.{ℕ, ◌+◌, ◌<◌, ◌≤◌}
use native.Mathlib.Omega.{arith}
use lib.ListN.{length}
use Rattle.read_arena.specs.declared.Node.{Node}
use Rattle.read_arena.specs.Nodes.{put_node}
use Rattle.read_arena.specs.NodeRules.{ChildrenBefore, Arena, NodeRoom}
use Rattle.read_arena.proofs.Puts.{length_put, arena_put}
use Rattle.read_parts.specs.Parsed.{PartReady}

module _ {s a : List ℕ} {N : Type 0} {p m h : ℕ} (R : PartReady s a N p m h) where
  -- At a place j, with v nodes and h' the next row: no more of either than bytes in between.
  pub on : {a' : List ℕ} (j v h' : ℕ) → j ≤ length s → v + p ≤ m + j → h' + p ≤ h + j → Arena v a' → length a' ≡ length a → PartReady s a' N j v h'
  on j v h' jl vp hp ar l = record {
    within = jl;
    arena = ar;
    room = record { fits = omega (arith, R.room.fits, R.within); few = omega (arith, R.room.few, R.within) };
    rows = omega (arith, R.rows, R.within);
    names = R.names;
  }

  -- Room for k nodes past the first v.
  pub room_for : {a' : List ℕ} (v k : ℕ) → v + k + p ≤ m + length s → length a' ≡ length a → NodeRoom a' v k
  room_for v k l e = record { fits = omega (arith, R.room.fits, R.within); few = omega (arith, R.room.few, R.within) }

  -- After a node, which took a byte at least.
  pub after_node : {a' : List ℕ} (k : Node) (q : ℕ) → p < q → q ≤ length s → ChildrenBefore k m → a' ≡ put_node a m k → PartReady s a' N q (m + 1) h
  after_node k q pq ql r e = rw e (on q (m + 1) h ql (omega arith) (omega arith) (arena_put k R.arena (room_for m 1 (omega arith) refl) r) (length_put a m k))

  -- No names are looked up.
  pub bare : PartReady s a (Unit {0}) p m h
  bare = record { within = R.within; arena = R.arena; room = R.room; rows = R.rows; names = tt }
