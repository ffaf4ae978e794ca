-- `write_signs` meets its contract. The invariant: the signs of the ticks from t on are left to be written. Assumes nothing.
use Prim.Native.Nat.{ℕ, ◌-◌}
use Rattle.spec_tilco.specs.Table.{Stands, Answer}
use Rattle.write_bytes.specs.Writes.{Counted}
use Rattle.write_bytes.proofs.Leaves.{Leaves}
use Rattle.list_signals.specs.Signals.{AnswersAt, signs}
use Rattle.list_signals.proofs.write_signs.Given as goal

abbrev pub invariant-loop-t : goal.invariant-loop-t
invariant-loop-t l = ((f : ℕ → Answer) → AnswersAt (Stands l.n l.table) l.signal l.window f → Leaves (signs f 0 l.window) l.initial.w (signs f l.t (l.window - l.t)) l.w) × ((f : ℕ → Answer) → Counted l.w.used (signs f l.t (l.window - l.t)))
