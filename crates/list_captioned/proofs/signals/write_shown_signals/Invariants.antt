-- `write_shown_signals` meets its contract. The invariant: the signals from `signal-index` on are left to be written. Assumes nothing.
use Prim.Native.Nat.{ℕ}
use lib.ListN.{length, drop}
use Rattle.spec_tilco.specs.Table.{Stands, Answer}
use Rattle.read_captions.specs.Parts.{shown_texts}
use Rattle.write_bytes.specs.Writes.{Counted}
use Rattle.write_bytes.proofs.Leaves.{Leaves}
use Rattle.list_signals.specs.Signals.{Answers, signals_text}
use Rattle.list_captioned.proofs.signals.write_shown_signals.Given as goal

abbrev pub invariant-loop-signal : goal.invariant-loop-signal
invariant-loop-signal l = ((f : ℕ → ℕ → Answer) → Answers (Stands l.n l.table) (length l.places) l.window f → Leaves (signals_text l.window f (shown_texts l.s l.c l.places l.captions) l.signals) l.initial.w (signals_text l.window f (shown_texts l.s l.c l.places l.captions) (drop l.signal-index l.signals)) l.w) × ((f : ℕ → ℕ → Answer) → Counted l.w.used (signals_text l.window f (shown_texts l.s l.c l.places l.captions) (drop l.signal-index l.signals)))
