-- Outcomes of taking readings: how each is reached, and that two outcomes for one input coincide.
-- Assumes what each law states.
use mathlib.Core.Path.{◌≡◌, refl, sym, ap, ◌∙◌}
use mathlib.Core.List.{List}
use Prim.Native.Nat.{ℕ, ◌≤◌}
use lib.ListN.{length}
use Rattle.std.specs.Prelude.{Result, Ok, Err}
use Rattle.spec_refusals.specs.Numbers.{fault_number, Refusal}
use Rattle.spec_refusals.proofs.OneFault.{same_refusal}
use Rattle.read_bytes.specs.Read.{Read}
use Rattle.read_bytes.specs.Read.Read.{got, refused}
use Rattle.read_bytes.proofs.Answers.{not_both, same_value}
use Rattle.spec_ticks.specs.Ticks.{Small}
use Rattle.spec_ticks.proofs.Tables.{same_table}
use Rattle.spec_tilco.specs.Inference.{Mark, mark}
use Rattle.read_reading.specs.Spans.{Span}
use Rattle.read_readings.specs.SpanNumbers.{spans_in, EntriesNoted}
use Rattle.read_readings.specs.SpanNumbers.EntriesNoted.{all_noted, refused_at}
use Rattle.table_marks.specs.Puts.{Puts}
use Rattle.read_readings.specs.TakeReadings.{ReadingsTaken}
use Rattle.read_readings.specs.TakeReadings.ReadingsTaken.{taken, kept}
use Rattle.table_marks.proofs.Marks.{puts_same}

-- A text that is refused, where its entries were to be noted, is refused where they are to be taken.
pub not_noted : {R : Read (List Span)} {end : ℕ} {a : List ℕ} {r : Refusal} → EntriesNoted R end a (Err r) → R ≡ refused (fault_number r.fault) r.place
not_noted (refused_at r e) = e

-- The entries of an accepted text are in the array, and are read up to q.
pub record NotedAs (R : Read (List Span)) (a : List ℕ) (k q : ℕ) : Type 0 where
  pub few : k ≤ length a
  pub all : R ≡ got (spans_in a k) q

pub when_noted : {R : Read (List Span)} {end : ℕ} {a : List ℕ} {k : ℕ} → EntriesNoted R end a (Ok k) → NotedAs R a k end
when_noted (all_noted k l e) = record { few = l; all = e }

-- What an accepted text says: its marks are put.
pub record AcceptedAs (R : Read (List Mark)) (n : ℕ) (T T' : List ℕ) : Type 0 where
  pub marks : List Mark
  pub place : ℕ
  pub all : R ≡ got marks place
  pub puts : Puts n marks T T'

pub when_accepted : {R : Read (List Mark)} {n : ℕ} {T T' : List ℕ} {u : Unit {0}} → ReadingsTaken R n T T' (Ok u) → AcceptedAs R n T T'
when_accepted (taken ms q e f) = record { marks = ms; place = q; all = e; puts = f }

-- What a refusal says: the text has it, and every word is kept.
pub when_refused : {R : Read (List Mark)} {n : ℕ} {T T' : List ℕ} {r : Refusal} → ReadingsTaken R n T T' (Err r) → (R ≡ refused (fault_number r.fault) r.place) × (T' ≡ T)
when_refused (kept r e f) = (e, f)

-- The same marks put into the same table give the same table, word for word.
pub puts_one : (n : ℕ) → 1 ≤ n → {ms : List Mark} {T T' T'' : List ℕ} → Small 64 T' → Small 64 T'' → Puts n ms T T' → Puts n ms T T'' → T' ≡ T''
puts_one n some {ms} {T} {T'} {T''} s z a b =
    same_table n some 64 T' T'' (a.size ∙ sym b.size) s z
    (λ r t v m. (b.exactly (mark r t v)).1 ((a.exactly (mark r t v)).0 m))
    (λ r t v m. (a.exactly (mark r t v)).1 ((b.exactly (mark r t v)).0 m))

-- Two outcomes for one text and one table coincide, and so do the tables that they leave.
pub outcomes_coincide : {R : Read (List Mark)} {n : ℕ} {T T' T'' : List ℕ} {a b : Result (Unit {0}) Refusal} → 1 ≤ n → Small 64 T' → Small 64 T''
    → ReadingsTaken R n T T' a → ReadingsTaken R n T T'' b → (a ≡ b) × (T' ≡ T'')
outcomes_coincide {n = n} some s z (taken ms q e f) (taken ns u g h) =
    (refl, puts_one n some s z f (puts_same _ _ (same_value (sym g ∙ e)) h))
outcomes_coincide some s z (taken ms q e f) (kept r g h) = absurd (not_both (sym e ∙ g))
outcomes_coincide some s z (kept r e f) (taken ns u g h) = absurd (not_both (sym g ∙ e))
outcomes_coincide some s z (kept r e f) (kept d g h) =
    let y : ◌≡◌ {A = Read (List Mark)} (refused (fault_number r.fault) r.place) (refused (fault_number d.fault) d.place) = sym e ∙ g in
    (ap Err (same_refusal r d (cc) (cc)), f ∙ sym h)
