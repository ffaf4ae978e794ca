-- What the answers of taking a dump's events say.
-- Assumes nothing. R is what the events are read to, O the buffer before and U after.
use mathlib.Core.Path.{◌≡◌, sym, ap, subst, ◌∙◌}
use mathlib.Core.List.{List}
use Prim.Native.Nat.{ℕ, ◌<◌, ◌≤◌}
use lib.ListN.{length}
use Rattle.std.specs.Prelude.{Result, Ok, Err}
use Rattle.spec_refusals.specs.Numbers.{fault_number, Refusal}
use Rattle.read_bytes.specs.Read.{Read}
use Rattle.read_bytes.specs.Read.Read.{got, refused as unread}
use Rattle.read_bytes.proofs.Answers.{not_both, same_value}
use Rattle.write_bytes.specs.Writes.{Wrote}
use Rattle.open_sheet.specs.Results.{accepted, refused}
use Rattle.spec_operations.specs.WritingSays.{writing_says}
use Rattle.spec_operations.specs.TextAnswers.{Gives}
use Rattle.spec_operations.proofs.TextAnswers.{gives_refused}
use Rattle.spec_dump.specs.DumpTexts.{Event}
use Rattle.spec_dump.specs.Dumps.{readings_text, readings_of}
use Rattle.dump_readings.specs.TakenEvents.{EventsTaken}
use Rattle.dump_readings.specs.TakenEvents.EventsTaken.{all_taken, refused_at}
use Rattle.op_dump.proofs.Measured.{too_long, all_fits}

-- The events are read, and their readings are written as far as there is room.
record Took (R : Read (List Event)) (names : List (List ℕ)) (W : ℕ) (m m' : List ℕ) (u : ℕ) : Type 0 where
  list : List Event
  place : ℕ
  reads : R ≡ got list place
  wrote : Wrote (readings_text names W list) 0 m m' u

module _ {R : Read (List Event)} {names : List (List ℕ)} {W : ℕ} where
  took : {m m' : List ℕ} {u : ℕ} → EventsTaken R names W m m' (Ok u) → Took R names W m m' u
  took (all_taken {es} {q} e w) = record { list = es; place = q; reads = e; wrote = w }

  off : {m m' : List ℕ} {r : Refusal} → EventsTaken R names W m m' (Err r) → R ≡ unread (fault_number r.fault) r.place
  off (refused_at e) = e

  pub not_taken : {m m' : List ℕ} {r : Refusal} → EventsTaken R names W m m' (Err r) → (O : List ℕ) → Gives (readings_of names W (length O) R) O O (refused (fault_number r.fault) r.place)
  not_taken x O = gives_refused (ap (readings_of names W (length O)) (off x)) O

  module _ {m m' : List ℕ} {u : ℕ} (x : EventsTaken R names W m m' (Ok u)) {O : List ℕ} where
    pub too_many : length O < u → Gives (readings_of names W (length O) R) O O (refused 20 0)
    too_many h =
        let t = took x in
        subst (λ P. Gives (readings_of names W (length O) P) O O (refused 20 0)) (sym t.reads) (too_long t.wrote h)

    -- Taken again, into a buffer that has room, they are the same.
    pub all_read : u ≤ length O → {U : List ℕ} {r : Result ℕ Refusal} → EventsTaken R names W O U r → Gives (readings_of names W (length O) R) O U (writing_says r)
    all_read h {U} (all_taken {u = v} f w) =
        let t = took x in
        let same = subst (λ es. Wrote (readings_text names W es) 0 O U v) (same_value (sym f ∙ t.reads)) w in
        subst (λ P. Gives (readings_of names W (length O) P) O U (accepted v)) (sym t.reads) (all_fits t.wrote h same)
    all_read h (refused_at f) = absurd (not_both (sym (took x).reads ∙ f))
