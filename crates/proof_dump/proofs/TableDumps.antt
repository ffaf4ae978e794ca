-- The dump of a table: it is read as the events that were written, which say just the settled values; so two tables with the same settled values have one dump.
-- Assumes nothing. `s` is the sheet's text, T and U are tables, k the sheet's contents, d and e dumps; O is the lent buffer before a call and O' after.
use mathlib.Core.Path.{◌≡◌, sym, ap, subst, ◌∙◌}
use mathlib.Core.Bool.{Bool}
use mathlib.Core.List.{List}
use mathlib.Core.Logic.{◌↔◌}
use Prim.Native.Nat.{ℕ, ◌<◌, ◌≤◌}
use native.Mathlib.Omega.{arith}
use lib.ListN.{length, take}
use Rattle.spec_tilco.specs.Inference.{mark}
use Rattle.read_bytes.specs.Read.Read.{got}
use Rattle.read_names.proofs.Names.{names_many}
use Rattle.read_sheet.specs.Sheet.{Contents}
use Rattle.open_sheet.specs.Results.{accepted}
use Rattle.open_sheet.specs.SheetIn.{names_in}
use Rattle.open_table.proofs.Tables.{in_sheet, accepted_one}
use Rattle.spec_moves.proofs.ReadableNames.{names_readable}
use Rattle.proof_demands.specs.Refusals.{SheetAccepted}
use Rattle.proof_demands.proofs.Refusals.{in_sheet_text}
use Rattle.spec_dump.specs.DumpTexts.{Event, dump_text}
use Rattle.spec_dump.specs.DumpLines.{events}
use Rattle.spec_dump.specs.DumpSigns.{dump_sign}
use Rattle.spec_dump.specs.TableSigns.{answer_sign, sign_events}
use Rattle.spec_dump.specs.Dumps.{table_dump, WritesDump}
use Rattle.spec_dump.proofs.Signs.{answer_sign_lem}
use Rattle.spec_dump.proofs.SignsBack.{signs_back}
use Rattle.spec_dump.proofs.DumpBack.{table_back}
use Rattle.spec_dump.proofs.Determined.{events_as}
use Rattle.proof_dump.specs.DumpReadings.{Settled, Said}
use Rattle.proof_dump.specs.WriteCases.{DumpOf}
use Rattle.proof_dump.proofs.InRoom.{first_bytes}
use Rattle.proof_dump.proofs.WriteRefusals.{write_accepts}
use Rattle.proof_dump.proofs.KnownSigns.{same_sign, answer_told}

-- One sheet has one meaning,
pub one_meaning : {s : List ℕ} {k l : Contents} → SheetAccepted s k → SheetAccepted s l → k ≡ l
one_meaning {s} x y = accepted_one (sym (in_sheet_text s x) ∙ in_sheet_text s y)

-- and its window has at least a tick, and few.
pub window_range : {s : List ℕ} {k : Contents} → SheetAccepted s k → (1 ≤ k.window) × (k.window ≤ 100000)
window_range {s} x = let z = (in_sheet s (in_sheet_text s x)).sizes in (z.window_low, omega (arith, z.window_high))

-- ---- what an accepted call leaves

module _ {s T O O' : List ℕ} {n : ℕ} (w : WritesDump s T O O' (accepted n)) where
  -- The first n bytes of the buffer are the table's dump,
  pub dump_left : (k : Contents) × DumpOf s T k (take n O')
  dump_left = let x = write_accepts.0 w in (x.contents, subst (DumpOf s T x.contents) (sym (first_bytes x.in_buffer)) x.is_dump)

  -- by what the sheet means.
  pub dump_as : {k : Contents} → SheetAccepted s k → DumpOf s T k (take n O')
  dump_as a = let x = dump_left in subst (λ (c : Contents). DumpOf s T c (take n O')) (one_meaning x.1.taken.sheet a) x.1

-- ---- the dump of a table

-- The signs that are written of a table.
abbrev pub signs_of : {s T : List ℕ} {k : Contents} {d : List ℕ} → DumpOf s T k d → ℕ → ℕ → ℕ
signs_of x y t = answer_sign (x.answers y t)

-- And the events.
abbrev pub events_of : {s T : List ℕ} {k : Contents} {d : List ℕ} → DumpOf s T k d → List Event
events_of {k = k} x = sign_events (signs_of x) (length k.places) k.window

module _ {s T : List ℕ} {k : Contents} {d : List ℕ} (x : DumpOf s T k d) where
  -- The dump is read as these events,
  pub dump_back : events (names_in s k) k.window d ≡ got (events_of x) (length d)
  unfolding table_dump
  dump_back =
      let names = names_in s k in
      let W = k.window in
      let w = window_range x.taken.sheet in
      let b = table_back names W (signs_of x) (names_readable s (in_sheet_text s x.taken.sheet)) w.0 w.1 (λ y t. answer_sign_lem (x.answers y t)) in
      let c = subst (λ (n : ℕ). events names W (dump_text names (sign_events (signs_of x) n W)) ≡ got (sign_events (signs_of x) n W) (length (dump_text names (sign_events (signs_of x) n W)))) (names_many s k.places) b in
      subst (λ (u : List ℕ). events names W u ≡ got (events_of x) (length u)) (sym x.text) c

  -- each signal has its sign at each tick,
  pub sign_back : (y t : ℕ) → y < length k.places → t < k.window → dump_sign (events_of x) y t ≡ signs_of x y t
  sign_back y t i j = signs_back (signs_of x) (length k.places) k.window y t i j

  -- and they say just the settled values.
  pub said_settled : (y t : ℕ) (v : Bool) → Said (events_of x) (length k.places) k.window (mark y t v) ↔ Settled T k (mark y t v)
  said_settled y t v = (
    λ z. (z.0, z.1, (answer_told x.calm (x.answered y z.0 t z.1) v).0 (sym (sign_back y t z.0 z.1) ∙ z.2)),
    λ z. (z.0, z.1, sign_back y t z.0 z.1 ∙ (answer_told x.calm (x.answered y z.0 t z.1) v).1 z.2),
  )

-- Two tables with the same settled values have one dump.
pub settled_alike : {s T U : List ℕ} {k : Contents} {d e : List ℕ} → DumpOf s T k d → DumpOf s U k e → ((y t : ℕ) (v : Bool) → Settled T k (mark y t v) ↔ Settled U k (mark y t v)) → d ≡ e
unfolding table_dump
settled_alike {s} {k = k} x y h =
    x.text ∙ ap (dump_text (names_in s k)) (events_as (signs_of x) (signs_of y) (length k.places) k.window (window_range x.taken.sheet).0 same) ∙ sym y.text
  where
    same : (z : ℕ) → z < length k.places → (t : ℕ) → t < k.window → signs_of x z t ≡ signs_of y z t
    same z i t j =
        same_sign (signs_of x z t) (signs_of y z t) (answer_sign_lem (x.answers z t)) (answer_sign_lem (y.answers z t))
        (λ v. let p = answer_told x.calm (x.answered z i t j) v in
        let q = answer_told y.calm (y.answered z i t j) v in
        (λ e. q.1 ((h z t v).0 (i, j, p.0 e)).2, λ e. p.1 ((h z t v).1 (i, j, q.0 e)).2))
