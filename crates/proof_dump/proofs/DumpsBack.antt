-- The user's sentences about dumps (E6): what is written and read, read and added, read and written again.
-- Assumes of what add reads that it is at most 32,768 bytes. `s` is the sheet's text, T a table, d a dump, r a text of readings; O and Q are lent buffers before a call, O' and Q' after.
use mathlib.Core.Path.{◌≡◌, refl, sym, ap, subst, ◌∙◌}
use mathlib.Core.Bool.{Bool, true, false}
use mathlib.Core.List.{List}
use mathlib.Core.Logic.{◌↔◌}
use Prim.Native.Nat.{ℕ, ◌<◌, ◌≤◌}
use native.Mathlib.Omega.{arith}
use lib.ListN.{length, take}
use Rattle.spec_limits.specs.Limits.{most_bytes}
use Rattle.spec_tilco.specs.Inference.{mark, Clash}
use Rattle.spec_tilco.specs.Table.{Standing, Added}
use Rattle.read_bytes.specs.Read.{Read}
use Rattle.read_bytes.specs.Read.Read.{got, refused as unread}
use Rattle.read_bytes.specs.Bytes.{byte}
use Rattle.read_bytes.proofs.Answers.{same_value}
use Rattle.read_names.proofs.Names.{names_many}
use Rattle.read_sheet.specs.Sheet.{Contents, meant}
use Rattle.read_reading.specs.Spans.{marks_of_all}
use Rattle.read_readings.specs.Readings.{readings}
use Rattle.open_sheet.specs.Results.{Result, accepted, refused}
use Rattle.open_sheet.specs.SheetIn.{sheet_in, names_in}
use Rattle.open_table.proofs.Tables.{accepted_refused}
use Rattle.write_readings.specs.EntryTexts.{entries_text}
use Rattle.spec_operations.specs.Gain.{Gain}
use Rattle.spec_operations.specs.Operations.{Adds}
use Rattle.spec_operations.specs.Operations.Adds.{added}
use Rattle.spec_operations.specs.TextAnswers.{Gives}
use Rattle.spec_operations.proofs.Determined.{Reads, opens_sheet, opens_or_not}
use Rattle.spec_moves.proofs.ReadableNames.{names_readable}
use Rattle.proof_demands.specs.Refusals.{SheetAccepted, ReadingsAccepted}
use Rattle.proof_demands.proofs.Refusals.{sheet_in_lem, in_sheet_text, readings_in, case_table, up_taken}
use Rattle.spec_dump.specs.DumpTexts.{Event}
use Rattle.spec_dump.specs.DumpLines.{events}
use Rattle.spec_dump.specs.EventOrder.{Sign}
use Rattle.spec_dump.specs.DumpSigns.{dump_sign, sign_readings}
use Rattle.spec_dump.specs.Dumps.{with_room, WritesDump, readings_text, readings_of, dump_of, dump_readings, ReadsDump}
use Rattle.spec_dump.proofs.Signs.{answer_sign_lem}
use Rattle.spec_dump.proofs.ReadOrder.{events_follow}
use Rattle.proof_dump.specs.DumpReadings.{ReadingsText, Settled, SettledText, Said, DumpRead, HoldsJust, SameSigns}
use Rattle.proof_dump.specs.WriteCases.{DumpOf, WriteRefused}
use Rattle.proof_dump.specs.WriteCases.WriteRefused.{up_to_sixteen, twenty_three, twenty}
use Rattle.proof_dump.proofs.InRoom.{in_room, no_room, first_bytes}
use Rattle.proof_dump.proofs.WriteRefusals.{write_refusals}
use Rattle.proof_dump.proofs.KnownSigns.{one_value, same_sign, events_sign, answer_told}
use Rattle.proof_dump.proofs.ReadingTexts.{said_text, text_for, text_marks, text_reads, text_one}
use Rattle.proof_dump.proofs.TableDumps.{one_meaning, window_range, dump_left, dump_as, signs_of, events_of, dump_back, sign_back, said_settled, settled_alike}

-- ---- what is read

-- The readings that are written of a dump's events are those that their signs say.
signs_text_lem : (s : List ℕ) (k : Contents) (es : List Event) → ReadingsText (names_in s k) (Said es (length k.places) k.window) (readings_text (names_in s k) k.window es)
unfolding readings_text
signs_text_lem s k es =
    let names = names_in s k in
    let N = length k.places in
    let W = k.window in
    subst (λ (n : ℕ). ReadingsText names (Said es N W) (entries_text false names (sign_readings (dump_sign es) n 0 W))) (sym (names_many s k.places)) (said_text names es N W)

module _ {s : List ℕ} {k : Contents} (a : SheetAccepted s k) (d : List ℕ) {es : List Event} {q : ℕ} (e : events (names_in s k) k.window d ≡ got es q) where
  -- A dump that is read, whether there is room for its readings or not.
  pub dump_read : DumpRead s d (readings_text (names_in s k) k.window es)
  dump_read = record { contents = k; list = es; sheet = a; reads = e ∙ ap (got es) (events_follow (names_in s k) d k.window e).1; said = signs_text_lem s k es }

  -- Its readings are what a call writes, if there is room.
  reads_as : {O O' : List ℕ} {b : Result ℕ} → ReadsDump s d O O' b → Gives (with_room (length O) (readings_text (names_in s k) k.window es)) O O' b
  unfolding dump_readings
  reads_as {O} {O'} {b} g =
      let f = ap (dump_of s d (length O)) (in_sheet_text s a) ∙ ap (readings_of (names_in s k) k.window (length O)) e in
      subst (λ R. Gives R O O' b) f g

-- "A sign holds until the signal's next or the window's end; each 0 or 1 at a tick is written as an old-form reading, by tick, then signal": what an accepted call leaves is
-- the text of what every sign says.
pub read_exactly : {s d O O' : List ℕ} {n : ℕ} → ReadsDump s d O O' (accepted n) → DumpRead s d (take n O')
unfolding dump_readings
read_exactly {s} {d} {O} {O'} {n} g = of_sheet (sheet_in s) refl g
  where
    of_events : (k : Contents) → sheet_in s ≡ accepted k → (R : Read (List Event)) → events (names_in s k) k.window d ≡ R
        → Gives (readings_of (names_in s k) k.window (length O) R) O O' (accepted n) → DumpRead s d (take n O')
    of_events k e (got es q) f h = subst (DumpRead s d) (sym (first_bytes (in_room h))) (dump_read (sheet_in_lem s e) d f)
    of_events k e (unread m p) f h = absurd (accepted_refused h.answer)

    of_sheet : (R : Result Contents) → sheet_in s ≡ R → Gives (dump_of s d (length O) R) O O' (accepted n) → DumpRead s d (take n O')
    of_sheet (accepted k) e h = of_events k e (events (names_in s k) k.window d) refl h
    of_sheet (refused m p) e h = absurd (accepted_refused h.answer)

-- ---- read after write

-- The text of what is read of a table's dump is that of its settled values.
settled_text : {s T : List ℕ} {k : Contents} {d : List ℕ} (x : DumpOf s T k d) → SettledText s T (readings_text (names_in s k) k.window (events_of x))
settled_text {s} {k = k} x = record { contents = k; taken = x.taken; settled = text_for (said_settled x) (signs_text_lem s k (events_of x)) }

module _ {s T O O' : List ℕ} {n : ℕ} (w : WritesDump s T O O' (accepted n)) {Q Q' : List ℕ} where
  -- Reading what was written is writing the settled values, if there is room.
  back : {a : Result ℕ} → ReadsDump s (take n O') Q Q' a → (r : List ℕ) × SettledText s T r × Gives (with_room (length Q) r) Q Q' a
  back g =
      let x = (dump_left w).1 in
      (_, settled_text x, reads_as x.taken.sheet (take n O') (dump_back x) g)

  -- "Read after write gives exactly the settled values",
  pub settled_back : {m : ℕ} → ReadsDump s (take n O') Q Q' (accepted m) → SettledText s T (take m Q')
  settled_back g = let z = back g in subst (SettledText s T) (sym (first_bytes (in_room z.2))) z.1

  -- and is refused only where there is no room for them.
  pub written_is_read : {m p : ℕ} → ReadsDump s (take n O') Q Q' (refused m p) → (m ≡ 20) × (p ≡ 0) × ((r : List ℕ) × SettledText s T r × (length Q < length r))
  written_is_read g = let z = back g in let o = no_room z.2 in (o.number, o.place, (z.0, z.1, o.over))

-- So what is read of a table's dump says the table's settled values.
pub left_settled : {s T O O' r : List ℕ} {n : ℕ} → WritesDump s T O O' (accepted n) → (x : DumpRead s (take n O') r) → (y t : ℕ) (v : Bool)
    → Said x.list (length x.contents.places) x.contents.window (mark y t v) ↔ Settled T x.contents (mark y t v)
left_settled {T = T} w x y t v =
    let k = x.contents in
    let z = dump_as w x.sheet in
    subst (λ es. Said es (length k.places) k.window (mark y t v) ↔ Settled T k (mark y t v)) (same_value (sym (dump_back z) ∙ x.reads)) (said_settled z y t v)

-- ---- read and added

module _ {s d r : List ℕ} (x : DumpRead s d r) where
  -- The readings that are written are accepted as readings,
  module _ (short : length r ≤ most_bytes) where
    read_back : readings (names_in s x.contents) x.contents.window r ≡ got (marks_of_all x.said.list) (length r)
    read_back =
        let n = names_many s x.contents.places in
        text_reads x.said (names_readable s (in_sheet_text s x.sheet)) x.contents.window (window_range x.sheet).1 (λ y t v i. (omega (arith, i.0), i.1)) short

    pub read_accepted : ReadingsAccepted s x.contents r (marks_of_all x.said.list)
    read_accepted = readings_in s x.contents r read_back

    -- and add takes just their marks.
    pub add_takes : {T U : List ℕ} {g : Gain} → Adds s r T U (accepted g) → Added (meant x.contents) T (marks_of_all x.said.list) U
    add_takes {T} {U} (added {k} {ms} {q} o f A n c) =
        let e : k ≡ x.contents = one_meaning (sheet_in_lem s (opens_sheet o)) x.sheet in
        let i : ms ≡ marks_of_all x.said.list = same_value (sym (subst (Reads s r (got ms q)) e f) ∙ read_back) in
        subst (λ l. Added (meant x.contents) T l U) i (subst (λ (l : Contents). Added (meant l) T ms U) e A)

-- ---- read and written again: the table that holds just the readings of a dump

module _ {s d r : List ℕ} (x : DumpRead s d r) {T : List ℕ} (h : HoldsJust s T x.contents (marks_of_all x.said.list)) where
  -- What stands in it is what the dump's signs say.
  just_said : (y t : ℕ) (v : Bool) → Standing (meant x.contents) T (mark y t v) ↔ Said x.list (length x.contents.places) x.contents.window (mark y t v)
  just_said y t v = let m = text_marks x.said y t v in (λ i. m.0 ((h.marks (mark y t v)).0 i), λ i. (h.marks (mark y t v)).1 (m.1 i))

  -- A cell has one sign, so the table does not clash,
  pub never_clashes : Clash (Standing (meant x.contents) T) → ⊥
  never_clashes c = one_value (sym ((just_said c.row c.tick true).0 c.holds).2 ∙ ((just_said c.row c.tick false).0 c.fails).2)

  module _ {O O' : List ℕ} where
    -- and writing it is refused only where there is no room.
    pub never_refused : {n p : ℕ} → WritesDump s T O O' (refused n p) → (n ≡ 20) × (p ≡ 0)
    never_refused w = go (write_refusals.0 w).0
      where
        go : {n p : ℕ} → WriteRefused s T O n p → (n ≡ 20) × (p ≡ 0)
        go (up_to_sixteen y) = opens_or_not (up_taken h.taken) (case_table y)
        go (twenty_three y c) = absurd (never_clashes (subst (λ (l : Contents). Clash (Standing (meant l) T)) (one_meaning y.sheet x.sheet) c))
        go (twenty y l) = (refl, refl)

    module _ {n : ℕ} (w : WritesDump s T O O' (accepted n)) where
      -- Its dump says the same signs,
      pub same_signs : SameSigns s x.contents x.list (take n O')
      same_signs = record { list = events_of z; reads = dump_back z; same = same }
        where
          z : DumpOf s T x.contents (take n O')
          z = dump_as w x.sheet

          known : (y t : ℕ) → Sign (dump_sign x.list y t)
          known y t = let names = names_in s x.contents in let W = x.contents.window in events_sign W (length names) y t x.list 0 0 (byte "x") (events_follow names d W x.reads).0 refl

          same : (y t : ℕ) → y < length x.contents.places → t < x.contents.window → dump_sign (events_of z) y t ≡ dump_sign x.list y t
          same y t i j =
              sign_back z y t i j
              ∙ same_sign (signs_of z y t) (dump_sign x.list y t) (answer_sign_lem (z.answers y t)) (known y t)
              (λ v. let p = answer_told z.calm (z.answered y i t j) v in let q = just_said y t v in (λ e. (q.0 (p.0 e)).2, λ e. p.1 (q.1 (i, j, e))))

      -- and so it is read as the same text.
      pub read_again : {Q Q' : List ℕ} {m : ℕ} → ReadsDump s (take n O') Q Q' (accepted m) → take m Q' ≡ r
      read_again {Q} {Q'} {m} g =
          let y = settled_back w g in
          let k = one_meaning y.taken.sheet x.sheet in
          let z = subst (λ (c : Contents). ReadingsText (names_in s c) (Settled T c) (take m Q')) k y.settled in
          text_one (text_for (λ u t v. (λ i. (just_said u t v).0 i.2, λ i. (i.0, i.1, (just_said u t v).1 i))) z) x.said

-- Of the dump of a table it is the same dump, byte for byte.
pub same_dump : {s T O O' r U Q Q' : List ℕ} {n m : ℕ} → WritesDump s T O O' (accepted n) → (x : DumpRead s (take n O') r) → HoldsJust s U x.contents (marks_of_all x.said.list)
    → WritesDump s U Q Q' (accepted m) → take m Q' ≡ take n O'
same_dump w x h u =
    settled_alike (dump_as u x.sheet) (dump_as w x.sheet)
    (λ y t v. let k = left_settled w x y t v in (λ i. k.0 ((just_said x h y t v).0 i.2), λ i. let j = k.1 i in (j.0, j.1, (just_said x h y t v).1 j)))
