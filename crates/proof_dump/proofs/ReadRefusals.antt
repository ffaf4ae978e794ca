-- Each answer of reading a dump exactly in its listed case, and a refusal keeps every byte of the lent buffer.
-- Assumes nothing. `s` is the sheet's text, d the dump, O the lent buffer; n is the number and p the place.
use mathlib.Core.Path.{◌≡◌, refl, sym, ap, subst, ◌∙◌}
use mathlib.Core.List.{List}
use mathlib.Core.Logic.{◌↔◌}
use Prim.Native.Nat.{ℕ, ◌<◌, ◌≤◌}
use native.Mathlib.Decide.{dec_lt}
use native.Mathlib.Omega.{arith}
use lib.ListN.{length}
use Rattle.read_bytes.specs.Read.{Read}
use Rattle.read_bytes.specs.Read.Read.{got, refused as unread}
use Rattle.read_names.proofs.Names.{Differ}
use Rattle.read_sheet.specs.Sheet.{Contents}
use Rattle.open_sheet.specs.Results.{Result, accepted, refused}
use Rattle.open_sheet.specs.SheetIn.{sheet_in, names_in}
use Rattle.open_table.proofs.Tables.{in_sheet}
use Rattle.proof_demands.specs.Refusals.{SheetAccepted}
use Rattle.proof_demands.proofs.Refusals.{sheet_case, case_sheet, sheet_in_lem, in_sheet_text}
use Rattle.spec_operations.specs.TextAnswers.{Gives}
use Rattle.spec_operations.proofs.TextAnswers.{gives_refused, gives_text}
use Rattle.spec_moves.proofs.ReadableNames.{names_readable}
use Rattle.spec_dump.specs.DumpTexts.{Event}
use Rattle.spec_dump.specs.DumpLines.{events}
use Rattle.spec_dump.specs.Dumps.{with_room, readings_of, dump_of, dump_readings, ReadsDump}
use Rattle.spec_dump.proofs.Rooms.{room_for, over_room}
use Rattle.spec_dump.proofs.ReadOrder.{events_follow}
use Rattle.proof_dump.specs.DumpCases.{DumpFault, DumpWhole}
use Rattle.proof_dump.specs.ReadCases.{DumpSays, ReadRefused, ReadIn}
use Rattle.proof_dump.specs.ReadCases.ReadRefused.{up_to_nine, line_by_line, twenty}
use Rattle.proof_dump.proofs.DumpCases.{dump_refused, dump_accepted}

-- ---- the dump of an accepted sheet

module _ (s d : List ℕ) {k : Contents} (sheet : SheetAccepted s k) where
  in_text : sheet_in s ≡ accepted k
  in_text = in_sheet_text s sheet

  window_some : 1 ≤ k.window
  window_some = (in_sheet s in_text).sizes.window_low

  names_differ : Differ (names_in s k)
  names_differ = (names_readable s in_text).differ

  lines_refused : (n p : ℕ) → (events (names_in s k) k.window d ≡ unread n p) ↔ DumpFault (names_in s k) k.window d n p
  lines_refused = dump_refused (names_in s k) k.window window_some names_differ d

  lines_accepted : (es : List Event) → (events (names_in s k) k.window d ≡ got es (length d)) ↔ DumpWhole (names_in s k) k.window d es
  lines_accepted = dump_accepted (names_in s k) k.window window_some names_differ d

  dump_reads : (room : ℕ) → dump_readings s d room ≡ readings_of (names_in s k) k.window room (events (names_in s k) k.window d)
  unfolding dump_readings
  dump_reads room = ap (dump_of s d room) in_text

-- ---- what each case gives

module _ (s d : List ℕ) where
  of_says : (room : ℕ) {k : Contents} {es : List Event} {t : List ℕ} → DumpSays s d k es t → dump_readings s d room ≡ with_room room t
  of_says room {k} {es} x =
      dump_reads s d x.sheet room ∙ ap (readings_of (names_in s k) k.window room) ((lines_accepted s d x.sheet es).1 x.dump) ∙ ap (with_room room) (sym x.text)

  refused_by : {O : List ℕ} {n p : ℕ} → ReadRefused s d O n p → dump_readings s d (length O) ≡ refused n p
  unfolding dump_readings
  refused_by {O} (up_to_nine x) = ap (dump_of s d (length O)) (case_sheet s x)
  refused_by {O} (line_by_line {k} {n} {p} x f) = dump_reads s d x (length O) ∙ ap (readings_of (names_in s k) k.window (length O)) ((lines_refused s d x n p).1 f)
  refused_by {O} (twenty {t = t} x l) = of_says (length O) x ∙ over_room t (length O) l

  accepted_by : {O O' : List ℕ} {n : ℕ} → ReadIn s d O O' n → ReadsDump s d O O' (accepted n)
  accepted_by {O} x = gives_text (of_says (length O) x.is_text ∙ room_for x.text (length O) x.in_buffer.room) O x.in_buffer.answer x.in_buffer.buffer

-- ---- and that there is no other

-- What is read, or refused, by its case.
data Case (s d O : List ℕ) : Result (List ℕ) → Type 0 where
  off : {n p : ℕ} → ReadRefused s d O n p → Case s d O (refused n p)
  on : {k : Contents} {es : List Event} {t : List ℕ} → DumpSays s d k es t → length t ≤ length O → Case s d O (accepted t)

module _ (s d O : List ℕ) where
  of_length : {k : Contents} {es : List Event} {t : List ℕ} → DumpSays s d k es t → Case s d O (with_room (length O) t)
  of_length {t = t} x = go (dec_lt (length O) (length t))
    where
      go : Dec (length O < length t) → Case s d O (with_room (length O) t)
      go (yes l) = rw (over_room t (length O) l) (off (twenty x l))
      go (no l) = rw (room_for t (length O) (omega arith)) (on x (omega arith))

  of_dump : {k : Contents} → SheetAccepted s k → (R : Read (List Event)) → events (names_in s k) k.window d ≡ R → Case s d O (readings_of (names_in s k) k.window (length O) R)
  of_dump {k} x (got es q) e =
      let i = (events_follow (names_in s k) d k.window e).1 in
      of_length (record { sheet = x; dump = (lines_accepted s d x es).0 (e ∙ ap (got es) i); text = refl })
  of_dump x (unread n p) e = off (line_by_line x ((lines_refused s d x n p).0 e))

  of_sheet : (R : Result Contents) → sheet_in s ≡ R → Case s d O (dump_of s d (length O) R)
  of_sheet (accepted k) e = of_dump (sheet_in_lem s e) (events (names_in s k) k.window d) refl
  of_sheet (refused n p) e = off (up_to_nine (sheet_case s e))

  which : Case s d O (dump_readings s d (length O))
  unfolding dump_readings
  which = of_sheet (sheet_in s) refl

abbrev Refusal : List ℕ → List ℕ → List ℕ → List ℕ → Result ℕ → Type 0
Refusal s d O O' (accepted n) = Unit {0}
Refusal s d O O' (refused n p) = ReadRefused s d O n p × (O' ≡ O)

refusal_of : {s d O : List ℕ} {R : Result (List ℕ)} → Case s d O R → {O' : List ℕ} {a : Result ℕ} → Gives R O O' a → Refusal s d O O' a
refusal_of {s} {d} {O} (off x) {O'} g = subst (Refusal s d O O') (sym g.answer) (x, g.leaves)
refusal_of {s} {d} {O} (on x l) {O'} g = subst (Refusal s d O O') (sym g.answer) tt

abbrev Acceptance : List ℕ → List ℕ → List ℕ → List ℕ → Result ℕ → Type 0
Acceptance s d O O' (accepted n) = ReadIn s d O O' n
Acceptance s d O O' (refused n p) = Unit {0}

acceptance_of : {s d O : List ℕ} {R : Result (List ℕ)} → Case s d O R → {O' : List ℕ} {a : Result ℕ} → Gives R O O' a → Acceptance s d O O' a
acceptance_of {s} {d} {O} (off x) {O'} g = subst (Acceptance s d O O') (sym g.answer) tt
acceptance_of {s} {d} {O} (on {k} {es} {t} x l) {O'} g =
    subst (Acceptance s d O O') (sym g.answer) (record { contents = k; events = es; text = t; is_text = x; in_buffer = record { room = l; answer = refl; buffer = g.leaves } })

-- ---- the theorems

module _ (s d : List ℕ) {O O' : List ℕ} where
  -- "Each refusal is given exactly in its case. It returns number and place only, and every lent table and buffer keeps every word." Those of reading a dump:
  -- "after 9, 22 for any other or missing line, 12 for a name not declared, 13 for a tick outside the window, last 20".
  pub read_refusals : {n p : ℕ} → ReadsDump s d O O' (refused n p) ↔ (ReadRefused s d O n p × (O' ≡ O))
  read_refusals {n} {p} = (
    λ g. refusal_of (which s d O) g,
    λ x. subst (λ U. ReadsDump s d O U (refused n p)) (sym x.1) (gives_refused (refused_by s d x.0) O),
  )

  -- "A written text starts at its buffer's first place, its length is answered, and the rest of the buffer stays."
  pub read_accepts : {n : ℕ} → ReadsDump s d O O' (accepted n) ↔ ReadIn s d O O' n
  read_accepts = (λ g. acceptance_of (which s d O) g, λ x. accepted_by s d x)

-- No input has two refusals: what is given in one case is given in no other.
pub refusal_one : (s d : List ℕ) {O : List ℕ} {n p m q : ℕ} → ReadRefused s d O n p → ReadRefused s d O m q → (n ≡ m) × (p ≡ q)
refusal_one s d {O} x y = let e = sym (refused_by s d x) ∙ refused_by s d y in (cc, cc)
