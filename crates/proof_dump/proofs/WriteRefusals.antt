-- Each answer of writing a dump exactly in its listed case, a refusal keeps every byte of the lent buffer, and every input has one.
-- Assumes nothing. `s` is the sheet's text, T the lent table, O the lent buffer before and O' after; n is the number and p the place.
use mathlib.Core.Path.{◌≡◌, refl, sym, subst}
use mathlib.Core.List.{List}
use mathlib.Core.Logic.{◌↔◌}
use Prim.Native.Nat.{ℕ}
use native.Mathlib.Omega.{arith}
use lib.ListN.{length}
use Rattle.spec_tilco.specs.Inference.{Clash}
use Rattle.spec_tilco.specs.Table.{words, Standing, Answer}
use Rattle.read_sheet.specs.Sheet.{Contents, meant}
use Rattle.open_sheet.specs.Results.{Result, accepted, refused}
use Rattle.open_table.specs.Opens.{Opens}
use Rattle.spec_operations.specs.TextAnswers.{Gives}
use Rattle.spec_operations.proofs.TextAnswers.{gives_some, gives_refused, gives_text}
use Rattle.proof_demands.proofs.Deciding.{clash_told}
use Rattle.proof_demands.proofs.Refusals.{table_case, case_table, taken_up, up_taken}
use Rattle.proof_demands.proofs.Answered.{opens_some, asked_some}
use Rattle.spec_dump.specs.Dumps.{with_room, table_dump, WritesDump}
use Rattle.spec_dump.specs.Dumps.WritesDump.{not_opened, clashing, written}
use Rattle.spec_dump.proofs.Rooms.{room_for, over_room}
use Rattle.spec_dump.proofs.Determined.{AnswersIn, writes_one}
use Rattle.proof_dump.specs.WriteCases.{DumpOf, WriteRefused, DumpWritten}
use Rattle.proof_dump.specs.WriteCases.WriteRefused.{up_to_sixteen, twenty_three, twenty}
use Rattle.proof_dump.proofs.InRoom.{in_room, no_room}

-- What is written of a table that does not clash is its dump.
pub of_answers : {s T : List ℕ} {k : Contents} {f : ℕ → ℕ → Answer} → Opens s T (accepted k) → (Clash (Standing (meant k) T) → ⊥) → AnswersIn T f k → DumpOf s T k (table_dump s k f)
of_answers {f = f} o c q = record { answers = f; taken = taken_up o; calm = c; answered = q; text = refl }

module _ {s T O O' : List ℕ} where
  -- A dump that is written, whether there is room for it or not.
  of_dump : {k : Contents} {d : List ℕ} {a : Result ℕ} → DumpOf s T k d → Gives (with_room (length O) d) O O' a → WritesDump s T O O' a
  of_dump {a = a} x g = written (up_taken x.taken) x.calm x.answered (subst (λ d. Gives (with_room (length O) d) O O' a) x.text g)

  write_case : {n p : ℕ} → WritesDump s T O O' (refused n p) → WriteRefused s T O n p × (O' ≡ O)
  write_case (not_opened o e) = (up_to_sixteen (table_case o), e)
  write_case (clashing o c e) = (twenty_three (taken_up o) c, e)
  write_case {n} {p} (written o c q g) =
      let x = no_room g in
      (subst (WriteRefused s T O n) (sym x.place) (subst (λ m. WriteRefused s T O m 0) (sym x.number) (twenty (of_answers o c q) (omega (arith, x.over)))), x.stays)

  case_write : {n p : ℕ} → WriteRefused s T O n p → O' ≡ O → WritesDump s T O O' (refused n p)
  case_write (up_to_sixteen x) e = not_opened (case_table x) e
  case_write (twenty_three x c) e = clashing (up_taken x) c e
  case_write (twenty {d = d} x l) e = of_dump x (subst (λ U. Gives (with_room (length O) d) O U (refused 20 0)) (sym e) (gives_refused (over_room d (length O) (omega arith)) O))

  -- "Each refusal is given exactly in its case. It returns number and place only, and every lent table and buffer keeps every word." Those of writing a dump:
  -- "after 16, 23 for a clashing table, then 20".
  pub write_refusals : {n p : ℕ} → WritesDump s T O O' (refused n p) ↔ (WriteRefused s T O n p × (O' ≡ O))
  write_refusals = (write_case, λ x. case_write x.0 x.1)

  write_text : {n : ℕ} → WritesDump s T O O' (accepted n) → DumpWritten s T O O' n
  write_text (written {k} {f} o c q g) = record { contents = k; dump = table_dump s k f; is_dump = of_answers o c q; in_buffer = in_room g }

  text_write : {n : ℕ} → DumpWritten s T O O' n → WritesDump s T O O' (accepted n)
  text_write x = let i = x.in_buffer in of_dump x.is_dump (gives_text (room_for x.dump (length O) i.room) O i.answer i.buffer)

  -- "A written text starts at its buffer's first place, its length is answered, and the rest of the buffer stays."
  pub write_accepts : {n : ℕ} → WritesDump s T O O' (accepted n) ↔ DumpWritten s T O O' n
  write_accepts = (write_text, text_write)

-- No input has two refusals: what is given in one case is given in no other.
pub refusal_one : {s T O : List ℕ} {n p m q : ℕ} → WriteRefused s T O n p → WriteRefused s T O m q → (n ≡ m) × (p ≡ q)
refusal_one {O = O} x y = let e = (writes_one (case_write {O' = O} x refl) (case_write {O' = O} y refl)).1 in (cc, cc)

-- Every call gets an answer: for every sheet, table and buffer there is one that the contract allows.
pub writes_some : (s T O : List ℕ) → (O' : List ℕ) × (a : Result ℕ) × WritesDump s T O O' a
writes_some s T O = let x = opens_some s T in go x.0 x.1
  where
    of_table : {k : Contents} → Opens s T (accepted k) → Dec (Clash (Standing (meant k) T)) → (O' : List ℕ) × (a : Result ℕ) × WritesDump s T O O' a
    of_table o (yes c) = (O, refused 23 0, clashing o c refl)
    of_table {k} o (no c) =
        let f : ℕ → ℕ → Answer = λ x t. (asked_some s T x t (words k.window)).0 in
        let g = gives_some (with_room (length O) (table_dump s k f)) O in
        (g.0, g.1, written o c (λ x h t i. (asked_some s T x t (words k.window)).1) g.2)

    go : (R : Result Contents) → Opens s T R → (O' : List ℕ) × (a : Result ℕ) × WritesDump s T O O' a
    go (accepted k) o = of_table o (clash_told (words k.window) T)
    go (refused n p) o = (O, refused n p, not_opened o refl)
