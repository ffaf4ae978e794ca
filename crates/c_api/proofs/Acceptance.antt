-- A call answers 0 exactly if it is accepted: every refusal has a number from 1 to 23.
-- Assumes nothing.
use mathlib.Core.Path.{◌≡◌, refl, sym, subst}
use mathlib.Core.Bool.{Bool, true, false, ◌&&◌}
use mathlib.Core.List.{List, []}
use mathlib.Core.Logic.{◌↔◌}
use mathlib.Core.Option.{Option, none, some}
use Prim.Native.Nat.{ℕ}
use lib.Dec.{leb}
use lib.ListN.{length}
use Rattle.spec_limits.specs.Limits.{most_rule_bytes}
use Rattle.read_bytes.specs.Read.{Read}
use Rattle.read_bytes.specs.Read.Read.{got, refused as unread}
use Rattle.read_bytes.specs.Bytes.{pick}
use Rattle.spec_tilco.specs.Formula.{Written}
use Rattle.spec_tilco.specs.Table.{Answer}
use Rattle.read_sheet.specs.Sheet.{Contents, sheet_of, meant}
use Rattle.open_sheet.specs.Results.{Result, accepted, refused}
use Rattle.spec_operations.specs.Gain.{Gain}
use Rattle.open_sheet.specs.SheetIn.{fits, sized, sheet_in, names_in}
use Rattle.open_table.specs.Opens.{Opens}
use Rattle.open_table.specs.Opens.Opens.{both, not_the_sheet, not_the_length, not_inside}
use Rattle.spec_operations.specs.Operations.{counted, checked, Adds, Asks}
use Rattle.spec_operations.specs.Operations.Adds.{not_opened, not_read, added}
use Rattle.spec_operations.specs.Operations.Asks.{not_opened as not_asked, out_of_range, asked}
use Rattle.spec_moves.specs.Moves.{Moves}
use Rattle.spec_moves.specs.Moves.Moves.{not_opened as no_sheet, not_read as no-readings, no_room, moved}
use Rattle.spec_print.specs.RuleTexts.{printed}
use Rattle.spec_operations.specs.TextAnswers.{length_of}
use Rattle.spec_print.specs.Printing.{with_room, printed_rule, printed_of, rule_at, printing, PrintsRule}
use Rattle.spec_dump.specs.DumpTexts.{Event}
use Rattle.spec_dump.specs.DumpLines.{events}
use Rattle.spec_dump.specs.Dumps.{table_dump, WritesDump, readings_text, readings_of, dump_of, dump_readings, ReadsDump}
use Rattle.spec_dump.specs.Dumps as dump
use Rattle.spec_dump.specs.Dumps.WritesDump.{not_opened as no_table, clashing, written}
use Rattle.spec_figures.specs.declared.Record.{Record}
use Rattle.spec_figures.specs.Texts.{texts_in}
use Rattle.spec_figures.specs.Figures.{Figures}
use Rattle.spec_figures.specs.Figures.Figures.{not_opened as unopened, not_the_table, not_the_records, not_the_lengths, not_read as no-texts, figured}
use Rattle.c_api.specs.Leaves.{Left, left, leaves, one_value_lem, gain_values, answer_values, no_values, CheckLeaves, AddLeaves, AskLeaves, TextLeaves, MoveLeaves, PrintLeaves, WriteDumpLeaves, ReadDumpLeaves, FigureLeaves}
use Rattle.c_api.proofs.Numbers.{Listed, Numbered, sheet_numbered, readings_numbered, texts_numbered, events_numbered}

-- Accepted, or refused by a listed number.
abbrev pub Told : {A : Type 0} → Result A → Type 0
Told (accepted x) = Unit {0}
Told (refused n p) = Listed n

abbrev pub Accepted : {A : Type 0} → Result A → Type 0
Accepted (accepted x) = Unit {0}
Accepted (refused n p) = ⊥

-- The number that a call answers.
abbrev pub answer_of : Left → ℕ
answer_of (left n place values) = n

-- ---- every refusal has a listed number

-- What passes a test is accepted, and else refused by a listed number.
pick_told : {A : Type 0} (b : Bool) (x : A) (n p : ℕ) → Listed n → Told (pick b (λ _. accepted x) (refused n p))
pick_told true x n p h = tt
pick_told false x n p h = h

sized_told : (R : Read Contents) → Numbered R → Told (sized R)
sized_told (got k q) h = pick_told (fits (meant k)) k 9 0 tt
sized_told (unread n p) h = h

counted_told : (R : Result Contents) → Told R → Told (counted R)
counted_told (accepted k) h = tt
counted_told (refused n p) h = h

length_told : (R : Result (List ℕ)) → Told R → Told (length_of R)
length_told (accepted t) h = tt
length_told (refused n p) h = h

module _ (s : List ℕ) where
  pub sheet_told : Told (sheet_in s)
  unfolding sheet_in
  sheet_told = sized_told (sheet_of s) (sheet_numbered s)

  pub check_told : Told (checked s)
  check_told = counted_told (sheet_in s) sheet_told

  opens_told : {T : List ℕ} {x : Result Contents} → Opens s T x → Told x
  opens_told (both e l i) = tt
  opens_told (not_the_sheet e) = subst Told e sheet_told
  opens_told (not_the_length e l) = tt
  opens_told (not_inside e l i) = tt

  pub add_told : {r T U : List ℕ} {x : Result Gain} → Adds s r T U x → Told x
  add_told (not_opened o e) = opens_told o
  add_told {r} (not_read {k} o e u) = subst Numbered e (readings_numbered (names_in s k) k.window r)
  add_told (added o e A g c) = tt

  pub ask_told : {T : List ℕ} {signal tick : ℕ} {x : Result Answer} → Asks s T signal tick x → Told x
  ask_told (not_asked o) = opens_told o
  ask_told (out_of_range o i) = tt
  ask_told (asked o i a) = tt

  pub move_told : {spans : Bool} {r O O' : List ℕ} {x : Result ℕ} → Moves spans s r O O' x → Told x
  move_told (no_sheet e u) = subst Told e sheet_told
  move_told {r = r} (no-readings {k} e f u) = subst Numbered f (readings_numbered (names_in s k) k.window r)
  move_told (no_room w h u) = tt
  move_told (moved w h l u) = tt

  room_told : (room : ℕ) (t : List ℕ) → Told (with_room room t)
  unfolding with_room
  room_told room t = pick_told (leb (length t) most_rule_bytes && leb (length t) room) t 20 0 tt

  rule_told : (names : List (List ℕ)) (room : ℕ) (o : Option Written) → Told (printed_rule names room o)
  rule_told names room none = tt
  rule_told names room (some f) = room_told room (printed names f)

  printed_told : (rule room : ℕ) (R : Result Contents) → Told R → Told (length_of (printed_of s rule room R))
  printed_told rule room (accepted k) h = length_told (printed_rule (names_in s k) room (rule_at k.rules rule)) (rule_told (names_in s k) room (rule_at k.rules rule))
  printed_told rule room (refused n p) h = h

  pub print_told : (rule : ℕ) {O O' : List ℕ} {x : Result ℕ} → PrintsRule s rule O O' x → Told x
  unfolding printing
  print_told rule {O} a = subst Told (sym a.answer) (printed_told rule (length O) (sheet_in s) sheet_told)

  dump_room_told : (room : ℕ) (t : List ℕ) → Told (dump.with_room room t)
  unfolding dump.with_room
  dump_room_told room t = pick_told (leb (length t) room) t 20 0 tt

  pub write_dump_told : {T O O' : List ℕ} {x : Result ℕ} → WritesDump s T O O' x → Told x
  write_dump_told (no_table o e) = opens_told o
  write_dump_told (clashing o c e) = tt
  write_dump_told {O = O} (written {k} {f} o c a g) =
      subst Told (sym g.answer) (length_told (dump.with_room (length O) (table_dump s k f)) (dump_room_told (length O) (table_dump s k f)))

  readings_told : (names : List (List ℕ)) (W room : ℕ) (R : Read (List Event)) → Numbered R → Told (readings_of names W room R)
  readings_told names W room (got es q) h = dump_room_told room (readings_text names W es)
  readings_told names W room (unread n p) h = h

  dump_told : (d : List ℕ) (room : ℕ) (R : Result Contents) → Told R → Told (dump_of s d room R)
  dump_told d room (accepted k) h = readings_told (names_in s k) k.window room (events (names_in s k) k.window d) (events_numbered (names_in s k) k.window d)
  dump_told d room (refused n p) h = h

  pub read_dump_told : (d : List ℕ) {O O' : List ℕ} {x : Result ℕ} → ReadsDump s d O O' x → Told x
  unfolding dump_readings
  read_dump_told d {O} a = subst Told (sym a.answer) (length_told (dump_of s d (length O) (sheet_in s)) (dump_told d (length O) (sheet_in s) sheet_told))

  pub figure_told : {j ns T U : List ℕ} {m : ℕ} {x : Result (List Record)} → Figures s j ns T U m x → Told x
  figure_told (unopened e u) = subst Told e sheet_told
  figure_told (not_the_table e l u) = tt
  figure_told (not_the_records e l f u) = tt
  figure_told (not_the_lengths e l f g u) = tt
  figure_told {j} {ns} (no-texts {k} e l f g h u) = subst Numbered h (texts_numbered (names_in s k) k.window 0 (texts_in ns j))
  figure_told (figured e l f g h r) = tt

-- ---- so 0 tells acceptance

zero_tells : {A : Type 0} (values : A → List ℕ) (place : ℕ) (before : List ℕ) (x : Result A) → Told x → (answer_of (leaves values place before x) ≡ 0) ↔ Accepted x
zero_tells values place before (accepted x) h = (λ _. tt, λ _. refl)
zero_tells values place before (refused n p) h = (λ e. subst Listed e h, λ b. absurd b)

module _ (s : List ℕ) (place : ℕ) (before : List ℕ) {l : Left} where
  pub check_zero : CheckLeaves s place before l → (answer_of l ≡ 0) ↔ Accepted (checked s)
  check_zero e = subst (λ (k : Left). (answer_of k ≡ 0) ↔ Accepted (checked s)) (sym e) (zero_tells one_value_lem place before (checked s) (check_told s))

  pub add-zero : {r T U : List ℕ} (c : AddLeaves s r T U place before l) → (answer_of l ≡ 0) ↔ Accepted c.0
  add-zero (x, a, e) = subst (λ (k : Left). (answer_of k ≡ 0) ↔ Accepted x) (sym e) (zero_tells gain_values place before x (add_told s a))

  pub ask_zero : {T : List ℕ} {signal tick : ℕ} (c : AskLeaves s T signal tick place before l) → (answer_of l ≡ 0) ↔ Accepted c.0
  ask_zero (x, a, e) = subst (λ (k : Left). (answer_of k ≡ 0) ↔ Accepted x) (sym e) (zero_tells answer_values place before x (ask_told s a))

  -- Of a call that writes a text.
  text_zero : {P : Result ℕ → Type 0} → ((x : Result ℕ) → P x → Told x) → (c : TextLeaves P place before l) → (answer_of l ≡ 0) ↔ Accepted c.0
  text_zero told (x, a, e) = subst (λ (k : Left). (answer_of k ≡ 0) ↔ Accepted x) (sym e) (zero_tells one_value_lem place before x (told x a))

  pub move_zero : {spans : Bool} {r O O' : List ℕ} (c : MoveLeaves spans s r O O' place before l) → (answer_of l ≡ 0) ↔ Accepted c.0
  move_zero c = text_zero (λ x a. move_told s a) c

  pub print_zero : (rule : ℕ) {O O' : List ℕ} (c : PrintLeaves s rule O O' place before l) → (answer_of l ≡ 0) ↔ Accepted c.0
  print_zero rule c = text_zero (λ x a. print_told s rule a) c

  pub write_dump_zero : {T O O' : List ℕ} (c : WriteDumpLeaves s T O O' place before l) → (answer_of l ≡ 0) ↔ Accepted c.0
  write_dump_zero c = text_zero (λ x a. write_dump_told s a) c

  pub read_dump_zero : (d : List ℕ) {O O' : List ℕ} (c : ReadDumpLeaves s d O O' place before l) → (answer_of l ≡ 0) ↔ Accepted c.0
  read_dump_zero d c = text_zero (λ x a. read_dump_told s d a) c

  pub figure_zero : {j ns T U : List ℕ} {X X' : List Record} (c : FigureLeaves s j ns T U X X' place l) → (answer_of l ≡ 0) ↔ Accepted c.0
  figure_zero (x, a, f, e) = subst (λ (k : Left). (answer_of k ≡ 0) ↔ Accepted x) (sym e) (zero_tells no_values place [] x (figure_told s a))
