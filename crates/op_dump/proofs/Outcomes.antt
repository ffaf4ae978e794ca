-- What the outcomes of reading and of writing a dump say, with the sheet at hand.
-- Assumes what each law states. `s` is the sheet's text, d the dump, T the table, O the buffer before and U after.
use mathlib.Core.Path.{◌≡◌, refl, sym, subst, ◌∙◌}
use mathlib.Core.Bool.{Bool, true, false, true≢false}
use mathlib.Core.List.{List}
use mathlib.Core.Logic.{◌↔◌}
use Prim.Native.Nat.{ℕ, suc, ◌<◌, ◌≤◌}
use native.Mathlib.Omega.{arith}
use lib.ListN.{length, length-drop}
use Rattle.spec_limits.specs.Limits.{most_ticks}
use Rattle.spec_tilco.specs.Inference.{Clash}
use Rattle.spec_tilco.specs.Table.{words, Stands, Asked}
use Rattle.read_bytes.specs.Read.Read.{got, refused as unread}
use Rattle.read_names.specs.Spellings.{names_at}
use Rattle.read_names.proofs.Names.{names_many}
use Rattle.read_index.specs.Index.{links, places_in, name_count, names_in}
use Rattle.read_head.proofs.DeclaredNames.{head_names}
use Rattle.read_sheet.proofs.Wholes.{sheet_head}
use Rattle.open_sheet.specs.Results.{Result, refused}
use Rattle.open_sheet.specs.SheetIn.{sheet_in}
use Rattle.open_sheet.specs.OpenedSheet.{OpenedSheet}
use Rattle.open_table.specs.OpenedTable.{OpenedTable}
use Rattle.open_table.proofs.Tables.{InSheet, in_sheet}
use Rattle.spec_operations.specs.TextAnswers.{Gives}
use Rattle.spec_operations.proofs.Opened.{to_contents, some_window, some_words, signals_few, signals_fit}
use Rattle.spec_operations.proofs.TextAnswers.{gives_refused}
use Rattle.spec_dump.specs.DumpTexts.{dump_text}
use Rattle.spec_dump.specs.DumpLines.{head_lines, events_from, events}
use Rattle.spec_dump.specs.TableSigns.{answer_sign, sign_events}
use Rattle.spec_dump.specs.Dumps.{with_room, table_dump, WritesDump, readings_of, dump_readings, ReadsDump}
use Rattle.spec_dump.specs.Dumps.WritesDump.{clashing, written}
use Rattle.spec_dump.proofs.Determined.{events_as}
use Rattle.dump_changes.specs.WordSigns.{row_sign}
use Rattle.dump_text.specs.TableTexts.{CanDump, ShortNames}
use Rattle.op_dump.proofs.RowAnswers.{row_answer, answer_sign_lem, row_asked}

-- ---- reading

-- An index has as many names as places.
names_long : (s T : List ℕ) → length (names_in s T) ≡ name_count T
names_long s T = names_many s (places_in T) ∙ length-drop links T

module _ (s T d : List ℕ) (W : ℕ) where
  pub head_off : {n p : ℕ} → head_lines (names_in s T) d ≡ unread n p → (O : List ℕ) → Gives (readings_of (names_in s T) W (length O) (events (names_in s T) W d)) O O (refused n p)
  unfolding events
  head_off e O = gives_refused (rw e) O

  -- The events after the head are the dump's.
  events_are : {x p : ℕ} → head_lines (names_in s T) d ≡ got x p → events (names_in s T) W d ≡ events_from W (name_count T) d (suc (length d)) 0 0 p
  unfolding events
  events_are {p = p} e = rw (e, names_long s T)

  pub head_read : {x p : ℕ} {O U : List ℕ} {a : Result ℕ} → head_lines (names_in s T) d ≡ got x p
      → Gives (readings_of (names_in s T) W (length O) (events_from W (name_count T) d (suc (length d)) 0 0 p)) O U a → Gives (readings_of (names_in s T) W (length O) (events (names_in s T) W d)) O U a
  head_read {O = O} {U} {a} e g = subst (λ R. Gives (readings_of (names_in s T) W (length O) R) O U a) (sym (events_are e)) g

-- The sheet is refused.
pub sheet_off : (s : List ℕ) {n p : ℕ} → sheet_in s ≡ refused n p → (d O : List ℕ) → ReadsDump s d O O (refused n p)
unfolding dump_readings
sheet_off s e d O = gives_refused (rw e) O

module _ {s places B tops : List ℕ} {w t count : ℕ} (k : OpenedSheet s places B tops w t count) where
  known : InSheet s k.contents
  known = in_sheet s k.holds

  pub window_fits : (1 ≤ w) × (w ≤ most_ticks)
  window_fits = (omega (arith, known.sizes.window_low, k.window_is), omega (arith, known.sizes.window_high, k.window_is))

  pub names_short : ShortNames (names_at s places)
  names_short = subst (λ (p : List ℕ). ShortNames (names_at s p)) (sym k.names_are) (head_names s (sheet_head s known.reads).2).short

  -- What is written of the numbers at hand is what is promised.
  pub as_read : (d : List ℕ) {O U : List ℕ} {a : Result ℕ} → Gives (readings_of (names_at s places) w (length O) (events (names_at s places) w d)) O U a → ReadsDump s d O U a
  unfolding dump_readings
  as_read d {O} {U} {a} g =
      let x = subst (λ (p : List ℕ). Gives (readings_of (names_at s p) w (length O) (events (names_at s p) w d)) O U a) k.names_are g in
      let y = subst (λ (v : ℕ). Gives (readings_of (names_at s k.contents.places) v (length O) (events (names_at s k.contents.places) v d)) O U a) k.window_is x in
      rw k.holds y

-- ---- writing

module _ {s T places B tops : List ℕ} {w t count : ℕ} (h : OpenedTable s T places B tops w t count) (n : ℕ) (e : n ≡ words w) where
  can_dump : CanDump (length places) w n T
  can_dump = record { rows = (signals_fit h n e).0; few = (signals_few h n e).0; some = (some_window h n e).0; most = (some_window h n e).1; words_are = e }

  -- With the places as they are lent.
  pub can_write : {part : List ℕ} → part ≡ places → CanDump (length part) w n T × ShortNames (names_at s part)
  can_write l = subst (λ (p : List ℕ). CanDump (length p) w n T × ShortNames (names_at s p)) (sym l) (can_dump, names_short h.sheet)

  pub when_clashing : {b : Bool} {O : List ℕ} → b ≡ true → (b ≡ true) ↔ Clash (Stands n T) → WritesDump s T O O (refused 23 0)
  when_clashing c f = clashing h.table (to_contents h n e (λ p v m. Clash (Stands m T)) (f.0 c)) refl

  -- What is written of the rows' signs is what is promised.
  promised : {O U : List ℕ} {a : Result ℕ} → (Clash (Stands n T) → ⊥) → Gives (with_room (length O) (dump_text (names_at s places) (sign_events (row_sign n T) (length places) w))) O U a → WritesDump s T O U a
  unfolding table_dump
  promised {O} {U} {a} c g =
      let f = row_answer n T in
      let same : sign_events (λ x i. answer_sign (f x i)) (length places) w ≡ sign_events (row_sign n T) (length places) w = events_as (λ x i. answer_sign (f x i)) (row_sign n T) (length places) w (some_window h n e).0 (λ x l i j. answer_sign_lem n T x i) in
      let y = subst (λ es. Gives (with_room (length O) (dump_text (names_at s places) es)) O U a) (sym same) g in
      written {f = f} h.table (to_contents h n e (λ p v m. Clash (Stands m T) → ⊥) c)
      (to_contents h n e (λ p v m. (x : ℕ) → x < length p → (i : ℕ) → i < v → Asked (Stands m T) x i (f x i)) (λ x l i j. row_asked n T x i (omega (arith, (some_words h n e).cover)) c))
      (to_contents h n e (λ p v m. Gives (with_room (length O) (dump_text (names_at s p) (sign_events (λ x i. answer_sign (f x i)) (length p) v))) O U a) y)

  pub as_written : {part O U : List ℕ} {a : Result ℕ} {b : Bool} → part ≡ places → b ≡ false → (b ≡ true) ↔ Clash (Stands n T)
      → Gives (with_room (length O) (dump_text (names_at s part) (sign_events (row_sign n T) (length part) w))) O U a → WritesDump s T O U a
  as_written {O = O} {U} {a} l z f g =
      promised (λ x. true≢false (sym (f.1 x) ∙ z))
      (subst (λ (p : List ℕ). Gives (with_room (length O) (dump_text (names_at s p) (sign_events (row_sign n T) (length p) w))) O U a) l g)
