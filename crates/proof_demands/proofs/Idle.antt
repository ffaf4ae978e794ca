-- Idle builds, and what of the contracts each of them breaks (01, "The weight of each contract"). The smallest sheet serves as the case.
-- Assumes nothing.
use mathlib.Core.Path.{◌≡◌, refl, sym, ap, ◌∙◌, subst}
use mathlib.Core.Bool.{Bool, true, false, true≢false}
use mathlib.Core.List.Memᴰ
use mathlib.Core.List.{List, [], ◌∷◌, flatten}
use mathlib.Core.Logic.{inl, inr, ⊎_elim}
use Prim.Native.Nat.{ℕ, ◌-◌}
use native.Mathlib.Omega.{arith}
use Rattle.read_bytes.specs.Read.Read.{got}
use Rattle.read_bytes.specs.Bytes.{bytes, peek, class_of, name_byte, starts, run, run_at, run_end, every}
use Rattle.read_names.specs.EndNumbers.{end_digits, is_end_number, number_of, well_ended}
use Rattle.read_names.specs.Spellings.{names_at, same_text_lem, find_name, is_spelled, name_at}
use Rattle.read_bytes.specs.Numbers.{decimal, digits, number}
use Rattle.read_lines.specs.Lines.{in_line, line, number_line, ranged_line, name_line, in_turn, up_to}
use Rattle.read_bytes.proofs.Answers.{not_both, same_value}
use Rattle.spec_ticks.proofs.Tables.{empty_bare}
use Rattle.spec_tilco.specs.Lists.{total}
use Rattle.spec_tilco.specs.Inference.{Node, signal, not_of, gate, look, node, Mark, mark, Marks, One, down_left, down_right, up_left, up_right, look_down, look_up, not_down, not_up, Two, up_both, rest_right, rest_left, start, top, one, two, ◌or◌}
use Rattle.spec_tilco.specs.Lowering.{program}
use Rattle.spec_tilco.specs.Table.{words, Standing, table_words, facts_of, ReadMarks, Leads, Added, Unsettled, neither}
use Rattle.spec_tilco.proofs.At.{at_get_d}
use Rattle.spec_tilco.proofs.Demand2.{added_keeps}
use Rattle.read_head.specs.SheetHead.{signal_line, head}
use Rattle.read_sheet.specs.Sheet.{rule_to, rule_line, rules, Contents, contents, sheet_of, meant}
use Rattle.read_reading.specs.Spans.{marks_from, marks_of, marks_of_all}
use Rattle.read_reading.specs.OneEntry.{known_line, entry}
use Rattle.read_readings.specs.Readings.{in_spans, entries, readings}
use Rattle.open_sheet.specs.Results.{Result, accepted, refused}
use Rattle.spec_operations.specs.Gain.{Gain, gain}
use Rattle.open_sheet.specs.SheetIn.{sheet_in, names_in, blank}
use Rattle.open_table.specs.Opens.{Opens}
use Rattle.spec_operations.specs.Operations.{counted, checked, Adds, Asks}
use Rattle.spec_operations.specs.Operations.Asks.{asked}
use Rattle.open_sheet.proofs.Sheets.{in_fits}
use Rattle.open_table.proofs.Tables.{accepted_refused}
use Rattle.proof_demands.specs.Runs.{FromBlank, new_in}
use Rattle.spec_operations.proofs.Determined.{opens_same}
use Rattle.proof_demands.proofs.Runs.{Step, unchanged, changed, step_of, step_opens, blank_opens}
use Rattle.proof_demands.proofs.LastTable.{news_add_up}

-- ---- the smallest sheet, and readings of it

-- A window of one tick, one signal and no rule.
abbrev pub sheet_text_lem : List ℕ
sheet_text_lem = bytes "window=1\nsignals=1\nsignal=a\nrules=0\n"

abbrev pub sheet : Contents
sheet = contents 1 (26 ∷ []) []

abbrev pub true_text : List ℕ
true_text = bytes "at=0\nsignal=a\nvalue=1\n"

abbrev pub false_text : List ℕ
false_text = bytes "at=0\nsignal=a\nvalue=0\n"

reads : sheet_of sheet_text_lem ≡ got sheet 36
unfolding peek class_of name_byte starts run run_at run_end names_at same_text_lem find_name is_spelled every end_digits decimal is_end_number number_of well_ended name_at digits number in_line line number_line ranged_line name_line in_turn signal_line head rule_to rule_line rules sheet_of
reads = refl

pub sheet_accepted : sheet_in sheet_text_lem ≡ accepted sheet
sheet_accepted = in_fits sheet_text_lem reads (omega arith) (omega arith)

pub true_read : readings (names_in sheet_text_lem sheet) 1 true_text ≡ got (mark 0 0 true ∷ []) 22
unfolding peek class_of name_byte starts run run_at run_end names_at same_text_lem find_name is_spelled every end_digits decimal is_end_number number_of well_ended name_at digits number in_line line number_line ranged_line name_line up_to known_line entry in_spans entries marks_from marks_of flatten marks_of_all readings
true_read = refl

pub false_read : readings (names_in sheet_text_lem sheet) 1 false_text ≡ got (mark 0 0 false ∷ []) 22
unfolding peek class_of name_byte starts run run_at run_end names_at same_text_lem find_name is_spelled every end_digits decimal is_end_number number_of well_ended name_at digits number in_line line number_line ranged_line name_line up_to known_line entry in_spans entries marks_from marks_of flatten marks_of_all readings
false_read = refl

-- What an add of the first readings to the table without a mark has to make of it.
module _ {U : List ℕ} {a : Result Gain} (x : Adds sheet_text_lem true_text (blank sheet) U a) where
  abbrev stepped : Step sheet_text_lem sheet true_text (blank sheet) U a
  stepped = step_of (blank_opens sheet_text_lem sheet sheet_accepted) x

  opened : Opens sheet_text_lem U (accepted sheet)
  opened = step_opens sheet_text_lem sheet sheet_accepted (blank_opens sheet_text_lem sheet sheet_accepted) stepped

  made : Added (meant sheet) (blank sheet) (mark 0 0 true ∷ []) U
  made = go stepped
    where
      go : {b : Result Gain} → Step sheet_text_lem sheet true_text (blank sheet) U b → Added (meant sheet) (blank sheet) (mark 0 0 true ∷ []) U
      go (unchanged f e) = absurd (not_both (sym true_read ∙ f))
      go (changed f A n c) = subst (λ (ms : List Mark). Added (meant sheet) (blank sheet) ms U) (same_value (sym f ∙ true_read)) A

-- ---- one that refuses all sheets

-- An accepted sheet is refused by no check, and by no add with readings and a table that are accepted.
pub not_refused : (s : List ℕ) {k : Contents} {n p : ℕ} → sheet_in s ≡ accepted k → checked s ≡ refused n p → ⊥
not_refused s e f = accepted_refused (sym (ap counted e) ∙ f)

pub add_not_refused : {s r T U : List ℕ} {k : Contents} {ms : List Mark} {q n p : ℕ} → Opens s T (accepted k) → readings (names_in s k) k.window r ≡ got ms q → Adds s r T U (refused n p) → ⊥
add_not_refused {s} {r} {T} {U} {k} {n = n} {p = p} o f x = go (step_of o x)
  where
    go : Step s k r T U (refused n p) → ⊥
    go (unchanged g e) = not_both (sym f ∙ g)

-- And there are such.
pub refuses_all : {n p : ℕ} → checked sheet_text_lem ≡ refused n p → ⊥
refuses_all e = not_refused sheet_text_lem sheet_accepted e

pub add_refuses_all : {U : List ℕ} {n p : ℕ} → Adds sheet_text_lem true_text (blank sheet) U (refused n p) → ⊥
add_refuses_all x = add_not_refused (blank_opens sheet_text_lem sheet sheet_accepted) true_read x

-- ---- one that calls everything unsettled

-- A cell with a mark is not unsettled.
pub not_unsettled : {s T : List ℕ} {k : Contents} {x t : ℕ} → Opens s T (accepted k) → (v : Bool) → Standing (meant k) T (mark x t v) → Asks s T x t (accepted Unsettled) → ⊥
not_unsettled {s} {T} {k} {x} {t} o true j (asked n l (neither f g h)) = g (subst (λ (c : Contents). Standing (meant c) T (mark x t true)) (opens_same o n) j)
not_unsettled {s} {T} {k} {x} {t} o false j (asked n l (neither f g h)) = h (subst (λ (c : Contents). Standing (meant c) T (mark x t false)) (opens_same o n) j)

-- And after an add there is one.
pub calls_all_unsettled : {U : List ℕ} {a : Result Gain} → Adds sheet_text_lem true_text (blank sheet) U a → Asks sheet_text_lem U 0 0 (accepted Unsettled) → ⊥
calls_all_unsettled x y = not_unsettled (opened x) true (added_keeps (meant sheet) (made x) (mark 0 0 true) (inr (Memᴰ.head refl))) y

-- ---- one that returns the table untouched

-- A table in which a mark is missing that the rules lead to is not left as it is.
pub not_untouched : {s r T : List ℕ} {k : Contents} {ms : List Mark} {q : ℕ} {a : Result Gain} → Opens s T (accepted k) → readings (names_in s k) k.window r ≡ got ms q
    → (m : Mark) → Leads (meant k) (◌or◌ (Standing (meant k) T) (ReadMarks ms)) m → (Standing (meant k) T m → ⊥) → Adds s r T T a → ⊥
not_untouched {s} {r} {T} {k} o f m d out x = go (step_of o x)
  where
    go : {b : Result Gain} → Step s k r T T b → ⊥
    go (unchanged g e) = not_both (sym f ∙ g)
    go (changed g A n c) = out ((A.exactly m).1 (subst (λ (R : List Mark). Leads (meant k) (◌or◌ (Standing (meant k) T) (ReadMarks R)) m) (same_value (sym f ∙ g)) d))

-- And there is such a table.
pub returns_untouched : {a : Result Gain} → Adds sheet_text_lem true_text (blank sheet) (blank sheet) a → ⊥
returns_untouched x =
    not_untouched (blank_opens sheet_text_lem sheet sheet_accepted) true_read (mark 0 0 true) (start (inr (Memᴰ.head refl)))
    (λ i. empty_bare 64 (words 1) (table_words (meant sheet)) 0 0 true i) x

-- ---- one that closes on the first call and ignores later readings

-- The sheet has no rule: nothing follows.
abbrev Bare : ℕ → Node → Type 0
Bare r signal = Unit {0}
Bare r (not_of x) = ⊥
Bare r (gate u a b) = ⊥
Bare r (look c j) = ⊥

bare : (r : ℕ) {n : Node} → node (program (meant sheet)) r ≡ n → Bare r n
bare r e = subst (Bare r) e (at_get_d Bare signal (λ n. tt) (program (meant sheet)).rows (tt, tt) r)

nothing_one : {p m : Mark} → One (program (meant sheet)) 1 p m → ⊥
nothing_one (down_left {r} e) = bare r e
nothing_one (down_right {r} e) = bare r e
nothing_one (up_left {r} e) = bare r e
nothing_one (up_right {r} e) = bare r e
nothing_one (look_down {r} e z h l) = bare r e
nothing_one (look_up {r} e z h l) = bare r e
nothing_one (not_down {r} e) = bare r e
nothing_one (not_up {r} e) = bare r e

nothing_two : {p q m : Mark} → Two (program (meant sheet)) p q m → ⊥
nothing_two (up_both {r} e) = bare r e
nothing_two (rest_right {r} e) = bare r e
nothing_two (rest_left {r} e) = bare r e

only_started : {S : Marks} {m : Mark} → Leads (meant sheet) S m → S m
only_started (start i) = i
only_started (top i h) = absurd (Memᴰ.not-nil i)
only_started (one x d) = absurd (nothing_one x)
only_started (two x d e) = absurd (nothing_two x)

unlike : mark 0 0 false ≡ mark 0 0 true → ⊥
unlike e = let z : false ≡ true = cc in true≢false (sym z)

-- So the first call leaves no false mark, and the second, with a false reading, cannot leave the table as it is.
pub ignores_later : {U : List ℕ} {a a' : Result Gain} → Adds sheet_text_lem true_text (blank sheet) U a → Adds sheet_text_lem false_text U U a' → ⊥
ignores_later x y = not_untouched (opened x) false_read (mark 0 0 false) (start (inr (Memᴰ.head refl))) (λ i. from_start (only_started (((made x).exactly (mark 0 0 false)).0 i))) y
  where
    from_start : ◌or◌ (Standing (meant sheet) (blank sheet)) (ReadMarks (mark 0 0 true ∷ [])) (mark 0 0 false) → ⊥
    from_start (inl i) = empty_bare 64 (words 1) (table_words (meant sheet)) 0 0 false i
    from_start (inr i) = ⊎_elim unlike (λ j. Memᴰ.not-nil j) (Memᴰ.cases_cons i)

-- ---- one that invents the new-fact count

-- A count other than the facts after less the facts before is no add's,
pub invents_count : {s r T U : List ℕ} {k : Contents} {new : ℕ} {clash : Bool} → Opens s T (accepted k) → (new ≡ facts_of (meant k) U - facts_of (meant k) T → ⊥) → Adds s r T U (accepted (gain new clash)) → ⊥
invents_count {s} {r} {T} {U} {k} {new} {clash} o f x = go (step_of o x)
  where
    go : Step s k r T U (accepted (gain new clash)) → ⊥
    go (changed g A n c) = f n

-- and counts that do not come to the facts of the last table are no run's.
pub invents_sum : {s : List ℕ} {k : Contents} {rs : List (List ℕ)} {U : List ℕ} {answers : List (Result Gain)} → (total new_in answers ≡ facts_of (meant k) U → ⊥) → FromBlank s k rs U answers → ⊥
invents_sum f x = f (news_add_up x)
