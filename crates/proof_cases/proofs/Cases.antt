-- The proved cases P1 to P10, from their texts to the listing and to the histories, in one theorem.
-- Assumes nothing.
use mathlib.Core.Path.{refl}
use mathlib.Core.List.{List, [], ◌∷◌, flatten}
use lib.Count.{ones, ones_in}
use lib.Dec.{T}
use Rattle.spec_ticks.specs.Ticks.{bit, tally}
use Rattle.read_bytes.specs.Bytes.{bytes, peek, class_of, name_byte, starts, run, run_at, run_end, every}
use Rattle.read_names.specs.EndNumbers.{end_digits, stem, is_end_number, number_of, well_ended}
use Rattle.read_names.specs.Spellings.{names_at, same_text_lem, find_name, is_spelled, name_at}
use Rattle.read_bytes.specs.Numbers.{decimal, digits, number}
use Rattle.read_lines.specs.Lines.{in_line, line, number_line, ranged_line, name_line, in_turn, up_to}
use Rattle.spec_tilco.specs.Lists.{All}
use Rattle.spec_tilco.specs.Table.{words}
use Rattle.read_interval.specs.Interval.{signed, end_at, offsets_of, end_after_lem, close_at, comma_at, interval}
use Rattle.read_parts.specs.FormulaText.{declared, times, timed_part, more, level, second, since_until, name_or_keep, plain_part_in, inside, plain_part, rule}
use Rattle.read_head.specs.SheetHead.{signal_line, head}
use Rattle.read_sheet.specs.Sheet.{rule_to, rule_line, rules, sheet_of}
use Rattle.read_reading.specs.Spans.{marks_from, marks_of, marks_of_all}
use Rattle.read_reading.specs.OneEntry.{known_line, to_line, entry}
use Rattle.read_readings.specs.Readings.{in_spans, entries, readings}
use Rattle.write_bytes.specs.Writes.{last_digits, decimal_text}
use Rattle.write_lines.specs.LineTexts.{line_text}
use Rattle.list_order.specs.Order.{compare_bytes, name_before, insert, order_from}
use Rattle.list_signals.specs.Signals.{signs, signal_text, signals_text}
use Rattle.list_table.specs.Listing.{head_text, listing_text}
use Rattle.open_sheet.specs.SheetIn.{fits, sheet_in}
use Rattle.list_settled.proofs.OneListing.{settles_one}
use Rattle.proof_cases.specs.Texts.{TextCase, p7, p8, text_cases, InHistories, Settled}
use Rattle.proof_cases.proofs.Tested.{texts_pass, passed_settles}
use Rattle.proof_cases.proofs.Histories.{ReadAs, p7_read, p8_read, p7_holds, p8_holds, of_read}

-- A case's texts pass the test.
abbrev Passes : TextCase → Type 0
Passes e = T (texts_pass (bytes e.sheet) (bytes e.readings) (bytes e.listing))

-- By computation: each sheet and its readings are read, the table is closed, and its listing is the one expected. P7's and P8's sheets are read as
-- their second halves want them.
computed : All Passes text_cases × ReadAs p7_read (sheet_in (bytes p7.sheet)) × ReadAs p8_read (sheet_in (bytes p8.sheet))
unfolding ones ones_in bit tally words peek class_of name_byte starts run run_at run_end names_at same_text_lem find_name is_spelled every end_digits decimal is_end_number number_of well_ended name_at digits number in_line line number_line ranged_line name_line in_turn up_to signed end_at offsets_of end_after_lem close_at comma_at interval declared times timed_part more level second since_until name_or_keep plain_part_in inside plain_part rule signal_line head rule_to rule_line rules sheet_of known_line to_line entry in_spans entries marks_from marks_of marks_of_all flatten readings last_digits decimal_text line_text stem compare_bytes name_before insert order_from signs signal_text signals_text head_text listing_text fits sheet_in
computed = ((tt, (tt, (tt, (tt, (tt, (tt, (tt, (tt, (tt, (tt, (tt, tt))))))))))), refl, refl)

all_said : All InHistories text_cases
all_said = (λ k i h o. tt, (λ k i h o. tt, (λ k i h o. tt, (λ k i h o. tt, (λ k i h o. tt, (λ k i h o. tt, (λ k i h o. tt, (of_read p7 p7_read computed.1 p7_holds, (of_read p8 p8_read computed.2 p8_holds, (λ k i h o. tt, (λ k i h o. tt, tt)))))))))))

all_settle : (es : List TextCase) → All Passes es → All InHistories es → All Settled es
all_settle [] p a = tt
all_settle (e ∷ es) p a =
    let i = passed_settles (bytes e.sheet) (bytes e.readings) (bytes e.listing) p.0 in
    ((i, λ l o. settles_one o i, a.0), all_settle es p.1 a.1)

-- P1 (both rule orders) to P10 settle: for its sheet and readings each entry's listing is what is printed, and every history is as said.
pub cases_settle : All Settled text_cases
cases_settle = all_settle text_cases computed.0 all_said
