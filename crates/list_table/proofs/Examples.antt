-- The listing that 01 prints for P1, that of P9, which clashes, and that of a refusal, by computation.
-- Assumes nothing.
use mathlib.Core.Bool.{true, false}
use mathlib.Core.List.{List, [], ◌∷◌}
use Prim.Native.Nat.{ℕ}
use lib.Dec.{T}
use lib.ListN.{get_or}
use Rattle.read_bytes.specs.Bytes.{bytes, every}
use Rattle.read_bytes.specs.Numbers.{decimal}
use Rattle.read_names.specs.EndNumbers.{end_digits, stem, is_end_number, number_of}
use Rattle.read_names.specs.Spellings.{same_text_lem}
use Rattle.spec_tilco.specs.Table.{Answer}
use Rattle.spec_tilco.specs.Table.Answer.{Unsettled, True, Contradiction}
use Rattle.write_bytes.specs.Writes.{last_digits, decimal_text}
use Rattle.write_lines.specs.LineTexts.{line_text}
use Rattle.list_order.specs.Order.{compare_bytes, name_before, insert, order_from}
use Rattle.list_signals.specs.Signals.{signs, signal_text, signals_text}
use Rattle.list_table.specs.Listing.{head_text, listing_text, refusal_text}

-- The answers that lists give, one list a signal.
abbrev given : List (List Answer) → ℕ → ℕ → Answer
given rows x t = get_or (get_or rows x []) t Unsettled

abbrev u : Answer
u = Unsettled

pub p1_listing : T (same_text_lem
    (listing_text (bytes "clear2" ∷ bytes "go10" ∷ bytes "open10" ∷ []) 10 15 6 false
    (given ((u ∷ u ∷ u ∷ True ∷ True ∷ True ∷ True ∷ []) ∷ (u ∷ u ∷ u ∷ u ∷ u ∷ u ∷ True ∷ []) ∷ (u ∷ u ∷ u ∷ u ∷ u ∷ u ∷ u ∷ u ∷ True ∷ []) ∷ [])))
    (bytes "answer=0\nrows=15\nfacts=6\nclash=0\nsignal=clear2\nmarks=???1111???\nsignal=go10\nmarks=??????1???\nsignal=open10\nmarks=????????1?\n"))
unfolding every end_digits stem decimal is_end_number number_of compare_bytes name_before insert order_from same_text_lem last_digits decimal_text line_text signs signal_text signals_text head_text listing_text
p1_listing = tt

pub p9_listing : T (same_text_lem
    (listing_text (bytes "a" ∷ []) 1 1 2 true (given ((Contradiction ∷ []) ∷ [])))
    (bytes "answer=0\nrows=1\nfacts=2\nclash=1\nsignal=a\nmarks=x\n"))
unfolding every end_digits stem decimal is_end_number number_of compare_bytes name_before insert order_from same_text_lem last_digits decimal_text line_text signs signal_text signals_text head_text listing_text
p9_listing = tt

pub refusal_listing : T (same_text_lem (refusal_text 7 32768) (bytes "answer=7\nplace=32768\n"))
unfolding same_text_lem last_digits decimal_text line_text refusal_text
refusal_listing = tt
