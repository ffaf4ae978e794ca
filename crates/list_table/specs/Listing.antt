-- What the listing prints (01, "The listing program").
-- Assumes nothing. W is the window, f x t the answer to ask at signal x and tick t.
use Rattle.std.specs.Prelude.{Bool, List, ◌++◌, ℕ}
use Rattle.read_bytes.specs.Bytes.{bytes}
use Rattle.spec_tilco.specs.Table.{Answer}
use Rattle.write_lines.specs.LineTexts.{one_if, number_text}
use Rattle.list_order.specs.Order.{in_order_lem}
use Rattle.list_signals.specs.Signals.{signals_text}

-- The lines before those of the signals: answer, rows, facts, clash. "Clash is 0 or 1."
unfoldable pub head_text : ℕ → ℕ → Bool → List ℕ
head_text rows facts clash =
    number_text (bytes "answer=") 0
    ++ (number_text (bytes "rows=") rows ++ (number_text (bytes "facts=") facts ++ number_text (bytes "clash=") (one_if clash)))

-- The listing: the head, and each signal in the order of the names (E8).
unfoldable pub listing_text : List (List ℕ) → ℕ → ℕ → ℕ → Bool → (ℕ → ℕ → Answer) → List ℕ
listing_text names W rows facts clash f = head_text rows facts clash ++ signals_text W f names (in_order_lem names)

-- "A refusal prints `answer=` and `place=` only."
unfoldable pub refusal_text : ℕ → ℕ → List ℕ
refusal_text number place = number_text (bytes "answer=") number ++ number_text (bytes "place=") place
