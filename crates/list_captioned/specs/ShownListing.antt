-- What the listing with captions prints (01, "The listing program"; E7).
-- Assumes nothing. W is the window, f x t the answer to ask at signal x and tick t.
use Rattle.std.specs.Prelude.{Bool, List, ◌++◌, ℕ}
use Rattle.spec_tilco.specs.Table.{Answer}
use Rattle.list_order.specs.Order.{in_order_lem}
use Rattle.list_signals.specs.Signals.{signals_text}
use Rattle.list_table.specs.Listing.{head_text}

-- The listing with these texts in the places of the names; the order stays that of the names.
unfoldable pub shown_listing : List (List ℕ) → List (List ℕ) → ℕ → ℕ → ℕ → Bool → (ℕ → ℕ → Answer) → List ℕ
shown_listing names shown W rows facts clash f = head_text rows facts clash ++ signals_text W f shown (in_order_lem names)
