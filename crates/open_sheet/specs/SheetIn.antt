-- What a sheet's text holds, its size included (01, "Numbers of refusal": 1 to 9, in this order).
-- Assumes nothing. `s` is the sheet's text.
use Rattle.std.specs.Prelude.{Bool, ◌&&◌, List, ℕ, leb}
use Rattle.spec_limits.specs.Limits.{most_hidden, most_rows}
use Rattle.read_bytes.specs.Read.{Read}
use Rattle.read_bytes.specs.Read.Read.{got, refused as unread}
use Rattle.read_bytes.specs.Bytes.{pick}
use Rattle.read_names.specs.Spellings.{names_at}
use Rattle.spec_ticks.specs.Ticks.{empty}
use Rattle.spec_tilco.specs.Lists.{total}
use Rattle.spec_tilco.specs.Formula.{hiddens, Sheet}
use Rattle.spec_tilco.specs.Lowering.{row_count_lem}
use Rattle.spec_tilco.specs.Table.{table_words}
use Rattle.read_sheet.specs.Sheet.{Contents, sheet_of, meant}
use Rattle.open_sheet.specs.Results.{Result, accepted, refused}

-- "At most 32 hidden signals and 1,024 rows."
unfoldable pub fits : Sheet → Bool
fits s = leb (total hiddens s.rules) most_hidden && leb (row_count_lem s) most_rows

-- A sheet that was read is accepted, or it is over its size: 9 at 0.
abbrev pub sized : Read Contents → Result Contents
sized (got k q) = pick (fits (meant k)) (λ _. accepted k) (refused 9 0)
sized (unread n p) = refused n p

-- What a sheet's text holds: "1; then the sheet from its first line to its last; 9".
unfoldable pub sheet_in : List ℕ → Result Contents
sheet_in s = sized (sheet_of s)

-- The declared names of a sheet's text.
abbrev pub names_in : List ℕ → Contents → List (List ℕ)
names_in s k = names_at s k.places

-- The sheet's table without a mark.
abbrev pub blank : Contents → List ℕ
blank k = empty (table_words (meant k))
