-- The entries of a readings text, and its marks (01, "Readings" and "Numbers of refusal" 10; E5).
-- Assumes nothing. `names` are the declared names in sheet order, W the window, r the readings text.
use Rattle.std.specs.Prelude.{ℕ, Bool, List, [], length, leb}
use Rattle.spec_limits.specs.Limits.{most_bytes}
use Rattle.read_bytes.specs.Read.{Read}
use Rattle.read_bytes.specs.Read.Read.{got, refused}
use Rattle.read_bytes.specs.Bytes.{bytes, pick, starts}
use Rattle.read_lines.specs.Lines.{up_to}
use Rattle.spec_tilco.specs.Inference.{Mark}
use Rattle.read_reading.specs.Spans.{Span, marks_of_all}
use Rattle.read_reading.specs.OneEntry.{entry}

-- "Either form, told by the text's first key": are the entries spans?
unfoldable pub in_spans : List ℕ → Bool
in_spans r = starts r 0 (bytes "from=")

-- The entries up to the text's end, at most 32,768 bytes.
unfoldable pub entries : List (List ℕ) → ℕ → List ℕ → Read (List Span)
entries names W r = pick (leb (length r) most_bytes) (λ _. up_to (entry (in_spans r) names W r) (length r) (length r) [] 0) (refused 10 0)

-- The marks of the entries that were read.
abbrev pub marked : Read (List Span) → Read (List Mark)
marked (got es q) = got (marks_of_all es) q
marked (refused n p) = refused n p

-- The marks of a text. Whatever takes a readings text takes it by these, in either form.
unfoldable pub readings : List (List ℕ) → ℕ → List ℕ → Read (List Mark)
readings names W r = marked (entries names W r)
