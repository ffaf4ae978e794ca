-- A line is written as its key, its value and LF, one after the other: the places of each part can be counted, and together they are the line.
-- Assumes nothing. The writer is t before the line, u after its key, v after its value.
use mathlib.Core.List.{List}
use Prim.Native.Nat.{ℕ}
use Rattle.read_bytes.specs.Bytes.{bytes}
use Rattle.write_bytes.specs.declared.Writer.{Writer}
use Rattle.write_bytes.specs.Writes.{Counted}
use Rattle.write_bytes.specs.Writers.{Writes}
use Rattle.write_bytes.proofs.Writing.{and_then_lem, counted_first, counted_rest}
use Rattle.write_lines.specs.LineTexts.{line_text}

pub key_counted : {key : List ℕ} (value : List ℕ) {b : ℕ} → Counted b (line_text key value) → Counted b key
unfolding line_text
key_counted value line = counted_first _ line

module _ {key value : List ℕ} {t u : Writer} (line : Counted t.used (line_text key value)) (k : Writes key t u) where
  pub value_counted : Counted u.used value
  unfolding line_text
  value_counted = counted_first _ (counted_rest line k)

  pub end_counted : {v : Writer} → Writes value u v → Counted v.used (bytes "\n")
  unfolding line_text
  end_counted x = counted_rest (counted_rest line k) x

pub line_written : {key value : List ℕ} {t u v w : Writer} → Writes key t u → Writes value u v → Writes (bytes "\n") v w → Writes (line_text key value) t w
unfolding line_text
line_written k x e = and_then_lem k (and_then_lem x e)
