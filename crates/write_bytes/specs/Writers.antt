-- What is written through a writer. Assumes nothing.
use Rattle.std.specs.Prelude.{◌≡◌, List, ℕ}
use Rattle.write_bytes.specs.Writes.{Wrote}
use Rattle.write_bytes.specs.declared.Writer.{Writer}

-- The writer t has written ws too, into the same buffer, and is u then.
pub record Writes (ws : List ℕ) (t u : Writer) : Type 0 where
  pub same : u.out.ghost_name ≡ t.out.ghost_name
  pub wrote : Wrote ws t.used t.out.now u.out.now u.used
