-- `decimal` meets its contract: each call writes a number with one digit fewer. Assumes nothing.
use Rattle.write_bytes.proofs.Writer.+decimal.Given as goal

abbrev pub decreases-decimal : goal.decreases-decimal
decreases-decimal l = l.n
