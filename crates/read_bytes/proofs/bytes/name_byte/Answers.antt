-- `name_byte` meets its contract. Assumes nothing.
use Rattle.read_bytes.specs.Bytes.{name_byte}
use Rattle.read_bytes.proofs.bytes.name_byte.Goals as goal

pub returns-then-is_ascii_lowercase : goal.returns-then-is_ascii_lowercase
unfolding name_byte
returns-then-is_ascii_lowercase c = rw (← c.is_ascii_lowercase.ensures.value, c.if-is_ascii_lowercase.true)

pub returns-else-is_ascii_lowercase : goal.returns-else-is_ascii_lowercase
unfolding name_byte
returns-else-is_ascii_lowercase c = rw (← c.is_ascii_lowercase.ensures.value, c.if-is_ascii_lowercase.false) c.is_ascii_digit.ensures.value
