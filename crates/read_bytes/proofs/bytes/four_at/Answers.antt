-- `four_at` meets its contract. A byte is below 256, so the sum fits. Assumes nothing.
use mathlib.Core.Path.{refl}
use Rattle.read_bytes.specs.Bytes.{four_at}
use Rattle.read_bytes.proofs.bytes.four_at.Goals as goal

pub returns : goal.returns
unfolding four_at
returns c = refl
