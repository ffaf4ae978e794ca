-- The dump of a table, the refusals of writing it by their listed cases in their order, and what stands in the buffer after it (E6).
-- Assumes nothing. `s` is the sheet's text, T the lent table, O the lent buffer before and O' after; n is the number and p the place.
use Rattle.std.specs.Prelude.{◌≡◌, List, ◌++◌, ℕ, ◌<◌, ◌≤◌, length, drop}
use Rattle.spec_tilco.specs.Inference.{Clash}
use Rattle.spec_tilco.specs.Table.{Standing, Answer}
use Rattle.read_sheet.specs.Sheet.{Contents, meant}
use Rattle.list_signals.specs.Signals.{Answers}
use Rattle.proof_demands.specs.Refusals.{TakenUp, TableRefused}
use Rattle.spec_dump.specs.Dumps.{table_dump}

-- d is the dump of a table that does not clash, of what ask answers.
pub record DumpOf (s T : List ℕ) (k : Contents) (d : List ℕ) : Type 0 where
  pub answers : ℕ → ℕ → Answer
  pub taken : TakenUp s T k
  pub calm : Clash (Standing (meant k) T) → ⊥
  pub answered : Answers (Standing (meant k) T) (length k.places) k.window answers
  pub text : d ≡ table_dump s k answers

-- The sheet's and the table's, and "after 16, 23 for a clashing table, then 20".
pub data WriteRefused (s T O : List ℕ) : ℕ → ℕ → Type 0 where
  up_to_sixteen : {n p : ℕ} → TableRefused s T n p → WriteRefused s T O n p
  twenty_three : {k : Contents} → TakenUp s T k → Clash (Standing (meant k) T) → WriteRefused s T O 23 0
  twenty : {k : Contents} {d : List ℕ} → DumpOf s T k d → length O < length d → WriteRefused s T O 20 0

-- The text t stands at the buffer's first place, its length is answered, and the rest of the buffer stays.
pub record TextIn (t O O' : List ℕ) (n : ℕ) : Type 0 where
  pub room : length t ≤ length O
  pub answer : n ≡ length t
  pub buffer : O' ≡ t ++ drop (length t) O

-- A dump of the table does.
pub record DumpWritten (s T O O' : List ℕ) (n : ℕ) : Type 0 where
  pub contents : Contents
  pub dump : List ℕ
  pub is_dump : DumpOf s T contents dump
  pub in_buffer : TextIn dump O O' n
