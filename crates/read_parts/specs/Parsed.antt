-- What the parser answers, and what it leaves in the arena.
-- Assumes nothing.
use Rattle.std.specs.Prelude.{◌≡◌, List, ℕ, ◌+◌, ◌-◌, ◌≤◌, length, Result, Ok, Err}
use Rattle.spec_refusals.specs.declared.Fault.{Fault}
use Rattle.spec_refusals.specs.Numbers.{fault_number, Refusal}
use Rattle.read_bytes.specs.Read.{Read}
use Rattle.read_bytes.specs.Read.Read.{got, refused}
use Rattle.spec_tilco.specs.Formula.{Written, hiddens}
use Rattle.read_arena.specs.NodeRules.{Arena, NodeRoom, Same, Held}
use Rattle.read_parts.specs.declared.parts.Parsed.{Parsed}

-- What a reader of a part answers.
abbrev pub Answer : Type 0
Answer = Result Parsed Refusal

-- A part was read up to q, with u nodes then used and h the next hidden signal's row.
abbrev pub reached : ℕ → ℕ → ℕ → Answer
reached q u h = Ok (record { place = q; nodes = u; rows = h })

-- A refusal at k.
abbrev pub refusing : Fault → ℕ → Answer
refusing f k = Err (record { fault = f; place = k })

-- From place p, with m nodes used and h the next hidden signal's row, to place q with u and h': e bytes and e nodes on at least, and a node
-- and a hidden signal for each byte at most. The text has L bytes.
pub record Progress (L e p m h q u h' : ℕ) : Type 0 where
  pub ahead : p + e ≤ q
  pub inside : q ≤ L
  pub fresh : m + e ≤ u
  pub nodes : u + p ≤ m + q
  pub rows : h ≤ h'
  pub hidden : h' + p ≤ h + q

-- The arena has m nodes and room for a node for each byte of s from p on, hidden signals' rows stay in 16 bits, and N is known of the declared names.
pub record PartReady (s a : List ℕ) (N : Type 0) (p m h : ℕ) : Type 0 where
  pub within : p ≤ length s
  pub arena : Arena m a
  pub room : NodeRoom a m (length s - p)
  pub rows : h + (length s - p) ≤ 65535
  pub names : N

-- The answer is what R says, and on a formula the arena holds it at its last node, its hidden signals numbered from x. What stood in the
-- arena a stands in a' as it did.
pub data Parses (a a' : List ℕ) (L e p m h x : ℕ) (R : Read Written) : Answer → Type 0 where
  parsed : {v : Parsed} (w : Written) → R ≡ got w v.place → Progress L e p m h v.place v.nodes v.rows → Arena v.nodes a' → Same m a a' → Held a' x (v.nodes - 1) w
      → v.rows ≡ x + hiddens w → Parses a a' L e p m h x R (Ok v)
  refuses : {r : Refusal} → R ≡ refused (fault_number r.fault) r.place → Parses a a' L e p m h x R (Err r)
