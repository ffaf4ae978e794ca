-- What each answer of the reader of a rule's line says of the text, and what it leaves in the arena (01, "Numbers of refusal").
-- Assumes nothing. `s` is the sheet's text, R what the text holds there.
use Rattle.std.specs.Prelude.{◌≡◌, List, ℕ, ◌+◌, ◌-◌, ◌≤◌, ◌<◌, length, Ok, Err}
use Rattle.spec_limits.specs.Limits.{arena_numbers, most_rule_bytes}
use Rattle.spec_refusals.specs.Numbers.{fault_number}
use Rattle.read_bytes.specs.Read.{Read}
use Rattle.read_bytes.specs.Read.Read.{got, refused}
use Rattle.read_bytes.specs.Bytes.{byte, peek}
use Rattle.spec_tilco.specs.Formula.{Written, hiddens}
use Rattle.spec_tilco.specs.Lists.{All, total}
use Rattle.read_index.specs.Index.{places_in, IndexOf}
use Rattle.read_arena.specs.NodeRules.{Arena, Held}
use Rattle.read_parts.specs.Parsed.{Answer}

-- A rule's line can be read at p: the names stand before it, the arena a has a node for each byte of a rule, and the rows of its hidden
-- signals, from h on, stay in 16 bits.
pub record LineReady (s a names : List ℕ) (p h : ℕ) : Type 0 where
  pub within : p ≤ length s
  pub before : All (λ v. v ≤ p) (places_in names)
  pub index : IndexOf s names
  pub room : arena_numbers ≤ length a
  pub rows : h + most_rule_bytes ≤ 65535

-- A line's value stands from v to its LF at e.
pub record ValueEnds (s : List ℕ) (v e : ℕ) : Type 0 where
  pub order : v ≤ e
  pub inside : e < length s
  pub lf : peek s e ≡ byte "\n"

-- A rule's line can be read from its value at v on, up to its LF at e.
pub record AtValue (s a names : List ℕ) (v e h : ℕ) : Type 0 where
  pub ready : LineReady s a names v h
  pub ended : ValueEnds s v e

-- A rule was read up to q: it stands in the arena at the last of u nodes, its hidden signals numbered from h, and h' is the next row.
pub record RuleHeld (a : List ℕ) (h : ℕ) (R : Read Written) (q u h' : ℕ) : Type 0 where
  pub rule : Written
  pub reads : R ≡ got rule q
  pub some : 0 < u
  pub arena : Arena u a
  pub held : Held a h (u - 1) rule
  pub next : h' ≡ h + hiddens rule
  pub few : h' ≤ h + most_rule_bytes

-- What an answer of a rule line's reader says.
abbrev pub RuleRead : List ℕ → ℕ → Read Written → Answer → Type 0
RuleRead a h R (Ok v) = RuleHeld a h R v.place v.nodes v.rows
RuleRead a h R (Err r) = R ≡ refused (fault_number r.fault) r.place

-- Rules were read up to q, and they have h hidden signals.
pub record AllRules (R : Read (List Written)) (h q : ℕ) : Type 0 where
  pub all : List Written
  pub reads : R ≡ got all q
  pub hidden : h ≡ total hiddens all
