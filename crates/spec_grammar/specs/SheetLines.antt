-- A sheet's lines (01, "The sheet" and "Numbers of refusal" 2 to 8): what each has to be after those before it, and its faults.
-- Assumes nothing.
use Rattle.std.specs.Prelude.{◌≡◌, true, false, ℕ, zero, suc, ◌+◌, ◌<◌, length}
use mathlib.Core.List.{List, [], ◌∷◌, ◌++◌, Memᴰ}
use Rattle.spec_limits.specs.Limits.{most_rule_bytes, most_rules, most_signals, most_ticks}
use Rattle.read_bytes.specs.Bytes.{bytes, between}
use Rattle.read_names.specs.Spellings.{names_at}
use Rattle.spec_tilco.specs.Formula.{Written}
use Rattle.spec_grammar.specs.Grammar.{Rule}
use Rattle.spec_grammar.specs.RuleFaults.{RuleFault}
use Rattle.spec_grammar.specs.Lines.{LineAt, after, Number, SignalName}

-- What comes next, after the window, the places of the names, and the rules that were read: "`window=`, `signals=`, one `signal=` a signal,
-- `rules=`, one `rule=` a rule, then the end". So many signals, or rules, are still to come; after the last signal `rules=`, after the last rule the end.
pub data Next : Type 0 where
  window : Next
  signals : (w : ℕ) → Next
  signal : (w n : ℕ) (places : List ℕ) → Next
  rule : (w : ℕ) (places : List ℕ) (m : ℕ) (ws : List Written) → Next

-- The key of the next line.
abbrev pub key : Next → List ℕ
key window = bytes "window="
key (signals w) = bytes "signals="
key (signal w zero places) = bytes "rules="
key (signal w (suc n) places) = bytes "signal="
key (rule w places m ws) = bytes "rule="

-- "Windows grow to 4,096" (E9); "Signals 1 to 64, rules 0 to 64": the least and the greatest number, and what comes after one.
pub data Ranged : Next → ℕ → ℕ → (ℕ → Next) → Type 0 where
  ticks : Ranged window 1 most_ticks signals
  signal_count : {w : ℕ} → Ranged (signals w) 1 most_signals (λ n. signal w n [])
  rule_count : {w : ℕ} {places : List ℕ} → Ranged (signal w zero places) 0 most_rules (λ m. rule w places m [])

-- "A number that breaks its writing rule is form; a name's or formula's writing is content."
pub data Formed : Next → List ℕ → Type 0 where
  number : {c : Next} {lo hi x : ℕ} {k : ℕ → Next} {v : List ℕ} → Ranged c lo hi k → Number v x → Formed c v
  name : {w n : ℕ} {places v : List ℕ} → Formed (signal w (suc n) places) v
  formula : {w m : ℕ} {places v : List ℕ} {ws : List Written} → Formed (rule w places (suc m) ws) v

-- A line comes next, and not the end.
abbrev pub More : Next → Type 0
More window = Unit {0}
More (signals w) = Unit {0}
More (signal w n places) = Unit {0}
More (rule w places zero ws) = ⊥
More (rule w places (suc m) ws) = Unit {0}

-- The value v of the line at p is right, and this comes next.
pub data Right (s : List ℕ) (p : ℕ) : Next → List ℕ → Next → Type 0 where
  number : {c : Next} {lo hi x : ℕ} {k : ℕ → Next} {v : List ℕ} → Ranged c lo hi k → Number v x → between lo hi x ≡ true → Right s p c v (k x)
  name : {w n : ℕ} {places v : List ℕ} → SignalName v → (Memᴰ v (names_at s places) → ⊥)
      → Right s p (signal w (suc n) places) v (signal w n (places ++ ((p + length (bytes "signal=")) ∷ [])))
  formula : {w m : ℕ} {places v : List ℕ} {ws : List Written} {f : Written} → between 1 most_rule_bytes (length v) ≡ true → Rule (names_at s places) v 0 f
      → Right s p (rule w places (suc m) ws) v (rule w places m (ws ++ (f ∷ [])))

-- The lines before p are right, and c comes next.
pub data Reached (s : List ℕ) : Next → ℕ → Type 0 where
  start : Reached s window 0
  line : {c e : Next} {p : ℕ} {v : List ℕ} → Reached s c p → LineAt s p (key c ++ v) → Right s p c v e → Reached s e (after p (key c ++ v))

-- ---- faults

-- The place of the line's value.
abbrev pub value_at : Next → ℕ → ℕ
value_at c p = p + length (key c)

-- "A sheet line is missing, not of its form, out of order or without LF",
pub record Unformed (s : List ℕ) (p : ℕ) (c : Next) : Type 0 where
  pub more : More c
  pub none : (v : List ℕ) → LineAt s p (key c ++ v) → Formed c v → ⊥

-- "or bytes follow the last line".
pub data Followed (s : List ℕ) (p : ℕ) : Next → Type 0 where
  followed : {w : ℕ} {places : List ℕ} {ws : List Written} → p < length s → Followed s p (rule w places zero ws)

-- "Window, signals or rules outside its range."
pub data OutOfRange (s : List ℕ) (p : ℕ) : Next → Type 0 where
  number : {c : Next} {lo hi x : ℕ} {k : ℕ → Next} {v : List ℕ} → Ranged c lo hi k → LineAt s p (key c ++ v) → Number v x → between lo hi x ≡ false → OutOfRange s p c

-- "Signal name not of its form, reserved or given twice."
pub data BadName (s : List ℕ) (p : ℕ) : Next → Type 0 where
  name : {w n : ℕ} {places v : List ℕ} → LineAt s p (bytes "signal=" ++ v) → (SignalName v → (Memᴰ v (names_at s places) → ⊥) → ⊥) → BadName s p (signal w (suc n) places)

-- "Rule length outside 1 to 256."
pub data BadLength (s : List ℕ) (p : ℕ) : Next → Type 0 where
  outside : {w m : ℕ} {places v : List ℕ} {ws : List Written} → LineAt s p (bytes "rule=" ++ v) → between 1 most_rule_bytes (length v) ≡ false → BadLength s p (rule w places (suc m) ws)

-- A rule's formula is at fault, with the refusal's number and place.
pub data BadFormula (s : List ℕ) (p : ℕ) : Next → ℕ → ℕ → Type 0 where
  formula : {w m n k : ℕ} {places v : List ℕ} {ws : List Written} → LineAt s p (bytes "rule=" ++ v) → between 1 most_rule_bytes (length v) ≡ true → RuleFault (names_at s places) v 0 n k
      → BadFormula s p (rule w places (suc m) ws) n (p + length (bytes "rule=") + k)

-- What comes next at p is at fault, with the refusal's number and place. A line's form is before its content, and a rule's length before its formula.
pub data Fault (s : List ℕ) (p : ℕ) (c : Next) : ℕ → ℕ → Type 0 where
  unformed : Unformed s p c → Fault s p c 2 p
  followed : Followed s p c → Fault s p c 2 p
  range : OutOfRange s p c → Fault s p c 3 (value_at c p)
  name : BadName s p c → Fault s p c 4 (value_at c p)
  size : BadLength s p c → Fault s p c 5 (value_at c p)
  formula : {n i : ℕ} → BadFormula s p c n i → Fault s p c n i

-- The first line at fault: all lines before it are right, and of what comes next at its place Q holds.
pub record First (s : List ℕ) (Q : Next → ℕ → Type 0) : Type 0 where
  pub next : Next
  pub place : ℕ
  pub reached : Reached s next place
  pub holds : Q next place

abbrev pub SheetFault : List ℕ → ℕ → ℕ → Type 0
SheetFault s n i = First s (λ c p. Fault s p c n i)
