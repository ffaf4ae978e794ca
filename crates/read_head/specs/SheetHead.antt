-- A sheet's head, what each answer of its readers says of the text, and what they leave in the lent table (01, "The sheet" and "Numbers of refusal" 2 to 4).
-- Assumes nothing. `s` is the sheet's text and p a place in it; T is the index of the names after the call.
use Rattle.std.specs.Prelude.{◌≡◌, ℕ, ◌+◌, ◌<◌, ◌≤◌, List, [], ◌∷◌, ◌++◌, length, get_or, eqb, Result, Ok, Err}
use Rattle.spec_limits.specs.Limits.{most_rules, most_signals, most_ticks}
use Rattle.spec_refusals.specs.Numbers.{fault_number, Refusal}
use Rattle.read_bytes.specs.Read.{Read, and_then}
use Rattle.read_bytes.specs.Read.Read.{got, refused}
use Rattle.read_bytes.specs.Bytes.{bytes, pick}
use Rattle.read_names.specs.Spellings.{spelling_at, names_at, find_name}
use Rattle.read_index.specs.Index.{slots, index_numbers, places_in, first_names, IndexOf}
use Rattle.read_lines.specs.Lines.{ranged_line, name_line, in_turn}
use Rattle.read_head.specs.declared.HeadLines.{HeadLines}

-- The line `signal=` with a name, after those at `places`: the place of the name, and the place after the line. A name given twice is 4.
unfoldable pub signal_line : List ℕ → List ℕ → ℕ → Read ℕ
signal_line s places p =
    and_then (name_line s p (bytes "signal=") 2 4) (λ v q.
    pick (eqb (find_name (spelling_at s v) (names_at s places)) (length places)) (λ _. got v q) (refused 4 v))

-- What stands before the rules: the window, the place of each signal's name, and how many rules there are.
pub record Head : Type 0 where
  pub window : ℕ
  pub places : List ℕ
  pub count : ℕ

-- A head of these parts.
abbrev pub head_of : ℕ → List ℕ → ℕ → Head
head_of w places m = record { window = w; places = places; count = m }

-- "Fixed order: `window=`, `signals=`, one `signal=` a signal, `rules=`": the head, and the place of the first rule's line.
unfoldable pub head : List ℕ → Read Head
head s =
    and_then (ranged_line s 0 (bytes "window=") 2 3 1 most_ticks) (λ w p.
    and_then (ranged_line s p (bytes "signals=") 2 3 1 most_signals) (λ n q.
    and_then (in_turn (signal_line s) n [] q) (λ places u.
    and_then (ranged_line s u (bytes "rules=") 2 3 0 most_rules) (λ m e. got (head_of w places m) e))))

-- The places of the first n names of an index.
abbrev pub first_places : ℕ → List ℕ → List ℕ
first_places n T = places_in (first_names n T)

-- The first n names of the text s stand in T, which has room for all that a sheet may have.
pub record NamesPut (s T : List ℕ) (n : ℕ) : Type 0 where
  pub room : length T ≡ index_numbers
  pub few : n ≤ most_signals
  pub index : IndexOf s (first_names n T)

-- A signal's line is read, after the first n names: its name at v is put into the index, which was T and is T'.
pub record SignalPut (s T T' : List ℕ) (n p v q : ℕ) : Type 0 where
  pub line : signal_line s (first_places n T) p ≡ got v q
  pub put : NamesPut s T' (n + 1)
  pub places : first_places (n + 1) T' ≡ first_places n T ++ (v ∷ [])

-- What an answer of the reader of a signal's line says.
abbrev pub SignalRead : List ℕ → List ℕ → List ℕ → ℕ → ℕ → Result (ℕ × ℕ) Refusal → Type 0
SignalRead s T T' n p (Ok x) = SignalPut s T T' n p x.0 x.1
SignalRead s T T' n p (Err r) = signal_line s (first_places n T) p ≡ refused (fault_number r.fault) r.place

-- What an answer of the signals' reader says: R are the places of their names.
abbrev pub SignalsRead : List ℕ → List ℕ → ℕ → Read (List ℕ) → Result ℕ Refusal → Type 0
SignalsRead s T n R (Ok q) = (R ≡ got (first_places n T) q) × NamesPut s T n
SignalsRead s T n R (Err r) = R ≡ refused (fault_number r.fault) r.place

-- An index of a sheet before its first name: there is none in any slot.
pub record NoNames (T : List ℕ) : Type 0 where
  pub room : length T ≡ index_numbers
  pub empty : (b : ℕ) → b < slots → get_or T b 0 ≡ 0

-- Window, signals and rules are in their ranges.
pub record Sizes (w n m : ℕ) : Type 0 where
  pub window_low : 1 ≤ w
  pub window_high : w ≤ most_ticks
  pub signals_low : 1 ≤ n
  pub signals_high : n ≤ most_signals
  pub rules_high : m ≤ most_rules

-- The head h of s is read, and its signals' names are put into the index.
pub record HeadPut (s T : List ℕ) (h : HeadLines) : Type 0 where
  pub lines : head s ≡ got (head_of h.window (first_places h.signals T) h.rules) h.first
  pub sizes : Sizes h.window h.signals h.rules
  pub put : NamesPut s T h.signals

-- What an answer of the head's reader says.
abbrev pub Headed : List ℕ → List ℕ → Result HeadLines Refusal → Type 0
Headed s T (Ok h) = HeadPut s T h
Headed s T (Err r) = head s ≡ refused (fault_number r.fault) r.place
