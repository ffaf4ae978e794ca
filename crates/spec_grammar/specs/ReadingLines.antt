-- The lines of a readings text (01, "Readings" and "Numbers of refusal" 11 to 14; E5, 21): what each has to be after those before it, and its faults.
-- Assumes nothing. `names` are the declared names in sheet order, W is the window and r the text; `spans` tells the text's form.
use Rattle.std.specs.Prelude.{◌≡◌, Bool, true, false, List, [], ◌∷◌, ◌++◌, ℕ, ◌+◌, ◌-◌, ◌<◌, ◌≤◌, eqb, length}
use Rattle.read_bytes.specs.Bytes.{bytes, between}
use Rattle.spec_tilco.specs.Inference.{Mark}
use Rattle.read_reading.specs.Spans.{Span, span, marks_of_all}
use Rattle.read_reading.specs.OneEntry.{first_key}
use Rattle.spec_grammar.specs.Grammar.{Declared}
use Rattle.spec_grammar.specs.Lines.{LineAt, after, Number, SignalName}

-- "Either form, told by the text's first key": spans, or single readings.
pub data HasForm (r : List ℕ) : Bool → Type 0 where
  spans : (t : List ℕ) → r ≡ bytes "from=" ++ t → HasForm r true
  singles : ((t : List ℕ) → r ≡ bytes "from=" ++ t → ⊥) → HasForm r false

-- "Three lines a reading, in order: `at=` a number, `signal=` a declared name, `value=` 0 or 1"; "four lines: `from=`, `to=`, `signal=`, `value=`". What
-- comes next, after the first tick f, the last tick l, the signal x and the entries es that were read. With `ticks`, an entry does.
pub data Next : Type 0 where
  ticks : (es : List Span) → Next
  to : (f : ℕ) (es : List Span) → Next
  signal : (f l : ℕ) (es : List Span) → Next
  value : (f l x : ℕ) (es : List Span) → Next

-- The key of the next line. An entry's first is `at=` in single readings and `from=` in spans.
abbrev pub key : Bool → Next → List ℕ
key form (ticks es) = first_key form
key form (to f es) = bytes "to="
key form (signal f l es) = bytes "signal="
key form (value f l x es) = bytes "value="

-- What comes after an entry's first tick: a span's last tick, or a reading's signal at this tick alone.
abbrev pub after_first : Bool → ℕ → List Span → Next
after_first false t es = signal t t es
after_first true f es = to f es

-- Ticks of the window, and 0 or 1: the least and the greatest number, the refusal of another one, and what comes after one.
pub data Ranged (spans : Bool) (W : ℕ) : Next → ℕ → ℕ → ℕ → (ℕ → Next) → Type 0 where
  first : {es : List Span} → Ranged spans W (ticks es) 0 (W - 1) 13 (λ t. after_first spans t es)
  last : {f : ℕ} {es : List Span} → Ranged spans W (to f es) 0 (W - 1) 13 (λ l. signal f l es)
  bit : {f l x : ℕ} {es : List Span} → Ranged spans W (value f l x es) 0 1 14 (λ v. ticks (es ++ (span x (eqb v 1) f l ∷ [])))

-- A span's last tick is not below its first. Nothing is asked of another line's number.
abbrev pub NotBelow : Next → ℕ → Type 0
NotBelow (ticks es) n = Unit {0}
NotBelow (to f es) n = f ≤ n
NotBelow (signal f l es) n = Unit {0}
NotBelow (value f l x es) n = Unit {0}

-- "A number that breaks its writing rule is form; a name's writing is content."
pub data Formed (spans : Bool) (W : ℕ) : Next → List ℕ → Type 0 where
  number : {c : Next} {lo hi content x : ℕ} {k : ℕ → Next} {v : List ℕ} → Ranged spans W c lo hi content k → Number v x → Formed spans W c v
  name : {f l : ℕ} {es : List Span} {v : List ℕ} → Formed spans W (signal f l es) v

-- A line comes next: an entry is begun, or bytes are left.
abbrev pub More : ℕ → ℕ → Next → Type 0
More p L (ticks es) = p < L
More p L (to f es) = Unit {0}
More p L (signal f l es) = Unit {0}
More p L (value f l x es) = Unit {0}

-- The line's value v is right, and this comes next.
pub data Right (spans : Bool) (names : List (List ℕ)) (W : ℕ) : Next → List ℕ → Next → Type 0 where
  number : {c : Next} {lo hi content x : ℕ} {k : ℕ → Next} {v : List ℕ} → Ranged spans W c lo hi content k → Number v x → between lo hi x ≡ true → NotBelow c x
      → Right spans names W c v (k x)
  name : {f l x : ℕ} {es : List Span} {v : List ℕ} → SignalName v → Declared names v x → Right spans names W (signal f l es) v (value f l x es)

-- The lines before p are right, and c comes next.
pub data Reached (spans : Bool) (names : List (List ℕ)) (W : ℕ) (r : List ℕ) : Next → ℕ → Type 0 where
  start : Reached spans names W r (ticks []) 0
  line : {c e : Next} {p : ℕ} {v : List ℕ} → Reached spans names W r c p → LineAt r p (key spans c ++ v) → Right spans names W c v e → Reached spans names W r e (after p (key spans c ++ v))

-- All lines of the text are right in its form, and its entries have these marks.
pub record ReadingsRead (names : List (List ℕ)) (W : ℕ) (r : List ℕ) (ms : List Mark) : Type 0 where
  pub spans : Bool
  pub form : HasForm r spans
  pub entries : List Span
  pub lines : Reached spans names W r (ticks entries) (length r)
  pub marks : marks_of_all entries ≡ ms

-- ---- faults

-- The place of the line's value.
abbrev pub value_at : Bool → Next → ℕ → ℕ
value_at form c p = p + length (key form c)

-- "A readings line is missing, not of its form or without LF."
pub record Unformed (spans : Bool) (W : ℕ) (r : List ℕ) (p : ℕ) (c : Next) : Type 0 where
  pub more : More p (length r) c
  pub none : (v : List ℕ) → LineAt r p (key spans c ++ v) → Formed spans W c v → ⊥

-- "Unknown name."
pub data Unknown (names : List (List ℕ)) (r : List ℕ) (p : ℕ) : Next → Type 0 where
  name : {f l : ℕ} {es : List Span} {v : List ℕ} → LineAt r p (bytes "signal=" ++ v) → ((x : ℕ) → SignalName v → Declared names v x → ⊥) → Unknown names r p (signal f l es)

-- "Tick outside the window" and "value is a number other than 0 or 1", by the refusal's number.
pub data OutOfRange (spans : Bool) (W : ℕ) (r : List ℕ) (p : ℕ) : Next → ℕ → Type 0 where
  number : {c : Next} {lo hi content x : ℕ} {k : ℕ → Next} {v : List ℕ} → Ranged spans W c lo hi content k → LineAt r p (key spans c ++ v) → Number v x → between lo hi x ≡ false
      → OutOfRange spans W r p c content

-- "`to` is below `from`", "after 13 on that line": it is a tick of the window.
pub data Below (W : ℕ) (r : List ℕ) (p : ℕ) : Next → Type 0 where
  number : {f l : ℕ} {es : List Span} {v : List ℕ} → LineAt r p (bytes "to=" ++ v) → Number v l → between 0 (W - 1) l ≡ true → l < f → Below W r p (to f es)

-- What comes next at p is at fault, with the refusal's number and place. A line's form is before its content.
pub data Fault (spans : Bool) (names : List (List ℕ)) (W : ℕ) (r : List ℕ) (p : ℕ) (c : Next) : ℕ → ℕ → Type 0 where
  unformed : Unformed spans W r p c → Fault spans names W r p c 11 p
  name : Unknown names r p c → Fault spans names W r p c 12 (value_at spans c p)
  range : {content : ℕ} → OutOfRange spans W r p c content → Fault spans names W r p c content (value_at spans c p)
  to_below : Below W r p c → Fault spans names W r p c 21 (value_at spans c p)

-- The first line at fault: all lines before it are right, and of what comes next at its place Q holds.
pub record First (spans : Bool) (names : List (List ℕ)) (W : ℕ) (r : List ℕ) (Q : Next → ℕ → Type 0) : Type 0 where
  pub next : Next
  pub place : ℕ
  pub reached : Reached spans names W r next place
  pub holds : Q next place

-- The text's first line at fault in its form has the refusal n at the place i.
pub record ReadingsFault (names : List (List ℕ)) (W : ℕ) (r : List ℕ) (n i : ℕ) : Type 0 where
  pub spans : Bool
  pub form : HasForm r spans
  pub first : First spans names W r (λ c p. Fault spans names W r p c n i)
