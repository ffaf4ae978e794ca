-- The lines of a dump that is read (E6): what each has to be after those before it, its faults, and what a reading of it answers by cases.
-- Assumes nothing. `names` are the declared names in sheet order, W is the window and d the dump; p is a place in it.
use Rattle.std.specs.Prelude.{◌≡◌, true, ℕ, suc, ◌+◌, ◌<◌, ◌≤◌, length, get_or}
use mathlib.Core.List.{List, [], ◌∷◌, ◌++◌, Memᴰ}
use Rattle.read_bytes.specs.Bytes.{bytes, one_of}
use Rattle.spec_grammar.specs.Lines.{LineAt, after, Number}
use Rattle.spec_dump.specs.DumpTexts.{Event, time, sign, id_byte, var_key}
use Rattle.spec_dump.specs.DumpLines.{sign_said}

-- What comes next: one of the lines up to `#0`, of which `signal x` is the line of signal x, and after the last signal's `$upscope`; or, after the events es, an
-- event, where u is the time so far and k the first signal that may follow at it.
pub data Next : Type 0 where
  timescale : Next
  scope : Next
  signal : (x : ℕ) → Next
  definitions : Next
  nought : Next
  event : (u k : ℕ) (es : List Event) → Next

-- "All at `#0`": a sign is still asked for.
abbrev pub Owed : List (List ℕ) → ℕ → ℕ → Type 0
Owed names u k = (u ≡ 0) × (k < length names)

-- "`$var wire 1 ID NAME $end`", with w in the name's place.
abbrev pub signal_line : ℕ → List ℕ → List ℕ
signal_line x w = var_key x ++ (w ++ bytes " $end")

-- "Any timescale of 1, 10 or 100 and s, ms, us, ns, ps or fs."
abbrev pub amounts : List (List ℕ)
amounts = bytes "1" ∷ bytes "10" ∷ bytes "100" ∷ []

abbrev pub unit_names : List (List ℕ)
unit_names = bytes "s" ∷ bytes "ms" ∷ bytes "us" ∷ bytes "ns" ∷ bytes "ps" ∷ bytes "fs" ∷ []

abbrev pub scale_line : List ℕ → List ℕ → List ℕ
scale_line n u = bytes "$timescale " ++ (n ++ (bytes " " ++ (u ++ bytes " $end")))

-- "The reader takes just these lines": the line is right, and this comes next. "Signs at one time keep sheet order, none twice, all at `#0`"; "times rise
-- strictly".
pub data Right (names : List (List ℕ)) (W : ℕ) : Next → List ℕ → Next → Type 0 where
  scaled : {n u : List ℕ} → Memᴰ n amounts → Memᴰ u unit_names → Right names W timescale (scale_line n u) scope
  scoped : Right names W scope (bytes "$scope module sheet $end") (signal 0)
  declared : {x : ℕ} → x < length names → Right names W (signal x) (signal_line x (get_or names x [])) (signal (suc x))
  upscoped : {x : ℕ} → length names ≤ x → Right names W (signal x) (bytes "$upscope $end") definitions
  defined : Right names W definitions (bytes "$enddefinitions $end") nought
  started : Right names W nought (bytes "#0") (event 0 0 [])
  said : {u k x b : ℕ} {es : List Event} → k ≤ x → x < length names → (Owed names u k → x ≡ k) → one_of b (bytes "01xz") ≡ true
      → Right names W (event u k es) (b ∷ id_byte x ∷ []) (event u (suc x) (es ++ (sign x (sign_said b) ∷ [])))
  timed : {u k t : ℕ} {es : List Event} {v : List ℕ} → (Owed names u k → ⊥) → Number v t → u < t → t < W → Right names W (event u k es) (bytes "#" ++ v) (event t 0 (es ++ (time t ∷ [])))

-- The lines before p are right, and c comes next.
pub data Reached (names : List (List ℕ)) (W : ℕ) (d : List ℕ) : Next → ℕ → Type 0 where
  start : Reached names W d timescale 0
  line : {c e : Next} {p : ℕ} {l : List ℕ} → Reached names W d c p → LineAt d p l → Right names W c l e → Reached names W d e (after p l)

-- The dump may end where an event comes next, and does.
pub data End (names : List (List ℕ)) (d : List ℕ) (p : ℕ) : Next → Type 0 where
  end : {u k : ℕ} {es : List Event} → (Owed names u k → ⊥) → p ≡ length d → End names d p (event u k es)

-- ---- faults

-- "12 for a name not declared", at the name; "13 for a tick outside the window", at the tick.
pub data Outside (names : List (List ℕ)) (W : ℕ) (d : List ℕ) (p : ℕ) : Next → ℕ → ℕ → Type 0 where
  name : {x : ℕ} {w : List ℕ} → x < length names → LineAt d p (signal_line x w) → (Memᴰ w names → ⊥) → Outside names W d p (signal x) 12 (p + length (var_key x))
  tick : {u k t : ℕ} {es : List Event} {v : List ℕ} → (Owed names u k → ⊥) → LineAt d p (bytes "#" ++ v) → Number v t → W ≤ t → Outside names W d p (event u k es) 13 (p + length (bytes "#"))

-- "Any other or missing line."
pub record Other (names : List (List ℕ)) (W : ℕ) (d : List ℕ) (p : ℕ) (c : Next) : Type 0 where
  pub not_right : (l : List ℕ) (e : Next) → LineAt d p l → Right names W c l e → ⊥
  pub not_outside : (n i : ℕ) → Outside names W d p c n i → ⊥
  pub not_end : End names d p c → ⊥

-- What comes next at p is at fault, with the refusal's number and place: 22 at the line's first byte.
pub data Fault (names : List (List ℕ)) (W : ℕ) (d : List ℕ) (p : ℕ) (c : Next) : ℕ → ℕ → Type 0 where
  outside : {n i : ℕ} → Outside names W d p c n i → Fault names W d p c n i
  other : Other names W d p c → Fault names W d p c 22 p

-- ---- the whole dump

-- Its first line at fault, all lines before it being right, has the refusal n at the place i.
pub record DumpFault (names : List (List ℕ)) (W : ℕ) (d : List ℕ) (n i : ℕ) : Type 0 where
  pub next : Next
  pub place : ℕ
  pub reached : Reached names W d next place
  pub holds : Fault names W d place next n i

-- All its lines are right, up to its end, and its events are es.
pub record DumpWhole (names : List (List ℕ)) (W : ℕ) (d : List ℕ) (es : List Event) : Type 0 where
  pub latest : ℕ
  pub following : ℕ
  pub reached : Reached names W d (event latest following es) (length d)
  pub given : Owed names latest following → ⊥
