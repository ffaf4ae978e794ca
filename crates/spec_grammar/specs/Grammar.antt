-- The grammar of a rule (01, "The sheet"): which tokens are a formula or a part of one, and what they say.
-- Assumes nothing.
use Rattle.std.specs.Prelude.{◌≡◌, Bool, true, List, [], ◌∷◌, ◌++◌, ℕ, suc, ◌+◌, ◌<◌, length}
use Rattle.spec_limits.specs.Limits.{most_open}
use Rattle.read_bytes.specs.Bytes.{byte, bytes, pick, one_of}
use Rattle.read_names.specs.Spellings.{find_name}
use Rattle.spec_tilco.specs.Formula.{Op, And, Or, Implies, Iff, Written}
use Rattle.read_interval.specs.Interval.{left_out, near, over_offset}
use Rattle.read_parts.specs.FormulaText.{sign_text, repeats}
use Rattle.spec_grammar.specs.Tokens.{Spelling, End, Tokens}

-- A plain part, a timed part, and the level of each of & | => <=>: an and-part, an or-part, an implication part and a formula.
pub data Part : Type 0 where
  plain timed : Part
  level : Op → Part

abbrev pub formula : Part
formula = level Iff

-- And-parts have timed parts, or-parts and-parts, implication parts or-parts, and formulas implication parts.
abbrev pub below : Op → Part
below And = timed
below Or = level And
below Implies = level Or
below Iff = level Implies

-- What stands before a sign: & and | "group from the left", and => and <=> join two.
abbrev pub before : Op → Part
before o = pick (repeats o) (λ _. level o) (below o)

-- "since and until are reserved."
pub record Name (w : List ℕ) : Type 0 where
  pub word : Spelling w
  pub not_since : w ≡ bytes "since" → ⊥
  pub not_until : w ≡ bytes "until" → ⊥

-- since (with true) or until, and @ (with true) or ?.
abbrev pub keep_word_lem : Bool → List ℕ
keep_word_lem b = pick b (λ _. bytes "since") (bytes "until")

abbrev pub time_sign : Bool → List ℕ
time_sign b = pick b (λ _. bytes "@") (bytes "?")

-- Interval: `[` or `(`, end, `,`, end, `]` or `)`. With its brackets and the numbers of its ends.
pub data Interval : List (List ℕ) → ℕ → ℕ → ℕ → ℕ → Type 0 where
  interval : {o c v w : ℕ} {x y : List ℕ} → one_of o (bytes "[(") ≡ true → End x v → End y w → one_of c (bytes "])") ≡ true
      → Interval ((o ∷ []) ∷ x ∷ bytes "," ∷ y ∷ (c ∷ []) ∷ []) o v w c

-- The tokens are a part of the kind k, and say f. At most d of `(` and `!` are open at one place of it: "a `!` is open until its plain part ends".
-- N says which name is which signal, and I which interval has which whole numbers.
pub data Is (N : List ℕ → ℕ → Type 0) (I : ℕ → ℕ → ℕ → ℕ → ℕ → ℕ → Type 0) : Part → ℕ → List (List ℕ) → Written → Type 0 where
  name : {d i : ℕ} {w : List ℕ} → Name w → N w i → Is N I plain d (w ∷ []) (Written.name i)
  not : {d : ℕ} {ws : List (List ℕ)} {f : Written} → Is N I plain d ws f → Is N I plain (suc d) (bytes "!" ∷ ws) (Written.neg f)
  parens : {d : ℕ} {ws : List (List ℕ)} {f : Written} → Is N I formula d ws f → Is N I plain (suc d) (bytes "(" ∷ (ws ++ (bytes ")" ∷ []))) f
  keep : {d : ℕ} {us ws : List (List ℕ)} {f g : Written} (b : Bool) → Is N I formula d us f → Is N I formula d ws g
      → Is N I plain (suc d) (keep_word_lem b ∷ bytes "(" ∷ (us ++ (bytes "," ∷ (ws ++ (bytes ")" ∷ []))))) (Written.keep b f g)
  untimed : {d : ℕ} {ws : List (List ℕ)} {f : Written} → Is N I plain d ws f → Is N I timed d ws f
  time : {d o v w c first more : ℕ} {us ws : List (List ℕ)} {f : Written} (b : Bool) → Is N I timed d us f → Interval ws o v w c → I o v w c first more
      → Is N I timed d (us ++ (time_sign b ∷ ws)) (Written.time b first more f)
  one : {d : ℕ} {ws : List (List ℕ)} {f : Written} (o : Op) → Is N I (below o) d ws f → Is N I (level o) d ws f
  join : {d : ℕ} {us ws : List (List ℕ)} {f g : Written} (o : Op) → Is N I (before o) d us f → Is N I (below o) d ws g
      → Is N I (level o) d (us ++ (sign_text o ∷ ws)) (Written.pair o f g)

-- The name w is the i-th declared one.
pub record Declared (names : List (List ℕ)) (w : List ℕ) (i : ℕ) : Type 0 where
  pub found : find_name w names ≡ i
  pub declared : i < length names

-- An interval with legal ends, each from -63 to 63, its first whole number with 64 added, and how many more follow up to its last: "a round
-- bracket leaves its end out".
pub record Legal (o v w c first more : ℕ) : Type 0 where
  pub near_first : near v ≡ true
  pub near_last : near w ≡ true
  pub first_is : first + over_offset ≡ v + left_out o (byte "(")
  pub last_is : first + more + over_offset + left_out c (byte ")") ≡ w

-- The tokens of s from p to q are a part of the kind k that says f, with declared names and legal intervals, and at most d open at one place.
pub record Stands (names : List (List ℕ)) (s : List ℕ) (k : Part) (d p q : ℕ) (f : Written) : Type 0 where
  pub tokens : List (List ℕ)
  pub stand : Tokens s q p tokens
  pub is : Is (Declared names) Legal k d tokens f

-- The text from p to its end is a rule that says f: "at most 32 of `(` and `!` may be open at one place".
abbrev pub Rule : List (List ℕ) → List ℕ → ℕ → Written → Type 0
Rule names s p f = Stands names s formula most_open p (length s) f
