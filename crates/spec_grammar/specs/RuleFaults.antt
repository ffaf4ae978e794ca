-- The refusals 5 to 8 of a rule's formula (01, "Numbers of refusal"), over its tokens.
-- Assumes nothing. `s` is the rule's text from p on.
use Rattle.std.specs.Prelude.{◌≡◌, Bool, true, List, [], ◌∷◌, ◌++◌, ℕ, suc, ◌≤◌, length}
use Rattle.spec_limits.specs.Limits.{most_open}
use Rattle.read_bytes.specs.Bytes.{bytes, one_of}
use Rattle.spec_tilco.specs.Formula.{Written}
use Rattle.spec_grammar.specs.Tokens.{TokenAt, Tokens}
use Rattle.spec_grammar.specs.Grammar.{formula, keep_word_lem, time_sign, Name, Interval, Is, Declared, Legal}

-- Any offsets of a whole interval, and any name.
abbrev pub AnyOffsets : ℕ → ℕ → ℕ → ℕ → ℕ → ℕ → Type 0
AnyOffsets o v w c first more = Unit {0}

abbrev pub AnyName : List ℕ → ℕ → Type 0
AnyName w i = Unit {0}

-- A formula begins with the tokens us, whatever its names and intervals, with at most d of `(` and `!` open at one place.
pub record Begins (d : ℕ) (us : List (List ℕ)) : Type 0 where
  pub rest : List (List ℕ)
  pub says : Written
  pub is : Is AnyName AnyOffsets formula d (us ++ rest) says

-- What is wrong at the place κ, where the tokens us stand before it: the refusal's number and κ.
pub data Wrong (names : List (List ℕ)) (s : List ℕ) (p : ℕ) : ℕ → ℕ → Type 0 where
  -- 5: "formula does not fit": a formula begins with the tokens before, and none goes on with the token at κ, or ends there where the rule does.
  -- With 33, since the word since or until may stand where 32 are open
  token : {κ : ℕ} {us : List (List ℕ)} → Tokens s κ p us → Begins (suc most_open) us → ((w : List ℕ) (d : ℕ) → TokenAt s κ w → Begins d (us ++ (w ∷ [])) → ⊥)
      → (κ ≡ length s → (d : ℕ) (f : Written) → Is AnyName AnyOffsets formula d us f → ⊥) → Wrong names s p 5 κ
  -- 6: "name not declared", where a name may stand
  name : {κ : ℕ} {w : List ℕ} {us : List (List ℕ)} → Tokens s κ p us → TokenAt s κ w → Name w → ((i : ℕ) → Declared names w i → ⊥) → Begins most_open (us ++ (w ∷ [])) → Wrong names s p 6 κ
  -- 7: "a whole interval has an end outside -63 to 63, or no whole number inside", where an interval may stand
  offsets : {κ q o v w c : ℕ} {us ws : List (List ℕ)} → Tokens s κ p us → Tokens s q κ ws → Interval ws o v w c → ((first more : ℕ) → Legal o v w c first more → ⊥) → Begins most_open (us ++ ws)
      → Wrong names s p 7 κ
  -- 8: "a 33rd `(` or `!` is open": with 33 a formula goes on with it, and with 32 none. "At one byte 5 comes before 8": where it goes on in no way
  -- it is 5
  deep : {κ o : ℕ} {us : List (List ℕ)} → Tokens s κ p us → one_of o (bytes "(!") ≡ true → TokenAt s κ (o ∷ []) → Begins (suc most_open) (us ++ ((o ∷ []) ∷ [])) → (Begins most_open (us ++ ((o ∷ []) ∷ [])) → ⊥)
      → Wrong names s p 8 κ

-- "A formula from left to right": the first place where something is wrong.
pub record RuleFault (names : List (List ℕ)) (s : List ℕ) (p n κ : ℕ) : Type 0 where
  pub wrong : Wrong names s p n κ
  pub first : (m i : ℕ) → Wrong names s p m i → κ ≤ i

-- An accepted rule begins with the tokens us.
pub record Becomes (names : List (List ℕ)) (us : List (List ℕ)) : Type 0 where
  pub rest : List (List ℕ)
  pub says : Written
  pub is : Is (Declared names) Legal formula most_open (us ++ rest) says

-- An interval begins with the tokens us.
pub record OffsetsBegin (us : List (List ℕ)) : Type 0 where
  pub rest : List (List ℕ)
  pub opens : ℕ
  pub low : ℕ
  pub high : ℕ
  pub closes : ℕ
  pub is : Interval (us ++ rest) opens low high closes

-- What stands before a refusal could still become a rule, but for the word since or until, or a timed part's interval, that has just begun.
pub data Open (names : List (List ℕ)) : List (List ℕ) → Type 0 where
  whole : {us : List (List ℕ)} → Becomes names us → Open names us
  word : {us : List (List ℕ)} (b : Bool) → Becomes names us → Open names (us ++ (keep_word_lem b ∷ []))
  offsets : {us ts : List (List ℕ)} (b : Bool) → Becomes names us → OffsetsBegin ts → Open names (us ++ (time_sign b ∷ ts))
