-- Lines with a key and a value, and lines one after another (01, "The sheet", "Readings" and "Numbers of refusal").
-- Assumes nothing. `form` is the number of the refusal for a line's form, and `content` that for its content.
use Rattle.std.specs.Prelude.{◌≡◌, ℕ, zero, suc, ◌+◌, List, [], ◌∷◌, ◌++◌, Bool, false, not, ◌&&◌, length, leb, ltb, eqb, Option, Some, None, Result}
use Rattle.spec_refusals.specs.declared.Refusal as told
use Rattle.spec_refusals.specs.Numbers.{Refusal}
use Rattle.read_bytes.specs.Read.{Read, and_then, said_by, said}
use Rattle.read_bytes.specs.Read.Read.{got, refused}
use Rattle.read_bytes.specs.Bytes.{byte, peek, pick, between, starts, run_end}
use Rattle.read_names.specs.Spellings.{name_at}
use Rattle.read_bytes.specs.Numbers.{number}

-- What an answer of a reader of lines says: a value with the place after it, or a refusal, whose number n tells.
abbrev pub says_by : {F : Type 0} → (F → ℕ) → Result (ℕ × ℕ) (told.Refusal F) → Read ℕ
says_by n = said_by n (λ x. got x.0 x.1)

-- The same, of a refusal that tells a kind of fault.
abbrev pub says : Result (ℕ × ℕ) Refusal → Read ℕ
says = said (λ x. got x.0 x.1)

-- Is b no LF?
unfoldable pub in_line : ℕ → Bool
in_line b = not (eqb b (byte "\n"))

-- The place of the first LF from p on, or the text's length.
abbrev pub line_end : List ℕ → ℕ → ℕ
line_end = run_end in_line

-- The line at p with a key: the place of its value, and that of its LF. Or its form is refused at p.
unfoldable pub line : List ℕ → ℕ → List ℕ → ℕ → Read ℕ
line s p key form =
    pick (starts s p key && ltb (line_end s (p + length key)) (length s))
    (λ _. got (p + length key) (line_end s (p + length key))) (refused form p)

-- Does the key stand at p, and the text reach to the place of its value?
unfoldable pub keyed_at : List ℕ → ℕ → List ℕ → Bool
keyed_at s p key = leb (p + length key) (length s) && starts s p key

-- Does an LF of the text stand at p?
unfoldable pub lf_at : List ℕ → ℕ → Bool
lf_at s p = ltb p (length s) && eqb (peek s p) (byte "\n")

-- A value x that ends at q and takes its line whole, up to the LF at e: x, and the place after the line. Or the refusal n at p.
abbrev pub whole : ℕ → ℕ → ℕ → ℕ → ℕ → Read ℕ
whole x q e n p = pick (eqb q e) (λ _. got x (e + 1)) (refused n p)

-- A number that takes the line at p whole.
abbrev pub whole_number : ℕ → ℕ → ℕ → Option (ℕ × ℕ) → Read ℕ
whole_number p form e (Some (x, q)) = whole x q e form p
whole_number p form e None = refused form p

-- A name that takes the line whole from its value's place v on. Its place is its value.
abbrev pub whole_name : ℕ → ℕ → ℕ → Option (ℕ × Option ℕ) → Read ℕ
whole_name v content e (Some (q, n)) = whole v q e content v
whole_name v content e None = refused content v

-- The line at p with a key and a number: the number, and the place after the line. Or its form is refused at p.
unfoldable pub number_line : List ℕ → ℕ → List ℕ → ℕ → Read ℕ
number_line s p key form = and_then (line s p key form) (λ v e. whole_number p form e (number s v))

-- The same with a number from lo to hi. Or its form is refused at p, or its content at the value.
unfoldable pub ranged_line : List ℕ → ℕ → List ℕ → ℕ → ℕ → ℕ → ℕ → Read ℕ
ranged_line s p key form content lo hi =
    and_then (number_line s p key form) (λ x q. pick (between lo hi x) (λ _. got x q) (refused content (p + length key)))

-- A number with an LF after it, of the line at p: the number, and the place after the line. Or the line's form is refused at p.
abbrev pub ended_number : List ℕ → ℕ → ℕ → Option (ℕ × ℕ) → Read ℕ
ended_number s p form (Some (x, q)) = pick (lf_at s q) (λ _. got x (q + 1)) (refused form p)
ended_number s p form None = refused form p

-- What follows the key of the line at p, from v on: a number with an LF after it.
unfoldable pub number_value : List ℕ → ℕ → ℕ → ℕ → Read ℕ
number_value s p v form = ended_number s p form (number s v)

-- The same with a number from lo to hi. Or the line's content is refused at v.
unfoldable pub ranged_value : List ℕ → ℕ → ℕ → ℕ → ℕ → ℕ → ℕ → Read ℕ
ranged_value s p v form content lo hi =
    and_then (number_value s p v form) (λ x q. pick (between lo hi x) (λ _. got x q) (refused content v))

-- The line at p with a key and a name: the place of the name, and the place after the line. Or its form is refused at p, or its content at the value.
unfoldable pub name_line : List ℕ → ℕ → List ℕ → ℕ → ℕ → Read ℕ
name_line s p key form content = and_then (line s p key form) (λ v e. whole_name v content e (name_at s v))

-- No name from v on takes its line whole.
abbrev pub NoName : List ℕ → ℕ → Type 0
NoName s v = (q : ℕ) (n : Option ℕ) → name_at s v ≡ Some (q, n) → lf_at s q ≡ false

-- What was read, t, and n things more that P reads in turn, which sees those before.
unfoldable pub in_turn : {A : Type 0} → (List A → ℕ → Read A) → ℕ → List A → ℕ → Read (List A)
in_turn P zero t p = got t p
in_turn P (suc n) t p = and_then (P t p) (λ a q. in_turn P n (t ++ (a ∷ [])) q)

-- What was read, t, and the things that P reads up to the place end, at most n of them.
unfoldable pub up_to : {A : Type 0} → (ℕ → Read A) → ℕ → ℕ → List A → ℕ → Read (List A)
up_to P end zero t p = got t p
up_to P end (suc n) t p = pick (ltb p end) (λ _. and_then (P p) (λ a q. up_to P end n (t ++ (a ∷ [])) q)) (got t p)
