-- The grammar of a rule (01, "The sheet"), as the reading of a formula from a place of the text on.
-- Assumes nothing. `s` is the sheet up to the rule's LF, so places are the sheet's; `names` are the declared names' texts.
use Rattle.std.specs.Prelude.{Bool, true, false, List, ℕ, zero, suc, ◌+◌, ltb, eqb, length, Ok, Err}
use Rattle.std.proofs.Math.Option.{Option, none, some}
use Rattle.spec_limits.specs.Limits.{most_open}
use Rattle.read_bytes.specs.declared.bytes.Class.{Class}
use Rattle.read_bytes.specs.declared.bytes.Class.TheVariants.{Letter, Digit, Sign, Bracket, Other}
use Rattle.read_bytes.specs.Read.{Read, and_then}
use Rattle.read_bytes.specs.Read.Read.{got, refused}
use Rattle.read_bytes.specs.Bytes.{byte, bytes, peek, pick, one_of, class_of, starts}
use Rattle.read_names.specs.Spellings.{spelling_at, spelling_end, find_name, is_spelled}
use Rattle.spec_tilco.specs.Formula.{Op, And, Or, Implies, Iff, Written}
use Rattle.spec_refusals.specs.Numbers.{fault_number}
use Rattle.read_interval.specs.Interval.{Offsets, interval}

-- Reads a formula, or a part of one, from a place on.
abbrev pub Reader : Type 0
Reader = ℕ → Read Written

-- A declared name. "A name in a formula of any length that isn't declared is 6."
unfoldable pub declared : List (List ℕ) → List ℕ → Reader
declared names s p =
    pick (ltb (find_name (spelling_at s p) names) (length names)) (λ _. got (Written.name (find_name (spelling_at s p) names)) (spelling_end s p)) (refused 6 p)

-- ---- timed part: a plain part, then any number of @ or ?, each with an interval

-- Go on with an interval's offsets, or hand its refusal on.
abbrev pub offsets_then : Offsets → (ℕ → ℕ → ℕ → Read Written) → Read Written
offsets_then (Ok (first, more, q)) k = k first more q
offsets_then (Err r) k = refused (fault_number r.fault) r.place

-- What follows a plain part f, with at most n intervals.
unfoldable pub times : List ℕ → ℕ → Written → Reader
times s zero f p = got f p
times s (suc n) f p =
    pick (one_of (peek s p) (bytes "@?"))
    (λ _. offsets_then (interval s (p + 1)) (λ first more q. times s n (Written.time (eqb (peek s p) (byte "@")) first more f) q)) (got f p)

-- P reads a plain part.
unfoldable pub timed_part : Reader → List ℕ → Reader
timed_part P s p = and_then (P p) (λ f q. times s (length s) f q)

-- ---- the levels of & | => <=>

abbrev pub sign_text : Op → List ℕ
sign_text And = bytes "&"
sign_text Or = bytes "|"
sign_text Implies = bytes "=>"
sign_text Iff = bytes "<=>"

-- & and | join any number of parts, => and <=> two at most.
abbrev pub repeats : Op → Bool
repeats And = true
repeats Or = true
repeats Implies = false
repeats Iff = false

-- What follows a part f at the level of o: the sign and a part that P reads, "grouped from the left", with at most n signs.
unfoldable pub more : Op → Reader → List ℕ → ℕ → Written → Reader
more o P s zero f p = got f p
more o P s (suc n) f p =
    pick (starts s p (sign_text o))
    (λ _. and_then (P (p + length (sign_text o))) (λ g q. pick (repeats o) (λ _. more o P s n (Written.pair o f g) q) (got (Written.pair o f g) q)))
    (got f p)

-- The level of o over parts that P reads.
unfoldable pub level : Op → Reader → List ℕ → Reader
level o P s p = and_then (P p) (λ f q. more o P s (length s) f q)

-- "And-part: timed parts joined by &."
abbrev pub and_part : Reader → List ℕ → Reader
and_part P s = level And (timed_part P s) s

-- "Or-part: and-parts joined by |."
abbrev pub or_part : Reader → List ℕ → Reader
or_part P s = level Or (and_part P s) s

-- "Implication part: one or-part, or two joined by =>."
abbrev pub implication : Reader → List ℕ → Reader
implication P s = level Implies (or_part P s) s

-- "Formula: one implication part, or two joined by <=>." P reads a plain part.
abbrev pub formula : Reader → List ℕ → Reader
formula P s = level Iff (implication P s) s

-- What a level's parts are read by.
abbrev pub below : Op → Reader → List ℕ → Reader
below And P s = timed_part P s
below Or P s = and_part P s
below Implies P s = or_part P s
below Iff P s = implication P s

-- ---- plain part, where `inner` reads the plain parts inside what it opens, or nothing more may be opened: 8 at that byte

-- `!` and a plain part.
abbrev pub negated : Option Reader → Reader
negated none p = refused 8 p
negated (some P) p = and_then (P (p + 1)) (λ f q. got (Written.neg f) q)

-- What was read, and a `)` after it.
abbrev pub then_paren : List ℕ → Read Written → Read Written
then_paren s r = and_then r (λ f q. pick (eqb (peek s q) (byte ")")) (λ _. got f (q + 1)) (refused 5 q))

-- `(` formula `)`.
abbrev pub in_parens : Option Reader → List ℕ → Reader
in_parens none s p = refused 8 p
in_parens (some P) s p = then_paren s (formula P s (p + 1))

-- since (with true) or until, from the comma after its first formula f on; F reads the second.
unfoldable pub second : Bool → Reader → List ℕ → Written → Reader
second b F s f p =
    pick (eqb (peek s p) (byte ",")) (λ _. then_paren s (and_then (F (p + 1)) (λ g q. got (Written.keep b f g) q))) (refused 5 p)

-- The same from its `(` on.
abbrev pub arguments : Option Reader → Bool → List ℕ → Reader
arguments none b s p = refused 8 p
arguments (some P) b s p = and_then (formula P s (p + 1)) (λ f q. second b (formula P s) s f q)

-- And from what follows the word since or until, which has to be a `(`.
unfoldable pub since_until : Option Reader → Bool → List ℕ → Reader
since_until inner b s p = pick (eqb (peek s p) (byte "(")) (λ _. arguments inner b s p) (refused 5 p)

-- Since or until with its arguments, or a name.
unfoldable pub name_or_keep : Option Reader → List (List ℕ) → List ℕ → Reader
name_or_keep inner names s p =
    pick (is_spelled s p (bytes "since")) (λ _. since_until inner true s (p + 5))
    (pick (is_spelled s p (bytes "until")) (λ _. since_until inner false s (p + 5)) (declared names s p))

-- A plain part by the class of its first byte: "a byte that starts none is 5".
abbrev pub plain_part_by : Class → Option Reader → List (List ℕ) → List ℕ → Reader
plain_part_by Letter inner names s p = name_or_keep inner names s p
plain_part_by Digit inner names s p = refused 5 p
plain_part_by Sign inner names s p = pick (eqb (peek s p) (byte "!")) (λ _. negated inner p) (refused 5 p)
plain_part_by Bracket inner names s p = pick (eqb (peek s p) (byte "(")) (λ _. in_parens inner s p) (refused 5 p)
plain_part_by Other inner names s p = refused 5 p

-- A plain part.
unfoldable pub plain_part_in : Option Reader → List (List ℕ) → List ℕ → Reader
plain_part_in inner names s p = plain_part_by (class_of (peek s p)) inner names s p

-- What reads inside, where d of `(` and `!` may still be opened.
unfoldable pub inside : ℕ → List (List ℕ) → List ℕ → Option Reader
inside zero names s = none
inside (suc d) names s = some (plain_part_in (inside d names s) names s)

-- A plain part, where d may still be opened.
unfoldable pub plain_part : ℕ → List (List ℕ) → List ℕ → Reader
plain_part d names s = plain_part_in (inside d names s) names s

-- A whole rule, from p to the end of the text: at most 32 of `(` and `!` are open at one place.
unfoldable pub rule : List (List ℕ) → List ℕ → Reader
rule names s p = and_then (formula (plain_part most_open names s) s p) (λ f q. pick (eqb q (length s)) (λ _. got f q) (refused 5 q))
