-- A rule's text as it is printed back from what was read (E3): "with parentheses only where the grammar needs them and intervals in square brackets".
-- Assumes nothing. `names` are the declared names' texts, in sheet order.
use Rattle.std.specs.Prelude.{◌≡◌, Bool, ℕ, ◌+◌, ◌-◌, ltb, get_or}
use mathlib.Core.List.{List, [], ◌∷◌, ◌++◌, flatten}
use Rattle.spec_limits.specs.Limits.{offset_zero}
use Rattle.read_bytes.specs.Read.Read.{got}
use Rattle.read_bytes.specs.Bytes.{byte, bytes, pick}
use Rattle.write_bytes.specs.Writes.{decimal_text}
use Rattle.spec_tilco.specs.Formula.{And, Or, Implies, Iff, Written}
use Rattle.read_parts.specs.FormulaText.{sign_text, rule}
use Rattle.spec_grammar.specs.Grammar.{Part, formula, before, below, keep_word_lem, time_sign}
use Rattle.spec_grammar.specs.Grammar.Part.{plain, timed, level}

-- How far up the grammar a part stands. Where a part may stand, so may each part that stands no higher.
abbrev pub rank : Part → ℕ
rank plain = 0
rank timed = 1
rank (level And) = 2
rank (level Or) = 3
rank (level Implies) = 4
rank (level Iff) = 5

-- The part that a formula is without parentheses.
abbrev pub part_of : Written → Part
part_of (Written.name x) = plain
part_of (Written.neg f) = plain
part_of (Written.pair o f g) = level o
part_of (Written.time b first more f) = timed
part_of (Written.keep b f g) = plain

-- Does the grammar need parentheses around f where a part k is to stand?
abbrev pub needed : Part → Written → Bool
needed k f = ltb (rank k) (rank (part_of f))

-- Tokens in parentheses, or as they are.
abbrev pub enclosed : Bool → List (List ℕ) → List (List ℕ)
enclosed b ws = pick b (λ _. bytes "(" ∷ (ws ++ (bytes ")" ∷ []))) ws

-- An end of an interval: the offset x has 64 added.
unfoldable pub end_text : ℕ → List ℕ
end_text x = pick (ltb x offset_zero) (λ _. byte "-" ∷ decimal_text (offset_zero - x)) (decimal_text (x - offset_zero))

-- The last offset of an interval, after its first one and how many more.
abbrev pub last_of : ℕ → ℕ → ℕ
last_of first more = first + more

-- An interval in square brackets, from its first offset to its last.
unfoldable pub interval_tokens : ℕ → ℕ → List (List ℕ)
interval_tokens first more = bytes "[" ∷ end_text first ∷ bytes "," ∷ end_text (last_of first more) ∷ bytes "]" ∷ []

-- The tokens of a formula, each part of it in parentheses only where the grammar needs them.
unfoldable pub tokens : List (List ℕ) → Written → List (List ℕ)
tokens names (Written.name x) = get_or names x [] ∷ []
tokens names (Written.neg f) = bytes "!" ∷ enclosed (needed plain f) (tokens names f)
tokens names (Written.pair o f g) =
    enclosed (needed (before o) f) (tokens names f) ++ (sign_text o ∷ enclosed (needed (below o) g) (tokens names g))
tokens names (Written.time b first more f) = enclosed (needed timed f) (tokens names f) ++ (time_sign b ∷ interval_tokens first more)
tokens names (Written.keep b f g) =
    keep_word_lem b ∷ bytes "(" ∷ (enclosed (needed formula f) (tokens names f) ++ (bytes "," ∷ (enclosed (needed formula g) (tokens names g) ++ (bytes ")" ∷ []))))

-- Its tokens where a part k is to stand.
abbrev pub tokens_in : List (List ℕ) → Part → Written → List (List ℕ)
tokens_in names k f = enclosed (needed k f) (tokens names f)

-- The text of a rule as it is printed back: its tokens one after the other, with nothing between.
unfoldable pub printed : List (List ℕ) → Written → List ℕ
printed names f = flatten (tokens_in names formula f)

-- f is a rule: some text is read as it.
pub record IsRule (names : List (List ℕ)) (f : Written) : Type 0 where
  pub text : List ℕ
  pub place : ℕ
  pub end : ℕ
  pub reads : rule names text place ≡ got f end
