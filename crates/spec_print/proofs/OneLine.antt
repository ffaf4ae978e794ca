-- The text of tokens that stand in the grammar is not empty and has no LF: it can stand in a rule's line.
-- Assumes nothing.
use mathlib.Core.Path.{◌≡◌, refl, sym, ap, ◌∙◌}
use mathlib.Core.Bool.{Bool, true, false, true≢false, ◌||◌}
use mathlib.Core.List.{List, [], ◌∷◌, ◌++◌, flatten}
use Prim.Native.Nat.{ℕ, ◌≤◌}
use native.Mathlib.Omega.{arith}
use borrow.Author.Tests.{eq-eqb}
use lib.Dec.{eqb}
use lib.ListN.{length}
use Rattle.read_bytes.specs.Bytes.{byte, bytes, name_byte, one_of, InLine}
use Rattle.spec_tilco.specs.Formula.{Op, And, Or, Implies, Iff, Written}
use Rattle.spec_tilco.specs.Lists.{All}
use Rattle.read_parts.specs.FormulaText.{sign_text}
use Rattle.spec_grammar.specs.Tokens.{Each, Spelling, Token, Tokens, signs}
use Rattle.spec_grammar.specs.Grammar.{Part, keep_word_lem, time_sign, Is}
use Rattle.spec_grammar.proofs.Standing.{next_is, word_each}
use Rattle.spec_grammar.proofs.Signs.{among}
use Rattle.spec_print.proofs.Counts.{long, long_next, long_append}
use Rattle.spec_print.proofs.TokenTexts.{end_byte, end_each, keep_word}

-- ---- no LF

in_line_append : (v w : List ℕ) → InLine v → InLine w → InLine (v ++ w)
in_line_append [] w h k = k
in_line_append (b ∷ v) w h k = (h.0, in_line_append v w h.1 k)

-- Bytes that pass a test which LF does not.
passed_in_line : (P : ℕ → Bool) → P (byte "\n") ≡ false → (w : List ℕ) → Each P w → InLine w
passed_in_line P n [] h = tt
passed_in_line P n (b ∷ w) h = (λ e. true≢false (sym h.0 ∙ ap P e ∙ n), passed_in_line P n w h.1)

-- Bytes among which LF is not.
other_in_line : (w : List ℕ) → one_of (byte "\n") w ≡ false → InLine w
other_in_line [] h = tt
other_in_line (b ∷ w) h = go (eqb (byte "\n") b) refl h (other_in_line w)
  where
    go : (x : Bool) → eqb (byte "\n") b ≡ x → x || one_of (byte "\n") w ≡ false → (one_of (byte "\n") w ≡ false → InLine w) → InLine (b ∷ w)
    go true e k rest = absurd (true≢false k)
    go false e k rest = (λ f. true≢false (sym (eq-eqb (byte "\n") b (sym f)) ∙ e), rest k)

signs_other : All (λ w. one_of (byte "\n") w ≡ false) signs
signs_other = (refl, (refl, (refl, (refl, (refl, (refl, (refl, (refl, (refl, (refl, (refl, (refl, tt))))))))))))

token_in_line : {w : List ℕ} → Token w → InLine w
unfolding name_byte
token_in_line (Token.word {w} x) = passed_in_line name_byte refl w (word_each x)
token_in_line (Token.end {w} x) = passed_in_line end_byte refl w (end_each x)
token_in_line (Token.sign {w} m) = other_in_line w (among (λ v. one_of (byte "\n") v ≡ false) signs signs_other m)

pub tokens_in_line : {s : List ℕ} {p q : ℕ} (ws : List (List ℕ)) → Tokens s q p ws → InLine (flatten ws)
unfolding flatten
tokens_in_line [] t = tt
tokens_in_line {p = p} (w ∷ ws) t = let n = next_is t in in_line_append w (flatten ws) (token_in_line n.0.token) (tokens_in_line {p = Prim.Native.Nat.◌+◌ p (length w)} ws n.1)

-- ---- not empty

sign_some : (o : Op) → 1 ≤ length (sign_text o)
sign_some And = omega arith
sign_some Or = omega arith
sign_some Implies = omega arith
sign_some Iff = omega arith

word_some : {w : List ℕ} → Spelling w → 1 ≤ length w
word_some (Spelling.word h k) = omega arith

pub is_some : {N : List ℕ → ℕ → Type 0} {I : ℕ → ℕ → ℕ → ℕ → ℕ → ℕ → Type 0} {k : Part} {d : ℕ} {ws : List (List ℕ)} {f : Written} → Is N I k d ws f → 1 ≤ long ws
is_some (Is.name {w = w} n h) = omega (arith, long_next w [], word_some n.word)
is_some (Is.not {ws = ws} h) = omega (arith, long_next (bytes "!") ws)
is_some (Is.parens {ws = ws} h) = omega (arith, long_next (bytes "(") (ws ++ (bytes ")" ∷ [])))
is_some (Is.keep {us = us} {ws} b h k) = omega (arith, long_next (keep_word_lem b) (bytes "(" ∷ (us ++ (bytes "," ∷ (ws ++ (bytes ")" ∷ []))))), word_some (keep_word b))
is_some (Is.untimed h) = is_some h
is_some (Is.time {us = us} {ws} b h i l) = omega (arith, long_append us (time_sign b ∷ ws), is_some h)
is_some (Is.one o h) = is_some h
is_some (Is.join {us = us} {ws} o h k) = omega (arith, long_append us (sign_text o ∷ ws), is_some h)
