-- The text of each part of a rule as what the calls write, one after the other.
-- Assumes nothing. `names` are the declared names' texts.
use mathlib.Core.Path.{◌≡◌, sym, ap}
use mathlib.Core.Bool.{Bool, true, false}
use mathlib.Core.List.{List, [], ◌∷◌, ◌++◌, append-nil, append_assoc, flatten}
use Prim.Native.Nat.{ℕ, ◌-◌, ◌<◌, ◌≤◌}
use borrow.Author.Tests.{lt-ltb, le-ltb}
use lib.Dec.{ltb}
use lib.ListN.{get_or}
use Rattle.spec_limits.specs.Limits.{offset_zero}
use Rattle.read_bytes.specs.Bytes.{byte, bytes}
use Rattle.spec_tilco.specs.Formula.{Op, Written}
use Rattle.read_parts.specs.FormulaText.{sign_text}
use Rattle.spec_grammar.specs.Grammar.{formula, before, below, keep_word_lem, time_sign}
use Rattle.spec_grammar.specs.Grammar.Part.{plain, timed}
use Rattle.write_bytes.specs.Writes.{decimal_text}
use Rattle.spec_print.specs.RuleTexts.{rank, part_of, enclosed, end_text, last_of, interval_tokens, tokens, tokens_in, printed}
use Rattle.spec_print.proofs.TokenTexts.{text_append}
use Rattle.write_formula.specs.PartTexts.{bare_text, part_text, paren_text}

-- ---- intervals

-- An end before 0, and any other.
pub minus_parts : (x : ℕ) → x < offset_zero → end_text x ≡ bytes "-" ++ decimal_text (offset_zero - x)
unfolding end_text
minus_parts x h = rw (lt-ltb x offset_zero h)

pub plus_parts : (x : ℕ) → offset_zero ≤ x → end_text x ≡ decimal_text (x - offset_zero)
unfolding end_text
plus_parts x h = rw (le-ltb x offset_zero h)

pub interval_parts : (first more low high : ℕ) → low ≡ first → high ≡ last_of first more
    → flatten (interval_tokens first more) ≡ bytes "[" ++ (end_text low ++ (bytes "," ++ (end_text high ++ bytes "]")))
unfolding interval_tokens flatten
interval_parts first more low high l h = rw (l, h)

module _ (names : List (List ℕ)) where
  -- ---- a formula without parentheses around it

  pub name_parts : (x : ℕ) → bare_text names (Written.name x) ≡ get_or names x []
  unfolding bare_text tokens flatten
  name_parts x = append-nil (get_or names x [])

  pub deny_parts : (f : Written) (most : ℕ) → most ≡ rank plain → bare_text names (Written.neg f) ≡ bytes "!" ++ part_text names most f
  unfolding bare_text part_text tokens flatten
  deny_parts f most e = rw e

  pub pair_parts : (o : Op) (f g : Written) (l r : ℕ) → l ≡ rank (before o) → r ≡ rank (below o)
      → bare_text names (Written.pair o f g) ≡ part_text names l f ++ (sign_text o ++ part_text names r g)
  unfolding bare_text part_text tokens flatten
  pair_parts o f g l r a b = rw (a, b) (text_append (tokens_in names (before o) f) (sign_text o ∷ tokens_in names (below o) g))

  pub time_parts : (b : Bool) (first more : ℕ) (f : Written) (most : ℕ) (w : List ℕ) → most ≡ rank timed → w ≡ time_sign b
      → bare_text names (Written.time b first more f) ≡ part_text names most f ++ (w ++ flatten (interval_tokens first more))
  unfolding bare_text part_text tokens flatten
  time_parts b first more f most w a e = rw (a, e) (text_append (tokens_in names timed f) (time_sign b ∷ interval_tokens first more))

  pub keep_parts : (b : Bool) (f g : Written) (l r : ℕ) → l ≡ rank formula → r ≡ rank formula
      → bare_text names (Written.keep b f g) ≡ (keep_word_lem b ++ bytes "(") ++ (part_text names l f ++ (bytes "," ++ (part_text names r g ++ bytes ")")))
  unfolding bare_text part_text tokens flatten
  keep_parts b f g l r x y =
      let us = tokens_in names formula f in
      let ws = tokens_in names formula g in
      let e = text_append us (bytes "," ∷ (ws ++ (bytes ")" ∷ []))) in
      let d = text_append ws (bytes ")" ∷ []) in
      rw (x, y, e, d, append_assoc (keep_word_lem b) (bytes "("))

  -- ---- and with them where they are needed

  pub part_parts : (most : ℕ) (f : Written) (needed : Bool) → needed ≡ ltb most (rank (part_of f))
      → part_text names most f ≡ paren_text needed (byte "(") ++ (bare_text names f ++ paren_text needed (byte ")"))
  unfolding bare_text part_text flatten
  part_parts most f needed e = rw (← e) (go needed)
    where
      go : (b : Bool) → flatten (enclosed b (tokens names f)) ≡ paren_text b (byte "(") ++ (flatten (tokens names f) ++ paren_text b (byte ")"))
      go true = ap (λ w. byte "(" ∷ w) (text_append (tokens names f) (bytes ")" ∷ []))
      go false = sym (append-nil (flatten (tokens names f)))

  -- A rule as it is printed back.
  pub printed_parts : (f : Written) (most : ℕ) → most ≡ rank formula → printed names f ≡ part_text names most f
  unfolding printed part_text
  printed_parts f most e = rw e
