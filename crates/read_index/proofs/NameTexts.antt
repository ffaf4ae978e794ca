-- A name's text: a spelling is one exactly where a name stands, and its place is inside the text.
-- Assumes nothing.
use mathlib.Core.Path.{◌≡◌, refl, sym, ◌∙◌}
use mathlib.Core.Bool.{Bool, true, false, false≢true}
use mathlib.Core.List.{List, [], ◌∷◌}
use Prim.Native.Nat.{ℕ, ◌-◌, ◌<◌, ◌≤◌}
use native.Mathlib.Omega.{arith}
use lib.ListN.{length}
use Rattle.std.specs.Prelude.{Option, Some}
use Rattle.spec_limits.specs.Limits.{most_name_bytes}
use Rattle.read_bytes.specs.Bytes.{bytes, byte, peek, letter, name_byte, run_end, every}
use Rattle.read_names.specs.EndNumbers.{end_number}
use Rattle.read_names.specs.Spellings.{spelling_at, spelling_end, is_spelled, is_reserved, name_at, same_text_lem}
use Rattle.read_bytes.proofs.Tests.{between_is}
use Rattle.read_bytes.proofs.Runs.{run_byte}
use Rattle.read_names.proofs.Spelling.{name_letter, word_more, word_none}
use Rattle.read_names.proofs.Names.{word_same, name_is, named}
use Rattle.read_index.specs.NameTexts.{starts_with_letter, NameText}

module _ (s : List ℕ) (p : ℕ) where
  -- The spelling is since, or until, exactly if it is the same text.
  since_same : is_spelled s p (bytes "since") ≡ same_text_lem (spelling_at s p) (bytes "since")
  unfolding every name_byte
  since_same = word_same s p (bytes "since") refl

  until_same : is_spelled s p (bytes "until") ≡ same_text_lem (spelling_at s p) (bytes "until")
  unfolding every name_byte
  until_same = word_same s p (bytes "until") refl

  -- It starts with a letter exactly if one stands there.
  starts_letter : letter (peek s p) ≡ true → starts_with_letter (spelling_at s p) ≡ true
  starts_letter e = rw (word_more s p (name_letter (peek s p) e)) e

  letter_first : starts_with_letter (spelling_at s p) ≡ true → letter (peek s p) ≡ true
  letter_first h = go (name_byte (peek s p)) refl
    where
      go : (b : Bool) → name_byte (peek s p) ≡ b → letter (peek s p) ≡ true
      go true e = rw (word_more s p e) at h
      go false e = absurd (false≢true (rw (word_none s p e) at h))

  pub name_text : {q : ℕ} {n : Option ℕ} → name_at s p ≡ Some (q, n) → NameText (spelling_at s p)
  name_text h =
      let n = named s p h in
      record {
        first = starts_letter n.first;
        short = n.short;
        not_since = sym since_same ∙ n.not_since;
        not_until = sym until_same ∙ n.not_until;
        ended = n.ended;
      }

  not_reserved : NameText (spelling_at s p) → is_reserved s p ≡ false
  unfolding is_reserved
  not_reserved t = rw (since_same ∙ t.not_since, until_same ∙ t.not_until)

  pub text_name : NameText (spelling_at s p) → name_at s p ≡ Some (spelling_end s p, end_number (spelling_at s p))
  unfolding run_end
  text_name t =
      let l = between_is (byte "a") (byte "z") (peek s p) (letter_first t.first) in
      let short : spelling_end s p - p ≤ most_name_bytes = omega (arith, t.short) in
      let n = name_is s p (peek s p) refl (spelling_end s p) refl l.0 l.1 short (not_reserved t) in
      sym n ∙ rw t.ended

some : (w : List ℕ) → starts_with_letter w ≡ true → 0 < length w
some [] e = absurd (false≢true e)
some (b ∷ w) e = omega arith

-- A name stands inside the text.
pub text_inside : (s : List ℕ) (p : ℕ) → NameText (spelling_at s p) → p < length s
text_inside s p t =
    let n = some (spelling_at s p) t.first in
    omega (arith, (run_byte name_byte s p 0 n).0)
