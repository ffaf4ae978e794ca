-- Caption lines one after the other: a turn takes one, and the rest is left.
-- Assumes nothing. n is any number of turns that is enough.
use mathlib.Core.Path.{◌≡◌, refl, ◌∙◌}
use mathlib.Core.List.{List}
use Prim.Native.Nat.{ℕ, zero, suc, ◌+◌, ◌-◌, ◌<◌, ◌≤◌}
use native.Mathlib.Omega.{arith}
use borrow.Author.Tests.{lt-ltb, le-ltb}
use lib.ListN.{length, set}
use Rattle.std.specs.Prelude.{Option, Some}
use Rattle.read_bytes.specs.Read.Read.{got, refused}
use Rattle.read_bytes.proofs.Places.{Reach}
use Rattle.read_captions.specs.Captions.{caption_place, caption_line, caption_lines, captions_in, no_captions}
use Rattle.read_captions.proofs.CaptionLines.{line_said, line_placed}

-- A line that is taken ends in the text.
pub line_reach : (names : List (List ℕ)) (c : List ℕ) (at : List (Option ℕ)) (p : ℕ) {x q : ℕ} → caption_line names c at p ≡ got x q → Reach c (p + 1) q
line_reach names c at p e =
    let y = line_said names c at p e in
    let z = line_placed c p y.form in
    record { ahead = omega (arith, y.next, z.after, z.some); inside = omega (arith, y.next, z.inside) }

module _ (names : List (List ℕ)) (c : List ℕ) where
  -- A turn more, whose line is taken or refused; and none is left.
  module _ (at : List (Option ℕ)) (p : ℕ) where
    line_more : (n : ℕ) → p < length c → length c ≤ p + n → {x q : ℕ} → caption_line names c at p ≡ got x q
        → caption_lines names c n at p ≡ caption_lines names c (n - 1) (set at x (Some (caption_place c p))) q
    unfolding caption_lines
    line_more zero h l e = absurd (omega arith)
    line_more (suc n) h l e = let z : suc n - 1 ≡ n = omega arith in rw (lt-ltb p (length c) h, e, z)

    line_refused : (n : ℕ) → p < length c → length c ≤ p + n → {m r : ℕ} → caption_line names c at p ≡ refused m r → caption_lines names c n at p ≡ refused m r
    unfolding caption_lines
    line_refused zero h l e = absurd (omega arith)
    line_refused (suc n) h l e = rw (lt-ltb p (length c) h, e)

    line_none : (n : ℕ) → length c ≤ p → caption_lines names c n at p ≡ got at p
    unfolding caption_lines
    line_none zero h = refl
    line_none (suc n) h = rw (le-ltb p (length c) h)

  -- What is left to be taken from p on, after those that are in `at`, is all that there is.
  pub record Left (at : List (Option ℕ)) (p : ℕ) : Type 0 where
    pub turns : ℕ
    pub enough : length c ≤ p + turns
    pub all : captions_in names c ≡ caption_lines names c turns at p

  pub left_all : Left (no_captions (length names)) 0
  unfolding captions_in
  left_all = record { turns = length c; enough = omega arith; all = refl }

  module _ {at : List (Option ℕ)} {p : ℕ} (w : Left at p) where
    pub left_more : p < length c → {x q : ℕ} → caption_line names c at p ≡ got x q → {at' : List (Option ℕ)} → at' ≡ set at x (Some (caption_place c p)) → Left at' q
    left_more h {x} {q} e {at'} i =
        let z = line_reach names c at p e in
        record {
          turns = w.turns - 1;
          enough = omega (arith, w.enough, z.ahead);
          all = rw i (w.all ∙ line_more at p w.turns h w.enough e);
        }

    pub left_refused : p < length c → {m r : ℕ} → caption_line names c at p ≡ refused m r → captions_in names c ≡ refused m r
    left_refused h e = w.all ∙ line_refused at p w.turns h w.enough e

    pub left_none : p ≡ length c → captions_in names c ≡ got at (length c)
    left_none e = rw (← e) (w.all ∙ line_none at p w.turns (omega arith))
