-- A whole sheet: what each answer of its parts makes of it, and what an accepted one has.
-- Assumes nothing.
use mathlib.Core.Path.{◌≡◌, sym, ap, ap₂, ◌∙◌}
use mathlib.Core.Bool.{Bool, true, false}
use mathlib.Core.List.{List}
use Prim.Native.Nat.{ℕ, ◌<◌, ◌≤◌}
use borrow.Author.Tests.{eq-eqb, ne_eqb, le-leb, lt-leb}
use lib.Dec.{leb, eqb}
use lib.ListN.{length}
use Rattle.spec_limits.specs.Limits.{most_bytes}
use Rattle.read_bytes.specs.Read.{and_then}
use Rattle.read_bytes.specs.Read.Read.{got, refused}
use Rattle.read_bytes.specs.Bytes.{pick}
use Rattle.read_names.specs.Spellings.{names_at}
use Rattle.read_bytes.proofs.Answers.{not_both, through, came}
use Rattle.spec_tilco.specs.Formula.{Written}
use Rattle.read_head.specs.SheetHead.{head_of, head, Sizes}
use Rattle.read_sheet.specs.Sheet.{rules, Contents, contents, at_end, sheet_of}
use Rattle.read_head.proofs.Heads.{head_past}

-- A sheet over its length is refused.
pub sheet_long : (s : List ℕ) → most_bytes < length s → sheet_of s ≡ refused 1 0
unfolding sheet_of
sheet_long s h = rw (lt-leb (length s) most_bytes h)

-- The refusal of the head is the sheet's, and then that of a rule, and then bytes after the last line.
module _ (s : List ℕ) (short : length s ≤ most_bytes) where
  -- the head is refused
  pub refused_head : {k p : ℕ} → head s ≡ refused k p → sheet_of s ≡ refused k p
  unfolding sheet_of
  refused_head a = rw (le-leb (length s) most_bytes short, a)

  module _ {w m p : ℕ} {t : List ℕ} (a : head s ≡ got (head_of w t m) p) where
    -- a rule is refused
    pub refused_rule : {k x : ℕ} → rules (names_at s t) s m p ≡ refused k x → sheet_of s ≡ refused k x
    unfolding sheet_of
    refused_rule b = rw (le-leb (length s) most_bytes short, a, b)

    module _ {ws : List Written} {q : ℕ} (b : rules (names_at s t) s m p ≡ got ws q) where
      -- bytes follow the last line
      pub refused_more : (q ≡ length s → ⊥) → sheet_of s ≡ refused 2 q
      unfolding sheet_of
      refused_more h = rw (le-leb (length s) most_bytes short, a, b, ne_eqb q (length s) h)

      -- nothing does
      pub sheet_is : q ≡ length s → sheet_of s ≡ got (contents w t ws) q
      unfolding sheet_of
      sheet_is h = rw (le-leb (length s) most_bytes short, a, b, eq-eqb q (length s) h)

-- An accepted sheet's head is accepted, and its numbers are in their ranges.
pub sheet_head : (s : List ℕ) {k : Contents} {q : ℕ} → sheet_of s ≡ got k q → (m : ℕ) × (p : ℕ) × (head s ≡ got (head_of k.window k.places m) p)
unfolding sheet_of
sheet_head s {k} {q} e = go (leb (length s) most_bytes) e
  where
    go : (b : Bool) → pick b (λ _. and_then (head s) (λ h p. and_then (rules (names_at s h.places) s h.count p) (λ ws x. at_end s (contents h.window h.places ws) x))) (refused 1 0) ≡ got k q
        → (m : ℕ) × (p : ℕ) × (head s ≡ got (head_of k.window k.places m) p)
    go true f =
        let a = came (head s) _ f in
        let d = came (rules (names_at s a.value.places) s a.value.count a.place) _ a.then in
        let g = (through (eqb d.place (length s)) (contents a.value.window a.value.places d.value) d.place 2 d.place d.then).1 in
        let w : a.value.window ≡ k.window = ap (λ (c : Contents). c.window) g in
        let t : a.value.places ≡ k.places = ap (λ (c : Contents). c.places) g in
        (a.value.count, a.place, a.first ∙ ap₂ (λ (i : ℕ) (l : List ℕ). got (head_of i l a.value.count) a.place) w t)
    go false f = absurd (not_both (sym f))

pub sheet_sizes : (s : List ℕ) {k : Contents} {q : ℕ} → sheet_of s ≡ got k q → (m : ℕ) × Sizes k.window (length k.places) m
sheet_sizes s e = let h = sheet_head s e in (h.0, (head_past s h.2).sizes)
