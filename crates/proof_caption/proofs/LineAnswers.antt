-- The answer of reading one caption line, after those before it were taken: a line without fault, or its fault.
-- Assumes nothing. `names` are the declared names, c is the captions' text, `at` the places of the captions by signal, p the line's place.
use mathlib.Core.Path.{◌≡◌, refl, sym, ap, subst, ◌∙◌}
use mathlib.Core.Bool.{Bool, true, false}
use mathlib.Core.List.{List, []}
use Prim.Native.Nat.{ℕ, suc, ◌+◌, ◌<◌}
use native.Mathlib.Omega.{arith}
use borrow.Author.Tests.{ltb-true, ltb-false}
use lib.Dec.{ltb}
use lib.ListN.{length, get_or}
use Rattle.std.specs.Prelude.{Option, Some, None}
use Rattle.std.specs.Option.{is_some}
use Rattle.read_bytes.specs.Read.{Read, and_then}
use Rattle.read_bytes.specs.Read.Read.{got, refused}
use Rattle.read_bytes.specs.Bytes.{pick}
use Rattle.read_bytes.proofs.Answers.{not_both}
use Rattle.read_names.specs.Spellings.{find_name}
use Rattle.read_names.proofs.Names.{find_is}
use Rattle.read_captions.specs.Captions.{name_part, caption_at, caption_form, given_once, caption_line}
use Rattle.read_captions.proofs.CaptionForms.{form_is, form_not}
use Rattle.proof_caption.specs.CaptionTexts.{LineAt, LineFault}
use Rattle.proof_caption.specs.CaptionTexts.LineFault.{not_formed, not_declared, repeated}
use Rattle.proof_caption.proofs.LineTexts.{formed_line, line_formed}
use Rattle.proof_caption.proofs.LineEnds.{line_last}
use Rattle.proof_caption.proofs.TakenLines.{Taken}

pub data LineIs (names : List (List ℕ)) (c : List ℕ) (at : List (Option ℕ)) (p : ℕ) : Read ℕ → Type 0 where
  right : {w k : List ℕ} → LineAt c p w k → find_name w names < length names → get_or at (find_name w names) None ≡ None → LineIs names c at p (got (find_name w names) (suc (line_last p w k)))
  wrong : {n : ℕ} → LineFault names c p n → LineIs names c at p (refused n p)

-- Two texts with one number are one name.
same_name : (names : List (List ℕ)) (v w : List ℕ) → find_name v names ≡ find_name w names → find_name w names < length names → v ≡ w
same_name names v w e l = sym (find_is v names (omega arith)) ∙ ap (λ (x : ℕ). get_or names x []) e ∙ find_is w names l

module _ {names : List (List ℕ)} {c : List ℕ} {at : List (Option ℕ)} {p : ℕ} (t : Taken names c at p) where
  -- A line of its form, by its name's number.
  by_name : {w k : List ℕ} → LineAt c p w k → LineIs names c at p (given_once at (length names) p (suc (line_last p w k)) (find_name w names))
  unfolding given_once
  by_name {w} {k} h = go (ltb (find_name w names) (length names)) refl (get_or at (find_name w names) None) refl
    where
      go : (a : Bool) → ltb (find_name w names) (length names) ≡ a → (b : Option ℕ) → get_or at (find_name w names) None ≡ b
          → LineIs names c at p (pick a (λ _. pick (is_some b) (λ _. refused 24 p) (got (find_name w names) (suc (line_last p w k)))) (refused 12 p))
      go true l None z = right h (ltb-true (find_name w names) (length names) l) z
      go true l (Some v) z =
          let d = ltb-true (find_name w names) (length names) l in
          let o = t.noted (find_name w names) v z in
          wrong (repeated h d o.earlier o.starts (subst (λ u. LineAt c o.from u o.caption) (same_name names o.name w o.signal d) o.line))
      go false l b z = let m = ltb-false (find_name w names) (length names) l in wrong (not_declared h (λ d. omega arith))

  pub line_is : LineIs names c at p (caption_line names c at p)
  unfolding caption_line
  line_is = go (caption_form c p) refl
    where
      go : (R : Read ℕ) → caption_form c p ≡ R → LineIs names c at p (and_then R (λ v e. given_once at (length names) p (e + 1) (find_name (name_part c p) names)))
      go (refused n q) i =
          let e = form_not c p refl refl (λ h. not_both (form_is c p refl refl h ∙ i)) ∙ i in
          subst (LineIs names c at p) e (wrong (not_formed (λ w k h. not_both (sym (line_formed c p h).0 ∙ i))))
      go (got v e) i =
          let h = formed_line c p t.inside i in
          let n : suc (line_last p (name_part c p) (caption_at c v)) ≡ e + 1 = omega (arith, h.1, h.2) in
          subst (λ (x : ℕ). LineIs names c at p (given_once at (length names) p x (find_name (name_part c p) names))) n (by_name h.0)
