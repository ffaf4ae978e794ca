-- A caption line in its form: what is asked of it, test by test, and each answer.
-- Assumes nothing. The line at p has its first `=` or its LF at a, and what may be its caption ends at e.
use mathlib.Core.Path.{◌≡◌, refl, sym, subst, ◌∙◌}
use mathlib.Core.Bool.{Bool, true, ◌&&◌, and-eq-true_iff}
use mathlib.Core.List.{List}
use Prim.Native.Nat.{ℕ, ◌+◌, ◌<◌, ◌≤◌}
use native.Mathlib.Omega.{arith}
use borrow.Author.Tests.{eq-eqb, eqb-true}
use lib.Dec.{eqb}
use lib.ListN.{length}
use Rattle.spec_limits.specs.Limits.{most_caption_bytes}
use Rattle.read_bytes.specs.Read.Read.{got, refused}
use Rattle.read_bytes.specs.Bytes.{byte, peek, between, run_end}
use Rattle.read_bytes.proofs.Places.{inside}
use Rattle.read_bytes.proofs.Tests.{between_in, between_is}
use Rattle.read_bytes.proofs.Answers.{through, unless}
use Rattle.read_lines.specs.Lines.{lf_at}
use Rattle.read_captions.specs.Captions.{before_equals, caption_place, caption_at, caption_end, caption_form}

-- What is asked of a line.
pub record Formed (c : List ℕ) (a e : ℕ) : Type 0 where
  pub equals : peek c a ≡ byte "="
  pub some : a + 1 < e
  pub short : e ≤ a + 1 + most_caption_bytes
  pub ended : lf_at c e ≡ true

-- The `=` stands in the text.
pub equals_inside : {c : List ℕ} {a e : ℕ} → Formed c a e → a < length c
equals_inside {c} {a} h = inside c a (λ i. let z : byte "=" ≡ byte "\n" = sym h.equals ∙ i in omega arith)

pub caption_long : (c : List ℕ) (v : ℕ) → caption_end c v ≡ v + length (caption_at c v)
unfolding run_end
caption_long c v = refl

module _ (c : List ℕ) (p : ℕ) where
  abbrev equals_at : ℕ
  equals_at = run_end before_equals c p

  abbrev end_at : ℕ
  end_at = caption_end c (caption_place c p)

  -- The test of it.
  abbrev asked : Bool
  asked = eqb (peek c equals_at) (byte "=") && between 1 most_caption_bytes (length (caption_at c (caption_place c p))) && lf_at c end_at

  passed : Formed c equals_at end_at → asked ≡ true
  passed h =
      let l = caption_long c (caption_place c p) in
      rw (eq-eqb (peek c equals_at) (byte "=") h.equals, between_in 1 most_caption_bytes (length (caption_at c (caption_place c p))) (omega (arith, h.some)) (omega (arith, h.short)), h.ended)

  formed : asked ≡ true → Formed c equals_at end_at
  formed t =
      let l = caption_long c (caption_place c p) in
      let a = (and-eq-true_iff _ (lf_at c end_at)).0 t in
      let b = (and-eq-true_iff (eqb (peek c equals_at) (byte "=")) (between 1 most_caption_bytes (length (caption_at c (caption_place c p))))).0 a.0 in
      let w = between_is 1 most_caption_bytes (length (caption_at c (caption_place c p))) b.1 in
      record { equals = eqb-true (peek c equals_at) (byte "=") b.0; some = omega (arith, w.0); short = omega (arith, w.1); ended = a.1 }

  -- Each answer, at the places that were found.
  module _ {a e : ℕ} (i : a ≡ equals_at) (j : e ≡ caption_end c (a + 1)) where
    found : Formed c a e → Formed c equals_at end_at
    found h = subst (λ (x : ℕ). Formed c x (caption_end c (x + 1))) i (subst (Formed c a) j h)

    sought : Formed c equals_at end_at → Formed c a e
    sought h = subst (Formed c a) (sym j) (subst (λ (x : ℕ). Formed c x (caption_end c (x + 1))) (sym i) h)

    pub form_is : Formed c a e → got (a + 1) e ≡ caption_form c p
    unfolding caption_form
    form_is h = rw (passed (found h), j, i)

    pub form_not : (Formed c a e → ⊥) → refused 24 p ≡ caption_form c p
    unfolding caption_form
    form_not n = unless asked _ (refused 24 p) (λ t. n (sought (formed t)))

  -- What was read has the form.
  pub record FormSaid (v e : ℕ) : Type 0 where
    pub has : Formed c equals_at e
    pub value : v ≡ caption_place c p
    pub ends : e ≡ end_at

  pub form_said : {v e : ℕ} → caption_form c p ≡ got v e → FormSaid v e
  unfolding caption_form
  form_said {v} {e} h =
      let t = through asked (caption_place c p) end_at 24 p h in
      record { has = subst (Formed c equals_at) t.2 (formed t.0); value = sym t.1; ends = sym t.2 }
