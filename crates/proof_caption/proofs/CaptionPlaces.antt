-- The places of the captions of an accepted text: a signal has one exactly if its name has a line, and it is that line's.
-- Assumes nothing. `names` are the declared names in sheet order, c is the captions' text, `at` what was read of it, x a signal's number.
use mathlib.Core.Path.{◌≡◌, refl, sym, ap, ◌∙◌}
use mathlib.Core.List.{List}
use mathlib.Core.Logic.{◌↔◌}
use Prim.Native.Nat.{ℕ, ◌+◌}
use native.Mathlib.Omega.{arith}
use Rattle.std.specs.Prelude.{Option, Some, None}
use Rattle.read_bytes.proofs.Values.{none_not}
use lib.ListN.{length, get_or, take, drop}
use Rattle.read_bytes.specs.Read.Read.{got}
use Rattle.read_names.specs.Spellings.{find_name}
use Rattle.write_bytes.proofs.Standing.{stands_cut}
use Rattle.read_captions.specs.Captions.{caption_at, captions_in}
use Rattle.proof_caption.specs.CaptionTexts.{HasLine}
use Rattle.proof_caption.proofs.LineTexts.{parts, line_formed}
use Rattle.proof_caption.proofs.LineEnds.{last_inside}
use Rattle.proof_caption.proofs.LineFaults.{taken_at}
use Rattle.proof_caption.proofs.CaptionAnswers.{captions_taken}

-- The caption of a line is what stands at its place.
module _ {c w k : List ℕ} {v : ℕ} (h : HasLine c w k v) where
  pub caption_there : caption_at c v ≡ k
  caption_there = ap (caption_at c) h.place ∙ (line_formed c h.from h.line).2

  pub caption_cut : take (length k) (drop v c) ≡ k
  caption_cut = rw h.place (stands_cut c (h.from + length w + 1) k (parts c h.from w k h.line.stands).caption)

module _ (names : List (List ℕ)) (c : List ℕ) {at : List (Option ℕ)} {q : ℕ} (e : captions_in names c ≡ got at q) where
  -- "Where the name has a line": a place that is kept is that of a line's caption,
  pub captions_place : (x v : ℕ) → get_or at x None ≡ Some v → (w : List ℕ) × (k : List ℕ) × HasLine c w k v × (find_name w names ≡ x)
  captions_place x v i =
      let o = (captions_taken names c e).noted x v i in
      (o.name, o.caption, record { from = o.from; starts = o.starts; line = o.line; place = o.place }, o.signal)

  -- and that of each line's caption is kept.
  pub place_captions : {w k : List ℕ} {x v : ℕ} → HasLine c w k v → find_name w names ≡ x → get_or at x None ≡ Some v
  place_captions {w} {x = x} {v = v} h i =
      let t = captions_taken names c e in
      let a = taken_at t (omega (arith, last_inside h.line)) h.starts h.line in
      ap (λ (y : ℕ). get_or at y None) (sym i) ∙ a.1 ∙ ap Some (sym h.place)

  -- So a signal has no caption exactly if no line has its name.
  pub captions_none : (x : ℕ) → (get_or at x None ≡ None) ↔ ((w k : List ℕ) (v : ℕ) → HasLine c w k v → find_name w names ≡ x → ⊥)
  captions_none x = (λ z w k v h i. none_not (sym z ∙ place_captions h i), λ n. go n (get_or at x None) refl)
    where
      go : ((w k : List ℕ) (v : ℕ) → HasLine c w k v → find_name w names ≡ x → ⊥) → (o : Option ℕ) → get_or at x None ≡ o → get_or at x None ≡ None
      go n None z = z
      go n (Some v) z = let o = captions_place x v z in absurd (n o.0 o.1 v o.2 o.3)
