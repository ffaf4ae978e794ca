-- Where a caption line ends: it has no LF but its last byte, so no line starts inside it, and the next one starts after it.
-- Assumes nothing. c is a captions' text, p and q are places in it.
use mathlib.Core.Path.{◌≡◌, refl, sym, ◌∙◌}
use mathlib.Core.Bool.{true}
use mathlib.Core.List.{List}
use Prim.Native.Nat.{ℕ, suc, ◌+◌, ◌<◌, ◌≤◌}
use native.Mathlib.Omega.{arith}
use native.Mathlib.Decide.{dec_lt}
use lib.ListN.{length}
use Rattle.read_bytes.specs.Bytes.{byte}
use Rattle.read_lines.specs.Lines.{lf_at}
use Rattle.read_captions.specs.Captions.{printable, before_equals}
use Rattle.read_captions.proofs.CaptionBytes.{too_low, line_ends}
use Rattle.proof_caption.specs.CaptionTexts.{LineAt, LineStart}
use Rattle.proof_caption.specs.CaptionTexts.LineStart.{first, after}
use Rattle.proof_caption.proofs.LfBytes.{lf_there, there_lf, lf_not_in}
use Rattle.proof_caption.proofs.LineTexts.{parts, line_formed}

-- The place of the line's LF.
abbrev pub line_last : ℕ → List ℕ → List ℕ → ℕ
line_last p w k = p + length w + 1 + length k

module _ {c : List ℕ} {p : ℕ} {w k : List ℕ} (h : LineAt c p w k) where
  pub last_inside : line_last p w k < length c
  last_inside = (parts c p w k h.stands).inside

  no_lf : (q : ℕ) → p ≤ q → q < line_last p w k → lf_at c q ≡ true → ⊥
  no_lf q l m e = go (dec_lt q (p + length w)) (dec_lt (p + length w) q)
    where
      go : Dec (q < p + length w) → Dec (p + length w < q) → ⊥
      go (yes i) j = lf_not_in c q before_equals (line_ends (byte "\n") refl) l (rw (line_formed c p h).1 i) e
      go (no i) (yes j) = lf_not_in c q printable (too_low (byte "\n") (omega arith)) {p = p + length w + 1} (omega arith) (rw (line_formed c p h).2 m) e
      go (no i) (no j) =
          let n : q ≡ p + length w = omega arith in
          let z : byte "\n" ≡ byte "=" = sym (lf_there c q e) ∙ rw n (parts c p w k h.stands).equals in
          omega arith

  pub next_start : LineStart c (suc (line_last p w k))
  next_start = after (there_lf c (line_last p w k) last_inside (parts c p w k h.stands).ended)

-- A line that starts after p starts after the whole line at p.
pub start_past : {c : List ℕ} {p : ℕ} {w k : List ℕ} → LineAt c p w k → {q : ℕ} → LineStart c q → p < q → line_last p w k < q
start_past h first l = absurd (omega arith)
start_past {p = p} {w = w} {k = k} h (after {p = j} e) l = go (dec_lt j (line_last p w k))
  where
    go : Dec (j < line_last p w k) → line_last p w k < suc j
    go (yes i) = absurd (no_lf h j (omega arith) i e)
    go (no i) = omega arith
