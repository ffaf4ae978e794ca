-- LFs of a text: where one stands, and where none does.
-- Assumes nothing. P is a test on bytes that LF does not pass, s a text and p, q places in it.
use mathlib.Core.Path.{◌≡◌, sym, ap, ◌∙◌}
use mathlib.Core.Bool.{Bool, true, false, true≢false}
use mathlib.Core.List.{List}
use Prim.Native.Nat.{ℕ, ◌+◌, ◌<◌, ◌≤◌}
use borrow.Author.Tests.{eqb-true, eq-eqb}
use lib.ListN.{length, get_or}
use Rattle.read_bytes.specs.Bytes.{byte, peek, run_at}
use Rattle.read_bytes.proofs.Places.{peek_in}
use Rattle.read_lines.specs.Lines.{lf_at}
use Rattle.read_lines.proofs.ValueFirst.{lf_read, lf_inside}
use Rattle.proof_caption.proofs.RunTexts.{run_passes}

module _ (s : List ℕ) (q : ℕ) where
  pub lf_there : lf_at s q ≡ true → peek s q ≡ byte "\n"
  lf_there e =
      let l = lf_inside s q e in
      sym (peek_in s q l) ∙ eqb-true (get_or s q 0) (byte "\n") (lf_read s q l ∙ e)

  pub there_lf : q < length s → peek s q ≡ byte "\n" → lf_at s q ≡ true
  there_lf l e = sym (lf_read s q l) ∙ eq-eqb (get_or s q 0) (byte "\n") (peek_in s q l ∙ e)

  -- None stands in a run of bytes that are none.
  pub lf_not_in : (P : ℕ → Bool) → P (byte "\n") ≡ false → {p : ℕ} → p ≤ q → q < p + length (run_at P s p) → lf_at s q ≡ true → ⊥
  lf_not_in P z {p} l h e = true≢false (sym (run_passes P s p q l h) ∙ ap P (lf_there e) ∙ z)
