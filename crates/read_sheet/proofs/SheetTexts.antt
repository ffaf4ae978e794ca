-- A sheet's text by its parts: it is accepted exactly if each rule's text is by itself.
-- Assumes that no rule's text has an LF in it, and that the head counts the rules.
use mathlib.Core.Path.{◌≡◌, refl, sym, ◌∙◌}
use mathlib.Core.Bool.{Bool, true, false}
use mathlib.Core.List.{List, [], ◌∷◌}
use Prim.Native.Nat.{ℕ, ◌+◌, ◌≤◌}
use native.Mathlib.Omega.{arith}
use borrow.Author.Tests.{leb-true, le-leb, eq-eqb}
use lib.Dec.{leb, eqb}
use lib.ListN.{length, length-append}
use Rattle.spec_limits.specs.Limits.{most_bytes}
use Rattle.read_bytes.specs.Read.{Read, and_then}
use Rattle.read_bytes.specs.Read.Read.{got, refused}
use Rattle.read_bytes.specs.Bytes.{byte, pick, InLine}
use Rattle.read_names.specs.Spellings.{names_at}
use Rattle.read_bytes.proofs.Answers.{not_both, through, came}
use Rattle.spec_tilco.specs.Formula.{Written}
use Rattle.spec_tilco.specs.Lists.{All, total}
use Rattle.read_head.specs.SheetHead.{Head, head}
use Rattle.read_sheet.specs.Sheet.{rules, Contents, contents, at_end, sheet_of, rule_line_of, rule_lines, sheet_text}
use Rattle.read_head.proofs.HeadPrefix.{head_kept, head_names_kept}
use Rattle.read_sheet.proofs.Bodies.{Each, rules_exactly}

-- How long the lines of rules are.
pub lines_long : (bodies : List (List ℕ)) → length (rule_lines bodies) ≡ total (λ body. length body + 6) bodies
unfolding rule_lines rule_line_of
lines_long [] = refl
lines_long (body ∷ bodies) = omega (arith, length-append (rule_line_of body) (rule_lines bodies), length-append body (byte "\n" ∷ []), lines_long bodies)

-- The text of the head d and these rules' texts is accepted up to q, with the contents k: each rule comes from its text.
pub record Parted (h : List ℕ) (d : Head) (bodies : List (List ℕ)) (k : Contents) (q : ℕ) : Type 0 where
  pub own : List Written
  pub each : Each (names_at h d.places) bodies own
  pub all : contents d.window d.places own ≡ k
  pub end : length (sheet_text h bodies) ≡ q
  pub fits : length (sheet_text h bodies) ≤ most_bytes

module _ (h : List ℕ) {d : Head} (headed : head h ≡ got d (length h)) where
  module _ (bodies : List (List ℕ)) (in_line_lem : All InLine bodies) (count : d.count ≡ length bodies) where
    -- After the head, the rules, and the end.
    after_head : sheet_of (sheet_text h bodies)
        ≡ pick (leb (length (sheet_text h bodies)) most_bytes) (λ _.
        and_then (rules (names_at h d.places) (sheet_text h bodies) (length bodies) (length h)) (λ ws q. at_end (sheet_text h bodies) (contents d.window d.places ws) q))
        (refused 1 0)
    unfolding sheet_of
    after_head = rw (head_kept h (rule_lines bodies) headed, head_names_kept h (rule_lines bodies) headed, count)

    -- The whole text is accepted if each rule is,
    pub sheet_read : {ws : List Written} → Each (names_at h d.places) bodies ws → length (sheet_text h bodies) ≤ most_bytes → sheet_of (sheet_text h bodies) ≡ got (contents d.window d.places ws) (length (sheet_text h bodies))
    sheet_read {ws} r l =
        let t : List ℕ = sheet_text h bodies in
        after_head ∙ rw (le-leb (length t) most_bytes l, (rules_exactly (names_at h d.places) h bodies in_line_lem ws (length t)).1 (r, refl), eq-eqb (length t) (length t) refl)

    -- and only then.
    pub read_sheet : {k : Contents} {q : ℕ} → sheet_of (sheet_text h bodies) ≡ got k q → Parted h d bodies k q
    read_sheet {k} {q} e = go (leb (length (sheet_text h bodies)) most_bytes) refl (sym after_head ∙ e)
      where
        rest : List Written → ℕ → Read Contents
        rest ws x = at_end (sheet_text h bodies) (contents d.window d.places ws) x

        go : (b : Bool) → leb (length (sheet_text h bodies)) most_bytes ≡ b
            → pick b (λ _. and_then (rules (names_at h d.places) (sheet_text h bodies) (length bodies) (length h)) rest) (refused 1 0) ≡ got k q → Parted h d bodies k q
        go true l f =
            let c = came (rules (names_at h d.places) (sheet_text h bodies) (length bodies) (length h)) rest f in
            let r = (rules_exactly (names_at h d.places) h bodies in_line_lem c.value c.place).0 c.first in
            let z = through (eqb c.place (length (sheet_text h bodies))) (contents d.window d.places c.value) c.place 2 c.place c.then in
            record { own = c.value; each = r.0; all = z.1; end = sym r.1 ∙ z.2; fits = leb-true (length (sheet_text h bodies)) most_bytes l }
        go false l f = absurd (not_both (sym f))
