-- Shuffling the lines of a sheet's rules: the shuffled text is accepted where the first one is, with the same window, the same names' places and
-- the rules shuffled alike; and it is refused only where the first one is.
-- Assumes that no rule's text has an LF in it, and that the head counts the rules.
use mathlib.Core.Path.{◌≡◌, refl, sym, ap, subst, ◌∙◌}
use mathlib.Core.List.Permᴰ
use mathlib.Core.List.{List, [], ◌∷◌, Permᴰ}
use Prim.Native.Nat.{ℕ, suc, ◌+◌}
use native.Mathlib.Omega.{arith}
use lib.ListN.{length, length-append}
use Rattle.read_bytes.specs.Read.{Read}
use Rattle.read_bytes.specs.Read.Read.{got, refused}
use Rattle.read_bytes.specs.Bytes.{InLine}
use Rattle.read_bytes.proofs.Answers.{not_both}
use Rattle.spec_tilco.specs.Formula.{Written, with_rules}
use Rattle.spec_tilco.specs.Lists.{All}
use Rattle.spec_tilco.proofs.Lists.{total_stays, all_stays}
use Rattle.read_head.specs.SheetHead.{Head, head}
use Rattle.read_sheet.specs.Sheet.{Contents, contents, sheet_of, meant, rule_lines, sheet_text}
use Rattle.read_sheet.proofs.Bodies.{rule_text, Each}
use Rattle.read_sheet.proofs.Bodies.Each.{none, one}
use Rattle.read_sheet.proofs.SheetTexts.{lines_long, sheet_read, read_sheet}

-- ---- texts in another order

-- The rules of shuffled texts are the rules shuffled.
each_shuffled : {names bodies bodies' : List (List ℕ)} {ws : List Written} → Permᴰ bodies bodies' → Each names bodies ws
    → (ws' : List Written) × Each names bodies' ws' × Permᴰ ws ws'
each_shuffled Permᴰ.nil none = ([], none, Permᴰ.nil)
each_shuffled {names} (Permᴰ.cons e p) (one {w = w} q x r) =
    let s = each_shuffled p r in
    (w ∷ s.0, one q (subst (λ (b : List ℕ). rule_text names b ≡ got w q) e x) s.1, Permᴰ.cons refl s.2)
each_shuffled {names} (Permᴰ.swap e e') (one {w = w} q x (one {w = w'} {ws = ws} q' x' r)) = (
  w' ∷ w ∷ ws,
  one q' (subst (λ (b : List ℕ). rule_text names b ≡ got w' q') e' x') (one q (subst (λ (b : List ℕ). rule_text names b ≡ got w q) e x) r),
  Permᴰ.swap refl refl,
)
each_shuffled (Permᴰ.trans p p') r =
    let s = each_shuffled p r in
    let s' = each_shuffled p' s.1 in
    (s'.0, s'.1, Permᴰ.trans s.2 s'.2)

many_stay : {bodies bodies' : List (List ℕ)} → Permᴰ bodies bodies' → length bodies ≡ length bodies'
many_stay Permᴰ.nil = refl
many_stay (Permᴰ.cons e p) = ap suc (many_stay p)
many_stay (Permᴰ.swap e e') = refl
many_stay (Permᴰ.trans p p') = many_stay p ∙ many_stay p'

text_stays : (h : List ℕ) {bodies bodies' : List (List ℕ)} → Permᴰ bodies bodies' → length (sheet_text h bodies) ≡ length (sheet_text h bodies')
text_stays h {bodies} {bodies'} p =
    omega (arith, length-append h (rule_lines bodies), length-append h (rule_lines bodies'), lines_long bodies, lines_long bodies', total_stays (λ body. length body + 6) p)

-- ---- the sheet

-- The text s is accepted up to q, with the window and the names' places of k and the rules of k shuffled.
pub record ShuffledFrom (k : Contents) (q : ℕ) (s : List ℕ) : Type 0 where
  pub sheet : Contents
  pub reads : sheet_of s ≡ got sheet q
  pub window : sheet.window ≡ k.window
  pub places : sheet.places ≡ k.places
  pub rules : Permᴰ k.rules sheet.rules

module _ (h : List ℕ) {d : Head} (headed : head h ≡ got d (length h)) where
  -- Shuffled lines: the text is accepted too, and says the same but for the order of its rules.
  pub shuffled : {bodies bodies' : List (List ℕ)} → Permᴰ bodies bodies' → All InLine bodies → d.count ≡ length bodies → {k : Contents} {q : ℕ}
      → sheet_of (sheet_text h bodies) ≡ got k q → ShuffledFrom k q (sheet_text h bodies')
  shuffled {bodies} {bodies'} p l m {k} {q} e =
      let r = read_sheet h headed bodies l m e in
      let s = each_shuffled p r.each in
      let n = text_stays h p in
      let f = sheet_read h headed bodies' (all_stays InLine (Permᴰ.symm p) l) (m ∙ many_stay p) s.1 (omega (arith, r.fits)) in
      record {
        sheet = contents d.window d.places s.0;
        reads = f ∙ ap (got (contents d.window d.places s.0)) (sym n ∙ r.end);
        window = ap (λ (c : Contents). c.window) r.all;
        places = ap (λ (c : Contents). c.places) r.all;
        rules = subst (λ (c : Contents). Permᴰ c.rules s.0) r.all s.2;
      }

  -- If the shuffled text is refused, so is the first one.
  pub shuffled_refused : {bodies bodies' : List (List ℕ)} → Permᴰ bodies bodies' → All InLine bodies → d.count ≡ length bodies → {n i : ℕ}
      → sheet_of (sheet_text h bodies') ≡ refused n i → (m j : ℕ) × (sheet_of (sheet_text h bodies) ≡ refused m j)
  shuffled_refused {bodies} {bodies'} p l m e = go (sheet_of (sheet_text h bodies)) refl
    where
      go : (R : Read Contents) → sheet_of (sheet_text h bodies) ≡ R → (m j : ℕ) × (sheet_of (sheet_text h bodies) ≡ refused m j)
      go (got k q) f = absurd (not_both (sym (shuffled p l m f).reads ∙ e))
      go (refused m j) f = (m, j, f)

-- The sheet that is meant is the first one with its rules shuffled.
pub shuffled_meant : {k : Contents} {q : ℕ} {s : List ℕ} (z : ShuffledFrom k q s) → meant z.sheet ≡ with_rules (meant k) z.sheet.rules
shuffled_meant {k} z = rw (z.window, z.places)
