-- A caption line that is read is a line `name=caption`, and each such line is read.
-- Assumes nothing. c is a captions' text and p a place in it.
use mathlib.Core.Path.{◌≡◌, sym, ap, ◌∙◌}
use mathlib.Core.Bool.{true}
use mathlib.Core.List.{List, ◌++◌}
use Prim.Native.Nat.{ℕ, ◌+◌, ◌<◌, ◌≤◌}
use native.Mathlib.Omega.{arith}
use lib.ListN.{length}
use Rattle.read_bytes.specs.Read.Read.{got}
use Rattle.read_bytes.specs.Bytes.{bytes, byte, peek, run_end}
use Rattle.read_bytes.proofs.Runs.{run_every}
use Rattle.read_lines.specs.Lines.{keyed_at}
use Rattle.read_lines.proofs.ValueFirst.{keyed_is, keyed_by, lf_inside}
use Rattle.write_bytes.proofs.Standing.{Standing, starts_one, one_starts, stands_first, stands_rest, stands_then}
use Rattle.read_captions.specs.Captions.{printable, before_equals, name_part, caption_at, caption_form}
use Rattle.read_captions.proofs.CaptionBytes.{too_low, equals_ends}
use Rattle.read_captions.proofs.CaptionForms.{Formed, equals_inside, caption_long, form_is, form_said}
use Rattle.proof_caption.specs.CaptionTexts.{caption_line_text, LineAt}
use Rattle.proof_caption.proofs.RunTexts.{run_stands, run_is}
use Rattle.proof_caption.proofs.LfBytes.{lf_there, there_lf}

-- The parts of a line at p.
pub record Parts (c : List ℕ) (p : ℕ) (w k : List ℕ) : Type 0 where
  pub name : Standing c p w
  pub equals : peek c (p + length w) ≡ byte "="
  pub caption : Standing c (p + length w + 1) k
  pub ended : peek c (p + length w + 1 + length k) ≡ byte "\n"
  pub inside : p + length w + 1 + length k < length c

module _ (c : List ℕ) (p : ℕ) where
  pub parts : (w k : List ℕ) → keyed_at c p (caption_line_text w k) ≡ true → Parts c p w k
  unfolding caption_line_text
  parts w k e =
      let i = keyed_is c p (caption_line_text w k) e in
      let a : Standing c p (w ++ (bytes "=" ++ (k ++ bytes "\n"))) = record { bytes = i.1; inside = i.0 } in
      let b = stands_rest w (bytes "=" ++ (k ++ bytes "\n")) a in
      let d = stands_rest (bytes "=") (k ++ bytes "\n") b in
      let f = stands_rest k (bytes "\n") d in
      record {
        name = stands_first w (bytes "=" ++ (k ++ bytes "\n")) a;
        equals = sym (starts_one c (p + length w) (byte "=") (stands_first (bytes "=") (k ++ bytes "\n") b).bytes);
        caption = stands_first k (bytes "\n") d;
        ended = sym (starts_one c (p + length w + 1 + length k) (byte "\n") f.bytes);
        inside = omega (arith, f.inside);
      }

  joined : (w k : List ℕ) → Parts c p w k → keyed_at c p (caption_line_text w k) ≡ true
  unfolding caption_line_text
  joined w k h =
      let f : Standing c (p + length w + 1 + length k) (bytes "\n") = record { bytes = one_starts c (p + length w + 1 + length k) (byte "\n") (sym h.ended); inside = omega (arith, h.inside) } in
      let d = stands_then k (bytes "\n") h.caption f in
      let e : Standing c (p + length w) (bytes "=") = record { bytes = one_starts c (p + length w) (byte "=") (sym h.equals); inside = omega (arith, h.inside) } in
      let a = stands_then w (bytes "=" ++ (k ++ bytes "\n")) h.name (stands_then (bytes "=") (k ++ bytes "\n") e d) in
      sym (keyed_by c p (caption_line_text w k) a.inside) ∙ a.bytes

  -- What has the form, up to its LF at e, is a line.
  of_form : p ≤ length c → {e : ℕ} → Formed c (p + length (name_part c p)) e → e ≡ p + length (name_part c p) + 1 + length (caption_at c (p + length (name_part c p) + 1))
      → LineAt c p (name_part c p) (caption_at c (p + length (name_part c p) + 1))
  of_form l {e} h i =
      let w = name_part c p in
      let q = equals_inside h in
      record {
        stands = joined w (caption_at c (p + length w + 1)) (record {
          name = run_stands before_equals c p l;
          equals = h.equals;
          caption = run_stands printable c (p + length w + 1) (omega arith);
          ended = rw (← i) (lf_there c e h.ended);
          inside = rw (← i) (lf_inside c e h.ended);
        });
        before = run_every before_equals c p;
        caption = record { some = omega (arith, h.some); short = omega (arith, h.short); plain = run_every printable c (p + length w + 1) };
      }

  -- "Lines `name=caption`": what is read is one,
  pub formed_line : p ≤ length c → {v e : ℕ} → caption_form c p ≡ got v e
      → LineAt c p (name_part c p) (caption_at c v) × (v ≡ p + length (name_part c p) + 1) × (e ≡ v + length (caption_at c v))
  unfolding run_end
  formed_line l a =
      let h = form_said c p a in
      let i = h.ends ∙ caption_long c (p + length (name_part c p) + 1) in
      (rw h.value (of_form l h.has i), h.value, rw h.value i)

  -- and each that stands there is read.
  pub line_formed : {w k : List ℕ} → LineAt c p w k
      → (caption_form c p ≡ got (p + length w + 1) (p + length w + 1 + length k)) × (name_part c p ≡ w) × (caption_at c (p + length w + 1) ≡ k)
  unfolding run_end
  line_formed {w} {k} h =
      let a = parts w k h.stands in
      let i = run_is before_equals c p w h.before a.name (omega (arith, a.inside)) (equals_ends (peek c (p + length w)) a.equals) in
      let j = run_is printable c (p + length w + 1) k h.caption.plain a.caption a.inside (rw a.ended (too_low (byte "\n") (omega arith))) in
      let x : p + length w ≡ p + length (name_part c p) = rw i in
      let y : p + length w + 1 + length k ≡ p + length w + 1 + length (caption_at c (p + length w + 1)) = rw j in (
        sym (form_is c p x y (record {
          equals = a.equals;
          some = omega (arith, h.caption.some);
          short = omega (arith, h.caption.short);
          ended = there_lf c (p + length w + 1 + length k) a.inside a.ended;
        })),
        i,
        j,
      )

  -- So a line at a place has one name and one caption.
  pub one_line : {w k w' k' : List ℕ} → LineAt c p w k → LineAt c p w' k' → (w ≡ w') × (k ≡ k')
  one_line {w} {k} {w'} {k'} h g =
      let a = line_formed h in
      let b = line_formed g in
      let i : w ≡ w' = sym a.1 ∙ b.1 in
      (i, sym a.2 ∙ ap (λ u. caption_at c (p + length u + 1)) i ∙ b.2)
