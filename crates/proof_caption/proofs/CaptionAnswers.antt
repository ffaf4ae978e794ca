-- Which captions' texts are accepted, and which are refused with what, line by line.
-- Assumes nothing. `names` are the declared names in sheet order, c is the captions' text, n the number and p the place of a refusal.
use mathlib.Core.Path.{◌≡◌, refl, subst}
use mathlib.Core.List.{List}
use mathlib.Core.Logic.{◌↔◌}
use Prim.Native.Nat.{ℕ, zero, suc, ◌+◌, ◌<◌, ◌≤◌}
use native.Mathlib.Omega.{arith}
use native.Mathlib.Decide.{dec_lt}
use borrow.Author.Tests.{lt-ltb, le-ltb}
use lib.ListN.{length}
use Rattle.std.specs.Prelude.{Option}
use Rattle.read_bytes.specs.Read.{Read}
use Rattle.read_bytes.specs.Read.Read.{got, refused}
use Rattle.read_bytes.specs.Bytes.{run_end}
use Rattle.read_captions.specs.Captions.{caption_place, caption_line, caption_lines, captions_in}
use Rattle.proof_caption.specs.CaptionTexts.{WellCaptioned, FirstFault}
use Rattle.proof_caption.proofs.LineTexts.{line_formed}
use Rattle.proof_caption.proofs.LineEnds.{last_inside}
use Rattle.proof_caption.proofs.TakenLines.{Taken, taken_none, taken_more}
use Rattle.proof_caption.proofs.LineFaults.{taken_once, taken_right, well_right, first_one}
use Rattle.proof_caption.proofs.LineAnswers.{LineIs, line_is}
use Rattle.proof_caption.proofs.LineAnswers.LineIs.{right, wrong}

-- What all lines come to.
data Outcome (names : List (List ℕ)) (c : List ℕ) : Read (List (Option ℕ)) → Type 0 where
  whole : {at : List (Option ℕ)} {q : ℕ} → Taken names c at (length c) → Outcome names c (got at q)
  stopped : {n p : ℕ} → FirstFault names c n p → Outcome names c (refused n p)

module _ (names : List (List ℕ)) (c : List ℕ) where
  -- The lines from p on, by what the one at p is.
  walk : (n : ℕ) (at : List (Option ℕ)) (p : ℕ) → length c ≤ p + n → Taken names c at p → Outcome names c (caption_lines names c n at p)
  unfolding caption_lines run_end
  walk zero at p l t = let e : p ≡ length c = omega (arith, t.inside) in whole (subst (Taken names c at) e t)
  walk (suc n) at p l t = go (dec_lt p (length c)) refl (line_is t) (λ at' q. walk n at' q)
    where
      go : Dec (p < length c) → {R : Read ℕ} → caption_line names c at p ≡ R → LineIs names c at p R
          → ((at' : List (Option ℕ)) (q : ℕ) → length c ≤ q + n → Taken names c at' q → Outcome names c (caption_lines names c n at' q)) → Outcome names c (caption_lines names c (suc n) at p)
      go (no i) e x more = let j : p ≡ length c = omega (arith, t.inside) in rw (le-ltb p (length c) (omega arith)) (whole (subst (Taken names c at) j t))
      go (yes i) e (right {w} h d z) more =
          let v : caption_place c p ≡ p + length w + 1 = rw (line_formed c p h).1 in
          rw (lt-ltb p (length c) i, e, v) (more _ _ (omega arith) (taken_more names c t h d z))
      go (yes i) e (wrong f) more = rw (lt-ltb p (length c) i, e) (stopped (record { within = i; starts = t.starts; fault = f; earlier = taken_right t }))

  outcome : Outcome names c (captions_in names c)
  unfolding captions_in
  outcome = walk (length c) _ 0 (omega arith) (taken_none names c)

  -- All lines were taken.
  taken_all : {at : List (Option ℕ)} {q : ℕ} → Outcome names c (got at q) → Taken names c at (length c)
  taken_all (whole t) = t

  taken_well : {at : List (Option ℕ)} → Taken names c at (length c) → WellCaptioned names c
  taken_well t = record {
    lines = λ p l s. (let o = t.each p l s in (o.name, o.caption, o.line, o.declared));
    once = λ w k l p q s h u g. taken_once t (omega (arith, last_inside h)) s h (omega (arith, last_inside g)) u g;
  }

  pub captions_taken : {at : List (Option ℕ)} {q : ℕ} → captions_in names c ≡ got at q → Taken names c at (length c)
  captions_taken e = taken_all (subst (Outcome names c) e outcome)

  -- "Lines `name=caption`, at most one for each name, captions of 1 to 40 printable ASCII bytes": these texts are accepted, and no others.
  pub captions_accepted : ((at : List (Option ℕ)) × (q : ℕ) × (captions_in names c ≡ got at q)) ↔ WellCaptioned names c
  captions_accepted = (λ a. taken_well (captions_taken a.2), λ w. go w refl outcome)
    where
      go : WellCaptioned names c → {R : Read (List (Option ℕ))} → captions_in names c ≡ R → Outcome names c R → (at : List (Option ℕ)) × (q : ℕ) × (captions_in names c ≡ got at q)
      go w e (whole {at} {q} t) = (at, q, e)
      go w e (stopped {n} {p} f) = absurd (well_right w p n f.within f.starts f.fault)

  -- "Line by line, 24 for a caption line not of its form or a name repeated, 12 for a name that isn't declared": each exactly in its case.
  pub captions_refused : (n p : ℕ) → (captions_in names c ≡ refused n p) ↔ FirstFault names c n p
  captions_refused n p = (λ e. first (subst (Outcome names c) e outcome), λ f. go f refl outcome)
    where
      first : {m q : ℕ} → Outcome names c (refused m q) → FirstFault names c m q
      first (stopped f) = f

      go : FirstFault names c n p → {R : Read (List (Option ℕ))} → captions_in names c ≡ R → Outcome names c R → captions_in names c ≡ refused n p
      go f e (whole t) = absurd (well_right (taken_well t) p n f.within f.starts f.fault)
      go f e (stopped g) = let i = first_one f g in cc
