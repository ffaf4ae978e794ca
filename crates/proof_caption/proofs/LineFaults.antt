-- Faults of caption lines: a line that was taken has none, no line of a well captioned text has one, and those of one line have one number.
-- Assumes nothing. `names` are the declared names, c is the captions' text, `at` the places of the captions by signal.
use mathlib.Core.Path.{◌≡◌, refl, sym, subst, ◌∙◌}
use mathlib.Core.List.{List}
use Prim.Native.Nat.{ℕ, ◌+◌, ◌<◌}
use native.Mathlib.Omega.{arith}
use native.Mathlib.Decide.{dec_lt}
use lib.ListN.{length, get_or}
use Rattle.std.specs.Prelude.{Option, Some, None}
use Rattle.read_bytes.proofs.Values.{same_some}
use Rattle.read_names.specs.Spellings.{find_name}
use Rattle.proof_caption.specs.CaptionTexts.{LineAt, LineStart, WellCaptioned, LineFault, FirstFault}
use Rattle.proof_caption.specs.CaptionTexts.LineFault.{not_formed, not_declared, repeated}
use Rattle.proof_caption.proofs.LineTexts.{one_line}
use Rattle.proof_caption.proofs.TakenLines.{Taken}

-- A line whose name is declared, and that no earlier line has, is without fault.
no_fault : {names : List (List ℕ)} {c : List ℕ} {p n : ℕ} {w k : List ℕ} → LineAt c p w k → find_name w names < length names
    → ((l : List ℕ) (q : ℕ) → q < p → LineStart c q → LineAt c q w l → ⊥) → LineFault names c p n → ⊥
no_fault h d once (not_formed n) = n _ _ h
no_fault {names} {c} {p} h d once (not_declared a n) = n (subst (λ u. find_name u names < length names) (one_line c p h a).0 d)
no_fault {names} {c} {p} h d once (repeated {l = l} {q = q} a e i s b) = once l q i s (subst (λ u. LineAt c q u l) (one_line c p a h).0 b)

-- The faults of one line.
pub fault_one : {names : List (List ℕ)} {c : List ℕ} {p n m : ℕ} → LineFault names c p n → LineFault names c p m → n ≡ m
fault_one (not_formed f) (not_formed g) = refl
fault_one (not_formed f) (not_declared a g) = absurd (f _ _ a)
fault_one (not_formed f) (repeated a e i s b) = refl
fault_one (not_declared a f) (not_formed g) = absurd (g _ _ a)
fault_one (not_declared a f) (not_declared b g) = refl
fault_one {names} {c} {p} (not_declared a f) (repeated b e i s d) = absurd (f (subst (λ u. find_name u names < length names) (one_line c p b a).0 e))
fault_one (repeated a e i s b) (not_formed g) = refl
fault_one {names} {c} {p} (repeated b e i s d) (not_declared a f) = absurd (f (subst (λ u. find_name u names < length names) (one_line c p b a).0 e))
fault_one (repeated a e i s b) (repeated f g j t h) = refl

module _ {names : List (List ℕ)} {c : List ℕ} {at : List (Option ℕ)} {p : ℕ} (t : Taken names c at p) where
  -- What is known of a line that was taken.
  pub taken_at : {q : ℕ} {w k : List ℕ} → q < p → LineStart c q → LineAt c q w k → (find_name w names < length names) × (get_or at (find_name w names) None ≡ Some (q + length w + 1))
  taken_at {q} l s h =
      let o = t.each q l s in
      subst (λ u. (find_name u names < length names) × (get_or at (find_name u names) None ≡ Some (q + length u + 1))) (one_line c q o.line h).0 (o.declared, o.kept)

  -- No other has its name.
  pub taken_once : {q r : ℕ} {w k l : List ℕ} → q < p → LineStart c q → LineAt c q w k → r < p → LineStart c r → LineAt c r w l → q ≡ r
  taken_once {q} {r} {w} i s h j u g =
      let same : q + length w + 1 ≡ r + length w + 1 = same_some (sym (taken_at i s h).1 ∙ (taken_at j u g).1) in
      omega arith

  pub taken_right : (q m : ℕ) → q < p → LineStart c q → LineFault names c q m → ⊥
  taken_right q m l s f =
      let o = t.each q l s in
      no_fault o.line o.declared (λ k r i u h. (let e = taken_once (omega arith) u h l s o.line in omega arith)) f

pub well_right : {names : List (List ℕ)} {c : List ℕ} → WellCaptioned names c → (p n : ℕ) → p < length c → LineStart c p → LineFault names c p n → ⊥
well_right w p n l s f =
    let o = w.lines p l s in
    no_fault o.2 o.3 (λ k q i u h. (let e = w.once o.0 k o.1 q p u h s o.2 in omega arith)) f

-- A text has one first fault.
pub first_one : {names : List (List ℕ)} {c : List ℕ} {n p m q : ℕ} → FirstFault names c n p → FirstFault names c m q → (n ≡ m) × (p ≡ q)
first_one {names} {c} {n} {p} {m} {q} f g = go (dec_lt p q) (dec_lt q p)
  where
    go : Dec (p < q) → Dec (q < p) → (n ≡ m) × (p ≡ q)
    go (yes i) j = absurd (g.earlier p n i f.starts f.fault)
    go (no i) (yes j) = absurd (f.earlier q m j g.starts g.fault)
    go (no i) (no j) = let e : p ≡ q = omega arith in (fault_one (subst (λ (x : ℕ). LineFault names c x n) e f.fault) g.fault, e)
