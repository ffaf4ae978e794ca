-- A dump has one outcome: its first line at fault is one, with one fault; or it is whole, with one list of events.
-- Assumes that the window has a tick, and that no two of the names are the same. `names` are the declared names, W is the window, d the dump, p a place in it.
use mathlib.Core.Path.{◌≡◌, refl, sym, ap, ◌∙◌}
use mathlib.Core.Bool.{Bool, true, false, true≢false, not, ◌&&◌, and-eq-true_iff}
use mathlib.Core.List.{List}
use Prim.Native.Nat.{ℕ, zero, suc, ◌+◌, ◌<◌, ◌≤◌}
use native.Mathlib.Omega.{arith}
use borrow.Author.Tests.{leb-true, le-leb, lt-leb, not-true}
use lib.Dec.{leb}
use lib.ListN.{length}
use Rattle.read_bytes.specs.Read.{Read, and_then}
use Rattle.read_bytes.specs.Read.Read.{got, refused}
use Rattle.read_bytes.specs.Bytes.{pick}
use Rattle.read_bytes.proofs.Answers.{not_both}
use Rattle.read_names.proofs.Names.{Differ}
use Rattle.spec_dump.specs.DumpTexts.{Event}
use Rattle.spec_dump.specs.DumpLines.{asked}
use Rattle.proof_dump.specs.DumpCases.{Next, timescale, scope, signal, definitions, nought, event, Owed, Reached, End, Outside, Fault, DumpFault, DumpWhole}
use Rattle.proof_dump.proofs.EventLines.{owed_asked, not_owed}
use Rattle.proof_dump.proofs.NextLines.{line_at, LineIs, line_is, outside_reads, right_reads}
use Rattle.proof_dump.proofs.DumpWalk.{reached_inside}

-- Is c at p the end?
unfoldable at_end : List (List ℕ) → List ℕ → Next → ℕ → Bool
at_end names d timescale p = false
at_end names d scope p = false
at_end names d (signal x) p = false
at_end names d definitions p = false
at_end names d nought p = false
at_end names d (event u k es) p = leb (length d) p && not (asked (length names) u k)

-- n lines from c at p on, or those up to the end.
unfoldable run : List (List ℕ) → ℕ → List ℕ → ℕ → Next → ℕ → Read Next
run names W d zero c p = got c p
run names W d (suc n) c p = pick (at_end names d c p) (λ _. got c p) (and_then (line_at names W d c p) (λ e q. run names W d n e q))

module _ (names : List (List ℕ)) (d : List ℕ) where
  -- Before the dump's end it is not.
  before_end : (c : Next) (p : ℕ) → p < length d → at_end names d c p ≡ false
  unfolding at_end
  before_end timescale p l = refl
  before_end scope p l = refl
  before_end (signal x) p l = refl
  before_end definitions p l = refl
  before_end nought p l = refl
  before_end (event u k es) p l = rw (lt-leb (length d) p l)

  no_end : (c : Next) (p : ℕ) → p ≤ length d → (End names d p c → ⊥) → at_end names d c p ≡ false
  unfolding at_end
  no_end timescale p l n = refl
  no_end scope p l n = refl
  no_end (signal x) p l n = refl
  no_end definitions p l n = refl
  no_end nought p l n = refl
  no_end (event u k es) p l n = go (leb (length d) p && not (asked (length names) u k)) refl
    where
      go : (b : Bool) → leb (length d) p && not (asked (length names) u k) ≡ b → b ≡ false
      go false e = refl
      go true e =
          let w = (and-eq-true_iff (leb (length d) p) (not (asked (length names) u k))).0 e in
          let i = leb-true (length d) p w.0 in
          let f = not-true (asked (length names) u k) w.1 in
          absurd (n (End.end (λ o. true≢false (sym (owed_asked names u k o) ∙ f)) (omega arith)))

-- A line whose name or tick is outside stands in the dump.
outside_inside : {names : List (List ℕ)} {W : ℕ} {d : List ℕ} {p : ℕ} {c : Next} {n i : ℕ} → Outside names W d p c n i → p < length d
outside_inside (Outside.name l a m) = omega (arith, a.inside)
outside_inside (Outside.tick f a m l) = omega (arith, a.inside)

module _ (names : List (List ℕ)) (W : ℕ) (some : 1 ≤ W) (differ : Differ names) (d : List ℕ) where
  -- What is reached is what the lines before it come to.
  reached_run : {c : Next} {p : ℕ} → Reached names W d c p → (m : ℕ) × ((n : ℕ) → run names W d (m + n) timescale 0 ≡ run names W d n c p)
  unfolding run
  reached_run Reached.start = (0, λ n. (let z : 0 + n ≡ n = omega arith in rw z))
  reached_run (Reached.line {c} {p = p} h a r) =
      let w = reached_run h in
      let i = before_end names d c p (omega (arith, a.inside)) in
      (w.0 + 1, λ n. (let z : w.0 + 1 + n ≡ w.0 + suc n = omega arith in rw z (w.1 (suc n) ∙ rw (i, right_reads names W some d differ a r))))

  -- A fault is what all lines come to.
  fault_line : {c : Next} {p n i : ℕ} → p ≤ length d → Fault names W d p c n i → (at_end names d c p ≡ false) × (line_at names W d c p ≡ refused n i)
  fault_line {c} {p} l (Fault.outside o) = (before_end names d c p (outside_inside o), outside_reads names W some d o)
  fault_line {c} {p} l (Fault.other o) = (no_end names d c p l o.not_end, go (line_is names W some d c p))
    where
      go : {R : Read Next} → LineIs names W d p c R → R ≡ refused 22 p
      go (LineIs.right a r) = absurd (o.not_right _ _ a r)
      go (LineIs.outside x) = absurd (o.not_outside _ _ x)
      go LineIs.other = refl

  fault_run : {n i : ℕ} → DumpFault names W d n i → (m : ℕ) × ((j : ℕ) → run names W d (m + suc j) timescale 0 ≡ refused n i)
  unfolding run
  fault_run f =
      let w = reached_run f.reached in
      let l = fault_line (reached_inside f.reached) f.holds in
      (w.0, λ j. w.1 (suc j) ∙ rw (l.0, l.1))

  -- And so is the end of a whole dump.
  end_stays : (n u k : ℕ) (es : List Event) → (Owed names u k → ⊥) → run names W d n (event u k es) (length d) ≡ got (event u k es) (length d)
  unfolding run at_end
  end_stays zero u k es g = refl
  end_stays (suc n) u k es g = rw (le-leb (length d) (length d) (omega arith), not_owed names u k g)

  whole_run : {es : List Event} (w : DumpWhole names W d es) → (m : ℕ) × ((j : ℕ) → run names W d (m + j) timescale 0 ≡ got (event w.latest w.following es) (length d))
  whole_run {es} w =
      let r = reached_run w.reached in
      (r.0, λ j. r.1 j ∙ end_stays j w.latest w.following es w.given)

  -- So two outcomes are the same.
  pub fault_one : {n i m j : ℕ} → DumpFault names W d n i → DumpFault names W d m j → (n ≡ m) × (i ≡ j)
  fault_one {n} {i} {m} {j} f g =
      let a = fault_run f in
      let b = fault_run g in
      let z : a.0 + suc b.0 ≡ b.0 + suc a.0 = omega arith in
      let e : refused n i ≡ refused m j = sym (a.1 b.0) ∙ ap (λ (x : ℕ). run names W d x timescale 0) z ∙ b.1 a.0 in
      (cc, cc)

  pub fault_whole : {n i : ℕ} {es : List Event} → DumpFault names W d n i → DumpWhole names W d es → ⊥
  fault_whole f g =
      let a = fault_run f in
      let b = whole_run g in
      let z : a.0 + suc b.0 ≡ b.0 + suc a.0 = omega arith in
      not_both (sym (b.1 (suc a.0)) ∙ ap (λ (x : ℕ). run names W d x timescale 0) (sym z) ∙ a.1 b.0)

  pub whole_one : {es fs : List Event} → DumpWhole names W d es → DumpWhole names W d fs → es ≡ fs
  whole_one {es} {fs} f g =
      let a = whole_run f in
      let b = whole_run g in
      let z : a.0 + b.0 ≡ b.0 + a.0 = omega arith in
      let e : got (event f.latest f.following es) (length d) ≡ got (event g.latest g.following fs) (length d) =
      sym (a.1 b.0) ∙ ap (λ (x : ℕ). run names W d x timescale 0) z ∙ b.1 a.0 in
      cc
