-- A sheet's refusals 2 to 8 are given exactly for the first line at fault, and a sheet is accepted exactly if all its lines are right.
-- Assumes that the sheet has at most 32,768 bytes.
use mathlib.Core.Path.{◌≡◌, refl, sym, subst, ◌∙◌}
use mathlib.Core.Bool.{Bool, true, false}
use mathlib.Core.Logic.{◌↔◌}
use mathlib.Core.List.{List, [], ◌∷◌, ◌++◌}
use Prim.Native.Nat.{ℕ, zero, suc, ◌+◌, ◌≤◌, ◌<◌}
use native.Mathlib.Omega.{arith}
use native.Mathlib.Decide.{dec_lt}
use borrow.Author.Tests.{eq-eqb, ne_eqb, le-leb}
use lib.ListN.{length}
use Rattle.spec_limits.specs.Limits.{most_bytes, most_rule_bytes}
use Rattle.read_bytes.specs.Read.{Read, and_then}
use Rattle.read_bytes.specs.Read.Read.{got, refused}
use Rattle.read_bytes.specs.Bytes.{bytes, between}
use Rattle.read_names.specs.Spellings.{names_at}
use Rattle.read_lines.specs.Lines.{in_turn}
use Rattle.read_bytes.proofs.Answers.{not_both, same_value, same_place, then_same}
use Rattle.spec_tilco.specs.Formula.{Written}
use Rattle.read_parts.specs.FormulaText as reading
use Rattle.read_sheet.specs.Sheet as sheet
use Rattle.read_sheet.specs.Sheet.{Contents, contents, at_end, rule_line, sheet_of}
use Rattle.spec_grammar.specs.Lines.{LineAt, after}
use Rattle.spec_grammar.specs.SheetLines.{Next, key, Formed, More, Right, Reached, Followed, BadLength, BadFormula, Fault, SheetFault}
use Rattle.spec_grammar.proofs.Sound.{rule_sound}
use Rattle.spec_grammar.proofs.Complete.{rule_complete}
use Rattle.spec_grammar.proofs.Lines.{KeyedIs, line_is}
use Rattle.spec_grammar.proofs.RuleFaults.{rule_refused}
use Rattle.spec_grammar.proofs.LineKinds.{in_rule, rule_line_reads, rule_line_none}
use Rattle.spec_grammar.proofs.HeadLines as heads
use Rattle.spec_grammar.proofs.HeadLines.{then_then, from_rules, right_number, right_name, head_unformed, out_of_range, bad_name, NextIs, head_next, reached_inside, head_then}
use Rattle.spec_grammar.proofs.HeadLines.NextIs.{on, fault, end}

-- ---- reading on

-- What a sheet says from p on, where its rules come next, or anything.
rules_from : List ℕ → ℕ → List ℕ → ℕ → List Written → ℕ → Read Contents
rules_from s w places m ws p = and_then (in_turn (λ _ q. rule_line (names_at s places) s q) m ws p) (λ vs q. at_end s (contents w places vs) q)

abbrev from : List ℕ → Next → ℕ → Read Contents
from s = heads.from (rules_from s) s

module _ (s : List ℕ) where
  from_rule : (w : ℕ) (places : List ℕ) (m : ℕ) (ws : List Written) (p : ℕ) → from s (Next.rule w places (suc m) ws) p ≡ and_then (rule_line (names_at s places) s p) (λ a q. from s (Next.rule w places m (ws ++ (a ∷ []))) q)
  unfolding rules_from in_turn
  from_rule w places m ws p =
      from_rules s (rules_from s) w places (suc m) ws p ∙ then_then (rule_line (names_at s places) s p) _ _
      ∙ then_same (rule_line (names_at s places) s p) _ _ (λ a q i. sym (from_rules s (rules_from s) w places m (ws ++ (a ∷ [])) q))

  from_end : (w : ℕ) (places : List ℕ) (ws : List Written) (p : ℕ) → from s (Next.rule w places zero ws) p ≡ at_end s (contents w places ws) p
  unfolding rules_from in_turn
  from_end w places ws p = from_rules s (rules_from s) w places zero ws p

  from_start : length s ≤ most_bytes → sheet_of s ≡ from s Next.window 0
  unfolding sheet_of sheet.rules rules_from
  from_start l = let e = le-leb (length s) most_bytes l in rw e (head_then s (rules_from s))

  -- ---- each line's answer

  -- A right line is read over.
  right_reads : {p : ℕ} {c e : Next} {v : List ℕ} → LineAt s p (key c ++ v) → Right s p c v e → from s c p ≡ from s e (after p (key c ++ v))
  right_reads a (Right.number r n b) = right_number s (rules_from s) r a n b
  right_reads a (Right.name {w} {n} {places} m k) = right_name s (rules_from s) w n places a m k
  right_reads {p} {v = v} a (Right.formula {w} {m} {places} {ws = ws} b r) =
      from_rule w places m ws p ∙ rw (rule_line_reads (names_at s places) s p v a, b, rule_complete (names_at s places) v 0 r)

  unformed_reads : (c : Next) (p : ℕ) → More c → ((v : List ℕ) → LineAt s p (key c ++ v) → Formed c v → ⊥) → from s c p ≡ refused 2 p
  unformed_reads Next.window p m n = head_unformed s (rules_from s) Next.window p tt n
  unformed_reads (Next.signals w) p m n = head_unformed s (rules_from s) (Next.signals w) p tt n
  unformed_reads (Next.signal w k places) p m n = head_unformed s (rules_from s) (Next.signal w k places) p tt n
  unformed_reads (Next.rule w places zero ws) p m n = absurd m
  unformed_reads (Next.rule w places (suc k) ws) p m n = from_rule w places k ws p ∙ rw (rule_line_none (names_at s places) s p (λ v a. n v a Formed.formula))

  -- A line at fault is refused.
  fault_reads : {p : ℕ} {c : Next} {n i : ℕ} → Fault s p c n i → from s c p ≡ refused n i
  fault_reads {p} {c} (Fault.unformed u) = unformed_reads c p u.more u.none
  fault_reads {p} (Fault.followed (Followed.followed {w} {places} {ws} l)) = from_end w places ws p ∙ rw (ne_eqb p (length s) (λ e. omega arith))
  fault_reads (Fault.range o) = out_of_range s (rules_from s) o
  fault_reads (Fault.name o) = bad_name s (rules_from s) o
  fault_reads {p} (Fault.size (BadLength.outside {w} {m} {places} {v} {ws} a b)) = from_rule w places m ws p ∙ rw (rule_line_reads (names_at s places) s p v a, b)
  fault_reads {p} (Fault.formula (BadFormula.formula {w} {m} {n} {k} {places} {v} {ws} a b f)) =
      from_rule w places m ws p ∙ rw (rule_line_reads (names_at s places) s p v a, b, (rule_refused (names_at s places) v 0 n k).1 f)

  reached_reads : {c : Next} {p : ℕ} → Reached s c p → from s Next.window 0 ≡ from s c p
  reached_reads Reached.start = refl
  reached_reads (Reached.line h a r) = reached_reads h ∙ right_reads a r

  -- ---- every line is right, or at fault, or the end

  rule_next : (w : ℕ) (places : List ℕ) (m : ℕ) (ws : List Written) (p : ℕ) → NextIs s p (Next.rule w places (suc m) ws)
  rule_next w places m ws p = go (line_is s p (bytes "rule=") 2 in_rule)
    where
      by : (v : List ℕ) → LineAt s p (bytes "rule=" ++ v) → (b : Bool) → between 1 most_rule_bytes (length v) ≡ b → (R : Read Written) → reading.rule (names_at s places) v 0 ≡ R → NextIs s p (Next.rule w places (suc m) ws)
      by v a true e (got f q) i = on a (Right.formula e (rule_sound (names_at s places) v 0 i).0)
      by v a true e (refused n k) i = fault (Fault.formula (BadFormula.formula a e ((rule_refused (names_at s places) v 0 n k).0 i)))
      by v a false e R i = fault (Fault.size (BadLength.outside a e))

      go : {R : Read ℕ} → KeyedIs s p (bytes "rule=") 2 R → NextIs s p (Next.rule w places (suc m) ws)
      go (KeyedIs.keyed v a) = by v a (between 1 most_rule_bytes (length v)) refl (reading.rule (names_at s places) v 0) refl
      go (KeyedIs.unkeyed n) = fault (Fault.unformed (record { more = tt; none = λ v a k. n v a }))

  next_is : (c : Next) (p : ℕ) → p ≤ length s → NextIs s p c
  next_is Next.window p l = head_next s Next.window p tt
  next_is (Next.signals w) p l = head_next s (Next.signals w) p tt
  next_is (Next.signal w n places) p l = head_next s (Next.signal w n places) p tt
  next_is (Next.rule w places zero ws) p l = go (dec_lt p (length s))
    where
      go : Dec (p < length s) → NextIs s p (Next.rule w places zero ws)
      go (yes h) = fault (Fault.followed (Followed.followed h))
      go (no h) = end (omega arith)
  next_is (Next.rule w places (suc m) ws) p l = rule_next w places m ws p

  -- All lines are right, or one is the first at fault.
  data Outcome : Type 0 where
    accepted : {w : ℕ} {places : List ℕ} {ws : List Written} → Reached s (Next.rule w places zero ws) (length s) → Outcome
    faulty : {n i : ℕ} → SheetFault s n i → Outcome

  walk : (fuel : ℕ) (c : Next) (p : ℕ) → length s < p + fuel → Reached s c p → Outcome
  walk zero c p l h = let k = reached_inside s h in let z : ⊥ = omega arith in absurd z
  walk (suc fuel) c p l h = go (next_is c p (reached_inside s h)) h (λ e q k r. walk fuel e q k r)
    where
      go : {c : Next} → NextIs s p c → Reached s c p → ((e : Next) (q : ℕ) → length s < q + fuel → Reached s e q → Outcome) → Outcome
      go (on {e = e} {v = v} a r) h k = k e _ (omega arith) (Reached.line h a r)
      go (fault {c = c} f) h k = faulty (record { next = c; place = p; reached = h; holds = f })
      go (end {w} {places} {ws} e) h k = accepted (subst (Reached s (Next.rule w places zero ws)) e h)

  -- ---- exactly

  module _ (fits : length s ≤ most_bytes) where
    fault_refused : {n i : ℕ} → SheetFault s n i → sheet_of s ≡ refused n i
    fault_refused f = from_start fits ∙ reached_reads f.reached ∙ fault_reads f.holds

    all_accepted : {w : ℕ} {places : List ℕ} {ws : List Written} → Reached s (Next.rule w places zero ws) (length s) → sheet_of s ≡ got (contents w places ws) (length s)
    all_accepted {w} {places} {ws} h = from_start fits ∙ reached_reads h ∙ from_end w places ws (length s) ∙ rw (eq-eqb (length s) (length s) refl)

    -- A sheet is refused with a number and a place exactly if its first line at fault has that fault.
    pub sheet_refused : (n i : ℕ) → (sheet_of s ≡ refused n i) ↔ SheetFault s n i
    sheet_refused n i = (λ e. go (walk (length s + 1) Next.window 0 (omega arith) Reached.start) e, fault_refused)
      where
        go : Outcome → sheet_of s ≡ refused n i → SheetFault s n i
        go (accepted h) e = absurd (not_both (sym (all_accepted h) ∙ e))
        go (faulty {n = m} {i = j} f) e =
            let z = sym (fault_refused f) ∙ e in
            let a : m ≡ n = cc in
            let b : j ≡ i = cc in
            subst (SheetFault s n) b (subst (λ x. SheetFault s x j) a f)

    -- And it is accepted, with what it says, exactly if all its lines are right and nothing follows them.
    pub sheet_accepted : (w : ℕ) (places : List ℕ) (ws : List Written) → (sheet_of s ≡ got (contents w places ws) (length s)) ↔ Reached s (Next.rule w places zero ws) (length s)
    sheet_accepted w places ws = (λ e. go (walk (length s + 1) Next.window 0 (omega arith) Reached.start) e, all_accepted)
      where
        go : Outcome → sheet_of s ≡ got (contents w places ws) (length s) → Reached s (Next.rule w places zero ws) (length s)
        go (faulty f) e = absurd (not_both (sym e ∙ fault_refused f))
        go (accepted {w = x} {places = ps} {ws = vs} h) e =
            let z : contents x ps vs ≡ contents w places ws = same_value (sym (all_accepted h) ∙ e) in
            subst (λ (k : Contents). Reached s (Next.rule k.window k.places zero k.rules) (length s)) z h

    -- It is read to its end then.
    pub sheet_end : {k : Contents} {q : ℕ} → sheet_of s ≡ got k q → q ≡ length s
    sheet_end {k} {q} e = go (walk (length s + 1) Next.window 0 (omega arith) Reached.start)
      where
        go : Outcome → q ≡ length s
        go (faulty f) = absurd (not_both (sym e ∙ fault_refused f))
        go (accepted h) = same_place (sym e ∙ all_accepted h)
