-- In a sheet, what stands before a formula's fault could still become a rule: some name is declared where a rule comes next.
-- Assumes nothing.
use mathlib.Core.Path.{◌≡◌, refl, sym, subst}
use mathlib.Core.Logic.{◌⊎◌, inl, inr, ⊎_elim}
use mathlib.Core.List.{List, [], ◌∷◌, ◌++◌, Memᴰ}
use Prim.Native.Nat.{ℕ, ◌+◌, ◌≤◌}
use native.Mathlib.Omega.{arith}
use lib.ListN.{length}
use Rattle.spec_limits.specs.Limits.{most_signals}
use Rattle.read_bytes.specs.Bytes.{bytes}
use Rattle.read_names.specs.Spellings.{spelling_at, names_at}
use Rattle.read_bytes.proofs.Tests.{between_is}
use Rattle.read_names.proofs.Names.{find_in, names_append}
use Rattle.spec_tilco.specs.Formula.{Written}
use Rattle.spec_grammar.specs.Tokens.{Tokens}
use Rattle.spec_grammar.specs.Grammar.{Name}
use Rattle.spec_grammar.specs.RuleFaults.{RuleFault, Open}
use Rattle.spec_grammar.specs.Lines.{LineAt}
use Rattle.spec_grammar.specs.SheetLines.{Next, key, Ranged, Right, Reached}
use Rattle.spec_grammar.proofs.RuleFaults.{rule_refused, rule_open}
use Rattle.spec_grammar.proofs.Lines.{value_at_lem, same_word}

last_in_lem : {A : Type 0} (l : List A) {x y : A} → x ≡ y → Memᴰ x (l ++ (y ∷ []))
last_in_lem [] e = Memᴰ.head e
last_in_lem (z ∷ l) e = Memᴰ.tail (last_in_lem l e)

module _ (s : List ℕ) where
  -- A name is declared at one of these places.
  record Some (places : List ℕ) : Type 0 where
    name : List ℕ
    is : Name name
    in_names : Memᴰ name (names_at s places)

  -- At least one signal is to come, or has come.
  abbrev Named : Next → Type 0
  Named Next.window = Unit {0}
  Named (Next.signals w) = Unit {0}
  Named (Next.signal w n places) = (1 ≤ n) ⊎ Some places
  Named (Next.rule w places m ws) = Some places

  one_more : (places : List ℕ) (q : ℕ) (v : List ℕ) → Name v → spelling_at s q ≡ v → Some (places ++ (q ∷ []))
  unfolding names_at
  one_more places q v n e =
      record {
        name = v;
        is = n;
        in_names = subst (Memᴰ v) (sym (names_append s places (q ∷ []))) (last_in_lem (names_at s places) (sym e));
      }

  right_named : {p : ℕ} {c e : Next} {v : List ℕ} → LineAt s p (key c ++ v) → Right s p c v e → Named c → Named e
  right_named a (Right.number Ranged.ticks n b) h = tt
  right_named a (Right.number {x = x} Ranged.signal_count n b) h = inl (between_is 1 most_signals x b).0
  right_named a (Right.number (Ranged.rule_count) n b) h = ⊎_elim (λ l. let z : ⊥ = omega arith in absurd z) (λ k. k) h
  right_named {p} {v = v} a (Right.name {places = places} m k) h = inr (one_more places (p + length (bytes "signal=")) v m.name (same_word s (p + length (bytes "signal=")) 4 v (value_at_lem (bytes "signal=") v a) m))
  right_named a (Right.formula b f) h = h

  reached_named : {c : Next} {p : ℕ} → Reached s c p → Named c
  reached_named Reached.start = tt
  reached_named (Reached.line h a r) = right_named a r (reached_named h)

  -- What stands before the fault could still become a rule.
  pub formula_open : {w m p n k : ℕ} {places v : List ℕ} {ws : List Written} {us : List (List ℕ)} → Reached s (Next.rule w places m ws) p → RuleFault (names_at s places) v 0 n k → Tokens v k 0 us → Open (names_at s places) us
  formula_open {n = n} {k} {places} {v} h f t =
      let x = reached_named h in
      rule_open (names_at s places) v 0 x.is (record { found = refl; declared = (find_in x.name (names_at s places)).1 x.in_names }) ((rule_refused (names_at s places) v 0 n k).1 f) t
