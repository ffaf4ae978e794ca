-- Each kind of line: when it is read, and when which of its refusals is given.
-- Assumes nothing.
use mathlib.Core.Path.{◌≡◌, refl, sym, ap, subst, ◌∙◌}
use mathlib.Core.Bool.{Bool, true, false, true≢false}
use mathlib.Core.Logic.{⊎_elim}
use mathlib.Core.List.{List, [], ◌∷◌, ◌++◌, append-nil, append_assoc, Memᴰ}
use Prim.Native.Nat.{ℕ, suc, ◌+◌, ◌-◌, ◌≤◌, ◌<◌}
use native.Mathlib.Nat.{add-zero}
use native.Mathlib.Omega.{arith}
use Rattle.spec_limits.specs.Limits.{most_rule_bytes}
use Rattle.spec_ticks.proofs.Bits.{lt_or_ge}
use borrow.Author.Tests.{eqb-true, eqb-false}
use lib.Dec.{eqb}
use lib.ListN.{length, length-append, take, length-take}
use lib.Seq.{take-suc}
use Rattle.read_bytes.specs.Read.{Read, and_then}
use Rattle.read_bytes.specs.Read.Read.{got, refused}
use Rattle.read_bytes.specs.Bytes.{bytes, pick, between, starts, InLine}
use Rattle.read_names.specs.Spellings.{spelling_at, names_at, find_name, name_at}
use Rattle.read_bytes.specs.Numbers as numbers
use Rattle.read_lines.specs.Lines.{whole_number, whole_name, number_line, ranged_line, name_line}
use Rattle.read_bytes.proofs.Places.{peek_in}
use Rattle.read_names.proofs.Names.{find_in, find_most, names_many}
use Rattle.read_bytes.proofs.Later.{later}
use Rattle.read_parts.specs.FormulaText.{rule}
use Rattle.read_parts.proofs.Later.{rule_later}
use Rattle.read_head.specs.SheetHead.{signal_line}
use Rattle.read_sheet.specs.Sheet.{rule_to, rule_line}
use Rattle.spec_grammar.specs.Lines.{LineAt, after, Number, SignalName}
use Rattle.spec_grammar.proofs.Lines.{in_line_by, KeyedIs, line_is, keyed_reads, unkeyed_reads, value_one, value_at_lem, number_one, NumberIs, number_is, NameIs, name_is, same_word}
use Rattle.spec_grammar.proofs.Standing.{starts_head, starts_tail}

-- ---- numbers

-- A line with its key and a number: in its range, outside it, or none.
pub data RangedIs (s : List ℕ) (p : ℕ) (key : List ℕ) (form content lo hi : ℕ) : Read ℕ → Type 0 where
  inside : {v : List ℕ} {x : ℕ} → LineAt s p (key ++ v) → Number v x → between lo hi x ≡ true → RangedIs s p key form content lo hi (got x (after p (key ++ v)))
  outside : {v : List ℕ} {x : ℕ} → LineAt s p (key ++ v) → Number v x → between lo hi x ≡ false → RangedIs s p key form content lo hi (refused content (p + length key))
  unformed : ((v : List ℕ) (x : ℕ) → LineAt s p (key ++ v) → Number v x → ⊥) → RangedIs s p key form content lo hi (refused form p)

-- The place after a line is that after its value.
after_value : (p : ℕ) (key v : List ℕ) → p + length key + length v + 1 ≡ after p (key ++ v)
after_value p key v = omega (arith, length-append key v)

module _ (s : List ℕ) (p : ℕ) (key : List ℕ) (form : ℕ) (in_key : InLine key) where
  module _ (content lo hi : ℕ) where
    abbrev in_range : ℕ → ℕ → Read ℕ
    in_range x q = pick (between lo hi x) (λ _. got x q) (refused content (p + length key))

    ranged : (v : List ℕ) → LineAt s p (key ++ v) → {R : Read ℕ} → NumberIs v (p + length key + length v) p form R → RangedIs s p key form content lo hi (and_then R in_range)
    ranged v a (NumberIs.number {x} n) = go (between lo hi x) refl
      where
        go : (b : Bool) → between lo hi x ≡ b → RangedIs s p key form content lo hi (in_range x (p + length key + length v + 1))
        go true e = rw (e, after_value p key v) (inside a n e)
        go false e = rw e (outside a n e)
    ranged v a (NumberIs.none n) = unformed (λ w x b m. n x (subst (λ z. Number z x) (value_one key b a) m))

    pub ranged_is : RangedIs s p key form content lo hi (ranged_line s p key form content lo hi)
    unfolding ranged_line number_line
    ranged_is = go (line_is s p key form in_key)
      where
        go : {R : Read ℕ} → KeyedIs s p key form R → RangedIs s p key form content lo hi (and_then (and_then R (λ v e. whole_number p form e (numbers.number s v))) in_range)
        go (KeyedIs.keyed v a) = ranged v a (number_is s (p + length key) p form v (value_at_lem key v a))
        go (KeyedIs.unkeyed n) = unformed (λ v x a m. n v a)

  -- ---- names

  -- A line with its key: a signal's name, something else, or no such line.
  pub data NamedIs (content : ℕ) : Read ℕ → Type 0 where
    name : (v : List ℕ) → LineAt s p (key ++ v) → SignalName v → NamedIs content (got (p + length key) (after p (key ++ v)))
    other : (v : List ℕ) → LineAt s p (key ++ v) → (SignalName v → ⊥) → NamedIs content (refused content (p + length key))
    unformed : ((v : List ℕ) → LineAt s p (key ++ v) → ⊥) → NamedIs content (refused form p)

  pub named_is : (content : ℕ) → NamedIs content (name_line s p key form content)
  unfolding name_line
  named_is content = go (line_is s p key form in_key)
    where
      on : (v : List ℕ) → LineAt s p (key ++ v) → {R : Read ℕ} → NameIs v (p + length key) (p + length key + length v) content R → NamedIs content R
      on v a (NameIs.name n) = rw (after_value p key v) (name v a n)
      on v a (NameIs.none n) = other v a n

      go : {R : Read ℕ} → KeyedIs s p key form R → NamedIs content (and_then R (λ v e. whole_name v content e (name_at s v)))
      go (KeyedIs.keyed v a) = on v a (name_is s (p + length key) content v (value_at_lem key v a))
      go (KeyedIs.unkeyed n) = unformed n

-- ---- one answer each

module _ {s : List ℕ} {p : ℕ} {key : List ℕ} where
  ranged_one : {form content lo hi : ℕ} {R Q : Read ℕ} → RangedIs s p key form content lo hi R → RangedIs s p key form content lo hi Q → R ≡ Q
  ranged_one (RangedIs.inside {x = x} a n e) (RangedIs.inside {v = w} {x = y} b m f) =
      let i = value_one key a b in
      let j : x ≡ y = number_one (subst (λ z. Number z x) i n) m in
      rw (i, j)
  ranged_one {lo = lo} {hi} (RangedIs.inside {x = x} a n e) (RangedIs.outside {x = y} b m f) =
      let j : x ≡ y = number_one (subst (λ z. Number z x) (value_one key a b) n) m in
      absurd (true≢false (sym e ∙ ap (between lo hi) j ∙ f))
  ranged_one (RangedIs.inside a n e) (RangedIs.unformed k) = absurd (k _ _ a n)
  ranged_one {lo = lo} {hi} (RangedIs.outside {x = x} a n e) (RangedIs.inside {x = y} b m f) =
      let j : x ≡ y = number_one (subst (λ z. Number z x) (value_one key a b) n) m in
      absurd (true≢false (sym f ∙ ap (between lo hi) (sym j) ∙ e))
  ranged_one (RangedIs.outside a n e) (RangedIs.outside b m f) = refl
  ranged_one (RangedIs.outside a n e) (RangedIs.unformed k) = absurd (k _ _ a n)
  ranged_one (RangedIs.unformed k) (RangedIs.inside b m f) = absurd (k _ _ b m)
  ranged_one (RangedIs.unformed k) (RangedIs.outside b m f) = absurd (k _ _ b m)
  ranged_one (RangedIs.unformed k) (RangedIs.unformed h) = refl

-- So the description is the answer.
pub ranged_reads : {s : List ℕ} {p : ℕ} {key : List ℕ} {form content lo hi : ℕ} {R : Read ℕ} → InLine key → RangedIs s p key form content lo hi R → ranged_line s p key form content lo hi ≡ R
ranged_reads {s} {p} {key} {form} {content} {lo} {hi} i h = ranged_one (ranged_is s p key form i content lo hi) h

-- ---- signals

pub in_signal : InLine (bytes "signal=")
in_signal = in_line_by (bytes "signal=") refl

-- A signal's line: right, wrong, or none.
pub data SignalIs (s places : List ℕ) (p : ℕ) : Read ℕ → Type 0 where
  right : (v : List ℕ) → LineAt s p (bytes "signal=" ++ v) → SignalName v → (Memᴰ v (names_at s places) → ⊥)
      → SignalIs s places p (got (p + length (bytes "signal=")) (after p (bytes "signal=" ++ v)))
  wrong : (v : List ℕ) → LineAt s p (bytes "signal=" ++ v) → (SignalName v → (Memᴰ v (names_at s places) → ⊥) → ⊥) → SignalIs s places p (refused 4 (p + length (bytes "signal=")))
  unformed : ((v : List ℕ) → LineAt s p (bytes "signal=" ++ v) → ⊥) → SignalIs s places p (refused 2 p)

module _ (s places : List ℕ) (p : ℕ) where
  abbrev fresh : ℕ → ℕ → Read ℕ
  fresh v q = pick (eqb (find_name (spelling_at s v) (names_at s places)) (length places)) (λ _. got v q) (refused 4 v)

  pub signal_is : SignalIs s places p (signal_line s places p)
  unfolding signal_line
  signal_is = go (named_is s p (bytes "signal=") 2 in_signal 4)
    where
      on : (v : List ℕ) → LineAt s p (bytes "signal=" ++ v) → SignalName v → (b : Bool) → eqb (find_name v (names_at s places)) (length places) ≡ b
          → SignalIs s places p (pick b (λ _. got (p + length (bytes "signal=")) (after p (bytes "signal=" ++ v))) (refused 4 (p + length (bytes "signal="))))
      on v a n true e =
          let i = eqb-true (find_name v (names_at s places)) (length places) e in
          right v a n (λ m. let k = (find_in v (names_at s places)).1 m in omega (arith, names_many s places))
      on v a n false e =
          wrong v a
          (λ m k.
          let i = find_most v (names_at s places) in
          let l = names_many s places in
          let j : find_name v (names_at s places) < length (names_at s places) → ⊥ = λ h. k ((find_in v (names_at s places)).0 h) in
          eqb-false (find_name v (names_at s places)) (length places) e (most (find_name v (names_at s places)) (length (names_at s places)) (length places) i l j))
        where
          most : (a b c : ℕ) → a ≤ b → b ≡ c → (a < b → ⊥) → a ≡ c
          most a b c h i j = ⊎_elim (λ l. absurd (j l)) (λ l. omega arith) (lt_or_ge a b)

      go : {R : Read ℕ} → NamedIs s p (bytes "signal=") 2 in_signal 4 R → SignalIs s places p (and_then R fresh)
      go (NamedIs.name v a n) =
          rw (same_word s (p + length (bytes "signal=")) 4 v (value_at_lem (bytes "signal=") v a) n)
          (on v a n (eqb (find_name v (names_at s places)) (length places)) refl)
      go (NamedIs.other v a n) = wrong v a (λ m k. n m)
      go (NamedIs.unformed n) = unformed n

  signal_one : {R Q : Read ℕ} → SignalIs s places p R → SignalIs s places p Q → R ≡ Q
  signal_one (SignalIs.right v a n e) (SignalIs.right w b m f) = let i = value_one (bytes "signal=") a b in rw i
  signal_one (SignalIs.right v a n e) (SignalIs.wrong w b m) = let i = value_one (bytes "signal=") b a in absurd (subst (λ z. SignalName z → (Memᴰ z (names_at s places) → ⊥) → ⊥) i m n e)
  signal_one (SignalIs.right v a n e) (SignalIs.unformed k) = absurd (k v a)
  signal_one (SignalIs.wrong v a n) (SignalIs.right w b m f) = let i = value_one (bytes "signal=") a b in absurd (subst (λ z. SignalName z → (Memᴰ z (names_at s places) → ⊥) → ⊥) i n m f)
  signal_one (SignalIs.wrong v a n) (SignalIs.wrong w b m) = refl
  signal_one (SignalIs.wrong v a n) (SignalIs.unformed k) = absurd (k v a)
  signal_one (SignalIs.unformed k) (SignalIs.right w b m f) = absurd (k w b)
  signal_one (SignalIs.unformed k) (SignalIs.wrong w b m) = absurd (k w b)
  signal_one (SignalIs.unformed k) (SignalIs.unformed h) = refl

  pub signal_reads : {R : Read ℕ} → SignalIs s places p R → signal_line s places p ≡ R
  signal_reads h = signal_one signal_is h

-- ---- rules

pub in_rule : InLine (bytes "rule=")
in_rule = in_line_by (bytes "rule=") refl

-- What stands up to the end of a text that stands at u.
take_stands : (s : List ℕ) (u : ℕ) (v : List ℕ) → starts s u v ≡ true → u + length v ≤ length s → take (u + length v) s ≡ take u s ++ v
take_stands s u [] h l = rw add-zero (sym (append-nil (take u s)))
take_stands s u (x ∷ v) h l =
    let n : u + suc (length v) ≡ u + 1 + length v = omega arith in
    let m : u + 1 ≡ suc u = omega arith in
    let k : u < length s = omega arith in
    let e : take (suc u) s ≡ take u s ++ (x ∷ []) = take-suc s u 0 k ∙ ap (λ y. take u s ++ (y ∷ [])) (peek_in s u k ∙ starts_head s u x v h) in
    let r : take (u + 1 + length v) s ≡ take (u + 1) s ++ v = take_stands s (u + 1) v (starts_tail s u x v h) (omega arith) in
    rw (n, r, m, e) (append_assoc (take u s) (x ∷ []) v)

-- A rule that stands in a text is read as it is by itself.
rule_there : (names : List (List ℕ)) (s : List ℕ) (u : ℕ) (v : List ℕ) → LineAt s u v → rule names (take (u + length v) s) u ≡ later u (rule names v 0)
rule_there names s u v a =
    let l = a.inside in
    let n : length (take u s) ≡ u = simp length-take (omega arith) in
    let r = rule_later (take u s) v names 0 in
    rw (take_stands s u v a.stands (omega arith)) (subst (λ x. rule names (take u s ++ v) x ≡ later x (rule names v 0)) n (rw add-zero at r))

module _ (names : List (List ℕ)) (s : List ℕ) (p : ℕ) where
  -- The answer to a rule of the text v.
  pub rule_line_reads : (v : List ℕ) → LineAt s p (bytes "rule=" ++ v)
      → rule_line names s p ≡ pick (between 1 most_rule_bytes (length v)) (λ _. and_then (later (p + length (bytes "rule=")) (rule names v 0)) (λ w q. got w (after p (bytes "rule=" ++ v)))) (refused 5 (p + length (bytes "rule=")))
  unfolding rule_line rule_to
  rule_line_reads v a =
      let u : p + length (bytes "rule=") + length v - (p + length (bytes "rule=")) ≡ length v = omega arith in
      rw (keyed_reads s p (bytes "rule=") 2 in_rule v a, u, rule_there names s (p + length (bytes "rule=")) v (value_at_lem (bytes "rule=") v a), after_value p (bytes "rule=") v)

  pub rule_line_none : ((v : List ℕ) → LineAt s p (bytes "rule=" ++ v) → ⊥) → rule_line names s p ≡ refused 2 p
  unfolding rule_line
  rule_line_none n = rw (unkeyed_reads s p (bytes "rule=") 2 in_rule n)
