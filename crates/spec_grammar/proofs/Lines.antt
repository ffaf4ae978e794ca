-- Lines of a text: the one at a place, its key, and the number or the name that takes its value whole.
-- Assumes nothing.
use mathlib.Core.Path.{◌≡◌, refl, sym, ap, subst, ◌∙◌}
use mathlib.Core.Bool.{Bool, true, false, true≢false, ◌||◌}
use mathlib.Core.Logic.{◌⊎◌, inl, inr, ⊎_elim}
use mathlib.Core.List.{List, [], ◌∷◌, ◌++◌}
use Prim.Native.Nat.{ℕ, zero, suc, ◌+◌, ◌≤◌, ◌<◌}
use native.Mathlib.Nat.{add-zero}
use native.Mathlib.Omega.{arith}
use native.Mathlib.Decide.{dec_lt}
use borrow.Author.Tests.{eq-eqb, eqb-true, eqb-false, ltb-true, lt-ltb, le-leb, not-false}
use lib.Dec.{eqb, ltb}
use lib.ListN.{length, length-append}
use Rattle.std.specs.Prelude.{Option, Some, None}
use Rattle.spec_limits.specs.Limits.{most_name_bytes}
use Rattle.read_bytes.specs.Read.{Read}
use Rattle.read_bytes.specs.Read.Read.{got, refused}
use Rattle.read_bytes.specs.Bytes.{byte, bytes, peek, one_of, digit, name_byte, starts, run_at, run_end, InLine}
use Rattle.read_bytes.specs.Numbers.{decimal}
use Rattle.read_names.specs.EndNumbers.{end_number}
use Rattle.read_names.specs.Spellings.{spelling_at, name_at}
use Rattle.read_lines.specs.Lines.{in_line, line_end, line, whole, whole_number, whole_name}
use Rattle.read_bytes.proofs.Places.{peek_in}
use Rattle.read_bytes.proofs.Values.{none_not}
use Rattle.read_bytes.proofs.Runs.{run_more, run_none, run_past, end_more, end_here, end_stops}
use Rattle.read_lines.proofs.KeyedLines.{lf_ends, lf_not}
use Rattle.read_names.proofs.Names.{Named, named}
use Rattle.read_interval.specs.Interval.{leading}
use Rattle.spec_grammar.specs.Tokens.{Each}
use Rattle.spec_grammar.specs.Lines.{LineAt, Number, SignalName}
use Rattle.spec_grammar.proofs.Standing.{starts_head, starts_tail, starts_none, starts_cons, starts_one, stand_same, word_stands, word_run, word_longest, word_each, word_first, letter_word}
use Rattle.spec_grammar.proofs.Signs.{leading_digit}
use Rattle.spec_grammar.proofs.Sound.{other_word}
use Rattle.spec_grammar.proofs.Complete.{word_not}
use Rattle.spec_grammar.proofs.Ends.{DigitsAt, digits_reads}

-- ---- texts that stand

-- One text after another.
pub starts_then : (s : List ℕ) (p : ℕ) (a b : List ℕ) → starts s p a ≡ true → starts s (p + length a) b ≡ true → starts s p (a ++ b) ≡ true
starts_then s p [] b h k = subst (λ x. starts s x b ≡ true) (add-zero p) k
starts_then s p (x ∷ a) b h k =
    let n : p + suc (length a) ≡ p + 1 + length a = omega arith in
    starts_cons s p x (a ++ b) (starts_head s p x a h) (starts_then s (p + 1) a b (starts_tail s p x a h) (rw n at k))

pub starts_parts : (s : List ℕ) (p : ℕ) (a b : List ℕ) → starts s p (a ++ b) ≡ true → (starts s p a ≡ true) × (starts s (p + length a) b ≡ true)
starts_parts s p [] b h = (starts_none s p, subst (λ x. starts s x b ≡ true) (sym (add-zero p)) h)
starts_parts s p (x ∷ a) b h =
    let r = starts_parts s (p + 1) a b (starts_tail s p x (a ++ b) h) in
    let n : p + 1 + length a ≡ p + suc (length a) = omega arith in
    (starts_cons s p x a (starts_head s p x (a ++ b) h) r.0, rw n at r.1)

-- A text with no LF ends before the next LF.
pub stops : (s : List ℕ) (p : ℕ) (w : List ℕ) (n : ℕ) → starts s p w ≡ true → InLine w → peek s (p + n) ≡ byte "\n" → length w ≤ n
stops s p [] n h i e = omega arith
stops s p (x ∷ w) zero h i e = absurd (i.0 (sym (starts_head s p x w h) ∙ ap (peek s) (sym (add-zero p)) ∙ e))
stops s p (x ∷ w) (suc n) h i e =
    let m : p + suc n ≡ p + 1 + n = omega arith in
    let r = stops s (p + 1) w n (starts_tail s p x w h) i.1 (rw m at e) in
    omega arith

-- Bytes that pass a test which LF does not pass.
pub each_in_line : (P : ℕ → Bool) → P (byte "\n") ≡ false → (w : List ℕ) → Each P w → InLine w
each_in_line P z [] h = tt
each_in_line P z (x ∷ w) h = (λ e. true≢false (sym h.0 ∙ ap P e ∙ z), each_in_line P z w h.1)

pub in_line_by : (w : List ℕ) → one_of (byte "\n") w ≡ false → InLine w
in_line_by [] e = tt
in_line_by (x ∷ w) e = go (eqb (byte "\n") x) refl e (in_line_by w)
  where
    go : (b : Bool) → eqb (byte "\n") x ≡ b → b || one_of (byte "\n") w ≡ false → (one_of (byte "\n") w ≡ false → InLine w) → (x ≡ byte "\n" → ⊥) × InLine w
    go true i f r = absurd (true≢false f)
    go false i f r = (λ z. eqb-false (byte "\n") x i (sym z), r f)

pub in_line_then : (a b : List ℕ) → InLine a → InLine b → InLine (a ++ b)
in_line_then [] b h k = k
in_line_then (x ∷ a) b h k = (h.0, in_line_then a b h.1 k)

pub in_line_parts : (a b : List ℕ) → InLine (a ++ b) → InLine a × InLine b
in_line_parts [] b h = (tt, h)
in_line_parts (x ∷ a) b h = let r = in_line_parts a b h.1 in ((h.0, r.0), r.1)

-- ---- lines

-- The line at a place is one.
pub line_one : {s : List ℕ} {p : ℕ} {l m : List ℕ} → LineAt s p l → LineAt s p m → l ≡ m
line_one {s} {p} {l} {m} a b =
    let i = stops s p l (length m) a.stands a.in_line_lem b.ends in
    let j = stops s p m (length l) b.stands b.in_line_lem a.ends in
    stand_same s p l m a.stands b.stands (omega arith)

append_same : (a : List ℕ) {b c : List ℕ} → a ++ b ≡ a ++ c → b ≡ c
append_same [] e = e
append_same (x ∷ a) {b} {c} e = append_same a (let z : a ++ b ≡ a ++ c = cc in z)

pub value_one : {s : List ℕ} {p : ℕ} (key : List ℕ) {v w : List ℕ} → LineAt s p (key ++ v) → LineAt s p (key ++ w) → v ≡ w
value_one key a b = append_same key (line_one a b)

module _ (s : List ℕ) where
  -- The rest of a line stands, and has no LF.
  rest : (n p : ℕ) → length s ≤ p + n → (starts s p (run_at in_line s p) ≡ true) × InLine (run_at in_line s p)
  rest zero p h = rw (run_past in_line s p (omega arith)) (starts_none s p, tt)
  rest (suc n) p h = go (dec_lt p (length s)) (rest n (p + 1) (omega arith))
    where
      go : Dec (p < length s) → (starts s (p + 1) (run_at in_line s (p + 1)) ≡ true) × InLine (run_at in_line s (p + 1)) → (starts s p (run_at in_line s p) ≡ true) × InLine (run_at in_line s p)
      go (no i) r = rw (run_past in_line s p (omega arith)) (starts_none s p, tt)
      go (yes i) r = on (in_line (peek s p)) refl
        where
          e : lib.ListN.get_or s p 0 ≡ peek s p
          e = peek_in s p i

          on : (b : Bool) → in_line (peek s p) ≡ b → (starts s p (run_at in_line s p) ≡ true) × InLine (run_at in_line s p)
          on true t = rw (run_more in_line s p i (rw e t), e) (starts_cons s p (peek s p) (run_at in_line s (p + 1)) refl r.0, (λ z. true≢false (sym t ∙ lf_ends (peek s p) z), r.1))
          on false t = rw (run_none in_line s p i (rw e t)) (starts_none s p, tt)

  -- Where a line ends.
  end_of : (u : ℕ) (v : List ℕ) → starts s u v ≡ true → InLine v → u + length v < length s → peek s (u + length v) ≡ byte "\n" → line_end s u ≡ u + length v
  end_of u [] h i l e =
      let m : u + 0 ≡ u = omega arith in
      let k : u < length s = omega arith in
      rw m (end_here in_line s u k (rw (peek_in s u k) (lf_ends (peek s u) (rw m at e))))
  end_of u (x ∷ v) h i l e =
      let m : u + suc (length v) ≡ u + 1 + length v = omega arith in
      let k : u < length s = omega arith in
      let t : in_line (peek s u) ≡ true = lf_not (peek s u) (λ z. i.0 (sym (starts_head s u x v h) ∙ z)) in
      end_more in_line s u k (rw (peek_in s u k) t) ∙ end_of (u + 1) v (starts_tail s u x v h) i.1 (omega arith) (rw m at e) ∙ sym m

not_lf : (b : ℕ) → in_line b ≡ false → b ≡ byte "\n"
unfolding in_line
not_lf b f = eqb-true b (byte "\n") (not-false (eqb b (byte "\n")) f)

-- A line with its key, or none.
pub data KeyedIs (s : List ℕ) (p : ℕ) (key : List ℕ) (form : ℕ) : Read ℕ → Type 0 where
  keyed : (v : List ℕ) → LineAt s p (key ++ v) → KeyedIs s p key form (got (p + length key) (p + length key + length v))
  unkeyed : ((v : List ℕ) → LineAt s p (key ++ v) → ⊥) → KeyedIs s p key form (refused form p)

-- Where the value of a line stands.
pub value_at_lem : {s : List ℕ} {p : ℕ} (key v : List ℕ) → LineAt s p (key ++ v) → LineAt s (p + length key) v
value_at_lem {s} {p} key v a =
    let n : p + length (key ++ v) ≡ p + length key + length v = omega (arith, length-append key v) in
    record {
      stands = (starts_parts s p key v a.stands).1;
      in_line_lem = (in_line_parts key v a.in_line_lem).1;
      inside = let l = a.inside in omega arith;
      ends = rw n at a.ends;
    }

pub keyed_at_lem : {s : List ℕ} {p : ℕ} (key v : List ℕ) → starts s p key ≡ true → InLine key → LineAt s (p + length key) v → LineAt s p (key ++ v)
keyed_at_lem {s} {p} key v h k a =
    let n : p + length (key ++ v) ≡ p + length key + length v = omega (arith, length-append key v) in
    record {
      stands = starts_then s p key v h a.stands;
      in_line_lem = in_line_then key v k a.in_line_lem;
      inside = let l = a.inside in omega arith;
      ends = rw n a.ends;
    }

module _ (s : List ℕ) (p : ℕ) (key : List ℕ) (form : ℕ) (in_key : InLine key) where
  pub line_is : KeyedIs s p key form (line s p key form)
  unfolding line run_end
  line_is = go (starts s p key) refl (ltb (line_end s (p + length key)) (length s)) refl
    where
      go : (a : Bool) → starts s p key ≡ a → (b : Bool) → ltb (line_end s (p + length key)) (length s) ≡ b → KeyedIs s p key form (line s p key form)
      go true i true j =
          let l = ltb-true (line_end s (p + length key)) (length s) j in
          let r = rest s (length s) (p + length key) (omega arith) in
          let e = not_lf (peek s (p + length key + length (run_at in_line s (p + length key)))) (end_stops in_line s (p + length key) l) in
          rw (i, j)
          (keyed (run_at in_line s (p + length key))
          (keyed_at_lem key (run_at in_line s (p + length key)) i in_key (record { stands = r.0; in_line_lem = r.1; inside = l; ends = e })))
      go true i false j = rw (i, j) (unkeyed (λ w a. late w (value_at_lem key w a) j))
        where
          late : (w : List ℕ) → LineAt s (p + length key) w → ltb (line_end s (p + length key)) (length s) ≡ false → ⊥
          late w a f =
              let e = end_of s (p + length key) w a.stands a.in_line_lem a.inside a.ends in
              true≢false (sym (lt-ltb (line_end s (p + length key)) (length s) (rw e a.inside)) ∙ f)
      go false i b j = rw i (unkeyed (λ w a. true≢false (sym (starts_parts s p key w a.stands).0 ∙ i)))

  -- So the description is the answer.
  pub keyed_reads : (v : List ℕ) → LineAt s p (key ++ v) → line s p key form ≡ got (p + length key) (p + length key + length v)
  keyed_reads v a = go line_is refl
    where
      go : {R : Read ℕ} → KeyedIs s p key form R → line s p key form ≡ R → line s p key form ≡ got (p + length key) (p + length key + length v)
      go (KeyedIs.keyed w b) e = e ∙ ap (λ z. got (p + length key) (p + length key + length z)) (value_one key b a)
      go (KeyedIs.unkeyed n) e = absurd (n v a)

  pub unkeyed_reads : ((v : List ℕ) → LineAt s p (key ++ v) → ⊥) → line s p key form ≡ refused form p
  unkeyed_reads n = go line_is refl
    where
      go : {R : Read ℕ} → KeyedIs s p key form R → line s p key form ≡ R → line s p key form ≡ refused form p
      go (KeyedIs.keyed w b) e = absurd (n w b)
      go (KeyedIs.unkeyed m) e = e

-- ---- numbers

-- The value v is a number, which is read with the line's end, or none.
pub data NumberIs (v : List ℕ) (e p form : ℕ) : Read ℕ → Type 0 where
  number : {x : ℕ} → Number v x → NumberIs v e p form (got x (e + 1))
  none : ((x : ℕ) → Number v x → ⊥) → NumberIs v e p form (refused form p)

-- A number's first byte.
number_first : {v : List ℕ} {x : ℕ} (s : List ℕ) (u : ℕ) → Number v x → starts s u v ≡ true → (peek s u ≡ byte "0") ⊎ (leading (peek s u) ≡ true)
number_first s u Number.nought e = inl (starts_head s u (byte "0") [] e)
number_first s u (Number.some {b} {w} h k l) e = inr (rw (starts_head s u b w e) h)

-- Where 0 stands first it is the whole number.
number_nought : {v : List ℕ} {x : ℕ} (s : List ℕ) (u : ℕ) → Number v x → starts s u v ≡ true → peek s u ≡ byte "0" → length v ≡ 1
number_nought s u Number.nought e z = refl
number_nought s u (Number.some {b} {w} h k l) e z = absurd (true≢false (sym h ∙ ap leading (sym (starts_head s u b w e) ∙ z)))

number_digits : {v : List ℕ} {x : ℕ} → Number v x → Each digit v × (length v ≤ 5)
number_digits Number.nought = ((refl, tt), omega arith)
number_digits (Number.some {b} h k l) = ((leading_digit b h, k), omega arith)

some_number : (s : List ℕ) (u : ℕ) (w : List ℕ) → DigitsAt s 5 u w → leading (peek s u) ≡ true → Number w (decimal 0 w)
some_number s u [] a h =
    let z : ⊥ = let l = a.longest (peek s u ∷ []) (leading_digit (peek s u) h, tt) (omega arith) (starts_one s u (peek s u) refl) in omega arith in
    absurd z
some_number s u (b ∷ w) a h =
    Number.some {w = w} (rw (starts_head s u b w a.stands) at h) a.each.1 (let l = a.short in omega arith)

module _ (s : List ℕ) (u p form : ℕ) (v : List ℕ) (a : LineAt s u v) where
  whole_number_lem : (w : List ℕ) (x : ℕ) → starts s u w ≡ true → Number w x → ((y : ℕ) → Number v y → length w ≡ length v) → NumberIs v (u + length v) p form (whole x (u + length w) (u + length v) form p)
  whole_number_lem w x h n k = go (eqb (u + length w) (u + length v)) refl
    where
      go : (b : Bool) → eqb (u + length w) (u + length v) ≡ b → NumberIs v (u + length v) p form (whole x (u + length w) (u + length v) form p)
      go true e =
          let i = eqb-true (u + length w) (u + length v) e in
          let j = stand_same s u w v h a.stands (omega arith) in
          rw e (number (subst (λ z. Number z x) j n))
      go false e = rw e (none (λ y m. eqb-false (u + length w) (u + length v) e (ap (λ z. u + z) (k y m))))

  pub number_is : NumberIs v (u + length v) p form (whole_number p form (u + length v) (Rattle.read_bytes.specs.Numbers.number s u))
  unfolding Rattle.read_bytes.specs.Numbers.number
  number_is = go (eqb (peek s u) (byte "0")) refl (leading (peek s u)) refl
    where
      go : (b : Bool) → eqb (peek s u) (byte "0") ≡ b → (c : Bool) → leading (peek s u) ≡ c → NumberIs v (u + length v) p form (whole_number p form (u + length v) (Rattle.read_bytes.specs.Numbers.number s u))
      go true e c f =
          let z = eqb-true (peek s u) (byte "0") e in
          rw e (whole_number_lem (bytes "0") 0 (starts_one s u (byte "0") z) Number.nought (λ y m. sym (number_nought s u m a.stands z)))
      go false e true f =
          let r = digits_reads s 5 u 0 in
          let w = r.text in
          rw (e, f, r.read) (whole_number_lem w (decimal 0 w) r.at.stands (some_number s u w r.at f) (λ y m. same w r.at m))
        where
          same : (w : List ℕ) → DigitsAt s 5 u w → {y : ℕ} → Number v y → length w ≡ length v
          same w d m =
              let k = number_digits m in
              let i = d.longest v k.0 k.1 a.stands in
              let j = stops s u w (length v) d.stands (each_in_line digit refl w d.each) a.ends in
              omega arith
      go false e false f = rw (e, f) (none (λ y m. ⊎_elim (λ z. true≢false (sym (eq-eqb (peek s u) (byte "0") z) ∙ e)) (λ z. true≢false (sym z ∙ f)) (number_first s u m a.stands)))

-- A value is one number.
pub number_one : {v : List ℕ} {x y : ℕ} → Number v x → Number v y → x ≡ y
unfolding decimal
number_one a b = numbered a ∙ sym (numbered b)
  where
    numbered : {v : List ℕ} {x : ℕ} → Number v x → x ≡ decimal 0 v
    numbered Number.nought = refl
    numbered (Number.some h k l) = refl

-- ---- names

-- The value v is a signal's name, whose place is answered, or none.
pub data NameIs (v : List ℕ) (u e content : ℕ) : Read ℕ → Type 0 where
  name : SignalName v → NameIs v u e content (got u (e + 1))
  none : (SignalName v → ⊥) → NameIs v u e content (refused content u)

module _ (s : List ℕ) (u content : ℕ) (v : List ℕ) (a : LineAt s u v) where
  -- A name that takes the value whole is the word there.
  pub same_word : SignalName v → spelling_at s u ≡ v
  unfolding name_byte
  same_word n =
      let i = word_longest s u v (word_each n.name.word) a.stands in
      let j = stops s u (spelling_at s u) (length v) (word_stands s u) (each_in_line name_byte refl (spelling_at s u) (word_run s u)) a.ends in
      stand_same s u (spelling_at s u) v (word_stands s u) a.stands (omega arith)

  name_reads : SignalName v → name_at s u ≡ Some (u + length v, end_number v)
  unfolding name_at run_end
  name_reads n =
      let z = same_word n in
      let since = word_not s u true (λ x. n.name.not_since (sym z ∙ x)) in
      let until = word_not s u false (λ x. n.name.not_until (sym z ∙ x)) in
      rw (word_first s u n.name.word a.stands, z, le-leb (length v) most_name_bytes n.short, since, until, n.ended)

  pub name_is : NameIs v u (u + length v) content (whole_name u content (u + length v) (name_at s u))
  unfolding run_end
  name_is = go (name_at s u) refl
    where
      is_name : {q : ℕ} {n : Option ℕ} → Named s u q n → length (spelling_at s u) ≡ length v → SignalName v
      is_name n e =
          let j = stand_same s u (spelling_at s u) v (word_stands s u) a.stands e in
          subst SignalName j
          (record {
            name = record { word = letter_word s u n.first; not_since = other_word s u true n.not_since; not_until = other_word s u false n.not_until };
            short = n.short;
            ended = n.ended;
          })

      go : (w : Option (ℕ × Option ℕ)) → name_at s u ≡ w → NameIs v u (u + length v) content (whole_name u content (u + length v) w)
      go (Some (q, x)) e = on (named s u e) (eqb q (u + length v)) refl
        where
          on : Named s u q x → (b : Bool) → eqb q (u + length v) ≡ b → NameIs v u (u + length v) content (whole u q (u + length v) content u)
          on n true f =
              let i = eqb-true q (u + length v) f in
              let k = n.ends in
              rw f (name (is_name n (omega arith)))
          on n false f =
              rw f
              (none
              (λ m.
              let k = n.ends in
              let l = ap length (same_word m) in
              eqb-false q (u + length v) f (omega arith)))
      go None e = none (λ m. none_not (sym e ∙ name_reads m))
