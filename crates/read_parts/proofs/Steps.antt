-- What the grammar's definitions say, case by case.
-- Assumes nothing.
use mathlib.Core.Path.{◌≡◌, refl, sym, ap, ◌∙◌}
use mathlib.Core.Bool.{Bool, true, false, and-eq-true_iff}
use mathlib.Core.List.{List, [], ◌∷◌}
use mathlib.Core.Option.{Option, some}
use Prim.Native.Nat.{ℕ, zero, suc, ◌+◌, ◌-◌, ◌*◌, ◌<◌, ◌≤◌}
use native.Mathlib.Omega.{arith}
use borrow.Author.Tests.{eq-eqb, ne_eqb, eqb-true, lt-ltb, le-ltb}
use lib.Dec.{eqb, ltb}
use lib.ListN.{length}
use Rattle.spec_limits.specs.Limits.{most_offset}
use Rattle.read_bytes.specs.declared.bytes.Class.{Class}
use Rattle.read_bytes.specs.declared.bytes.Class.TheVariants as class
use Rattle.read_bytes.specs.declared.bytes.Class.TheVariants.{Letter, Digit, Bracket, Other}
use Rattle.read_bytes.specs.Read.{and_then}
use Rattle.read_bytes.specs.Read.Read.{got, refused}
use Rattle.read_bytes.specs.Bytes.{byte, bytes, peek, pick, letter, one_of, class_of, starts, name_byte, InLine}
use Rattle.read_names.specs.Spellings.{spelling_at, spelling_end, find_name, is_spelled}
use Rattle.read_index.specs.declared.Found.{Found}
use Rattle.read_index.specs.Index.{name_count, names_in, IndexOf}
use Rattle.read_index.specs.Finds.{Finds}
use Rattle.read_bytes.proofs.Places.{inside as inside-at, Reach}
use Rattle.read_bytes.proofs.Classes.{class_letter}
use Rattle.read_names.proofs.Spelling.{word_ahead}
use Rattle.read_names.proofs.Names.{named}
use Rattle.read_index.proofs.NameTexts.{text_name}
use Rattle.read_index.proofs.Places.{names_in_many}
use Rattle.read_index.proofs.Looking.{found_text}
use Rattle.spec_tilco.specs.Formula.{Op, And, Or, Implies, Iff, Written}
use Rattle.std.specs.Prelude.{Ok}
use Rattle.read_interval.specs.Interval.{interval}
use Rattle.read_interval.proofs.Intervals.{interval_reach}
use Rattle.read_parts.specs.FormulaText.{Reader, declared, offsets_then, times, sign_text, repeats, more, formula, negated, then_paren, in_parens, second, since_until, name_or_keep, plain_part_in, inside, plain_part}

-- ---- signs

-- Such bytes stand inside the text.
pub starts_inside : (s : List ℕ) (p : ℕ) (w : List ℕ) → InLine w → p ≤ length s → starts s p w ≡ true → p + length w ≤ length s
unfolding starts
starts_inside s p [] n h e = omega arith
starts_inside s p (x ∷ w) n h e =
    let both = (and-eq-true_iff (eqb x (peek s p)) (starts s (p + 1) w)).0 e in
    let l : p < length s = inside-at s p (λ z. n.0 (eqb-true x (peek s p) both.0 ∙ z)) in
    omega (arith, starts_inside s (p + 1) w n.1 (omega arith) both.1)

sign_in_line : (o : Op) → InLine (sign_text o)
sign_in_line And = (λ e. omega arith, tt)
sign_in_line Or = (λ e. omega arith, tt)
sign_in_line Implies = (λ e. omega arith, (λ e. omega arith, tt))
sign_in_line Iff = (λ e. omega arith, (λ e. omega arith, (λ e. omega arith, tt)))

pub sign_inside : (o : Op) (s : List ℕ) (p : ℕ) → p ≤ length s → starts s p (sign_text o) ≡ true → p + length (sign_text o) ≤ length s
sign_inside o s p = starts_inside s p (sign_text o) (sign_in_line o)

pub sign_some : (o : Op) → 1 ≤ length (sign_text o)
sign_some And = omega arith
sign_some Or = omega arith
sign_some Implies = omega arith
sign_some Iff = omega arith

-- The sign does not follow.
pub more_none : (o : Op) (P : Reader) (s : List ℕ) (n : ℕ) (f : Written) (p : ℕ) → starts s p (sign_text o) ≡ false → more o P s n f p ≡ got f p
unfolding more
more_none o P s zero f p e = refl
more_none o P s (suc n) f p e = rw e

-- What stands after one sign and its part.
abbrev pub onward : Op → Reader → List ℕ → ℕ → Written → Reader
onward o P s n f q = pick (repeats o) (λ _. more o P s n f q) (got f q)

-- The sign follows, and n is enough.
pub more_one : (o : Op) (P : Reader) (s : List ℕ) (n : ℕ) (f : Written) (p : ℕ) → starts s p (sign_text o) ≡ true → p < length s → length s ≤ p + n
    → more o P s n f p ≡ and_then (P (p + length (sign_text o))) (λ g q. onward o P s (n - 1) (Written.pair o f g) q)
unfolding more
more_one o P s zero f p e h l = absurd (omega arith)
more_one o P s (suc n) f p e h l = let back : suc n - 1 ≡ n = omega arith in rw (e, back)

-- ---- intervals

-- The offsets of the interval after it.
pub timed_offsets : (s : List ℕ) (p : ℕ) {first more q : ℕ} → Ok (first, more, q) ≡ interval s (p + 1) → (interval s (p + 1) ≡ Ok (first, more, q)) × (p + 1 < q) × (q ≤ length s) × (1 ≤ first) × (first + more ≤ most_offset)
timed_offsets s p e =
    let w = interval_reach s (p + 1) (sym e) in
    (sym e, omega (arith, w.0.ahead), w.0.inside, w.1, w.2)

pub times_none : (s : List ℕ) (n : ℕ) (f : Written) (p : ℕ) → one_of (peek s p) (bytes "@?") ≡ false → times s n f p ≡ got f p
unfolding times
times_none s zero f p e = refl
times_none s (suc n) f p e = rw e

pub times_one : (s : List ℕ) (n : ℕ) (f : Written) (p : ℕ) → one_of (peek s p) (bytes "@?") ≡ true → p < length s → length s ≤ p + n
    → times s n f p ≡ offsets_then (interval s (p + 1)) (λ first more q. times s (n - 1) (Written.time (eqb (peek s p) (byte "@")) first more f) q)
unfolding times
times_one s zero f p e h l = absurd (omega arith)
times_one s (suc n) f p e h l = let back : suc n - 1 ≡ n = omega arith in rw (e, back)

-- ---- what is inside

module _ (names : List (List ℕ)) (s : List ℕ) where
  inside_some : (d : ℕ) → (d ≡ 0 → ⊥) → inside d names s ≡ some (plain_part (d - 1) names s)
  unfolding inside plain_part
  inside_some zero e = absurd (e refl)
  inside_some (suc d) e = let back : suc d - 1 ≡ d = omega arith in rw back

  -- Nothing more may be opened, or something may.
  module _ (d p : ℕ) where
    pub deny_full : d ≡ 0 → negated (inside d names s) p ≡ refused 8 p
    unfolding inside
    deny_full e = rw e

    pub deny_on : (d ≡ 0 → ⊥) → negated (inside d names s) p ≡ and_then (plain_part (d - 1) names s (p + 1)) (λ f q. got (Written.neg f) q)
    deny_on e = rw (inside_some d e)

    pub paren_full : d ≡ 0 → in_parens (inside d names s) s p ≡ refused 8 p
    unfolding inside
    paren_full e = rw e

    pub paren_on : (d ≡ 0 → ⊥) → in_parens (inside d names s) s p ≡ then_paren s (formula (plain_part (d - 1) names s) s (p + 1))
    paren_on e = rw (inside_some d e)

    module _ (b : Bool) (k : peek s p ≡ byte "(") where
      pub keep_full : d ≡ 0 → since_until (inside d names s) b s p ≡ refused 8 p
      unfolding inside since_until
      keep_full e = rw (eq-eqb (peek s p) (byte "(") k) (rw e)

      pub keep_on : (d ≡ 0 → ⊥) → since_until (inside d names s) b s p ≡ and_then (formula (plain_part (d - 1) names s) s (p + 1)) (λ f q. second b (formula (plain_part (d - 1) names s) s) s f q)
      unfolding since_until
      keep_on e = rw (eq-eqb (peek s p) (byte "(") k) (rw (inside_some d e))

-- ---- a plain part, by the class of its first byte

module _ (d : ℕ) (names : List (List ℕ)) (s : List ℕ) (p : ℕ) where
  abbrev inner : Option Reader
  inner = inside d names s

  pub plain_letter : class_of (peek s p) ≡ Letter → plain_part d names s p ≡ name_or_keep inner names s p
  unfolding plain_part plain_part_in
  plain_letter k = rw k

  pub plain_digit : class_of (peek s p) ≡ Digit → plain_part d names s p ≡ refused 5 p
  unfolding plain_part plain_part_in
  plain_digit k = rw k

  pub plain_other : class_of (peek s p) ≡ Other → plain_part d names s p ≡ refused 5 p
  unfolding plain_part plain_part_in
  plain_other k = rw k

  pub plain_deny : class_of (peek s p) ≡ class.Sign → peek s p ≡ byte "!" → plain_part d names s p ≡ negated inner p
  unfolding plain_part plain_part_in
  plain_deny k e = rw (k, eq-eqb (peek s p) (byte "!") e)

  pub plain_sign : class_of (peek s p) ≡ class.Sign → (peek s p ≡ byte "!" → ⊥) → plain_part d names s p ≡ refused 5 p
  unfolding plain_part plain_part_in
  plain_sign k e = rw (k, ne_eqb (peek s p) (byte "!") e)

  pub plain_paren : class_of (peek s p) ≡ Bracket → peek s p ≡ byte "(" → plain_part d names s p ≡ in_parens inner s p
  unfolding plain_part plain_part_in
  plain_paren k e = rw (k, eq-eqb (peek s p) (byte "(") e)

  pub plain_bracket : class_of (peek s p) ≡ Bracket → (peek s p ≡ byte "(" → ⊥) → plain_part d names s p ≡ refused 5 p
  unfolding plain_part plain_part_in
  plain_bracket k e = rw (k, ne_eqb (peek s p) (byte "(") e)

-- The class of a byte that was read.
pub class_told : (s : List ℕ) (p : ℕ) {b : ℕ} {k c : Class} → b ≡ peek s p → k ≡ class_of b → k ≡ c → class_of (peek s p) ≡ c
class_told s p e f g = ap class_of (sym e) ∙ sym f ∙ g

-- A byte other than LF stands inside the text.
pub byte_inside : (s : List ℕ) (p : ℕ) {b : ℕ} (x : ℕ) → b ≡ peek s p → b ≡ x → (x ≡ byte "\n" → ⊥) → p < length s
byte_inside s p x e f n = inside-at s p (λ z. n (sym f ∙ e ∙ z))

-- ---- a spelling

pub word_inside : (s : List ℕ) (p : ℕ) (w : List ℕ) → InLine w → p ≤ length s → is_spelled s p w ≡ true → p + length w ≤ length s
unfolding is_spelled
word_inside s p w n h e = starts_inside s p w n h ((and-eq-true_iff (starts s p w) _).0 e).0

pub since_inside : (s : List ℕ) (p : ℕ) {r : Bool} → p ≤ length s → r ≡ is_spelled s p (bytes "since") → r ≡ true → p + 5 ≤ length s
since_inside s p h e k = word_inside s p (bytes "since") (λ z. omega arith, (λ z. omega arith, (λ z. omega arith, (λ z. omega arith, (λ z. omega arith, tt))))) h (sym e ∙ k)

pub until_inside : (s : List ℕ) (p : ℕ) {r : Bool} → p ≤ length s → r ≡ is_spelled s p (bytes "until") → r ≡ true → p + 5 ≤ length s
until_inside s p h e k = word_inside s p (bytes "until") (λ z. omega arith, (λ z. omega arith, (λ z. omega arith, (λ z. omega arith, (λ z. omega arith, tt))))) h (sym e ∙ k)

module _ (d : ℕ) (names : List (List ℕ)) (s : List ℕ) (p : ℕ) where
  pub word_since : is_spelled s p (bytes "since") ≡ true → name_or_keep (inside d names s) names s p ≡ since_until (inside d names s) true s (p + 5)
  unfolding name_or_keep
  word_since e = rw e

  pub word_until : is_spelled s p (bytes "since") ≡ false → is_spelled s p (bytes "until") ≡ true → name_or_keep (inside d names s) names s p ≡ since_until (inside d names s) false s (p + 5)
  unfolding name_or_keep
  word_until e k = rw (e, k)

  pub word_name : is_spelled s p (bytes "since") ≡ false → is_spelled s p (bytes "until") ≡ false → name_or_keep (inside d names s) names s p ≡ declared names s p
  unfolding name_or_keep
  word_name e k = rw (e, k)

-- A letter starts a spelling.
pub spelled_ahead : (s : List ℕ) (p : ℕ) → letter (peek s p) ≡ true → Reach s (p + 1) (spelling_end s p)
unfolding name_byte
spelled_ahead s p e = word_ahead s p (rw e)

pub letter_ahead : (s : List ℕ) (p : ℕ) → class_of (peek s p) ≡ Letter → Reach s (p + 1) (spelling_end s p)
letter_ahead s p e = spelled_ahead s p ((class_letter (peek s p)).0 e)

-- Names that are looked up in an index.
module _ (s T : List ℕ) (p i : ℕ) (e : i ≡ find_name (spelling_at s p) (names_in s T)) where
  pub name_found : {q : ℕ} → i < name_count T → q ≡ spelling_end s p → declared (names_in s T) s p ≡ got (Written.name i) q
  unfolding declared
  name_found h k =
      let l : ltb (find_name (spelling_at s p) (names_in s T)) (length (names_in s T)) ≡ true = lt-ltb (find_name (spelling_at s p) (names_in s T)) (length (names_in s T)) (omega (arith, names_in_many s T)) in
      rw (l, e, k)

  pub name_unknown : name_count T ≤ i → declared (names_in s T) s p ≡ refused 6 p
  unfolding declared
  name_unknown h =
      let l : ltb (find_name (spelling_at s p) (names_in s T)) (length (names_in s T)) ≡ false = le-ltb (find_name (spelling_at s p) (names_in s T)) (length (names_in s T)) (omega (arith, names_in_many s T)) in
      rw l

-- What is found at a letter is a name, and so neither since nor until.
pub plain_found : (d : ℕ) (s T : List ℕ) (p : ℕ) {f : Found} → IndexOf s T → letter (peek s p) ≡ true → Finds (names_in s T) s p f → f.signal < name_count T
    → plain_part d (names_in s T) s p ≡ got (Written.name f.signal) f.end
plain_found d s T p {f} x k e h =
    let n = named s p (text_name s p (found_text x e (omega (arith, names_in_many s T)))) in
    plain_letter d (names_in s T) s p ((class_letter (peek s p)).1 k) ∙ word_name d (names_in s T) s p n.not_since n.not_until ∙ name_found s T p f.signal e.found h e.ends

-- ---- since and until

pub kept_none : (inner : Option Reader) (b : Bool) (s : List ℕ) (p : ℕ) → (peek s p ≡ byte "(" → ⊥) → since_until inner b s p ≡ refused 5 p
unfolding since_until
kept_none inner b s p e = rw (ne_eqb (peek s p) (byte "(") e)

module _ (b : Bool) (F : Reader) (s : List ℕ) (f : Written) (p : ℕ) where
  pub second_none : (peek s p ≡ byte "," → ⊥) → second b F s f p ≡ refused 5 p
  unfolding second
  second_none e = rw (ne_eqb (peek s p) (byte ",") e)

  pub second_some : peek s p ≡ byte "," → second b F s f p ≡ then_paren s (and_then (F (p + 1)) (λ g q. got (Written.keep b f g) q))
  unfolding second
  second_some e = rw (eq-eqb (peek s p) (byte ",") e)

-- ---- why it ends

-- What is left of the text, with room for the heights of the levels.
abbrev pub remaining : List ℕ → ℕ → ℕ
remaining s p = 16 * (length s - p)
