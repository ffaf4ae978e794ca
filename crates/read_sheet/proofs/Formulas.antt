-- What is read as a formula: its names are declared ones, its intervals lie in -63 to 63, and every place stays in the text.
-- Assumes that of the place where reading starts.
use mathlib.Core.Path.{◌≡◌, refl}
use mathlib.Core.Bool.{Bool, true, false, and-eq-true_iff}
use mathlib.Core.List.{List}
use mathlib.Core.Option.{Option, none, some}
use Prim.Native.Nat.{ℕ, zero, suc, ◌+◌, ◌≤◌, ◌<◌}
use native.Mathlib.Omega.{arith}
use borrow.Author.Tests.{ltb-true}
use lib.Dec.{ltb, eqb}
use lib.ListN.{length}
use Rattle.spec_limits.specs.Limits.{most_offset, most_open}
use Rattle.read_bytes.specs.declared.bytes.Class.{Class}
use Rattle.read_bytes.specs.declared.bytes.Class.TheVariants.{Letter, Digit, Sign, Bracket, Other}
use Rattle.read_bytes.specs.Read.{Read, and_then}
use Rattle.read_bytes.specs.Read.Read.{got, refused}
use Rattle.read_bytes.specs.Bytes.{byte, bytes, peek, pick, one_of, class_of, name_byte, starts, InLine}
use Rattle.read_names.specs.Spellings.{spelling_at, spelling_end, find_name, is_spelled}
use Rattle.read_bytes.proofs.Places.{inside_test}
use Rattle.read_bytes.proofs.Runs.{end_reach}
use Rattle.read_lines.proofs.Stays.{Stays, then_stays, pick_stays}
use Rattle.spec_tilco.specs.Formula.{Op, And, Or, Implies, Iff, Written, Named}
use Rattle.std.specs.Prelude.{Ok, Err}
use Rattle.read_interval.specs.Interval.{Offsets}
use Rattle.read_interval.specs.Interval.{interval}
use Rattle.read_parts.specs.FormulaText.{Reader, declared, offsets_then, times, timed_part, sign_text, repeats, more, level, formula, negated, then_paren, in_parens, second, arguments, since_until, name_or_keep, plain_part_by, plain_part_in, inside, plain_part, rule}
use Rattle.read_interval.proofs.Intervals.{Sound, interval_sound}
use Rattle.read_parts.proofs.Steps.{starts_inside, sign_inside}
use Rattle.read_sheet.specs.Sheet.{Near}

-- Each name is one of n, and each interval is near.
abbrev pub Fits : ℕ → Written → Type 0
Fits n w = Named n w × Near w

-- What is read in the text s fits, and the place that is given is in the text.
abbrev pub Good : ℕ → List ℕ → Read Written → Type 0
Good n s = Stays (Fits n) (length s)

-- So it is from every place on.
abbrev pub Reads : ℕ → List ℕ → Reader → Type 0
Reads n s P = (p : ℕ) → p ≤ length s → Good n s (P p)

-- The same of a reader that may be none.
abbrev pub ReadsIn : ℕ → List ℕ → Option Reader → Type 0
ReadsIn n s none = Unit {0}
ReadsIn n s (some P) = Reads n s P

module _ (n : ℕ) (s : List ℕ) where
  then_good : (R : Read Written) (K : Written → ℕ → Read Written) → Good n s R → ((f : Written) (q : ℕ) → Fits n f → q ≤ length s → Good n s (K f q)) → Good n s (and_then R K)
  then_good R K r k = then_stays (Fits n) (length s) (Fits n) R K r (λ f q e w l. k f q w l)

  pick_good : (b : Bool) (X Y : Read Written) → (b ≡ true → Good n s X) → Good n s Y → Good n s (pick b (λ _. X) Y)
  pick_good = pick_stays (Fits n) (length s)

  -- intervals
  offsets_stay : (p : ℕ) (x : Offsets) (K : ℕ → ℕ → ℕ → Read Written) → p ≤ length s → Sound s p x
      → ((first more q : ℕ) → 1 ≤ first → first + more ≤ most_offset → q ≤ length s → Good n s (K first more q)) → Good n s (offsets_then x K)
  offsets_stay p (Ok (first, more, q)) K h y f = f first more q y.1 y.2 y.0.inside
  offsets_stay p (Err r) K h y f = y.1 h

  times_stay : (k : ℕ) (f : Written) (p : ℕ) → Fits n f → p ≤ length s → Good n s (times s k f p)
  unfolding times
  times_stay zero f p w h = (w, h)
  times_stay (suc k) f p w h =
      let u : Bool = eqb (peek s p) (byte "@") in
      pick_good (one_of (peek s p) (bytes "@?")) (offsets_then (interval s (p + 1)) (λ first more q. times s k (Written.time u first more f) q)) (got f p)
      (λ e.
      let i = inside_test s p (λ b. one_of b (bytes "@?")) refl e in
      offsets_stay (p + 1) (interval s (p + 1)) (λ first more q. times s k (Written.time u first more f) q) (omega arith) (interval_sound s (p + 1))
      (λ first more q a b l. times_stay k (Written.time u first more f) q (w.0, ((a, b), w.1)) l))
      (w, h)

  timed_reads : (P : Reader) → Reads n s P → Reads n s (timed_part P s)
  unfolding timed_part
  timed_reads P r p h =
      then_good (P p) (λ f q. times s (length s) f q) (r p h) (λ f q w l. times_stay (length s) f q w l)

  -- the levels
  more_stay : (o : Op) (P : Reader) → Reads n s P → (k : ℕ) (f : Written) (p : ℕ) → Fits n f → p ≤ length s → Good n s (more o P s k f p)
  unfolding more
  more_stay o P r zero f p w h = (w, h)
  more_stay o P r (suc k) f p w h =
      pick_good (starts s p (sign_text o))
      (and_then (P (p + length (sign_text o))) (λ g q. pick (repeats o) (λ _. more o P s k (Written.pair o f g) q) (got (Written.pair o f g) q))) (got f p)
      (λ e.
      then_good (P (p + length (sign_text o))) _ (r (p + length (sign_text o)) (sign_inside o s p h e))
      (λ g q v l.
      pick_good (repeats o) (more o P s k (Written.pair o f g) q) (got (Written.pair o f g) q)
      (λ _. more_stay o P r k (Written.pair o f g) q ((w.0, v.0), (w.1, v.1)) l) (((w.0, v.0), (w.1, v.1)), l)))
      (w, h)

  level_reads : (o : Op) (P : Reader) → Reads n s P → Reads n s (level o P s)
  unfolding level
  level_reads o P r p h =
      then_good (P p) (λ f q. more o P s (length s) f q) (r p h) (λ f q w l. more_stay o P r (length s) f q w l)

  formula_reads : (P : Reader) → Reads n s P → Reads n s (formula P s)
  formula_reads P r = level_reads Iff _ (level_reads Implies _ (level_reads Or _ (level_reads And _ (timed_reads P r))))

  -- what opens something
  negated_stays : (inner : Option Reader) → ReadsIn n s inner → (p : ℕ) → p < length s → Good n s (negated inner p)
  negated_stays none r p h = omega arith
  negated_stays (some P) r p h =
      then_good (P (p + 1)) (λ f q. got (Written.neg f) q) (r (p + 1) (omega arith)) (λ f q w l. (w, l))

  closed_stays : (R : Read Written) → Good n s R → Good n s (then_paren s R)
  closed_stays R r =
      then_good R (λ f q. pick (eqb (peek s q) (byte ")")) (λ _. got f (q + 1)) (refused 5 q)) r
      (λ f q w l.
      pick_good (eqb (peek s q) (byte ")")) (got f (q + 1)) (refused 5 q)
      (λ x. let i = inside_test s q (λ b. eqb b (byte ")")) refl x in (w, omega arith)) l)

  parens_stay : (inner : Option Reader) → ReadsIn n s inner → (p : ℕ) → p < length s → Good n s (in_parens inner s p)
  parens_stay none r p h = omega arith
  parens_stay (some P) r p h = closed_stays (formula P s (p + 1)) (formula_reads P r (p + 1) (omega arith))

  second_stays : (b : Bool) (F : Reader) → Reads n s F → (f : Written) → Fits n f → (p : ℕ) → p ≤ length s → Good n s (second b F s f p)
  unfolding second
  second_stays b F r f w p h =
      pick_good (eqb (peek s p) (byte ",")) (then_paren s (and_then (F (p + 1)) (λ g q. got (Written.keep b f g) q))) (refused 5 p)
      (λ x.
      let i = inside_test s p (λ y. eqb y (byte ",")) refl x in
      closed_stays (and_then (F (p + 1)) (λ g q. got (Written.keep b f g) q))
      (then_good (F (p + 1)) (λ g q. got (Written.keep b f g) q) (r (p + 1) (omega arith)) (λ g q v l. (((w.0, v.0), (w.1, v.1)), l))))
      h

  arguments_stay : (inner : Option Reader) → ReadsIn n s inner → (b : Bool) (p : ℕ) → p < length s → Good n s (arguments inner b s p)
  arguments_stay none r b p h = omega arith
  arguments_stay (some P) r b p h =
      then_good (formula P s (p + 1)) (λ f q. second b (formula P s) s f q) (formula_reads P r (p + 1) (omega arith))
      (λ f q w l. second_stays b (formula P s) (formula_reads P r) f w q l)

  kept_stays : (inner : Option Reader) → ReadsIn n s inner → (b : Bool) (p : ℕ) → p ≤ length s → Good n s (since_until inner b s p)
  unfolding since_until
  kept_stays inner r b p h =
      pick_good (eqb (peek s p) (byte "(")) (arguments inner b s p) (refused 5 p)
      (λ x. arguments_stay inner r b p (inside_test s p (λ y. eqb y (byte "(")) refl x)) h

-- a plain part, and a rule
module _ (names : List (List ℕ)) (s : List ℕ) where
  declared_reads : Reads (length names) s (declared names s)
  unfolding declared
  declared_reads p h =
      let i : ℕ = find_name (spelling_at s p) names in
      pick_good (length names) s (ltb i (length names)) (got (Written.name i) (spelling_end s p)) (refused 6 p)
      (λ e. ((ltb-true i (length names) e, tt), (end_reach name_byte s p h).inside)) h

  word_inside : (w : List ℕ) → InLine w → (p : ℕ) → p ≤ length s → is_spelled s p w ≡ true → p + length w ≤ length s
  unfolding is_spelled
  word_inside w l p h e = starts_inside s p w l h ((and-eq-true_iff (starts s p w) _).0 e).0

  worded_reads : (inner : Option Reader) → ReadsIn (length names) s inner → Reads (length names) s (name_or_keep inner names s)
  unfolding name_or_keep
  worded_reads inner r p h =
      pick_good (length names) s (is_spelled s p (bytes "since")) (since_until inner true s (p + 5))
      (pick (is_spelled s p (bytes "until")) (λ _. since_until inner false s (p + 5)) (declared names s p))
      (λ x. kept_stays (length names) s inner r true (p + 5) (word_inside (bytes "since") (λ e. omega arith, (λ e. omega arith, (λ e. omega arith, (λ e. omega arith, (λ e. omega arith, tt))))) p h x))
      (pick_good (length names) s (is_spelled s p (bytes "until")) (since_until inner false s (p + 5)) (declared names s p)
      (λ x. kept_stays (length names) s inner r false (p + 5) (word_inside (bytes "until") (λ e. omega arith, (λ e. omega arith, (λ e. omega arith, (λ e. omega arith, (λ e. omega arith, tt))))) p h x))
      (declared_reads p h))

  plain_by : (k : Class) (inner : Option Reader) → ReadsIn (length names) s inner → Reads (length names) s (plain_part_by k inner names s)
  plain_by Letter inner r p h = worded_reads inner r p h
  plain_by Digit inner r p h = h
  plain_by Sign inner r p h =
      pick_good (length names) s (eqb (peek s p) (byte "!")) (negated inner p) (refused 5 p)
      (λ x. negated_stays (length names) s inner r p (inside_test s p (λ y. eqb y (byte "!")) refl x)) h
  plain_by Bracket inner r p h =
      pick_good (length names) s (eqb (peek s p) (byte "(")) (in_parens inner s p) (refused 5 p)
      (λ x. parens_stay (length names) s inner r p (inside_test s p (λ y. eqb y (byte "(")) refl x)) h
  plain_by Other inner r p h = h

  plain_in_reads : (inner : Option Reader) → ReadsIn (length names) s inner → Reads (length names) s (plain_part_in inner names s)
  unfolding plain_part_in
  plain_in_reads inner r p h = plain_by (class_of (peek s p)) inner r p h

  inside_reads : (d : ℕ) → ReadsIn (length names) s (inside d names s)
  unfolding inside
  inside_reads zero = tt
  inside_reads (suc d) = plain_in_reads (inside d names s) (inside_reads d)

  -- Every rule: its names are declared, its intervals are near, and its places, a refusal's too, stay in the text.
  pub rule_reads : Reads (length names) s (rule names s)
  unfolding rule plain_part
  rule_reads p h =
      then_good (length names) s (formula (plain_part most_open names s) s p) (λ f q. pick (eqb q (length s)) (λ _. got f q) (refused 5 q))
      (formula_reads (length names) s (plain_part most_open names s) (plain_in_reads (inside most_open names s) (inside_reads most_open)) p h)
      (λ f q w l. pick_good (length names) s (eqb q (length s)) (got f q) (refused 5 q) (λ _. (w, l)) l)
