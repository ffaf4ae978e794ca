-- What stands before a rule's text changes only the places: in u ++ t, from the place length u + i on, is read what t has from i on, and the place
-- after it, or of its refusal, is length u later.
-- Assumes nothing.
use mathlib.Core.Path.{◌≡◌, refl}
use mathlib.Core.Bool.{Bool, true, false}
use mathlib.Core.List.{List, ◌++◌}
use mathlib.Core.Option as option
use mathlib.Core.Option.{Option}
use Prim.Native.Nat.{ℕ, zero, suc, ◌+◌, ◌≤◌, ◌<◌}
use native.Mathlib.Nat.{add_assoc}
use native.Mathlib.Omega.{arith}
use lib.Dec.{ltb, eqb}
use lib.ListN.{length, length-append}
use Rattle.spec_limits.specs.Limits.{most_open}
use Rattle.read_bytes.specs.declared.bytes.Class.{Class}
use Rattle.read_bytes.specs.declared.bytes.Class.TheVariants.{Letter, Digit, Sign, Bracket, Other}
use Rattle.read_bytes.specs.Read.{Read, and_then}
use Rattle.read_bytes.specs.Read.Read.{got, refused}
use Rattle.read_bytes.specs.Bytes.{byte, bytes, peek, pick, one_of, class_of, name_byte, starts, run_end}
use Rattle.read_names.specs.Spellings.{spelling_at, spelling_end, find_name, is_spelled}
use Rattle.read_bytes.proofs.Places.{peek_out}
use Rattle.read_bytes.proofs.Later.{later, eqb_later, peek_later, starts_later, run_at_later, run_end_later}
use Rattle.read_names.proofs.NamesLater.{is_word_later}
use Rattle.spec_tilco.specs.Formula.{Op, And, Or, Implies, Iff, Written}
use Rattle.std.specs.Prelude.{Ok, Err}
use Rattle.read_interval.specs.Interval.{Offsets, interval}
use Rattle.read_parts.specs.FormulaText.{Reader, declared, offsets_then, times, timed_part, sign_text, repeats, more, level, formula, negated, then_paren, in_parens, second, arguments, since_until, name_or_keep, plain_part_by, plain_part_in, inside, plain_part, rule}
use Rattle.read_interval.proofs.Intervals.{Sound, interval_sound}
use Rattle.read_parts.proofs.Steps.{sign_some, more_none, times_none}
use Rattle.read_interval.proofs.OffsetsLater.{later_offsets, interval_later}

-- The first answer is the second one d later, and what is read ends at i or after it.
data Moved (d i : ℕ) : Read Written → Read Written → Type 0 where
  reads : {f : Written} {q : ℕ} → i ≤ q → Moved d i (got f (d + q)) (got f q)
  refuses : {n p : ℕ} → Moved d i (refused n (d + p)) (refused n p)

-- So are the answers of two readers, from every place on, of which the first stands d later.
abbrev Shifts : ℕ → Reader → Reader → Type 0
Shifts d P P' = (i : ℕ) → Moved d i (P (d + i)) (P' i)

-- The same of readers that may be none.
data ShiftsIn (d : ℕ) : Option Reader → Option Reader → Type 0 where
  neither : ShiftsIn d option.none option.none
  both : {P P' : Reader} → Shifts d P P' → ShiftsIn d (option.some P) (option.some P')

-- ---- answers put together

moved_later : {d i : ℕ} {R R' : Read Written} → Moved d i R R' → R ≡ later d R'
moved_later (reads h) = refl
moved_later refuses = refl

module _ {d i : ℕ} where
  -- from an earlier place on
  earlier : {j : ℕ} {R R' : Read Written} → i ≤ j → Moved d j R R' → Moved d i R R'
  earlier h (reads {q = q} k) = reads {q = q} (omega arith)
  earlier h refuses = refuses

  -- what goes on
  then_moved : {R R' : Read Written} (K K' : Written → ℕ → Read Written) → Moved d i R R' → ((f : Written) (q : ℕ) → i ≤ q → Moved d i (K f (d + q)) (K' f q)) → Moved d i (and_then R K) (and_then R' K')
  then_moved K K' (reads {f} {q} h) k = k f q h
  then_moved K K' refuses k = refuses

  -- one of two
  pick_moved : (b : Bool) {X X' Y Y' : Read Written} → Moved d i X X' → Moved d i Y Y' → Moved d i (pick b (λ _. X) Y) (pick b (λ _. X') Y')
  pick_moved true h k = h
  pick_moved false h k = k

-- from k places further on
shifts_on : {d : ℕ} (P P' : Reader) → Shifts d P P' → (i k : ℕ) → Moved d (i + k) (P (d + i + k)) (P' (i + k))
shifts_on {d} P P' h i k = rw (add_assoc d i k) (h (i + k))

-- ---- the ends of the texts

-- No sign stands past the end.
no_time : (t : List ℕ) (i : ℕ) → length t ≤ i → one_of (peek t i) (bytes "@?") ≡ false
no_time t i h = rw (peek_out t i h)

no_sign : (o : Op) (t : List ℕ) (i : ℕ) → length t ≤ i → starts t i (sign_text o) ≡ false
unfolding starts
no_sign And t i h = rw (peek_out t i h)
no_sign Or t i h = rw (peek_out t i h)
no_sign Implies t i h = rw (peek_out t i h)
no_sign Iff t i h = rw (peek_out t i h)

-- A spelling ends where it starts or after that.
word_ahead : (t : List ℕ) (i : ℕ) → i ≤ spelling_end t i
unfolding run_end
word_ahead t i = omega arith

module _ (u t : List ℕ) where
  -- ---- timed parts

  offsets_moved : (i : ℕ) (S : Offsets) (K K' : ℕ → ℕ → ℕ → Read Written) → Sound t (i + 1) S → ((first more q : ℕ) → i < q → Moved (length u) i (K first more (length u + q)) (K' first more q))
      → Moved (length u) i (offsets_then (later_offsets (length u) S) K) (offsets_then S K')
  offsets_moved i (Ok (first, more, q)) K K' h k = k first more q (omega (arith, h.0.ahead))
  offsets_moved i (Err r) K K' h k = refuses

  times_stop : (n m : ℕ) (f : Written) (i : ℕ) → length t ≤ i → Moved (length u) i (times (u ++ t) n f (length u + i)) (times t m f i)
  times_stop n m f i h =
      let e = no_time t i h in
      rw (times_none (u ++ t) n f (length u + i) (rw (peek_later u t i) e), times_none t m f i e) (reads {q = i} (omega arith))

  -- Both fuels are enough: each round takes a byte at least.
  times_moved : (n m : ℕ) (f : Written) (i : ℕ) → length t ≤ i + n → length t ≤ i + m → Moved (length u) i (times (u ++ t) n f (length u + i)) (times t m f i)
  unfolding times
  times_moved zero m f i h k = times_stop zero m f i (omega arith)
  times_moved (suc n) zero f i h k = times_stop (suc n) zero f i (omega arith)
  times_moved (suc n) (suc m) f i h k =
      rw (add_assoc (length u) i 1, peek_later u t i, interval_later u t (i + 1))
      (pick_moved (one_of (peek t i) (bytes "@?"))
      (offsets_moved i (interval t (i + 1)) _ _ (interval_sound t (i + 1))
      (λ first more q j. earlier (omega arith) (times_moved n m (Written.time (eqb (peek t i) (byte "@")) first more f) q (omega arith) (omega arith))))
      (reads {q = i} (omega arith)))

  timed_shifts : (P P' : Reader) → Shifts (length u) P P' → Shifts (length u) (timed_part P (u ++ t)) (timed_part P' t)
  unfolding timed_part
  timed_shifts P P' h i =
      let l = length-append u t in
      then_moved (λ f q. times (u ++ t) (length (u ++ t)) f q) (λ f q. times t (length t) f q) (h i)
      (λ f q k. earlier k (times_moved (length (u ++ t)) (length t) f q (omega arith) (omega arith)))

  -- ---- the levels

  more_stop : (o : Op) (P P' : Reader) (n m : ℕ) (f : Written) (i : ℕ) → length t ≤ i → Moved (length u) i (more o P (u ++ t) n f (length u + i)) (more o P' t m f i)
  more_stop o P P' n m f i h =
      let e = no_sign o t i h in
      rw (more_none o P (u ++ t) n f (length u + i) (rw (starts_later u t i (sign_text o)) e), more_none o P' t m f i e) (reads {q = i} (omega arith))

  -- Both fuels are enough again.
  more_moved : (o : Op) (P P' : Reader) → Shifts (length u) P P' → (n m : ℕ) (f : Written) (i : ℕ) → length t ≤ i + n → length t ≤ i + m
      → Moved (length u) i (more o P (u ++ t) n f (length u + i)) (more o P' t m f i)
  unfolding more
  more_moved o P P' r zero m f i h k = more_stop o P P' zero m f i (omega arith)
  more_moved o P P' r (suc n) zero f i h k = more_stop o P P' (suc n) zero f i (omega arith)
  more_moved o P P' r (suc n) (suc m) f i h k =
      let l = sign_some o in
      rw (starts_later u t i (sign_text o))
      (pick_moved (starts t i (sign_text o))
      (earlier (omega arith)
      (then_moved _ _ (shifts_on P P' r i (length (sign_text o)))
      (λ g q j.
      pick_moved (repeats o)
      (earlier j (more_moved o P P' r n m (Written.pair o f g) q (omega arith) (omega arith))) (reads {q = q} j))))
      (reads {q = i} (omega arith)))

  level_shifts : (o : Op) (P P' : Reader) → Shifts (length u) P P' → Shifts (length u) (level o P (u ++ t)) (level o P' t)
  unfolding level
  level_shifts o P P' r i =
      let l = length-append u t in
      then_moved (λ f q. more o P (u ++ t) (length (u ++ t)) f q) (λ f q. more o P' t (length t) f q) (r i)
      (λ f q k. earlier k (more_moved o P P' r (length (u ++ t)) (length t) f q (omega arith) (omega arith)))

  formula_shifts : (P P' : Reader) → Shifts (length u) P P' → Shifts (length u) (formula P (u ++ t)) (formula P' t)
  formula_shifts P P' r = level_shifts Iff _ _ (level_shifts Implies _ _ (level_shifts Or _ _ (level_shifts And _ _ (timed_shifts P P' r))))

  -- ---- what opens something

  closed_moved : (i : ℕ) {R R' : Read Written} → Moved (length u) i R R' → Moved (length u) i (then_paren (u ++ t) R) (then_paren t R')
  closed_moved i r =
      then_moved _ _ r
      (λ f q j.
      rw (add_assoc (length u) q 1, peek_later u t q)
      (pick_moved (eqb (peek t q) (byte ")")) (reads {q = q + 1} (omega arith)) refuses))

  negated_shifts : (I I' : Option Reader) → ShiftsIn (length u) I I' → Shifts (length u) (negated I) (negated I')
  negated_shifts _ _ neither i = refuses
  negated_shifts _ _ (both {P} {P'} r) i =
      earlier (omega arith) (then_moved _ _ (shifts_on P P' r i 1) (λ f q j. reads {q = q} j))

  parens_shift : (I I' : Option Reader) → ShiftsIn (length u) I I' → Shifts (length u) (in_parens I (u ++ t)) (in_parens I' t)
  parens_shift _ _ neither i = refuses
  parens_shift _ _ (both {P} {P'} r) i =
      earlier (omega arith) (closed_moved (i + 1) (shifts_on (formula P (u ++ t)) (formula P' t) (formula_shifts P P' r) i 1))

  second_shifts : (b : Bool) (F F' : Reader) → Shifts (length u) F F' → (f : Written) → Shifts (length u) (second b F (u ++ t) f) (second b F' t f)
  unfolding second
  second_shifts b F F' r f i =
      rw (peek_later u t i)
      (pick_moved (eqb (peek t i) (byte ","))
      (earlier (omega arith) (closed_moved (i + 1) (then_moved _ _ (shifts_on F F' r i 1) (λ g q j. reads {q = q} j)))) refuses)

  arguments_shift : (I I' : Option Reader) → ShiftsIn (length u) I I' → (b : Bool) → Shifts (length u) (arguments I b (u ++ t)) (arguments I' b t)
  arguments_shift _ _ neither b i = refuses
  arguments_shift _ _ (both {P} {P'} r) b i =
      let F = formula_shifts P P' r in
      earlier (omega arith)
      (then_moved _ _ (shifts_on (formula P (u ++ t)) (formula P' t) F i 1)
      (λ f q j. earlier j (second_shifts b (formula P (u ++ t)) (formula P' t) F f q)))

  kept_shifts : (I I' : Option Reader) → ShiftsIn (length u) I I' → (b : Bool) → Shifts (length u) (since_until I b (u ++ t)) (since_until I' b t)
  unfolding since_until
  kept_shifts I I' r b i =
      rw (peek_later u t i)
      (pick_moved (eqb (peek t i) (byte "(")) (arguments_shift I I' r b i) refuses)

  -- ---- a plain part, and a rule

  module _ (names : List (List ℕ)) where
    declared_shifts : Shifts (length u) (declared names (u ++ t)) (declared names t)
    unfolding declared
    declared_shifts i =
        rw (run_at_later u t i name_byte, run_end_later u t i name_byte)
        (pick_moved (ltb (find_name (spelling_at t i) names) (length names)) (reads {q = spelling_end t i} (word_ahead t i)) refuses)

    worded_shifts : (I I' : Option Reader) → ShiftsIn (length u) I I' → Shifts (length u) (name_or_keep I names (u ++ t)) (name_or_keep I' names t)
    unfolding name_or_keep
    worded_shifts I I' r i =
        rw (is_word_later u t i (bytes "since"), is_word_later u t i (bytes "until"))
        (pick_moved (is_spelled t i (bytes "since")) (word true)
        (pick_moved (is_spelled t i (bytes "until")) (word false) (declared_shifts i)))
      where
        word : (b : Bool) → Moved (length u) i (since_until I b (u ++ t) (length u + i + 5)) (since_until I' b t (i + 5))
        word b = earlier (omega arith) (shifts_on (since_until I b (u ++ t)) (since_until I' b t) (kept_shifts I I' r b) i 5)

    plain_by_shifts : (k : Class) (I I' : Option Reader) → ShiftsIn (length u) I I' → Shifts (length u) (plain_part_by k I names (u ++ t)) (plain_part_by k I' names t)
    plain_by_shifts Letter I I' r i = worded_shifts I I' r i
    plain_by_shifts Digit I I' r i = refuses
    plain_by_shifts Sign I I' r i =
        rw (peek_later u t i)
        (pick_moved (eqb (peek t i) (byte "!")) (negated_shifts I I' r i) refuses)
    plain_by_shifts Bracket I I' r i =
        rw (peek_later u t i)
        (pick_moved (eqb (peek t i) (byte "(")) (parens_shift I I' r i) refuses)
    plain_by_shifts Other I I' r i = refuses

    plain_in_shifts : (I I' : Option Reader) → ShiftsIn (length u) I I' → Shifts (length u) (plain_part_in I names (u ++ t)) (plain_part_in I' names t)
    unfolding plain_part_in
    plain_in_shifts I I' r i = rw (peek_later u t i) (plain_by_shifts (class_of (peek t i)) I I' r i)

    inside_shifts : (d : ℕ) → ShiftsIn (length u) (inside d names (u ++ t)) (inside d names t)
    unfolding inside
    inside_shifts zero = neither
    inside_shifts (suc d) = both (plain_in_shifts (inside d names (u ++ t)) (inside d names t) (inside_shifts d))

    rule_shifts : Shifts (length u) (rule names (u ++ t)) (rule names t)
    unfolding rule plain_part
    rule_shifts i =
        then_moved _ _ (formula_shifts (plain_part most_open names (u ++ t)) (plain_part most_open names t) (plain_in_shifts (inside most_open names (u ++ t)) (inside most_open names t) (inside_shifts most_open)) i)
        (λ f q j.
        rw (length-append u t, eqb_later (length u) q (length t))
        (pick_moved (eqb q (length t)) (reads {q = q} j) refuses))

    -- A rule that stands later in a text is read as it is by itself.
    pub rule_later : (i : ℕ) → rule names (u ++ t) (length u + i) ≡ later (length u) (rule names t i)
    rule_later i = moved_later (rule_shifts i)
