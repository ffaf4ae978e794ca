-- Whatever is read, a sheet, readings or a dump, is read or refused by a number from 1 to 23.
-- Assumes nothing.
use mathlib.Core.Bool.{Bool, true, false, ◌&&◌, ◌||◌}
use mathlib.Core.List.{List, [], ◌∷◌, ◌++◌}
use mathlib.Core.Option as maybe
use Prim.Native.Nat.{ℕ, zero, suc, ◌+◌, ◌-◌}
use lib.Dec.{T, ltb, leb, eqb}
use lib.ListN.{length, take}
use Rattle.std.specs.Prelude.{Option as Maybe, Some, None, Ok, Err}
use Rattle.spec_refusals.specs.declared.Fault.TheVariants.{Formula, Interval}
use Rattle.spec_refusals.specs.Numbers.{fault_number}
use Rattle.spec_limits.specs.Limits.{most_bytes, most_ticks, most_signals, most_rules, most_rule_bytes, most_open}
use Rattle.read_bytes.specs.declared.bytes.Class.{Class}
use Rattle.read_bytes.specs.declared.bytes.Class.TheVariants.{Letter, Digit, Sign, Bracket, Other}
use Rattle.read_bytes.specs.Read.{Read, and_then}
use Rattle.read_bytes.specs.Read.Read.{got, refused}
use Rattle.read_bytes.specs.Bytes.{byte, bytes, peek, pick, between, one_of, class_of, starts}
use Rattle.read_names.specs.Spellings.{spelling_at, spelling_end, names_at, find_name, is_spelled, name_at}
use Rattle.read_bytes.specs.Numbers.{number}
use Rattle.read_lines.specs.Lines.{line_end, keyed_at, line, whole_number, whole_name, number_line, ranged_line, name_line, in_turn, up_to}
use Rattle.spec_tilco.specs.Formula.{Op, And, Or, Implies, Iff, Written}
use Rattle.read_interval.specs.Interval.{Offsets, refusing, end_at, end_then, end_after_lem, near, left_out, offsets_of, close_at, comma_at, interval}
use Rattle.read_parts.specs.FormulaText.{Reader, declared, offsets_then, times, timed_part, sign_text, repeats, more, level, formula, negated, then_paren, in_parens, second, arguments, since_until, name_or_keep, plain_part_by, plain_part_in, inside, plain_part, rule}
use Rattle.read_head.specs.SheetHead.{signal_line, head_of, head}
use Rattle.read_sheet.specs.Sheet.{rule_to, rule_line, rules, contents, sheet_of}
use Rattle.read_reading.specs.Spans.{Span}
use Rattle.read_reading.specs.OneEntry.{known_line, tick_line, first_key, to_line, last_tick, entry}
use Rattle.read_readings.specs.Readings.{in_spans, entries, marked, readings}
use Rattle.spec_figures.specs.Texts.{placed_from, marks_from}
use Rattle.spec_dump.specs.DumpTexts.{time, sign, var_key}
use Rattle.spec_dump.specs.DumpLines.{one_of_texts, this_line, scales, units, timescale_line, var_form, var_name, named_var, var_line, var_lines, head_end, head_lines, sign_said, is_sign_line, sign_line, time_line, asked, event_at, time_after, signal_after, events_from, events}

-- Is n a refusal's number?
abbrev pub Listed : ℕ → Type 0
Listed n = T (between 1 23 n)

-- Something is read, or it is refused by a listed number.
abbrev pub Numbered : {A : Type 0} → Read A → Type 0
Numbered (got a q) = Unit {0}
Numbered (refused n p) = Listed n

then_numbered : {A B : Type 0} (R : Read B) (K : B → ℕ → Read A) → Numbered R → ((b : B) (q : ℕ) → Numbered (K b q)) → Numbered (and_then R K)
then_numbered (got b q) K h f = f b q
then_numbered (refused n p) K h f = h

pick_numbered : {A : Type 0} (b : Bool) (X Y : Read A) → Numbered X → Numbered Y → Numbered (pick b (λ _. X) Y)
pick_numbered true X Y x y = x
pick_numbered false X Y x y = y

turn_numbered : {A : Type 0} (P : List A → ℕ → Read A) → ((t : List A) (p : ℕ) → Numbered (P t p)) → (n : ℕ) (t : List A) (p : ℕ) → Numbered (in_turn P n t p)
unfolding in_turn
turn_numbered P part zero t p = tt
turn_numbered P part (suc n) t p =
    then_numbered (P t p) (λ a q. in_turn P n (t ++ (a ∷ [])) q) (part t p) (λ a q. turn_numbered P part n (t ++ (a ∷ [])) q)

up_numbered : {A : Type 0} (P : ℕ → Read A) (end : ℕ) → ((p : ℕ) → Numbered (P p)) → (m : ℕ) (t : List A) (p : ℕ) → Numbered (up_to P end m t p)
unfolding up_to
up_numbered P end part zero t p = tt
up_numbered P end part (suc m) t p =
    pick_numbered (ltb p end) (and_then (P p) (λ a q. up_to P end m (t ++ (a ∷ [])) q)) (got t p)
    (then_numbered (P p) (λ a q. up_to P end m (t ++ (a ∷ [])) q) (part p) (λ a q. up_numbered P end part m (t ++ (a ∷ [])) q)) tt

-- ---- lines

module _ (s : List ℕ) (p : ℕ) (key : List ℕ) (form : ℕ) (f : Listed form) where
  line_numbered : Numbered (line s p key form)
  unfolding line
  line_numbered =
      pick_numbered (starts s p key && ltb (line_end s (p + length key)) (length s)) (got (p + length key) (line_end s (p + length key))) (refused form p) tt f

  number_numbered : Numbered (number_line s p key form)
  unfolding number_line
  number_numbered = then_numbered (line s p key form) (λ v e. whole_number p form e (number s v)) line_numbered (λ v e. go e (number s v))
    where
      go : (e : ℕ) (x : Maybe (ℕ × ℕ)) → Numbered (whole_number p form e x)
      go e (Some (x, q)) = pick_numbered (eqb q e) (got x (e + 1)) (refused form p) tt f
      go e None = f

  ranged_numbered : (content lo hi : ℕ) → Listed content → Numbered (ranged_line s p key form content lo hi)
  unfolding ranged_line
  ranged_numbered content lo hi c =
      then_numbered (number_line s p key form) (λ x q. pick (between lo hi x) (λ _. got x q) (refused content (p + length key))) number_numbered
      (λ x q. pick_numbered (between lo hi x) (got x q) (refused content (p + length key)) tt c)

  name_numbered : (content : ℕ) → Listed content → Numbered (name_line s p key form content)
  unfolding name_line
  name_numbered content c = then_numbered (line s p key form) (λ v e. whole_name v content e (name_at s v)) line_numbered (λ v e. go v e (name_at s v))
    where
      go : (v e : ℕ) (x : Maybe (ℕ × Maybe ℕ)) → Numbered (whole_name v content e x)
      go v e (Some (q, n)) = pick_numbered (eqb q e) (got v (e + 1)) (refused content v) tt c
      go v e None = c

-- ---- intervals

abbrev OffsetsNumbered : Offsets → Type 0
OffsetsNumbered (Ok x) = Unit {0}
OffsetsNumbered (Err r) = Listed (fault_number r.fault)

pick_offsets : (b : Bool) (X Y : Offsets) → OffsetsNumbered X → OffsetsNumbered Y → OffsetsNumbered (pick b (λ _. X) Y)
pick_offsets true X Y x y = x
pick_offsets false X Y x y = y

end_after : (b : Bool) (s : List ℕ) (p : ℕ) (k : ℕ → ℕ → Offsets) → ((v q : ℕ) → OffsetsNumbered (k v q)) → OffsetsNumbered (end_after_lem b s p k)
unfolding end_after_lem
end_after b s p k h = pick_offsets b (end_then (end_at s (p + 1)) (p + 1) k) (refusing Formula p) (go (end_at s (p + 1))) tt
  where
    go : (x : Maybe (ℕ × ℕ)) → OffsetsNumbered (end_then x (p + 1) k)
    go (Some (v, q)) = h v q
    go None = tt

offsets_numbered : (p o v w c x : ℕ) → OffsetsNumbered (offsets_of p o v w c x)
unfolding offsets_of
offsets_numbered p o v w c x =
    let lo = v + left_out o (byte "(") in
    let hi = w - left_out c (byte ")") in
    pick_offsets (near v && near w && leb lo hi) (Ok (lo - 9936, hi - lo, x)) (refusing Interval p) tt tt

interval_numbered : (s : List ℕ) (p : ℕ) → OffsetsNumbered (interval s p)
unfolding interval comma_at close_at
interval_numbered s p =
    end_after (one_of (peek s p) (bytes "[(")) s p (comma_at s p (peek s p)) (λ v q.
    end_after (eqb (peek s q) (byte ",")) s q (close_at s p (peek s p) v) (λ w x.
    pick_offsets (one_of (peek s x) (bytes "])")) (offsets_of p (peek s p) v w (peek s x) (x + 1)) (refusing Formula x) (offsets_numbered p (peek s p) v w (peek s x) (x + 1)) tt))

-- ---- formulas

abbrev Reads : Reader → Type 0
Reads P = (p : ℕ) → Numbered (P p)

abbrev ReadsIn : maybe.Option Reader → Type 0
ReadsIn maybe.none = Unit {0}
ReadsIn (maybe.some P) = Reads P

module _ (s : List ℕ) where
  times_numbered : (k : ℕ) (f : Written) → Reads (times s k f)
  unfolding times
  times_numbered zero f p = tt
  times_numbered (suc k) f p =
      pick_numbered (one_of (peek s p) (bytes "@?")) (offsets_then (interval s (p + 1)) K) (got f p)
      (go (interval s (p + 1)) (interval_numbered s (p + 1)) (λ first more q. times_numbered k (Written.time (eqb (peek s p) (byte "@")) first more f) q)) tt
    where
      K : ℕ → ℕ → ℕ → Read Written
      K first more q = times s k (Written.time (eqb (peek s p) (byte "@")) first more f) q

      go : (x : Offsets) → OffsetsNumbered x → ((first more q : ℕ) → Numbered (K first more q)) → Numbered (offsets_then x K)
      go (Ok (first, more, q)) h r = r first more q
      go (Err x) h r = h

  timed_numbered : (P : Reader) → Reads P → Reads (timed_part P s)
  unfolding timed_part
  timed_numbered P r p = then_numbered (P p) (λ f q. times s (length s) f q) (r p) (λ f q. times_numbered (length s) f q)

  more_numbered : (o : Op) (P : Reader) → Reads P → (k : ℕ) (f : Written) → Reads (more o P s k f)
  unfolding more
  more_numbered o P r zero f p = tt
  more_numbered o P r (suc k) f p =
      pick_numbered (starts s p (sign_text o))
      (and_then (P (p + length (sign_text o))) (λ g q. pick (repeats o) (λ _. more o P s k (Written.pair o f g) q) (got (Written.pair o f g) q))) (got f p)
      (then_numbered (P (p + length (sign_text o))) _ (r (p + length (sign_text o)))
      (λ g q. pick_numbered (repeats o) (more o P s k (Written.pair o f g) q) (got (Written.pair o f g) q) (more_numbered o P r k (Written.pair o f g) q) tt))
      tt

  level_numbered : (o : Op) (P : Reader) → Reads P → Reads (level o P s)
  unfolding level
  level_numbered o P r p = then_numbered (P p) (λ f q. more o P s (length s) f q) (r p) (λ f q. more_numbered o P r (length s) f q)

  formula_numbered : (P : Reader) → Reads P → Reads (formula P s)
  formula_numbered P r = level_numbered Iff _ (level_numbered Implies _ (level_numbered Or _ (level_numbered And _ (timed_numbered P r))))

  negated_numbered : (inner : maybe.Option Reader) → ReadsIn inner → Reads (negated inner)
  negated_numbered maybe.none r p = tt
  negated_numbered (maybe.some P) r p = then_numbered (P (p + 1)) (λ f q. got (Written.neg f) q) (r (p + 1)) (λ f q. tt)

  closed_numbered : (R : Read Written) → Numbered R → Numbered (then_paren s R)
  closed_numbered R r =
      then_numbered R (λ f q. pick (eqb (peek s q) (byte ")")) (λ _. got f (q + 1)) (refused 5 q)) r
      (λ f q. pick_numbered (eqb (peek s q) (byte ")")) (got f (q + 1)) (refused 5 q) tt tt)

  parens_numbered : (inner : maybe.Option Reader) → ReadsIn inner → Reads (in_parens inner s)
  parens_numbered maybe.none r p = tt
  parens_numbered (maybe.some P) r p = closed_numbered (formula P s (p + 1)) (formula_numbered P r (p + 1))

  second_numbered : (b : Bool) (F : Reader) → Reads F → (f : Written) → Reads (second b F s f)
  unfolding second
  second_numbered b F r f p =
      pick_numbered (eqb (peek s p) (byte ",")) (then_paren s (and_then (F (p + 1)) (λ g q. got (Written.keep b f g) q))) (refused 5 p)
      (closed_numbered (and_then (F (p + 1)) (λ g q. got (Written.keep b f g) q)) (then_numbered (F (p + 1)) (λ g q. got (Written.keep b f g) q) (r (p + 1)) (λ g q. tt))) tt

  arguments_numbered : (inner : maybe.Option Reader) → ReadsIn inner → (b : Bool) → Reads (arguments inner b s)
  arguments_numbered maybe.none r b p = tt
  arguments_numbered (maybe.some P) r b p =
      then_numbered (formula P s (p + 1)) (λ f q. second b (formula P s) s f q) (formula_numbered P r (p + 1)) (λ f q. second_numbered b (formula P s) (formula_numbered P r) f q)

  kept_numbered : (inner : maybe.Option Reader) → ReadsIn inner → (b : Bool) → Reads (since_until inner b s)
  unfolding since_until
  kept_numbered inner r b p = pick_numbered (eqb (peek s p) (byte "(")) (arguments inner b s p) (refused 5 p) (arguments_numbered inner r b p) tt

module _ (names : List (List ℕ)) (s : List ℕ) where
  declared_numbered : Reads (declared names s)
  unfolding declared
  declared_numbered p =
      pick_numbered (ltb (find_name (spelling_at s p) names) (length names)) (got (Written.name (find_name (spelling_at s p) names)) (spelling_end s p)) (refused 6 p) tt tt

  worded_numbered : (inner : maybe.Option Reader) → ReadsIn inner → Reads (name_or_keep inner names s)
  unfolding name_or_keep
  worded_numbered inner r p =
      pick_numbered (is_spelled s p (bytes "since")) (since_until inner true s (p + 5)) (pick (is_spelled s p (bytes "until")) (λ _. since_until inner false s (p + 5)) (declared names s p))
      (kept_numbered s inner r true (p + 5))
      (pick_numbered (is_spelled s p (bytes "until")) (since_until inner false s (p + 5)) (declared names s p) (kept_numbered s inner r false (p + 5)) (declared_numbered p))

  plain_by : (k : Class) (inner : maybe.Option Reader) → ReadsIn inner → Reads (plain_part_by k inner names s)
  plain_by Letter inner r p = worded_numbered inner r p
  plain_by Digit inner r p = tt
  plain_by Sign inner r p = pick_numbered (eqb (peek s p) (byte "!")) (negated inner p) (refused 5 p) (negated_numbered s inner r p) tt
  plain_by Bracket inner r p = pick_numbered (eqb (peek s p) (byte "(")) (in_parens inner s p) (refused 5 p) (parens_numbered s inner r p) tt
  plain_by Other inner r p = tt

  plain_in_numbered : (inner : maybe.Option Reader) → ReadsIn inner → Reads (plain_part_in inner names s)
  unfolding plain_part_in
  plain_in_numbered inner r p = plain_by (class_of (peek s p)) inner r p

  inside_numbered : (d : ℕ) → ReadsIn (inside d names s)
  unfolding inside
  inside_numbered zero = tt
  inside_numbered (suc d) = plain_in_numbered (inside d names s) (inside_numbered d)

  rule_numbered : Reads (rule names s)
  unfolding rule plain_part
  rule_numbered p =
      then_numbered (formula (plain_part most_open names s) s p) (λ f q. pick (eqb q (length s)) (λ _. got f q) (refused 5 q))
      (formula_numbered s (plain_part most_open names s) (plain_in_numbered (inside most_open names s) (inside_numbered most_open)) p)
      (λ f q. pick_numbered (eqb q (length s)) (got f q) (refused 5 q) tt tt)

-- ---- the sheet

module _ (s : List ℕ) where
  signal_numbered : (t : List ℕ) (p : ℕ) → Numbered (signal_line s t p)
  unfolding signal_line
  signal_numbered t p =
      then_numbered (name_line s p (bytes "signal=") 2 4) _ (name_numbered s p (bytes "signal=") 2 tt 4 tt)
      (λ v q. pick_numbered (eqb (find_name (spelling_at s v) (names_at s t)) (length t)) (got v q) (refused 4 v) tt tt)

  head_numbered : Numbered (head s)
  unfolding head
  head_numbered =
      then_numbered (ranged_line s 0 (bytes "window=") 2 3 1 most_ticks) _ (ranged_numbered s 0 (bytes "window=") 2 tt 3 1 most_ticks tt) (λ w p.
      then_numbered (ranged_line s p (bytes "signals=") 2 3 1 most_signals) _ (ranged_numbered s p (bytes "signals=") 2 tt 3 1 most_signals tt) (λ n q.
      then_numbered (in_turn (signal_line s) n [] q) _ (turn_numbered (signal_line s) signal_numbered n [] q) (λ t u.
      then_numbered (ranged_line s u (bytes "rules=") 2 3 0 most_rules) (λ m e. got (head_of w t m) e) (ranged_numbered s u (bytes "rules=") 2 tt 3 0 most_rules tt) (λ m e. tt))))

  rule_line_numbered : (names : List (List ℕ)) → Reads (rule_line names s)
  unfolding rule_line rule_to
  rule_line_numbered names p =
      then_numbered (line s p (bytes "rule=") 2) (λ v e. rule_to names s v e) (line_numbered s p (bytes "rule=") 2 tt) (λ v e.
      pick_numbered (between 1 most_rule_bytes (e - v)) (and_then (rule names (take e s) v) (λ w q. got w (e + 1))) (refused 5 v)
      (then_numbered (rule names (take e s) v) (λ w q. got w (e + 1)) (rule_numbered names (take e s) v) (λ w q. tt)) tt)

  pub sheet_numbered : Numbered (sheet_of s)
  unfolding sheet_of rules
  sheet_numbered =
      pick_numbered (leb (length s) most_bytes) _ (refused 1 0)
      (then_numbered (head s) _ head_numbered (λ h p.
      then_numbered (rules (names_at s h.places) s h.count p) (λ ws q. pick (eqb q (length s)) (λ _. got (contents h.window h.places ws) q) (refused 2 q))
      (turn_numbered (λ _ q. rule_line (names_at s h.places) s q) (λ t q. rule_line_numbered (names_at s h.places) q) h.count [] p)
      (λ ws q. pick_numbered (eqb q (length s)) (got (contents h.window h.places ws) q) (refused 2 q) tt tt)))
      tt

-- ---- readings

module _ (names : List (List ℕ)) (W : ℕ) (r : List ℕ) where
  last_numbered : (spans : Bool) (f p : ℕ) → Numbered (last_tick spans W r f p)
  unfolding to_line
  last_numbered false f p = tt
  last_numbered true f p =
      then_numbered (tick_line W r p (bytes "to=")) _ (ranged_numbered r p (bytes "to=") 11 tt 13 0 (W - 1) tt)
      (λ l q. pick_numbered (leb f l) (got l q) (refused 21 (p + length (bytes "to="))) tt tt)

  entry_numbered : (spans : Bool) (p : ℕ) → Numbered (entry spans names W r p)
  unfolding entry known_line
  entry_numbered spans p =
      then_numbered (tick_line W r p (first_key spans)) _ (ranged_numbered r p (first_key spans) 11 tt 13 0 (W - 1) tt) (λ f i.
      then_numbered (last_tick spans W r f i) _ (last_numbered spans f i) (λ l q.
      then_numbered (known_line names r q) _ (then_numbered (name_line r q (bytes "signal=") 11 12) _ (name_numbered r q (bytes "signal=") 11 tt 12 tt)
      (λ v j. pick_numbered (ltb (find_name (spelling_at r v) names) (length names)) (got (find_name (spelling_at r v) names) j) (refused 12 v) tt tt)) (λ x u.
      then_numbered (ranged_line r u (bytes "value=") 11 14 0 1) _ (ranged_numbered r u (bytes "value=") 11 tt 14 0 1 tt) (λ v e. tt))))

  entries_numbered : Numbered (entries names W r)
  unfolding entries
  entries_numbered =
      pick_numbered (leb (length r) most_bytes) (up_to (entry (in_spans r) names W r) (length r) (length r) [] 0) (refused 10 0)
      (up_numbered (entry (in_spans r) names W r) (length r) (entry_numbered (in_spans r)) (length r) [] 0) tt

  pub readings_numbered : Numbered (readings names W r)
  unfolding readings
  readings_numbered = go (entries names W r) entries_numbered
    where
      go : (R : Read (List Span)) → Numbered R → Numbered (marked R)
      go (got es q) h = tt
      go (refused n p) h = h

-- Texts one after the other: a place in the joined slice changes no number.
placed_numbered : {A : Type 0} (p : ℕ) (R : Read A) → Numbered R → Numbered (placed_from p R)
placed_numbered p (got a q) h = tt
placed_numbered p (refused n q) h = h

pub texts_numbered : (names : List (List ℕ)) (W p : ℕ) (rs : List (List ℕ)) → Numbered (marks_from names W p rs)
unfolding marks_from
texts_numbered names W p [] = tt
texts_numbered names W p (r ∷ rs) =
    let rest = marks_from names W (p + length r) rs in
    then_numbered (placed_from p (readings names W r)) (λ ms q. and_then rest (λ mss e. got (ms ∷ mss) e)) (placed_numbered p (readings names W r) (readings_numbered names W r))
    (λ ms q. then_numbered rest (λ mss e. got (ms ∷ mss) e) (texts_numbered names W (p + length r) rs) (λ mss e. tt))

-- ---- a dump

module _ (d : List ℕ) where
  one_numbered : (p q : ℕ) (ws : List (List ℕ)) → Numbered (one_of_texts d p q ws)
  unfolding one_of_texts
  one_numbered p q [] = tt
  one_numbered p q (w ∷ ws) = pick_numbered (keyed_at d q w) (got 0 (q + length w)) (one_of_texts d p q ws) tt (one_numbered p q ws)

  timescale_numbered : (p : ℕ) → Numbered (timescale_line d p)
  unfolding timescale_line
  timescale_numbered p =
      then_numbered (one_of_texts d p p (bytes "$timescale " ∷ [])) _ (one_numbered p p (bytes "$timescale " ∷ [])) (λ _ q.
      then_numbered (one_of_texts d p q scales) _ (one_numbered p q scales) (λ _ r. one_numbered p r units))

  var_numbered : (names : List (List ℕ)) (x p : ℕ) → Numbered (var_line names d x p)
  unfolding var_line var_form named_var
  var_numbered names x p =
      let e = line_end d (p + 14) in
      then_numbered (var_form d x p) (λ v i. named_var (length names) x p v i (find_name (var_name d v i) names))
      (pick_numbered (keyed_at d p (var_key x) && ltb e (length d) && leb (p + 19) e && starts d (e - 5) (bytes " $end")) (got (p + 14) e) (refused 22 p) tt tt)
      (λ v i. named v i (find_name (var_name d v i) names))
    where
      named : (v i f : ℕ) → Numbered (named_var (length names) x p v i f)
      named v i f = pick_numbered (eqb f x) (got x (i + 1)) (pick (ltb f (length names)) (λ _. refused 22 p) (refused 12 v)) tt (pick_numbered (ltb f (length names)) (refused 22 p) (refused 12 v) tt tt)

  vars_numbered : (names : List (List ℕ)) (n x p : ℕ) → Numbered (var_lines names d n x p)
  unfolding var_lines
  vars_numbered names zero x p = tt
  vars_numbered names (suc n) x p = then_numbered (var_line names d x p) (λ _ q. var_lines names d n (suc x) q) (var_numbered names x p) (λ _ q. vars_numbered names n (suc x) q)

  end_numbered : (p : ℕ) → Numbered (head_end d p)
  unfolding head_end
  end_numbered p =
      then_numbered (this_line d p (bytes "$upscope $end\n")) _ (one_numbered p p (bytes "$upscope $end\n" ∷ [])) (λ _ q.
      then_numbered (this_line d q (bytes "$enddefinitions $end\n")) _ (one_numbered q q (bytes "$enddefinitions $end\n" ∷ [])) (λ _ r. one_numbered r r (bytes "#0\n" ∷ [])))

  dump_head_numbered : (names : List (List ℕ)) → Numbered (head_lines names d)
  unfolding head_lines
  dump_head_numbered names =
      then_numbered (timescale_line d 0) _ (timescale_numbered 0) (λ _ p.
      then_numbered (this_line d p (bytes "$scope module sheet $end\n")) _ (one_numbered p p (bytes "$scope module sheet $end\n" ∷ [])) (λ _ q.
      then_numbered (var_lines names d (length names) 0 q) _ (vars_numbered names (length names) 0 q) (λ _ r. end_numbered r)))

  sign_numbered : (lo hi p : ℕ) → Numbered (sign_line d lo hi p)
  unfolding sign_line
  sign_numbered lo hi p = pick_numbered (is_sign_line d lo hi p) (got (sign (peek d (p + 1) - 33) (sign_said (peek d p))) (p + 3)) (refused 22 p) tt tt

  time_numbered : (W u p : ℕ) → Numbered (time_line W d u p)
  unfolding time_line
  time_numbered W u p =
      then_numbered (ranged_line d p (bytes "#") 22 13 0 (W - 1)) _ (ranged_numbered d p (bytes "#") 22 tt 13 0 (W - 1) tt)
      (λ t q. pick_numbered (ltb u t) (got (time t) q) (refused 22 p) tt tt)

  event_numbered : (W N u k p : ℕ) → Numbered (event_at W N d u k p)
  unfolding event_at
  event_numbered W N u k p =
      pick_numbered (asked N u k) (sign_line d k (suc k) p) (pick (starts d p (bytes "#")) (λ _. time_line W d u p) (sign_line d k N p)) (sign_numbered k (suc k) p)
      (pick_numbered (starts d p (bytes "#")) (time_line W d u p) (sign_line d k N p) (time_numbered W u p) (sign_numbered k N p))

  from_numbered : (W N n u k p : ℕ) → Numbered (events_from W N d n u k p)
  unfolding events_from
  from_numbered W N zero u k p = tt
  from_numbered W N (suc n) u k p =
      pick_numbered (ltb p (length d) || asked N u k) (and_then (event_at W N d u k p) (λ e q. and_then (events_from W N d n (time_after u e) (signal_after e) q) (λ es r. got (e ∷ es) r))) (got [] p)
      (then_numbered (event_at W N d u k p) _ (event_numbered W N u k p) (λ e q.
      then_numbered (events_from W N d n (time_after u e) (signal_after e) q) _ (from_numbered W N n (time_after u e) (signal_after e) q) (λ es r. tt)))
      tt

pub events_numbered : (names : List (List ℕ)) (W : ℕ) (d : List ℕ) → Numbered (events names W d)
unfolding events
events_numbered names W d = then_numbered (head_lines names d) _ (dump_head_numbered d names) (λ _ p. from_numbered d W (length names) (suc (length d)) 0 0 p)
