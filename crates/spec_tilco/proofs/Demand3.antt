-- Demand 3: cutting, ordering and repeating readings changes nothing in the last table; shuffling rules changes no signal's values, fact
-- total or clash; every value given holds in every history that obeys the sheet and agrees with the readings; a clash is given only where
-- no such history exists. Assumes that every name is declared and a window of at least one tick where tables are compared.
use mathlib.Core.Path.{◌≡◌, refl, sym, ◌∙◌, ap, ap₂}
use mathlib.Core.Bool.{Bool, true, false}
use mathlib.Core.List.Memᴰ
use mathlib.Core.List.Permᴰ
use mathlib.Core.List.{List, [], ◌++◌, Memᴰ, Permᴰ}
use mathlib.Core.Logic.{◌⊎◌, inl, inr, ◌↔◌}
use Prim.Native.Nat.{ℕ, ◌+◌, ◌*◌, ◌<◌, ◌≤◌}
use native.Mathlib.Nat.{add-zero}
use native.Mathlib.Omega.{arith}
use lib.IntN.{pos}
use lib.ListN.{length}
use Rattle.spec_ticks.specs.Ticks.{Small, empty}
use Rattle.spec_ticks.proofs.Tables.{tally_same, empty_small, empty_bare, empty_tally}
use Rattle.spec_tilco.specs.Lists.{All}
use Rattle.spec_tilco.specs.Formula.{Written, hiddens, Sheet, signal_rows, formulas, with_rules, Named, Declared}
use Rattle.spec_tilco.specs.Meaning.{History, Obeys}
use Rattle.spec_tilco.specs.Inference.{Mark, mark, start, ◌or◌, Clash}
use Rattle.spec_tilco.specs.Lowering.{BTL, worth, lows, row_count_lem, row_part}
use Rattle.spec_tilco.specs.Table.{words, Standing, facts_of, ReadMarks, InRange, Agrees, Leads}
use Rattle.spec_tilco.specs.Calls.{Call, Run, done, call, refuse, readings_of, Some, reported}
use Rattle.spec_tilco.proofs.Lists.{all_at, all_of_lem, all_stays, found_again, total_stays}
use Rattle.spec_tilco.proofs.Derives.{cut, monotone}
use Rattle.spec_tilco.proofs.Order.{row_count}
use Rattle.spec_tilco.proofs.Sound.{signal_part, signal_holds, clash_excludes}
use Rattle.spec_tilco.proofs.Counts.{weight, rules_size}
use Rattle.spec_tilco.proofs.Shuffle.{AllIn, values_kept, clash_kept}
use Rattle.spec_tilco.proofs.Demand2.{words_some, marks_tell, added_closed, added_facts}

-- ---- calls one after the other

module _ (s : Sheet) where
  abbrev Closed : List ℕ → Type 0
  Closed T = (m : Mark) → Leads s (Standing s T) m → Standing s T m

  -- a mark of the last table follows from the first one's and the readings
  run_only : {T U : List ℕ} {cs : List Call} {ns : List ℕ} → Run s T cs U ns → (m : Mark) → Standing s U m → Leads s (◌or◌ (Standing s T) (ReadMarks (readings_of cs))) m
  run_only done m i = start (inl i)
  run_only (call {T} {T'} {U} {R} {cs} A r) m i = cut go (run_only r m i)
    where
      wider : (n : Mark) → ◌or◌ (Standing s T) (ReadMarks R) n → ◌or◌ (Standing s T) (ReadMarks (R ++ readings_of cs)) n
      wider n (inl j) = inl j
      wider n (inr j) = inr (Memᴰ.append_left (readings_of cs) j)

      go : (n : Mark) → ◌or◌ (Standing s T') (ReadMarks (readings_of cs)) n → Leads s (◌or◌ (Standing s T) (ReadMarks (R ++ readings_of cs))) n
      go n (inl j) = monotone wider ((A.exactly n).0 j)
      go n (inr j) = start (inr (Memᴰ.append_right R j))
  run_only (refuse r) m i = run_only r m i

  -- and all that follows stands in it, once a call was accepted
  run_every : {T U : List ℕ} {cs : List Call} {ns : List ℕ} → Run s T cs U ns → Closed T ⊎ Some cs
      → (m : Mark) → Leads s (◌or◌ (Standing s T) (ReadMarks (readings_of cs))) m → Standing s U m
  run_every (done {T}) (inl c) m d = c m (monotone go d)
    where
      go : (n : Mark) → ◌or◌ (Standing s T) (ReadMarks []) n → Standing s T n
      go n (inl i) = i
      go n (inr i) = absurd (Memᴰ.not-nil i)
  run_every done (inr c) m d = absurd c
  run_every (call {T} {T'} {U} {R} {cs} A r) c m d = run_every r (inl (added_closed s A)) m (monotone go d)
    where
      split : (n : Mark) → Memᴰ n R ⊎ Memᴰ n (readings_of cs) → ◌or◌ (Standing s T') (ReadMarks (readings_of cs)) n
      split n (inl i) = inl ((A.exactly n).1 (start (inr i)))
      split n (inr i) = inr i

      go : (n : Mark) → ◌or◌ (Standing s T) (ReadMarks (R ++ readings_of cs)) n → ◌or◌ (Standing s T') (ReadMarks (readings_of cs)) n
      go n (inl i) = inl ((A.exactly n).1 (start (inl i)))
      go n (inr i) = split n (Memᴰ.append_cases R i)
  run_every (refuse r) c m d = run_every r c m d

  run_size : {T U : List ℕ} {cs : List Call} {ns : List ℕ} → Run s T cs U ns → length U ≡ length T
  run_size done = refl
  run_size (call A r) = run_size r ∙ A.size
  run_size (refuse r) = run_size r

  run_small : {T U : List ℕ} {cs : List Call} {ns : List ℕ} → Run s T cs U ns → Small 64 T → Small 64 U
  run_small done h = h
  run_small (call A r) h = run_small r A.small
  run_small (refuse r) h = run_small r h

  -- The facts reported as new add up to the facts gained.
  pub run_facts : {T U : List ℕ} {cs : List Call} {ns : List ℕ} → 1 ≤ s.window → Run s T cs U ns → Small 64 T → facts_of s T + reported ns ≡ facts_of s U
  run_facts some (done {T}) h = add-zero (facts_of s T)
  run_facts some (call A r) h = omega (arith, run_facts some r A.small, added_facts s some h A)
  run_facts some (refuse r) h = run_facts some r h

  -- ---- from the empty table only the readings count

  module _ (k : ℕ) {U : List ℕ} {cs : List Call} {ns : List ℕ} (r : Run s (empty k) cs U ns) where
    pub table_only : (m : Mark) → Standing s U m → Leads s (ReadMarks (readings_of cs)) m
    table_only m i = monotone go (run_only r m i)
      where
        bare : (n : Mark) → Standing s (empty k) n → ⊥
        bare (mark x t v) j = empty_bare 64 (words s.window) k x t v j

        go : (n : Mark) → ◌or◌ (Standing s (empty k)) (ReadMarks (readings_of cs)) n → ReadMarks (readings_of cs) n
        go n (inl j) = absurd (bare n j)
        go n (inr j) = j

    pub table_every : Some cs → (m : Mark) → Leads s (ReadMarks (readings_of cs)) m → Standing s U m
    table_every c m d = run_every r (inr c) m (monotone (λ n i. inr i) d)

    -- The facts reported add up to the facts in the last table.
    pub reports_add_up : 1 ≤ s.window → reported ns ≡ facts_of s U
    reports_add_up some = omega (arith, run_facts some r (empty_small 64 k), empty_tally k (2 * s.signals * words s.window))

    clash_led : Clash (Standing s U) → Clash (Leads s (ReadMarks (readings_of cs)))
    clash_led c = record { row = c.row; tick = c.tick; holds = table_only (mark c.row c.tick true) c.holds; fails = table_only (mark c.row c.tick false) c.fails }

    clash_back : Some cs → Clash (Leads s (ReadMarks (readings_of cs))) → Clash (Standing s U)
    clash_back some c = record { row = c.row; tick = c.tick; holds = table_every some (mark c.row c.tick true) c.holds; fails = table_every some (mark c.row c.tick false) c.fails }

  -- ---- the demand's first sentence

  -- The same readings, cut into calls in any way, in any order, with repeats and refused calls among them: one last table.
  pub cuts_change_nothing : 1 ≤ s.window → (k : ℕ) {U U' : List ℕ} {cs cs' : List Call} {ns ns' : List ℕ}
      → Run s (empty k) cs U ns → Some cs → Run s (empty k) cs' U' ns' → Some cs'
      → ((m : Mark) → ReadMarks (readings_of cs) m ↔ ReadMarks (readings_of cs') m) → U ≡ U'
  cuts_change_nothing some k {U} {U'} r c r' c' same =
      marks_tell s some U U' (run_size r ∙ sym (run_size r')) (run_small r (empty_small 64 k)) (run_small r' (empty_small 64 k))
      (λ m i. table_every k r' c' m (monotone (λ n j. (same n).0 j) (table_only k r m i)))
      (λ m i. table_every k r c m (monotone (λ n j. (same n).1 j) (table_only k r' m i)))

-- ---- the second sentence

-- What two sheets' last tables have in common.
pub record SameSettled (s s' : Sheet) (U U' : List ℕ) : Type 0 where
  pub signals : (x t : ℕ) (v : Bool) → x < s.signals → Standing s U (mark x t v) ↔ Standing s' U' (mark x t v)
  pub facts : facts_of s U ≡ facts_of s' U'
  pub clash : Clash (Standing s U) ↔ Clash (Standing s' U')

module _ (s : Sheet) (vs : List Written) (shuffled : Permᴰ s.rules vs) where
  abbrev s' : Sheet
  s' = with_rules s vs

  -- The rules shuffled, the sheet has as many rows.
  pub shuffle_keeps_rows : row_count_lem s ≡ row_count_lem s'
  shuffle_keeps_rows =
      row_count s ∙ ap₂ (λ (h k : ℕ). s.signals + h + k) (total_stays hiddens shuffled) (rules_size s.signals s.rules ∙ total_stays weight shuffled ∙ sym (rules_size s.signals vs))
      ∙ sym (row_count s')

  pub shuffle_keeps_names : Declared s → Declared s'
  shuffle_keeps_names d = all_stays (Named s.signals) (Permᴰ.symm shuffled) d

  -- Shuffling rules changes no signal's values, fact total or clash.
  pub shuffle_changes_nothing : 1 ≤ s.window → Declared s → (k k' : ℕ) {U U' : List ℕ} {cs : List Call} {ns ns' : List ℕ}
      → Run s (empty k) cs U ns → Run s' (empty k') cs U' ns' → Some cs → All (InRange s) (readings_of cs) → SameSettled s s' U U'
  shuffle_changes_nothing some d k k' {U} {U'} {cs} r r' c read = record {
    signals = λ x t v l. (there x t v l, back x t v l);
    facts = tally_same (words s.window) (words_some s.window some) 64 s.signals U U' (run_small s r (empty_small 64 k)) (run_small s' r' (empty_small 64 k')) there back;
    clash = (
      λ i. clash_back s' k' r' c (clash_kept s d vs in_vs (ReadMarks (readings_of cs)) on_signals (clash_led s k r i)),
      λ i. clash_back s k r c (clash_kept s' (shuffle_keeps_names d) s.rules in_ws (ReadMarks (readings_of cs)) on_signals (clash_led s' k' r' i)),
    );
  }
    where
      in_vs : AllIn vs s.rules
      in_vs = all_of_lem (λ w. Memᴰ w vs) s.rules (λ w i. found_again shuffled i)

      in_ws : AllIn s.rules vs
      in_ws = all_of_lem (λ w. Memᴰ w s.rules) vs (λ w i. found_again (Permᴰ.symm shuffled) i)

      on_signals : (x t : ℕ) (v : Bool) → ReadMarks (readings_of cs) (mark x t v) → x < s.signals
      on_signals x t v i = (all_at (InRange s) (readings_of cs) read (mark x t v) i).0

      there : (x t : ℕ) (v : Bool) → x < s.signals → Standing s U (mark x t v) → Standing s' U' (mark x t v)
      there x t v l i = table_every s' k' r' c (mark x t v) (values_kept s d vs in_vs (ReadMarks (readings_of cs)) on_signals x t v l (table_only s k r (mark x t v) i))

      back : (x t : ℕ) (v : Bool) → x < s.signals → Standing s' U' (mark x t v) → Standing s U (mark x t v)
      back x t v l i =
          table_every s k r c (mark x t v)
          (values_kept s' (shuffle_keeps_names d) s.rules in_ws (ReadMarks (readings_of cs)) on_signals x t v l (table_only s' k' r' (mark x t v) i))

-- ---- the third and the fourth sentence

module _ (s : Sheet) (declared : Declared s) (k : ℕ) {U : List ℕ} {cs : List Call} {ns : List ℕ} (r : Run s (empty k) cs U ns)
    (read : All (InRange s) (readings_of cs)) (h : History) (obeys : Obeys s h) (agrees : All (Agrees h) (readings_of cs)) where
  start_agrees : (x t : ℕ) (v : Bool) → ReadMarks (readings_of cs) (mark x t v) → worth h (row_part s x) (pos t) ≡ v
  start_agrees x t v i =
      let l : x < s.signals = (all_at (InRange s) (readings_of cs) read (mark x t v) i).0 in
      ap (λ (c : BTL). worth h c (pos t)) (signal_part (signal_rows s) (lows (formulas s)) x (omega arith)) ∙ all_at (Agrees h) (readings_of cs) agrees (mark x t v) i

  -- Every value given holds in every history that obeys the sheet and agrees with the readings.
  pub values_hold : (x t : ℕ) (v : Bool) → x < s.signals → Standing s U (mark x t v) → h x (pos t) ≡ v
  values_hold x t v l i = signal_holds s declared h obeys (ReadMarks (readings_of cs)) start_agrees x t v (omega arith) (table_only s k r (mark x t v) i)

  -- A clash is given only where no such history exists.
  pub clash_has_no_history : Clash (Standing s U) → ⊥
  clash_has_no_history c = clash_excludes s declared h obeys (ReadMarks (readings_of cs)) start_agrees (clash_led s k r c)
