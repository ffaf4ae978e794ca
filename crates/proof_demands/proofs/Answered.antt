-- Every input gets an answer: for every sheet text, readings text, table and question there is one that the contract allows.
-- Assumes of add's table that its words have 64 bits.
use mathlib.Core.Path.{◌≡◌, refl, sym, ap, ◌∙◌, subst}
use mathlib.Core.Bool.{Bool, true, false, true≢false}
use mathlib.Core.List.{List, [], ◌∷◌, map}
use mathlib.Core.Logic.{◌⊎◌, inl, inr, ⊎_elim, ◌↔◌}
use Prim.Native.Nat.{ℕ, ◌-◌, ◌^◌, ◌<◌, ◌≤◌}
use native.Mathlib.Decide.{ℕ_discrete, dec_lt}
use native.Mathlib.Omega.{arith}
use lib.ListN.{length, get_or, take, length-take, get_or-eq_default}
use lib.Seq.{get_or-take}
use Rattle.spec_limits.specs.Limits.{most_listed_words}
use Rattle.read_bytes.specs.Read.{Read}
use Rattle.read_bytes.specs.Read.Read.{got, refused as unread}
use Rattle.read_bytes.proofs.Answers.{not_both}
use Rattle.spec_ticks.specs.Ticks.{Small, empty}
use Rattle.spec_ticks.proofs.Tables.{empty_small}
use Rattle.spec_tilco.specs.Inference.{Mark, mark, Clash}
use Rattle.spec_tilco.specs.Table.{words, Stands, Standing, table_words, facts_of, Answer, Unsettled, True, False, Contradiction, Asked, clashes, holds, fails, neither}
use Rattle.read_sheet.specs.Sheet.{Contents, meant}
use Rattle.read_readings.specs.Readings.{readings}
use Rattle.open_sheet.specs.Results.{Result, accepted, refused}
use Rattle.spec_operations.specs.Gain.{Gain, gain}
use Rattle.open_sheet.specs.SheetIn.{sheet_in, names_in, blank}
use Rattle.open_table.specs.Opens.{Opens}
use Rattle.open_table.specs.Opens.Opens.{both, not_the_sheet, not_the_length, not_inside}
use Rattle.spec_operations.specs.Operations.{counted, Adds, Asks}
use Rattle.spec_operations.specs.Operations.Adds.{not_opened, not_read, added}
use Rattle.spec_operations.specs.Operations.Asks.{not_opened as not_asked, out_of_range, asked}
use Rattle.list_settled.specs.Prints.{Prints, Settles, text_of}
use Rattle.list_settled.specs.Prints.Lists.{listed}
use Rattle.list_settled.specs.Prints.Prints.{no_sheet, no_room, on_table}
use Rattle.list_settled.proofs.Printing.{refused_lists}
use Rattle.proof_demands.specs.Refusals.{SheetAccepted, TakenUp, ReadingsAccepted, SheetRefused}
use Rattle.proof_demands.specs.Runs.{RunTexts, FromBlank}
use Rattle.proof_demands.specs.Runs.RunTexts.{done as none, call as next}
use Rattle.proof_demands.specs.Cuts.{Given, given, RunCalls}
use Rattle.proof_demands.specs.Cuts.RunCalls.{done, call}
use Rattle.proof_demands.proofs.Deciding.{stands_told, inside_told, clash_told}
use Rattle.proof_demands.proofs.Refusals.{sheet_in_lem, check_refusals, readings_in, in_readings, taken_up, up_taken}
use Rattle.proof_demands.proofs.Runs.{Step, unchanged, step_of, all_declared, marks_within}
use Rattle.proof_demands.proofs.Closable.{can_be_added}

-- ---- check

pub check_some : (s : List ℕ) → ((k : Contents) × SheetAccepted s k) ⊎ ((n : ℕ) × (p : ℕ) × SheetRefused s n p)
check_some s = go (sheet_in s) refl
  where
    go : (r : Result Contents) → sheet_in s ≡ r → ((k : Contents) × SheetAccepted s k) ⊎ ((n : ℕ) × (p : ℕ) × SheetRefused s n p)
    go (accepted k) e = inl (k, sheet_in_lem s e)
    go (refused n p) e = inr (n, p, (check_refusals s).0 (ap counted e))

-- ---- the sheet and the table

pub opens_some : (s T : List ℕ) → (r : Result Contents) × Opens s T r
opens_some s T = go (sheet_in s) refl
  where
    fitting : (k : Contents) → sheet_in s ≡ accepted k → Dec (length T ≡ table_words (meant k)) → (r : Result Contents) × Opens s T r
    fitting k e (yes l) =
        ⊎_elim (λ i. (accepted k, both e l i)) (λ o. (refused 16 0, not_inside e l (λ f. absurd (omega (arith, o.is.1, f o.row o.tick o.value o.is.0)))))
        (inside_told (words k.window) T k.window)
    fitting k e (no l) = (refused 15 0, not_the_length e l)

    go : (r : Result Contents) → sheet_in s ≡ r → (r : Result Contents) × Opens s T r
    go (accepted k) e = fitting k e (ℕ_discrete (length T) (table_words (meant k)))
    go (refused n p) e = (refused n p, not_the_sheet e)

-- ---- add

module _ (s r T : List ℕ) (small : Small 64 T) where
  read_in : {k : Contents} → Opens s T (accepted k) → {ms : List Mark} {q : ℕ} → readings (names_in s k) k.window r ≡ got ms q → (U : List ℕ) × (a : Result Gain) × Adds s r T U a
  read_in {k} (both e l i) {ms} f =
      let x = can_be_added (meant k) (all_declared s k e) T ms l i (marks_within s k e r f) small in
      with_clash x.0 (λ new clash g c. (x.0, accepted (gain new clash), added (both e l i) f x.1 g c)) (clash_told (words k.window) x.0)
    where
      with_clash : {A : Type 0} (U : List ℕ) → ((new : ℕ) (clash : Bool) → new ≡ facts_of (meant k) U - facts_of (meant k) T → (clash ≡ true) ↔ Clash (Standing (meant k) U) → A) → Dec (Clash (Standing (meant k) U)) → A
      with_clash U f (yes c) = f (facts_of (meant k) U - facts_of (meant k) T) true refl (λ z. c, λ z. refl)
      with_clash U f (no c) = f (facts_of (meant k) U - facts_of (meant k) T) false refl (λ z. absurd (true≢false (sym z)), λ z. absurd (c z))

  -- Every call of add gets an answer and a table.
  pub add_some : (U : List ℕ) × (a : Result Gain) × Adds s r T U a
  add_some = let x = opens_some s T in go x.0 x.1
    where
      by_text : {k : Contents} → Opens s T (accepted k) → (R : Read (List Mark)) → readings (names_in s k) k.window r ≡ R → (U : List ℕ) × (a : Result Gain) × Adds s r T U a
      by_text o (got ms q) f = read_in o f
      by_text o (unread n p) f = (T, refused n p, not_read o f refl)

      go : (R : Result Contents) → Opens s T R → (U : List ℕ) × (a : Result Gain) × Adds s r T U a
      go (accepted k) o = by_text o (readings (names_in s k) k.window r) refl
      go (refused n p) o = (T, refused n p, not_opened o refl)

adds_small : {s r T U : List ℕ} {a : Result Gain} → Small 64 T → Adds s r T U a → Small 64 U
adds_small small (not_opened o e) = subst (Small 64) (sym e) small
adds_small small (not_read o f e) = subst (Small 64) (sym e) small
adds_small small (added o f A g c) = A.small

-- And so do calls one after the other.
pub calls_some : (cs : List Given) (T : List ℕ) → Small 64 T → (U : List ℕ) × (answers : List (Result Gain)) × RunCalls T cs U answers
calls_some [] T small = (T, [], done)
calls_some (c ∷ cs) T small =
    let x = add_some c.sheet c.readings T small in
    let y = calls_some cs x.0 (adds_small small x.2) in
    (y.0, x.1 ∷ y.1, call x.2 y.2)

with_sheet : (s : List ℕ) (rs : List (List ℕ)) {T U : List ℕ} {answers : List (Result Gain)} → RunCalls T (map (given s) rs) U answers → RunTexts s T rs U answers
with_sheet s [] done = none
with_sheet s (r ∷ rs) (call a x) = next a (with_sheet s rs x)

pub run_some : (s : List ℕ) (k : Contents) → SheetAccepted s k → (rs : List (List ℕ)) → (U : List ℕ) × (answers : List (Result Gain)) × FromBlank s k rs U answers
run_some s k e rs = let x = calls_some (map (given s) rs) (blank k) (empty_small 64 (table_words (meant k))) in (x.0, x.1, record { sheet = e; run = with_sheet s rs x.2 })

-- A call is accepted exactly if the sheet, the table and the readings are.
pub add_accepts : (s r T : List ℕ) → Small 64 T → ((U : List ℕ) × (g : Gain) × Adds s r T U (accepted g)) ↔ ((k : Contents) × (ms : List Mark) × TakenUp s T k × ReadingsAccepted s k r ms)
add_accepts s r T small = (λ x. of_answer x.2, λ x. let y = add_some s r T small in answer x.2 x.3 y.1 y.2)
  where
    of_answer : {U : List ℕ} {g : Gain} → Adds s r T U (accepted g) → (k : Contents) × (ms : List Mark) × TakenUp s T k × ReadingsAccepted s k r ms
    of_answer (added {k} {ms} o f A n c) = (k, ms, taken_up o, readings_in s k r f)

    not_refused : {k : Contents} {ms : List Mark} {U : List ℕ} {n p : ℕ} → ReadingsAccepted s k r ms → Step s k r T U (refused n p) → ⊥
    not_refused {k} y (unchanged f e) = not_both (sym (in_readings s k r y) ∙ f)

    answer : {k : Contents} {ms : List Mark} {U : List ℕ} → TakenUp s T k → ReadingsAccepted s k r ms → (a : Result Gain) → Adds s r T U a → (U : List ℕ) × (g : Gain) × Adds s r T U (accepted g)
    answer {U = U} x y (accepted g) z = (U, g, z)
    answer x y (refused n p) z = absurd (not_refused y (step_of (up_taken x) z))

-- ---- ask

module _ (s T : List ℕ) (x t : ℕ) where
  pub asked_some : (n : ℕ) → (a : Answer) × Asked (Stands n T) x t a
  asked_some n = go (clash_told n T) (stands_told n T x t true) (stands_told n T x t false)
    where
      go : Dec (Clash (Stands n T)) → Dec (Stands n T (mark x t true)) → Dec (Stands n T (mark x t false)) → (a : Answer) × Asked (Stands n T) x t a
      go (yes c) i j = (Contradiction, clashes c)
      go (no c) (yes i) j = (True, holds c i)
      go (no c) (no i) (yes j) = (False, fails c j)
      go (no c) (no i) (no j) = (Unsettled, neither c i j)

  -- Every question gets an answer.
  pub ask_some : (a : Result Answer) × Asks s T x t a
  ask_some = let y = opens_some s T in go y.0 y.1
    where
      in_range_lem : {k : Contents} → Opens s T (accepted k) → Dec (x < length k.places) → Dec (t < k.window) → (a : Result Answer) × Asks s T x t a
      in_range_lem {k} o (yes i) (yes j) = let z = asked_some (words k.window) in (accepted z.0, asked o (i, j) z.1)
      in_range_lem o (yes i) (no j) = (refused 17 0, out_of_range o (λ z. j z.1))
      in_range_lem o (no i) d = (refused 17 0, out_of_range o (λ z. i z.0))

      go : (R : Result Contents) → Opens s T R → (a : Result Answer) × Asks s T x t a
      go (accepted k) o = in_range_lem o (dec_lt x (length k.places)) (dec_lt t k.window)
      go (refused n p) o = (refused n p, not_asked o)

-- ---- settle

-- A part of a table of 64-bit words is one.
pub small_take : (n : ℕ) (T : List ℕ) → Small 64 T → Small 64 (take n T)
small_take n T small i = go (dec_lt i n)
  where
    go : Dec (i < n) → get_or (take n T) i 0 < 2 ^ 64
    go (yes l) = omega (arith, get_or-take n T i 0 l, small i)
    go (no l) = let z : get_or (take n T) i 0 ≡ 0 = get_or-eq_default (take n T) 0 (omega (arith, length-take n T)) in omega (arith, z)

-- For every sheet, readings and lent table there is what settle tells,
pub prints_some : (s r T : List ℕ) → Small 64 T → (U : List ℕ) × (a : Result (List ℕ)) × Prints s r T U a
prints_some s r T small = go (sheet_in s) refl
  where
    of_answer : {k : Contents} {U : List ℕ} → sheet_in s ≡ accepted k → table_words (meant k) ≤ length T → (a : Result Gain) → Adds s r (take (table_words (meant k)) T) U a
        → (U : List ℕ) × (a : Result (List ℕ)) × Prints s r T U a
    of_answer {k} {U} e l (accepted (gain new clash)) x =
        (_, _, on_table e l (listed {f = λ y t. (asked_some s U y t (words k.window)).0} e x (λ y h t i. (asked_some s U y t (words k.window)).1)))
    of_answer e l (refused n p) x = (_, _, on_table e l (refused_lists x))

    in_room : (k : Contents) → sheet_in s ≡ accepted k → Dec (length T < table_words (meant k)) → (U : List ℕ) × (a : Result (List ℕ)) × Prints s r T U a
    in_room k e (yes l) = (T, refused 29 0, no_room e l)
    in_room k e (no l) = let x = add_some s r (take (table_words (meant k)) T) (small_take (table_words (meant k)) T small) in of_answer e (omega arith) x.1 x.2

    go : (R : Result Contents) → sheet_in s ≡ R → (U : List ℕ) × (a : Result (List ℕ)) × Prints s r T U a
    go (accepted k) e = in_room k e (dec_lt (length T) (table_words (meant k)))
    go (refused n p) e = (T, refused n p, no_sheet e)

-- and so a text that the listing program prints.
pub settles_some : (s r : List ℕ) → (l : List ℕ) × Settles s r l
settles_some s r =
    let x = prints_some s r (empty most_listed_words) (empty_small 64 most_listed_words) in
    (text_of x.1, record { after = x.0; told = x.1; prints = x.2; text_is = refl })
