-- Alike texts of sheets: calls of add with the same readings texts answer alike, and so does ask.
-- Assumes nothing.
use mathlib.Core.Path.{◌≡◌, refl, sym, ap, ap₂, ◌∙◌, subst}
use mathlib.Core.Bool.{true, false}
use mathlib.Core.List.{List, [], ◌∷◌, ◌++◌}
use mathlib.Core.Logic.{⊎_elim}
use Prim.Native.Nat.{ℕ, ◌-◌, ◌<◌}
use native.Mathlib.Omega.{arith}
use lib.ListN.{length}
use Rattle.read_bytes.proofs.Answers.{not_both, same_value}
use Rattle.spec_ticks.proofs.Tables.{empty_bare, empty_tally}
use Rattle.spec_tilco.specs.Lists.{All}
use Rattle.spec_tilco.specs.Formula.{Sheet}
use Rattle.spec_tilco.specs.Inference.{Mark, mark}
use Rattle.spec_tilco.specs.Table.{words, Standing, table_words, facts_of, InRange, Added, Answer, Asked, clashes, holds, fails, neither}
use Rattle.spec_tilco.specs.Calls.{Call, Run, readings_of, Some}
use Rattle.spec_tilco.specs.Calls as tilco
use Rattle.spec_tilco.proofs.Lists.{all_append, all_left, all_right}
use Rattle.spec_tilco.proofs.Demand3.{SameSettled, shuffle_changes_nothing}
use Rattle.read_sheet.specs.Sheet.{Contents, meant}
use Rattle.read_readings.specs.Readings.{readings}
use Rattle.open_sheet.specs.Results.{Result, accepted}
use Rattle.spec_operations.specs.Gain.{Gain}
use Rattle.open_sheet.specs.SheetIn.{names_in, blank}
use Rattle.open_table.specs.Opens.{Opens}
use Rattle.spec_operations.specs.Operations.{Asks}
use Rattle.spec_operations.specs.Operations.Asks.{not_opened, out_of_range, asked}
use Rattle.proof_demands.specs.Runs.{RunTexts}
use Rattle.proof_demands.specs.Runs.RunTexts.{done, call}
use Rattle.proof_demands.specs.Shuffles.{SaidAlike}
use Rattle.spec_operations.proofs.Determined.{unread_alike, opens_same, opens_or_not, told_one}
use Rattle.proof_demands.proofs.Alike.{Alike, alike_back}
use Rattle.proof_demands.proofs.Runs.{Step, unchanged, changed, step_of, step_opens, window_some, all_declared, marks_within, blank_opens, as_calls, run_none, some_told}

-- ---- the marks

-- A call more.
run_more : (s : Sheet) {T U X : List ℕ} {cs : List Call} {ns : List ℕ} {R : List Mark} → Run s T cs U ns → Added s U R X
    → Run s T (cs ++ (tilco.add R ∷ [])) X (ns ++ ((facts_of s X - facts_of s U) ∷ []))
run_more s tilco.done A = tilco.call A tilco.done
run_more s (tilco.call B x) A = tilco.call B (run_more s x A)
run_more s (tilco.refuse x) A = tilco.refuse (run_more s x A)

all_more : (P : Mark → Type 0) (cs : List Call) (R : List Mark) → All P (readings_of cs) → All P R → All P (readings_of (cs ++ (tilco.add R ∷ [])))
all_more P [] R a b = all_append P R [] b tt
all_more P (tilco.add Q ∷ cs) R a b = all_append P Q (readings_of (cs ++ (tilco.add R ∷ []))) (all_left P Q (readings_of cs) a) (all_more P cs R (all_right P Q (readings_of cs) a) b)
all_more P (tilco.refused ∷ cs) R a b = all_more P cs R a b

module _ (s s' : List ℕ) (k k' : Contents) (x : Alike s s' k k') where
  window_is : k.window ≡ k'.window
  window_is = sym (ap (λ (z : Sheet). z.window) x.means)

  -- Readings texts are read alike.
  reads_alike : (r : List ℕ) → readings (names_in s k) k.window r ≡ readings (names_in s' k') k'.window r
  reads_alike r = ap₂ (λ (names : List (List ℕ)) (W : ℕ). readings names W r) x.names window_is

  -- The same calls from the tables without a mark.
  record Both (T T' : List ℕ) : Type 0 where
    cs : List Call
    ns : List ℕ
    ns' : List ℕ
    run : Run (meant k) (blank k) cs T ns
    run' : Run (meant k') (blank k') cs T' ns'
    within : All (InRange (meant k)) (readings_of cs)

  -- Before an accepted call.
  none_yet : SameSettled (meant k) (meant k') (blank k) (blank k')
  none_yet = record {
    signals = λ y t v l. (λ i. absurd (empty_bare 64 (words k.window) (table_words (meant k)) y t v i), λ i. absurd (empty_bare 64 (words k'.window) (table_words (meant k')) y t v i));
    facts = empty_tally (table_words (meant k)) _ ∙ sym (empty_tally (table_words (meant k')) _);
    clash = (λ c. absurd (empty_bare 64 (words k.window) (table_words (meant k)) c.row c.tick true c.holds), λ c. absurd (empty_bare 64 (words k'.window) (table_words (meant k')) c.row c.tick true c.holds));
  }

  -- And after any.
  settled : {T T' : List ℕ} → Both T T' → SameSettled (meant k) (meant k') T T'
  settled {T} {T'} b = ⊎_elim go none (some_told b.cs)
    where
      go : Some b.cs → SameSettled (meant k) (meant k') T T'
      go c =
          subst (λ (z : Sheet). SameSettled (meant k) z T T') (sym x.means)
          (shuffle_changes_nothing (meant k) k'.rules x.rules (window_some s k x.first) (all_declared s k x.first) (table_words (meant k)) (table_words (meant k')) b.run
          (subst (λ (z : Sheet). Run z (blank k') b.cs T' b.ns') x.means b.run') c b.within)

      none : (Some b.cs → ⊥) → SameSettled (meant k) (meant k') T T'
      none f =
          subst (λ (X : List ℕ). SameSettled (meant k) (meant k') X T') (sym (run_none (meant k) b.run f))
          (subst (λ (X : List ℕ). SameSettled (meant k) (meant k') (blank k) X) (sym (run_none (meant k') b.run' f)) none_yet)

  -- ---- add's answers

  -- A call of both on one text: they answer alike, and both go on.
  one_call : {r T T' U U' : List ℕ} {a a' : Result Gain} → Both T T' → Step s k r T U a → Step s' k' r T' U' a' → (a ≡ a') × Both U U'
  one_call {r} {T} {T'} {U} {U'} b (unchanged f z) (unchanged f' z') =
      (unread_alike (sym f ∙ reads_alike r ∙ f'), subst (λ (X : List ℕ). Both X U') (sym z) (subst (λ (X : List ℕ). Both T X) (sym z') b))
  one_call {r} b (unchanged f z) (changed f' A' g' c') = absurd (not_both (sym f' ∙ sym (reads_alike r) ∙ f))
  one_call {r} b (changed f A g c) (unchanged f' z') = absurd (not_both (sym f ∙ reads_alike r ∙ f'))
  one_call {r} {T} {T'} {U} {U'} b (changed {ms = ms} {clash = clash} f A g c) (changed {ms = ms'} {clash = clash'} f' A' g' c') =
      let same : ms' ≡ ms = same_value (sym f' ∙ sym (reads_alike r) ∙ f) in
      let n : Both U U' = record {
        cs = b.cs ++ (tilco.add ms ∷ []);
        ns = b.ns ++ ((facts_of (meant k) U - facts_of (meant k) T) ∷ []);
        ns' = b.ns' ++ ((facts_of (meant k') U' - facts_of (meant k') T') ∷ []);
        run = run_more (meant k) b.run A;
        run' = run_more (meant k') b.run' (subst (λ (R : List Mark). Added (meant k') T' R U') same A');
        within = all_more (InRange (meant k)) b.cs ms b.within (marks_within s k x.first r f);
      } in
      let z = settled n in
      let news = g ∙ ap₂ (λ (i j : ℕ). i - j) z.facts (settled b).facts ∙ sym g' in
      let told : clash ≡ clash' = told_one clash clash' c (λ e. z.clash.1 (c'.0 e), λ i. c'.1 (z.clash.0 i)) in
      (rw (news, told), n)

  all_calls : {T T' U U' : List ℕ} {rs : List (List ℕ)} {answers answers' : List (Result Gain)} → Both T T' → Opens s T (accepted k) → Opens s' T' (accepted k')
      → RunTexts s T rs U answers → RunTexts s' T' rs U' answers' → (answers ≡ answers') × Both U U'
  all_calls b o o' done done = (refl, b)
  all_calls b o o' (call a y) (call a' y') =
      let z = step_of o a in
      let z' = step_of o' a' in
      let n = one_call b z z' in
      let rest = all_calls n.1 (step_opens s k x.first o z) (step_opens s' k' x.second o' z') y y' in
      (ap₂ (λ (c : Result Gain) (cs : List (Result Gain)). c ∷ cs) n.0 rest.0, rest.1)

-- ---- ask's answers

settled_back : (k k' : Contents) {U U' : List ℕ} → length k.places ≡ length k'.places → SameSettled (meant k) (meant k') U U' → SameSettled (meant k') (meant k) U' U
settled_back k k' e z = record {
  signals = λ y t v l. let w = z.signals y t v (omega arith) in (w.1, w.0);
  facts = sym z.facts;
  clash = (z.clash.1, z.clash.0);
}

asked_alike : (s s' : Sheet) {U U' : List ℕ} {y t : ℕ} {a : Answer} → SameSettled s s' U U' → y < s.signals → Asked (Standing s U) y t a → Asked (Standing s' U') y t a
asked_alike s s' z l (clashes c) = clashes (z.clash.0 c)
asked_alike s s' {y = y} {t = t} z l (holds f i) = holds (λ c. f (z.clash.1 c)) ((z.signals y t true l).0 i)
asked_alike s s' {y = y} {t = t} z l (fails f i) = fails (λ c. f (z.clash.1 c)) ((z.signals y t false l).0 i)
asked_alike s s' {y = y} {t = t} z l (neither f i j) = neither (λ c. f (z.clash.1 c)) (λ m. i ((z.signals y t true l).1 m)) (λ m. j ((z.signals y t false l).1 m))

module _ (s s' : List ℕ) (k k' : Contents) (x : Alike s s' k k') {U U' : List ℕ} (o : Opens s U (accepted k)) (o' : Opens s' U' (accepted k')) (z : SameSettled (meant k) (meant k') U U') where
  asks_alike : {y t : ℕ} {a : Result Answer} → Asks s U y t a → Asks s' U' y t a
  asks_alike (not_opened n) = opens_or_not o n
  asks_alike {y} {t} (out_of_range {k = l} n i) =
      out_of_range o' (λ j. i (subst (λ (c : Contents). InRange (meant c) (mark y t true)) (opens_same o n) (subst (λ (w : Sheet). InRange w (mark y t true)) x.means j)))
  asks_alike {y} {t} (asked {k = l} {a = a} n i u) =
      let j : InRange (meant k) (mark y t true) = subst (λ (c : Contents). InRange (meant c) (mark y t true)) (opens_same n o) i in
      asked o' (subst (λ (w : Sheet). InRange w (mark y t true)) (sym x.means) j)
      (asked_alike (meant k) (meant k') z j.0 (subst (λ (c : Contents). Asked (Standing (meant c) U) y t a) (opens_same n o) u))

-- ---- all of it

-- Alike texts, and runs on the same readings texts from the tables without a mark: all is said alike.
pub said_alike : {s s' : List ℕ} {k k' : Contents} → Alike s s' k k' → {U U' : List ℕ} {rs : List (List ℕ)} {answers answers' : List (Result Gain)}
    → RunTexts s (blank k) rs U answers → RunTexts s' (blank k') rs U' answers' → SaidAlike s s' k k' U U' answers answers'
said_alike {s} {s'} {k} {k'} x y y' =
    let b = blank_opens s k x.first in
    let b' = blank_opens s' k' x.second in
    let all = all_calls s s' k k' x (record { cs = []; ns = []; ns' = []; run = tilco.done; run' = tilco.done; within = tt }) b b' y y' in
    let z = settled s s' k k' x all.1 in
    let o = (as_calls s k x.first b y).opened in
    let o' = (as_calls s' k' x.second b' y').opened in
    record {
      adds = all.0;
      values = λ i t a. (asks_alike s s' k k' x o o' z, asks_alike s' s k' k (alike_back x) o' o (settled_back k k' (sym (ap (λ (w : Sheet). w.signals) x.means)) z));
      facts = z.facts;
      clash = z.clash;
    }
