-- Any two outcomes allowed for one input coincide, of reading a dump and of writing one; and reading has one for every input.
-- Assumes nothing. `s` is the sheet's text, T the lent table, d the dump, O the lent buffer.
use mathlib.Core.Path.{◌≡◌, refl, sym, ap, ap₂, subst, ◌∙◌}
use mathlib.Core.List.{List, ◌∷◌, ◌++◌}
use Prim.Native.Nat.{ℕ, zero, suc, ◌+◌, ◌-◌, ◌<◌, ◌≤◌}
use native.Mathlib.Omega.{arith}
use lib.ListN.{length}
use Rattle.spec_tilco.specs.Inference.{Clash}
use Rattle.spec_tilco.specs.Table.{Standing, Answer}
use Rattle.spec_tilco.proofs.Demand1.{asked_one}
use Rattle.read_sheet.specs.Sheet.{Contents, meant}
use Rattle.open_sheet.specs.Results.{Result, accepted}
use Rattle.open_sheet.specs.SheetIn.{names_in}
use Rattle.open_table.specs.Opens.{Opens}
use Rattle.open_table.proofs.Tables.{in_sheet}
use Rattle.list_signals.specs.Signals.{Answers}
use Rattle.spec_operations.specs.TextAnswers.{Gives}
use Rattle.spec_operations.proofs.TextAnswers.{gives_one, gives_some}
use Rattle.spec_operations.proofs.Determined.{opens_one, opens_same, opens_or_not, opens_sheet, refused_alike}
use Rattle.spec_dump.specs.DumpTexts.{Event, sign, dump_text}
use Rattle.spec_dump.specs.TableSigns.{answer_sign, signs_at, changes_at, timed, changes_from, sign_events}
use Rattle.spec_dump.specs.Dumps.{table_dump, with_room, WritesDump, dump_readings, ReadsDump}
use Rattle.spec_dump.specs.Dumps.WritesDump.{not_opened, clashing, written}

-- ---- reading

pub reads_one : (s d : List ℕ) {O O' O'' : List ℕ} {a b : Result ℕ} → ReadsDump s d O O' a → ReadsDump s d O O'' b → (O' ≡ O'') × (a ≡ b)
reads_one s d x y = gives_one x y

pub reads_some : (s d O : List ℕ) → (O' : List ℕ) × (a : Result ℕ) × ReadsDump s d O O' a
reads_some s d O = gives_some (dump_readings s d (length O)) O

-- ---- the same signs give the same events

module _ (f g : ℕ → ℕ → ℕ) where
  signs_as : (t x n : ℕ) → ((y : ℕ) → y < x + n → f y t ≡ g y t) → signs_at f t x n ≡ signs_at g t x n
  unfolding signs_at
  signs_as t x zero h = refl
  signs_as t x (suc n) h = ap₂ (λ (b : ℕ) (l : List Event). sign x b ∷ l) (h x (omega arith)) (signs_as t (suc x) n (λ y l. h y (omega arith)))

  changes_as : (t x n : ℕ) → ((y : ℕ) → y < x + n → (f y t ≡ g y t) × (f y (t - 1) ≡ g y (t - 1))) → changes_at f t x n ≡ changes_at g t x n
  unfolding changes_at
  changes_as t x zero h = refl
  changes_as t x (suc n) h = let k = h x (omega arith) in rw (k.0, k.1, changes_as t (suc x) n (λ y l. h y (omega arith)))

  ticks_as : (N t n : ℕ) → ((x : ℕ) → x < N → (s : ℕ) → s < t + n → f x s ≡ g x s) → changes_from f N t n ≡ changes_from g N t n
  unfolding changes_from
  ticks_as N t zero h = refl
  ticks_as N t (suc n) h =
      ap₂ (λ (k l : List Event). timed t k ++ l) (changes_as t 0 N (λ y l. (h y (omega arith) t (omega arith), h y (omega arith) (t - 1) (omega arith))))
      (ticks_as N (suc t) n (λ x i s l. h x i s (omega arith)))

  pub events_as : (N W : ℕ) → 1 ≤ W → ((x : ℕ) → x < N → (t : ℕ) → t < W → f x t ≡ g x t) → sign_events f N W ≡ sign_events g N W
  unfolding sign_events
  events_as N W w h = ap₂ (λ (k l : List Event). k ++ l) (signs_as 0 0 N (λ y l. h y (omega arith) 0 (omega arith))) (ticks_as N 1 (W - 1) (λ x i s l. h x i s (omega arith)))

-- ---- writing

-- f is what ask answers of the table for each signal at each tick of the window.
abbrev pub AnswersIn : List ℕ → (ℕ → ℕ → Answer) → Contents → Type 0
AnswersIn T f k = Answers (Standing (meant k) T) (length k.places) k.window f

-- Two tellings of what ask answers give one dump.
pub one_dump : (s T : List ℕ) (k : Contents) (f g : ℕ → ℕ → Answer) → 1 ≤ k.window → AnswersIn T f k → AnswersIn T g k → table_dump s k f ≡ table_dump s k g
unfolding table_dump
one_dump s T k f g w p q =
    ap (dump_text (names_in s k))
    (events_as (λ x t. answer_sign (f x t)) (λ x t. answer_sign (g x t)) (length k.places) k.window w
    (λ x i t l. ap answer_sign (asked_one (Standing (meant k) T) x t (p x i t l) (q x i t l))))

-- A table clashes or does not.
not_both : {s T : List ℕ} {k l : Contents} → Opens s T (accepted k) → Opens s T (accepted l) → Clash (Standing (meant k) T) → (Clash (Standing (meant l) T) → ⊥) → ⊥
not_both {T = T} o x c n = n (subst (λ (z : Contents). Clash (Standing (meant z) T)) (opens_same o x) c)

module _ {s T O : List ℕ} where
  -- Two outcomes for one input coincide, in every byte of the buffer and in the answer, refusals too.
  pub writes_one : {O' O'' : List ℕ} {a b : Result ℕ} → WritesDump s T O O' a → WritesDump s T O O'' b → (O' ≡ O'') × (a ≡ b)
  writes_one (not_opened o e) (not_opened x f) = (e ∙ sym f, refused_alike (opens_one o x))
  writes_one (not_opened o e) (clashing x c f) = opens_or_not x o
  writes_one (not_opened o e) (written x n q v) = opens_or_not x o
  writes_one (clashing o c e) (not_opened x f) = opens_or_not o x
  writes_one (clashing o c e) (clashing x d f) = (e ∙ sym f, refl)
  writes_one (clashing o c e) (written x n q v) = absurd (not_both o x c n)
  writes_one (written o m p u) (not_opened x f) = opens_or_not o x
  writes_one (written o m p u) (clashing x d f) = absurd (not_both x o d m)
  writes_one {O'' = O''} {b = b} (written {k = k} {f = f} o m p u) (written {k = l} {f = g} x n q v) =
      let z : l ≡ k = opens_same x o in
      let w = (in_sheet s (opens_sheet o)).sizes.window_low in
      let e = ap (λ (c : Contents). table_dump s c g) z ∙ one_dump s T k g f w (subst (AnswersIn T g) z q) p in
      gives_one u (subst (λ (t : List ℕ). Gives (with_room (length O) t) O O'' b) e v)
