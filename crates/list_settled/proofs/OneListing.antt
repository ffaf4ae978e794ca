-- What settle tells of one sheet, readings and lent table is one, and so are two outcomes of settle for one buffer.
-- Assumes nothing.
use mathlib.Core.Path.{◌≡◌, refl, sym, ap, ap₂, ◌∙◌, subst}
use mathlib.Core.Bool.{Bool}
use mathlib.Core.List.{List, [], ◌∷◌, ◌++◌}
use Prim.Native.Nat.{ℕ, zero, suc, ◌+◌, ◌<◌, ◌≤◌}
use native.Mathlib.Omega.{arith}
use native.Mathlib.Nat.{zero-add}
use lib.ListN.{length, get_or, take, drop}
use lib.Seq.{sets}
use Rattle.spec_tilco.specs.Lists.{All}
use Rattle.spec_tilco.proofs.Lists.{all_weaker}
use Rattle.spec_tilco.specs.Lowering.{row_count_lem}
use Rattle.spec_tilco.specs.Table.{Standing, table_words, facts_of, Answer}
use Rattle.spec_tilco.proofs.Demand1.{asked_one}
use Rattle.read_sheet.specs.Sheet.{Contents, meant}
use Rattle.open_sheet.specs.Results.{Result, accepted}
use Rattle.spec_operations.specs.Gain.{gain}
use Rattle.open_sheet.specs.SheetIn.{names_in}
use Rattle.open_table.proofs.Tables.{accepted_one, accepted_refused}
use Rattle.spec_operations.proofs.Determined.{adds_one, refused_alike}
use Rattle.list_order.specs.Order.{in_order_lem}
use Rattle.list_order.proofs.Inserting.{order_placed}
use Rattle.list_signals.specs.Signals.{sign_byte, signs, signal_text, signals_text, Answers}
use Rattle.list_table.specs.Listing.{head_text, listing_text}
use Rattle.list_settled.specs.Prints.{Lists, Prints, Settles, WrittenWithin, Written, text_of}
use Rattle.list_settled.specs.Prints.Lists.{not_added, listed}
use Rattle.list_settled.specs.Prints.Prints.{no_sheet, no_room, on_table}
use Rattle.list_settled.proofs.Printing.{prints_most, written}

-- ---- the same answers give the same listing

signs_alike : (f g : ℕ → Answer) (t n : ℕ) → ((i : ℕ) → i < n → f (t + i) ≡ g (t + i)) → signs f t n ≡ signs g t n
unfolding signs
signs_alike f g t zero h = refl
signs_alike f g t (suc n) h =
    let e : t + 0 ≡ t = omega arith in
    ap₂ (λ (x : ℕ) (l : List ℕ). x ∷ l) (ap sign_byte (subst (λ (i : ℕ). f i ≡ g i) e (h 0 (omega arith))))
    (signs_alike f g (suc t) n (λ i l. let d : t + suc i ≡ suc t + i = omega arith in subst (λ (j : ℕ). f j ≡ g j) d (h (suc i) (omega arith))))

signals_alike : (W : ℕ) (f g : ℕ → ℕ → Answer) (names : List (List ℕ)) (xs : List ℕ) → All (λ x. (t : ℕ) → t < W → f x t ≡ g x t) xs → signals_text W f names xs ≡ signals_text W g names xs
unfolding signals_text
signals_alike W f g names [] h = refl
signals_alike W f g names (x ∷ xs) h =
    ap₂ (λ (m l : List ℕ). signal_text (get_or names x []) m ++ l) (signs_alike (f x) (g x) 0 W (λ i l. h.0 (0 + i) (omega arith))) (signals_alike W f g names xs h.1)

-- ---- the same table gives the same answers

-- The listing of a sheet's table.
abbrev listing_of : List ℕ → Contents → List ℕ → Bool → (ℕ → ℕ → Answer) → List ℕ
listing_of s k U clash f = listing_text (names_in s k) k.window (row_count_lem (meant k)) (facts_of (meant k) U) clash f

-- f is what ask answers of the table for each signal at each tick of the window.
abbrev pub AnswersIn : Contents → List ℕ → (ℕ → ℕ → Answer) → Type 0
AnswersIn k U f = Answers (Standing (meant k) U) (length k.places) k.window f

-- The lines of its signals, by the texts to be shown of them, are one.
pub one_signals : (shown : List (List ℕ)) (s : List ℕ) (k : Contents) (U : List ℕ) (f g : ℕ → ℕ → Answer) → AnswersIn k U f → AnswersIn k U g
    → signals_text k.window f shown (in_order_lem (names_in s k)) ≡ signals_text k.window g shown (in_order_lem (names_in s k))
one_signals shown s k U f g p q =
    signals_alike k.window f g shown (in_order_lem (names_in s k))
    (all_weaker (λ x. x < length k.places) _ (λ x i t u. asked_one (Standing (meant k) U) x t (p x i t u) (q x i t u)) (in_order_lem (names_in s k)) (order_placed s k.places))

pub one_listing : (s : List ℕ) (k : Contents) (U : List ℕ) (clash : Bool) (f g : ℕ → ℕ → Answer) → AnswersIn k U f → AnswersIn k U g → listing_of s k U clash f ≡ listing_of s k U clash g
unfolding listing_text
one_listing s k U clash f g p q = ap (λ (l : List ℕ). head_text (row_count_lem (meant k)) (facts_of (meant k) U) clash ++ l) (one_signals (names_in s k) s k U f g p q)

-- ---- the outcomes

pub gain_clash : {a b : ℕ} {x y : Bool} → accepted (gain a x) ≡ accepted (gain b y) → x ≡ y
gain_clash e = cc

module _ {s r T : List ℕ} where
  lists_one : {U U' : List ℕ} {a b : Result (List ℕ)} → Lists s r T U a → Lists s r T U' b → (U ≡ U') × (a ≡ b)
  lists_one (not_added x) (not_added y) = (refl, refused_alike (adds_one x y).1)
  lists_one (not_added x) (listed f y q) = absurd (accepted_refused (sym (adds_one x y).1))
  lists_one (listed e x p) (not_added y) = absurd (accepted_refused (adds_one x y).1)
  lists_one (listed {k = k} {U = U} {clash = clash} {f = f} e x p) (listed {k = c} {U = U'} {clash = clash'} {f = g} h y q) =
      let i : k ≡ c = accepted_one (sym e ∙ h) in
      let o = adds_one x y in
      let w : AnswersIn k U g = subst (λ (X : List ℕ). AnswersIn k X g) (sym o.0) (subst (λ (z : Contents). AnswersIn z U' g) (sym i) q) in (
        o.0,
        ap accepted (
            one_listing s k U clash f g p w
            ∙ ap (λ (X : List ℕ). listing_of s k X clash g) o.0
            ∙ ap (λ (x : Bool). listing_of s k U' x g) (gain_clash o.1)
            ∙ ap (λ (z : Contents). listing_of s z U' clash' g) i
            ),
      )

module _ {s r T : List ℕ} where
  -- What is told and what is left in the lent table,
  pub prints_one : {U U' : List ℕ} {a b : Result (List ℕ)} → Prints s r T U a → Prints s r T U' b → (U ≡ U') × (a ≡ b)
  prints_one (no_sheet e) (no_sheet f) = (refl, refused_alike (sym e ∙ f))
  prints_one (no_sheet e) (no_room f l) = absurd (accepted_refused (sym f ∙ e))
  prints_one (no_sheet e) (on_table f l y) = absurd (accepted_refused (sym f ∙ e))
  prints_one (no_room e l) (no_sheet f) = absurd (accepted_refused (sym e ∙ f))
  prints_one (no_room e l) (no_room f m) = (refl, refl)
  prints_one (no_room {k} e l) (on_table {k = c} f m y) = let i : k ≡ c = accepted_one (sym e ∙ f) in absurd (omega (arith, subst (λ (z : Contents). length T < table_words (meant z)) i l))
  prints_one (on_table e l x) (no_sheet f) = absurd (accepted_refused (sym e ∙ f))
  prints_one (on_table {k = c} e l x) (no_room {k} f m) = let i : k ≡ c = accepted_one (sym f ∙ e) in absurd (omega (arith, subst (λ (z : Contents). length T < table_words (meant z)) i m))
  prints_one (on_table {k = k} {U = U} e l x) (on_table {k = c} {U = U'} {a = b} f m y) =
      let i : k ≡ c = accepted_one (sym e ∙ f) in
      let o = lists_one x (subst (λ (z : Contents). Lists s r (take (table_words (meant z)) T) U' b) (sym i) y) in
      (ap₂ (λ (X : List ℕ) (z : Contents). X ++ drop (table_words (meant z)) T) o.0 i, o.1)

-- so two outcomes for one table and one buffer coincide, in the answer, in every word and in every byte,
pub written_alike : {limit : ℕ} {R R' : Result (List ℕ) → Type 0} {U U' : List ℕ} → ((a b : Result (List ℕ)) → R a → R' b → (U ≡ U') × (a ≡ b)) → {m m₁ m₂ : List ℕ} {n₁ n₂ : ℕ}
    → WrittenWithin limit R m m₁ n₁ → WrittenWithin limit R' m m₂ n₂ → (n₁ ≡ n₂) × (U ≡ U') × (m₁ ≡ m₂)
written_alike one {m} x y =
    let o = one x.told y.told x.tells y.tells in
    let e = ap text_of o.1 in
    (x.long ∙ ap length e ∙ sym y.long, o.0, x.holds ∙ ap (sets m 0) e ∙ sym y.holds)

pub printed_one : {s r T U U' m m₁ m₂ : List ℕ} {n₁ n₂ : ℕ} → Written (Prints s r T U) m m₁ n₁ → Written (Prints s r T U') m m₂ n₂ → (n₁ ≡ n₂) × (U ≡ U') × (m₁ ≡ m₂)
printed_one x y = written_alike (λ a b p q. prints_one p q) x y

-- there is one for each buffer where something is told,
pub written_some : {limit : ℕ} (R : Result (List ℕ) → Type 0) {a : Result (List ℕ)} → R a → length (text_of a) ≤ limit → (m : List ℕ) → WrittenWithin limit R m (sets m 0 (text_of a)) (length (text_of a))
written_some R {a} p l m = written R p l (record { next = sym (zero-add (length (text_of a))); holds = refl })

pub printed_some : {s r T U : List ℕ} {a : Result (List ℕ)} → Prints s r T U a → (m : List ℕ) → Written (Prints s r T U) m (sets m 0 (text_of a)) (length (text_of a))
printed_some {s} {r} {T} {U} p m = written_some (Prints s r T U) p (prints_most p) m

-- and the listing program prints one text.
pub settles_one : {s r l v : List ℕ} → Settles s r l → Settles s r v → l ≡ v
settles_one x y = x.text_is ∙ ap text_of (prints_one x.prints y.prints).1 ∙ sym y.text_is
