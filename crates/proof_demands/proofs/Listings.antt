-- The lines of a listing, and that each value and each clash that it shows is so in every history.
-- Assumes nothing. s is the sheet's text, r the readings' text, l the listing.
use mathlib.Core.Path.{◌≡◌, refl, sym, ap, subst, ◌∙◌}
use mathlib.Core.Bool.{Bool, true, false, true≢false}
use mathlib.Core.List.Memᴰ
use mathlib.Core.List.{List, [], ◌∷◌, ◌++◌, append-nil, append_assoc}
use Prim.Native.Nat.{ℕ, zero, suc, ◌+◌, ◌/◌, ◌%◌, ◌<◌, ◌≤◌}
use native.Mathlib.Decide.{dec_lt}
use native.Mathlib.Nat.{zero-add}
use native.Mathlib.Omega.{arith}
use borrow.Author.Tests.{ne_eqb}
use lib.IntN.{pos}
use lib.ListN.{length, get_or, drop, get_or-eq_default}
use lib.Seq.{get_or-append-add}
use Rattle.read_bytes.specs.Bytes.{byte, bytes, name_byte, run, run_at, InLine}
use Rattle.read_names.specs.Spellings.{names_at}
use Rattle.read_names.proofs.Names.{names_many}
use Rattle.spec_tilco.specs.Lists.{All}
use Rattle.spec_tilco.proofs.Lists.{all_nth}
use Rattle.spec_tilco.specs.Meaning.{History, Obeys}
use Rattle.spec_tilco.specs.Lowering.{row_count_lem}
use Rattle.spec_tilco.specs.Table.{Standing, facts_of, Answer, Unsettled, True, False, Contradiction, Asked}
use Rattle.read_sheet.specs.Sheet.{Contents, meant}
use Rattle.write_bytes.specs.Writes.{last_digits, decimal_text}
use Rattle.write_bytes.proofs.Decimals.{digits_one, digits_then}
use Rattle.write_lines.specs.LineTexts.{one_if, line_text}
use Rattle.list_order.specs.Order.{in_order_lem}
use Rattle.list_order.proofs.Sorting.{order_within}
use Rattle.list_signals.specs.Signals.{sign_byte, signs, signal_text, signals_text}
use Rattle.list_table.specs.Listing.{head_text, listing_text, refusal_text}
use Rattle.list_settled.specs.Prints.{Settles}
use Rattle.list_settled.proofs.InOrder.{names_declarable}
use Rattle.list_settled.proofs.EmptyTable.{Shown, refusal, listing, shown as shown_by}
use Rattle.spec_grammar.proofs.Lines.{in_line_by, in_line_then}
use Rattle.open_sheet.specs.Results.{accepted}
use Rattle.open_sheet.specs.SheetIn.{names_in}
use Rattle.open_table.proofs.Tables.{accepted_one}
use Rattle.spec_operations.specs.Gain.{gain}
use Rattle.proof_demands.specs.Refusals.{SheetAccepted}
use Rattle.proof_demands.specs.Runs.{AgreesWith, valued}
use Rattle.proof_demands.specs.Runs.RunTexts.{done, call}
use Rattle.proof_demands.specs.Listings.{lines_of, line_of, Names, marks_line, sign_under, shown}
use Rattle.proof_demands.proofs.Refusals.{sheet_in_lem, in_sheet_text}
use Rattle.proof_demands.proofs.Histories.{told_holds, no_clash_told}

-- ---- the lines of a text

lines_first : (w l : List ℕ) → InLine w → lines_of (w ++ (byte "\n" ∷ l)) ≡ w ∷ lines_of l
unfolding lines_of
lines_first [] l h = refl
lines_first (b ∷ w) l h = rw (ne_eqb b (byte "\n") h.0, lines_first w l h.1)

line_first : (key v l : List ℕ) → InLine key → InLine v → lines_of (line_text key v ++ l) ≡ (key ++ v) ∷ lines_of l
unfolding line_text
line_first key v l h k =
    let e : (key ++ (v ++ bytes "\n")) ++ l ≡ (key ++ v) ++ (byte "\n" ∷ l) = simp append_assoc in
    ap lines_of e ∙ lines_first (key ++ v) l (in_line_then key v h k)

-- ---- what stands in them

digits_in_line : (k n : ℕ) → InLine (last_digits k n)
unfolding last_digits
digits_in_line zero n = tt
digits_in_line (suc k) n = go (dec_lt n 10) (digits_in_line k (n / 10))
  where
    go : Dec (n < 10) → InLine (last_digits k (n / 10)) → InLine (last_digits (suc k) n)
    go (yes l) h = rw (digits_one k n l) (λ e. omega arith, tt)
    go (no l) h = rw (digits_then k n (omega arith)) (in_line_then (last_digits k (n / 10)) ((byte "0" + n % 10) ∷ []) h (λ e. omega arith, tt))

number_in_line : (n : ℕ) → InLine (decimal_text n)
unfolding decimal_text
number_in_line n = digits_in_line 20 n

sign_in_line : (a : Answer) → sign_byte a ≡ byte "\n" → ⊥
sign_in_line Unsettled e = omega arith
sign_in_line True e = omega arith
sign_in_line False e = omega arith
sign_in_line Contradiction e = omega arith

signs_in_line : (f : ℕ → Answer) (t n : ℕ) → InLine (signs f t n)
unfolding signs
signs_in_line f t zero = tt
signs_in_line f t (suc n) = (sign_in_line (f t), signs_in_line f (suc t) n)

run_in_line : (P : ℕ → Bool) → P (byte "\n") ≡ false → (l : List ℕ) → InLine (run P l)
unfolding run
run_in_line P e [] = tt
run_in_line P e (x ∷ l) = go (P x) refl (run_in_line P e l)
  where
    go : (b : Bool) → P x ≡ b → InLine (run P l) → InLine (run P (x ∷ l))
    go true f h = rw f (λ z. true≢false (sym f ∙ ap P z ∙ e), h)
    go false f h = rw f tt

names_in_line : (s : List ℕ) (places : List ℕ) → All InLine (names_at s places)
unfolding names_at run_at name_byte
names_in_line s [] = tt
names_in_line s (p ∷ places) = (run_in_line name_byte refl (drop p s), names_in_line s places)

-- ---- a listing's lines

head_lines_lem : (rows facts : ℕ) (clash : Bool) (l : List ℕ)
    → lines_of (head_text rows facts clash ++ l) ≡ (bytes "answer=" ++ decimal_text 0) ∷ (bytes "rows=" ++ decimal_text rows) ∷ (bytes "facts=" ++ decimal_text facts) ∷ (bytes "clash=" ++ decimal_text (one_if clash)) ∷ lines_of l
unfolding head_text
head_lines_lem rows facts clash l =
    let a = line_first (bytes "answer=") (decimal_text 0) (line_text (bytes "rows=") (decimal_text rows) ++ (line_text (bytes "facts=") (decimal_text facts) ++ (line_text (bytes "clash=") (decimal_text (one_if clash)) ++ l))) (in_line_by (bytes "answer=") refl) (number_in_line 0) in
    let b = line_first (bytes "rows=") (decimal_text rows) (line_text (bytes "facts=") (decimal_text facts) ++ (line_text (bytes "clash=") (decimal_text (one_if clash)) ++ l)) (in_line_by (bytes "rows=") refl) (number_in_line rows) in
    let c = line_first (bytes "facts=") (decimal_text facts) (line_text (bytes "clash=") (decimal_text (one_if clash)) ++ l) (in_line_by (bytes "facts=") refl) (number_in_line facts) in
    let d = line_first (bytes "clash=") (decimal_text (one_if clash)) l (in_line_by (bytes "clash=") refl) (number_in_line (one_if clash)) in
    simp append_assoc (rw (a, b, c, d))

signal_lines : (name m l : List ℕ) → InLine name → InLine m → lines_of (signal_text name m ++ l) ≡ (bytes "signal=" ++ name) ∷ (bytes "marks=" ++ m) ∷ lines_of l
unfolding signal_text
signal_lines name m l h k =
    let a = line_first (bytes "signal=") name (line_text (bytes "marks=") m ++ l) (in_line_by (bytes "signal=") refl) h in
    let b = line_first (bytes "marks=") m l (in_line_by (bytes "marks=") refl) k in
    rw (append_assoc, a, b)

-- ---- its signs

sign_there : (f : ℕ → Answer) (t n i : ℕ) → i < n → get_or (signs f t n) i 0 ≡ sign_byte (f (t + i))
unfolding signs
sign_there f t zero i h = absurd (omega arith)
sign_there f t (suc n) zero h = let z : t + 0 ≡ t = omega arith in rw z
sign_there f t (suc n) (suc i) h = let z : suc t + i ≡ t + suc i = omega arith in rw z at (sign_there f (suc t) n i (omega arith))

no_sign : (f : ℕ → Answer) (t n i : ℕ) → n ≤ i → get_or (signs f t n) i 0 ≡ 0
unfolding signs
no_sign f t zero i h = refl
no_sign f t (suc n) zero h = absurd (omega arith)
no_sign f t (suc n) (suc i) h = no_sign f (suc t) n i (omega arith)

-- A sign that is shown under a name is that of an answer to a signal with that name.
record Signed (names : List (List ℕ)) (W : ℕ) (f : ℕ → ℕ → Answer) (w : List ℕ) (t b : ℕ) : Type 0 where
  signal : ℕ
  within : signal < length names
  called : get_or names signal [] ≡ w
  tick : t < W
  is : sign_byte (f signal t) ≡ b

-- A line with another first byte names no signal.
other_line : (b : ℕ) (l w : List ℕ) → (b ≡ byte "s" → ⊥) → b ∷ l ≡ bytes "signal=" ++ w → ⊥
other_line b l w n e = n (ap (λ (v : List ℕ). get_or v 0 0) e)

-- The sign at a tick after `marks=`.
marked : (names : List (List ℕ)) (W : ℕ) (f : ℕ → ℕ → Answer) (x : ℕ) (w : List ℕ) (t b : ℕ) → x < length names → get_or names x [] ≡ w → 0 < b
    → get_or (bytes "marks=" ++ signs (f x) 0 W) (length (bytes "marks=") + t) 0 ≡ b → Signed names W f w t b
marked names W f x w t b h called some e = go (dec_lt t W)
  where
    sign_is : get_or (signs (f x) 0 W) t 0 ≡ b
    sign_is = sym (get_or-append-add (bytes "marks=") (signs (f x) 0 W) t 0) ∙ e

    go : Dec (t < W) → Signed names W f w t b
    go (yes j) = record { signal = x; within = h; called = called; tick = j; is = sym (rw (zero-add t) at (sign_there (f x) 0 W t j)) ∙ sign_is }
    go (no j) = absurd (omega (arith, sign_is, no_sign (f x) 0 W t (omega arith)))

same_called : (w v : List ℕ) → bytes "signal=" ++ w ≡ bytes "signal=" ++ v → w ≡ v
same_called w v e = ap (drop 7) e

-- What the lines ls show under a name is so.
abbrev Told : List (List ℕ) → ℕ → (ℕ → ℕ → Answer) → List (List ℕ) → Type 0
Told names W f ls = (i t b : ℕ) (w : List ℕ) → 0 < b → get_or ls i [] ≡ bytes "signal=" ++ w → get_or (get_or ls (suc i) []) (length (bytes "marks=") + t) 0 ≡ b → Signed names W f w t b

-- The two lines of a signal, before others.
told_more : (names : List (List ℕ)) (W : ℕ) (f : ℕ → ℕ → Answer) (x : ℕ) (ls : List (List ℕ)) → x < length names → Told names W f ls
    → Told names W f ((bytes "signal=" ++ get_or names x []) ∷ (bytes "marks=" ++ signs (f x) 0 W) ∷ ls)
told_more names W f x ls h k zero t b w some e g = marked names W f x w t b h (same_called (get_or names x []) w e) some g
told_more names W f x ls h k (suc zero) t b w some e g = absurd (other_line (byte "m") _ w (λ z. omega arith) e)
told_more names W f x ls h k (suc (suc i)) t b w some e g = k i t b w some e g

-- All signals' lines.
signals_told : (names : List (List ℕ)) (W : ℕ) (f : ℕ → ℕ → Answer) → All InLine names → (xs : List ℕ) → All (λ x. x < length names) xs → Told names W f (lines_of (signals_text W f names xs))
unfolding signals_text lines_of
signals_told names W f h [] a = λ i t b w some e g. absurd (omega (arith, ap length e))
signals_told names W f h (x ∷ xs) a =
    rw (signal_lines (get_or names x []) (signs (f x) 0 W) (signals_text W f names xs) (all_nth InLine [] names x h a.0) (signs_in_line (f x) 0 W))
    (told_more names W f x (lines_of (signals_text W f names xs)) a.0 (signals_told names W f h xs a.1))

signed : (names : List (List ℕ)) (W rows facts : ℕ) (clash : Bool) (f : ℕ → ℕ → Answer) → All InLine names → (i t b : ℕ) (w : List ℕ) → 0 < b
    → Names (listing_text names W rows facts clash f) i w → sign_under (listing_text names W rows facts clash f) i t ≡ b → Signed names W f w t b
unfolding listing_text
signed names W rows facts clash f h i t b w some e g =
    let n : marks_line i ≡ suc i = omega arith in
    let head = head_lines_lem rows facts clash (signals_text W f names (in_order_lem names)) in
    go i (rw head at e) (rw (head, n) at g)
  where
    lines : List (List ℕ)
    lines = (bytes "answer=" ++ decimal_text 0) ∷ (bytes "rows=" ++ decimal_text rows) ∷ (bytes "facts=" ++ decimal_text facts) ∷ (bytes "clash=" ++ decimal_text (one_if clash)) ∷ lines_of (signals_text W f names (in_order_lem names))

    go : (i : ℕ) → get_or lines i [] ≡ bytes "signal=" ++ w → get_or (get_or lines (suc i) []) (length (bytes "marks=") + t) 0 ≡ b → Signed names W f w t b
    go zero e g = absurd (other_line (byte "a") _ w (λ z. omega arith) e)
    go (suc zero) e g = absurd (other_line (byte "r") _ w (λ z. omega arith) e)
    go (suc (suc zero)) e g = absurd (other_line (byte "f") _ w (λ z. omega arith) e)
    go (suc (suc (suc zero))) e g = absurd (other_line (byte "c") _ w (λ z. omega arith) e)
    go (suc (suc (suc (suc i)))) e g = signals_told names W f h (in_order_lem names) (order_within names) i t b w some e g

-- A value's sign is no other answer's.
sign_value : (a : Answer) (v : Bool) → sign_byte a ≡ shown v → a ≡ valued v
sign_value True true e = refl
sign_value False false e = refl
sign_value True false e = absurd (omega arith)
sign_value False true e = absurd (omega arith)
sign_value Unsettled true e = absurd (omega arith)
sign_value Unsettled false e = absurd (omega arith)
sign_value Contradiction true e = absurd (omega arith)
sign_value Contradiction false e = absurd (omega arith)

sign_some : (v : Bool) → 0 < shown v
sign_some true = omega arith
sign_some false = omega arith

clash_shown : (clash : Bool) → bytes "clash=" ++ decimal_text (one_if clash) ≡ bytes "clash=1" → clash ≡ true
unfolding decimal_text
clash_shown true e = refl
clash_shown false e = let z = ap (λ (l : List ℕ). get_or l 6 0) (rw (digits_one 19 0 (omega arith)) at e) in absurd (omega arith)

-- ---- a refusal's lines

refusal_lines : (n p : ℕ) → lines_of (refusal_text n p) ≡ (bytes "answer=" ++ decimal_text n) ∷ (bytes "place=" ++ decimal_text p) ∷ []
unfolding lines_of refusal_text
refusal_lines n p =
    let a = line_first (bytes "answer=") (decimal_text n) (line_text (bytes "place=") (decimal_text p)) (in_line_by (bytes "answer=") refl) (number_in_line n) in
    let b = line_first (bytes "place=") (decimal_text p) [] (in_line_by (bytes "place=") refl) (number_in_line p) in
    a ∙ ap (λ (ls : List (List ℕ)). (bytes "answer=" ++ decimal_text n) ∷ ls) (ap lines_of (sym (append-nil (line_text (bytes "place=") (decimal_text p)))) ∙ b)

-- A line past the second is not there.
no_line : (n p i : ℕ) → 2 ≤ i → line_of (refusal_text n p) i ≡ []
no_line n p i h = get_or-eq_default (lines_of (refusal_text n p)) [] (omega (arith, ap length (refusal_lines n p)))

-- So a refusal names no signal, and shows no clash.
no_name : (n p i : ℕ) (w : List ℕ) → Names (refusal_text n p) i w → ⊥
no_name n p i w e = go i (rw (refusal_lines n p) at e)
  where
    go : (i : ℕ) → get_or ((bytes "answer=" ++ decimal_text n) ∷ (bytes "place=" ++ decimal_text p) ∷ []) i [] ≡ bytes "signal=" ++ w → ⊥
    go zero e = other_line (byte "a") _ w (λ z. omega arith) e
    go (suc zero) e = other_line (byte "p") _ w (λ z. omega arith) e
    go (suc (suc i)) e = omega (arith, ap length e)

no_clash : (n p : ℕ) → line_of (refusal_text n p) 3 ≡ bytes "clash=1" → ⊥
no_clash n p e = omega (arith, ap length (sym (no_line n p 3 (omega arith)) ∙ e))

-- ---- histories

module _ {s r : List ℕ} {k : Contents} (x : SheetAccepted s k) (h : History) (obeys : Obeys (meant k) h) (agrees : AgreesWith s k (r ∷ []) h) where
  value_shown : {l : List ℕ} → Shown s r l → (i y t : ℕ) (v : Bool) → y < length (names_in s k) → Names l i (get_or (names_in s k) y []) → sign_under l i t ≡ shown v → h y (pos t) ≡ v
  value_shown (refusal n p) i y t v l w z = absurd (no_name n p i (get_or (names_in s k) y []) w)
  value_shown (listing {k = c} {U = U} {clash = clash} {f = f} e a q) i y t v l w z =
      let same : k ≡ c = accepted_one (sym (in_sheet_text s x) ∙ e) in
      let names = names_in s c in
      let text = listing_text names c.window (row_count_lem (meant c)) (facts_of (meant c) U) clash f in
      let m = subst (λ (d : Contents). y < length (names_in s d)) same l in
      let g = signed names c.window (row_count_lem (meant c)) (facts_of (meant c) U) clash f (names_in_line s c.places) i t (shown v) (get_or names y []) (sign_some v) (subst (λ (d : Contents). Names text i (get_or (names_in s d) y [])) same w) z in
      let one : g.signal ≡ y = (names_declarable s e).differ g.signal y g.within m g.called in
      let j : y < length c.places = omega (arith, m, names_many s c.places) in
      let told : sign_byte (f y t) ≡ shown v = subst (λ (u : ℕ). sign_byte (f u t) ≡ shown v) one g.is in
      let w : Asked (Standing (meant c) U) y t (valued v) = subst (Asked (Standing (meant c) U) y t) (sign_value (f y t) v told) (q y j t g.tick) in
      told_holds (record { sheet = sheet_in_lem s e; run = call a done }) h (subst (λ (d : Contents). Obeys (meant d) h) same obeys) (subst (λ (d : Contents). AgreesWith s d (r ∷ []) h) same agrees) v (j, g.tick) w

  clash_told : {l : List ℕ} → Shown s r l → line_of l 3 ≡ bytes "clash=1" → ⊥
  unfolding listing_text
  clash_told (refusal n p) z = no_clash n p z
  clash_told (listing {k = c} {U = U} {new = new} {clash = clash} {f = f} e a q) z =
      let i : k ≡ c = accepted_one (sym (in_sheet_text s x) ∙ e) in
      let told : clash ≡ true = clash_shown clash (sym (ap (λ (ls : List (List ℕ)). get_or ls 3 []) (head_lines_lem (row_count_lem (meant c)) (facts_of (meant c) U) clash (signals_text c.window f (names_in s c) (in_order_lem (names_in s c))))) ∙ z) in
      no_clash_told (record { sheet = sheet_in_lem s e; run = call a done }) h (subst (λ (d : Contents). Obeys (meant d) h) i obeys) (subst (λ (d : Contents). AgreesWith s d (r ∷ []) h) i agrees) new
      (Memᴰ.head (ap (λ (b : Bool). accepted (gain new b)) (sym told)))

  -- Where the listing program prints 1 or 0 under a signal's name, the history has that value,
  pub listing_value : {l : List ℕ} → Settles s r l → (i y t : ℕ) (v : Bool) → y < length (names_in s k) → Names l i (get_or (names_in s k) y []) → sign_under l i t ≡ shown v → h y (pos t) ≡ v
  listing_value x = value_shown (shown_by x)

  -- and where it prints clash=1, there is none.
  pub listing_clash : {l : List ℕ} → Settles s r l → line_of l 3 ≡ bytes "clash=1" → ⊥
  listing_clash x = clash_told (shown_by x)
