-- The rows of 01's table for texts, one by one: each refusal is given exactly in its case and at its place, at the first line at fault.
-- Assumes that the text has at most 32,768 bytes, but for 1 and 10.
use mathlib.Core.Path.{◌≡◌, refl, sym, ap, subst, ◌∙◌}
use mathlib.Core.Bool.{Bool, true, false, not}
use mathlib.Core.Logic.{◌↔◌, ◌⊎◌, inl, inr, ⊎_elim}
use mathlib.Core.List.{List}
use Prim.Native.Nat.{ℕ, ◌≤◌, ◌<◌}
use native.Mathlib.Omega.{arith}
use native.Mathlib.Decide.{dec_lt}
use borrow.Author.Tests.{lt-leb}
use lib.ListN.{length}
use Rattle.spec_limits.specs.Limits.{most_bytes}
use Rattle.read_bytes.specs.Read.Read.{refused}
use Rattle.read_bytes.specs.Bytes.{byte, bytes, starts}
use Rattle.read_bytes.proofs.Places.{inside}
use Rattle.read_sheet.specs.Sheet.{sheet_of}
use Rattle.read_reading.specs.Spans.{Span}
use Rattle.read_reading.specs.OneEntry.{first_key}
use Rattle.read_readings.specs.Readings.{readings}
use Rattle.read_readings.proofs.Turns.{readings_long}
use Rattle.spec_grammar.specs.RuleFaults.{Wrong}
use Rattle.spec_grammar.specs.SheetLines as sheets
use Rattle.spec_grammar.specs.SheetLines.{Unformed, Followed, OutOfRange, BadName, BadLength, BadFormula, Fault, First, value_at}
use Rattle.spec_grammar.specs.ReadingLines as taking
use Rattle.spec_grammar.proofs.Standing.{starts_head}
use Rattle.spec_grammar.proofs.Lines.{starts_parts}
use Rattle.spec_grammar.proofs.SheetLines.{sheet_refused}
use Rattle.spec_grammar.proofs.ReadingLines.{readings_refused}

-- ---- a sheet

long_sheet : (s : List ℕ) → most_bytes < length s → sheet_of s ≡ refused 1 0
unfolding sheet_of
long_sheet s l = rw (lt-leb (length s) most_bytes l)

-- The number of what is wrong in a formula.
wrong_number : {names : List (List ℕ)} {v : List ℕ} {n k : ℕ} → Wrong names v 0 n k → 5 ≤ n
wrong_number (Wrong.token t b k e) = omega arith
wrong_number (Wrong.name t a n u b) = omega arith
wrong_number (Wrong.offsets t a j n b) = omega arith
wrong_number (Wrong.deep t o a b n) = omega arith

formula_number : {s : List ℕ} {p n i : ℕ} {c : sheets.Next} → BadFormula s p c n i → 5 ≤ n
formula_number (BadFormula.formula a b f) = wrong_number f.wrong

module _ {s : List ℕ} {p : ℕ} {c : sheets.Next} where
  sheet_number : {n i : ℕ} → Fault s p c n i → 2 ≤ n
  sheet_number (Fault.unformed h) = omega arith
  sheet_number (Fault.followed h) = omega arith
  sheet_number (Fault.range h) = omega arith
  sheet_number (Fault.name h) = omega arith
  sheet_number (Fault.size h) = omega arith
  sheet_number (Fault.formula h) = let l = formula_number h in omega arith

  -- Each number's cases.
  two : {n i : ℕ} → n ≡ 2 → Fault s p c n i → (Unformed s p c ⊎ Followed s p c) × (i ≡ p)
  two e (Fault.unformed h) = (inl h, refl)
  two e (Fault.followed h) = (inr h, refl)
  two e (Fault.range h) = absurd (omega arith)
  two e (Fault.name h) = absurd (omega arith)
  two e (Fault.size h) = absurd (omega arith)
  two e (Fault.formula h) = let l = formula_number h in absurd (omega arith)

  three : {n i : ℕ} → n ≡ 3 → Fault s p c n i → OutOfRange s p c × (i ≡ value_at c p)
  three e (Fault.unformed h) = absurd (omega arith)
  three e (Fault.followed h) = absurd (omega arith)
  three e (Fault.range h) = (h, refl)
  three e (Fault.name h) = absurd (omega arith)
  three e (Fault.size h) = absurd (omega arith)
  three e (Fault.formula h) = let l = formula_number h in absurd (omega arith)

  four : {n i : ℕ} → n ≡ 4 → Fault s p c n i → BadName s p c × (i ≡ value_at c p)
  four e (Fault.unformed h) = absurd (omega arith)
  four e (Fault.followed h) = absurd (omega arith)
  four e (Fault.range h) = absurd (omega arith)
  four e (Fault.name h) = (h, refl)
  four e (Fault.size h) = absurd (omega arith)
  four e (Fault.formula h) = let l = formula_number h in absurd (omega arith)

  five : {n i : ℕ} → 5 ≤ n → Fault s p c n i → ((n ≡ 5) × BadLength s p c × (i ≡ value_at c p)) ⊎ BadFormula s p c n i
  five e (Fault.unformed h) = absurd (omega arith)
  five e (Fault.followed h) = absurd (omega arith)
  five e (Fault.range h) = absurd (omega arith)
  five e (Fault.name h) = absurd (omega arith)
  five e (Fault.size h) = inl (refl, h, refl)
  five e (Fault.formula h) = inr h

  at : {n i j : ℕ} → i ≡ j → Fault s p c n j → Fault s p c n i
  at {n} e f = subst (Fault s p c n) (sym e) f

module _ (s : List ℕ) where
  -- "Sheet over its length": 0.
  pub refusal_1 : (i : ℕ) → (sheet_of s ≡ refused 1 i) ↔ ((most_bytes < length s) × (i ≡ 0))
  refusal_1 i = (λ e. go (dec_lt most_bytes (length s)) e, λ h. long_sheet s h.0 ∙ ap (refused 1) (sym h.1))
    where
      go : Dec (most_bytes < length s) → sheet_of s ≡ refused 1 i → (most_bytes < length s) × (i ≡ 0)
      go (yes l) e = (l, (let z = sym e ∙ long_sheet s l in let k : i ≡ 0 = cc in k))
      go (no l) e = let f = (sheet_refused s (omega arith) 1 i).0 e in let k = sheet_number f.holds in absurd (omega arith)

  module _ (fits : length s ≤ most_bytes) where
    row : (n i : ℕ) (Q : sheets.Next → ℕ → Type 0) → ((c : sheets.Next) (p : ℕ) → Fault s p c n i → Q c p) → ((c : sheets.Next) (p : ℕ) → Q c p → Fault s p c n i) → (sheet_of s ≡ refused n i) ↔ First s Q
    row n i Q f g = (λ e. map _ Q f ((sheet_refused s fits n i).0 e), λ h. (sheet_refused s fits n i).1 (map Q _ g h))
      where
        map : (P Q : sheets.Next → ℕ → Type 0) → ((c : sheets.Next) (p : ℕ) → P c p → Q c p) → First s P → First s Q
        map P Q f h = record { next = h.next; place = h.place; reached = h.reached; holds = f h.next h.place h.holds }

    -- "A sheet line is missing, not of its form, out of order or without LF; or bytes follow the last line": "first byte of that line or of the
    -- extra bytes; text length if missing".
    pub refusal_2 : (i : ℕ) → (sheet_of s ≡ refused 2 i) ↔ First s (λ c p. (Unformed s p c ⊎ Followed s p c) × (i ≡ p))
    refusal_2 i = row 2 i _ (λ c p f. two refl f) (λ c p h. at h.1 (⊎_elim Fault.unformed Fault.followed h.0))

    -- "Window, signals or rules outside its range": "first byte of the value".
    pub refusal_3 : (i : ℕ) → (sheet_of s ≡ refused 3 i) ↔ First s (λ c p. OutOfRange s p c × (i ≡ value_at c p))
    refusal_3 i = row 3 i _ (λ c p f. three refl f) (λ c p h. at h.1 (Fault.range h.0))

    -- "Signal name not of its form, reserved or given twice": "first byte of the value".
    pub refusal_4 : (i : ℕ) → (sheet_of s ≡ refused 4 i) ↔ First s (λ c p. BadName s p c × (i ≡ value_at c p))
    refusal_4 i = row 4 i _ (λ c p f. four refl f) (λ c p h. at h.1 (Fault.name h.0))

    -- "Rule length outside 1 to 256": "first byte of the value". "Formula does not fit": "first byte of the first token that cannot follow; the LF if
    -- the rule stops short".
    pub refusal_5 : (i : ℕ) → (sheet_of s ≡ refused 5 i) ↔ First s (λ c p. (BadLength s p c × (i ≡ value_at c p)) ⊎ BadFormula s p c 5 i)
    refusal_5 i =
        row 5 i _ (λ c p f. ⊎_elim (λ h. inl (h.1, h.2)) (λ h. inr h) (five (omega arith) f)) (λ c p h. ⊎_elim (λ k. at k.1 (Fault.size k.0)) Fault.formula h)

    formula_row : (n i : ℕ) → 5 < n → (sheet_of s ≡ refused n i) ↔ First s (λ c p. BadFormula s p c n i)
    formula_row n i l = row n i _ (λ c p f. ⊎_elim (λ h. let e = h.0 in absurd (omega arith)) (λ h. h) (five (omega arith) f)) (λ c p h. Fault.formula h)

    -- "Name not declared": "its first byte".
    pub refusal_6 : (i : ℕ) → (sheet_of s ≡ refused 6 i) ↔ First s (λ c p. BadFormula s p c 6 i)
    refusal_6 i = formula_row 6 i (omega arith)

    -- "A whole interval has an end outside -63 to 63, or no whole number inside": "its opening bracket".
    pub refusal_7 : (i : ℕ) → (sheet_of s ≡ refused 7 i) ↔ First s (λ c p. BadFormula s p c 7 i)
    refusal_7 i = formula_row 7 i (omega arith)

    -- "A 33rd `(` or `!` is open": "that byte".
    pub refusal_8 : (i : ℕ) → (sheet_of s ≡ refused 8 i) ↔ First s (λ c p. BadFormula s p c 8 i)
    refusal_8 i = formula_row 8 i (omega arith)

-- ---- readings

range_number : {spans : Bool} {W n p : ℕ} {r : List ℕ} {c : taking.Next} → taking.OutOfRange spans W r p c n → (n ≡ 13) ⊎ (n ≡ 14)
range_number (taking.OutOfRange.number taking.Ranged.first a n b) = inl refl
range_number (taking.OutOfRange.number taking.Ranged.last a n b) = inl refl
range_number (taking.OutOfRange.number taking.Ranged.bit a n b) = inr refl

module _ {spans : Bool} {names : List (List ℕ)} {W : ℕ} {r : List ℕ} {p : ℕ} {c : taking.Next} where
  readings_number : {n i : ℕ} → taking.Fault spans names W r p c n i → 11 ≤ n
  readings_number (taking.Fault.unformed h) = omega arith
  readings_number (taking.Fault.name h) = omega arith
  readings_number (taking.Fault.range h) = ⊎_elim (λ k. omega arith) (λ k. omega arith) (range_number h)
  readings_number (taking.Fault.to_below h) = omega arith

  eleven : {n i : ℕ} → n ≡ 11 → taking.Fault spans names W r p c n i → taking.Unformed spans W r p c × (i ≡ p)
  eleven e (taking.Fault.unformed h) = (h, refl)
  eleven e (taking.Fault.name h) = absurd (omega arith)
  eleven e (taking.Fault.range h) = absurd (⊎_elim (λ k. omega arith) (λ k. omega arith) (range_number h))
  eleven e (taking.Fault.to_below h) = absurd (omega arith)

  twelve : {n i : ℕ} → n ≡ 12 → taking.Fault spans names W r p c n i → taking.Unknown names r p c × (i ≡ taking.value_at spans c p)
  twelve e (taking.Fault.unformed h) = absurd (omega arith)
  twelve e (taking.Fault.name h) = (h, refl)
  twelve e (taking.Fault.range h) = absurd (⊎_elim (λ k. omega arith) (λ k. omega arith) (range_number h))
  twelve e (taking.Fault.to_below h) = absurd (omega arith)

  ranged : {n i : ℕ} → (n ≡ 13) ⊎ (n ≡ 14) → taking.Fault spans names W r p c n i → taking.OutOfRange spans W r p c n × (i ≡ taking.value_at spans c p)
  ranged e (taking.Fault.unformed h) = absurd (⊎_elim (λ k. omega arith) (λ k. omega arith) e)
  ranged e (taking.Fault.name h) = absurd (⊎_elim (λ k. omega arith) (λ k. omega arith) e)
  ranged e (taking.Fault.range h) = (h, refl)
  ranged e (taking.Fault.to_below h) = absurd (⊎_elim (λ k. omega arith) (λ k. omega arith) e)

  twenty_one : {n i : ℕ} → n ≡ 21 → taking.Fault spans names W r p c n i → taking.Below W r p c × (i ≡ taking.value_at spans c p)
  twenty_one e (taking.Fault.unformed h) = absurd (omega arith)
  twenty_one e (taking.Fault.name h) = absurd (omega arith)
  twenty_one e (taking.Fault.range h) = absurd (⊎_elim (λ k. omega arith) (λ k. omega arith) (range_number h))
  twenty_one e (taking.Fault.to_below h) = (h, refl)

-- The two forms' first keys do not stand at one place,
other_key : (spans : Bool) (r : List ℕ) (p : ℕ) → starts r p (first_key (not spans)) ≡ true → starts r p (first_key spans) ≡ true → ⊥
other_key false r p h k = let a = starts_head r p (byte "f") (bytes "rom=") h in let b = starts_head r p (byte "a") (bytes "t=") k in absurd (omega arith)
other_key true r p h k = let a = starts_head r p (byte "a") (bytes "t=") h in let b = starts_head r p (byte "f") (bytes "rom=") k in absurd (omega arith)

-- and where one stands bytes are left.
other_inside : (spans : Bool) (r : List ℕ) (p : ℕ) → starts r p (first_key (not spans)) ≡ true → p < length r
other_inside false r p h = let a = starts_head r p (byte "f") (bytes "rom=") h in inside r p (λ e. absurd (omega arith))
other_inside true r p h = let a = starts_head r p (byte "a") (bytes "t=") h in inside r p (λ e. absurd (omega arith))

-- The first line at fault of a text in its form: of what comes next at its place Q holds.
abbrev pub FirstIn : List (List ℕ) → ℕ → List ℕ → (Bool → taking.Next → ℕ → Type 0) → Type 0
FirstIn names W r Q = (spans : Bool) × taking.HasForm r spans × taking.First spans names W r (Q spans)

module _ (names : List (List ℕ)) (W : ℕ) (r : List ℕ) where
  -- "Readings over their length": 0.
  pub refusal_10 : (i : ℕ) → (readings names W r ≡ refused 10 i) ↔ ((most_bytes < length r) × (i ≡ 0))
  refusal_10 i = (λ e. go (dec_lt most_bytes (length r)) e, λ h. readings_long names W r h.0 ∙ ap (refused 10) (sym h.1))
    where
      go : Dec (most_bytes < length r) → readings names W r ≡ refused 10 i → (most_bytes < length r) × (i ≡ 0)
      go (yes l) e = (l, (let z = sym e ∙ readings_long names W r l in let k : i ≡ 0 = cc in k))
      go (no l) e = let f = (readings_refused names W r (omega arith) 10 i).0 e in let k = readings_number f.first.holds in absurd (omega arith)

  module _ (fits : length r ≤ most_bytes) where
    readings_row : (n i : ℕ) (Q : Bool → taking.Next → ℕ → Type 0) → ((spans : Bool) (c : taking.Next) (p : ℕ) → taking.Fault spans names W r p c n i → Q spans c p)
        → ((spans : Bool) (c : taking.Next) (p : ℕ) → Q spans c p → taking.Fault spans names W r p c n i) → (readings names W r ≡ refused n i) ↔ FirstIn names W r Q
    readings_row n i Q f g = (
      λ e. (let h = (readings_refused names W r fits n i).0 e in (h.spans, h.form, map h.spans _ (Q h.spans) (f h.spans) h.first)),
      λ h. (readings_refused names W r fits n i).1 (record { spans = h.0; form = h.1; first = map h.0 (Q h.0) _ (g h.0) h.2 }),
    )
      where
        map : (spans : Bool) (P Q : taking.Next → ℕ → Type 0) → ((c : taking.Next) (p : ℕ) → P c p → Q c p) → taking.First spans names W r P → taking.First spans names W r Q
        map spans P Q f h = record { next = h.next; place = h.place; reached = h.reached; holds = f h.next h.place h.holds }

    at_value : {spans : Bool} {n i j p : ℕ} {c : taking.Next} → i ≡ j → taking.Fault spans names W r p c n j → taking.Fault spans names W r p c n i
    at_value {spans} {n} {p = p} {c} e f = subst (taking.Fault spans names W r p c n) (sym e) f

    -- "A readings line is missing, not of its form or without LF": "as for 2".
    pub refusal_11 : (i : ℕ) → (readings names W r ≡ refused 11 i) ↔ FirstIn names W r (λ spans c p. taking.Unformed spans W r p c × (i ≡ p))
    refusal_11 i = readings_row 11 i _ (λ spans c p f. eleven refl f) (λ spans c p h. at_value h.1 (taking.Fault.unformed h.0))

    -- "Unknown name": "first byte of the value".
    pub refusal_12 : (i : ℕ) → (readings names W r ≡ refused 12 i) ↔ FirstIn names W r (λ spans c p. taking.Unknown names r p c × (i ≡ taking.value_at spans c p))
    refusal_12 i = readings_row 12 i _ (λ spans c p f. twelve refl f) (λ spans c p h. at_value h.1 (taking.Fault.name h.0))

    -- "Tick outside the window": "first byte of the value".
    pub refusal_13 : (i : ℕ) → (readings names W r ≡ refused 13 i) ↔ FirstIn names W r (λ spans c p. taking.OutOfRange spans W r p c 13 × (i ≡ taking.value_at spans c p))
    refusal_13 i = readings_row 13 i _ (λ spans c p f. ranged (inl refl) f) (λ spans c p h. at_value h.1 (taking.Fault.range h.0))

    -- "Value is a number other than 0 or 1": "first byte of the value".
    pub refusal_14 : (i : ℕ) → (readings names W r ≡ refused 14 i) ↔ FirstIn names W r (λ spans c p. taking.OutOfRange spans W r p c 14 × (i ≡ taking.value_at spans c p))
    refusal_14 i = readings_row 14 i _ (λ spans c p f. ranged (inr refl) f) (λ spans c p h. at_value h.1 (taking.Fault.range h.0))

    -- "21 when `to` is below `from`, at the `to` value, after 13 on that line."
    pub refusal_21 : (i : ℕ) → (readings names W r ≡ refused 21 i) ↔ FirstIn names W r (λ spans c p. taking.Below W r p c × (i ≡ taking.value_at spans c p))
    refusal_21 i = readings_row 21 i _ (λ spans c p f. twenty_one refl f) (λ spans c p h. at_value h.1 (taking.Fault.to_below h.0))

    -- "A mixed text is 11": at the first line that has to begin an entry of the text's form, and begins with the other form's first key.
    pub mixed_text : {spans : Bool} {es : List Span} {p : ℕ} → taking.HasForm r spans → taking.Reached spans names W r (taking.Next.ticks es) p → starts r p (first_key (not spans)) ≡ true
        → readings names W r ≡ refused 11 p
    mixed_text {spans} {es} {p} h x k =
        (refusal_11 p).1 (spans, h, record { next = taking.Next.ticks es; place = p; reached = x; holds = (record { more = other_inside spans r p k; none = λ v a f. other_key spans r p k (starts_parts r p (first_key spans) v a.stands).0 }, refl) })
