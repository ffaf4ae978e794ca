-- The marks of readings texts: texts that are among others have their marks among theirs, and the marks of accepted texts are theirs in turn.
-- Assumes nothing. s is the sheet's text and k its contents.
use mathlib.Core.Path.{◌≡◌, refl, sym, ap, ◌∙◌, subst}
use mathlib.Core.List.Memᴰ
use mathlib.Core.List.{List, [], ◌∷◌, ◌++◌, flatten, Memᴰ}
use mathlib.Core.Logic.{⊎_elim}
use Prim.Native.Nat.{ℕ}
use Rattle.read_bytes.specs.Read.{Read}
use Rattle.spec_tilco.specs.Inference.{Mark}
use Rattle.spec_tilco.specs.Table.{ReadMarks}
use Rattle.spec_tilco.specs.Calls.{Call, readings_of, Some}
use Rattle.spec_tilco.specs.Calls as tilco
use Rattle.read_sheet.specs.Sheet.{Contents}
use Rattle.read_bytes.specs.Read.Read.{got, refused as unread}
use Rattle.read_readings.specs.Readings.{readings}
use Rattle.read_readings.proofs.Cuts.{AllAccepted}
use Rattle.read_readings.proofs.Cuts.AllAccepted.{none, one}
use Rattle.open_sheet.specs.SheetIn.{names_in}
use Rattle.proof_demands.specs.Refusals.{ReadingsAccepted}
use Rattle.proof_demands.specs.Runs.{ReadIn}
use Rattle.proof_demands.proofs.Refusals.{readings_in, in_readings}
use Rattle.proof_demands.proofs.Runs.{call_of, calls, marks_in}

-- ---- calls by what is among them

-- An accepted call, and a mark that is one of its readings.
call_taken : (cs : List Call) {R : List Mark} {m : Mark} → Memᴰ (tilco.add R) cs → ReadMarks R m → ReadMarks (readings_of cs) m
call_taken [] i j = absurd (Memᴰ.not-nil i)
call_taken (c ∷ cs) {R} {m} i j = ⊎_elim (first c) (λ x. later c (call_taken cs x j)) (Memᴰ.cases_cons i)
  where
    first : (c : Call) → tilco.add R ≡ c → ReadMarks (readings_of (c ∷ cs)) m
    first c e = subst (λ (d : Call). ReadMarks (readings_of (d ∷ cs)) m) e (Memᴰ.append_left (readings_of cs) j)

    later : (c : Call) → ReadMarks (readings_of cs) m → ReadMarks (readings_of (c ∷ cs)) m
    later (tilco.add Q) x = Memᴰ.append_right Q x
    later tilco.refused x = x

taken_call : (cs : List Call) {m : Mark} → ReadMarks (readings_of cs) m → (R : List Mark) × Memᴰ (tilco.add R) cs × ReadMarks R m
taken_call [] i = absurd (Memᴰ.not-nil i)
taken_call (tilco.add R ∷ cs) i =
    ⊎_elim (λ j. (R, Memᴰ.head refl, j)) (λ j. let x = taken_call cs j in (x.0, Memᴰ.tail x.1, x.2)) (Memᴰ.append_cases R i)
taken_call (tilco.refused ∷ cs) i = let x = taken_call cs i in (x.0, Memᴰ.tail x.1, x.2)

call_some : (cs : List Call) {R : List Mark} → Memᴰ (tilco.add R) cs → Some cs
call_some [] i = absurd (Memᴰ.not-nil i)
call_some (tilco.add Q ∷ cs) i = tt
call_some (tilco.refused ∷ cs) {R} i = ⊎_elim (λ e. absurd (not_so e)) (λ j. call_some cs j) (Memᴰ.cases_cons i)
  where
    not_so : tilco.add R ≡ tilco.refused → ⊥
    not_so e = subst (λ (c : Call). Some (c ∷ [])) e tt

some_call : (cs : List Call) → Some cs → (R : List Mark) × Memᴰ (tilco.add R) cs
some_call [] x = absurd x
some_call (tilco.add R ∷ cs) x = (R, Memᴰ.head refl)
some_call (tilco.refused ∷ cs) x = let y = some_call cs x in (y.0, Memᴰ.tail y.1)

-- An accepted call is of an accepted text.
got_call : (R : Read (List Mark)) {ms : List Mark} → call_of R ≡ tilco.add ms → (q : ℕ) × (R ≡ got ms q)
got_call (got ns q) {ms} e = let z : ns ≡ ms = cc in (q, ap (λ (l : List Mark). got l q) z)
got_call (unread n p) e = absurd (subst (λ (c : Call). Some (c ∷ [])) (sym e) tt)

module _ (s : List ℕ) (k : Contents) where
  -- ---- the same texts

  text_call : (rs : List (List ℕ)) {r : List ℕ} → Memᴰ r rs → Memᴰ (call_of (readings (names_in s k) k.window r)) (calls s k rs)
  text_call [] i = absurd (Memᴰ.not-nil i)
  text_call (t ∷ rs) i =
      ⊎_elim (λ e. Memᴰ.head (ap (λ (x : List ℕ). call_of (readings (names_in s k) k.window x)) e)) (λ j. Memᴰ.tail (text_call rs j)) (Memᴰ.cases_cons i)

  call_text : (rs : List (List ℕ)) {c : Call} → Memᴰ c (calls s k rs) → (r : List ℕ) × Memᴰ r rs × (call_of (readings (names_in s k) k.window r) ≡ c)
  call_text [] i = absurd (Memᴰ.not-nil i)
  call_text (t ∷ rs) i = ⊎_elim (λ e. (t, Memᴰ.head refl, sym e)) (λ j. let x = call_text rs j in (x.0, Memᴰ.tail x.1, x.2)) (Memᴰ.cases_cons i)

  module _ (rs qs : List (List ℕ)) (among : (r : List ℕ) → Memᴰ r rs → Memᴰ r qs) where
    call_among : {c : Call} → Memᴰ c (calls s k rs) → Memᴰ c (calls s k qs)
    call_among i = let x = call_text rs i in subst (λ (c : Call). Memᴰ c (calls s k qs)) x.2 (text_call qs (among x.0 x.1))

    -- Texts that are among others: so are their marks,
    pub marks_among : (m : Mark) → ReadMarks (marks_in s k rs) m → ReadMarks (marks_in s k qs) m
    marks_among m i = let x = taken_call (calls s k rs) i in call_taken (calls s k qs) (call_among x.1) x.2

    -- and their accepted calls.
    pub some_among : Some (calls s k rs) → Some (calls s k qs)
    some_among x = let y = some_call (calls s k rs) x in call_some (calls s k qs) (call_among y.1)

  -- ---- accepted texts

  -- The marks of texts that are all accepted.
  pub marks_of_all_lem : {rs : List (List ℕ)} {mss : List (List Mark)} → AllAccepted (names_in s k) k.window rs mss → marks_in s k rs ≡ flatten mss
  unfolding flatten
  marks_of_all_lem none = refl
  marks_of_all_lem (one {r} {ms} {rs} e more) = ap (λ (R : Read (List Mark)). readings_of (call_of R ∷ calls s k rs)) e ∙ ap (λ (ns : List Mark). ms ++ ns) (marks_of_all_lem more)

  -- ---- the readings

  -- The marks of the accepted texts are the readings,
  pub marks_read : (rs : List (List ℕ)) (m : Mark) → ReadMarks (marks_in s k rs) m → ReadIn s k rs m
  marks_read rs m i =
      let x = taken_call (calls s k rs) i in
      let y = call_text rs x.1 in
      record { text = y.0; among = y.1; marks = x.0; reads = readings_in s k y.0 (got_call (readings (names_in s k) k.window y.0) y.2).1; is = x.2 }

  read_call : (rs : List (List ℕ)) {r : List ℕ} {ms : List Mark} → Memᴰ r rs → ReadingsAccepted s k r ms → Memᴰ (tilco.add ms) (calls s k rs)
  read_call rs {r} i y = subst (λ (R : Read (List Mark)). Memᴰ (call_of R) (calls s k rs)) (in_readings s k r y) (text_call rs i)

  pub read_marks : (rs : List (List ℕ)) (m : Mark) → ReadIn s k rs m → ReadMarks (marks_in s k rs) m
  read_marks rs m x = call_taken (calls s k rs) (read_call rs x.among x.reads) x.is

  -- and with an accepted text there is an accepted call.
  pub read_some : (rs : List (List ℕ)) {r : List ℕ} {ms : List Mark} → Memᴰ r rs → ReadingsAccepted s k r ms → Some (calls s k rs)
  read_some rs i y = call_some (calls s k rs) (read_call rs i y)
