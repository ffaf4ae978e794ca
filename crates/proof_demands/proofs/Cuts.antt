-- A readings text cut between readings, or between spans, into the texts of calls: each part is accepted, and the last table is that of one call with the whole text.
-- Assumes that the sheet and the text are accepted. s is the sheet's text, k its contents, R the readings' text.
use mathlib.Core.Path.{◌≡◌, refl, sym, ap, subst, ◌∙◌}
use mathlib.Core.Bool.{Bool}
use mathlib.Core.List.Memᴰ
use mathlib.Core.List.{List, [], ◌∷◌, ◌++◌, append-nil, append_assoc, flatten, Memᴰ}
use mathlib.Core.Logic.{⊎_elim, ◌↔◌}
use Prim.Native.Nat.{ℕ, zero, suc, ◌<◌}
use native.Mathlib.Omega.{arith}
use lib.ListN.{length, take, drop}
use Rattle.read_bytes.specs.Read.{Read}
use Rattle.read_bytes.specs.Read.Read.{got}
use Rattle.read_bytes.specs.Bytes.{bytes}
use Rattle.read_bytes.proofs.Answers.{not_both}
use Rattle.spec_tilco.specs.Lists.{total}
use Rattle.spec_tilco.specs.Inference.{Mark}
use Rattle.spec_tilco.specs.Table.{facts_of, ReadMarks}
use Rattle.spec_tilco.specs.Calls.{Some}
use Rattle.read_sheet.specs.Sheet.{Contents, meant}
use Rattle.read_reading.specs.Spans.{Span}
use Rattle.read_reading.specs.OneEntry.{entry}
use Rattle.read_readings.specs.Readings.{in_spans, readings}
use Rattle.read_readings.proofs.Turns.{every}
use Rattle.read_readings.proofs.Cuts.{AllAccepted, parts_accepted}
use Rattle.read_readings.proofs.Cuts.AllAccepted.{none, one}
use Rattle.spec_grammar.specs.Lines.{after}
use Rattle.spec_grammar.specs.ReadingLines.{Next, Reached}
use Rattle.spec_grammar.specs.ReadingLines.Reached.{start, line}
use Rattle.spec_grammar.proofs.ReadingLines.{form_told, reached_reads}
use Rattle.spec_grammar.proofs.Prefixes.{reached_narrow}
use Rattle.open_sheet.specs.Results.{Result, accepted, refused}
use Rattle.open_sheet.specs.SheetIn.{sheet_in, names_in, blank}
use Rattle.open_table.specs.Opens.{Opens}
use Rattle.spec_operations.specs.Gain.{Gain}
use Rattle.spec_operations.specs.Operations.{Adds}
use Rattle.list_settled.proofs.Printing.{refused_keeps}
use Rattle.proof_demands.specs.Refusals.{SheetAccepted, ReadingsAccepted}
use Rattle.proof_demands.specs.Runs.{RunTexts, new_in}
use Rattle.proof_demands.specs.Runs.RunTexts.{done, call}
use Rattle.proof_demands.specs.Cuts.{Boundary, first, last_line, CutInto, Given, given, RunCalls, PartsOrRefused, InCalls}
use Rattle.proof_demands.specs.Cuts.RunCalls.{done as no_call, call as one_call}
use Rattle.proof_demands.specs.Cuts.PartsOrRefused.{none as no_more, part, refusal}
use Rattle.proof_demands.proofs.Refusals.{in_sheet_text, readings_in, in_readings}
use Rattle.proof_demands.proofs.Runs.{Step, unchanged, step_of, step_opens, blank_opens, call_of, calls, marks_in}
use Rattle.proof_demands.proofs.Texts.{marks_among, some_among, marks_of_all_lem}
use Rattle.proof_demands.proofs.LastTable.{by_marks, news_add_up}

-- ---- the parts

-- At a boundary the lines before it are right, in the text's form, and an entry comes next.
boundary_reached : {names : List (List ℕ)} {W p : ℕ} {R : List ℕ} → Boundary names W R p → (es : List Span) × Reached (in_spans R) names W R (Next.ticks es) p
boundary_reached first = ([], start)
boundary_reached {names} {W} {R = R} (last_line {p = p} {ds = ds} {v = v} h b a d) =
    (ds, subst (λ (form : Bool). Reached form names W R (Next.ticks ds) (after p (bytes "value=" ++ v))) (sym (form_told h)) (line b a d))

-- A text in parts, up to one of them and from there on.
in_two : (n : ℕ) (parts : List (List ℕ)) → flatten (take n parts) ++ flatten (drop n parts) ≡ flatten parts
unfolding flatten
in_two zero parts = refl
in_two (suc n) [] = refl
in_two (suc n) (r ∷ parts) = append_assoc r (flatten (take n parts)) (flatten (drop n parts)) ∙ ap (λ (x : List ℕ). r ++ x) (in_two n parts)

module _ {s : List ℕ} {k : Contents} {R : List ℕ} {ms : List Mark} {parts : List (List ℕ)} (y : ReadingsAccepted s k R ms) (c : CutInto s k R parts) where
  -- Up to a boundary the text's entries are read, in the whole text's form.
  up_to_lem : (n : ℕ) → n < length parts
      → (es : List Span) × (every (entry (in_spans (flatten parts)) (names_in s k) k.window (flatten (take n parts))) (flatten (take n parts)) ≡ got es (length (flatten (take n parts))))
  up_to_lem n l =
      let left : List ℕ = flatten (take n parts) in
      let right : List ℕ = flatten (drop n parts) in
      let whole : left ++ right ≡ R = in_two n parts ∙ c.joined in
      let b = boundary_reached (c.begin n l) in
      let z = reached_narrow left right (subst (λ (x : List ℕ). Reached (in_spans R) (names_in s k) k.window x (Next.ticks b.0) (length left)) (sym whole) b.1) (omega arith) in
      let reads = reached_reads (names_in s k) k.window left (in_spans R) z in
      (b.0, subst (λ (form : Bool). every (entry form (names_in s k) k.window left) left ≡ got b.0 (length left)) (ap in_spans (sym c.joined)) reads)

  all_parts : (mss : List (List Mark)) × AllAccepted (names_in s k) k.window parts mss × (flatten mss ≡ ms)
  all_parts =
      let e : readings (names_in s k) k.window (flatten parts) ≡ got ms (length (flatten parts)) = subst (λ (x : List ℕ). readings (names_in s k) k.window x ≡ got ms (length x)) (sym c.joined) (in_readings s k R y) in
      parts_accepted (names_in s k) k.window parts e (omega (arith, ap length c.joined, y.short)) up_to_lem

-- One of accepted texts.
accepted_at : {names : List (List ℕ)} {W : ℕ} {rs : List (List ℕ)} {mss : List (List Mark)} {r : List ℕ} → AllAccepted names W rs mss → Memᴰ r rs → (ns : List Mark) × (readings names W r ≡ got ns (length r))
accepted_at none i = absurd (Memᴰ.not-nil i)
accepted_at {names} {W} {r = r} (one {ms = ms} e more) i =
    ⊎_elim (λ z. (ms, subst (λ (x : List ℕ). readings names W x ≡ got ms (length x)) (sym z) e)) (λ j. accepted_at more j) (Memᴰ.cases_cons i)

-- A call is accepted, where there is one at all.
some_accepted : (s : List ℕ) (k : Contents) {rs : List (List ℕ)} {mss : List (List Mark)} → AllAccepted (names_in s k) k.window rs mss → 0 < length rs → Some (calls s k rs)
some_accepted s k none h = absurd (omega arith)
some_accepted s k (one {rs = rs} e more) h = subst (λ (R : Read (List Mark)). Some (call_of R ∷ calls s k rs)) (sym e) tt

-- ---- the calls

-- The calls that have the sheet and a part, without the refused ones: they end in the same table and report the same facts.
record Left (s : List ℕ) (parts : List (List ℕ)) (T : List ℕ) (cs : List Given) (U : List ℕ) (answers : List (Result Gain)) : Type 0 where
  texts : List (List ℕ)
  told : List (Result Gain)
  run : RunTexts s T texts U told
  within : (r : List ℕ) → Memᴰ r texts → Memᴰ r parts
  each : (r : List ℕ) → Memᴰ r parts → Memᴰ (given s r) cs → Memᴰ r texts
  sum : total new_in answers ≡ total new_in told

module _ (s : List ℕ) (k : Contents) (e : sheet_in s ≡ accepted k) (parts : List (List ℕ))
    (right : (r : List ℕ) → Memᴰ r parts → (ns : List Mark) × (readings (names_in s k) k.window r ≡ got ns (length r))) where
  -- A call with a part is not refused.
  not_refused : {r T U : List ℕ} {n p : ℕ} → Opens s T (accepted k) → Memᴰ r parts → Adds s r T U (refused n p) → ⊥
  not_refused {r} {T} {U} {n} {p} o i a = go (step_of o a)
    where
      go : Step s k r T U (refused n p) → ⊥
      go (unchanged f z) = not_both (sym (right r i).1 ∙ f)

  -- One more call with a part, and one more refused.
  with_part : {T T' U : List ℕ} {c : Given} {cs : List Given} {a : Result Gain} {answers : List (Result Gain)} → c.sheet ≡ s → Memᴰ c.readings parts
      → Adds c.sheet c.readings T T' a → Left s parts T' cs U answers → Left s parts T (c ∷ cs) U (a ∷ answers)
  with_part {T} {T'} {c = c} {a = a} z i x l = record {
    texts = c.readings ∷ l.texts;
    told = a ∷ l.told;
    run = call (subst (λ (t : List ℕ). Adds t c.readings T T' a) z x) l.run;
    within = λ r j. ⊎_elim (λ f. subst (λ (t : List ℕ). Memᴰ t parts) (sym f) i) (λ m. l.within r m) (Memᴰ.cases_cons j);
    each = λ r j m. ⊎_elim (λ f. Memᴰ.head (ap (λ (g : Given). g.readings) f)) (λ n. Memᴰ.tail (l.each r j n)) (Memᴰ.cases_cons m);
    sum = omega (arith, l.sum);
  }

  with_refusal : {T T' U : List ℕ} {c : Given} {cs : List Given} {n p : ℕ} {answers : List (Result Gain)} → Opens s T (accepted k) → Adds c.sheet c.readings T T' (refused n p)
      → Left s parts T cs U answers → Left s parts T (c ∷ cs) U (refused n p ∷ answers)
  with_refusal {T} {T'} {c = c} {n = n} {p = p} o x l = record {
    texts = l.texts;
    told = l.told;
    run = l.run;
    within = l.within;
    each = λ r j m. ⊎_elim (λ f. absurd (not_refused o j (subst (λ (g : Given). Adds g.sheet g.readings T T' (refused n p)) (sym f) x))) (λ i. l.each r j i) (Memᴰ.cases_cons m);
    sum = omega (arith, l.sum);
  }

  without_refused : {T U : List ℕ} {cs : List Given} {answers : List (Result Gain)} → Opens s T (accepted k) → RunCalls T cs U answers → PartsOrRefused s parts cs answers → Left s parts T cs U answers
  without_refused o no_call no_more = record { texts = []; told = []; run = done; within = λ r i. absurd (Memᴰ.not-nil i); each = λ r i j. absurd (Memᴰ.not-nil j); sum = refl }
  without_refused {T} o (one_call {c} {T' = T'} {a = a} x run) (part z i more) =
      let y = step_of o (subst (λ (t : List ℕ). Adds t c.readings T T' a) z x) in
      with_part z i x (without_refused (step_opens s k e o y) run more)
  without_refused {T} {U} o (one_call {cs = cs} {answers = answers} x run) (refusal more) =
      with_refusal o x (without_refused o (subst (λ (X : List ℕ). RunCalls X cs U answers) (refused_keeps x) run) more)

-- ---- the last table

module _ {s R : List ℕ} {k : Contents} {ms : List Mark} {parts : List (List ℕ)} (x : SheetAccepted s k) (y : ReadingsAccepted s k R ms) (c : CutInto s k R parts) where
  sheet_is : sheet_in s ≡ accepted k
  sheet_is = in_sheet_text s x

  -- Each part is accepted.
  pub part_accepted : (r : List ℕ) → Memᴰ r parts → (ns : List Mark) × ReadingsAccepted s k r ns
  part_accepted r i = let z = accepted_at (all_parts y c).1 i in (z.0, readings_in s k r z.1)

  module _ {cs : List Given} {U : List ℕ} {answers : List (Result Gain)} (run : RunCalls (blank k) cs U answers) (i : InCalls s parts cs answers) where
    left : Left s parts (blank k) cs U answers
    left = without_refused s k sheet_is parts (λ r j. accepted_at (all_parts y c).1 j) (blank_opens s k sheet_is) run i.others

    -- The new facts reported add up,
    pub parts_add_up : total new_in answers ≡ facts_of (meant k) U
    parts_add_up = left.sum ∙ news_add_up (record { sheet = x; run = left.run })

    -- and the last table is that of one call with the whole text.
    pub parts_as_one : {U' : List ℕ} {a : Result Gain} → Adds s R (blank k) U' a → U ≡ U'
    unfolding flatten
    parts_as_one b =
        by_marks (record { sheet = x; run = left.run }) (record { sheet = x; run = call b done }) (some_among s k parts left.texts among some) (some_accepted s k whole (omega arith)) same
      where
        among : (r : List ℕ) → Memᴰ r parts → Memᴰ r left.texts
        among r j = left.each r j (i.each r j)

        some : Some (calls s k parts)
        some = some_accepted s k (all_parts y c).1 c.some

        whole : AllAccepted (names_in s k) k.window (R ∷ []) (ms ∷ [])
        whole = one (in_readings s k R y) none

        joined : marks_in s k parts ≡ marks_in s k (R ∷ [])
        joined = marks_of_all_lem s k (all_parts y c).1 ∙ (all_parts y c).2 ∙ sym (append-nil ms) ∙ sym (marks_of_all_lem s k whole)

        same : (m : Mark) → ReadMarks (marks_in s k left.texts) m ↔ ReadMarks (marks_in s k (R ∷ [])) m
        same m = (
          λ j. subst (λ (l : List Mark). ReadMarks l m) joined (marks_among s k left.texts parts left.within m j),
          λ j. marks_among s k parts left.texts among m (subst (λ (l : List Mark). ReadMarks l m) (sym joined) j),
        )
