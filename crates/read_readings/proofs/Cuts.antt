-- Readings texts one after another: what follows an accepted text of the same form is read as by itself. So where a text is cut between entries changes nothing.
-- Assumes of a text that is made of others that it is at most 32,768 bytes, where it is read as one.
use mathlib.Core.Path.{◌≡◌, refl, sym, ap, subst, ◌∙◌}
use mathlib.Core.Bool.{Bool, true, false, and-eq-true_iff}
use mathlib.Core.List.{List, [], ◌∷◌, ◌++◌, map, flatten}
use Prim.Native.Nat.{ℕ, ◌<◌, ◌≤◌}
use native.Mathlib.Decide.{dec_lt}
use native.Mathlib.Omega.{arith}
use borrow.Author.Tests.{eqb-true, lt-ltb}
use lib.Dec.{eqb}
use lib.ListN.{length, take, length-append}
use lib.Seq.{take_all}
use Rattle.spec_limits.specs.Limits.{most_bytes}
use Rattle.read_bytes.specs.Read.Read.{got}
use Rattle.read_bytes.specs.Bytes.{byte, bytes, peek, starts}
use Rattle.read_lines.specs.Lines.{up_to}
use Rattle.read_bytes.proofs.Answers.{same_value, came}
use Rattle.spec_tilco.specs.Inference.{Mark}
use Rattle.read_reading.specs.Spans.{Span, marks_of_all}
use Rattle.read_reading.specs.OneEntry.{first_key, entry}
use Rattle.read_readings.specs.Readings.{in_spans, entries, readings}
use Rattle.read_reading.proofs.SpanMarks.{marks_of_append}
use Rattle.read_reading.proofs.Lines.{entry_ahead, entry_keyed}
use Rattle.read_reading.proofs.LaterLines.{entry_later, entry_kept}
use Rattle.read_readings.proofs.Turns.{every, entries_short, entries_every, readings_are, readings_entered}
use Rattle.read_readings.proofs.Entries.{Entry, Whole, AllRead, every_end, every_joined, parts_read}
use Rattle.read_readings.proofs.Entries.AllRead.{no_text, text_read}

-- ---- the form

-- A text that begins with an entry's first key has that entry's form.
key_form : (spans : Bool) (r : List ℕ) → starts r 0 (first_key spans) ≡ true → in_spans r ≡ spans
unfolding in_spans starts
key_form true r h = h
key_form false r h =
    let a = ((and-eq-true_iff (eqb (byte "a") (peek r 0)) (starts r 1 (bytes "t="))).0 h).0 in
    let e : byte "a" ≡ peek r 0 = eqb-true (byte "a") (peek r 0) a in
    rw (← e)

module _ (names : List (List ℕ)) (W : ℕ) where
  -- A text whose entries of one form can be read is of that form, or empty: "an empty text is both".
  pub either_form : (spans : Bool) (r : List ℕ) {es : List Span} {q : ℕ} → every (entry spans names W r) r ≡ got es q → every (entry (in_spans r) names W r) r ≡ got es q
  unfolding up_to
  either_form spans [] e = e
  either_form spans (b ∷ r) {es} {q} e =
      let d = came (entry spans names W (b ∷ r) 0) (λ a v. up_to (entry spans names W (b ∷ r)) (length (b ∷ r)) (length r) (a ∷ []) v) (rw (lt-ltb 0 (length (b ∷ r)) (omega arith)) at e) in
      let f = key_form spans (b ∷ r) (entry_keyed spans names W (b ∷ r) 0 d.first) in
      subst (λ form. every (entry form names W (b ∷ r)) (b ∷ r) ≡ got es q) (sym f) e

  -- An entry is what the laws of texts in parts ask for.
  pub entry_of_text : (spans : Bool) → Entry (entry spans names W)
  entry_of_text spans = record {
    after_text = λ u t i. entry_later u t spans names W i;
    before_text = λ r x p e. entry_kept r x spans names W p e;
    ahead = λ r p e. entry_ahead spans names W r p e;
  }

  -- An accepted text is read up to its end.
  pub entries_end : (r : List ℕ) {es : List Span} {q : ℕ} → entries names W r ≡ got es q → q ≡ length r
  entries_end r {es} {q} e = every_end (entry (in_spans r) names W) (entry_of_text (in_spans r)) r es q (entries_every names W r e)

  pub readings_end : (r : List ℕ) (ms : List Mark) (q : ℕ) → readings names W r ≡ got ms q → q ≡ length r
  readings_end r ms q e = entries_end r (readings_entered names W r e).reads

-- ---- texts in parts

-- Texts each of which is accepted, with the marks of each.
pub data AllAccepted (names : List (List ℕ)) (W : ℕ) : List (List ℕ) → List (List Mark) → Type 0 where
  none : AllAccepted names W [] []
  one : {r : List ℕ} {ms : List Mark} {rs : List (List ℕ)} {mss : List (List Mark)} → readings names W r ≡ got ms (length r) → AllAccepted names W rs mss
      → AllAccepted names W (r ∷ rs) (ms ∷ mss)

-- The marks of entries, text by text.
marks_flatten : (ess : List (List Span)) → marks_of_all (flatten ess) ≡ flatten (map marks_of_all ess)
unfolding flatten marks_of_all
marks_flatten [] = refl
marks_flatten (es ∷ ess) = marks_of_append es (flatten ess) ∙ ap (λ (ms : List Mark). marks_of_all es ++ ms) (marks_flatten ess)

module _ (names : List (List ℕ)) (W : ℕ) (spans : Bool) where
  each_accepted : {rs : List (List ℕ)} {ess : List (List Span)} → AllRead (entry spans names W) rs ess → length (flatten rs) ≤ most_bytes → AllAccepted names W rs (map marks_of_all ess)
  unfolding flatten
  each_accepted no_text h = none
  each_accepted (text_read {r} {u} {q} {rs} e more) h =
      let l = length-append r (flatten rs) in
      let z : got u q ≡ got u (length r) = ap (got u) (every_end (entry spans names W) (entry_of_text names W spans) r u q e) in
      one (readings_are names W r (entries_short names W r (omega arith) ∙ either_form names W spans r e ∙ z)) (each_accepted more (omega arith))

-- An accepted text in parts, accepted up to the end of each part: each part is accepted, and their marks in turn are the text's.
module _ (names : List (List ℕ)) (W : ℕ) (parts : List (List ℕ)) where
  -- A text that is accepted up to a place, read by the whole text's form.
  abbrev Form : Bool
  Form = in_spans (flatten parts)

  pub parts_accepted : {ms : List Mark} → readings names W (flatten parts) ≡ got ms (length (flatten parts)) → length (flatten parts) ≤ most_bytes
      → ((n : ℕ) → n < length parts → (es : List Span) × (every (entry Form names W (flatten (take n parts))) (flatten (take n parts)) ≡ got es (length (flatten (take n parts)))))
      → (mss : List (List Mark)) × AllAccepted names W parts mss × (flatten mss ≡ ms)
  unfolding up_to flatten
  parts_accepted {ms} e h f =
      let d = readings_entered names W (flatten parts) e in
      let z = parts_read (entry Form names W) (entry_of_text names W Form) [] parts (record { entries = []; place = 0; reads = refl }) (up_to_lem d.list d.reads) in
      let same = same_value (sym (every_joined (entry Form names W) (entry_of_text names W Form) z.1) ∙ entries_every names W (flatten parts) d.reads) in
      (map marks_of_all z.0, each_accepted names W Form z.1 h, sym (marks_flatten z.0) ∙ ap marks_of_all same ∙ d.marks)
    where
      up_to_lem : (es : List Span) → entries names W (flatten parts) ≡ got es (length (flatten parts)) → (n : ℕ) → n ≤ length parts → Whole (entry Form names W) (flatten (take n parts))
      up_to_lem es g n l = go (dec_lt n (length parts))
        where
          go : Dec (n < length parts) → Whole (entry Form names W) (flatten (take n parts))
          go (yes i) = record { entries = (f n i).0; place = length (flatten (take n parts)); reads = (f n i).1 }
          go (no i) = subst (λ ps. Whole (entry Form names W) (flatten ps)) (sym (take_all n parts (omega arith))) (record { entries = es; place = length (flatten parts); reads = entries_every names W (flatten parts) g })
