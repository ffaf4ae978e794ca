-- A text of readings in order: there is one for each set of marks, its readings mark just these, and add reads them back.
-- Assumes of what add reads that it is at most 32,768 bytes. `names` are the declared names, W the window, P the marks, r the text.
use mathlib.Core.Path.{◌≡◌, refl, sym, ap, subst, ◌∙◌}
use mathlib.Core.Bool.{Bool, false}
use mathlib.Core.List.Memᴰ
use mathlib.Core.List.{List, [], ◌∷◌, Memᴰ}
use mathlib.Core.Logic.{◌⊎◌, inl, inr, ◌↔◌}
use Prim.Native.Nat.{ℕ, ◌<◌, ◌≤◌}
use native.Mathlib.Omega.{arith}
use lib.ListN.{length}
use Rattle.spec_limits.specs.Limits.{most_bytes}
use Rattle.spec_tilco.specs.Inference.{mark, Marks}
use Rattle.spec_tilco.specs.Lists.{All}
use Rattle.spec_tilco.specs.Table.{ReadMarks}
use Rattle.spec_tilco.proofs.Lists.{all_of_lem, all_at}
use Rattle.read_bytes.specs.Read.Read.{got}
use Rattle.read_reading.specs.Spans.{Span, span, marks_of_all}
use Rattle.read_reading.proofs.SpanMarks.{in_one, one_in, of_span, in_span}
use Rattle.read_readings.specs.Readings.{readings}
use Rattle.read_readings.proofs.Turns.{entries_short, readings_are}
use Rattle.read_readings.proofs.Cuts.{either_form}
use Rattle.write_readings.specs.EntryTexts.{entries_text}
use Rattle.write_readings.proofs.ReadableNames.{Readable}
use Rattle.write_readings.proofs.WholeTexts.{all_entries, OfForm, entries_back}
use Rattle.spec_dump.specs.DumpTexts.{Event}
use Rattle.spec_dump.specs.DumpSigns.{dump_sign, sign_readings, Earlier, ByTick}
use Rattle.spec_dump.proofs.SignReadings.{reading_single, reading_in, readings_in_order}
use Rattle.proof_dump.specs.DumpReadings.{ReadingsText, Said}

-- ---- the readings of signs

pub said_text : (names : List (List ℕ)) (es : List Event) (N W : ℕ) → ReadingsText names (Said es N W) (entries_text false names (sign_readings (dump_sign es) N 0 W))
said_text names es N W =
    let f = dump_sign es in
    record {
      list = sign_readings f N 0 W;
      text = refl;
      order = readings_in_order f N 0 W;
      single = λ e i. reading_single f N 0 W i;
      exactly = λ x t v. reading_in f N W x t v;
    }

-- The text of the same marks.
pub text_for : {names : List (List ℕ)} {P Q : Marks} {r : List ℕ} → ((x t : ℕ) (v : Bool) → P (mark x t v) ↔ Q (mark x t v)) → ReadingsText names P r → ReadingsText names Q r
text_for h z = record {
  list = z.list;
  text = z.text;
  order = z.order;
  single = z.single;
  exactly = λ x t v. (λ i. (h x t v).0 ((z.exactly x t v).0 i), λ p. (z.exactly x t v).1 ((h x t v).1 p));
}

-- ---- one reading

-- It is of one signal at one tick.
one_tick : (e : Span) → e.first ≡ e.last → e ≡ span e.signal e.value e.first e.first
one_tick e h = ap (span e.signal e.value e.first) (sym h)

module _ {names : List (List ℕ)} {P : Marks} {r : List ℕ} (z : ReadingsText names P r) where
  -- Each says one of the marks.
  says : (e : Span) → Memᴰ e z.list → P (mark e.signal e.first e.value)
  says e i = (z.exactly e.signal e.first e.value).0 (subst (λ d. Memᴰ d z.list) (one_tick e (z.single e i)) i)

  -- The readings' marks are just these.
  pub text_marks : (x t : ℕ) (v : Bool) → ReadMarks (marks_of_all z.list) (mark x t v) ↔ P (mark x t v)
  text_marks x t v = (of, λ p. one_in z.list ((z.exactly x t v).1 p) (in_span (span x v t t) (refl, refl, omega arith, omega arith)))
    where
      of : ReadMarks (marks_of_all z.list) (mark x t v) → P (mark x t v)
      of i =
          let o = in_one z.list i in
          let e = o.entry in
          let c = of_span e o.marked in
          let at : e.first ≡ t = omega (arith, c.2, c.3, z.single e o.among) in
          let m : mark e.signal e.first e.value ≡ mark x t v = cc (c.0, c.1) in
          subst P m (says e o.among)

  -- The readings are read back: add takes the text for their marks.
  pub text_reads : Readable names → (W : ℕ) → W ≤ 100000 → ((x t : ℕ) (v : Bool) → P (mark x t v) → (x < length names) × (t < W)) → length r ≤ most_bytes
      → readings names W r ≡ got (marks_of_all z.list) (length r)
  text_reads ok W few range short =
      let each : (e : Span) → Memᴰ e z.list → OfForm false (length names) W e = λ e i. let w = range e.signal e.first e.value (says e i) in let o = z.single e i in
      record { within = record { signal = w.0; order = omega arith; ticks = omega (arith, w.1) }; one_tick = λ f. o } in
      let b = entries_back false names ok W few z.list (all_of_lem (OfForm false (length names) W) z.list each) in
      let c = subst (λ u. all_entries false names W u ≡ got z.list (length u)) (sym z.text) b in
      readings_are names W r (entries_short names W r short ∙ either_form names W false r c)

-- ---- one text

-- No reading comes before itself, and of two only one comes before the other.
not_both_earlier : (a b : Span) → Earlier a b → Earlier b a → ⊥
not_both_earlier a b (inl p) (inl q) = omega arith
not_both_earlier a b (inl p) (inr q) = omega arith
not_both_earlier a b (inr p) (inl q) = omega arith
not_both_earlier a b (inr p) (inr q) = omega arith

abbrev In : List Span → List Span → Type 0
In es ds = (a : Span) → Memᴰ a es → Memᴰ a ds

-- Their first readings are the same,
same_first : (e d : Span) (es ds : List Span) → All (Earlier e) es → All (Earlier d) ds → In (e ∷ es) (d ∷ ds) → In (d ∷ ds) (e ∷ es) → e ≡ d
same_first e d es ds p q f g = go (Memᴰ.cases_cons (f e (Memᴰ.head refl))) (Memᴰ.cases_cons (g d (Memᴰ.head refl)))
  where
    go : (e ≡ d) ⊎ Memᴰ e ds → (d ≡ e) ⊎ Memᴰ d es → e ≡ d
    go (inl i) j = i
    go (inr i) (inl j) = sym j
    go (inr i) (inr j) = absurd (not_both_earlier e d (all_at (Earlier e) es p d j) (all_at (Earlier d) ds q e i))

-- and so are the others.
others_in : (e d : Span) (es ds : List Span) → e ≡ d → All (Earlier e) es → In (e ∷ es) (d ∷ ds) → In es ds
others_in e d es ds h p f a i = go (Memᴰ.cases_cons (f a (Memᴰ.tail i)))
  where
    go : (a ≡ d) ⊎ Memᴰ a ds → Memᴰ a ds
    go (inl j) = let k = subst (Earlier e) (j ∙ sym h) (all_at (Earlier e) es p a i) in absurd (not_both_earlier e e k k)
    go (inr j) = j

-- Readings in order are determined by which they are.
one_order : (es ds : List Span) → ByTick es → ByTick ds → In es ds → In ds es → es ≡ ds
unfolding ByTick
one_order [] [] p q f g = refl
one_order [] (d ∷ ds) p q f g = absurd (Memᴰ.not-nil (g d (Memᴰ.head refl)))
one_order (e ∷ es) [] p q f g = absurd (Memᴰ.not-nil (f e (Memᴰ.head refl)))
one_order (e ∷ es) (d ∷ ds) p q f g =
    let h = same_first e d es ds p.0 q.0 f g in
    let i = one_order es ds p.1 q.1 (others_in e d es ds h p.0 f) (others_in d e ds es (sym h) q.0 g) in
    cc

-- Two texts of one set of marks are one.
pub text_one : {names : List (List ℕ)} {P : Marks} {r u : List ℕ} → ReadingsText names P r → ReadingsText names P u → r ≡ u
text_one {names} {P} {r} {u} y z = y.text ∙ ap (entries_text false names) (one_order y.list z.list y.order z.order (among y z) (among z y)) ∙ sym z.text
  where
    among : {a b : List ℕ} (v : ReadingsText names P a) (w : ReadingsText names P b) → In v.list w.list
    among v w e i = subst (λ d. Memᴰ d w.list) (sym (one_tick e (v.single e i))) ((w.exactly e.signal e.first e.value).1 (says v e i))
