-- Whole texts of entries: what is written is read back, and a text that is read is the writing of its entries.
-- Assumes nothing. `spans` tells the text's form, `names` are the declared names, W the window, r a text.
use mathlib.Core.Path.{◌≡◌, refl, sym, ap, ◌∙◌}
use mathlib.Core.Bool.{Bool, true, false}
use mathlib.Core.List.{List, [], ◌∷◌, ◌++◌, append_assoc, append-nil, flatten}
use Prim.Native.Nat.{ℕ, zero, suc, ◌+◌, ◌-◌, ◌≤◌}
use native.Mathlib.Omega.{arith}
use borrow.Author.Tests.{ltb-false}
use lib.Dec.{ltb}
use lib.ListN.{length, length-append}
use Rattle.spec_tilco.specs.Lists.{All}
use Rattle.read_bytes.specs.Read.{Read}
use Rattle.read_bytes.specs.Read.Read.{got}
use Rattle.read_bytes.specs.Bytes.{bytes, peek, starts}
use Rattle.read_bytes.proofs.Answers.{same_value, same_place, came}
use Rattle.read_lines.specs.Lines.{up_to}
use Rattle.read_lines.proofs.Loops.{up_end, up_on}
use Rattle.read_reading.specs.Spans.{Span}
use Rattle.read_reading.specs.OneEntry.{entry}
use Rattle.read_reading.proofs.Lines.{Within}
use Rattle.write_bytes.proofs.Standing.{Standing, stands_first, stands_rest, stands_self, stands_whole}
use Rattle.write_lines.specs.LineTexts.{line_text}
use Rattle.write_readings.specs.EntryTexts.{entry_text, entries_text}
use Rattle.write_readings.proofs.Lengths.{reading_length, span_length}
use Rattle.write_readings.proofs.ReadableNames.{Readable}
use Rattle.write_readings.proofs.ReadBack.{entry_reads}
use Rattle.write_readings.proofs.OneText.{FromTo, both_from, entry_stands}

-- The entries of a text, up to its end.
abbrev pub all_entries : Bool → List (List ℕ) → ℕ → List ℕ → Read (List Span)
all_entries spans names W r = up_to (entry spans names W r) (length r) (length r) [] 0

-- An entry that is one of the form's: within bounds, and a reading has one tick.
pub record OfForm (spans : Bool) (k W : ℕ) (e : Span) : Type 0 where
  pub within : Within k W e
  pub one_tick : spans ≡ false → e.first ≡ e.last

-- The text of one entry, and those of the others.
pub entries_more : (spans : Bool) (names : List (List ℕ)) (e : Span) (es : List Span) → entries_text spans names (e ∷ es) ≡ entry_text spans names e ++ entries_text spans names es
unfolding entries_text flatten
entries_more spans names e es = refl

-- One entry alone, and entries one after the other.
pub one_entry : (spans : Bool) (names : List (List ℕ)) (e : Span) → entries_text spans names (e ∷ []) ≡ entry_text spans names e
unfolding entries_text flatten
one_entry spans names e = append-nil (entry_text spans names e)

pub entries_append : (spans : Bool) (names : List (List ℕ)) (es ds : List Span) → entries_text spans names (es ++ ds) ≡ entries_text spans names es ++ entries_text spans names ds
unfolding entries_text flatten
entries_append spans names [] ds = refl
entries_append spans names (e ∷ es) ds =
    ap (λ (t : List ℕ). entry_text spans names e ++ t) (entries_append spans names es ds) ∙ sym (append_assoc (entry_text spans names e) (entries_text spans names es) (entries_text spans names ds))

-- An entry takes up places.
entry_some : (spans : Bool) (names : List (List ℕ)) (e : Span) → 1 ≤ length (entry_text spans names e)
entry_some true names e = omega (arith, span_length names e)
entry_some false names e = omega (arith, reading_length names e)

-- There are no more entries than bytes.
entries_few : (spans : Bool) (names : List (List ℕ)) (es : List Span) → length es ≤ length (entries_text spans names es)
entries_few spans names [] = omega arith
entries_few spans names (e ∷ es) =
    omega (arith, ap length (entries_more spans names e es), length-append (entry_text spans names e) (entries_text spans names es), entry_some spans names e, entries_few spans names es)

-- The first key tells the form.
pub form_told : (spans : Bool) (names : List (List ℕ)) (e : Span) (es : List Span) → starts (entries_text spans names (e ∷ es)) 0 (bytes "from=") ≡ spans
unfolding entries_text flatten entry_text line_text starts peek
form_told true names e es = refl
form_told false names e es = refl

-- ---- what is written is read back

module _ (spans : Bool) (names : List (List ℕ)) (readable : Readable names) (W : ℕ) (few : W ≤ 100000) where
  -- Entries that stand from p to the text's end are read after those before.
  entries_read : (r : List ℕ) (es : List Span) (n : ℕ) (t : List Span) (p : ℕ) → All (OfForm spans (length names) W) es → length es ≤ n → Standing r p (entries_text spans names es)
      → length r ≡ p + length (entries_text spans names es) → up_to (entry spans names W r) (length r) n t p ≡ got (t ++ es) (length r)
  unfolding entries_text flatten
  entries_read r [] n t p w h st e =
      let i : p ≡ length r = omega arith in
      up_end (entry spans names W r) (length r) n t p (omega arith) ∙ rw (append-nil, i)
  entries_read r (a ∷ es) n t p w h st e =
      let one = entry_text spans names a in
      let rest = entries_text spans names es in
      let long = length-append one rest in
      let reads = entry_reads names readable W few a w.0.within spans p w.0.one_tick (stands_first one rest st) in
      up_on (entry spans names W r) (length r) n t p (omega arith) (omega (arith, entry_some spans names a)) reads
      ∙ entries_read r es (n - 1) (t ++ (a ∷ [])) (p + length one) w.1 (omega arith) (stands_rest one rest st) (omega arith)
      ∙ ap (λ (u : List Span). got u (length r)) (append_assoc t (a ∷ []) es)

  -- A text of entries is read as them.
  pub entries_back : (es : List Span) → All (OfForm spans (length names) W) es → all_entries spans names W (entries_text spans names es) ≡ got es (length (entries_text spans names es))
  entries_back es w =
      let r = entries_text spans names es in
      entries_read r es (length r) [] 0 w (entries_few spans names es) (rw append-nil at (stands_self r [])) (omega arith)

-- ---- a text is determined by its entries

-- What was read from p to q, after the entries t: the entries, and their writing.
record Rest (spans : Bool) (names : List (List ℕ)) (r : List ℕ) (t : List Span) (p : ℕ) (u : List Span) (q : ℕ) : Type 0 where
  pub entries : List Span
  pub all : u ≡ t ++ entries
  pub text : FromTo r p (entries_text spans names entries) q
  pub ends : q ≡ length r

module _ (spans : Bool) (names : List (List ℕ)) (W : ℕ) (r : List ℕ) where
  no_more : (t : List Span) (p : ℕ) {u : List Span} {q : ℕ} → got t p ≡ got u q → p ≡ length r → Rest spans names r t p u q
  unfolding entries_text flatten starts
  no_more t p {u} {q} e i =
      let j : p ≡ q = same_place e in
      record {
        entries = [];
        all = sym (same_value e) ∙ sym (append-nil t);
        text = record { stands = record { bytes = refl; inside = omega arith }; ends = omega arith };
        ends = omega arith;
      }

  -- With a bound that lets all be read.
  entries_text_lem : (n : ℕ) (t : List Span) (p : ℕ) {u : List Span} {q : ℕ} → length r ≤ p + n → p ≤ length r → up_to (entry spans names W r) (length r) n t p ≡ got u q → Rest spans names r t p u q
  unfolding up_to entries_text flatten
  entries_text_lem zero t p h l e = no_more t p e (omega arith)
  entries_text_lem (suc n) t p {u} {q} h l e = go (ltb p (length r)) refl (λ a i. entries_text_lem n (t ++ (a ∷ [])) i)
    where
      go : (b : Bool) → ltb p (length r) ≡ b → ((a : Span) (i : ℕ) → length r ≤ i + n → i ≤ length r → up_to (entry spans names W r) (length r) n (t ++ (a ∷ [])) i ≡ got u q → Rest spans names r (t ++ (a ∷ [])) i u q) → Rest spans names r t p u q
      go false f k = no_more t p (rw f at e) (omega (arith, ltb-false p (length r) f))
      go true f k =
          let d = came (entry spans names W r p) (λ a i. up_to (entry spans names W r) (length r) n (t ++ (a ∷ [])) i) (rw f at e) in
          let w = entry_stands names W spans d.first in
          let some = entry_some spans names d.value in
          let i = w.ends in
          let x = k d.value d.place (omega arith) (omega (arith, w.stands.inside)) d.then in
          record {
            entries = d.value ∷ x.entries;
            all = x.all ∙ append_assoc t (d.value ∷ []) x.entries;
            text = both_from (entry_text spans names d.value) (entries_text spans names x.entries) w x.text;
            ends = x.ends;
          }

  -- A text that is read is the writing of its entries.
  pub text_of : {es : List Span} {q : ℕ} → all_entries spans names W r ≡ got es q → r ≡ entries_text spans names es
  text_of {es} e =
      let x = entries_text_lem (length r) [] 0 (omega arith) (omega arith) e in
      let i = x.text.ends in
      let j = x.ends in
      stands_whole r (entries_text spans names x.entries) x.text.stands (omega arith) ∙ ap (entries_text spans names) (sym x.all)

-- So two texts of one form with the same entries are the same.
pub same_text_of : (spans : Bool) (names : List (List ℕ)) (W : ℕ) (r s : List ℕ) {es : List Span} {q u : ℕ} → all_entries spans names W r ≡ got es q → all_entries spans names W s ≡ got es u → r ≡ s
same_text_of spans names W r s e f = text_of spans names W r e ∙ sym (text_of spans names W s f)
