-- One caption line: each answer of the line, by the name that was looked up, and where the line ends.
-- Assumes nothing. T is the index of the names in the text s.
use mathlib.Core.Path.{◌≡◌, refl, sym, ap, ◌∙◌}
use mathlib.Core.Bool.{Bool, true, false}
use mathlib.Core.List.{List}
use Prim.Native.Nat.{ℕ, ◌+◌, ◌<◌, ◌≤◌}
use native.Mathlib.Omega.{arith}
use borrow.Author.Tests.{lt-ltb, le-ltb, ltb-true}
use lib.Dec.{ltb}
use lib.ListN.{length, get_or}
use Rattle.std.specs.Prelude.{Option, Some, None}
use Rattle.std.specs.Option.{is_some}
use Rattle.read_bytes.specs.Read.{Read}
use Rattle.read_bytes.specs.Read.Read.{got, refused}
use Rattle.read_bytes.specs.Bytes.{peek, pick, name_byte, run_end, every}
use Rattle.read_names.specs.Spellings.{spelling_at, spelling_end, find_name}
use Rattle.read_index.specs.declared.Found.{Found}
use Rattle.read_index.specs.Index.{name_count, names_in}
use Rattle.read_index.specs.Finds.{Finds}
use Rattle.read_bytes.proofs.Answers.{not_both, same_value, same_place, came}
use Rattle.read_bytes.proofs.Runs.{run_slice, end_at_lem, end_reach}
use Rattle.read_index.proofs.Places.{names_in_many}
use Rattle.read_index.proofs.NotNames.{not_found}
use Rattle.read_lines.proofs.ValueFirst.{lf_inside}
use Rattle.read_captions.specs.Captions.{before_equals, name_part, caption_place, caption_form, given_once, caption_line}
use Rattle.read_captions.proofs.CaptionForms.{equals_inside, FormSaid, form_said}

-- Where a line in its form ends, and its parts stand.
pub record Placed (c : List ℕ) (p v e : ℕ) : Type 0 where
  pub place : v ≡ caption_place c p
  pub after : p < v
  pub some : v < e
  pub inside : e < length c

pub line_placed : (c : List ℕ) (p : ℕ) {v e : ℕ} → caption_form c p ≡ got v e → Placed c p v e
unfolding run_end
line_placed c p a =
    let h = form_said c p a in
    record { place = h.value; after = omega (arith, h.value); some = omega (arith, h.value, h.has.some); inside = lf_inside c _ h.has.ended }

module _ (s T c : List ℕ) (at : List (Option ℕ)) (p : ℕ) (l : p ≤ length c) {v e : ℕ} (a : caption_form c p ≡ got v e) where
  abbrev indexed : List (List ℕ)
  indexed = names_in s T

  abbrev equals_at : ℕ
  equals_at = run_end before_equals c p

  said : FormSaid c p v e
  said = form_said c p a

  no_name_byte : name_byte (peek c equals_at) ≡ false
  unfolding name_byte
  no_name_byte = rw said.has.equals refl

  -- What stands before the `=` is no name if its spelling ends elsewhere.
  part_unknown : (spelling_end c p ≡ equals_at → ⊥) → find_name (name_part c p) indexed ≡ name_count T
  part_unknown n =
      let reach = end_reach before_equals c p l in
      not_found s T (name_part c p)
      (λ all. n (end_at_lem name_byte c p equals_at reach.ahead (equals_inside said.has) (ap (every name_byte) (run_slice before_equals c p equals_at refl) ∙ all) no_name_byte))

  whole_name_lem : spelling_end c p ≡ equals_at → name_part c p ≡ spelling_at c p
  whole_name_lem i = sym (run_slice before_equals c p equals_at refl) ∙ run_slice name_byte c p equals_at (sym i)

  -- The line with its name's number.
  by_number : (f : ℕ) → find_name (name_part c p) indexed ≡ f → {R : Read ℕ} → R ≡ given_once at (length indexed) p (e + 1) f → R ≡ caption_line indexed c at p
  unfolding caption_line
  by_number f i h = rw (a, i) h

  module _ {f : Found} (g : Finds indexed c p f) where
    -- The name is only a part of what stands there.
    pub line_open : (f.end + 1 ≡ v → ⊥) → refused 12 p ≡ caption_line indexed c at p
    unfolding given_once
    line_open n =
        let m = names_in_many s T in
        by_number (name_count T) (part_unknown (λ i. n (ap (λ (k : ℕ). k + 1) (g.ends ∙ i) ∙ sym said.value)))
        (rw (le-ltb (name_count T) (length indexed) (omega arith)))

    module _ (i : f.end + 1 ≡ v) where
      number : find_name (name_part c p) indexed ≡ f.signal
      number =
          let j : f.end ≡ equals_at = omega (arith, i, said.value) in
          ap (λ w. find_name w indexed) (whole_name_lem (sym g.ends ∙ j)) ∙ sym g.found

      -- It is nobody's,
      pub line_unknown : name_count T ≤ f.signal → refused 12 p ≡ caption_line indexed c at p
      unfolding given_once
      line_unknown k =
          let m = names_in_many s T in
          by_number f.signal number (rw (le-ltb f.signal (length indexed) (omega arith)))

      module _ (k : f.signal < name_count T) where
        known : ltb f.signal (length indexed) ≡ true
        known = let m = names_in_many s T in lt-ltb f.signal (length indexed) (omega arith)

        -- or one's that has a caption,
        pub line_again : is_some (get_or at f.signal None) ≡ true → refused 24 p ≡ caption_line indexed c at p
        unfolding given_once
        line_again n = by_number f.signal number (rw (known, n))

        -- or one's that has none.
        pub line_new : is_some (get_or at f.signal None) ≡ false → got f.signal (e + 1) ≡ caption_line indexed c at p
        unfolding given_once
        line_new z = by_number f.signal number (rw (known, z))

-- What a line that was taken says: its form, its signal, and that there was no caption for it.
pub record LineSaid (names : List (List ℕ)) (c : List ℕ) (at : List (Option ℕ)) (p x q : ℕ) : Type 0 where
  pub end : ℕ
  pub form : caption_form c p ≡ got (caption_place c p) end
  pub signal : find_name (name_part c p) names ≡ x
  pub declared : x < length names
  pub first : get_or at x None ≡ None
  pub next : q ≡ end + 1

pub line_said : (names : List (List ℕ)) (c : List ℕ) (at : List (Option ℕ)) (p : ℕ) {x q : ℕ} → caption_line names c at p ≡ got x q → LineSaid names c at p x q
unfolding caption_line given_once
line_said names c at p {x} {q} h =
    let d = came (caption_form c p) _ h in
    let f = find_name (name_part c p) names in
    let w = outer (ltb f (length names)) (get_or at f None) p d.then in
    let i : f ≡ x = w.2 in
    record {
      end = d.place;
      form = d.first ∙ ap (λ (v : ℕ). got v d.place) (form_said c p d.first).value;
      signal = i;
      declared = rw (← i) (ltb-true f (length names) w.0);
      first = rw (← i) w.1;
      next = sym w.3;
    }
  where
    outer : (b : Bool) (o : Option ℕ) (p : ℕ) {f r x q : ℕ} → pick b (λ _. pick (is_some o) (λ _. refused 24 p) (got f r)) (refused 12 p) ≡ got x q → (b ≡ true) × (o ≡ None) × (f ≡ x) × (r ≡ q)
    outer true None p e = (refl, refl, same_value e, same_place e)
    outer true (Some v) p e = absurd (not_both (sym e))
    outer false o p e = absurd (not_both (sym e))
